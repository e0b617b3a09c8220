-- The copies of a stream's frames at the ports of the way from its Talker to a station.
use Rattle.std.specs.Prelude.{ℕ, ◌≤◌, Bool, true, false, List, All}
use Rattle.std.specs.List.{Contains}
use Rattle.srp_base.specs.declared.{numbers.StreamId.StreamId, ports.PortChange.PortChange}
use Rattle.frame_flow.specs.declared.{frame.FrameCopy.FrameCopy, place.Place.Place, result.Fate.Fate}
use Rattle.frame_flow.specs.declared.result.Fate.TheVariants.{Unbooked, NoVlan, Departed, Left}
use Rattle.frame_flow.specs.{Copies.all_places, Force.changes_at, Moments.tick_at}
use Rattle.topology_file.specs.Plan.{Plan}
use Rattle.scenario_frames.specs.Setting.{plan_rates}
use Rattle.world_core.specs.World.{WorldState}
use Rattle.wishes.specs.Wishes.{way_to}

-- whether a copy is never sent, as what was in force where it arrived bars it: its stream wasn't
-- booked, or its VID wasn't registered
abbrev pub is_lost : Fate → Bool
is_lost Unbooked = true
is_lost NoVlan = true
is_lost (Departed start end) = false
is_lost Left = false

-- a port of the tree with its link's rate, on the way of a stream to a node in a network
pub record IsPlaceOnWay (plan : Plan) (w : WorldState) (stream : StreamId) (l : ℕ) (place : Place) : Type 0 where
  pub listed : Contains (all_places plan.tree.links (plan_rates plan)) place
  pub on_way : Contains (way_to w stream l) place.at

-- no change of what is booked and registered at a port comes after the tick in which a copy arrives
abbrev pub IsAfterChanges : List PortChange → Place → FrameCopy → Type 0
IsAfterChanges changes place c =
    All (λ change. change.tick ≤ tick_at place.rate c.bit) (changes_at changes place.at)
