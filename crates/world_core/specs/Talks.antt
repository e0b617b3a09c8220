-- That stations talk only what the plan has them talk.
use Rattle.std.specs.Prelude.{◌≡◌, ℕ, ◌+◌, true, slice_get, Some}
use Rattle.std.specs.List.{AllByRecursion}
use Rattle.srp_base.specs.declared.{numbers.StreamId.StreamId, streams.Talker.Talker}
use Rattle.topology_file.specs.declared.entries.StreamEntry.{StreamEntry}
use Rattle.topology_file.specs.Plan.{Plan}
use Rattle.msrp.specs.Side.{has_talk}
use Rattle.node_core.specs.State.{NodeState}
use Rattle.world_core.specs.{World.WorldState, Ticks.talker_of_entry}

-- a Talker is that of an entry, which names the node of this number as its station
pub record IsTalkOfPlan (plan : Plan) (x : ℕ) (talker : Talker) : Type 0 where
  pub place : ℕ
  pub entry : StreamEntry
  pub at : slice_get plan.streams place ≡ Some entry
  pub station : entry.talker.0 ≡ x
  pub states : talker ≡ talker_of_entry entry

-- each Talker of a node's application is that of an entry of the plan whose talker is the node
abbrev pub AreTalksOfPlan : Plan → WorldState → Type 0
AreTalksOfPlan plan w =
    (x : ℕ) (s : NodeState) → slice_get w.nodes x ≡ Some s
    → AllByRecursion (IsTalkOfPlan plan (x + 1)) s.streams.talks

-- no two nodes talk one stream
abbrev pub HasOneTalker : WorldState → Type 0
HasOneTalker w =
    (x y : ℕ) (s t : NodeState) (stream : StreamId)
    → slice_get w.nodes x ≡ Some s → slice_get w.nodes y ≡ Some t
    → has_talk stream s.streams ≡ true → has_talk stream t.streams ≡ true → x ≡ y
