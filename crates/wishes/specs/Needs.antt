-- What the wishes of a network ask of its ports, and which of them are granted.
use Rattle.std.specs.Prelude.{◌≡◌, ◌≢◌, ◌+◌, ◌&&◌, true, false, nat_lt, if◌then◌else◌, List, [], ◌∷◌, flat_map, Some, Contains, slice_get}
use Rattle.std.specs.List.{AllByRecursion}
use Rattle.srp_base.specs.declared.numbers.EgressPort.{EgressPort}
use Rattle.topology_file.specs.declared.entries.StreamEntry.{StreamEntry}
use Rattle.topology_file.specs.Plan.{Plan}
use Rattle.world_core.specs.World.{WorldState}
use Rattle.network_laws.specs.Streams.{is_talked_at}
use Rattle.port_needs.specs.declared.demand.Wish.{Wish as Need}
use Rattle.port_needs.specs.{Demands.demands, Demands.leads_to, Needs.never_lines, Needs.port_needs}
use Rattle.wishes.specs.declared.wish.Wish.{Wish}
use Rattle.wishes.specs.Wishes.{grants, way_to, wishes_in}

-- what a wish needs, where its stream is talked; streams have numbers from 1
abbrev pub need_of : Wish → List Need
need_of wish =
    if wish.talked && nat_lt wish.stream 65535 then record { stream = wish.stream + 1; station = wish.station } ∷ []
    else []

-- what some wishes need
abbrev pub needs_of : List Wish → List Need
needs_of wishes = flat_map need_of wishes

-- what the wishes in a network need
abbrev pub needs_in : Plan → WorldState → List Need
needs_in plan w = needs_of (wishes_in plan w)

-- ---- granted wishes

-- a wish is for a stream that some station talks, and not the one that wishes it
pub record IsTalkedByOther (plan : Plan) (w : WorldState) (wish : Wish) : Type 0 where
  pub entry : StreamEntry
  pub entry_is : slice_get plan.streams wish.stream ≡ Some entry
  pub talked : wish.talked ≡ true
  pub is_other : is_talked_at w entry.id wish.station.0 ≡ false

-- all such wishes in a network are granted
abbrev pub AreGranted : Plan → WorldState → Type 0
AreGranted plan w =
    AllByRecursion
    (λ wish. IsTalkedByOther plan w wish → grants wish.answer ≡ true) (wishes_in plan w)

-- a wish is for a stream that some station talks, and a port leads from the talker of the stream's
-- entry to the station that wishes it
pub record IsWishBehind (plan : Plan) (p : EgressPort) (wish : Wish) : Type 0 where
  pub entry : StreamEntry
  pub entry_is : slice_get plan.streams wish.stream ≡ Some entry
  pub talked : wish.talked ≡ true
  pub leads : leads_to plan.tree p entry.talker.0 wish.station.0 ≡ true

-- all such wishes in a network are granted
abbrev pub AreGrantedBehind : Plan → WorldState → EgressPort → Type 0
AreGrantedBehind plan w p =
    AllByRecursion
    (λ wish. IsWishBehind plan p wish → grants wish.answer ≡ true) (wishes_in plan w)

-- ---- wishes that aren't granted

-- a port has a line of what it needs for the wishes in a network
abbrev pub HasNeed : Plan → WorldState → EgressPort → Type 0
HasNeed plan w p = port_needs plan (demands plan (needs_in plan w)) p ≢ []

-- a wish in a network that a port leads to isn't granted, and the port stands on the way to it from
-- the station that talks
pub record HasMissedBehind (plan : Plan) (w : WorldState) (p : EgressPort) : Type 0 where
  pub wish : Wish
  pub listed : Contains (wishes_in plan w) wish
  pub behind : IsWishBehind plan p wish
  pub on_way : Contains (way_to w behind.entry.id wish.station.0) p
  pub missed : grants wish.answer ≡ false

-- a wish stands under `never`: there are lines of it alone
abbrev pub IsUnderNever : Plan → Wish → Type 0
IsUnderNever plan wish = never_lines plan (need_of wish) ≢ []
