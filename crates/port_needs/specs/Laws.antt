-- What is true of what is needed: when a port is large enough, when a wish may be served, by which
-- ports a stream leaves, and what a ledger of a port is asked to book.
use Rattle.std.specs.Prelude.{◌≡◌, ◌⊎◌, ◌≤◌, ℕ, ◌+◌, true, false, List, [], ◌∷◌, Some, None, slice_get, IfSome, IsSome}
use Rattle.std.specs.List.{AllByRecursion}
use Rattle.srp_base.specs.declared.{bandwidth.Class.Class, bandwidth.Rate.Rate, numbers.EgressPort.EgressPort, numbers.NodeNo.NodeNo}
use Rattle.stream_importance.specs.declared.{entry.Want.Want}
use Rattle.stream_importance.specs.Bandwidth.{caps_of}
use Rattle.port_ledger.specs.Book.{Book, since_of, want_of, IsKept}
use Rattle.tree_topology.specs.{Topology.Topology, Topology.link_ports, Walk.path_between}
use Rattle.topology_file.specs.declared.{entries.LinkEntry.LinkEntry, entries.StreamEntry.StreamEntry}
use Rattle.topology_file.specs.Plan.{Plan}
use Rattle.scenario_bounds.specs.Caps.{caps_of_link, link_at}
use Rattle.port_needs.specs.declared.{demand.Wish.Wish, shares.Shares.Shares}
use Rattle.port_needs.specs.{Demands.class_of_entry, Demands.code_of_entry, Demands.is_blocked, Demands.is_node, Demands.leads_to, Demands.stations_of, Demands.want_of_entry, Demands.wants_at, Shares.is_enough, Shares.slope_of_a, Shares.slope_of_all}

-- ---- shares

-- shares suffice at a rate, they aren't above 90 percent together, and no others that suffice have
-- less of class A, or less of both
pub record AreLeastShares (rate : Rate) (class_a both : ℕ) (shares : Shares) : Type 0 where
  pub enough : is_enough (caps_of rate shares.delta_a shares.delta_b) class_a both ≡ true
  pub within : shares.delta_a + shares.delta_b ≤ 90
  pub least : (x y : ℕ) → is_enough (caps_of rate x y) class_a both ≡ true
      → (shares.delta_a ≤ x) × (shares.delta_a + shares.delta_b ≤ x + y)

-- ---- ports

-- the caps of a port's link suffice for all that is wished there
abbrev pub IsLargeEnough : Plan → List Wish → EgressPort → Type 0
IsLargeEnough plan wishes p =
    IfSome (link_at plan p)
    (λ l. is_enough (caps_of_link l) (slope_of_a (wants_at plan wishes p)) (slope_of_all (wants_at plan wishes p)) ≡ true)

-- a port stands on the walk without a repeated node from one node to another
abbrev pub IsOnWay : Topology → ℕ → ℕ → EgressPort → Type 0
IsOnWay tree from to p = (i : ℕ) × (slice_get (path_between tree.links from to) i ≡ Some p)

-- ---- wishes

-- a stream may come to a station: no port refuses it whatever its link, and no boundary of its
-- class's domain stands on its way there
pub record IsServed (plan : Plan) (e : StreamEntry) (station : NodeNo) : Type 0 where
  pub code : code_of_entry e ≡ None
  pub way : (class : Class) → class_of_entry e ≡ Some class
      → is_blocked plan (link_ports plan.tree) class e.talker.0 station.0 ≡ false

-- each stream may come to each station that wishes it
abbrev pub AreServed : Plan → List Wish → Type 0
AreServed plan wishes =
    (i : ℕ) (e : StreamEntry) → slice_get plan.streams i ≡ Some e
    → AllByRecursion (IsServed plan e) (stations_of plan.tree wishes (i + 1))

-- ---- ledgers

-- a want is one of these
abbrev pub IsAmong : Want → List Want → Type 0
IsAmong want [] = ⊥
IsAmong want (w ∷ ws) = (w ≡ want) ⊎ IsAmong want ws

-- a ledger is one of a port of this link, and all that wants there is wished there
pub record IsLedgerOf (plan : Plan) (wishes : List Wish) (p : EgressPort) (link : LinkEntry) (book : Book) : Type 0 where
  pub link_is : link_at plan p ≡ Some link
  pub kept : IsKept book
  pub caps : book.caps ≡ caps_of_link link
  pub wished : (want : Want) → want_of book.entries want.stream ≡ Some want → IsAmong want (wants_at plan wishes p)

-- a ledger keeps a want, and has it booked
pub record IsBookedIn (book : Book) (want : Want) : Type 0 where
  pub kept : want_of book.entries want.stream ≡ Some want
  pub booked : IsSome (since_of book.entries want.stream)

-- a ledger is one of a port of this link, and all that is wished there is booked in it
pub record IsFullLedgerOf (plan : Plan) (wishes : List Wish) (p : EgressPort) (link : LinkEntry) (book : Book) : Type 0 where
  pub link_is : link_at plan p ≡ Some link
  pub kept : IsKept book
  pub caps : book.caps ≡ caps_of_link link
  pub booked : (want : Want) → IsAmong want (wants_at plan wishes p) → IsBookedIn book want

-- ---- what is wished at a port

-- a want is that of a stream of some class, and there is a wish for the stream: its station is a
-- node, no boundary of the class's domain keeps the stream from there, and the port is on its way
pub record IsWishedAt (plan : Plan) (wishes : List Wish) (p : EgressPort) (want : Want) : Type 0 where
  pub stream : ℕ
  pub entry : StreamEntry
  pub entry_is : slice_get plan.streams stream ≡ Some entry
  pub class : Class
  pub class_is : class_of_entry entry ≡ Some class
  pub want_is : want_of_entry entry class ≡ want
  pub place : ℕ
  pub wish : Wish
  pub wish_is : slice_get wishes place ≡ Some wish
  pub stream_is : wish.stream ≡ stream + 1
  pub station : is_node plan.tree wish.station.0 ≡ true
  pub passes : is_blocked plan (link_ports plan.tree) class entry.talker.0 wish.station.0 ≡ false
  pub leads : leads_to plan.tree p entry.talker.0 wish.station.0 ≡ true
