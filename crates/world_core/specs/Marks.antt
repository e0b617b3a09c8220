-- The marks of a network: of each end of each link, in each application, whether a neighbour's
-- LeaveAll has cleared its way, whether it is assured by one, and how many PDUs are on their way
-- from it (IEEE Std 802.1Q-2018, 10.7: LeaveAll). An end whose way was clear when it took a
-- LeaveAll is sound, as after a LeaveAll of its own. The marks are this project's.
use Rattle.std.specs.Prelude.{◌≡◌, ℕ, ◌+◌, ◌-◌, ◌==◌, Bool, true, false, ◌||◌, ◌&&◌, if◌then◌else◌, List, [], ◌∷◌, length, replicate, Option, Some, slice_get, slice_set}
use Rattle.std.specs.Option.{option_map_or, option_and_then}
use Rattle.srp_base.specs.declared.{numbers.EgressPort.EgressPort, mrp.App.App, mrp.App.TheVariants.Mvrp, mrp.App.TheVariants.Msrp}
use Rattle.tree_topology.specs.declared.{graph.Link.Link, graph.NodeKind.NodeKind}
use Rattle.tree_topology.specs.{Topology.Topology, Topology.HasPort, Ports.peer_of, Ports.neighbours}
use Rattle.attribute_propagation.specs.Ports.{place_of}
use Rattle.node_core.specs.declared.types.Wire.{Wire}
use Rattle.world_core.specs.declared.{marks.EndMark.EndMark, marks.EndMarks.EndMarks}

-- the tree, and for each of its nodes the marks of its ports, in the order of their numbers
pub record MarksState : Type 0 where
  pub tree : Topology
  pub ends : List (List EndMarks)

-- the marks of an application at an end
abbrev pub of_app : App → EndMarks → EndMark
of_app Mvrp e = e.vlans
of_app Msrp e = e.streams

-- an end with other marks of an application
abbrev pub with_app : App → EndMark → EndMarks → EndMarks
with_app Mvrp mark e = record e { vlans = mark }
with_app Msrp mark e = record e { streams = mark }

-- no mark is set, and nothing is on the way
abbrev pub no_mark : EndMark
no_mark = record { clear = false; assured = false; flying = 0 }

abbrev pub no_marks : EndMarks
no_marks = record { vlans = no_mark; streams = no_mark }

-- the ports of the nodes from number x on, without marks
abbrev pub rows_from : List Link → ℕ → List NodeKind → List (List EndMarks)
rows_from links x [] = []
rows_from links x (kind ∷ kinds) = replicate (length (neighbours links x)) no_marks ∷ rows_from links (x + 1) kinds

-- the marks of a new network over a tree
abbrev pub new_marks : Topology → MarksState
new_marks tree = record { tree = tree; ends = rows_from tree.links 1 tree.kinds }

-- the marks of a port in both applications, where there is one
abbrev pub end_in : EgressPort → List (List EndMarks) → Option EndMarks
end_in p ends = option_and_then (λ row. slice_get row (place_of p.port)) (slice_get ends (p.node.0 - 1))

-- those of an application
abbrev pub mark_in : App → EgressPort → List (List EndMarks) → EndMark
mark_in app p ends = option_map_or (of_app app) (end_in p ends) no_mark

abbrev pub mark_at : App → EgressPort → MarksState → EndMark
mark_at app p m = mark_in app p m.ends

-- a row of ports with other marks at a place
abbrev pub row_with : App → ℕ → EndMark → List EndMarks → List EndMarks
row_with app at mark row = option_map_or (λ e. slice_set row at (with_app app mark e)) (slice_get row at) row

-- all ports with other marks at one
abbrev pub ends_with : App → EgressPort → EndMark → List (List EndMarks) → List (List EndMarks)
ends_with app p mark ends =
    option_map_or (λ row. slice_set ends (p.node.0 - 1) (row_with app (place_of p.port) mark row)) (slice_get ends (p.node.0 - 1)) ends

abbrev pub with_mark : App → EgressPort → EndMark → MarksState → MarksState
with_mark app p mark m = record m { ends = ends_with app p mark m.ends }

-- each port of the tree has its marks
pub record IsOfTree (m : MarksState) : Type 0 where
  pub there : (p : EgressPort) → HasPort m.tree p → (e : EndMarks) × (end_in p m.ends ≡ Some e)

-- ---- what becomes of one end's marks

-- it has sent a PDU: its way isn't clear any more
abbrev pub after_saying : EndMark → EndMark
after_saying e = record { clear = false; assured = e.assured; flying = e.flying + 1 }

-- its neighbour has sent a PDU, which may have LeaveAll: with nothing on the way from this end, its
-- way is clear
abbrev pub after_hearing_of : (leave_all : Bool) → EndMark → EndMark
after_hearing_of leave_all e = record e { clear = e.clear || (leave_all && e.flying == 0) }

-- it has taken a PDU, which may have LeaveAll: with its way clear, it is assured
abbrev pub after_taking : (leave_all : Bool) → EndMark → EndMark
after_taking leave_all e = record e { assured = e.assured || (leave_all && e.clear) }

-- one PDU fewer is on its way from it, or one more
abbrev pub with_fewer : EndMark → EndMark
with_fewer e = record e { flying = e.flying - 1 }

abbrev pub with_more : EndMark → EndMark
with_more e = record e { flying = e.flying + 1 }

-- it has no mark any more
abbrev pub without_mark : EndMark → EndMark
without_mark e = record { clear = false; assured = false; flying = e.flying }

-- ---- what becomes of both ends' marks: those of a port, and those of its peer

abbrev pub BothMarks : Type 0
BothMarks = EndMark × EndMark

-- the near one has sent a PDU
abbrev pub both_sent : (leave_all : Bool) → BothMarks → BothMarks
both_sent leave_all marks = (after_saying marks.0, after_hearing_of leave_all marks.1)

-- the near one has taken one
abbrev pub both_took : (leave_all : Bool) → BothMarks → BothMarks
both_took leave_all marks = (after_taking leave_all marks.0, with_fewer marks.1)

-- one to the near one is lost
abbrev pub both_lost : BothMarks → BothMarks
both_lost marks = (without_mark marks.0, without_mark (with_fewer marks.1))

-- one to the near one is there twice
abbrev pub both_copied : BothMarks → BothMarks
both_copied marks = (marks.0, with_more marks.1)

-- one to the near one is forged
abbrev pub both_forged : BothMarks → BothMarks
both_forged marks = (without_mark marks.0, without_mark (with_more marks.1))

-- the marks of a port and of its peer in an application
abbrev pub both_at : App → EgressPort → MarksState → BothMarks
both_at app p m = (mark_at app p m, mark_at app (peer_of m.tree.links p) m)

-- other marks of both
abbrev pub with_two : App → EgressPort → BothMarks → MarksState → MarksState
with_two app p new m = with_mark app (peer_of m.tree.links p) new.1 (with_mark app p new.0 m)

-- both become others
abbrev pub with_both : App → EgressPort → (BothMarks → BothMarks) → MarksState → MarksState
with_both app p change m = with_two app p (change (both_at app p m)) m

-- ---- PDUs

-- whether two applications are the same
abbrev pub is_same_app : App → App → Bool
is_same_app Mvrp Mvrp = true
is_same_app Mvrp Msrp = false
is_same_app Msrp Mvrp = false
is_same_app Msrp Msrp = true

-- how many of these PDUs are of an application
abbrev pub count_of : App → List Wire → ℕ
count_of app [] = 0
count_of app (wire ∷ wires) = (if is_same_app app wire.app then 1 else 0) + count_of app wires
