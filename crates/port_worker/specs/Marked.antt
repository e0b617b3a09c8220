-- How the marks of a network follow the steps of its nodes, by what each step did to the PDUs on
-- its port's link.
use Rattle.std.specs.Prelude.{◌<◌, ◌≤◌, ◌^◌, ℕ, List, [], ◌∷◌}
use Rattle.srp_base.specs.declared.{numbers.NodeNo.NodeNo, numbers.EgressPort.EgressPort, mrp.App.App}
use Rattle.tree_topology.specs.{Topology.HasPort, Ports.peer_of}
use Rattle.node_core.specs.declared.types.NodeStep.{NodeStep}
use Rattle.bridge_book.specs.declared.notice.Notice.{Notice}
use Rattle.bridge_book.specs.declared.notice.Notice.TheVariants.{Quiet, Took, Said}
use Rattle.world_core.specs.Marks.{MarksState, mark_at, with_both, both_took, both_sent}

-- the marks after a step of a port that did this
abbrev pub mark_by : EgressPort → Notice → MarksState → MarksState
mark_by p Quiet m = m
mark_by p (Took app leave_all) m = with_both app p (both_took leave_all) m
mark_by p (Said app leave_all) m = with_both app p (both_sent leave_all) m

-- the marks can follow such a step: the port is the tree's, a PDU that is taken was on its way, and
-- few are where one is said
abbrev pub CanMark : EgressPort → Notice → MarksState → Type 0
CanMark p Quiet m = HasPort m.tree p
CanMark p (Took app leave_all) m = HasPort m.tree p × (1 ≤ (mark_at app (peer_of m.tree.links p) m).flying)
CanMark p (Said app leave_all) m = HasPort m.tree p × ((mark_at app p m).flying < 2 ^ 100)

-- the marks after steps of a node's ports that did this, one after the other
abbrev pub marks_by : NodeNo → List NodeStep → List Notice → MarksState → MarksState
marks_by n [] notices m = m
marks_by n (st ∷ made) [] m = m
marks_by n (st ∷ made) (notice ∷ notices) m = marks_by n made notices (mark_by (record { node = n; port = st.port }) notice m)

-- they can follow each of these steps in its turn
abbrev pub CanMarkAll : NodeNo → List NodeStep → List Notice → MarksState → Type 0
CanMarkAll n [] [] m = Unit {0}
CanMarkAll n [] (notice ∷ notices) m = ⊥
CanMarkAll n (st ∷ made) [] m = ⊥
CanMarkAll n (st ∷ made) (notice ∷ notices) m =
    CanMark (record { node = n; port = st.port }) notice m
    × CanMarkAll n made notices (mark_by (record { node = n; port = st.port }) notice m)

-- fewer PDUs than so many are on their way from each port of the tree, in each application
abbrev pub AreFew : ℕ → MarksState → Type 0
AreFew b m = (app : App) (p : EgressPort) → HasPort m.tree p → (mark_at app p m).flying < b
