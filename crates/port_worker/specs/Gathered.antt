-- The steps of all nodes of a network in a tick.
use Rattle.std.specs.Prelude.{◌≡◌, ℕ, ◌+◌, List, [], ◌∷◌, map}
use Rattle.node_core.specs.Holding.{NodeHolding}
use Rattle.world_core.specs.declared.journal.NodeSteps.{NodeSteps}
use Rattle.world_core.specs.{OneByOne.steps_before, Marks.MarksState}
use Rattle.port_worker.specs.declared.{node.Task.Task, node.Worked.Worked}
use Rattle.port_worker.specs.{Worked.IsWorked, Marked.marks_by, Marked.CanMarkAll}

-- the nodes behind node x have these numbers
abbrev pub AreNumbered : ℕ → List Task → Type 0
AreNumbered x [] = Unit {0}
AreNumbered x (task ∷ tasks) = (task.number.0 ≡ x + 1) × AreNumbered (x + 1) tasks

-- these nodes have become those, each by its own steps
abbrev pub AreWorked : List Task → List Worked → Type 0
AreWorked [] [] = Unit {0}
AreWorked [] (worked ∷ later) = ⊥
AreWorked (task ∷ tasks) [] = ⊥
AreWorked (task ∷ tasks) (worked ∷ later) = IsWorked task worked × AreWorked tasks later

-- the steps of these nodes, of those that made some
abbrev pub steps_made : List Worked → List NodeSteps
steps_made [] = []
steps_made (worked ∷ later) = steps_before worked.number worked.steps (steps_made later)

-- the marks after them
abbrev pub marks_made : List Worked → MarksState → MarksState
marks_made [] m = m
marks_made (worked ∷ later) m = marks_made later (marks_by worked.number worked.steps worked.notices m)

-- they can follow them all
abbrev pub CanFollow : List Worked → MarksState → Type 0
CanFollow [] m = Unit {0}
CanFollow (worked ∷ later) m =
    CanMarkAll worked.number worked.steps worked.notices m
    × CanFollow later (marks_by worked.number worked.steps worked.notices m)

-- the nodes of these
abbrev pub nodes_of : List Worked → List NodeHolding
nodes_of all = map (λ worked. worked.node) all
