-- The steps of nodes in a tick, which threads make or which are made.
use Rattle.std.specs.Prelude.{◌≡◌, List, [], ◌∷◌, IfOk}
use Rattle.port_worker.specs.declared.{node.Task.Task, node_threads.Working.Working}
use Rattle.port_worker.specs.declared.node_threads.Working.TheVariants.{There, Here}
use Rattle.port_worker.specs.Worked.{IsWorked}

-- the steps of this node are promised or made, unless memory runs out
abbrev pub IsWorking : Task → Working → Type 0
IsWorking task (There thread) = thread.promise.task.value ≡ task
IsWorking task (Here worked) = IfOk worked (IsWorked task)

-- so it is with each of these
abbrev pub AreWorking : List Task → List Working → Type 0
AreWorking [] [] = Unit {0}
AreWorking [] (working ∷ later) = ⊥
AreWorking (task ∷ tasks) [] = ⊥
AreWorking (task ∷ tasks) (working ∷ later) = IsWorking task working × AreWorking tasks later
