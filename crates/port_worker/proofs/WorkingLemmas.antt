-- The nodes whose steps are promised or made, and those that have made them: one node more.
use Rattle.std.proofs.Common.{◌≡◌, List, [], ◌∷◌, ◌++◌, refl, sym, ap, subst}
use Rattle.port_worker.specs.{Task, IsWorked, AreWorked, IsWorking, AreWorking}
use Rattle.port_worker.specs.declared.{node.Worked.Worked, node_threads.Working.Working}

pub working_more : (tasks : List Task) (all next : List Working) (task : Task) (one : Working) → AreWorking tasks all → IsWorking task one → next ≡ all ++ one ∷ []
    → AreWorking (tasks ++ task ∷ []) next
working_more tasks all next task one so_far is push = subst (AreWorking (tasks ++ task ∷ [])) (sym push) (more tasks all so_far)
  where
    more : (ts : List Task) (ws : List Working) → AreWorking ts ws → AreWorking (ts ++ task ∷ []) (ws ++ one ∷ [])
    more [] [] h = (is, tt)
    more [] (w ∷ ws) h = absurd h
    more (t ∷ ts) [] h = absurd h
    more (t ∷ ts) (w ∷ ws) h = (h.0, more ts ws h.1)

worked_more : (tasks : List Task) (all : List Worked) (task : Task) (worked : Worked) → AreWorked tasks all → IsWorked task worked → AreWorked (tasks ++ task ∷ []) (all ++ worked ∷ [])
worked_more [] [] task worked h is = (is, tt)
worked_more [] (w ∷ ws) task worked h is = absurd h
worked_more (t ∷ ts) [] task worked h is = absurd h
worked_more (t ∷ ts) (w ∷ ws) task worked h is = (h.0, worked_more ts ws task worked h.1 is)

-- the last of the nodes
record HasLast (tasks : List Task) (working : List Working) (one : Working) : Type 0 where
  before : List Task
  last : Task
  are : tasks ≡ before ++ last ∷ []
  working_before : AreWorking before working
  working_last : IsWorking last one

last_of : (tasks : List Task) (working : List Working) (one : Working) → AreWorking tasks (working ++ one ∷ []) → HasLast tasks working one
last_of [] [] one h = absurd h
last_of [] (w ∷ ws) one h = absurd h
last_of (t ∷ []) [] one h = record { before = []; last = t; are = refl; working_before = tt; working_last = h.0 }
last_of (t ∷ u ∷ ts) [] one h = absurd h.1
last_of (t ∷ ts) (w ∷ ws) one h =
    let l = last_of ts ws one h.1 in
    record {
      before = t ∷ l.before;
      last = l.last;
      are = ap (λ (us : List Task). t ∷ us) l.are;
      working_before = (h.0, l.working_before);
      working_last = l.working_last;
    }

pub none_worked : (tasks : List Task) (all : List Worked) → all ≡ [] → AreWorking tasks [] → AreWorked tasks all
none_worked [] all none h = subst (AreWorked []) (sym none) tt
none_worked (t ∷ ts) all none h = absurd h

pub worked_next : (working : List Working) (all next : List Worked) (one : Working) (worked : Worked) → ((tasks : List Task) → AreWorking tasks working → AreWorked tasks all)
    → ((task : Task) → IsWorking task one → IsWorked task worked) → next ≡ all ++ worked ∷ [] → (tasks : List Task) → AreWorking tasks (working ++ one ∷ []) → AreWorked tasks next
worked_next working all next one worked so_far here push tasks are =
    let l = last_of tasks working one are in
    subst (λ (ts : List Task). AreWorked ts next) (sym l.are)
    (subst (AreWorked (l.before ++ l.last ∷ [])) (sym push) (worked_more l.before all l.last worked (so_far l.before l.working_before) (here l.last l.working_last)))
