-- The numbers of nodes, and what is gathered of nodes, one more at a time.
use Rattle.std.proofs.Common.{◌≡◌, ℕ, suc, ◌+◌, ◌<◌, ◌≤◌, List, [], ◌∷◌, ◌++◌, length, drop, get_or, refl, sym, ap, subst, ◌∙◌, arith}
use Rattle.std.specs.Prelude.{slice_get}
use Rattle.std.proofs.Math.Seq.{drop-cons}
use Rattle.std.proofs.lemmas.{Option.slice_get-get_or}
use Rattle.srp_base.proofs.{Lists.drop_none as drop_all, Options.one_some}
use Rattle.srp_base.specs.declared.{numbers.NodeNo.NodeNo}
use Rattle.node_core.specs.declared.types.NodeStep.{NodeStep}
use Rattle.bridge_book.specs.declared.notice.Notice.{Notice}
use Rattle.world_core.specs.declared.journal.NodeSteps.{NodeSteps}
use Rattle.world_core.specs.{Marks.MarksState, OneByOne.steps_before}
use Rattle.port_worker.specs.{Task, mark_by, CanMark, marks_by, CanMarkAll, AreNumbered, steps_made, marks_made}
use Rattle.port_worker.specs.declared.node.Worked.{Worked}

-- ---- numbers

pub numbered_more : (x : ℕ) (tasks : List Task) (task : Task) → AreNumbered x tasks → task.number.0 ≡ x + length tasks + 1 → AreNumbered x (tasks ++ task ∷ [])
numbered_more x [] task h number = (omega (arith, number), tt)
numbered_more x (t ∷ tasks) task h number = (h.0, numbered_more (x + 1) tasks task h.1 (omega (arith, number)))

-- ---- what is gathered

before_more : (n : NodeNo) (made : List NodeStep) (later more : List NodeSteps) → steps_before n made (later ++ more) ≡ steps_before n made later ++ more
before_more n [] later more = refl
before_more n (st ∷ made) later more = refl

pub steps_more : (all : List Worked) (worked : Worked) → steps_made (all ++ worked ∷ []) ≡ steps_made all ++ steps_before worked.number worked.steps []
steps_more [] worked = refl
steps_more (w ∷ all) worked =
    ap (λ (later : List NodeSteps). steps_before w.number w.steps later) (steps_more all worked)
    ∙ before_more w.number w.steps (steps_made all) (steps_before worked.number worked.steps [])

pub marks_more : (all : List Worked) (worked : Worked) (m : MarksState) → marks_made (all ++ worked ∷ []) m ≡ marks_by worked.number worked.steps worked.notices (marks_made all m)
marks_more [] worked m = refl
marks_more (w ∷ all) worked m = marks_more all worked (marks_by w.number w.steps w.notices m)

-- ---- the marks follow one step more

pub record HasFollowed (n : NodeNo) (steps : List NodeStep) (notices : List Notice) (i : ℕ) (st : NodeStep) (notice : Notice) (m : MarksState) : Type 0 where
  pub can : CanMark (record { node = n; port = st.port }) notice m
  pub next : CanMarkAll n (drop (i + 1) steps) (drop (i + 1) notices) (mark_by (record { node = n; port = st.port }) notice m)
  pub same : marks_by n (drop i steps) (drop i notices) m ≡ marks_by n (drop (i + 1) steps) (drop (i + 1) notices) (mark_by (record { node = n; port = st.port }) notice m)

cut_at : {X : Type 0} (xs : List X) (i : ℕ) (x : X) → i < length xs → x ≡ get_or xs i x → drop i xs ≡ x ∷ drop (i + 1) xs
cut_at xs i x lt here =
    let next : suc i ≡ i + 1 = omega arith in
    drop-cons xs i x lt ∙ (ap (λ y. y ∷ drop (suc i) xs) (sym here) ∙ ap (λ (k : ℕ). x ∷ drop k xs) next)

pub followed : (n : NodeNo) (steps : List NodeStep) (notices : List Notice) (i : ℕ) (st : NodeStep) (notice : Notice) (m : MarksState) → i < length steps → i < length notices
    → st ≡ get_or steps i st → notice ≡ get_or notices i notice → CanMarkAll n (drop i steps) (drop i notices) m → HasFollowed n steps notices i st notice m
followed n steps notices i st notice m lt few here there can =
    let cut = cut_at steps i st lt here in
    let cut' = cut_at notices i notice few there in
    let all = subst (λ (x : List NodeStep). CanMarkAll n x (notice ∷ drop (i + 1) notices) m) cut (subst (λ (x : List Notice). CanMarkAll n (drop i steps) x m) cut' can) in
    record {
      can = all.0;
      next = all.1;
      same = ap (λ (x : List NodeStep). marks_by n x (drop i notices) m) cut ∙ ap (λ (x : List Notice). marks_by n (st ∷ drop (i + 1) steps) x m) cut';
    }

get_same : {X : Type 0} (xs : List X) (i : ℕ) (d e : X) → i < length xs → get_or xs i d ≡ get_or xs i e
get_same xs i d e lt = one_some (slice_get xs i) (get_or xs i d) (get_or xs i e) (slice_get-get_or xs i d lt) (slice_get-get_or xs i e lt)

pub followed_at : (n : NodeNo) (steps : List NodeStep) (notices : List Notice) (i : ℕ) (d : NodeStep) (e : Notice) (m : MarksState) → i < length steps → i < length notices
    → CanMarkAll n (drop i steps) (drop i notices) m → HasFollowed n steps notices i (get_or steps i d) (get_or notices i e) m
followed_at n steps notices i d e m lt few can =
    followed n steps notices i (get_or steps i d) (get_or notices i e) m lt few
    (get_same steps i d (get_or steps i d) lt) (get_same notices i e (get_or notices i e) few) can

pub none_followed : (n : NodeNo) (steps : List NodeStep) (notices : List Notice) (i : ℕ) (st : NodeStep) (m : MarksState) → i < length steps → length notices ≤ i
    → CanMarkAll n (drop i steps) (drop i notices) m → ⊥
none_followed n steps notices i st m lt le can =
    subst (λ (x : List NodeStep). CanMarkAll n x [] m) (cut_at steps i (get_or steps i st) lt (get_same steps i st (get_or steps i st) lt))
    (subst (λ (x : List Notice). CanMarkAll n (drop i steps) x m) (drop_all notices i le) can)

pub all_followed : (n : NodeNo) (steps : List NodeStep) (notices : List Notice) (i : ℕ) (m : MarksState) → length steps ≤ i → marks_by n (drop i steps) (drop i notices) m ≡ m
all_followed n steps notices i m le = ap (λ (x : List NodeStep). marks_by n x (drop i notices) m) (drop_all steps i le)
