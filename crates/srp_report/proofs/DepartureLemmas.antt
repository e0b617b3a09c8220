-- A list that a stable sort by start leaves is the departures ascending by start.
use Rattle.std.proofs.Common.{◌≡◌, ◌≢◌, ℕ, ◌<◌, ◌≤◌, inl, inr, cond, List, [], ◌∷◌, sym, refl, ◌∙◌, ap, subst, arith}
use Rattle.std.specs.Prelude.{nat_le, ◌==◌}
use Rattle.std.specs.{List.AllByRecursion, List.Sorted.IsNonDecreasingBy, List.Sorted.IsStableByKey, Ordering.nat_cmp}
use Rattle.std.proofs.lemmas.Bool.{cond-true, cond-false, cases_Bool, cases_lt, eqb-true, eqb-false, le-leb, lt-leb}
use Rattle.srp_base.proofs.SortLemmas.{of, of-kept, of-head, of-other, Ascends, ascends-from, alike}
use Rattle.srp_report.specs.{SentFrame, with_sent, by_start}

abbrev start_of : SentFrame → ℕ
start_of d = d.start

abbrev with_start : ℕ → SentFrame
with_start q = record { frame = 0; start = q; end = 0 }

-- those that start at a bit time
abbrev at_start : ℕ → List SentFrame → List SentFrame
at_start q ds = of start_of q ds

-- all start at a bit time or later
abbrev AllFrom : ℕ → List SentFrame → Type 0
AllFrom q ds = AllByRecursion (λ d. q ≤ d.start) ds

sooner : (d e : SentFrame) (ds : List SentFrame) → d.start ≤ e.start → with_sent d (e ∷ ds) ≡ d ∷ e ∷ ds
sooner d e ds le = cond-true (nat_le d.start e.start) (d ∷ e ∷ ds) (e ∷ with_sent d ds) (le-leb d.start e.start le)

later : (d e : SentFrame) (ds : List SentFrame) → e.start < d.start → with_sent d (e ∷ ds) ≡ e ∷ with_sent d ds
later d e ds gt = cond-false (nat_le d.start e.start) (d ∷ e ∷ ds) (e ∷ with_sent d ds) (lt-leb d.start e.start gt)

-- ---- a departure in its place

from-lower : (p q : ℕ) (ds : List SentFrame) → p ≤ q → AllFrom q ds → AllFrom p ds
from-lower p q [] le all = tt
from-lower p q (d ∷ ds) le all = (let first = all.0 in omega (arith, le, first), from-lower p q ds le all.1)

put-from : (q : ℕ) (d : SentFrame) (ds : List SentFrame) → q ≤ d.start → AllFrom q ds → AllFrom q (with_sent d ds)
put-from q d [] le all = (le, tt)
put-from q d (e ∷ ds) le all =
    elim (cases_lt e.start d.start) [
      | inl gt ↦ subst (AllFrom q) (sym (later d e ds gt)) (all.0, put-from q d ds le all.1)
      | inr ge ↦ subst (AllFrom q) (sym (sooner d e ds ge)) (le, all)
    ]

put-ascends : (d : SentFrame) (ds : List SentFrame) → Ascends start_of ds → Ascends start_of (with_sent d ds)
put-ascends d [] up = (tt, tt)
put-ascends d (e ∷ ds) up =
    elim (cases_lt e.start d.start) [
      | inl gt ↦ subst (Ascends start_of) (sym (later d e ds gt)) (put-from e.start d ds (omega (arith, gt)) up.0, put-ascends d ds up.1)
      | inr le ↦ subst (Ascends start_of) (sym (sooner d e ds le)) ((le, from-lower d.start e.start ds le up.0), up)
    ]

start-ascends : (ds : List SentFrame) → Ascends start_of (by_start ds)
start-ascends [] = tt
start-ascends (d ∷ ds) = put-ascends d (by_start ds) (start-ascends ds)

-- it is among those of its start
put-past : (q : ℕ) (d e : SentFrame) (xs ds : List SentFrame) → e.start < d.start → at_start q xs ≡ at_start q (d ∷ ds)
    → at_start q (e ∷ xs) ≡ at_start q (d ∷ e ∷ ds)
put-past q d e xs ds gt same =
    elim (cases_Bool (e.start == q)) [
      | inl is ↦ (
          let here : e.start ≡ q = eqb-true e.start q is in
          let ne : d.start ≢ q = λ other. omega (arith, gt, here, other) in
          of-head start_of q e xs here
          ∙ (ap (λ (ys : List SentFrame). e ∷ ys) (same ∙ of-other start_of q d ds ne)
          ∙ sym (of-other start_of q d (e ∷ ds) ne ∙ of-head start_of q e ds here)))
      | inr nay ↦ (
          let ne : e.start ≢ q = eqb-false e.start q nay in
          of-other start_of q e xs ne
          ∙ (same
          ∙ ap (λ (ys : List SentFrame). cond (d.start == q) (d ∷ ys) ys) (sym (of-other start_of q e ds ne))))
    ]

put-keeps : (q : ℕ) (d : SentFrame) (ds : List SentFrame) → at_start q (with_sent d ds) ≡ at_start q (d ∷ ds)
put-keeps q d [] = refl
put-keeps q d (e ∷ ds) =
    elim (cases_lt e.start d.start) [
      | inl gt ↦ ap (at_start q) (later d e ds gt) ∙ put-past q d e (with_sent d ds) ds gt (put-keeps q d ds)
      | inr le ↦ ap (at_start q) (sooner d e ds le)
    ]

start-keeps : (q : ℕ) (ds : List SentFrame) → at_start q (by_start ds) ≡ at_start q ds
start-keeps q [] = refl
start-keeps q (d ∷ ds) =
    put-keeps q d (by_start ds) ∙ ap (λ (xs : List SentFrame). cond (d.start == q) (d ∷ xs) xs) (start-keeps q ds)

-- ---- what a stable sort leaves

pub sorted-by-start : (xs ys : List SentFrame) → IsNonDecreasingBy start_of ys → IsStableByKey start_of nat_cmp xs ys → ys ≡ by_start xs
sorted-by-start xs ys up stable =
    alike start_of ys (by_start xs) (ascends-from start_of ys up) (start-ascends xs)
    (λ q. of-kept start_of xs ys (with_start q) stable ∙ sym (start-keeps q xs))
