-- The slopes that a port's shaper is given are those in force.
use Rattle.std.proofs.Common.{◌≡◌, ℕ, zero, suc, ◌+◌, ◌<◌, ◌≤◌, inl, inr, true, false, List, [], ◌∷◌, length, get_or, map, Option, Some, None, refl, sym, ◌∙◌, ap, subst, arith}
use Rattle.std.specs.Prelude.{All, AllPairs, nat_lt, nat_le, ◌==◌, ◌&&◌, not}
use Rattle.std.specs.{List.AllWithin, List.Sorted.IsNonDecreasingBy}
use Rattle.std.proofs.lemmas.{List.get_or_default, Bool.cond-true, Bool.cond-false, Bool.cases_Bool, Bool.cases_lt, Bool.eqb-true, Bool.le-leb, Bool.lt-leb, Bool.lt-ltb, Bool.le-ltb, Bool.and_left, Bool.and_parts, Bool.and_from, Bool.not_from_false, Bool.false≢true, List.Elements.All-cons, List.Elements.All-head, List.Elements.All-tail, List.Elements.All-weaker}
use Rattle.srp_base.specs.declared.{bandwidth.Rate.Rate, ports.PortChange.PortChange}
use Rattle.srp_base.specs.declared.bandwidth.Rate.TheVariants.{M100, G1, G10}
use Rattle.credit_shaper.specs.declared.port.SlopeChange.{SlopeChange}
use Rattle.credit_shaper.specs.Port.{last_change, no_slopes}
use Rattle.frame_flow.specs.{bits_of_ticks, tick_at, in_force, last_upto, does_change, slopes_of_change, first_slopes, later_slopes, slopes_over, HasSlopes}
use Rattle.credit_shaper.proofs.PairLemmas.{pairs-head, pairs-tail}
use Rattle.frame_flow.proofs.SlopeLemmas.{IsBefore, slopes-after, first-zero}

-- a tick has begun by a bit time where its first bit time has
pub begun : (rate : Rate) (c t : ℕ) → bits_of_ticks rate c ≤ t → c ≤ tick_at rate t
begun M100 c t h = omega (arith, h)
begun G1 c t h = omega (arith, h)
begun G10 c t h = omega (arith, h)

pub not-begun : (rate : Rate) (c t : ℕ) → t < bits_of_ticks rate c → tick_at rate t < c
not-begun M100 c t h = omega (arith, h)
not-begun G1 c t h = omega (arith, h)
not-begun G10 c t h = omega (arith, h)

-- before a change's first bit time neither it nor a later one has come
pub none-begun : {X : Type 0} (tick : X → ℕ) (rate : Rate) (xs : List X) (at t few : ℕ) (d : X) → IsNonDecreasingBy tick xs
    → few ≤ tick (get_or xs at d) → at < length xs → t < bits_of_ticks rate few → AllWithin (λ x. tick_at rate t < tick x) xs at (length xs)
none-begun tick rate xs at t few d up le below early k e from lt =
    let same : tick (get_or xs at d) ≡ tick (get_or xs at e) = ap tick (get_or_default xs at d e below) in
    omega (arith, not-begun rate few t early, le, same, up at k e from lt)

-- none of some changes has come
last-later : (t : ℕ) (last : SlopeChange) (es : List SlopeChange) → All (λ e. t < e.bit) es → last_change t last es ≡ last
last-later t last [] all = refl
last-later t last (e ∷ es) all =
    let P : SlopeChange → Type 0 = λ x. t < x.bit in
    let here = cond-false (nat_le e.bit t) e last (lt-leb e.bit t (All-head P e es all)) in
    ap (λ (x : SlopeChange). last_change t x es) here ∙ last-later t last es (All-tail P e es all)

pub upto-later : (tick : ℕ) (newest : Option PortChange) (cs : List PortChange) → All (λ c. tick < c.tick) cs → last_upto tick newest cs ≡ newest
upto-later tick newest [] all = refl
upto-later tick newest (c ∷ cs) all =
    let P : PortChange → Type 0 = λ x. tick < x.tick in
    let here = cond-false (nat_le c.tick tick) (Some c) newest (lt-leb c.tick tick (All-head P c cs all)) in
    ap (λ (x : Option PortChange). last_upto tick x cs) here ∙ upto-later tick newest cs (All-tail P c cs all)

-- none of some changes has come
pub none-come : {X : Type 0} (to : X → PortChange) (tick : ℕ) (newest : Option PortChange) (xs : List X) → AllWithin (λ x. tick < (to x).tick) xs 0 (length xs)
    → last_upto tick newest (map to xs) ≡ newest
none-come to tick newest [] later = refl
none-come to tick newest (x ∷ xs) later =
    let c = to x in
    ap (λ (o : Option PortChange). last_upto tick o (map to xs)) (cond-false (nat_le c.tick tick) (Some c) newest (lt-leb c.tick tick (later zero x (omega arith) (omega arith))))
    ∙ none-come to tick newest xs (λ j e from lt. later (suc j) e (omega arith) (omega (arith, lt)))

-- of changes that ascend, the last that has come
pub last-come : {X : Type 0} (to : X → PortChange) (tick : ℕ) (newest : Option PortChange) (xs : List X) (k : ℕ) (d : X) → k < length xs
    → AllWithin (λ x. (to x).tick ≤ tick) xs 0 (k + 1) → AllWithin (λ x. tick < (to x).tick) xs (k + 1) (length xs)
    → last_upto tick newest (map to xs) ≡ Some (to (get_or xs k d))
last-come to tick newest [] k d few come later = absurd (omega (arith, few))
last-come to tick newest (x ∷ xs) zero d few come later =
    let c = to x in
    ap (λ (o : Option PortChange). last_upto tick o (map to xs)) (cond-true (nat_le c.tick tick) (Some c) newest (le-leb c.tick tick (come zero x (omega arith) (omega arith))))
    ∙ none-come to tick (Some c) xs (λ j e from lt. later (suc j) e (omega arith) (omega (arith, lt)))
last-come to tick newest (x ∷ xs) (suc k) d few come later =
    let c = to x in
    ap (λ (o : Option PortChange). last_upto tick o (map to xs)) (cond-true (nat_le c.tick tick) (Some c) newest (le-leb c.tick tick (come zero x (omega arith) (omega arith))))
    ∙ last-come to tick (Some c) xs k d (omega (arith, few)) (λ j e from lt. come (suc j) e (omega arith) (omega (arith, lt)))
    (λ j e from lt. later (suc j) e (omega (arith, from)) (omega (arith, lt)))

-- slopes that aren't new are those that were
pub same-slopes : (ticks : ℕ) (last : SlopeChange) (c : PortChange) → does_change ticks last c ≡ false → 0 < c.tick → c.tick < ticks
    → (c.slope_a ≡ last.slope_a) × (c.slope_b ≡ last.slope_b)
same-slopes ticks last c nay some few =
    let a = c.slope_a == last.slope_a in
    let b = c.slope_b == last.slope_b in
    let within = and_from (nat_lt 0 c.tick) (nat_lt c.tick ticks) (lt-ltb 0 c.tick some) (lt-ltb c.tick ticks few) in
    let both : (a && b) ≡ true =
    elim (cases_Bool (a && b)) [
      | inl is ↦ is
      | inr other ↦ absurd (false≢true (sym nay ∙ and_from (nat_lt 0 c.tick && nat_lt c.tick ticks) (not (a && b)) within (not_from_false (a && b) other)))
    ] in
    let parts = and_parts a b both in
    (eqb-true c.slope_a last.slope_a parts.0, eqb-true c.slope_b last.slope_b parts.1)

slopes-on : (rate : Rate) (ticks t : ℕ) → tick_at rate t < ticks → (last : SlopeChange) (newest : Option PortChange) (cs : List PortChange)
    → All (λ c. 0 < c.tick) cs → AllPairs IsBefore cs → HasSlopes last newest
    → HasSlopes (last_change t last (later_slopes rate ticks last cs)) (last_upto (tick_at rate t) newest cs)
slopes-on rate ticks t early last newest [] some up same = same
slopes-on rate ticks t early last newest (c ∷ cs) some up same =
    let tick = tick_at rate t in
    let e = slopes_of_change rate c in
    let rest = pairs-tail IsBefore c cs up in
    let S : PortChange → Type 0 = λ x. 0 < x.tick in
    let some_rest = All-tail S c cs some in
    let L = later_slopes rate ticks in
    let next = λ (o : Option PortChange). last_upto tick o cs in
    let H : List SlopeChange → Option PortChange → Type 0 = λ es o. HasSlopes (last_change t last es) (next o) in
    elim (cases_Bool (does_change ticks last c)) [
      | inl is ↦ (
          let entries = sym (cond-true (does_change ticks last c) (e ∷ L e cs) (L last cs) is) in
          elim (cases_lt t e.bit) [
            | inl ahead ↦ (
                let later = not-begun rate c.tick t ahead in
                let none = sym (cond-false (nat_le c.tick tick) (Some c) newest (lt-leb c.tick tick later)) in
                let skip = cond-false (nat_le e.bit t) e last (lt-leb e.bit t ahead) in
                let after = slopes-after rate ticks c.tick e cs (All-weaker (IsBefore c) (λ d. 0 < d.tick → c.tick < d.tick) (λ d lt any. lt) cs (pairs-head IsBefore c cs up)) in
                let stays = ap (λ (x : SlopeChange). last_change t x (L e cs)) skip
                ∙ last-later t last (L e cs) (All-weaker (λ x. e.bit < x.bit) (λ x. t < x.bit) (λ x lt. omega (arith, lt, ahead)) (L e cs) after) in
                let keeps = upto-later tick newest cs (All-weaker (IsBefore c) (λ d. tick < d.tick) (λ d lt. omega (arith, lt, later)) cs (pairs-head IsBefore c cs up)) in
                let now = subst (λ (x : SlopeChange). HasSlopes x (next newest)) (sym stays) (subst (λ (o : Option PortChange). HasSlopes last o) (sym keeps) same) in
                subst (λ (es : List SlopeChange). HasSlopes (last_change t last es) (last_upto tick newest (c ∷ cs))) entries
                (subst (λ (o : Option PortChange). HasSlopes (last_change t last (e ∷ L e cs)) (next o)) none now))
            | inr come ↦ (
                let begun_c = begun rate c.tick t come in
                let newer = sym (cond-true (nat_le c.tick tick) (Some c) newest (le-leb c.tick tick begun_c)) in
                let take = sym (cond-true (nat_le e.bit t) e last (le-leb e.bit t come)) in
                let now = slopes-on rate ticks t early e (Some c) cs some_rest rest (refl, refl) in
                subst (λ (es : List SlopeChange). HasSlopes (last_change t last es) (last_upto tick newest (c ∷ cs))) entries
                (subst (λ (x : SlopeChange). HasSlopes (last_change t x (L e cs)) (last_upto tick newest (c ∷ cs))) take
                (subst (λ (o : Option PortChange). HasSlopes (last_change t e (L e cs)) (next o)) newer now)))
          ])
      | inr nay ↦ (
          let entries = sym (cond-false (does_change ticks last c) (e ∷ L e cs) (L last cs) nay) in
          elim (cases_lt tick c.tick) [
            | inl later ↦ (
                let none = sym (cond-false (nat_le c.tick tick) (Some c) newest (lt-leb c.tick tick later)) in
                let now = slopes-on rate ticks t early last newest cs some_rest rest same in
                subst (λ (es : List SlopeChange). HasSlopes (last_change t last es) (last_upto tick newest (c ∷ cs))) entries
                (subst (λ (o : Option PortChange). HasSlopes (last_change t last (L last cs)) (next o)) none now))
            | inr come ↦ (
                let newer = sym (cond-true (nat_le c.tick tick) (Some c) newest (le-leb c.tick tick come)) in
                let equal = same-slopes ticks last c nay (All-head S c cs some) (omega (arith, come, early)) in
                let now = slopes-on rate ticks t early last (Some c) cs some_rest rest (sym equal.0, sym equal.1) in
                subst (λ (es : List SlopeChange). HasSlopes (last_change t last es) (last_upto tick newest (c ∷ cs))) entries
                (subst (λ (o : Option PortChange). HasSlopes (last_change t last (L last cs)) (next o)) newer now))
          ])
    ]

-- from what is in force in tick 0 on
slopes-from : (rate : Rate) (ticks t : ℕ) → tick_at rate t < ticks → (zeroth : Option PortChange) (cs : List PortChange) → All (λ c. 0 < c.tick) cs → AllPairs IsBefore cs
    → HasSlopes (last_change t no_slopes (first_slopes zeroth ∷ later_slopes rate ticks (first_slopes zeroth) cs)) (last_upto (tick_at rate t) zeroth cs)
slopes-from rate ticks t early zeroth cs some up =
    let first = first_slopes zeroth in
    let L = later_slopes rate ticks first cs in
    let begins : nat_le first.bit t ≡ true = le-leb first.bit t (omega (arith, first-zero zeroth)) in
    subst (λ (x : SlopeChange). HasSlopes (last_change t x L) (last_upto (tick_at rate t) zeroth cs)) (sym (cond-true (nat_le first.bit t) first no_slopes begins))
    (slopes-on rate ticks t early first zeroth cs some up (refl, refl))

pub slopes-in-force : (rate : Rate) (ticks t : ℕ) (cs : List PortChange) → AllPairs IsBefore cs → t < bits_of_ticks rate ticks
    → HasSlopes (last_change t no_slopes (slopes_over rate ticks cs)) (in_force (tick_at rate t) cs)
slopes-in-force rate ticks t [] up h = slopes-from rate ticks t (not-begun rate ticks t h) None [] (λ k d below. absurd (omega (arith, below))) up
slopes-in-force rate ticks t (c ∷ cs) up h =
    let tick = tick_at rate t in
    let early = not-begun rate ticks t h in
    let after = pairs-head IsBefore c cs up in
    let L = later_slopes rate ticks in
    elim (cases_lt 0 c.tick) [
      | inl some ↦ (
          let S : PortChange → Type 0 = λ x. 0 < x.tick in
          let all = All-cons S c cs some (All-weaker (IsBefore c) S (λ d lt. omega (arith, some, lt)) cs after) in
          let none = sym (upto-later 0 None (c ∷ cs) all) in
          subst (λ (o : Option PortChange). HasSlopes (last_change t no_slopes (first_slopes o ∷ L (first_slopes o) (c ∷ cs))) (in_force tick (c ∷ cs))) none
          (slopes-from rate ticks t early None (c ∷ cs) all up))
      | inr zero_ ↦ (
          let S : PortChange → Type 0 = λ x. 0 < x.tick in
          let all = All-weaker (IsBefore c) S (λ d lt. omega (arith, lt)) cs after in
          let first = first_slopes (Some c) in
          let zeroth = sym (ap (λ (o : Option PortChange). last_upto 0 o cs) (cond-true (nat_le c.tick 0) (Some c) None (le-leb c.tick 0 zero_)) ∙ upto-later 0 (Some c) cs all) in
          let now = sym (cond-true (nat_le c.tick tick) (Some c) None (le-leb c.tick tick (omega (arith, zero_)))) in
          let same : does_change ticks first c ≡ false =
          and_left (nat_lt 0 c.tick && nat_lt c.tick ticks) (not ((c.slope_a == first.slope_a) && (c.slope_b == first.slope_b)))
          (and_left (nat_lt 0 c.tick) (nat_lt c.tick ticks) (le-ltb 0 c.tick zero_)) in
          let entries = sym (cond-false (does_change ticks first c) (slopes_of_change rate c ∷ L (slopes_of_change rate c) cs) (L first cs) same) in
          subst (λ (o : Option PortChange). HasSlopes (last_change t no_slopes (first_slopes o ∷ L (first_slopes o) (c ∷ cs))) (in_force tick (c ∷ cs))) zeroth
          (subst (λ (es : List SlopeChange). HasSlopes (last_change t no_slopes (first ∷ es)) (in_force tick (c ∷ cs))) entries
          (subst (λ (o : Option PortChange). HasSlopes (last_change t no_slopes (first ∷ L first cs)) (last_upto tick o cs)) now
          (slopes-from rate ticks t early (Some c) cs all (pairs-tail IsBefore c cs up)))))
    ]
