-- The booked slopes stay within the caps.
use Rattle.std.proofs.Common.{◌≡◌, ◌⊎◌, ℕ, ◌+◌, ◌≤◌, Bool, true, ◌==◌, cond, List, [], ◌∷◌, refl, ap, arith, inl, inr}
use Rattle.std.specs.Prelude.{nat_le}
use Rattle.std.specs.{List.AllByRecursion}
use Rattle.std.proofs.lemmas.Bool.{and_parts, leb-true}
use Rattle.srp_base.specs.declared.{bandwidth.Class.Class, bandwidth.Class.TheVariants.A, bandwidth.Class.TheVariants.B}
use Rattle.stream_importance.specs.declared.{entry.Entry.Entry, entry.Fit.Fit, slope.Caps.Caps}
use Rattle.stream_importance.specs.{Bandwidth.cap_of, Importance.class_number, Importance.IsImportanceOrder}
use Rattle.port_ledger.specs.{entry_slope, above, comes_after, booked_of, marks_of, IsDecision, AreOfDifferentStreams, IsKept, IsFitWithin, booked_slope, fit_in, importance_order}
use Rattle.port_ledger.specs.Book.{Book}
use Rattle.port_ledger.proofs.{Running.part, Running.sum-filter, Running.weight-no, Running.weight-yes, Running.IsRanked, Running.Runs, Running.all_with, Ranking.ranked_is_ranked, Ranking.IsPermutation-ranked, Ranking.part-IsPermutation, Marking.choice, Marking.different_from_ascending, Marking.marked-map, Marking.marked-choice, Marking.holds_from_decision, Marking.ranked_runs}

-- the entries of a class
abbrev pub is_of : Class → Entry → Bool
is_of class x = class_number x.want.class == class_number class

-- of each entry one class has the slope
pub class_parts : (class : Class) (slope : ℕ) (chosen : Bool)
    → cond chosen (cond (class_number class == 0) slope 0) 0 + cond chosen (cond (class_number class == 1) slope 0) 0 ≡ cond chosen slope 0
class_parts class slope chosen = grind arith

-- a chosen one stays within its cap, so what is let in stays within the larger cap
cap_within : (caps : Caps) (class : Class) → caps.class_a ≤ caps.both → cap_of caps class ≤ caps.both
cap_within caps class h1 = grind arith

step_within : (chosen : Bool) (sum slope cap most : ℕ) → chosen ≡ nat_le (sum + slope) cap → cap ≤ most
    → sum ≤ most → sum + cond chosen slope 0 ≤ most
step_within chosen sum slope cap most h1 h2 h3 = grind (arith, leb-true)

pub runs_both : (caps : Caps) (sum : ℕ) (b : Entry → Bool) (xs : List Entry) → caps.class_a ≤ caps.both
    → sum ≤ caps.both → Runs caps sum b xs → sum + (part b (is_of A) xs + part b (is_of B) xs) ≤ caps.both
runs_both caps sum b [] shares h runs = omega (arith, h)
runs_both caps sum b (x ∷ xs) shares h runs =
    let next : sum + cond (b x) (entry_slope x) 0 ≤ caps.both =
    step_within (b x) sum (entry_slope x) (cap_of caps x.want.class) caps.both runs.0 (cap_within caps x.want.class shares) h in
    omega (arith, class_parts x.want.class (entry_slope x) (b x), runs_both caps (sum + cond (b x) (entry_slope x) 0) b xs shares next runs.1)

-- after an entry of class B come only such
not_a_after_b : (now : ℕ) (x y : Entry) (class other : Class) → x.want.class ≡ class → y.want.class ≡ other
    → class ≡ B → comes_after now y x ≡ true → other ≡ B
not_a_after_b now x y class other h1 h2 h3 h4 = grind (arith, and_parts)

none_of_a : (b : Entry → Bool) (xs : List Entry) → AllByRecursion (λ y. y.want.class ≡ B) xs → part b (is_of A) xs ≡ 0
none_of_a b [] h = refl
none_of_a b (x ∷ xs) h = grind (arith, none_of_a b xs h.1, weight-no)

either_class : (class : Class) → (class ≡ A) ⊎ (class ≡ B)
either_class A = inl refl
either_class B = inr refl

runs_a : (now : ℕ) (caps : Caps) (sum : ℕ) (b : Entry → Bool) (xs : List Entry) → IsRanked now xs
    → sum ≤ caps.class_a → Runs caps sum b xs → sum + part b (is_of A) xs ≤ caps.class_a
runs_a now caps sum b [] importance_order h runs = omega (arith, h)
runs_a now caps sum b (x ∷ xs) importance_order h runs =
    elim (either_class x.want.class) [
      | inl e ↦
          (let cap : cap_of caps x.want.class ≡ caps.class_a = ap (cap_of caps) e in
          let next : sum + cond (b x) (entry_slope x) 0 ≤ caps.class_a =
          step_within (b x) sum (entry_slope x) (cap_of caps x.want.class) caps.class_a runs.0 (omega (arith, cap)) h in
          let w : cond (b x) (cond (is_of A x) (entry_slope x) 0) 0 ≡ cond (b x) (entry_slope x) 0 =
          weight-yes (b x) (is_of A x) (entry_slope x) (ap (λ c. class_number c == 0) e) in
          omega (arith, w, runs_a now caps (sum + cond (b x) (entry_slope x) 0) b xs importance_order.1 next runs.1))
      | inr e ↦
          (let w : cond (b x) (cond (is_of A x) (entry_slope x) 0) 0 ≡ 0 =
          weight-no (b x) (is_of A x) (entry_slope x) (ap (λ c. class_number c == 0) e) in
          let rest : part b (is_of A) xs ≡ 0 =
          none_of_a b xs (all_with xs importance_order.0 importance_order.0 (λ y before _. not_a_after_b now x y x.want.class y.want.class refl refl e before)) in
          omega (arith, w, rest, h))
    ]

-- the booked slopes of a class, in the order of importance
booked_slope-ranked : (now : ℕ) (caps : Caps) (xs : List Entry) (class : Class)
    → IsDecision now caps xs (marks_of xs)
    → booked_slope xs class ≡ part (choice now caps xs (marks_of xs)) (is_of class) (importance_order now xs)
booked_slope-ranked now caps xs class d = grind (arith, choice, marked-map, marked-choice, sum-filter, part-IsPermutation, IsPermutation-ranked)

pub record IsWithin (caps : Caps) (xs : List Entry) : Type 0 where
  pub class_a : booked_slope xs A ≤ caps.class_a
  pub both : booked_slope xs A + booked_slope xs B ≤ caps.both

pub within_caps : (now : ℕ) (o : IsImportanceOrder now) (caps : Caps) (xs : List Entry)
    → AreOfDifferentStreams xs → caps.class_a ≤ caps.both → IsDecision now caps xs (marks_of xs)
    → IsWithin caps xs
within_caps now o caps xs different shares d =
    let b : Entry → Bool = choice now caps xs (marks_of xs) in
    let runs : Runs caps 0 b (importance_order now xs) = ranked_runs now o caps b xs different (holds_from_decision now caps xs (marks_of xs) d) in
    let a : booked_slope xs A ≡ part b (is_of A) (importance_order now xs) = booked_slope-ranked now caps xs A d in
    let other : booked_slope xs B ≡ part b (is_of B) (importance_order now xs) = booked_slope-ranked now caps xs B d in
    record {
      class_a = omega (arith, a, runs_a now caps 0 b (importance_order now xs) (ranked_is_ranked now o xs different) (omega arith) runs);
      both = omega (arith, a, other, runs_both caps 0 b (importance_order now xs) shares (omega arith) runs);
    }

pub book_within : (book : Book) → IsImportanceOrder book.moment → IsKept book → IsWithin book.caps book.entries
book_within book o kept = within_caps book.moment o book.caps book.entries (different_from_ascending book.entries kept.ascending) kept.shares kept.decision

-- chosen entries of a kind take no more than those of both classes
weight_within : (b kind : Bool) (slope : ℕ) → cond b (cond kind slope 0) 0 ≤ cond b slope 0
weight_within b kind slope = grind arith

part_within : (b kind : Entry → Bool) (xs : List Entry) → part b kind xs ≤ part b (is_of A) xs + part b (is_of B) xs
part_within b kind [] = omega arith
part_within b kind (x ∷ xs) = grind (arith, part_within b kind xs, weight_within, class_parts)

-- what goes before an entry is a part of what is booked
above_within : (now : ℕ) (x : Entry) (xs : List Entry)
    → above now x (booked_of xs) ≤ booked_slope xs A + booked_slope xs B
above_within now x xs = grind (arith, part_within, sum-filter)

pub fit_within : (now : ℕ) (caps : Caps) (xs : List Entry) (x : Entry) (fit : Fit)
    → fit ≡ fit_in now caps (booked_of xs) x → caps.class_a ≤ caps.both
    → booked_slope xs A + booked_slope xs B ≤ caps.both → IsFitWithin caps.both fit
fit_within now caps xs x fit e shares within = grind (arith, above_within, cap_within)
