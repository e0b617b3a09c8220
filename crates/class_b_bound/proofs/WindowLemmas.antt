-- Windows: what class B takes of the line, and the sums over departures and slopes.
use Rattle.std.proofs.Common.{◌≡◌, ℕ, zero, suc, ◌+◌, ◌-◌, ◌*◌, ◌<◌, ◌≤◌, Bool, true, false, cond, List, [], ◌∷◌, get_or, refl, sym, ◌∙◌, ap, subst, inl, inr, arith}
use Rattle.std.specs.Prelude.{All, AllPairs, count_by, sum_by, nat_le, nat_lt, ◌&&◌, ◌||◌, min, max, ℤ, pos, ◌+ℤ◌, ◌-ℤ◌, ◌≤ℤ◌}
use Rattle.std.specs.List.{range_with_len, list_any}
use Rattle.std.proofs.lemmas.{Bool.cases_Bool, Bool.cases_lt, Bool.le-leb, Bool.lt-leb, Bool.lt-ltb, Bool.le-ltb, Bool.ltb-true, Bool.and_parts, Int.ints, List.Elements.All-head, List.Elements.All-tail, List.Elements.All-cons, List.Sums.sum_by-cons}
use Rattle.srp_base.proofs.Arithmetic.{mul_add, spent_sum}
use Rattle.srp_base.specs.Bandwidth.{bits_of}
use Rattle.credit_shaper.specs.declared.{shaper.Traffic.TheVariants.B, port.SlopeChange.SlopeChange, port.PortInput.PortInput, port.Departure.Departure}
use Rattle.credit_shaper.specs.{Credit.credit_after, Port.last_change, Port.no_slopes, Departures.departs_as, Departures.is_sending, Bounds.credit_b_at, Bounds.slope_b_at, Bounds.is_on_line, Steps.is_waiting}
use Rattle.credit_shaper.proofs.WindowLemmas.{spent_by}
use Rattle.class_b_bound.specs.{BoundB, IsCreditBWithin, bits_b, area_b, IsWindowBWithin, overlap, taken_by, bits_over, area_over}

-- ---- what class B takes is what the slopes give, and what its credit falls by

-- the credit's step of an input, as a law has it
abbrev pub HasSteps : PortInput → Type 0
HasSteps input =
    (t : ℕ) → credit_b_at input (suc t) ≡ credit_after (bits_of input.rate) (slope_b_at input t) (is_on_line input B t) (is_waiting input B t) (credit_b_at input t)

spent : (input : PortInput) → HasSteps input → (t : ℕ)
    → (credit_b_at input (suc t) +ℤ pos (bits_of input.rate * cond (is_on_line input B t) 1 0)) ≤ℤ (credit_b_at input t +ℤ pos (slope_b_at input t))
spent input steps t =
    subst (λ (c : ℤ). (c +ℤ pos (bits_of input.rate * cond (is_on_line input B t) 1 0)) ≤ℤ (credit_b_at input t +ℤ pos (slope_b_at input t)))
    (sym (steps t)) (spent_by (bits_of input.rate) (slope_b_at input t) (is_on_line input B t) (is_waiting input B t) (credit_b_at input t))

spent_over : (input : PortInput) → HasSteps input → (from n : ℕ)
    → (credit_b_at input (from + n) +ℤ pos (bits_of input.rate * count_by (is_on_line input B) (range_with_len from n)))
    ≤ℤ (credit_b_at input from +ℤ pos (sum_by (slope_b_at input) (range_with_len from n)))
spent_over input steps from zero =
    let same : credit_b_at input (from + 0) ≡ credit_b_at input from = ap (credit_b_at input) (omega arith) in
    omega (arith, ints, same)
spent_over input steps from (suc n) =
    let bits = sum_by-cons (λ t. cond (is_on_line input B t) 1 0) from (range_with_len (from + 1) n) in
    let area = sum_by-cons (slope_b_at input) from (range_with_len (from + 1) n) in
    let rate : ℕ = bits_of input.rate in
    let one : ℕ = cond (is_on_line input B from) 1 0 in
    let more : ℕ = count_by (is_on_line input B) (range_with_len (from + 1) n) in
    let split : rate * count_by (is_on_line input B) (range_with_len from (suc n)) ≡ rate * one + rate * more = ap (λ k. rate * k) bits ∙ mul_add rate one more in
    let same : credit_b_at input (from + 1 + n) ≡ credit_b_at input (from + suc n) = ap (credit_b_at input) (omega arith) in
    let next : credit_b_at input (suc from) ≡ credit_b_at input (from + 1) = ap (credit_b_at input) (omega arith) in
    spent_sum (credit_b_at input from) (credit_b_at input (from + 1)) (credit_b_at input (from + suc n))
    (rate * one) (rate * more) (rate * count_by (is_on_line input B) (range_with_len from (suc n)))
    (slope_b_at input from) (sum_by (slope_b_at input) (range_with_len (from + 1) n)) (sum_by (slope_b_at input) (range_with_len from (suc n)))
    (subst (λ (c : ℤ). (c +ℤ pos (rate * one)) ≤ℤ (credit_b_at input from +ℤ pos (slope_b_at input from))) next (spent input steps from))
    (subst (λ (c : ℤ). (c +ℤ pos (rate * more)) ≤ℤ (credit_b_at input (from + 1) +ℤ pos (sum_by (slope_b_at input) (range_with_len (from + 1) n)))) same
    (spent_over input steps (from + 1) n))
    split area

within_window : (rate bits area hi : ℕ) (lo x y : ℤ) → (y +ℤ pos (rate * bits)) ≤ℤ (x +ℤ pos area) → x ≤ℤ pos hi → lo ≤ℤ y
    → pos (rate * bits) ≤ℤ (pos area +ℤ pos hi -ℤ lo)
within_window rate bits area hi lo x y h top low = omega (arith, ints, h, top, low)

-- so a window stays within what the credit stays between
pub window_within : (input : PortInput) (bound : BoundB) (a b : ℕ) → HasSteps input
    → ((t : ℕ) → IsCreditBWithin input bound t) → a ≤ b → IsWindowBWithin input bound a b
window_within input bound a b steps credit up =
    let at : a + (b - a) ≡ b = omega (arith, up) in
    within_window (bits_of input.rate) (bits_b input a b) (area_b input a b) bound.hi bound.lo (credit_b_at input a) (credit_b_at input b)
    (subst (λ (t : ℕ). (credit_b_at input t +ℤ pos (bits_of input.rate * bits_b input a b)) ≤ℤ (credit_b_at input a +ℤ pos (area_b input a b))) at (spent_over input steps a (b - a)))
    (credit a).high (credit b).low

-- ---- the departures' bits

-- 1 for what holds
to_number : (b d : Bool) → b ≡ d → ◌≡◌ {A = ℕ} (cond b 1 0) (cond d 1 0)
to_number b d e = let f : Bool → ℕ = λ x. cond x 1 0 in ap f e

-- a departure's part of one bit time
taken_one : (d : Departure) (t : ℕ) → taken_by t (suc t) d ≡ cond (departs_as B d && (nat_le d.start t && nat_lt t d.end)) 1 0
taken_one d t = grind (arith, cases_lt, lt-leb, le-leb, lt-ltb, le-ltb)

-- a departure's part of a window is that of its first bit time and that of the rest
taken_split : (d : Departure) (from to : ℕ) → from < to → taken_by from to d ≡ taken_by from (suc from) d + taken_by (suc from) to d
taken_split d from to l = grind arith

bits_split : (ds : List Departure) (from to : ℕ) → from < to → bits_over from to ds ≡ bits_over from (suc from) ds + bits_over (suc from) to ds
bits_split [] from to l = refl
bits_split (d ∷ ds) from to l = omega (arith, taken_split d from to l, bits_split ds from to l)

-- once one has the line no later one has
none_later : (ds : List Departure) (d : Departure) (t : ℕ) → t < d.end → All (λ e. d.end ≤ e.start) ds → bits_over t (suc t) ds ≡ 0
none_later [] d t on later = refl
none_later (e ∷ ds) d t on later = grind (arith, none_later ds d t on (All-tail (λ x. d.end ≤ x.start) e ds later), All-head, lt-leb, taken_one, All-tail)

-- in one bit time the line sends class B exactly where a departure of it has the line
bits_one : (ds : List Departure) (t : ℕ) → AllPairs (λ d e. d.end ≤ e.start) ds → bits_over t (suc t) ds ≡ cond (list_any (is_sending B t) ds) 1 0
bits_one [] t apart = refl
bits_one (d ∷ ds) t apart =
    let R : Departure → Departure → Type 0 = λ x y. x.end ≤ y.start in
    let one = taken_one d t in
    elim (cases_Bool (is_sending B t d)) [
      | inl on ↦
          let now : taken_by t (suc t) d ≡ 1 = one ∙ to_number (is_sending B t d) true on in
          let none : bits_over t (suc t) ds ≡ 0 = none_later ds d t (ends_after d t on) (λ k e below. apart zero (suc k) e (omega arith) (omega (arith, below))) in
          let is : cond (list_any (is_sending B t) (d ∷ ds)) 1 0 ≡ 1 = to_number (list_any (is_sending B t) (d ∷ ds)) true (ap (λ b. b || list_any (is_sending B t) ds) on) in
          omega (arith, now, none, is)
      | inr off ↦
          let now : taken_by t (suc t) d ≡ 0 = one ∙ to_number (is_sending B t d) false off in
          let rest = bits_one ds t (λ i j e lt below. apart (suc i) (suc j) e (omega (arith, lt)) (omega (arith, below))) in
          let is : cond (list_any (is_sending B t) (d ∷ ds)) 1 0 ≡ cond (list_any (is_sending B t) ds) 1 0
          = to_number (list_any (is_sending B t) (d ∷ ds)) (list_any (is_sending B t) ds) (ap (λ b. b || list_any (is_sending B t) ds) off) in
          omega (arith, now, rest, is)
    ]
  where
    ends_after : (d : Departure) (t : ℕ) → is_sending B t d ≡ true → t < d.end
    ends_after d t on = ltb-true t d.end (and_parts (nat_le d.start t) (nat_lt t d.end) (and_parts (departs_as B d) (nat_le d.start t && nat_lt t d.end) on).1).1

bits_none : (ds : List Departure) (from : ℕ) → bits_over from from ds ≡ 0
bits_none [] from = refl
bits_none (d ∷ ds) from = grind (arith, bits_none ds from)

-- over a window
pub bits_are : (input : PortInput) (ds : List Departure) (from n : ℕ) → AllPairs (λ d e. d.end ≤ e.start) ds
    → ((t : ℕ) → t < from + n → is_on_line input B t ≡ list_any (is_sending B t) ds)
    → bits_over from (from + n) ds ≡ count_by (is_on_line input B) (range_with_len from n)
bits_are input ds from zero apart line =
    let at : from + 0 ≡ from = omega arith in
    ap (λ to. bits_over from to ds) at ∙ bits_none ds from
bits_are input ds from (suc n) apart line =
    let at : from + suc n ≡ suc from + n = omega arith in
    let next : suc from ≡ from + 1 = omega arith in
    let one : bits_over from (suc from) ds ≡ cond (is_on_line input B from) 1 0 =
    bits_one ds from apart ∙ to_number (list_any (is_sending B from) ds) (is_on_line input B from) (sym (line from (omega arith))) in
    let rest : bits_over (suc from) (suc from + n) ds ≡ count_by (is_on_line input B) (range_with_len (suc from) n) =
    bits_are input ds (suc from) n apart (λ t l. line t (omega (arith, l))) in
    let count : count_by (is_on_line input B) (range_with_len (suc from) n) ≡ count_by (is_on_line input B) (range_with_len (from + 1) n) =
    ap (λ k. count_by (is_on_line input B) (range_with_len k n)) next in
    let all = sum_by-cons (λ t. cond (is_on_line input B t) 1 0) from (range_with_len (from + 1) n) in
    let whole : bits_over from (from + suc n) ds ≡ bits_over from (suc from + n) ds = ap (λ to. bits_over from to ds) at in
    let split = bits_split ds from (suc from + n) (omega arith) in
    omega (arith, whole, split, one, rest, count, all)

-- ---- the slopes' area

sum_same : (f g : ℕ → ℕ) (from n : ℕ) → ((t : ℕ) → from ≤ t → t < from + n → f t ≡ g t) → sum_by f (range_with_len from n) ≡ sum_by g (range_with_len from n)
sum_same f g from zero each = refl
sum_same f g from (suc n) each = grind (arith, sum_same f g (from + 1) n (λ t low high. each t (omega (arith, low)) (omega (arith, high))), sum_by-cons)

sum_const : (f : ℕ → ℕ) (slope from n : ℕ) → ((t : ℕ) → from ≤ t → t < from + n → f t ≡ slope) → sum_by f (range_with_len from n) ≡ n * slope
sum_const f slope from zero each = omega arith
sum_const f slope from (suc n) each = grind (arith, sum_const f slope (from + 1) n (λ t low high. each t (omega (arith, low)) (omega (arith, high))), sum_by-cons)

sum_parts : (f : ℕ → ℕ) (from m n : ℕ) → sum_by f (range_with_len from (m + n)) ≡ sum_by f (range_with_len from m) + sum_by f (range_with_len (from + m) n)
sum_parts f from zero n = grind arith
sum_parts f from (suc m) n =
    let rest = sum_parts f (from + 1) m n in
    let size : suc m + n ≡ suc (m + n) = omega arith in
    let whole : sum_by f (range_with_len from (suc m + n)) ≡ sum_by f (range_with_len from (suc (m + n))) = ap (λ k. sum_by f (range_with_len from k)) size in
    let at : sum_by f (range_with_len (from + 1 + m) n) ≡ sum_by f (range_with_len (from + suc m) n) = ap (λ k. sum_by f (range_with_len k n)) (omega arith) in
    omega (arith, whole, sum_by-cons f from (range_with_len (from + 1) (m + n)), sum_by-cons f from (range_with_len (from + 1) m), rest, at)

-- before all changes the slope is that of before
change_none : (cs : List SlopeChange) (t : ℕ) (current : SlopeChange) → All (λ x. t < x.bit) cs → last_change t current cs ≡ current
change_none [] t current late = refl
change_none (c ∷ cs) t current late = grind (arith, change_none cs t current (All-tail (λ x. t < x.bit) c cs late), lt-leb, All-head, All-tail)

area_is : (cs : List SlopeChange) (from n : ℕ) (current : SlopeChange) → AllPairs (λ x y. x.bit < y.bit) cs
    → area_over from (from + n) current.slope_b cs ≡ sum_by (λ t. (last_change t current cs).slope_b) (range_with_len from n)
area_is [] from n current up =
    let size : from + n - from ≡ n = omega arith in
    ap (λ k. k * current.slope_b) size ∙ sym (sum_const (λ t. current.slope_b) current.slope_b from n (λ t low high. refl))
area_is (c ∷ cs) from n current up =
    let f : ℕ → ℕ = λ t. (last_change t current (c ∷ cs)).slope_b in
    let g : ℕ → ℕ = λ t. (last_change t c cs).slope_b in
    let to : ℕ = from + n in
    let next : ℕ = max from (min c.bit to) in
    let m : ℕ = next - from in
    let k : ℕ = n - m in
    let at : next ≡ from + m = omega arith in
    let few : m ≤ n = omega arith in
    let end : to ≡ next + k = omega arith in
    let size : n ≡ m + k = omega arith in
    let before : (t : ℕ) → from ≤ t → t < from + m → f t ≡ current.slope_b =
    λ t low high.
    let short : t < c.bit = omega (arith, high) in
    let late : All (λ x. t < x.bit) (c ∷ cs) = All-cons (λ x. t < x.bit) c cs short
    (λ i d below. let far : c.bit < (get_or cs i d).bit = up zero (suc i) d (omega arith) (omega (arith, below)) in omega (arith, short, far)) in
    ap (λ x. x.slope_b) (change_none (c ∷ cs) t current late) in
    let after : (t : ℕ) → from + m ≤ t → t < from + m + k → f t ≡ g t =
    λ t low high.
    let passed : c.bit ≤ t = omega (arith, low, high) in
    ap (λ b. (last_change t (cond b c current) cs).slope_b) (le-leb c.bit t passed) in
    let one = sum_const f current.slope_b from m before in
    let two = sum_same f g (from + m) k after in
    let parts = sum_parts f from m k in
    let rest : area_over next (next + k) c.slope_b cs ≡ sum_by g (range_with_len next k) =
    area_is cs next k c (λ i j d lt below. up (suc i) (suc j) d (omega (arith, lt)) (omega (arith, below))) in
    let there : sum_by g (range_with_len next k) ≡ sum_by g (range_with_len (from + m) k) = ap (λ x. sum_by g (range_with_len x k)) at in
    let far : area_over next to c.slope_b cs ≡ area_over next (next + k) c.slope_b cs = ap (λ x. area_over next x c.slope_b cs) end in
    let whole : sum_by f (range_with_len from n) ≡ sum_by f (range_with_len from (m + k)) = ap (λ x. sum_by f (range_with_len from x)) size in
    omega (arith, one, two, parts, rest, there, far, whole)

-- the area of an input's slopes
pub area_of : (input : PortInput) (from to : ℕ) → from ≤ to → AllPairs (λ x y. x.bit < y.bit) input.slopes
    → area_over from to 0 input.slopes ≡ area_b input from to
area_of input from to up order =
    let at : from + (to - from) ≡ to = omega (arith, up) in
    ap (λ k. area_over from k 0 input.slopes) (sym at) ∙ area_is input.slopes from (to - from) no_slopes order

-- the bits of an input's departures
pub bits_of_window : (input : PortInput) (ds : List Departure) (from to : ℕ) → from ≤ to → to ≤ input.end → AllPairs (λ d e. d.end ≤ e.start) ds
    → ((t : ℕ) → t < input.end → is_on_line input B t ≡ list_any (is_sending B t) ds) → bits_over from to ds ≡ bits_b input from to
bits_of_window input ds from to up short apart line =
    let at : from + (to - from) ≡ to = omega (arith, up) in
    ap (λ k. bits_over from k ds) (sym at) ∙ bits_are input ds from (to - from) apart (λ t l. line t (omega (arith, l, at, short)))

-- what departures take of a window is no more than the window
bits_few : (ds : List Departure) (from n : ℕ) → AllPairs (λ d e. d.end ≤ e.start) ds → bits_over from (from + n) ds ≤ n
bits_few ds from zero apart =
    let none : bits_over from (from + 0) ds ≡ 0 = ap (λ to. bits_over from to ds) (omega arith) ∙ bits_none ds from in
    omega (arith, none)
bits_few ds from (suc n) apart = grind (arith, bits_few ds (suc from) n apart, bits_split, bits_one)

pub bits_at_most : (ds : List Departure) (from to : ℕ) → from ≤ to → AllPairs (λ d e. d.end ≤ e.start) ds → bits_over from to ds ≤ to - from
bits_at_most ds from to up apart =
    let at : from + (to - from) ≡ to = omega (arith, up) in
    subst (λ (k : ℕ). bits_over from k ds ≤ to - from) at (bits_few ds from (to - from) apart)
