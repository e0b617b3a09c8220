-- The totals of a ledger's entries: one entry more, and a later moment.
use Rattle.std.proofs.Common.{◌≡◌, ℕ, ◌+◌, ◌<◌, ◌≤◌, ◌^◌, Bool, true, false, ◌&&◌, ◌||◌, ◌==◌, if◌then◌else◌, List, [], ◌∷◌, ◌++◌, filter, sum_by, take, drop, drop-cons, get_or, length, zero-add, Option, refl, sym, ap, ◌∙◌, arith}
use Rattle.std.specs.Prelude.{nat_lt}
use Rattle.std.specs.{List.AllByRecursion, List.list_any, List.Sorted.IsPermutation}
use Rattle.std.proofs.lemmas.{Bool.lt-ltb, Bool.Decides.nat_tests, List.Sorted.sum_by-IsPermutation, List.drop_all, List.take-append-drop, List.Sums.sum_by-cons}
use Rattle.srp_base.specs.declared.{numbers.Cs.Cs, bandwidth.Class.Class, bandwidth.Class.TheVariants.A, bandwidth.Class.TheVariants.B}
use Rattle.stream_importance.specs.declared.entry.Entry.{Entry}
use Rattle.stream_importance.specs.Importance.{class_number, moment_or, IsImportanceOrder}
use Rattle.port_ledger.specs.declared.totals.Totals.{Totals}
use Rattle.port_ledger.specs.{entry_slope, is_booked, IsKept, booked_slope, is_since, later_totals, new_within, slope_within, together, totals_of}
use Rattle.port_ledger.specs.Book.{Book}
use Rattle.port_ledger.proofs.{Moving.filter_permuted, Shares.book_within, Shares.is_of}

abbrev totals : ℕ → ℕ → ℕ → Totals
totals a b c = record { class_a = a; class_b = b; new_count = c }

made_of : (a b c d e f : ℕ) → a ≡ d → b ≡ e → c ≡ f → totals a b c ≡ totals d e f
made_of a b c d e f h k l = ap (λ n. totals n b c) h ∙ (ap (λ n. totals d n c) k ∙ ap (λ n. totals d e n) l)

-- the slopes of a class with one entry more
slope_by : (x : Entry) (xs : List Entry) (class : Class) (b t : Bool) → is_booked x ≡ b → class_number x.want.class == class_number class ≡ t
    → booked_slope (x ∷ xs) class ≡ (if b && t then x.want.slope else 0) + booked_slope xs class
slope_by x xs class true true booked at = rw booked (rw at (sum_by-cons entry_slope x (filter (λ y. class_number y.want.class == class_number class) (filter is_booked xs))))
slope_by x xs class true false booked at = rw booked (rw at (omega arith))
slope_by x xs class false t booked at = rw booked (omega arith)

slope-cons : (x : Entry) (xs : List Entry) (class : Class) → booked_slope (x ∷ xs) class ≡ slope_within x class + booked_slope xs class
slope-cons x xs class = slope_by x xs class (is_booked x) (class_number x.want.class == class_number class) refl refl

new-small : (moment : ℕ) (x : Entry) → new_within moment x ≤ 1
new-small moment x = elim (is_since moment x.since) as (λ v. (if v then 1 else 0) ≤ 1) [ true ↦ omega arith | false ↦ omega arith ]

-- a walk over the entries: what is found so far, and what is left to find
pub record WalksAt (moment : ℕ) (xs : List Entry) (class_a class_b new_count i : ℕ) : Type 0 where
  pub slopes_a : booked_slope xs A ≡ class_a + booked_slope (drop i xs) A
  pub slopes_b : booked_slope xs B ≡ class_b + booked_slope (drop i xs) B
  pub new : sum_by (new_within moment) xs ≡ new_count + sum_by (new_within moment) (drop i xs)
  pub few : new_count ≤ i

module _ (xs : List Entry) (i : ℕ) (x : Entry) (below : i < length xs) (at : x ≡ get_or xs i x) where
  rest_is : drop i xs ≡ x ∷ drop (i + 1) xs
  rest_is = grind (arith, drop-cons)

  slope-step : (class : Class) (sum : ℕ) → booked_slope xs class ≡ sum + booked_slope (drop i xs) class → booked_slope xs class ≡ (sum + slope_within x class) + booked_slope (drop (i + 1) xs) class
  slope-step class sum h = grind (arith, rest_is, slope-cons)

  pub slope-room : (class : Class) (sum : ℕ) → booked_slope xs class ≡ sum + booked_slope (drop i xs) class → sum + slope_within x class ≤ booked_slope xs class
  slope-room class sum h = let more = slope-step class sum h in omega (arith, more)

  new-step : (moment count : ℕ) → sum_by (new_within moment) xs ≡ count + sum_by (new_within moment) (drop i xs)
      → sum_by (new_within moment) xs ≡ (count + new_within moment x) + sum_by (new_within moment) (drop (i + 1) xs)
  new-step moment count h =
      let here : sum_by (new_within moment) (drop i xs) ≡ new_within moment x + sum_by (new_within moment) (drop (i + 1) xs) =
      ap (sum_by (new_within moment)) rest_is ∙ sum_by-cons (new_within moment) x (drop (i + 1) xs) in
      omega (arith, h, here)

  pub walks-on : (moment class_a class_b new_count : ℕ) → WalksAt moment xs class_a class_b new_count i
      → WalksAt moment xs (class_a + slope_within x A) (class_b + slope_within x B) (new_count + new_within moment x) (i + 1)
  walks-on moment class_a class_b new_count h = record {
    slopes_a = slope-step A class_a h.slopes_a;
    slopes_b = slope-step B class_b h.slopes_b;
    new = new-step moment new_count h.new;
    few = let small = new-small moment x in let so_far = h.few in omega (arith, small, so_far);
  }

-- no entry is left
pub walks-end : (moment : ℕ) (xs : List Entry) (class_a class_b new_count i : ℕ) → length xs ≤ i → WalksAt moment xs class_a class_b new_count i
    → record { class_a = class_a; class_b = class_b; new_count = new_count } ≡ totals_of moment xs
walks-end moment xs class_a class_b new_count i le h =
    let none : drop i xs ≡ [] = drop_all i xs le in
    let all_a : booked_slope xs A ≡ class_a + 0 = h.slopes_a ∙ ap (λ ys. class_a + booked_slope ys A) none in
    let all_b : booked_slope xs B ≡ class_b + 0 = h.slopes_b ∙ ap (λ ys. class_b + booked_slope ys B) none in
    let all_new : sum_by (new_within moment) xs ≡ new_count + 0 = h.new ∙ ap (λ ys. new_count + sum_by (new_within moment) ys) none in
    let a : class_a ≡ booked_slope xs A = omega (arith, all_a) in
    let b : class_b ≡ booked_slope xs B = omega (arith, all_b) in
    let new : new_count ≡ sum_by (new_within moment) xs = omega (arith, all_new) in
    made_of _ _ _ _ _ _ a b new

-- what is booked in both classes has 64 bits
pub totals_fit : (book : Book) → IsImportanceOrder book.moment → IsKept book → book.caps.both < 2 ^ 64 → booked_slope book.entries A + booked_slope book.entries B < 2 ^ 64
totals_fit book o kept range = let both = (book_within book o kept).both in omega (arith, both, range)

-- ---- time

none_new : (now : ℕ) (since : Option Cs) (moment : ℕ) → moment_or moment since ≤ moment → moment < now → is_since now since ≡ false
none_new now since moment h1 h2 = grind (arith, nat_tests)

-- no booking is of a moment after the ledger's
none_later : (moment now : ℕ) (xs : List Entry) → AllByRecursion (λ x. moment_or moment x.since ≤ moment) xs → moment < now → sum_by (new_within now) xs ≡ 0
none_later moment now [] h up = refl
none_later moment now (x ∷ xs) h up = grind (arith, none_later moment now xs h.1 up, none_new, sum_by-cons)

new_later : (moment now : ℕ) (xs : List Entry) (b : Bool) → nat_lt moment now ≡ b → AllByRecursion (λ x. moment_or moment x.since ≤ moment) xs → moment ≤ now
    → (if b then 0 else sum_by (new_within moment) xs) ≡ sum_by (new_within now) xs
new_later moment now xs b h1 h2 h3 = grind (arith, none_later, nat_tests)

-- the totals at a later moment
pub totals_later : (moment now : ℕ) (xs : List Entry) (t : Totals) (moved : Bool) → t ≡ totals_of moment xs → moved ≡ nat_lt moment now
    → AllByRecursion (λ x. moment_or moment x.since ≤ moment) xs → moment ≤ now
    → later_totals moved t ≡ totals_of now xs
totals_later moment now xs t moved is moves h up = grind (arith, new_later)

-- some booking is of a moment exactly where they are counted
pub new_any : (moment : ℕ) (xs : List Entry) → nat_lt 0 (sum_by (new_within moment) xs) ≡ list_any (λ x. is_since moment x.since) xs
new_any moment [] = refl
new_any moment (x ∷ xs) =
    ap (nat_lt 0) (sum_by-cons (new_within moment) x xs) ∙ by_test (is_since moment x.since) (new_any moment xs)
  where
    by_test : (v : Bool) → nat_lt 0 (sum_by (new_within moment) xs) ≡ list_any (λ y. is_since moment y.since) xs
        → nat_lt 0 ((if v then 1 else 0) + sum_by (new_within moment) xs) ≡ (v || list_any (λ y. is_since moment y.since) xs)
    by_test true h = lt-ltb 0 (1 + sum_by (new_within moment) xs) (omega arith)
    by_test false h = ap (nat_lt 0) (zero-add (sum_by (new_within moment) xs)) ∙ h

-- ---- lists together, and in another order

pub slope-join : (xs ys : List Entry) (class : Class) → booked_slope (xs ++ ys) class ≡ booked_slope xs class + booked_slope ys class
slope-join [] ys class = sym (zero-add (booked_slope ys class))
slope-join (x ∷ xs) ys class = grind (arith, slope-join xs ys class, slope-cons)

new-join : (moment : ℕ) (xs ys : List Entry) → sum_by (new_within moment) (xs ++ ys) ≡ sum_by (new_within moment) xs + sum_by (new_within moment) ys
new-join moment [] ys = sym (zero-add (sum_by (new_within moment) ys))
new-join moment (x ∷ xs) ys =
    let one = sum_by-cons (new_within moment) x (xs ++ ys) in
    let own = sum_by-cons (new_within moment) x xs in
    let rest = new-join moment xs ys in
    omega (arith, one, own, rest)

pub totals-join : (moment : ℕ) (xs ys : List Entry) → totals_of moment (xs ++ ys) ≡ together (totals_of moment xs) (totals_of moment ys)
totals-join moment xs ys = made_of _ _ _ _ _ _ (slope-join xs ys A) (slope-join xs ys B) (new-join moment xs ys)

pub slope-permuted : (xs ys : List Entry) (class : Class) → IsPermutation xs ys → booked_slope ys class ≡ booked_slope xs class
slope-permuted xs ys class p = grind (arith, sum_by-IsPermutation, is_of, filter_permuted)

pub totals-permuted : (moment : ℕ) (xs ys : List Entry) → IsPermutation xs ys → totals_of moment ys ≡ totals_of moment xs
totals-permuted moment xs ys p = grind (arith, made_of, slope-permuted, sum_by-IsPermutation)

-- what is left of a whole without a part
pub less-is : (whole front part rest : Totals) → together front part ≡ whole → whole ≡ together rest part → front ≡ rest
less-is whole front part rest h k = grind (arith, made_of)

-- there are no more new ones than entries
pub new-few : (moment : ℕ) (xs : List Entry) → sum_by (new_within moment) xs ≤ length xs
new-few moment [] = omega arith
new-few moment (x ∷ xs) =
    let one = sum_by-cons (new_within moment) x xs in
    let small = new-small moment x in
    let rest = new-few moment xs in
    omega (arith, one, small, rest)

-- a front and what is behind it make the whole
pub totals-parts : (moment n : ℕ) (xs : List Entry) → together (totals_of moment (take n xs)) (totals_of moment (drop n xs)) ≡ totals_of moment xs
totals-parts moment n xs = sym (totals-join moment (take n xs) (drop n xs)) ∙ ap (totals_of moment) (take-append-drop n xs)

pub slope-parts : (n : ℕ) (xs : List Entry) (class : Class) → booked_slope (take n xs) class + booked_slope (drop n xs) class ≡ booked_slope xs class
slope-parts n xs class = sym (slope-join (take n xs) (drop n xs) class) ∙ ap (λ ys. booked_slope ys class) (take-append-drop n xs)

pub rest-fits : (n : ℕ) (xs ys : List Entry) → ys ≡ drop n xs → booked_slope xs A + booked_slope xs B < 2 ^ 64 → booked_slope ys A + booked_slope ys B < 2 ^ 64
rest-fits n xs ys e h =
    let a = slope-parts n xs A in
    let b = slope-parts n xs B in
    let same_a = ap (λ zs. booked_slope zs A) e in
    let same_b = ap (λ zs. booked_slope zs B) e in
    omega (arith, a, b, same_a, same_b, h)

-- what a front and what is behind it come to has 64 bits
pub record PartsFit (front part : Totals) : Type 0 where
  pub class_a : front.class_a + part.class_a < 2 ^ 64
  pub class_b : front.class_b + part.class_b < 2 ^ 64
  pub new_count : front.new_count + part.new_count < 2 ^ 64

pub parts-fit : (moment n : ℕ) (xs ys : List Entry) (front part : Totals) → front ≡ totals_of moment (take n xs) → part ≡ totals_of moment ys → ys ≡ drop n xs
    → booked_slope xs A + booked_slope xs B < 2 ^ 64 → length xs < 2 ^ 64 → PartsFit front part
parts-fit moment n xs ys front part f p e h long =
    let all : together front part ≡ totals_of moment xs =
    ap (λ t. together t part) f ∙ (ap (together (totals_of moment (take n xs))) (p ∙ ap (totals_of moment) e) ∙ totals-parts moment n xs) in
    let a : front.class_a + part.class_a ≡ booked_slope xs A = ap (λ (t : Totals). t.class_a) all in
    let b : front.class_b + part.class_b ≡ booked_slope xs B = ap (λ (t : Totals). t.class_b) all in
    let c : front.new_count + part.new_count ≡ sum_by (new_within moment) xs = ap (λ (t : Totals). t.new_count) all in
    let few = new-few moment xs in
    record {
      class_a = omega (arith, a, h);
      class_b = omega (arith, b, h);
      new_count = omega (arith, c, few, long);
    }

-- what is behind a front is within the whole
pub record IsPart (part whole : Totals) : Type 0 where
  pub class_a : part.class_a ≤ whole.class_a
  pub class_b : part.class_b ≤ whole.class_b
  pub new_count : part.new_count ≤ whole.new_count

pub part-within : (moment n : ℕ) (xs ys : List Entry) (whole part : Totals) → whole ≡ totals_of moment xs → part ≡ totals_of moment ys → ys ≡ drop n xs → IsPart part whole
part-within moment n xs ys whole part w p e =
    let front : Totals = totals_of moment (take n xs) in
    let all : together front part ≡ whole = ap (together front) (p ∙ ap (totals_of moment) e) ∙ (totals-parts moment n xs ∙ sym w) in
    let a : front.class_a + part.class_a ≡ whole.class_a = ap (λ (t : Totals). t.class_a) all in
    let b : front.class_b + part.class_b ≡ whole.class_b = ap (λ (t : Totals). t.class_b) all in
    let c : front.new_count + part.new_count ≡ whole.new_count = ap (λ (t : Totals). t.new_count) all in
    record { class_a = omega (arith, a); class_b = omega (arith, b); new_count = omega (arith, c) }

pub front-is : (moment n : ℕ) (xs ys : List Entry) (whole front part : Totals) → whole ≡ totals_of moment xs → part ≡ totals_of moment ys → ys ≡ drop n xs
    → together front part ≡ whole → front ≡ totals_of moment (take n xs)
front-is moment n xs ys whole front part w p e h = grind (arith, less-is, totals-parts)
