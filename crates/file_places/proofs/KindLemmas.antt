-- The lines of a text, one after the other, and which of them are of a kind.
use Rattle.std.proofs.Common.{◌≡◌, ℕ, zero, suc, ◌+◌, ◌<◌, ◌-◌, Bool, true, false, not, ◌&&◌, ◌||◌, cond, Some, List, [], ◌∷◌, length, take, drop, get_or, if◌then◌else◌, refl, sym, ap, ◌∙◌, arith}
use Rattle.std.specs.Prelude.{count_by}
use Rattle.std.specs.List.{before_first}
use Rattle.std.proofs.lemmas.{List.drop-drop, List.length-drop, List.length-take-le, List.Sums.count_by_more_yes, List.Sums.count_by_more_no, List.Sums.sum_by-cons, List.Sums.take_while-cons}
use Rattle.file_places.specs.{Item, LineKind, Opening, Sought, first_line, first_tried, has_opening, is_among, is_begin, is_begun, is_feed, is_of_kind, items_before, items_skipped, lines_of, with_front}
use Rattle.file_places.proofs.LineLemmas.{line_front}

-- ---- lines

pub lines_here : (xs : List ℕ) → 0 < length xs → lines_of xs ≡ first_line xs ∷ lines_of (drop (length (first_line xs)) xs)
lines_here [] h = absurd (omega arith)
lines_here (c ∷ []) h = by (is_feed c)
  where
    by : (t : Bool) → (if t then (c ∷ []) ∷ [] else (c ∷ []) ∷ [])
        ≡ (if t then c ∷ [] else c ∷ []) ∷ lines_of (drop (length (if t then c ∷ [] else c ∷ [])) (c ∷ []))
    by true = refl
    by false = refl
lines_here (c ∷ d ∷ xs) h = by (is_feed c) (lines_here (d ∷ xs) (omega arith))
  where
    by : (t : Bool) → lines_of (d ∷ xs) ≡ first_line (d ∷ xs) ∷ lines_of (drop (length (first_line (d ∷ xs))) (d ∷ xs))
        → (if t then (c ∷ []) ∷ lines_of (d ∷ xs) else with_front c (lines_of (d ∷ xs)))
        ≡ (if t then c ∷ [] else c ∷ first_line (d ∷ xs)) ∷ lines_of (drop (length (if t then c ∷ [] else c ∷ first_line (d ∷ xs))) (c ∷ d ∷ xs))
    by true rest = refl
    by false rest = ap (with_front c) rest

-- what a list has from a place on
pub record IsFrom {A : Type 0} (xs : List A) (n : ℕ) (y : A) (ys : List A) : Type 0 where
  pub inside : n < length xs
  pub here : (d : A) → get_or xs n d ≡ y
  pub rest : drop (n + 1) xs ≡ ys

pub from_drop : {A : Type 0} (xs : List A) (n : ℕ) (y : A) (ys : List A) → drop n xs ≡ y ∷ ys → IsFrom xs n y ys
from_drop [] zero y ys e = cc
from_drop [] (suc n) y ys e = cc
from_drop (x ∷ xs) zero y ys e = record { inside = omega arith; here = λ d. cc; rest = cc }
from_drop {A} (x ∷ xs) (suc n) y ys e =
    let f : IsFrom xs n y ys = from_drop xs n y ys e in
    let place : suc n + 1 ≡ suc (n + 1) = omega arith in
    record { inside = omega (arith, f.inside); here = f.here; rest = ap (λ (k : ℕ). drop k (x ∷ xs)) place ∙ f.rest }

-- the lines from a place on, of which the first ends here
pub lines_at : (xs : List ℕ) (at end : ℕ) → at < length xs → end ≡ at + length (first_line (drop at xs))
    → lines_of (drop at xs) ≡ first_line (drop at xs) ∷ lines_of (drop end xs)
lines_at xs at end below to =
    let ys = drop at xs in
    let l = first_line ys in
    let place : drop (length l) ys ≡ drop end xs = drop-drop (length l) at xs ∙ ap (λ (k : ℕ). drop k xs) (sym to) in
    lines_here ys (omega (arith, below, length-drop at xs)) ∙ ap (λ (zs : List ℕ). l ∷ lines_of zs) place

-- the line that begins at a place, and those behind it
pub line_from : (xs : List ℕ) (n at end : ℕ) → at < length xs → drop n (lines_of xs) ≡ lines_of (drop at xs) → end ≡ at + length (first_line (drop at xs))
    → IsFrom (lines_of xs) n (first_line (drop at xs)) (lines_of (drop end xs))
line_from xs n at end below rest to =
    from_drop (lines_of xs) n (first_line (drop at xs)) (lines_of (drop end xs)) (rest ∙ lines_at xs at end below to)

-- ---- lines of a kind

-- one line more is counted or not
pub kind_more : (kind : LineKind) (array : List ℕ) (lines : List (List ℕ)) (n : ℕ) (l : List ℕ) (is : Bool) → n < length lines → get_or lines n l ≡ l → is ≡ is_of_kind kind array l
    → count_by (is_of_kind kind array) (take (n + 1) lines) ≡ count_by (is_of_kind kind array) (take n lines) + cond is 1 0
kind_more kind array lines n l true inside here is = count_by_more_yes (is_of_kind kind array) lines n l inside (ap (is_of_kind kind array) here ∙ sym is)
kind_more kind array lines n l false inside here is =
    count_by_more_no (is_of_kind kind array) lines n l inside (ap (is_of_kind kind array) here ∙ sym is) ∙ (let e : count_by (is_of_kind kind array) (take n lines) ≡ count_by (is_of_kind kind array) (take n lines) + 0 = omega arith in e)

-- what is told of the octets of a line is told of the line
pub kind_is : (kind : LineKind) (array xs : List ℕ) (at end : ℕ) (is : Bool) → end ≡ at + length (first_line (drop at xs))
    → is ≡ is_of_kind kind array (take (end - at) (drop at xs)) → is ≡ is_of_kind kind array (first_line (drop at xs))
kind_is kind array xs at end is to said =
    let size : end - at ≡ length (first_line (drop at xs)) = omega (arith, to) in
    said ∙ ap (is_of_kind kind array) (ap (λ (k : ℕ). take k (drop at xs)) size ∙ sym (line_front (drop at xs)))

-- what is sought begins with the line that ends here or doesn't, as it is told of its octets
pub begin_told : (kind : LineKind) (sought : Sought) (word : List ℕ) (skipped number : ℕ) (xs : List ℕ) (n found at end : ℕ) (is tried begun : Bool) → number ≡ first_tried sought → at < length xs
    → drop n (lines_of xs) ≡ lines_of (drop at xs) → end ≡ at + length (first_line (drop at xs))
    → found ≡ count_by (is_of_kind kind word) (take n (lines_of xs)) → is ≡ is_of_kind kind word (take (end - at) (drop at xs))
    → tried ≡ (is && is_among number (found + 1 - skipped)) → begun ≡ (tried && is_begun sought word xs (n + 1))
    → (d : List ℕ) → is_begin kind sought word skipped xs (take n (lines_of xs)) (get_or (lines_of xs) n d) ≡ begun
begin_told kind sought word skipped number xs n found at end is tried begun from below rest to many said try_is begin_is d =
    let l = first_line (drop at xs) in
    let earlier = take n (lines_of xs) in
    let f : IsFrom (lines_of xs) n l (lines_of (drop end xs)) = line_from xs n at end below rest to in
    let told : is ≡ is_of_kind kind word l = kind_is kind word xs at end is to said in
    let size : length earlier ≡ n = length-take-le n (lines_of xs) (omega (arith, f.inside)) in
    ap (is_begin kind sought word skipped xs earlier) (f.here d)
    ∙ (ap (λ (k : ℕ). (is_of_kind kind word l && is_among k (count_by (is_of_kind kind word) earlier + 1 - skipped)) && is_begun sought word xs (length earlier + 1)) (sym from)
    ∙ (ap (λ (b : Bool). (b && is_among number (count_by (is_of_kind kind word) earlier + 1 - skipped)) && is_begun sought word xs (length earlier + 1)) (sym told)
    ∙ (ap (λ (k : ℕ). (is && is_among number (k + 1 - skipped)) && is_begun sought word xs (length earlier + 1)) (sym many)
    ∙ (ap (λ (k : ℕ). (is && is_among number (found + 1 - skipped)) && is_begun sought word xs (k + 1)) size
    ∙ (ap (λ (b : Bool). b && is_begun sought word xs (n + 1)) (sym try_is) ∙ sym begin_is)))))

-- ---- the line in which an array opens

-- what the line in front says of all
pub record OpensBehind (array line : List ℕ) (lines rest : List (List ℕ)) : Type 0 where
  pub opens : has_opening array lines ≡ has_opening array rest
  pub items : items_before array lines ≡ cond (is_of_kind Item array line) 1 0 + items_before array rest

pub record OpensHere (array : List ℕ) (lines : List (List ℕ)) : Type 0 where
  pub opens : has_opening array lines ≡ true
  pub items : items_before array lines ≡ 0

front_items : (array line : List ℕ) (rest : List (List ℕ))
    → items_before array (line ∷ rest) ≡ count_by (is_of_kind Item array) (cond (not (is_of_kind Opening array line)) (line ∷ before_first (is_of_kind Opening array) rest) [])
front_items array line rest = ap (λ (ls : List (List ℕ)). count_by (is_of_kind Item array) ls) (take_while-cons (λ l. not (is_of_kind Opening array l)) line rest)

pub opens_here : (array line : List ℕ) (lines rest : List (List ℕ)) → lines ≡ line ∷ rest → is_of_kind Opening array line ≡ true → OpensHere array lines
opens_here array line lines rest whole is = record {
  opens = ap (has_opening array) whole ∙ ap (λ (b : Bool). b || has_opening array rest) is;
  items = ap (items_before array) whole ∙ front_items array line rest ∙ ap (λ (b : Bool). count_by (is_of_kind Item array) (cond (not b) (line ∷ before_first (is_of_kind Opening array) rest) [])) is;
}

pub opens_behind : (array line : List ℕ) (lines rest : List (List ℕ)) → lines ≡ line ∷ rest → is_of_kind Opening array line ≡ false → OpensBehind array line lines rest
opens_behind array line lines rest whole off = record {
  opens = ap (has_opening array) whole ∙ ap (λ (b : Bool). b || has_opening array rest) off;
  items = ap (items_before array) whole ∙ front_items array line rest ∙ ap (λ (b : Bool). count_by (is_of_kind Item array) (cond (not b) (line ∷ before_first (is_of_kind Opening array) rest) [])) off
      ∙ sum_by-cons (λ l. cond (is_of_kind Item array l) 1 0) line (before_first (is_of_kind Opening array) rest);
}

-- so many are skipped
pub skipped_here : (array xs : List ℕ) (lines : List (List ℕ)) (found : ℕ) → OpensHere array lines
    → has_opening array lines ≡ has_opening array (lines_of xs) → found + items_before array lines ≡ items_before array (lines_of xs)
    → Some found ≡ items_skipped array xs
skipped_here array xs lines found here opens items =
    let all : found ≡ items_before array (lines_of xs) = omega (arith, here.items, items) in
    rw (sym opens ∙ here.opens) (ap Some all)
