-- The first lines of a text, one line after the other.
use Rattle.std.proofs.Common.{◌≡◌, ℕ, zero, suc, ◌+◌, ◌<◌, ◌≤◌, Bool, true, false, List, [], ◌∷◌, ◌++◌, length, take, drop, if◌then◌else◌, append-nil, append_assoc, refl, sym, ap, ◌∙◌, arith}
use Rattle.std.proofs.Math.Seq.{take-add}
use Rattle.std.proofs.lemmas.{List.length-append, List.length-take, List.drop-drop}
use Rattle.file_places.specs.{first_line, first_lines, is_feed}

-- ---- one line

pub line_front : (xs : List ℕ) → first_line xs ≡ take (length (first_line xs)) xs
line_front [] = refl
line_front (c ∷ cs) = by (is_feed c) (line_front cs)
  where
    by : (t : Bool) → first_line cs ≡ take (length (first_line cs)) cs
        → (if t then c ∷ [] else c ∷ first_line cs) ≡ take (length (if t then c ∷ [] else c ∷ first_line cs)) (c ∷ cs)
    by true rest = refl
    by false rest = ap (λ (t : List ℕ). c ∷ t) rest

pub line_some : (xs : List ℕ) → 0 < length xs → 0 < length (first_line xs)
line_some [] h = absurd (omega arith)
line_some (c ∷ cs) h = by (is_feed c)
  where
    by : (t : Bool) → 0 < length (if t then c ∷ [] else c ∷ first_line cs)
    by true = omega arith
    by false = omega arith

pub line_within : (xs : List ℕ) → length (first_line xs) ≤ length xs
line_within xs = omega (arith, ap (λ (t : List ℕ). length t) (line_front xs), length-take (length (first_line xs)) xs)

-- ---- so many

pub lines_more : (n : ℕ) (xs : List ℕ) → first_lines (suc n) xs ≡ first_lines n xs ++ first_line (drop (length (first_lines n xs)) xs)
lines_more zero xs = append-nil (first_line xs)
lines_more (suc n) xs =
    let l = first_line xs in
    let ys = drop (length l) xs in
    let some = first_lines n ys in
    let place : drop (length some) ys ≡ drop (length (l ++ some)) xs =
    drop-drop (length some) (length l) xs ∙ ap (λ (k : ℕ). drop k xs) (sym (length-append l some)) in
    ap (λ (t : List ℕ). l ++ t) (lines_more n ys) ∙ (sym (append_assoc l some (first_line (drop (length some) ys)))
    ∙ ap (λ (t : List ℕ). (l ++ some) ++ first_line t) place)

pub lines_front : (n : ℕ) (xs : List ℕ) → first_lines n xs ≡ take (length (first_lines n xs)) xs
lines_front zero xs = refl
lines_front (suc n) xs =
    let l = first_line xs in
    let ys = drop (length l) xs in
    let some = first_lines n ys in
    ap (λ (t : List ℕ). t ++ some) (line_front xs)
    ∙ (ap (λ (t : List ℕ). take (length l) xs ++ t) (lines_front n ys)
    ∙ (sym (take-add (length l) (length some) xs) ∙ ap (λ (k : ℕ). take k xs) (sym (length-append l some))))

pub lines_within : (n : ℕ) (xs : List ℕ) → length (first_lines n xs) ≤ length xs
lines_within n xs = omega (arith, ap (λ (t : List ℕ). length t) (lines_front n xs), length-take (length (first_lines n xs)) xs)

-- a line more ends behind the next line
pub next_end : (n end next : ℕ) (xs : List ℕ) → end ≡ length (first_lines n xs) → next ≡ end + length (first_line (drop end xs))
    → next ≡ length (first_lines (n + 1) xs)
next_end n end next xs is to =
    let l = first_line (drop end xs) in
    let more : first_lines (suc n) xs ≡ first_lines n xs ++ l = lines_more n xs ∙ ap (λ (k : ℕ). first_lines n xs ++ first_line (drop k xs)) (sym is) in
    let size : length (first_lines (suc n) xs) ≡ length (first_lines n xs) + length l = ap (λ (t : List ℕ). length t) more ∙ length-append (first_lines n xs) l in
    let whole : next ≡ length (first_lines (suc n) xs) = omega (arith, is, to, size) in
    whole ∙ ap (λ (k : ℕ). length (first_lines k xs)) (let e : suc n ≡ n + 1 = omega arith in e)

pub end_front : (n end : ℕ) (xs : List ℕ) → end ≡ length (first_lines n xs) → take end xs ≡ first_lines n xs
end_front n end xs is = ap (λ (k : ℕ). take k xs) is ∙ sym (lines_front n xs)
