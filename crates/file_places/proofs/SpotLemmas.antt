-- The place behind one octet more.
use Rattle.std.proofs.Common.{◌≡◌, ℕ, ◌+◌, Bool, true, false, not, List, [], ◌∷◌, ◌++◌, if◌then◌else◌, reverse, cond, refl, ap, ◌∙◌, arith}
use Rattle.std.specs.Prelude.{count_by}
use Rattle.std.specs.List.{take_while}
use Rattle.std.proofs.lemmas.{List.reverse-append, List.Sums.take_while-cons, List.Sums.sum_by_push}
use Rattle.file_places.specs.declared.place.Spot.{Spot}
use Rattle.file_places.specs.{is_feed, last_line, spot_behind, spot_of, starts_character}

-- one octet more is counted or not
counted : (p : ℕ → Bool) (xs : List ℕ) (c : ℕ) → count_by p (xs ++ c ∷ []) ≡ count_by p xs + cond (p c) 1 0
counted p xs c = sum_by_push (λ x. cond (p x) 1 0) xs c

last_push : (xs : List ℕ) (c : ℕ) → last_line (xs ++ c ∷ []) ≡ (if is_feed c then [] else last_line xs ++ c ∷ [])
last_push xs c =
    ap (λ (ys : List ℕ). reverse (take_while (λ d. not (is_feed d)) ys)) (reverse-append xs (c ∷ []))
    ∙ (ap (λ (ys : List ℕ). reverse ys) (take_while-cons (λ d. not (is_feed d)) c (reverse xs)) ∙ by (is_feed c))
  where
    by : (t : Bool) → reverse (cond (not t) (c ∷ take_while (λ d. not (is_feed d)) (reverse xs)) [])
        ≡ (if t then [] else reverse (take_while (λ d. not (is_feed d)) (reverse xs)) ++ c ∷ [])
    by true = refl
    by false = reverse-append (c ∷ []) (take_while (λ d. not (is_feed d)) (reverse xs))

abbrev at : ℕ → ℕ → Spot
at line column = record { line = line; column = column }

pub spot_push : (xs : List ℕ) (c : ℕ) → spot_of (xs ++ c ∷ []) ≡ spot_behind (spot_of xs) c
spot_push xs c =
    let n = count_by is_feed xs in
    ap (λ (k : ℕ). at (1 + k) (1 + count_by starts_character (last_line (xs ++ c ∷ [])))) (counted is_feed xs c)
    ∙ (ap (λ (ys : List ℕ). at (1 + (n + cond (is_feed c) 1 0)) (1 + count_by starts_character ys)) (last_push xs c) ∙ by (is_feed c))
  where
    by : (t : Bool)
        → at (1 + (count_by is_feed xs + cond t 1 0)) (1 + count_by starts_character (if t then [] else last_line xs ++ c ∷ []))
        ≡ (if t then at (1 + count_by is_feed xs + 1) 1
        else if starts_character c then at (1 + count_by is_feed xs) (1 + count_by starts_character (last_line xs) + 1)
        else at (1 + count_by is_feed xs) (1 + count_by starts_character (last_line xs)))
    by true =
        let n = count_by is_feed xs in
        ap (λ (k : ℕ). at k 1) (let e : 1 + (n + 1) ≡ 1 + n + 1 = omega arith in e)
    by false =
        let n = count_by is_feed xs in
        ap (λ (k : ℕ). at k (1 + count_by starts_character (last_line xs ++ c ∷ []))) (let e : 1 + (n + 0) ≡ 1 + n = omega arith in e)
        ∙ (ap (λ (k : ℕ). at (1 + n) (1 + k)) (counted starts_character (last_line xs) c) ∙ inner (starts_character c))
      where
        inner : (u : Bool) → at (1 + count_by is_feed xs) (1 + (count_by starts_character (last_line xs) + cond u 1 0))
            ≡ (if u then at (1 + count_by is_feed xs) (1 + count_by starts_character (last_line xs) + 1)
            else at (1 + count_by is_feed xs) (1 + count_by starts_character (last_line xs)))
        inner true =
            let m = count_by starts_character (last_line xs) in
            ap (λ (k : ℕ). at (1 + count_by is_feed xs) k) (let e : 1 + (m + 1) ≡ 1 + m + 1 = omega arith in e)
        inner false =
            let m = count_by starts_character (last_line xs) in
            ap (λ (k : ℕ). at (1 + count_by is_feed xs) k) (let e : 1 + (m + 0) ≡ 1 + m = omega arith in e)
