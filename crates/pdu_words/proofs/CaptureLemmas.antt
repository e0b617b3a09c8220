-- The first line of a text.
use Rattle.std.proofs.Common.{◌≡◌, ℕ, zero, suc, ◌+◌, ◌<◌, ◌≤◌, true, false, ◌==◌, List, [], ◌∷◌, length, take, drop, refl, ap, ◌∙◌, arith}
use Rattle.std.specs.Prelude.{slice_index, ◌-◌}
use Rattle.std.proofs.lemmas.List.{take_all, length-drop}
use Rattle.std.proofs.lemmas.Bool.{false_from_ne_true as not-true}
use Rattle.std.specs.List.{list_all}
use Rattle.pdu_words.specs.{onto, lines_of, is_between, digits_of}

-- no line feed stands before a place
abbrev pub NoneBelow : List ℕ → ℕ → Type 0
NoneBelow text i = (k : ℕ) → 0 ≤ k → k < i → (slice_index text k == 10) ≡ true → ⊥

later : (c : ℕ) (cs : List ℕ) (i : ℕ) → NoneBelow (c ∷ cs) (suc i) → NoneBelow cs i
later c cs i none k low high = none (suc k) (omega arith) (omega (arith, high))

-- one line feed, and none before it
cut_at : (text : List ℕ) (i : ℕ) → i < length text → NoneBelow text i → (slice_index text i == 10) ≡ true
    → lines_of text ≡ take i text ∷ lines_of (drop (suc i) text)
cut_at [] i lt none here = absurd (omega (arith, lt))
cut_at (c ∷ cs) zero lt none here = rw here refl
cut_at (c ∷ cs) (suc i) lt none here =
    let other : (c == 10) ≡ false = not-true (c == 10) (none 0 (omega arith) (omega arith)) in
    let rest : lines_of cs ≡ take i cs ∷ lines_of (drop (suc i) cs) = cut_at cs i (omega (arith, lt)) (later c cs i none) here in
    rw other (ap (onto c) rest)

pub first_at : (text : List ℕ) (i : ℕ) → i < length text → NoneBelow text i → (slice_index text i == 10) ≡ true
    → lines_of text ≡ take i text ∷ lines_of (drop (i + 1) text)
first_at text i lt none here =
    cut_at text i lt none here
    ∙ ap (λ (n : ℕ). take i text ∷ lines_of (drop n text)) (let same : suc i ≡ i + 1 = omega arith in same)

-- the rest, as a slice from behind the line feed to the end
pub rest_is : (text : List ℕ) (i : ℕ) → take (length text - i) (drop i text) ≡ drop i text
rest_is text i = take_all (length text - i) (drop i text) (let size = length-drop i text in omega (arith, size))

-- no line feed at all
pub one_line : (text : List ℕ) → 0 < length text → NoneBelow text (length text) → lines_of text ≡ text ∷ []
one_line [] lt none = absurd (omega (arith, lt))
one_line (c ∷ []) lt none =
    let other : (c == 10) ≡ false = not-true (c == 10) (none 0 (omega arith) (omega arith)) in
    rw other refl
one_line (c ∷ d ∷ ds) lt none =
    let other : (c == 10) ≡ false = not-true (c == 10) (none 0 (omega arith) (omega arith)) in
    let rest : lines_of (d ∷ ds) ≡ (d ∷ ds) ∷ [] = one_line (d ∷ ds) (omega arith) (later c (d ∷ ds) (length (d ∷ ds)) none) in
    rw other (ap (onto c) rest)

-- a line has no digits exactly where all of it may stand between octets
pub no_digits : (line : List ℕ) → (length (digits_of line) == 0) ≡ list_all is_between line
no_digits [] = refl
no_digits (c ∷ cs) = let rest : (length (digits_of cs) == 0) ≡ list_all is_between cs = no_digits cs in grind (arith, rest)
