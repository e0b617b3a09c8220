-- Which words write a number.
use Rattle.std.proofs.Common.{◌≡◌, ℕ, ◌<◌, true, false, List, refl, sym, ap, subst, ◌∙◌, inl, inr, arith}
use Rattle.std.specs.Prelude.{◌^◌, nat_eq, nat_lt, ◌&&◌, Option, Some, None}
use Rattle.std.specs.{Cmp.Lexicographic.pointwise, Cmp.Lexicographic.bytes_decides, Fmt.decimal, Str.Parse.digits_value}
use Rattle.std.proofs.lemmas.{Bool.cases_Bool, Bool.Decides.Decides-ltb, Bool.Decides.Decides-and, Fmt.decimal_is_IsNumeral}
use Rattle.report_words.specs.{number_of_word}

-- a word is the text of just the number that it is found to write
pub writes-number : (word : List ℕ) (n : ℕ) → n < 2 ^ 32 → word ≡ decimal n → number_of_word word ≡ Some n
writes-number word n small is =
    let value : digits_value 10 word ≡ n = ap (digits_value 10) is ∙ (decimal_is_IsNumeral n (omega (arith, small))).1 in
    let below : nat_lt (digits_value 10 word) (2 ^ 32) ≡ true = (Decides-ltb (digits_value 10 word) (2 ^ 32)).1 (subst (λ (k : ℕ). k < 2 ^ 32) (sym value) small) in
    let same : pointwise nat_eq word (decimal (digits_value 10 word)) ≡ true = (bytes_decides word (decimal (digits_value 10 word))).1 (is ∙ ap decimal (sym value)) in
    rw (below, same) (ap Some value)

-- a word that is the text of no number writes none
pub writes-none : (word : List ℕ) → ((n : ℕ) → n < 2 ^ 32 → word ≡ decimal n → ⊥) → number_of_word word ≡ None
writes-none word none =
    let value = digits_value 10 word in
    let test = nat_lt value (2 ^ 32) && pointwise nat_eq word (decimal value) in
    let decides = Decides-and (nat_lt value (2 ^ 32)) (pointwise nat_eq word (decimal value)) (Decides-ltb value (2 ^ 32)) (bytes_decides word (decimal value)) in
    elim (cases_Bool test) [
      | inl is ↦ let both = decides.0 is in absurd (none value both.0 both.1)
      | inr nay ↦ rw nay refl
    ]
