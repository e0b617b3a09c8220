-- What the form of a line says, part by part, and of lines one after the other.
use Rattle.std.proofs.Common.{◌≡◌, ℕ, suc, ◌+◌, ◌<◌, ◌≤◌, ◌^◌, Bool, List, [], ◌∷◌, ◌++◌, length, take, refl, sym, ap, subst, ◌∙◌, inl, inr, append_assoc, arith}
use Rattle.std.specs.Prelude.{IsTrue, ◌↔◌, nat_le}
use Rattle.std.specs.Fmt.{decimal}
use Rattle.std.proofs.lemmas.{Bool.cases_lt, Bool.Decides.nat_tests, Fmt.decimal_injective, List.append-nil, List.length-append}
use Rattle.srp_base.proofs.Lists.{behind_same}
use Rattle.journal_audit.specs.{Known, lines_of, IsWordThen, IsNumeralOf, IsFormed, AreFormed, IsFirstUnformed}

-- a word and a space stand at a text's beginning in one way alone
pub word_then : (P : List ℕ → Type 0) (word text rest : List ℕ) (b : Bool) → text ≡ word ++ 32 ∷ rest → (IsTrue b ↔ P rest) → (IsTrue b ↔ IsWordThen P word text)
word_then P word text rest b is decides = (
  (λ t. record { rest = rest; is = is; then = decides.0 t }),
  (λ h. decides.1 (subst P (same h.rest (sym h.is ∙ is)) h.then)),
)
  where
    same : (other : List ℕ) → word ++ 32 ∷ other ≡ word ++ 32 ∷ rest → other ≡ rest
    same other e = let whole : 32 ∷ other ≡ 32 ∷ rest = behind_same word (32 ∷ other) (32 ∷ rest) e in cc

-- digits are those of one number alone
pub numeral_is : (events n : ℕ) (digits : List ℕ) → n < 2 ^ 32 → events < 2 ^ 32 → digits ≡ decimal n → (h : IsNumeralOf events digits) → h.entry ≡ n
numeral_is events n digits small few is h =
    let upto = h.upto in
    decimal_injective h.entry n (omega (arith, upto, few)) (omega (arith, small)) (sym h.is ∙ is)

pub numeral_made : (events n : ℕ) (digits : List ℕ) → n < 2 ^ 32 → events < 2 ^ 32 → digits ≡ decimal n → 1 ≤ n → (IsTrue (nat_le n events) ↔ IsNumeralOf events digits)
numeral_made events n digits small few is from = (
  (λ t. record { entry = n; from = from; upto = grind (arith, nat_tests, t); is = is }),
  (λ h. let same = numeral_is events n digits small few is h in let upto = h.upto in grind (arith, nat_tests, same, upto)),
)

pub numeral_not : (events n : ℕ) (digits : List ℕ) → n < 2 ^ 32 → events < 2 ^ 32 → digits ≡ decimal n → n < 1 → (IsTrue (nat_le 1 n) ↔ IsNumeralOf events digits)
numeral_not events n digits small few is none = (
  (λ t. let strange : 1 ≤ n = grind (arith, nat_tests, t) in absurd (omega (arith, strange, none))),
  (λ h. let same = numeral_is events n digits small few is h in let from = h.from in absurd (omega (arith, same, from, none))),
)

-- ---- lines one after the other

pub take_own : {A : Type 0} (xs ys : List A) → take (length xs) (xs ++ ys) ≡ xs
take_own [] ys = refl
take_own (x ∷ xs) ys = ap (λ zs. x ∷ zs) (take_own xs ys)

pub take_one_more : {A : Type 0} (xs : List A) (y : A) (ys : List A) → take (suc (length xs)) (xs ++ y ∷ ys) ≡ xs ++ y ∷ []
take_one_more [] y ys = refl
take_one_more (x ∷ xs) y ys = ap (λ zs. x ∷ zs) (take_one_more xs y ys)

-- lines that are formed from a tick on are so from each tick before
lower : (known : Known) (s t : ℕ) (lines : List (List ℕ)) → t ≤ s → AreFormed known s lines → AreFormed known t lines
lower known s t [] le h = tt
lower known s t (line ∷ lines) le h = let from = h.1 in (h.0, omega (arith, le, from), h.2, h.3, h.4)

-- The lines of a text before a rest of it are formed: the next may be of the tick of the last of them, or of a later one.
pub record IsFormedTo (known : Known) (text rest : List ℕ) (tick line : ℕ) : Type 0 where
  pub done : List (List ℕ)
  pub is : lines_of text ≡ done ++ lines_of rest
  pub count : line ≡ suc (length done)
  pub room : line + length rest ≤ suc (length text)
  pub onto : (more : List (List ℕ)) → AreFormed known tick more → AreFormed known 0 (done ++ more)
  pub back : (more : List (List ℕ)) → AreFormed known 0 (done ++ more) → AreFormed known tick more

module _ (known : Known) (text rest : List ℕ) (tick line : ℕ) (first behind : List ℕ) (to : IsFormedTo known text rest tick line)
    (lines : lines_of rest ≡ first ∷ lines_of behind) where
  pub formed_more : (s : ℕ) → length behind < length rest → tick ≤ s → s < known.ticks → IsFormed known s first
      → ((r : ℕ) → tick ≤ r → r < s → IsFormed known r first → ⊥) → IsFormedTo known text behind s (line + 1)
  formed_more s less from within formed least =
      let count = to.count in
      let room = to.room in
      let many : length (to.done ++ first ∷ []) ≡ length to.done + 1 = length-append to.done (first ∷ []) in
      record {
        done = to.done ++ first ∷ [];
        is = to.is ∙ ap (λ (ls : List (List ℕ)). to.done ++ ls) lines ∙ sym (append_assoc to.done (first ∷ []) (lines_of behind));
        count = omega (arith, count, many);
        room = omega (arith, room, less);
        onto = λ more h. subst (AreFormed known 0) (sym (append_assoc to.done (first ∷ []) more)) (to.onto (first ∷ more) (s, from, within, formed, h));
        back = λ more h. found more (to.back (first ∷ more) (subst (AreFormed known 0) (append_assoc to.done (first ∷ []) more) h));
      }
    where
      found : (more : List (List ℕ)) → AreFormed known tick (first ∷ more) → AreFormed known s more
      found more h = lower known h.0 s more (elim (cases_lt h.0 s) [ inl lt ↦ absurd (least h.0 h.1 lt h.3) | inr ge ↦ ge ]) h.4

  pub unformed_here : ((r : ℕ) → tick ≤ r → r < known.ticks → IsFormed known r first → ⊥) → (k : ℕ) → suc k ≡ line → IsFirstUnformed known text k
  unformed_here none k is =
      let count = to.count in
      let here : k ≡ length to.done = omega (arith, is, count) in
      let whole : lines_of text ≡ to.done ++ first ∷ lines_of behind = to.is ∙ ap (λ (ls : List (List ℕ)). to.done ++ ls) lines in
      let upto : take k (lines_of text) ≡ to.done =
      ap (λ (j : ℕ). take j (lines_of text)) here ∙ (ap (take (length to.done)) whole ∙ take_own to.done (first ∷ lines_of behind))
      in
      let with_it : take (suc k) (lines_of text) ≡ to.done ++ first ∷ [] =
      ap (λ (j : ℕ). take (suc j) (lines_of text)) here ∙ (ap (take (suc (length to.done))) whole ∙ take_one_more to.done first (lines_of behind))
      in
      record {
        before = subst (AreFormed known 0) (append-nil to.done ∙ sym upto) (to.onto [] tt);
        here = λ h. let one = to.back (first ∷ []) (subst (AreFormed known 0) with_it h) in none one.0 one.1 one.2 one.3;
      }
