-- What the first element that a test passes tells of the elements, one after the other.
use Rattle.std.proofs.Common.{◌≡◌, ℕ, suc, zero, ◌+◌, ◌<◌, ◌≤◌, Bool, true, false, cond, if◌then◌else◌, List, [], ◌∷◌, ◌++◌, Option, Some, None, refl, sym, ap, ◌∙◌, length, get_or, take, drop, append-nil, append_assoc, arith}
use Rattle.std.proofs.lemmas.List.{take_more, drop_more, drop_all, length-take-le, length_push}
use Rattle.srp_base.specs.{first_where}

-- ---- a search at its places

-- the element at a place passes
pub where-here : {A : Type 0} (test : List A → A → Bool) (xs : List A) (i : ℕ) (d : A) → i < length xs → test (take i xs) (get_or xs i d) ≡ true
    → first_where test (take i xs) (drop i xs) ≡ Some (i + 1)
where-here test xs i d lt t =
    let short : length (take i xs) ≡ i = length-take-le i xs (omega arith) in
    ap (λ ys. first_where test (take i xs) ys) (drop_more xs i d lt)
    ∙ ap (λ (b : Bool). cond b (Some (length (take i xs) + 1)) (first_where test (take i xs ++ get_or xs i d ∷ []) (drop (i + 1) xs))) t
    ∙ ap (λ (n : ℕ). Some (n + 1)) short

-- or it doesn't, and the search goes on
pub where-later : {A : Type 0} (test : List A → A → Bool) (xs : List A) (i : ℕ) (d : A) → i < length xs → test (take i xs) (get_or xs i d) ≡ false
    → first_where test (take i xs) (drop i xs) ≡ first_where test (take (i + 1) xs) (drop (i + 1) xs)
where-later test xs i d lt t =
    ap (λ ys. first_where test (take i xs) ys) (drop_more xs i d lt)
    ∙ ap (λ (b : Bool). cond b (Some (length (take i xs) + 1)) (first_where test (take i xs ++ get_or xs i d ∷ []) (drop (i + 1) xs))) t
    ∙ ap (λ ys. first_where test ys (drop (i + 1) xs)) (sym (take_more xs i d lt))

-- up to the end
pub where-end : {A : Type 0} (test : List A → A → Bool) (xs : List A) (i : ℕ) → length xs ≤ i → first_where test (take i xs) (drop i xs) ≡ None
where-end test xs i le = ap (λ ys. first_where test (take i xs) ys) (drop_all i xs le)

-- ---- what an answer says of the elements

-- the place of the first element that passes, behind some that stand in front
pub record IsFirst {A : Type 0} (test : List A → A → Bool) (front xs : List A) (n : ℕ) : Type 0 where
  pub place : ℕ
  pub number : n ≡ length front + place + 1
  pub inside : place < length xs
  pub passes : (d : A) → test (front ++ take place xs) (get_or xs place d) ≡ true
  pub fail : (j : ℕ) (d : A) → j < place → test (front ++ take j xs) (get_or xs j d) ≡ false

-- the first element doesn't pass, a later one does
first-later : {A : Type 0} (test : List A → A → Bool) (front : List A) (x : A) (xs : List A) (n : ℕ) → test front x ≡ false → IsFirst test (front ++ x ∷ []) xs n → IsFirst test front (x ∷ xs) n
first-later {A = A} test front x xs n off f = record {
  place = suc f.place;
  number = (let size : length (front ++ x ∷ []) ≡ length front + 1 = length_push front x in omega (arith, f.number, size));
  inside = omega (arith, f.inside);
  passes = (λ d. ap (λ (ys : List A). test ys (get_or xs f.place d)) (sym (append_assoc front (x ∷ []) (take f.place xs))) ∙ f.passes d);
  fail = before;
}
  where
    before : (j : ℕ) (d : A) → j < suc f.place → test (front ++ take j (x ∷ xs)) (get_or (x ∷ xs) j d) ≡ false
    before zero d lt = ap (λ (ys : List A). test ys x) (append-nil front) ∙ off
    before (suc j) d lt = ap (λ (ys : List A). test ys (get_or xs j d)) (sym (append_assoc front (x ∷ []) (take j xs))) ∙ f.fail j d (omega (arith, lt))

first-now : {A : Type 0} (test : List A → A → Bool) (front : List A) (x : A) (xs : List A) (n : ℕ) → test front x ≡ true → n ≡ length front + 1 → IsFirst test front (x ∷ xs) n
first-now {A = A} test front x xs n is e = record {
  place = 0;
  number = omega (arith, e);
  inside = omega arith;
  passes = (λ d. ap (λ (ys : List A). test ys x) (append-nil front) ∙ is);
  fail = (λ j d lt. absurd (omega (arith, lt)));
}

some-number : (n m : ℕ) → Some n ≡ Some m → m ≡ n
some-number n m e = cc

where-first : {A : Type 0} (test : List A → A → Bool) (front xs : List A) (n : ℕ) → first_where test front xs ≡ Some n → IsFirst test front xs n
where-first test front [] n e = absurd (let no : None ≡ Some n → ⊥ = λ q. cc in no e)
where-first test front (x ∷ xs) n e = by (test front x) refl e (λ f. where-first test (front ++ x ∷ []) xs n f)
  where
    by : (b : Bool) → test front x ≡ b → (if b then Some (length front + 1) else first_where test (front ++ x ∷ []) xs) ≡ Some n
        → (first_where test (front ++ x ∷ []) xs ≡ Some n → IsFirst test (front ++ x ∷ []) xs n) → IsFirst test front (x ∷ xs) n
    by true is f later = first-now test front x xs n is (some-number (length front + 1) n f)
    by false is f later = first-later test front x xs n is (later f)

-- the element of the number that is answered passes, and none before it
pub where-some : {A : Type 0} (test : List A → A → Bool) (xs : List A) (n : ℕ) → first_where test [] xs ≡ Some n → IsFirst test [] xs n
where-some test xs n e = where-first test [] xs n e

not-found : (b : Bool) (n : ℕ) (o : Option ℕ) → (if b then Some n else o) ≡ None → b ≡ false
not-found true n o e = absurd (let no : Some n ≡ None → ⊥ = λ q. cc in no e)
not-found false n o e = refl

rest-none : (b : Bool) (n : ℕ) (o : Option ℕ) → (if b then Some n else o) ≡ None → o ≡ None
rest-none true n o e = absurd (let no : Some n ≡ None → ⊥ = λ q. cc in no e)
rest-none false n o e = e

where-none-from : {A : Type 0} (test : List A → A → Bool) (front xs : List A) → first_where test front xs ≡ None → (i : ℕ) (d : A) → i < length xs → test (front ++ take i xs) (get_or xs i d) ≡ false
where-none-from test front [] e i d lt = absurd (omega (arith, lt))
where-none-from test front (x ∷ xs) e zero d lt =
    let none : test front x ≡ false = not-found (test front x) (length front + 1) (first_where test (front ++ x ∷ []) xs) e in
    ap (λ p. test p x) (append-nil front) ∙ none
where-none-from test front (x ∷ xs) e (suc i) d lt =
    let rest = rest-none (test front x) (length front + 1) (first_where test (front ++ x ∷ []) xs) e in
    ap (λ p. test p (get_or xs i d)) (sym (append_assoc front (x ∷ []) (take i xs))) ∙ where-none-from test (front ++ x ∷ []) xs rest i d (omega (arith, lt))

-- where none is answered, no element passes
pub where-none : {A : Type 0} (test : List A → A → Bool) (xs : List A) → first_where test [] xs ≡ None → (i : ℕ) (d : A) → i < length xs → test (take i xs) (get_or xs i d) ≡ false
where-none test xs e i d lt = where-none-from test [] xs e i d lt
