-- What a chain of rules tells of its answer: each_entry rule passed, and what is made of what was read.
use Rattle.std.proofs.Common.{◌≡◌, ◌≢◌, ℕ, zero, suc, ◌+◌, ◌≤◌, ◌<◌, Bool, true, false, ◌&&◌, if◌then◌else◌, List, [], ◌∷◌, map, length, get_or, Option, Some, None, option_map, option_and_then, Result, Ok, Err, refl, sym, ap, subst, ◌∙◌, leb-true, IfSome, IfOk, arith}
use Rattle.std.proofs.lemmas.{Bool.and_parts, List.length-map, List.Elements.All-nil, List.Elements.All-cons, List.Elements.All-head, List.Elements.All-tail, List.Elements.All-weaker}
use Rattle.std.specs.List.{All}
use Rattle.std.specs.Prelude.{AllPairs, nat_le}
use Rattle.toml_rules.specs.declared.rules.RuleErr.{RuleErr}
use Rattle.toml_rules.specs.{Fields.within, Rules.needs, Rules.holds, Rules.no_entry, Rules.each_entry, Rules.entry_then}
use Rattle.srp_base.specs.Results.{◌>>=◌}

-- ---- values that may be missing

pub and_then-if : {A B : Type 0} (P : B → Type 0) (f : A → Option B) (o : Option A)
    → ((x : A) → o ≡ Some x → IfSome (f x) P) → IfSome (option_and_then f o) P
and_then-if P f None h = tt
and_then-if P f (Some x) h = h x refl

pub map-if : {A B : Type 0} (P : B → Type 0) (f : A → B) (o : Option A)
    → ((x : A) → o ≡ Some x → P (f x)) → IfSome (option_map f o) P
map-if P f None h = tt
map-if P f (Some x) h = h x refl

pub when-if : {A : Type 0} (P : A → Type 0) (b : Bool) (o : Option A)
    → (b ≡ true → IfSome o P) → IfSome (if b then o else None) P
when-if P true o h = h refl
when-if P false o h = tt

pub either-if : {A : Type 0} (P : A → Type 0) (b : Bool) (o p : Option A) → IfSome o P → IfSome p P → IfSome (if b then o else p) P
either-if P true o p h k = h
either-if P false o p h k = k

pub within-range : (low high : ℕ) (o : Option ℕ) → IfSome (within low high o) (λ n. (low ≤ n) × (n ≤ high))
within-range low high None = tt
within-range low high (Some n) =
    when-if (λ m. (low ≤ m) × (m ≤ high)) (nat_le low n && nat_le n high) (Some n) (λ e.
    (let p = and_parts (nat_le low n) (nat_le n high) e in (leb-true low n p.0, leb-true n high p.1)))

-- ---- rules one after the other

-- what an answer has
pub ok-says : {A : Type 0} (P : A → Type 0) (r : Result A RuleErr) (x : A) → r ≡ Ok x → IfOk r P → P x
ok-says {A = A} P r x is h = let F : Result A RuleErr → Type 0 = λ y. IfOk y P in subst F is h

-- what each answer has
pub ok-all : {A : Type 0} (r : Result A RuleErr) (P : A → Type 0) → ((x : A) → r ≡ Ok x → P x) → IfOk r P
ok-all (Ok x) P h = h x refl
ok-all (Err e) P h = tt

-- a chain goes on with what its first rules give, and what is known of that
pub chain-if : {A B : Type 0} (P : B → Type 0) (Q : A → Type 0) (r : Result A RuleErr) (f : A → Result B RuleErr)
    → IfOk r Q → ((x : A) → Q x → IfOk (f x) P) → IfOk (r >>= f) P
chain-if P Q (Ok x) f q h = h x q
chain-if P Q (Err e) f q h = tt

-- with a value that is there
pub chain-needs : {A B : Type 0} (P : B → Type 0) (rule : ℕ) (o : Option A) (f : A → Result B RuleErr)
    → ((x : A) → o ≡ Some x → IfOk (f x) P) → IfOk (needs rule o >>= f) P
chain-needs P rule (Some x) f h = h x refl
chain-needs P rule None f h = tt

-- with a test that passes
pub chain-holds : {B : Type 0} (P : B → Type 0) (rule : ℕ) (b : Bool) (f : Unit {0} → Result B RuleErr)
    → (b ≡ true → IfOk (f tt) P) → IfOk (holds rule b >>= f) P
chain-holds P rule true f h = h refl
chain-holds P rule false f h = tt

-- with no entry found
pub chain-none : {B : Type 0} (P : B → Type 0) (rule : ℕ) (o : Option ℕ) (f : Unit {0} → Result B RuleErr)
    → (o ≡ None → IfOk (f tt) P) → IfOk (no_entry rule o >>= f) P
chain-none P rule None f h = h refl
chain-none P rule (Some n) f h = tt

-- ---- a rule on each entry

entry-all : {B : Type 0} (P : B → Type 0) (rule n : ℕ) (o : Option B) (rest : Result (List B) RuleErr)
    → IfSome o P → IfOk rest (All P) → IfOk (entry_then rule n o rest) (All P)
entry-all P rule n None rest p ps = tt
entry-all P rule n (Some y) (Err e) p ps = tt
entry-all P rule n (Some y) (Ok ys) p ps = All-cons P y ys p ps

-- what every entry is read with, all values have
pub each-all : {A B : Type 0} (Q : A → Type 0) (P : B → Type 0) (rule : ℕ) (read : ℕ → A → Option B)
    → ((n : ℕ) (x : A) → Q x → IfSome (read n x) P) → (n : ℕ) (xs : List A) → All Q xs
    → IfOk (each_entry rule read n xs) (All P)
each-all Q P rule read h n [] qs = All-nil P
each-all Q P rule read h n (x ∷ xs) qs =
    entry-all P rule n (read n x) (each_entry rule read (n + 1) xs) (h n x (All-head Q x xs qs)) (each-all Q P rule read h (n + 1) xs (All-tail Q x xs qs))

entry-map : {A B C : Type 0} (f : A → C) (g : B → C) (rule n : ℕ) (x : A) (xs : List A) (o : Option B) (rest : Result (List B) RuleErr)
    → IfSome o (λ y. g y ≡ f x) → IfOk rest (λ ys. map g ys ≡ map f xs)
    → IfOk (entry_then rule n o rest) (λ ys. map g ys ≡ map f (x ∷ xs))
entry-map f g rule n x xs None rest p ps = tt
entry-map f g rule n x xs (Some y) (Err e) p ps = tt
entry-map f g rule n x xs (Some y) (Ok ys) p ps = ap (λ c. c ∷ map g ys) p ∙ ap (λ cs. f x ∷ cs) ps

-- what every value keeps of its entry, all keep
pub each-map : {A B C : Type 0} (f : A → C) (g : B → C) (rule : ℕ) (read : ℕ → A → Option B)
    → ((n : ℕ) (x : A) → IfSome (read n x) (λ y. g y ≡ f x)) → (n : ℕ) (xs : List A)
    → IfOk (each_entry rule read n xs) (λ ys. map g ys ≡ map f xs)
each-map f g rule read h n [] = refl
each-map f g rule read h n (x ∷ xs) =
    entry-map f g rule n x xs (read n x) (each_entry rule read (n + 1) xs) (h n x) (each-map f g rule read h (n + 1) xs)

entry-count : {B : Type 0} (high rule n : ℕ) (o : Option B) (rest : Result (List B) RuleErr)
    → IfSome o (λ _. n ≤ high) → (n ≤ high → IfOk rest (λ ys. length ys + n ≤ high))
    → IfOk (entry_then rule n o rest) (λ ys. length ys + n ≤ high + 1)
entry-count high rule n None rest p h = tt
entry-count high rule n (Some y) (Err e) p h = tt
entry-count high rule n (Some y) (Ok ys) p h = omega (arith, h p)

same-count : {B : Type 0} (high n : ℕ) (r : Result (List B) RuleErr) → IfOk r (λ ys. length ys + (n + 1) ≤ high + 1) → IfOk r (λ ys. length ys + n ≤ high)
same-count high n (Ok ys) h = omega (arith, h)
same-count high n (Err e) h = tt

-- where no entry past a number is read, there are no more values
pub each-count : {A B : Type 0} (high rule : ℕ) (read : ℕ → A → Option B)
    → ((n : ℕ) (x : A) → IfSome (read n x) (λ _. n ≤ high)) → (n : ℕ) (xs : List A) → n ≤ high + 1
    → IfOk (each_entry rule read n xs) (λ ys. length ys + n ≤ high + 1)
each-count high rule read h n [] le = omega (arith, le)
each-count high rule read h n (x ∷ xs) le =
    entry-count high rule n (read n x) (each_entry rule read (n + 1) xs) (h n x)
    (λ few. same-count high n (each_entry rule read (n + 1) xs) (each-count high rule read h (n + 1) xs (omega (arith, few))))

-- ---- values side by side

pub unless-if : {A : Type 0} (P : A → Type 0) (b : Bool) (o : Option A) → (b ≡ false → IfSome o P) → IfSome (if b then None else o) P
unless-if P false o h = h refl
unless-if P true o h = tt

-- what is made of a value that may be missing
pub made-if : {A B : Type 0} (Q : A → Type 0) (P : B → Type 0) (f : A → B) (o : Option A)
    → ((x : A) → Q x → P (f x)) → IfSome o Q → IfSome (option_map f o) P
made-if Q P f None h q = tt
made-if Q P f (Some x) h q = h x q

-- where two lists look alike, so do their elements
pub alike-at : {A B C : Type 0} (f : A → C) (g : B → C) (xs : List A) (ys : List B) → map g ys ≡ map f xs
    → (i : ℕ) (d : A) (e : B) → i < length ys → g (get_or ys i e) ≡ f (get_or xs i d)
alike-at f g xs [] h i d e lt = absurd (omega (arith, lt))
alike-at f g [] (y ∷ ys) h i d e lt = absurd (let no : map g (y ∷ ys) ≡ [] → ⊥ = λ q. cc in no h)
alike-at f g (x ∷ xs) (y ∷ ys) h zero d e lt = let first : g y ∷ map g ys ≡ f x ∷ map f xs = h in cc
alike-at f g (x ∷ xs) (y ∷ ys) h (suc i) d e lt =
    let whole : g y ∷ map g ys ≡ f x ∷ map f xs = h in
    let rest : map g ys ≡ map f xs = cc in
    alike-at f g xs ys rest i d e (omega (arith, lt))

pub alike-length : {A B C : Type 0} (f : A → C) (g : B → C) (xs : List A) (ys : List B) → map g ys ≡ map f xs → length ys ≡ length xs
alike-length f g xs ys h = sym (length-map ys g) ∙ ap length h ∙ length-map xs f

-- a list with a place has an element
pub an_element : {A : Type 0} (xs : List A) (i : ℕ) → i < length xs → A
an_element [] i lt = absurd (omega (arith, lt))
an_element (x ∷ xs) i lt = x

-- where no two of the one list look alike, no two of the other do
pub pairs-alike : {A B C : Type 0} (f : A → C) (g : B → C) (xs : List A) (ys : List B) → map g ys ≡ map f xs
    → AllPairs (λ a b. f a ≢ f b) xs → AllPairs (λ a b. g a ≢ g b) ys
pairs-alike f g xs ys h differ i j e lt inside same =
    let far : j < length xs = omega (arith, inside, alike-length f g xs ys h) in
    let d = an_element xs j far in
    differ i j d lt far (sym (alike-at f g xs ys h i d e (omega (arith, lt, inside))) ∙ same ∙ alike-at f g xs ys h j d e inside)

-- ---- a rule on each of so many entries

-- what every entry is read with, and that there are no more of them
pub each-keeps : {A B : Type 0} (P : B → Type 0) (high rule : ℕ) (read : ℕ → A → Option B)
    → ((n : ℕ) (x : A) → IfSome (read n x) (λ y. P y × (n ≤ high))) → (xs : List A)
    → IfOk (each_entry rule read 1 xs) (λ ys. All P ys × (length ys ≤ high))
each-keeps {A} {B} P high rule read keeps xs =
    let Q : A → Type 0 = λ x. Unit {0} in
    both (each_entry rule read 1 xs)
    (each-all Q P rule read (λ n x _. first-part n (read n x) (keeps n x)) 1 xs (λ i d lt. tt))
    (each-count high rule read (λ n x. last-part n (read n x) (keeps n x)) 1 xs (omega arith))
  where
    both : (r : Result (List B) RuleErr) → IfOk r (All P) → IfOk r (λ ys. length ys + 1 ≤ high + 1) → IfOk r (λ ys. All P ys × (length ys ≤ high))
    both (Ok ys) a b = (a, omega (arith, b))
    both (Err e) a b = tt

    first-part : (n : ℕ) (o : Option B) → IfSome o (λ y. P y × (n ≤ high)) → IfSome o P
    first-part n None h = tt
    first-part n (Some x) h = h.0

    last-part : (n : ℕ) (o : Option B) → IfSome o (λ y. P y × (n ≤ high)) → IfSome o (λ _. n ≤ high)
    last-part n None h = tt
    last-part n (Some x) h = h.1

-- what a value keeps by its entry's number, and by each greater one, all keep by that after the last
pub each-numbered : {A B : Type 0} (F : ℕ → B → Type 0) (rule : ℕ) (read : ℕ → A → Option B)
    → ((j k : ℕ) (y : B) → j ≤ k → F j y → F k y) → ((n : ℕ) (x : A) → IfSome (read n x) (F (n + 1))) → (n : ℕ) (xs : List A)
    → IfOk (each_entry rule read n xs) (λ ys. All (F (n + length ys)) ys)
each-numbered F rule read up h n [] = All-nil (F (n + 0))
each-numbered {A = A} {B = B} F rule read up h n (x ∷ xs) = one (read n x) (each_entry rule read (n + 1) xs) (h n x) (each-numbered F rule read up h (n + 1) xs)
  where
    one : (o : Option B) (rest : Result (List B) RuleErr) → IfSome o (F (n + 1)) → IfOk rest (λ ys. All (F (n + 1 + length ys)) ys)
        → IfOk (entry_then rule n o rest) (λ ys. All (F (n + length ys)) ys)
    one None rest p ps = tt
    one (Some y) (Err e) p ps = tt
    one (Some y) (Ok ys) p ps =
        All-cons (F (n + length (y ∷ ys))) y ys (up (n + 1) (n + length (y ∷ ys)) y (omega arith) p)
        (All-weaker (F (n + 1 + length ys)) (F (n + length (y ∷ ys))) (λ z f. up (n + 1 + length ys) (n + length (y ∷ ys)) z (omega arith) f) ys ps)

-- an answer has both
pub ok-both : {A : Type 0} (P Q : A → Type 0) (r : Result A RuleErr) → IfOk r P → IfOk r Q → IfOk r (λ x. P x × Q x)
ok-both P Q (Ok x) p q = (p, q)
ok-both P Q (Err e) p q = tt
