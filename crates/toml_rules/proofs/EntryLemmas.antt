-- How entries are read one after the other.
use Rattle.std.proofs.Common.{◌≡◌, ℕ, ◌+◌, ◌-◌, ◌<◌, Bool, true, false, if◌then◌else◌, map, arith, IfSome, List, [], ◌∷◌, ◌++◌, Option, Some, None, Result, Ok, Err, refl, sym, ap, ◌∙◌, length, get_or, drop, append-nil, append_assoc, ◌≤◌, subst}
use Rattle.std.proofs.lemmas.{List.drop_more, List.drop_all, Bool.Decides.nat_tests}
use Rattle.std.specs.Prelude.{nat_le}
use Rattle.toml_rules.specs.{RuleErr, with_front, each_entry, entry_then, fails_at, broken_rule, light, weight_of, each_within}

-- some values in front of those that the later entries give
abbrev pub in_front : {B : Type 0} → List B → Result (List B) RuleErr → Result (List B) RuleErr
in_front front (Ok ys) = Ok (front ++ ys)
in_front front (Err e) = Err e

pub in_front-step : {B : Type 0} (front : List B) (y : B) (r : Result (List B) RuleErr) → in_front front (with_front y r) ≡ in_front (front ++ y ∷ []) r
in_front-step front y (Ok ys) = ap Ok (sym (append_assoc front (y ∷ []) ys))
in_front-step front y (Err e) = refl

-- the values that are read so far, in front of those of the entries from place i on
abbrev pub from_here : {T B : Type 0} → ℕ → (ℕ → T → Option B) → List B → ℕ → List T → Result (List B) RuleErr
from_here rule said front i xs = in_front front (each_entry rule said (i + 1) (drop i xs))

here : {T B : Type 0} (rule : ℕ) (said : ℕ → T → Option B) (i : ℕ) (xs : List T) (x : T) (o : Option B) → i < length xs → x ≡ get_or xs i x → o ≡ said (i + 1) x
    → each_entry rule said (i + 1) (drop i xs) ≡ entry_then rule (i + 1) o (each_entry rule said (i + 1 + 1) (drop (i + 1) xs))
here rule said i xs x o lt is e =
    let rest = each_entry rule said (i + 1 + 1) (drop (i + 1) xs) in
    let cut : drop i xs ≡ x ∷ drop (i + 1) xs = drop_more xs i x lt ∙ ap (λ t. t ∷ drop (i + 1) xs) (sym is) in
    ap (λ ts. each_entry rule said (i + 1) ts) cut ∙ ap (λ v. entry_then rule (i + 1) v rest) (sym e)

-- one entry more that its rule reads
pub each-step : {T B : Type 0} (rule : ℕ) (said : ℕ → T → Option B) (front more : List B) (i : ℕ) (xs : List T) (x : T) (o : Option B) (y : B) (all : Result (List B) RuleErr)
    → i < length xs → x ≡ get_or xs i x → o ≡ said (i + 1) x → o ≡ Some y → more ≡ front ++ y ∷ [] → from_here rule said front i xs ≡ all → from_here rule said more (i + 1) xs ≡ all
each-step rule said front more i xs x o y all lt is e some new h =
    let rest = each_entry rule said (i + 1 + 1) (drop (i + 1) xs) in
    let one = here rule said i xs x o lt is e ∙ ap (λ v. entry_then rule (i + 1) v rest) some in
    ap (λ ys. in_front ys rest) new ∙ sym (in_front-step front y rest) ∙ ap (λ r. in_front front r) (sym one) ∙ h

-- an error that names a broken rule says what the rules say
refusal-said : {B : Type 0} (e : RuleErr) (rule n : ℕ) (all : Result (List B) RuleErr) → e ≡ fails_at rule n → all ≡ Err (fails_at rule n) → IfSome (broken_rule e) (λ f. all ≡ Err f)
refusal-said e rule n all is h = let F : RuleErr → Type 0 = λ t. IfSome (broken_rule t) (λ f. all ≡ Err f) in subst F (sym is) h

-- an entry that its rule refuses
pub each-refused : {T B : Type 0} (rule : ℕ) (said : ℕ → T → Option B) (front : List B) (i : ℕ) (xs : List T) (x : T) (o : Option B) (e : RuleErr) (all : Result (List B) RuleErr)
    → i < length xs → x ≡ get_or xs i x → o ≡ said (i + 1) x → o ≡ None → e ≡ fails_at rule (i + 1) → from_here rule said front i xs ≡ all → IfSome (broken_rule e) (λ f. all ≡ Err f)
each-refused rule said front i xs x o e all lt is q none err h =
    let rest = each_entry rule said (i + 1 + 1) (drop (i + 1) xs) in
    let one = here rule said i xs x o lt is q ∙ ap (λ v. entry_then rule (i + 1) v rest) none in
    refusal-said e rule (i + 1) all err (sym h ∙ ap (λ r. in_front front r) one)

-- no entry is left
pub each-end : {T B : Type 0} (rule : ℕ) (said : ℕ → T → Option B) (front : List B) (i : ℕ) (xs : List T) (all : Result (List B) RuleErr)
    → length xs ≤ i → from_here rule said front i xs ≡ all → all ≡ Ok front
each-end rule said front i xs all le h =
    sym h ∙ ap (λ ts. in_front front (each_entry rule said (i + 1) ts)) (drop_all i xs le) ∙ ap Ok (append-nil front)

-- what is read of values that are read from others
pub each-map : {T A B : Type 0} (rule : ℕ) (f : T → A) (said : ℕ → A → Option B) (n : ℕ) (xs : List T) → each_entry rule (λ k x. said k (f x)) n xs ≡ each_entry rule said n (map f xs)
each-map rule f said n [] = refl
each-map rule f said n (x ∷ xs) = ap (λ r. entry_then rule n (said n (f x)) r) (each-map rule f said (n + 1) xs)

-- ---- values with weights

-- the values that are read so far, in front of those of the entries from place i on
abbrev pub within_here : {T B : Type 0} → ℕ → (B → ℕ) → (ℕ → T → Option B) → List B → ℕ → ℕ → List T → Result (List B) RuleErr
within_here rule weight said front room i xs = in_front front (each_within rule weight said (i + 1) room (drop i xs))

weighed : {T B : Type 0} (rule : ℕ) (weight : B → ℕ) (said : ℕ → T → Option B) (room i : ℕ) (xs : List T) (x : T) (o : Option B) → i < length xs → x ≡ get_or xs i x → o ≡ said (i + 1) x
    → each_within rule weight said (i + 1) room (drop i xs) ≡ entry_then rule (i + 1) (light room weight o) (each_within rule weight said (i + 1 + 1) (room - weight_of weight o) (drop (i + 1) xs))
weighed rule weight said room i xs x o lt is e =
    let cut : drop i xs ≡ x ∷ drop (i + 1) xs = drop_more xs i x lt ∙ ap (λ t. t ∷ drop (i + 1) xs) (sym is) in
    ap (λ ts. each_within rule weight said (i + 1) room ts) cut
    ∙ ap (λ v. entry_then rule (i + 1) (light room weight v) (each_within rule weight said (i + 1 + 1) (room - weight_of weight v) (drop (i + 1) xs))) (sym e)

pub light-fits : {B : Type 0} (room : ℕ) (weight : B → ℕ) (y : B) → weight y ≤ room → light room weight (Some y) ≡ Some y
light-fits room weight y le = ap (λ (b : Bool). if b then Some y else None) (let e : nat_le (weight y) room ≡ true = grind (arith, nat_tests) in e)

light-heavy : {B : Type 0} (room : ℕ) (weight : B → ℕ) (y : B) → room < weight y → light room weight (Some y) ≡ None
light-heavy room weight y lt = ap (λ (b : Bool). if b then Some y else None) (let e : nat_le (weight y) room ≡ false = grind (arith, nat_tests) in e)

-- one entry more that its rule reads and that there is room for
pub within-step : {T B : Type 0} (rule : ℕ) (weight : B → ℕ) (said : ℕ → T
    → Option B) (front more : List B) (room w left i : ℕ) (xs : List T) (x : T) (o : Option B) (y : B) (all : Result (List B) RuleErr)
    → i < length xs → x ≡ get_or xs i x → o ≡ said (i + 1) x → o ≡ Some y → w ≡ weight y → w ≤ room → left ≡ room - w → more ≡ front ++ y ∷ []
    → within_here rule weight said front room i xs ≡ all → within_here rule weight said more left (i + 1) xs ≡ all
within-step rule weight said front more room w left i xs x o y all lt is e some heavy le less new h =
    let rest = λ (r : ℕ). each_within rule weight said (i + 1 + 1) r (drop (i + 1) xs) in
    let fits = light-fits room weight y (omega (arith, heavy, le)) in
    let one : each_within rule weight said (i + 1) room (drop i xs) ≡ with_front y (rest (room - weight y))
    = weighed rule weight said room i xs x o lt is e ∙ ap (λ v. entry_then rule (i + 1) (light room weight v) (rest (room - weight_of weight v))) some
    ∙ ap (λ v. entry_then rule (i + 1) v (rest (room - weight y))) fits in
    ap (λ ys. in_front ys (rest left)) new ∙ ap (λ r. in_front (front ++ y ∷ []) (rest r)) (less ∙ ap (λ t. room - t) heavy)
    ∙ sym (in_front-step front y (rest (room - weight y))) ∙ ap (λ r. in_front front r) (sym one) ∙ h

-- an entry that its rule refuses
pub within-refused : {T B : Type 0} (rule : ℕ) (weight : B → ℕ) (said : ℕ → T
    → Option B) (front : List B) (room i : ℕ) (xs : List T) (x : T) (o : Option B) (e : RuleErr) (all : Result (List B) RuleErr)
    → i < length xs → x ≡ get_or xs i x → o ≡ said (i + 1) x → light room weight o ≡ None → e ≡ fails_at rule (i + 1)
    → within_here rule weight said front room i xs ≡ all → IfSome (broken_rule e) (λ f. all ≡ Err f)
within-refused rule weight said front room i xs x o e all lt is q none err h =
    let rest = each_within rule weight said (i + 1 + 1) (room - weight_of weight o) (drop (i + 1) xs) in
    let one = weighed rule weight said room i xs x o lt is q ∙ ap (λ v. entry_then rule (i + 1) v rest) none in
    refusal-said e rule (i + 1) all err (sym h ∙ ap (λ r. in_front front r) one)

pub light-none : {B : Type 0} (room : ℕ) (weight : B → ℕ) (o : Option B) → o ≡ None → light room weight o ≡ None
light-none room weight o e = ap (λ t. light room weight t) e

pub light-less : {B : Type 0} (room w : ℕ) (weight : B → ℕ) (o : Option B) (y : B) → o ≡ Some y → w ≡ weight y → room < w → light room weight o ≡ None
light-less room w weight o y e heavy lt = ap (λ t. light room weight t) e ∙ light-heavy room weight y (omega (arith, heavy, lt))

-- no entry is left
pub within-end : {T B : Type 0} (rule : ℕ) (weight : B → ℕ) (said : ℕ → T → Option B) (front : List B) (room i : ℕ) (xs : List T) (all : Result (List B) RuleErr)
    → length xs ≤ i → within_here rule weight said front room i xs ≡ all → all ≡ Ok front
within-end rule weight said front room i xs all le h =
    sym h ∙ ap (λ ts. in_front front (each_within rule weight said (i + 1) room ts)) (drop_all i xs le) ∙ ap Ok (append-nil front)

-- what is read of values that are read from others
pub within-map : {T A B : Type 0} (rule : ℕ) (weight : B → ℕ) (f : T → A) (said : ℕ → A → Option B) (n room : ℕ) (xs : List T)
    → each_within rule weight (λ k x. said k (f x)) n room xs ≡ each_within rule weight said n room (map f xs)
within-map rule weight f said n room [] = refl
within-map rule weight f said n room (x ∷ xs) =
    ap (λ r. entry_then rule n (light room weight (said n (f x))) r) (within-map rule weight f said (n + 1) (room - weight_of weight (said n (f x))) xs)
