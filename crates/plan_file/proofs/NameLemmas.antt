-- Names in an array, one after the other.
use Rattle.std.proofs.Common.{◌≡◌, ◌∙◌, ◌+◌, ◌<◌, ◌≤◌, ℕ, Bool, false, ◌==◌, List, [], ◌∷◌, ◌++◌, map, refl, ap, sym, Option, Some, None, option_map, option_and_then, length, get_or, drop, append_assoc, append-nil}
use Rattle.std.proofs.lemmas.List.{drop_more, drop_all}
use Rattle.std.proofs.lemmas.Bool.{false≢true}
use Rattle.toml.specs.Data.{array}
use Rattle.toml.specs.View.{view, items_view}
use Rattle.toml.specs.declared.value.Value.{Value}
use Rattle.plan_file.specs.{all_names, all_read, name_of_data, names_of_data}

-- some values in front of those that the rest gives
abbrev pub in_front : {A : Type 0} → List A → Option (List A) → Option (List A)
in_front xs o = option_map (λ rest. xs ++ rest) o

in_front-inner : {A : Type 0} (front : List A) (y : A) (o : Option (List A))
    → in_front front (option_map (λ rest. y ∷ rest) o) ≡ in_front (front ++ (y ∷ [])) o
in_front-inner front y None = refl
in_front-inner front y (Some rest) = ap Some (sym (append_assoc front (y ∷ []) rest))

-- one more that is read
pub read-step : {A B : Type 0} (read : A → Option B) (front more : List B) (xs : List A) (i : ℕ) (d : A) (y : B) (whole : Option (List B))
    → i < length xs → read (get_or xs i d) ≡ Some y → more ≡ front ++ (y ∷ [])
    → in_front front (all_read read (drop i xs)) ≡ whole → in_front more (all_read read (drop (i + 1) xs)) ≡ whole
read-step read front more xs i d y whole lt is new h =
    let cut : drop i xs ≡ get_or xs i d ∷ drop (i + 1) xs = drop_more xs i d lt in
    ap (λ f. in_front f (all_read read (drop (i + 1) xs))) new
    ∙ sym (in_front-inner front y (all_read read (drop (i + 1) xs)))
    ∙ sym (ap (λ o. in_front front (option_and_then (λ z. option_map (λ rest. z ∷ rest) (all_read read (drop (i + 1) xs))) o)) is)
    ∙ ap (λ t. in_front front (all_read read t)) (sym cut) ∙ h

-- one that isn't
pub read-none : {A B : Type 0} (read : A → Option B) (front : List B) (xs : List A) (i : ℕ) (d : A) (whole : Option (List B))
    → i < length xs → read (get_or xs i d) ≡ None
    → in_front front (all_read read (drop i xs)) ≡ whole → None ≡ whole
read-none read front xs i d whole lt is h =
    let cut : drop i xs ≡ get_or xs i d ∷ drop (i + 1) xs = drop_more xs i d lt in
    sym (ap (λ t. in_front front (all_read read t)) cut
    ∙ ap (λ o. in_front front (option_and_then (λ z. option_map (λ rest. z ∷ rest) (all_read read (drop (i + 1) xs))) o)) is) ∙ h

-- none is left
pub read-end : {A B : Type 0} (read : A → Option B) (front : List B) (xs : List A) (i : ℕ) (whole : Option (List B))
    → length xs ≤ i → in_front front (all_read read (drop i xs)) ≡ whole → Some front ≡ whole
read-end read front xs i whole le h =
    sym (ap (λ t. in_front front (all_read read t)) (drop_all i xs le) ∙ ap Some (append-nil front)) ∙ h

-- the names of values
pub all_names-read : (values : List Value) → all_names (items_view values) ≡ all_read (λ v. name_of_data (view v)) values
all_names-read [] = refl
all_names-read (v ∷ vs) = ap (λ o. option_and_then (λ name. option_map (λ rest. name ∷ rest) o) (name_of_data (view v))) (all_names-read vs)

-- what is read of each element behind a view
pub read-map : {A B C : Type 0} (f : A → B) (read : B → Option C) (xs : List A) → all_read read (map f xs) ≡ all_read (λ x. read (f x)) xs
read-map f read [] = refl
read-map f read (x ∷ xs) = ap (λ o. option_and_then (λ y. option_map (λ rest. y ∷ rest) o) (read (f x))) (read-map f read xs)

-- nothing in front
pub in_front-nil : {A : Type 0} (o : Option (List A)) → in_front [] o ≡ o
in_front-nil None = refl
in_front-nil (Some rest) = refl

-- an array that isn't empty
pub names-some : (values : List Value) (b : Bool) → b ≡ (length values == 0) → b ≡ false → all_names (items_view values) ≡ names_of_data (array (items_view values))
names-some [] b e f = absurd (false≢true (sym f ∙ e))
names-some (v ∷ vs) b e f = refl
