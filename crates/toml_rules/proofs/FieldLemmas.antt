-- What the members of a table are, seen from the map that holds them.
use Rattle.std.proofs.Common.{◌≡◌, ℕ, Bool, ◌&&◌, List, [], ◌∷◌, ◌++◌, map, refl, ap, sym, Option, Some, None, option_map, string_bytes, String, append_assoc, append-nil, ◌∙◌, ◌+◌, ◌<◌, ◌≤◌, length, get_or, drop, option_and_then}
use Rattle.std.specs.{List.list_all, declared.alloc.Global.Global}
use Rattle.std.proofs.lemmas.List.{drop_more, drop_all}
use Rattle.toml.specs.Data.{Data, Items, item, Members, as_table}
use Rattle.toml.specs.View.{view, members_view, items_view}
use Rattle.toml.specs.declared.value.Value.{Value}
use Rattle.toml_rules.specs.{member_keys, all_tables}

pub list_all-member_keys : (p : List ℕ → Bool) (es : List (String Global × Value))
    → list_all (λ (k : String Global). p (string_bytes k)) (map (λ (e : String Global × Value). e.0) es) ≡ list_all p (member_keys (members_view es))
list_all-member_keys p [] = refl
list_all-member_keys p (e ∷ es) = ap (λ b. p (string_bytes e.0) && b) (list_all-member_keys p es)

-- some tables in front of those that the rest gives
abbrev pub in_front : List Members → Option (List Members) → Option (List Members)
in_front ms o = option_map (λ rest. ms ++ rest) o

-- one more value that is a table
pub in_front-step : (front : List Members) (ms : Members) (d : Data) (ds : Items) → as_table d ≡ Some ms
    → in_front front (all_tables (item d ds)) ≡ in_front (front ++ (ms ∷ [])) (all_tables ds)
in_front-step front ms d ds is = rw is (inner (all_tables ds))
  where
    inner : (o : Option (List Members)) → in_front front (option_map (λ rest. ms ∷ rest) o) ≡ in_front (front ++ (ms ∷ [])) o
    inner None = refl
    inner (Some rest) = ap Some (sym (append_assoc front (ms ∷ []) rest))

-- the values from a place on: one more table, which is put behind those in front
pub tables-step : (front more : List Members) (values : List Value) (i : ℕ) (x : Value) (ms : Members) (whole : Option (List Members))
    → i < length values → x ≡ get_or values i x → as_table (view x) ≡ Some ms → more ≡ front ++ (ms ∷ [])
    → in_front front (all_tables (items_view (drop i values))) ≡ whole → in_front more (all_tables (items_view (drop (i + 1) values))) ≡ whole
tables-step front more values i x ms whole lt here is new h =
    let cut : drop i values ≡ x ∷ drop (i + 1) values = drop_more values i x lt ∙ ap (λ t. t ∷ drop (i + 1) values) (sym here) in
    ap (λ f. in_front f (all_tables (items_view (drop (i + 1) values)))) new
    ∙ sym (in_front-step front ms (view x) (items_view (drop (i + 1) values)) is)
    ∙ ap (λ t. in_front front (all_tables (items_view t))) (sym cut) ∙ h

-- a value that is no table
pub tables-none : (front : List Members) (values : List Value) (i : ℕ) (x : Value) (whole : Option (List Members))
    → i < length values → x ≡ get_or values i x → as_table (view x) ≡ None
    → in_front front (all_tables (items_view (drop i values))) ≡ whole → None ≡ whole
tables-none front values i x whole lt here is h =
    let cut : drop i values ≡ x ∷ drop (i + 1) values = drop_more values i x lt ∙ ap (λ t. t ∷ drop (i + 1) values) (sym here) in
    sym (ap (λ t. in_front front (all_tables (items_view t))) cut
    ∙ ap (λ o. in_front front (option_and_then (λ ms. option_map (λ rest. ms ∷ rest) (all_tables (items_view (drop (i + 1) values)))) o)) is) ∙ h

-- no value is left
pub tables-end : (front : List Members) (values : List Value) (i : ℕ) (whole : Option (List Members))
    → length values ≤ i → in_front front (all_tables (items_view (drop i values))) ≡ whole → Some front ≡ whole
tables-end front values i whole le h =
    sym (ap (λ t. in_front front (all_tables (items_view t))) (drop_all i values le) ∙ ap Some (append-nil front)) ∙ h
