-- The first key of a table that passes, seen from the map that holds them.
use Rattle.std.proofs.Common.{◌≡◌, ℕ, Bool, true, false, cond, List, [], ◌∷◌, map, refl, Option, Some, option_map, string_bytes, String}
use Rattle.std.specs.{List.find, declared.alloc.Global.Global}
use Rattle.toml.specs.View.{members_view}
use Rattle.toml.specs.declared.value.Value.{Value}
use Rattle.toml_rules.specs.Fields.{member_keys}

pub find-member_keys : (p : List ℕ → Bool) (es : List (String Global × Value))
    → option_map string_bytes (find (λ (k : String Global). p (string_bytes k)) (map (λ (e : String Global × Value). e.0) es))
    ≡ find p (member_keys (members_view es))
find-member_keys p [] = refl
find-member_keys p (e ∷ es) = inner (p (string_bytes e.0)) _ _ (find-member_keys p es)
  where
    inner : (b : Bool) (xs : Option (String Global)) (ys : Option (List ℕ)) → option_map string_bytes xs ≡ ys
        → option_map string_bytes (cond b (Some e.0) xs) ≡ cond b (Some (string_bytes e.0)) ys
    inner true xs ys h = refl
    inner false xs ys h = h
