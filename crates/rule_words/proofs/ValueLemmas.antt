-- How many values an array has.
use Rattle.std.proofs.Common.{◌≡◌, List, [], ◌∷◌, length, refl, arith}
use Rattle.toml.specs.View.{items_view}
use Rattle.toml.specs.declared.value.Value.{Value}
use Rattle.rule_words.specs.{items_count}

pub count_items : (vs : List Value) → items_count (items_view vs) ≡ length vs
count_items [] = refl
count_items (v ∷ vs) = let rest = count_items vs in omega (arith, rest)
