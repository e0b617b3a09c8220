-- Moments of a link: in order, and in words.
use Rattle.std.specs.Prelude.{ℕ, ◌-◌, ◌/◌, ◌%◌, Bool, not, nat_le, List, [], ◌∷◌, ◌++◌, length, filter, codes, replicate}
use Rattle.std.specs.{declared.cmp.Ordering.Ordering, Fmt.decimal}
use Rattle.srp_base.specs.{Text.whole_of, declared.numbers.Cs.Cs}
use Rattle.srp_base.specs.contracts.numbers.CsOrd.TheImpl.{ghosts as cs_order}
use Rattle.attribute_propagation.specs.Dirty.{all_marked}

-- the order of moments
abbrev pub cs_cmp : Cs → Cs → Ordering
cs_cmp = cs_order.cmp

-- whether a moment isn't after another
abbrev pub is_up_to : Cs → Cs → Bool
is_up_to at u = nat_le u.0 at.0

-- of some moments those that are after another, each once
abbrev pub later_than : Cs → List Cs → List Cs
later_than at moments = all_marked cs_cmp (filter (λ u. not (is_up_to at u)) moments) []

-- a number below 100 as two digits
unfoldable pub two_digits : ℕ → List ℕ
two_digits n = let ds = decimal n in replicate (2 - length ds) 48 ++ ds

-- a moment in seconds: `S.CC`
abbrev pub moment_text : Cs → List ℕ
moment_text at = whole_of (decimal (at.0 / 100) ∷ codes "." ∷ two_digits (at.0 % 100) ∷ [])
