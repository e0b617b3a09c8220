-- The least of some numbers, found one after the other.
use Rattle.std.proofs.Common.{ℕ, List, Option, Some, None, fold, min}
use Rattle.std.specs.List.{reduce}

-- the least of what was found so far and of some more numbers
abbrev pub least_with : Option ℕ → List ℕ → Option ℕ
least_with None ns = reduce min ns
least_with (Some n) ns = Some (fold min n ns)
