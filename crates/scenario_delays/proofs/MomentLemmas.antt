-- What is sorted by a number doesn't fall in it.
use Rattle.std.proofs.Common.{ℕ, List}
use Rattle.std.specs.{List.Sorted.IsNonDecreasingBy, List.Sorted.IsSortedByKey, Ordering.nat_cmp}
use Rattle.std.proofs.lemmas.List.Sorted.{IsNonDecreasingBy-from_sort}

pub sorted_rises : {X : Type 0} (n : X → ℕ) (xs : List X) → IsSortedByKey n nat_cmp xs → IsNonDecreasingBy n xs
sorted_rises n xs sorted = IsNonDecreasingBy-from_sort n xs sorted
