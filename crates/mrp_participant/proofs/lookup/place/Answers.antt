use Rattle.std.proofs.Common.{rules, ℕ, IfOk, IfErr, length}
use Rattle.std.specs.{declared.result.Result.Result, declared.result.Result.TheVariants.Ok, declared.result.Result.TheVariants.Err, List.Sorted.IsBinarySearchResult, List.Sorted.IsSearchInRange, declared.cmp.Ordering.Ordering, Cmp.IsTotalOrder}
use Rattle.std.proofs.lemmas.List.Sorted.{answers_always}
use Rattle.std.proofs.Common.{List}
use Rattle.mrp_participant.specs.declared.row.Row.{Row}
use Rattle.mrp_participant.specs.{Ascends, key_of, IsRowAt, IsGapAt}
use Rattle.mrp_participant.proofs.Lookups.{row_at, gap_at, rises}
use Rattle.mrp_participant.proofs.lookup.place.Goals as goal

row : {K C : Type 0} {cmp : K → K → Ordering} → IsTotalOrder cmp → (k : K) (rows : List (Row K C)) (r : Result ℕ ℕ)
    → Ascends cmp key_of rows → IsSearchInRange r (length rows) → IsBinarySearchResult (λ y. cmp (key_of y) k) rows r
    → IfOk r (λ i. IsRowAt cmp k rows i)
row o k rows (Ok i) up below at = row_at o k rows i up below at
row o k rows (Err i) up below at = tt

gap : {K C : Type 0} {cmp : K → K → Ordering} → IsTotalOrder cmp → (k : K) (rows : List (Row K C)) (r : Result ℕ ℕ)
    → Ascends cmp key_of rows → IsSearchInRange r (length rows) → IsBinarySearchResult (λ y. cmp (key_of y) k) rows r
    → IfErr r (λ i. IsGapAt cmp k rows i)
gap o k rows (Ok i) up below at = tt
gap o k rows (Err i) up below at = gap_at o k rows i up below (at (rises o k rows up))

pub returns-clause-row : goal.returns-clause-row
returns-clause-row g c =
    row g.met.K.Ord.total _ _ _ c.requires c.binary_search_by_key.ensures.bound
    (c.binary_search_by_key.ensures.position key_of (answers_always _ _ _ (λ f a r f' e. search rules)))

pub returns-clause-gap : goal.returns-clause-gap
returns-clause-gap g c =
    gap g.met.K.Ord.total _ _ _ c.requires c.binary_search_by_key.ensures.bound
    (c.binary_search_by_key.ensures.position key_of (answers_always _ _ _ (λ f a r f' e. search rules)))
