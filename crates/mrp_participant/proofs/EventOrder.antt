-- Each key hears its own events alone, so events in the order of their keys make the same of the rows.
use Rattle.std.proofs.Common.{◌≡◌, Bool, true, false, not, ◌&&◌, if◌then◌else◌, List, [], ◌∷◌, length, filter, fold, refl, sym, ap, ◌∙◌, option_map, arith}
use Rattle.std.specs.{declared.option.Option.Option, declared.cmp.Ordering.Ordering, declared.cmp.Ordering.TheVariants.Less, declared.cmp.Ordering.TheVariants.Equal, declared.cmp.Ordering.TheVariants.Greater, Ordering.is_eq, Ordering.is_lt, Ordering.ordering_reverse, Cmp.IsTotalOrder, List.Sorted.ties, List.Sorted.IsPermutation, List.Sorted.IsStableByKey}
use Rattle.std.proofs.lemmas.List.Sorted.{length_permutation}
use Rattle.srp_base.proofs.Lists.{filter-along, no_more}
use Rattle.srp_base.specs.declared.{numbers.Cs.Cs, mrp.MrpEvent.MrpEvent}
use Rattle.mrp_participant.specs.declared.row.Row.{Row}
use Rattle.mrp_participant.specs.{same, leave_all_row, after_hear, row_hearing, row_after_receive}

tied_by : (c d : Ordering) → d ≡ ordering_reverse c → (not (is_lt d) && not (is_lt c)) ≡ is_eq c
tied_by Less d e = rw e refl
tied_by Equal d e = rw e refl
tied_by Greater d e = rw e refl

module _ {K C : Type 0} {cmp : K → K → Ordering} (o : IsTotalOrder cmp) where
  -- the events of a key
  abbrev own : K → MrpEvent × K × C → Bool
  own q e = same cmp e.1 q

  own_by : (leave : Cs) (q : K) (r : Option (Row K C)) (e : MrpEvent × K × C) (events : List (MrpEvent × K × C)) (b : Bool) → same cmp e.1 q ≡ b
      → ((x : Option (Row K C)) → fold (row_hearing cmp leave q) x events ≡ fold (row_hearing cmp leave q) x (filter (own q) events))
      → fold (row_hearing cmp leave q) (if b then after_hear e.0 e.1 e.2 leave r else r) events
      ≡ fold (row_hearing cmp leave q) r (if b then e ∷ filter (own q) events else filter (own q) events)
  own_by leave q r e events true at later = grind arith
  own_by leave q r e events false at later = later r

  hears_own : (leave : Cs) (q : K) (events : List (MrpEvent × K × C)) (r : Option (Row K C))
      → fold (row_hearing cmp leave q) r events ≡ fold (row_hearing cmp leave q) r (filter (own q) events)
  hears_own leave q [] r = refl
  hears_own leave q (e ∷ events) r = own_by leave q r e events (same cmp e.1 q) refl (hears_own leave q events)

  -- a stable order keeps the events of each key
  own-kept : (events sorted : List (MrpEvent × K × C)) (q : K) → length sorted ≡ length events
      → IsStableByKey (λ (e : MrpEvent × K × C). e.1) cmp events sorted
      → filter (own q) sorted ≡ filter (own q) events
  own-kept [] sorted q count stable = ap (filter (own q)) (no_more sorted count)
  own-kept (e ∷ events) sorted q count stable =
      let of_q : MrpEvent × K × C = (e.0, q, e.2) in
      let tie : MrpEvent × K × C → Bool = ties (λ a b. is_lt (cmp a.1 b.1)) of_q in
      let alike : (x : MrpEvent × K × C) → tie x ≡ own q x = λ x. tied_by (cmp x.1 q) (cmp q x.1) (o.antisymm q x.1) in
      sym (filter-along tie (own q) alike sorted) ∙ (stable of_q ∙ filter-along tie (own q) alike (e ∷ events))

  -- so what they make of the row of a key is the same, also of events that were moved from where they stood
  pub heard-by_key : (events before sorted : List (MrpEvent × K × C)) → before ≡ events → IsPermutation before sorted
      → IsStableByKey (λ (e : MrpEvent × K × C). e.1) cmp before sorted
      → (leave : Cs) (leave_all : Bool) (k : K) (r : Option (Row K C))
      → row_after_receive cmp leave leave_all sorted k r ≡ row_after_receive cmp leave leave_all events k r
  heard-by_key events before sorted is moved stable leave leave_all k r =
      let start : Option (Row K C) = if leave_all then option_map (leave_all_row leave) r else r in
      hears_own leave k sorted start
      ∙ (ap (fold (row_hearing cmp leave k) start) (own-kept before sorted k (length_permutation before sorted moved) stable)
      ∙ (sym (hears_own leave k before start) ∙ ap (fold (row_hearing cmp leave k) start) is))
