-- What each key has after each call.
use Rattle.std.proofs.Common.{◌≡◌, Bool, true, false, if◌then◌else◌, List, [], ◌∷◌, map, fold, refl, sym, ap, ◌∙◌, option_map, option_and_then, arith}
use Rattle.std.specs.{declared.option.Option.Option, declared.option.Option.TheVariants.None, declared.option.Option.TheVariants.Some, declared.cmp.Ordering.Ordering, Cmp.IsTotalOrder, List.filter_map, List.cons_option}
use Rattle.srp_base.specs.declared.{numbers.Cs.Cs, mrp.MrpEvent.MrpEvent}
use Rattle.mrp_participant.specs.declared.row.Row.{Row}
use Rattle.mrp_participant.specs.{Ascends, key_of, same, find, put, leave_all_row, after_declare, after_withdraw, after_leave, after_hear, row_hearing, row_after_receive, AreRows, rows_hearing, rows_after_receive}
use Rattle.mrp_participant.proofs.{Lookups.find-put, Lookups.find-fits, Lookups.find-same, Lookups.none_above, Lookups.same_is, Transitions.Keeps, Transitions.declare-fits, Transitions.withdraw-fits, Transitions.leave-fits, Transitions.hear-fits, Transitions.AreRows-hear, Transitions.AreRows-leave_all}

module _ {K C : Type 0} {cmp : K → K → Ordering} (o : IsTotalOrder cmp) where
  pub each-declare : (eq : C → C → Bool) (k : K) (c : C) (rows : List (Row K C)) → AreRows cmp rows → (q : K)
      → find cmp q (put cmp k (after_declare eq k c (find cmp k rows)) rows)
      ≡ (if same cmp k q then after_declare eq k c (find cmp k rows) else find cmp q rows)
  each-declare eq k c rows are q = find-put o k q _ rows (declare-fits o eq k c _ (find-fits o k rows are.1)).is_of are.0

  pub each-withdraw : (k : K) (rows : List (Row K C)) → AreRows cmp rows → (q : K)
      → find cmp q (put cmp k (after_withdraw (find cmp k rows)) rows)
      ≡ (if same cmp k q then after_withdraw (find cmp k rows) else find cmp q rows)
  each-withdraw k rows are q = find-put o k q _ rows (withdraw-fits o k _ (find-fits o k rows are.1)).is_of are.0

  pub each-leave : (k : K) (rows : List (Row K C)) → AreRows cmp rows → (q : K)
      → find cmp q (put cmp k (after_leave (find cmp k rows)) rows)
      ≡ (if same cmp k q then after_leave (find cmp k rows) else find cmp q rows)
  each-leave k rows are q = find-put o k q _ rows (leave-fits o k _ (find-fits o k rows are.1)).is_of are.0

  each-hear : (event : MrpEvent) (k : K) (c : C) (leave : Cs) (rows : List (Row K C)) → AreRows cmp rows → (q : K)
      → find cmp q (put cmp k (after_hear event k c leave (find cmp k rows)) rows)
      ≡ (if same cmp k q then after_hear event k c leave (find cmp k rows) else find cmp q rows)
  each-hear event k c leave rows are q = find-put o k q _ rows (hear-fits o event k c leave _ (find-fits o k rows are.1)).is_of are.0

  -- ---- events at every row

  mapped_by : (f : Row K C → Row K C) (r : Row K C) (rows : List (Row K C)) (q : K) (b : Bool)
      → find cmp q (map f rows) ≡ option_map f (find cmp q rows)
      → (if b then Some (f r) else find cmp q (map f rows)) ≡ option_map f (if b then Some r else find cmp q rows)
  mapped_by f r rows q true rest = refl
  mapped_by f r rows q false rest = rest

  pub each-mapped : (f : Row K C → Row K C) → ((r : Row K C) → (f r).key ≡ r.key) → (rows : List (Row K C)) (q : K)
      → find cmp q (map f rows) ≡ option_map f (find cmp q rows)
  each-mapped f keeps [] q = refl
  each-mapped f keeps (r ∷ rows) q = grind (arith, each-mapped f keeps rows q, mapped_by)

  kept_by : (f : Row K C → Option (Row K C)) (r : Row K C) (rows : List (Row K C)) (q : K) (new : Option (Row K C))
      (b : Bool) → f r ≡ new → same cmp r.key q ≡ b → ((s : Row K C) → new ≡ Some s → s.key ≡ r.key)
      → (b ≡ true → find cmp q rows ≡ None) → find cmp q (filter_map f rows) ≡ option_and_then f (find cmp q rows)
      → find cmp q (cons_option new (filter_map f rows)) ≡ option_and_then f (if b then Some r else find cmp q rows)
  kept_by f r rows q None true is at keeps none rest = rest ∙ ap (option_and_then f) (none refl) ∙ sym is
  kept_by f r rows q None false is at keeps none rest = rest
  kept_by f r rows q (Some s) true is at keeps none rest = grind arith
  kept_by f r rows q (Some s) false is at keeps none rest = grind arith

  pub each-kept : (f : Row K C → Option (Row K C)) → Keeps f → (rows : List (Row K C)) → Ascends cmp key_of rows
      → (q : K) → find cmp q (filter_map f rows) ≡ option_and_then f (find cmp q rows)
  each-kept f keeps [] up q = refl
  each-kept f keeps (r ∷ rows) up q =
      kept_by f r rows q (f r) (same cmp r.key q) refl refl (λ s e. keeps.key r s e) (λ e. none_above o r.key q rows up.0 e) (each-kept f keeps rows up.1 q)

  -- ---- receiving

  hearing_by : (leave : Cs) (event : MrpEvent) (k : K) (c : C) (rows : List (Row K C)) (q : K) (b : Bool)
      → same cmp k q ≡ b → (if b then after_hear event k c leave (find cmp k rows) else find cmp q rows)
      ≡ (if b then after_hear event k c leave (find cmp q rows) else find cmp q rows)
  hearing_by leave event k c rows q true at = ap (after_hear event k c leave) (find-same o k q rows (same_is cmp k q at))
  hearing_by leave event k c rows q false at = refl

  pub each-fold : (leave : Cs) (events : List (MrpEvent × K × C)) (rows : List (Row K C)) → AreRows cmp rows → (q : K)
      → find cmp q (fold (rows_hearing cmp leave) rows events)
      ≡ fold (row_hearing cmp leave q) (find cmp q rows) events
  each-fold leave [] rows are q = refl
  each-fold leave (e ∷ events) rows are q =
      each-fold leave events (rows_hearing cmp leave rows e) (AreRows-hear o e.0 e.1 e.2 leave rows are) q
      ∙ ap (λ x. fold (row_hearing cmp leave q) x events) (each-hear e.0 e.1 e.2 leave rows are q ∙ hearing_by leave e.0 e.1 e.2 rows q (same cmp e.1 q) refl)

  start_by : (leave : Cs) (leave_all : Bool) (rows : List (Row K C)) (q : K)
      → find cmp q (if leave_all then map (leave_all_row leave) rows else rows)
      ≡ (if leave_all then option_map (leave_all_row leave) (find cmp q rows) else find cmp q rows)
  start_by leave true rows q = each-mapped (leave_all_row leave) (λ r. refl) rows q
  start_by leave false rows q = refl

  pub each-receive : (leave : Cs) (leave_all : Bool) (events : List (MrpEvent × K × C)) (rows : List (Row K C))
      → AreRows cmp rows → (q : K) → find cmp q (rows_after_receive cmp leave leave_all events rows)
      ≡ row_after_receive cmp leave leave_all events q (find cmp q rows)
  each-receive leave leave_all events rows are q = grind (arith, each-fold, AreRows-leave_all, start_by)
