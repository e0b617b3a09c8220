-- What each call makes of what is owed of one key, and of what a registrar holds of it.
use Rattle.std.proofs.Common.{◌≡◌, ℕ, Bool, true, false, not, ◌||◌, if◌then◌else◌, List, [], ◌∷◌, filter, fold, refl, sym, ◌∙◌, inl, inr, option_map, option_and_then, arith}
use Rattle.std.specs.Prelude.{option_to_list}
use Rattle.std.specs.{declared.option.Option.Option, declared.option.Option.TheVariants.None, declared.option.Option.TheVariants.Some, declared.cmp.Ordering.Ordering}
use Rattle.srp_base.specs.declared.{numbers.Cs.Cs, mrp.MrpEvent.MrpEvent}
use Rattle.srp_base.specs.declared.mrp.MrpEvent.TheVariants.{New, JoinIn, OnlyIn, JoinMt, OnlyMt, Lv}
use Rattle.applicant.specs.declared.{Applicant.Applicant, AppEvent.AppEvent}
use Rattle.applicant.specs.declared.Applicant.TheVariants.{Vo, Vp, Vn, An, Aa, Qa, La}
use Rattle.applicant.specs.declared.AppEvent.TheVariants.{RxIn, RxMt, RxLv as AppRxLv, RxLeaveAll as AppRxLeaveAll, Periodic, Tx}
use Rattle.applicant.specs.Table as applicant
use Rattle.registrar.specs.declared.{Registrar.Registrar, RegEvent.TheVariants.TxLeaveAll as RegTxLeaveAll, RegEvent.TheVariants.LeaveTimer}
use Rattle.registrar.specs.declared.Registrar.TheVariants.{Held, Leaving, Empty}
use Rattle.registrar.specs.Table as registrar
use Rattle.mrp_participant.specs.declared.row.Row.{Row}
use Rattle.mrp_participant.specs.{same, is_leaving_in, applicant_of, kept_row, with_applicant, applicant_takes, registrar_takes, declared_row, after_declare, after_withdraw, left_row, after_leave, leave_all_row, heard_row, after_hear, row_hearing, row_after_receive, registered_in, declared_in, leave_is_due, after_leave_due, periodic_row, sent_row, sent_event, held_in, held_after_event, held_hearing, held_after, Owes, OwesOf}
use Rattle.registrar.specs.Table.{is_in}
use Rattle.applicant.specs.Table.{is_observer, is_quiet}

-- ---- what is owed, where more or less is held or asked

module _ {C : Type 0} where
  owes-same_by : (a : Applicant) (c : C) (held held' : Option C) (asked asked' : Bool) → held ≡ held'
      → (asked ≡ true → asked' ≡ true) → Owes a c held asked → Owes a c held' asked'
  owes-same_by Vo c held held' asked asked' e f h = sym e ∙ h
  owes-same_by An c held held' asked asked' e f (inl h) = inl (sym e ∙ h)
  owes-same_by An c held held' asked asked' e f (inr h) = inr (f h)
  owes-same_by Aa c held held' asked asked' e f (inl h) = inl (sym e ∙ h)
  owes-same_by Aa c held held' asked asked' e f (inr h) = inr (f h)
  owes-same_by Qa c held held' asked asked' e f (inl h) = inl (sym e ∙ h)
  owes-same_by Qa c held held' asked asked' e f (inr h) = inr (f h)
  owes-same_by _ c held held' asked asked' e f h = tt

  owes-asked_by : (a : Applicant) (c : C) (held held' : Option C) (asked asked' : Bool) → (held ≡ None → held' ≡ None)
      → asked' ≡ true → Owes a c held asked → Owes a c held' asked'
  owes-asked_by Vo c held held' asked asked' f e h = f h
  owes-asked_by An c held held' asked asked' f e h = inr e
  owes-asked_by Aa c held held' asked asked' f e h = inr e
  owes-asked_by Qa c held held' asked asked' f e h = inr e
  owes-asked_by _ c held held' asked asked' f e h = tt

module _ {K C : Type 0} where
  -- what is owed where the same is held, and a LeaveAll still comes where one did
  pub owes-same : (r : Option (Row K C)) (held held' : Option C) (asked asked' : Bool) → held ≡ held'
      → (asked ≡ true → asked' ≡ true) → OwesOf r held asked → OwesOf r held' asked'
  owes-same None held held' asked asked' e f h = sym e ∙ h
  owes-same (Some r) held held' asked asked' e f h = owes-same_by r.applicant r.content held held' asked asked' e f h

  -- what is owed where a LeaveAll comes, and nothing is held where nothing was
  pub owes-asked : (r : Option (Row K C)) (held held' : Option C) (asked asked' : Bool) → (held ≡ None → held' ≡ None)
      → asked' ≡ true → OwesOf r held asked → OwesOf r held' asked'
  owes-asked None held held' asked asked' f e h = f h
  owes-asked (Some r) held held' asked asked' f e h = owes-asked_by r.applicant r.content held held' asked asked' f e h

-- ---- events at an applicant

module _ {C : Type 0} (held : Option C) (asked : Bool) where
  periodic-owes_by : (c : C) (in_ : Bool) (a : Applicant) → Owes a c held asked → Owes (applicant.next Periodic in_ a) c held asked
  periodic-owes_by c in_ Vo h = h
  periodic-owes_by c in_ _ h = h

  in-owes : (c : C) (in_ : Bool) (a : Applicant) → Owes a c held asked → Owes (applicant.next RxIn in_ a) c held asked
  in-owes c in_ Aa h = h
  in-owes c in_ _ h = h

  mt-owes : (c : C) (in_ : Bool) (a : Applicant) → Owes a c held asked → Owes (applicant.next RxMt in_ a) c held asked
  mt-owes c in_ Qa h = h
  mt-owes c in_ _ h = h

  lv-owes : (c : C) (in_ : Bool) (a : Applicant) → Owes a c held asked → Owes (applicant.next AppRxLv in_ a) c held asked
  lv-owes c in_ Vo h = h
  lv-owes c in_ _ h = tt

  leave_all-owes_by : (c : C) (in_ : Bool) (a : Applicant) (asked' : Bool) → Owes a c held asked' → Owes (applicant.next AppRxLeaveAll in_ a) c held asked
  leave_all-owes_by c in_ Vo asked' h = h
  leave_all-owes_by c in_ _ asked' h = tt

-- ---- requests, and timers

module _ {K C : Type 0} (held : Option C) (asked : Bool) where
  declare-owes_by : (eq : C → C → Bool) (c : C) (r : Row K C) (a : Applicant) → Owes a r.content held asked
      → OwesOf (Some (declared_row eq c (with_applicant a r))) held asked
  declare-owes_by eq c r Vo h = tt
  declare-owes_by eq c r Vp h = elim (eq r.content c) as
      (λ b. OwesOf (Some (if b then with_applicant Vp r else record r {
        applicant = Vn;
        content = c;
      })) held asked) [ true ↦ h | false ↦ tt ]
  declare-owes_by eq c r Vn h = elim (eq r.content c) as
      (λ b. OwesOf (Some (if b then with_applicant Vn r else record r {
        applicant = Vn;
        content = c;
      })) held asked) [ true ↦ h | false ↦ tt ]
  declare-owes_by eq c r An h = elim (eq r.content c) as
      (λ b. OwesOf (Some (if b then with_applicant An r else record r {
        applicant = Vn;
        content = c;
      })) held asked) [ true ↦ h | false ↦ tt ]
  declare-owes_by eq c r Aa h = elim (eq r.content c) as
      (λ b. OwesOf (Some (if b then with_applicant Aa r else record r {
        applicant = Vn;
        content = c;
      })) held asked) [ true ↦ h | false ↦ tt ]
  declare-owes_by eq c r Qa h = elim (eq r.content c) as
      (λ b. OwesOf (Some (if b then with_applicant Qa r else record r {
        applicant = Vn;
        content = c;
      })) held asked) [ true ↦ h | false ↦ tt ]
  declare-owes_by eq c r La h = tt

  pub declare-owes : (eq : C → C → Bool) (k : K) (c : C) (r : Option (Row K C)) → OwesOf r held asked → OwesOf (after_declare eq k c r) held asked
  declare-owes eq k c None h = tt
  declare-owes eq k c (Some r) h = declare-owes_by eq c r r.applicant h

  withdraw-owes_by : (r : Row K C) (a : Applicant) → Owes a r.content held asked → Owes (applicant.withdraw_of a) r.content held asked
  withdraw-owes_by r Vo h = h
  withdraw-owes_by r _ h = tt

  pub withdraw-owes : (r : Option (Row K C)) → OwesOf r held asked → OwesOf (after_withdraw r) held asked
  withdraw-owes None h = h
  withdraw-owes (Some r) h = withdraw-owes_by r r.applicant h

  kept-owes_by : (r : Row K C) (a : Applicant) (b : Bool) → Owes a r.content held asked
      → OwesOf (if not (is_observer a) || b then Some (with_applicant a r) else None) held asked
  kept-owes_by r Vo true h = h
  kept-owes_by r Vo false h = h
  kept-owes_by r Vp b h = h
  kept-owes_by r Vn b h = h
  kept-owes_by r An b h = h
  kept-owes_by r Aa b h = h
  kept-owes_by r Qa b h = h
  kept-owes_by r La b h = h

  -- a row that goes where nothing is kept of it owes what it owed
  kept-owes : (r : Row K C) → OwesOf (Some r) held asked → OwesOf (kept_row r) held asked
  kept-owes r h = kept-owes_by r r.applicant (registrar.is_registered_in r.registrar) h

  left-owes : (r : Row K C) → OwesOf (Some r) held asked → OwesOf (left_row r) held asked
  left-owes r h = kept-owes (record r { registrar = registrar.next LeaveTimer r.registrar }) h

  pub leave-owes : (r : Option (Row K C)) → OwesOf r held asked → OwesOf (after_leave r) held asked
  leave-owes None h = h
  leave-owes (Some r) h = left-owes r h

  leave_due-owes_by : (r : Row K C) (b : Bool) → OwesOf (Some r) held asked → OwesOf (if b then left_row r else Some r) held asked
  leave_due-owes_by r true h = left-owes r h
  leave_due-owes_by r false h = h

  pub leave_due-owes : (now : ℕ) (r : Option (Row K C)) → OwesOf r held asked → OwesOf (option_and_then (after_leave_due now) r) held asked
  leave_due-owes now None h = h
  leave_due-owes now (Some r) h = leave_due-owes_by r (leave_is_due now r) h

  pub periodic-owes : (r : Option (Row K C)) → OwesOf r held asked → OwesOf (option_map periodic_row r) held asked
  periodic-owes None h = h
  periodic-owes (Some r) h = periodic-owes_by held asked r.content (is_in r.registrar) r.applicant h

  pub periodic_if-owes : (b : Bool) (r : Option (Row K C)) → OwesOf r held asked → OwesOf (option_map (λ r. if b then periodic_row r else r) r) held asked
  periodic_if-owes true r h = periodic-owes r h
  periodic_if-owes false None h = h
  periodic_if-owes false (Some r) h = h

  -- ---- receiving

  -- after a LeaveAll was received, none is owed in place of a content any more
  leave_all-owes : (leave : Cs) (r : Option (Row K C)) (asked' : Bool) → OwesOf r held asked' → OwesOf (option_map (leave_all_row leave) r) held asked
  leave_all-owes leave None asked' h = h
  leave_all-owes leave (Some r) asked' h = leave_all-owes_by held asked r.content (is_in r.registrar) r.applicant asked' h

  hear-owes : (event : MrpEvent) (k : K) (c : C) (leave : Cs) (r : Option (Row K C)) → OwesOf r held asked → OwesOf (after_hear event k c leave r) held asked
  hear-owes New k c leave None h = h
  hear-owes JoinIn k c leave None h = h
  hear-owes OnlyIn k c leave None h = h
  hear-owes JoinMt k c leave None h = h
  hear-owes OnlyMt k c leave None h = h
  hear-owes Lv k c leave None h = h
  hear-owes New k c leave (Some r) h = h
  hear-owes JoinIn k c leave (Some r) h = in-owes held asked r.content (is_in r.registrar) r.applicant h
  hear-owes OnlyIn k c leave (Some r) h = in-owes held asked r.content (is_in r.registrar) r.applicant h
  hear-owes JoinMt k c leave (Some r) h = mt-owes held asked r.content (is_in r.registrar) r.applicant h
  hear-owes OnlyMt k c leave (Some r) h = mt-owes held asked r.content (is_in r.registrar) r.applicant h
  hear-owes Lv k c leave (Some r) h = lv-owes held asked r.content (is_in r.registrar) r.applicant h

  hearing-owes : (leave : Cs) (r : Option (Row K C)) (e : MrpEvent × K × C) (b : Bool) → OwesOf r held asked
      → OwesOf (if b then after_hear e.0 e.1 e.2 leave r else r) held asked
  hearing-owes leave r e true h = hear-owes e.0 e.1 e.2 leave r h
  hearing-owes leave r e false h = h

  fold-owes : (cmp : K → K → Ordering) (leave : Cs) (k : K) (events : List (MrpEvent × K × C)) (r : Option (Row K C))
      → OwesOf r held asked → OwesOf (fold (row_hearing cmp leave k) r events) held asked
  fold-owes cmp leave k [] r h = h
  fold-owes cmp leave k (e ∷ events) r h = fold-owes cmp leave k events (row_hearing cmp leave k r e) (hearing-owes leave r e (same cmp e.1 k) h)

  pub receive-owes : (cmp : K → K → Ordering) (leave : Cs) (leave_all : Bool) (events : List (MrpEvent × K × C))
      (k : K) (r : Option (Row K C)) → OwesOf r held (leave_all || asked)
      → OwesOf (row_after_receive cmp leave leave_all events k r) held asked
  receive-owes cmp leave true events k r h = fold-owes cmp leave k events (option_map (leave_all_row leave) r) (leave_all-owes leave r true h)
  receive-owes cmp leave false events k r h = fold-owes cmp leave k events r h

-- ---- what is held

module _ {K C : Type 0} where
  kept-held_by : (r : Row K C) (g : Registrar) (b : Bool)
      → held_in (if b || registrar.is_registered_in g then Some (record r { registrar = g }) else None)
      ≡ held_in (Some (record r { registrar = g }))
  kept-held_by r Held true = refl
  kept-held_by r Held false = refl
  kept-held_by r Leaving true = refl
  kept-held_by r Leaving false = refl
  kept-held_by r Empty true = refl
  kept-held_by r Empty false = refl

  kept-held : (r : Row K C) → held_in (kept_row r) ≡ held_in (Some r)
  kept-held r = kept-held_by r r.registrar (not (is_observer r.applicant))

  pub declare-held : (eq : C → C → Bool) (k : K) (c : C) (r : Option (Row K C)) → held_in (after_declare eq k c r) ≡ held_in r
  declare-held eq k c None = refl
  declare-held eq k c (Some r) = grind arith

  pub withdraw-held : (r : Option (Row K C)) → held_in (after_withdraw r) ≡ held_in r
  withdraw-held None = refl
  withdraw-held (Some r) = refl

  left-held_by : (r : Row K C) (g : Registrar) → held_in (left_row (record r { registrar = g })) ≡ held_in (Some (record r { registrar = g }))
  left-held_by r Held = kept-held (record r { registrar = Held })
  left-held_by r Leaving = kept-held (record r { registrar = Empty })
  left-held_by r Empty = kept-held (record r { registrar = Empty })

  pub leave-held : (r : Option (Row K C)) → held_in (after_leave r) ≡ held_in r
  leave-held None = refl
  leave-held (Some r) = left-held_by r r.registrar

  leave_due-held_by : (r : Row K C) (b : Bool) → held_in (if b then left_row r else Some r) ≡ held_in (Some r)
  leave_due-held_by r true = left-held_by r r.registrar
  leave_due-held_by r false = refl

  pub leave_due-held : (now : ℕ) (r : Option (Row K C)) → held_in (option_and_then (after_leave_due now) r) ≡ held_in r
  leave_due-held now None = refl
  leave_due-held now (Some r) = leave_due-held_by r (leave_is_due now r)

  pub periodic-held : (r : Option (Row K C)) → held_in (option_map periodic_row r) ≡ held_in r
  periodic-held None = refl
  periodic-held (Some r) = refl

  pub periodic_if-held : (b : Bool) (r : Option (Row K C)) → held_in (option_map (λ r. if b then periodic_row r else r) r) ≡ held_in r
  periodic_if-held true r = periodic-held r
  periodic_if-held false None = refl
  periodic_if-held false (Some r) = refl

  -- ---- what is held after receiving

  hear-held_by : (event : MrpEvent) (c : C) (leave : Cs) (r : Row K C) (g : Registrar)
      → held_in (Some (heard_row event c leave (record r { registrar = g })))
      ≡ held_after_event event c (held_in (Some (record r { registrar = g })))
  hear-held_by New c leave r Held = refl
  hear-held_by New c leave r Leaving = refl
  hear-held_by New c leave r Empty = refl
  hear-held_by JoinIn c leave r Held = refl
  hear-held_by JoinIn c leave r Leaving = refl
  hear-held_by JoinIn c leave r Empty = refl
  hear-held_by OnlyIn c leave r g = refl
  hear-held_by JoinMt c leave r Held = refl
  hear-held_by JoinMt c leave r Leaving = refl
  hear-held_by JoinMt c leave r Empty = refl
  hear-held_by OnlyMt c leave r g = refl
  hear-held_by Lv c leave r Held = refl
  hear-held_by Lv c leave r Leaving = refl
  hear-held_by Lv c leave r Empty = refl

  hear-held : (event : MrpEvent) (k : K) (c : C) (leave : Cs) (r : Option (Row K C))
      → held_in (after_hear event k c leave r) ≡ held_after_event event c (held_in r)
  hear-held New k c leave None = refl
  hear-held JoinIn k c leave None = refl
  hear-held OnlyIn k c leave None = refl
  hear-held JoinMt k c leave None = refl
  hear-held OnlyMt k c leave None = refl
  hear-held Lv k c leave None = refl
  hear-held event k c leave (Some r) = hear-held_by event c leave r r.registrar

  hearing-held : (leave : Cs) (r : Option (Row K C)) (e : MrpEvent × K × C) (b : Bool)
      → held_in (if b then after_hear e.0 e.1 e.2 leave r else r)
      ≡ (if b then held_after_event e.0 e.2 (held_in r) else held_in r)
  hearing-held leave r e true = hear-held e.0 e.1 e.2 leave r
  hearing-held leave r e false = refl

  fold-held : (cmp : K → K → Ordering) (leave : Cs) (k : K) (events : List (MrpEvent × K × C)) (r : Option (Row K C))
      → held_in (fold (row_hearing cmp leave k) r events) ≡ fold (held_hearing cmp k) (held_in r) events
  fold-held cmp leave k [] r = refl
  fold-held cmp leave k (e ∷ events) r = grind (arith, fold-held cmp leave k events (row_hearing cmp leave k r e), hearing-held)

  leave_all-held_by : (leave : Cs) (r : Row K C) (g : Registrar) → held_in (Some (leave_all_row leave (record r { registrar = g }))) ≡ None
  leave_all-held_by leave r Held = refl
  leave_all-held_by leave r Leaving = refl
  leave_all-held_by leave r Empty = refl

  leave_all-held : (leave : Cs) (r : Option (Row K C)) → held_in (option_map (leave_all_row leave) r) ≡ None
  leave_all-held leave None = refl
  leave_all-held leave (Some r) = leave_all-held_by leave r r.registrar

  pub receive-held : (cmp : K → K → Ordering) (leave : Cs) (leave_all : Bool) (events : List (MrpEvent × K × C))
      (k : K) (r : Option (Row K C)) → held_in (row_after_receive cmp leave leave_all events k r)
      ≡ held_after cmp k (held_in r) (record { leave_all = leave_all; events = events })
  receive-held cmp leave true events k r = grind (arith, fold-held, option_map, leave_all-held)
  receive-held cmp leave false events k r = fold-held cmp leave k events r

-- ---- sending

module _ {C : Type 0} where
  idle-owes : (leave_all : Bool) (held : Option C) → (leave_all ≡ false → held ≡ None) → (if leave_all then None else held) ≡ None
  idle-owes true held h = refl
  idle-owes false held h = h refl

  nothing-held : (b : Bool) (held : Option C) → held ≡ None → held ≡ (if b then None else held)
  nothing-held true held h = h
  nothing-held false held h = refl

module _ {K C : Type 0} where
  -- what is held after some events of its key alone
  abbrev pub held_after_all : Option C → List (MrpEvent × K × C) → Option C
  held_after_all held events = fold (λ held e. held_after_event e.0 e.2 held) held events

  hearing-alone : (cmp : K → K → Ordering) (k : K) (held : Option C) (e : MrpEvent × K
      × C) (events : List (MrpEvent × K × C)) (b : Bool)
      → ((held : Option C) → fold (held_hearing cmp k) held events
      ≡ held_after_all held (filter (λ e. same cmp e.1 k) events))
      → fold (held_hearing cmp k) (if b then held_after_event e.0 e.2 held else held) events
      ≡ held_after_all held (if b then e ∷ filter (λ e. same cmp e.1 k) events else filter
      (λ e. same cmp e.1 k) events)
  hearing-alone cmp k held e events true rest = rest (held_after_event e.0 e.2 held)
  hearing-alone cmp k held e events false rest = rest held

  -- only the events of its key count
  pub events-alone : (cmp : K → K → Ordering) (k : K) (events : List (MrpEvent × K × C)) (held : Option C)
      → fold (held_hearing cmp k) held events ≡ held_after_all held (filter (λ e. same cmp e.1 k) events)
  events-alone cmp k [] held = refl
  events-alone cmp k (e ∷ events) held = hearing-alone cmp k held e events (same cmp e.1 k) (events-alone cmp k events)

  -- a row in any states of its machines
  unfoldable pub in_states : Applicant → Registrar → Row K C → Row K C
  in_states a g r = record r { applicant = a; registrar = g }

  -- what a row owes after sending, by what it said
  abbrev OwesSent : Bool → Bool → Cs → Row K C → Option C → Bool → Type 0
  OwesSent leave_all taken leave r held asked = OwesOf (sent_row leave_all taken leave r)
      (held_after_all (if leave_all then None else held) (option_to_list (sent_event leave_all taken leave r))) asked

  taken_with_leave_all : (leave : Cs) (r : Row K C) (held : Option C) (asked : Bool) (g : Registrar) (a : Applicant)
      → OwesSent true true leave (in_states a g r) held asked
  unfolding in_states
  taken_with_leave_all leave r held asked Held Vo = refl
  taken_with_leave_all leave r held asked Held La = refl
  taken_with_leave_all leave r held asked Held _ = inl refl
  taken_with_leave_all leave r held asked Leaving Vo = refl
  taken_with_leave_all leave r held asked Leaving La = refl
  taken_with_leave_all leave r held asked Leaving _ = inl refl
  taken_with_leave_all leave r held asked Empty Vo = refl
  taken_with_leave_all leave r held asked Empty La = refl
  taken_with_leave_all leave r held asked Empty _ = inl refl

  not_taken_with_leave_all : (leave : Cs) (r : Row K C) (held : Option C) (asked : Bool) (g : Registrar)
      (a : Applicant) → OwesSent true false leave (in_states a g r) held asked
  unfolding in_states
  not_taken_with_leave_all leave r held asked Held Vo = refl
  not_taken_with_leave_all leave r held asked Held La = refl
  not_taken_with_leave_all leave r held asked Held _ = tt
  not_taken_with_leave_all leave r held asked Leaving Vo = refl
  not_taken_with_leave_all leave r held asked Leaving La = refl
  not_taken_with_leave_all leave r held asked Leaving _ = tt
  not_taken_with_leave_all leave r held asked Empty Vo = refl
  not_taken_with_leave_all leave r held asked Empty La = refl
  not_taken_with_leave_all leave r held asked Empty _ = tt

  taken_alone : (leave : Cs) (r : Row K C) (held : Option C) (asked : Bool) (g : Registrar) (a : Applicant)
      → Owes a r.content held asked → OwesSent false true leave (in_states a g r) held asked
  unfolding in_states
  taken_alone leave r held asked Held Vo h = h
  taken_alone leave r held asked Held Qa h = h
  taken_alone leave r held asked Held La h = refl
  taken_alone leave r held asked Held _ h = inl refl
  taken_alone leave r held asked Leaving Vo h = h
  taken_alone leave r held asked Leaving Qa h = h
  taken_alone leave r held asked Leaving La h = refl
  taken_alone leave r held asked Leaving _ h = inl refl
  taken_alone leave r held asked Empty Vo h = h
  taken_alone leave r held asked Empty Qa h = h
  taken_alone leave r held asked Empty La h = refl
  taken_alone leave r held asked Empty _ h = inl refl

  sent-owes_by : (leave_all taken : Bool) (leave : Cs) (r : Row K C) (held : Option C) (asked : Bool)
      → (leave_all ≡ false → OwesOf (Some r) held asked) → OwesSent leave_all taken leave r held asked
  unfolding in_states
  sent-owes_by true true leave r held asked h = taken_with_leave_all leave r held asked r.registrar r.applicant
  sent-owes_by true false leave r held asked h = not_taken_with_leave_all leave r held asked r.registrar r.applicant
  sent-owes_by false true leave r held asked h = taken_alone leave r held asked r.registrar r.applicant (h refl)
  sent-owes_by false false leave r held asked h = h refl

  -- what is owed of a key after sending; with LeaveAll nothing need have been owed before
  pub sent-owes : (leave_all : Bool) (taken : Row K C
      → Bool) (leave : Cs) (r : Option (Row K C)) (held : Option C) (asked : Bool)
      → (leave_all ≡ false → OwesOf r held asked)
      → OwesOf (option_and_then (λ r. sent_row leave_all (taken r) leave r) r)
      (held_after_all (if leave_all then None else held)
      (option_to_list (option_and_then (λ r. sent_event leave_all (taken r) leave r) r))) asked
  sent-owes leave_all taken leave None held asked h = idle-owes leave_all held h
  sent-owes leave_all taken leave (Some r) held asked h = sent-owes_by leave_all (taken r) leave r held asked h

  leave_all_sent-held : (leave : Cs) (event : AppEvent) (r : Row K C) (g : Registrar)
      → held_in (Some (applicant_takes event (registrar_takes RegTxLeaveAll leave (record r { registrar = g }))))
      ≡ None
  leave_all_sent-held leave event r Held = refl
  leave_all_sent-held leave event r Leaving = refl
  leave_all_sent-held leave event r Empty = refl

  sent-held_by : (leave_all taken : Bool) (leave : Cs) (r : Row K C)
      → held_in (sent_row leave_all taken leave r) ≡ (if leave_all then None else held_in (Some r))
  sent-held_by true taken leave r = grind (arith, kept-held, leave_all_sent-held)
  sent-held_by false true leave r = kept-held (applicant_takes Tx r)
  sent-held_by false false leave r = refl

  -- with LeaveAll a registrar holds nothing after sending, and without what it held
  pub sent-held : (leave_all : Bool) (taken : Row K C → Bool) (leave : Cs) (r : Option (Row K C))
      → held_in (option_and_then (λ r. sent_row leave_all (taken r) leave r) r)
      ≡ (if leave_all then None else held_in r)
  sent-held leave_all taken leave None = nothing-held leave_all None refl
  sent-held leave_all taken leave (Some r) = sent-held_by leave_all (taken r) leave r

-- ---- where both are still

module _ {K C : Type 0} where
  not_leaving-held_by : (r : Row K C) (g : Registrar) → is_leaving_in (Some (record r { registrar = g })) ≡ false
      → registered_in (Some (record r { registrar = g })) ≡ held_in (Some (record r { registrar = g }))
  not_leaving-held_by r Held h = refl
  not_leaving-held_by r Leaving h = cc
  not_leaving-held_by r Empty h = refl

  -- where no registrar leaves, what is registered is what is held
  pub not_leaving-held : (r : Option (Row K C)) → is_leaving_in r ≡ false → registered_in r ≡ held_in r
  not_leaving-held None h = refl
  not_leaving-held (Some r) h = not_leaving-held_by r r.registrar h

  quiet-held_by : (r : Row K C) (a : Applicant) (held : Option C) → is_quiet a ≡ true → Owes a r.content held false
      → held ≡ declared_in (Some (with_applicant a r))
  quiet-held_by r Vo held q h = h
  quiet-held_by r Qa held q (inl h) = h
  quiet-held_by r Qa held q (inr h) = cc
  quiet-held_by r _ held q h = cc

  -- where an applicant has nothing more to say and no LeaveAll comes, what is held is what is declared
  pub quiet-held : (r : Option (Row K C)) (held : Option C) → is_quiet (applicant_of r) ≡ true → OwesOf r held false → held ≡ declared_in r
  quiet-held None held q h = h
  quiet-held (Some r) held q h = quiet-held_by r r.applicant held q h
