-- What a call that says nothing of a key's declaration or registration leaves of it, and what a request makes of
-- it.
use Rattle.std.proofs.Common.{◌≡◌, ℕ, Bool, true, false, not, ◌&&◌, ◌||◌, if◌then◌else◌, List, [], ◌∷◌, fold, refl, ap, ◌∙◌, option_map, option_and_then, arith}
use Rattle.std.specs.{declared.option.Option.Option, declared.option.Option.TheVariants.None, declared.option.Option.TheVariants.Some, declared.cmp.Ordering.Ordering, Cmp.IsTotalOrder}
use Rattle.srp_base.specs.declared.{numbers.Cs.Cs, mrp.MrpEvent.MrpEvent}
use Rattle.srp_base.specs.declared.mrp.MrpEvent.TheVariants.{New, JoinIn, OnlyIn, JoinMt, OnlyMt, Lv}
use Rattle.applicant.specs.declared.{Applicant.Applicant, AppEvent.AppEvent}
use Rattle.applicant.specs.declared.Applicant.TheVariants.{Vo, Vp, Vn, An, Aa, Qa, La}
use Rattle.applicant.specs.declared.AppEvent.TheVariants.{RxIn, RxMt, RxLv as AppRxLv, RxLeaveAll as AppRxLeaveAll, Periodic, Tx, TxLeaveAll, TxLeaveAllFull}
use Rattle.applicant.specs.Table as applicant
use Rattle.registrar.specs.declared.Registrar.{Registrar}
use Rattle.registrar.specs.declared.Registrar.TheVariants.{Held, Leaving, Empty}
use Rattle.registrar.specs.declared.RegEvent.TheVariants.{RxJoin, RxLv as RegRxLv, RxLeaveAll as RegRxLeaveAll, LeaveTimer}
use Rattle.registrar.specs.Table as registrar
use Rattle.mrp_participant.specs.declared.row.Row.{Row}
use Rattle.mrp_participant.specs.{same, find, kept_row, with_applicant, with_heard, applicant_takes, registrar_takes, after_declare, after_withdraw, left_row, after_leave, is_leaving_in, leave_all_row, heard_row, after_hear, row_hearing, row_after_receive, registered_in, declared_in, leave_is_due, after_leave_due, periodic_row, sent_row}
use Rattle.registrar.specs.Table.{is_in, is_leaving}
use Rattle.registrar.proofs.RegistrarLemmas.{leave_all_sent-registered}
use Rattle.applicant.specs.Table.{is_observer}
use Rattle.mrp_participant.proofs.Lookups.{find-same, same_is}

-- the applicant's law: nothing but a request changes whether the attribute is declared
abbrev pub KeepDeclarations : Type 0
KeepDeclarations = (event : AppEvent) (held : Bool) (s : Applicant) → applicant.is_request event ≡ false
    → applicant.is_declared_in (applicant.next event held s) ≡ applicant.is_declared_in s

-- ---- declarations

module _ {K C : Type 0} (keep : KeepDeclarations) where
  takes-declared : (event : AppEvent) → applicant.is_request event ≡ false → (r : Row K C) → declared_in (Some (applicant_takes event r)) ≡ declared_in (Some r)
  takes-declared event e r = ap (λ b. if b then Some r.content else None) (keep event (is_in r.registrar) r.applicant e)

  heard-declared : (event : MrpEvent) (c : C) (leave : Cs) (r : Row K C) → declared_in (Some (heard_row event c leave r)) ≡ declared_in (Some r)
  heard-declared New c leave r = refl
  heard-declared JoinIn c leave r = takes-declared RxIn refl (with_heard c (registrar_takes RxJoin leave r))
  heard-declared OnlyIn c leave r = takes-declared RxIn refl r
  heard-declared JoinMt c leave r = takes-declared RxMt refl (with_heard c (registrar_takes RxJoin leave r))
  heard-declared OnlyMt c leave r = takes-declared RxMt refl r
  heard-declared Lv c leave r = takes-declared AppRxLv refl (registrar_takes RegRxLv leave r)

  hear-declared : (event : MrpEvent) (k : K) (c : C) (leave : Cs) (old : Option (Row K C)) → declared_in (after_hear event k c leave old) ≡ declared_in old
  hear-declared New k c leave None = refl
  hear-declared JoinIn k c leave None = refl
  hear-declared OnlyIn k c leave None = refl
  hear-declared JoinMt k c leave None = refl
  hear-declared OnlyMt k c leave None = refl
  hear-declared Lv k c leave None = refl
  hear-declared event k c leave (Some r) = heard-declared event c leave r

  hearing-declared : (leave : Cs) (r : Option (Row K C)) (e : MrpEvent × K × C) (b : Bool)
      → declared_in (if b then after_hear e.0 e.1 e.2 leave r else r) ≡ declared_in r
  hearing-declared leave r e true = hear-declared e.0 e.1 e.2 leave r
  hearing-declared leave r e false = refl

  fold-declared : (cmp : K → K → Ordering) (leave : Cs) (k : K) (events : List (MrpEvent × K × C))
      (r : Option (Row K C)) → declared_in (fold (row_hearing cmp leave k) r events) ≡ declared_in r
  fold-declared cmp leave k [] r = refl
  fold-declared cmp leave k (e ∷ events) r = fold-declared cmp leave k events (row_hearing cmp leave k r e) ∙ hearing-declared leave r e (same cmp e.1 k)

  leave_all-declared : (leave : Cs) (r : Option (Row K C)) → declared_in (option_map (leave_all_row leave) r) ≡ declared_in r
  leave_all-declared leave None = refl
  leave_all-declared leave (Some r) = takes-declared AppRxLeaveAll refl (registrar_takes RegRxLeaveAll leave r)

  pub receive-declared : (cmp : K → K → Ordering) (leave : Cs) (leave_all : Bool) (events : List (MrpEvent × K × C))
      (k : K) (r : Option (Row K C)) → declared_in (row_after_receive cmp leave leave_all events k r) ≡ declared_in r
  receive-declared cmp leave true events k r = fold-declared cmp leave k events (option_map (leave_all_row leave) r) ∙ leave_all-declared leave r
  receive-declared cmp leave false events k r = fold-declared cmp leave k events r

  pub periodic-declared : (r : Option (Row K C)) → declared_in (option_map periodic_row r) ≡ declared_in r
  periodic-declared None = refl
  periodic-declared (Some r) = takes-declared Periodic refl r

  pub periodic_if-declared : (b : Bool) (r : Option (Row K C)) → declared_in (option_map (λ r. if b then periodic_row r else r) r) ≡ declared_in r
  periodic_if-declared b None = refl
  periodic_if-declared true (Some r) = takes-declared Periodic refl r
  periodic_if-declared false (Some r) = refl

-- ---- rows that go where nothing is kept of them

module _ {K C : Type 0} where
  kept-declared_by : (r : Row K C) (a : Applicant) (b : Bool)
      → declared_in (if not (is_observer a) || b then Some (with_applicant a r) else None)
      ≡ declared_in (Some (with_applicant a r))
  kept-declared_by r Vo true = refl
  kept-declared_by r Vo false = refl
  kept-declared_by r Vp b = refl
  kept-declared_by r Vn b = refl
  kept-declared_by r An b = refl
  kept-declared_by r Aa b = refl
  kept-declared_by r Qa b = refl
  kept-declared_by r La b = refl

  kept-declared : (r : Row K C) → declared_in (kept_row r) ≡ declared_in (Some r)
  kept-declared r = kept-declared_by r r.applicant (registrar.is_registered_in r.registrar)

  kept-registered_by : (r : Row K C) (g : Registrar) (b : Bool)
      → registered_in (if b || registrar.is_registered_in g then Some (record r { registrar = g }) else None)
      ≡ registered_in (Some (record r { registrar = g }))
  kept-registered_by r Held true = refl
  kept-registered_by r Held false = refl
  kept-registered_by r Leaving true = refl
  kept-registered_by r Leaving false = refl
  kept-registered_by r Empty true = refl
  kept-registered_by r Empty false = refl

  kept-registered : (r : Row K C) → registered_in (kept_row r) ≡ registered_in (Some r)
  kept-registered r = kept-registered_by r r.registrar (not (is_observer r.applicant))

  pub leave-declared : (r : Option (Row K C)) → declared_in (after_leave r) ≡ declared_in r
  leave-declared None = refl
  leave-declared (Some r) = kept-declared (record r { registrar = registrar.next LeaveTimer r.registrar })

  due-declared_by : (r : Row K C) (b : Bool) → declared_in (if b then left_row r else Some r) ≡ declared_in (Some r)
  due-declared_by r true = kept-declared (record r { registrar = registrar.next LeaveTimer r.registrar })
  due-declared_by r false = refl

  pub due-declared : (now : ℕ) (r : Option (Row K C)) → declared_in (option_and_then (after_leave_due now) r) ≡ declared_in r
  due-declared now None = refl
  due-declared now (Some r) = due-declared_by r (leave_is_due now r)

  leave-registered_by : (r : Row K C) (g : Registrar)
      → registered_in (left_row (record r { registrar = g }))
      ≡ (if is_leaving g then None else registered_in (Some (record r { registrar = g })))
  leave-registered_by r Held = kept-registered (record r { registrar = Held })
  leave-registered_by r Leaving = kept-registered (record r { registrar = Empty })
  leave-registered_by r Empty = kept-registered (record r { registrar = Empty })

  pub leave-registered : (r : Option (Row K C)) → registered_in (after_leave r) ≡ (if is_leaving_in r then None else registered_in r)
  leave-registered None = refl
  leave-registered (Some r) = leave-registered_by r r.registrar

-- ---- sending

full_or : (b : Bool) → applicant.is_request (if b then TxLeaveAllFull else TxLeaveAll) ≡ false
full_or true = refl
full_or false = refl

module _ {K C : Type 0} where
  opportunity-declared : (keep : KeepDeclarations) (event : AppEvent) → applicant.is_request event ≡ false
      → (r : Row K C) → declared_in (kept_row (applicant_takes event r)) ≡ declared_in (Some r)
  opportunity-declared keep event e r = kept-declared (applicant_takes event r) ∙ takes-declared keep event e r

  sent-declared_by : (keep : KeepDeclarations) (leave_all taken : Bool) (leave : Cs) (r : Row K C)
      → declared_in (sent_row leave_all taken leave r) ≡ declared_in (Some r)
  sent-declared_by keep true taken leave r = grind (arith, opportunity-declared, full_or)
  sent-declared_by keep false true leave r = opportunity-declared keep Tx refl r
  sent-declared_by keep false false leave r = refl

  pub sent-declared : (keep : KeepDeclarations) (leave_all : Bool) (taken : Row K C
      → Bool) (leave : Cs) (r : Option (Row K C))
      → declared_in (option_and_then (λ r. sent_row leave_all (taken r) leave r) r) ≡ declared_in r
  sent-declared keep leave_all taken leave None = refl
  sent-declared keep leave_all taken leave (Some r) = sent-declared_by keep leave_all (taken r) leave r

  sent-registered_by : (leave_all taken : Bool) (leave : Cs) (r : Row K C) → registered_in (sent_row leave_all taken leave r) ≡ registered_in (Some r)
  sent-registered_by true taken leave r = grind (arith, kept-registered, leave_all_sent-registered)
  sent-registered_by false true leave r = kept-registered (applicant_takes Tx r)
  sent-registered_by false false leave r = refl

  pub sent-registered : (leave_all : Bool) (taken : Row K C → Bool) (leave : Cs) (r : Option (Row K C))
      → registered_in (option_and_then (λ r. sent_row leave_all (taken r) leave r) r) ≡ registered_in r
  sent-registered leave_all taken leave None = refl
  sent-registered leave_all taken leave (Some r) = sent-registered_by leave_all (taken r) leave r

-- ---- requests

content_if : {C : Type 0} (c : C) (a : Bool) → a ≡ true → (if a then Some c else None) ≡ Some c
content_if c a h = ap (λ b. if b then Some c else None) h

module _ {K C : Type 0} where
  declare-registered_by : (c : C) (r : Row K C) (a b : Bool)
      → registered_in (Some (if a then (if b then r else record r {
        applicant = applicant.redeclare_of r.applicant;
        content = c;
      }) else record r { applicant = applicant.declare_of r.applicant; content = c }))
      ≡ registered_in (Some r)
  declare-registered_by c r true true = refl
  declare-registered_by c r true false = refl
  declare-registered_by c r false b = refl

  pub declare-registered : (eq : C → C → Bool) (k : K) (c : C) (r : Option (Row K C)) → registered_in (after_declare eq k c r) ≡ registered_in r
  declare-registered eq k c None = refl
  declare-registered eq k c (Some r) = declare-registered_by c r (applicant.is_declared_in r.applicant) (eq r.content c)

  pub withdraw-registered : (r : Option (Row K C)) → registered_in (after_withdraw r) ≡ registered_in r
  withdraw-registered None = refl
  withdraw-registered (Some r) = refl

  declare-declared_by : (eq : C → C → Bool) (one : (a b : C) → eq a b ≡ true → a ≡ b) (declares : (s : Applicant)
      → applicant.is_declared_in (applicant.declare_of s) ≡ true) (redeclares : (s : Applicant)
      → applicant.is_declared_in (applicant.redeclare_of s) ≡ true) (c : C) (r : Row K C) (a b : Bool)
      → applicant.is_declared_in r.applicant ≡ a → eq r.content c ≡ b
      → declared_in (Some (if a then (if b then r else record r {
        applicant = applicant.redeclare_of r.applicant;
        content = c;
      }) else record r { applicant = applicant.declare_of r.applicant; content = c })) ≡ Some c
  declare-declared_by eq one declares redeclares c r true true a b = content_if r.content (applicant.is_declared_in r.applicant) a ∙ ap Some (one r.content c b)
  declare-declared_by eq one declares redeclares c r true false a b = grind (arith, content_if)
  declare-declared_by eq one declares redeclares c r false b a b' = grind (arith, content_if)

  pub declare-declared : (eq : C → C → Bool) (one : (a b : C) → eq a b ≡ true → a ≡ b) (declares : (s : Applicant)
      → applicant.is_declared_in (applicant.declare_of s) ≡ true) (redeclares : (s : Applicant)
      → applicant.is_declared_in (applicant.redeclare_of s) ≡ true) (k : K) (c : C) (r : Option (Row K C))
      → declared_in (after_declare eq k c r) ≡ Some c
  declare-declared eq one declares redeclares k c None = refl
  declare-declared eq one declares redeclares k c (Some r) = grind (arith, declare-declared_by)

  pub withdraw-declared : (withdraws : (s : Applicant)
      → applicant.is_declared_in (applicant.withdraw_of s) ≡ false) (r : Option (Row K C))
      → declared_in (after_withdraw r) ≡ None
  withdraw-declared withdraws None = refl
  withdraw-declared withdraws (Some r) = ap (λ b. if b then Some r.content else None) (withdraws r.applicant)

-- ---- at each key

module _ {K C X : Type 0} {cmp : K → K → Ordering} (o : IsTotalOrder cmp) (look : Option (Row K C) → X) where
  stays-at_by : (new : Option (Row K C)) (key k : K) (rows : List (Row K C)) (b : Bool) → same cmp key k ≡ b
      → look new ≡ look (find cmp key rows) → look (if b then new else find cmp k rows) ≡ look (find cmp k rows)
  stays-at_by new key k rows true e keeps = keeps ∙ ap look (find-same o key k rows (same_is cmp key k e))
  stays-at_by new key k rows false e keeps = refl

  -- what a change of one key's row leaves as it was stays at each key
  pub stays-at : (new : Option (Row K C)) (key k : K) (rows : List (Row K C)) → look new ≡ look (find cmp key rows)
      → look (if same cmp key k then new else find cmp k rows) ≡ look (find cmp k rows)
  stays-at new key k rows keeps = stays-at_by new key k rows (same cmp key k) refl keeps

  becomes-at_by : (new : Option (Row K C)) (is : X) (k : K) (rows : List (Row K C)) (b : Bool) → look new ≡ is
      → look (if b then new else find cmp k rows) ≡ (if b then is else look (find cmp k rows))
  becomes-at_by new is k rows true h = h
  becomes-at_by new is k rows false h = refl

  pub becomes-at : (new : Option (Row K C)) (is : X) (key k : K) (rows : List (Row K C)) → look new ≡ is
      → look (if same cmp key k then new else find cmp k rows)
      ≡ (if same cmp key k then is else look (find cmp k rows))
  becomes-at new is key k rows h = becomes-at_by new is k rows (same cmp key k) h

  becomes_if-at_by : (new : Option (Row K C)) (is : X) (key k : K) (rows : List (Row K C)) (b t : Bool)
      → same cmp key k ≡ b → look new ≡ (if t then is else look (find cmp key rows))
      → look (if b then new else find cmp k rows) ≡ (if b && t then is else look (find cmp k rows))
  becomes_if-at_by new is key k rows true true e h = h
  becomes_if-at_by new is key k rows true false e h = h ∙ ap look (find-same o key k rows (same_is cmp key k e))
  becomes_if-at_by new is key k rows false t e h = refl

  pub becomes_if-at : (new : Option (Row K C)) (is : X) (key k : K) (rows : List (Row K C)) (t : Bool)
      → look new ≡ (if t then is else look (find cmp key rows))
      → look (if same cmp key k then new else find cmp k rows)
      ≡ (if same cmp key k && t then is else look (find cmp k rows))
  becomes_if-at new is key k rows t h = becomes_if-at_by new is key k rows (same cmp key k) t refl h
