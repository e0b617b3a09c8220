-- Each event keeps a row's key, and leaves no row of which nothing is kept.
use Rattle.std.proofs.Common.{◌≡◌, ℕ, Bool, true, false, not, ◌||◌, if◌then◌else◌, refl, sym, ap, ◌∙◌, subst, List, [], ◌∷◌, map, fold, OnOk, OnErr, arith}
use Rattle.std.specs.{declared.option.Option.Option, declared.option.Option.TheVariants.None, declared.option.Option.TheVariants.Some, declared.cmp.Ordering.Ordering, declared.cmp.Ordering.TheVariants.Less, declared.cmp.Ordering.TheVariants.Equal, Cmp.IsTotalOrder, List.filter_map, declared.result.Result.Result, declared.result.Result.TheVariants.Ok, declared.result.Result.TheVariants.Err}
use Rattle.std.proofs.lemmas.Cmp.{tied_itself}
use Rattle.srp_base.proofs.Bools.{or-map_right}
use Rattle.srp_base.specs.declared.{numbers.Cs.Cs, mrp.MrpEvent.MrpEvent}
use Rattle.srp_base.specs.declared.mrp.MrpEvent.TheVariants.{New, JoinIn, OnlyIn, JoinMt, OnlyMt, Lv}
use Rattle.applicant.specs.declared.{Applicant.Applicant, AppEvent.AppEvent}
use Rattle.applicant.specs.declared.Applicant.TheVariants.{Vo, Vp, Vn, An, Aa, Qa, La}
use Rattle.applicant.specs.Table as applicant
use Rattle.applicant.specs.declared.AppEvent.TheVariants.{RxIn, RxMt, RxLv as AppRxLv, Periodic}
use Rattle.registrar.specs.declared.RegEvent.{RegEvent}
use Rattle.registrar.specs.declared.RegEvent.TheVariants.{RxNew, RxLv as RegRxLv, LeaveTimer}
use Rattle.registrar.specs.Table as registrar
use Rattle.applicant.proofs.ApplicantLemmas.{KeepsObserver, in-keeps, mt-keeps, lv-keeps, leave_all-keeps, periodic-keeps}
use Rattle.registrar.proofs.RegistrarLemmas.{KeepsRegistered, new-registers, join-registers, lv-registers, leave_all-registers}
use Rattle.mrp_participant.specs.declared.row.Row.{Row}
use Rattle.registrar.specs.Table.{is_in}
use Rattle.applicant.specs.Table.{is_observer}
use Rattle.mrp_participant.specs.{is_live, leave_is_due, after_leave_due, applicant_takes, registrar_takes, leave_all_row, periodic_row, kept_row, fresh_row, declared_row, with_applicant, left_row, heard_row, after_declare, after_withdraw, after_leave, after_hear, Ascends, key_of, find, put, AreRows, rows_hearing, rows_after_receive, leave_timers_state, leave_all_state, due_leave_all_state, periodic_fired_state, due_state, is_leave_all_due, is_periodic_due}
use Rattle.mrp_participant.specs.State.{State}
use Rattle.mrp_participant.proofs.Lookups.{Fits, AreRows-put, find-fits, Each-mapped, Each-kept, Ascends-kept}

module _ {K C : Type 0} where
  -- ---- declaring

  declared-live_by : (eq : C → C → Bool) (c : C) (r : Row K C) (a : Applicant) → is_live (declared_row eq c (with_applicant a r)) ≡ true
  declared-live_by eq c r Vo = refl
  declared-live_by eq c r Vp = grind arith
  declared-live_by eq c r Vn = grind arith
  declared-live_by eq c r An = grind arith
  declared-live_by eq c r Aa = grind arith
  declared-live_by eq c r Qa = grind arith
  declared-live_by eq c r La = refl

  declared-live : (eq : C → C → Bool) (c : C) (r : Row K C) → is_live (declared_row eq c r) ≡ true
  declared-live eq c r = declared-live_by eq c r r.applicant

  declared-key_by : (eq : C → C → Bool) (c : C) (r : Row K C) (a b : Bool)
      → (if a then (if b then r else record r {
        applicant = applicant.redeclare_of r.applicant;
        content = c;
      }) else record r { applicant = applicant.declare_of r.applicant; content = c }).key ≡ r.key
  declared-key_by eq c r true true = refl
  declared-key_by eq c r true false = refl
  declared-key_by eq c r false b = refl

  pub declared-key : (eq : C → C → Bool) (c : C) (r : Row K C) → (declared_row eq c r).key ≡ r.key
  declared-key eq c r = declared-key_by eq c r (applicant.is_declared_in r.applicant) (eq r.content c)

-- ---- hearing, LeaveAll and periodic leave a live row live

module _ {K C : Type 0} where
  pub applicant-lives : (event : AppEvent) → KeepsObserver event → (r : Row K C) → is_live r ≡ true → is_live (applicant_takes event r) ≡ true
  applicant-lives event keeps r live = ap (λ b. not b || registrar.is_registered_in r.registrar) (keeps (is_in r.registrar) r.applicant) ∙ live

  pub registrar-lives : (event : RegEvent) → KeepsRegistered event → (leave : Cs) (r : Row K C) → is_live r ≡ true
      → is_live (registrar_takes event leave r) ≡ true
  registrar-lives event keeps leave r live = grind (arith, or-map_right)

  heard-live : (event : MrpEvent) (c : C) (leave : Cs) (r : Row K C) → is_live r ≡ true → is_live (heard_row event c leave r) ≡ true
  heard-live New c leave r live = registrar-lives RxNew new-registers leave r live
  heard-live JoinIn c leave r live = grind (arith, applicant-lives, in-keeps, registrar-lives, join-registers)
  heard-live OnlyIn c leave r live = applicant-lives RxIn in-keeps r live
  heard-live JoinMt c leave r live = grind (arith, applicant-lives, mt-keeps, registrar-lives, join-registers)
  heard-live OnlyMt c leave r live = applicant-lives RxMt mt-keeps r live
  heard-live Lv c leave r live = applicant-lives AppRxLv lv-keeps (registrar_takes RegRxLv leave r) (registrar-lives RegRxLv lv-registers leave r live)

  pub leave_all-live : (leave : Cs) (r : Row K C) → is_live r ≡ true → is_live (leave_all_row leave r) ≡ true
  leave_all-live leave r live = grind (arith, applicant-lives, leave_all-keeps, registrar-lives, leave_all-registers)

  pub periodic-live : (r : Row K C) → is_live r ≡ true → is_live (periodic_row r) ≡ true
  periodic-live r live = applicant-lives Periodic periodic-keeps r live

module _ {K C : Type 0} {cmp : K → K → Ordering} (o : IsTotalOrder cmp) where
  -- one row of the key that is kept
  fits_some : (k : K) (r : Row K C) → cmp r.key k ≡ Equal → is_live r ≡ true → Fits o k (Some r)
  fits_some k r at live =
      record {
        is_of = λ n h. let e : r ≡ n = cc in subst (λ x. cmp x.key k ≡ Equal) e at;
        lives = λ n h. let e : r ≡ n = cc in subst (λ x. is_live x ≡ true) e live;
      }

  fits_none : (k : K) → Fits {C = C} o k None
  fits_none k = record { is_of = λ n h. cc; lives = λ n h. cc }

  pub declare-fits : (eq : C → C → Bool) (k : K) (c : C) (old : Option (Row K C)) → Fits o k old → Fits o k (after_declare eq k c old)
  declare-fits eq k c None fits = fits_some k _ (ap (λ x. cmp x k) (declared-key eq c (fresh_row k c)) ∙ tied_itself o k) (declared-live eq c (fresh_row k c))
  declare-fits eq k c (Some r) fits = fits_some k _ (ap (λ x. cmp x k) (declared-key eq c r) ∙ fits.is_of r refl) (declared-live eq c r)

  -- ---- withdrawing: the row stays, as no withdrawal ends in VO but one of VO

  withdraw-live_by : (r : Row K C) (a : Applicant) → is_live (with_applicant a r) ≡ true
      → is_live (with_applicant (applicant.withdraw_of a) (with_applicant a r)) ≡ true
  withdraw-live_by r Vo live = live
  withdraw-live_by r Vp live = refl
  withdraw-live_by r Vn live = refl
  withdraw-live_by r An live = refl
  withdraw-live_by r Aa live = refl
  withdraw-live_by r Qa live = refl
  withdraw-live_by r La live = refl

  pub withdraw-fits : (k : K) (old : Option (Row K C)) → Fits o k old → Fits o k (after_withdraw old)
  withdraw-fits k None fits = fits_none k
  withdraw-fits k (Some r) fits = fits_some k _ (fits.is_of r refl) (withdraw-live_by r r.applicant (fits.lives r refl))

  -- ---- rows that are kept only where something is left of them

  kept-fits_by : (k : K) (r : Row K C) (b : Bool) → is_live r ≡ b → cmp r.key k ≡ Equal → Fits o k (if b then Some r else None)
  kept-fits_by k r true e at = fits_some k r at e
  kept-fits_by k r false e at = fits_none k

  pub kept-fits : (k : K) (r : Row K C) → cmp r.key k ≡ Equal → Fits o k (kept_row r)
  kept-fits k r at = kept-fits_by k r (is_live r) refl at

  pub leave-fits : (k : K) (old : Option (Row K C)) → Fits o k old → Fits o k (after_leave old)
  leave-fits k None fits = fits_none k
  leave-fits k (Some r) fits = kept-fits k _ (fits.is_of r refl)

  -- ---- hearing

  heard-key : (event : MrpEvent) (c : C) (leave : Cs) (r : Row K C) → (heard_row event c leave r).key ≡ r.key
  heard-key New c leave r = refl
  heard-key _ c leave r = refl

  pub hear-fits : (event : MrpEvent) (k : K) (c : C) (leave : Cs) (old : Option (Row K C)) → Fits o k old → Fits o k (after_hear event k c leave old)
  hear-fits New k c leave None fits = fits_some k _ (tied_itself o k) refl
  hear-fits JoinIn k c leave None fits = fits_some k _ (tied_itself o k) refl
  hear-fits OnlyIn k c leave None fits = fits_none k
  hear-fits JoinMt k c leave None fits = fits_some k _ (tied_itself o k) refl
  hear-fits OnlyMt k c leave None fits = fits_none k
  hear-fits Lv k c leave None fits = fits_none k
  hear-fits event k c leave (Some r) fits = fits_some k _ (ap (λ x. cmp x k) (heard-key event c leave r)
      ∙ fits.is_of r refl) (heard-live event c leave r (fits.lives r refl))

  -- ---- rows after a call of one key

  pub AreRows-declare : (eq : C → C → Bool) (k : K) (c : C) (rows : List (Row K C)) → AreRows cmp rows
      → AreRows cmp (put cmp k (after_declare eq k c (find cmp k rows)) rows)
  AreRows-declare eq k c rows are = AreRows-put o k _ rows (declare-fits eq k c _ (find-fits o k rows are.1)) are

  pub AreRows-withdraw : (k : K) (rows : List (Row K C)) → AreRows cmp rows → AreRows cmp (put cmp k (after_withdraw (find cmp k rows)) rows)
  AreRows-withdraw k rows are = AreRows-put o k _ rows (withdraw-fits k _ (find-fits o k rows are.1)) are

  pub AreRows-leave : (k : K) (rows : List (Row K C)) → AreRows cmp rows → AreRows cmp (put cmp k (after_leave (find cmp k rows)) rows)
  AreRows-leave k rows are = AreRows-put o k _ rows (leave-fits k _ (find-fits o k rows are.1)) are

  pub AreRows-hear : (event : MrpEvent) (k : K) (c : C) (leave : Cs) (rows : List (Row K C)) → AreRows cmp rows
      → AreRows cmp (put cmp k (after_hear event k c leave (find cmp k rows)) rows)
  AreRows-hear event k c leave rows are = AreRows-put o k _ rows (hear-fits event k c leave _ (find-fits o k rows are.1)) are

-- rows after a call that may want memory
pub AreRows-either : {K C X E : Type 0} (cmp : K → K → Ordering) (r : Result X E) (new then_rows old : List (Row K C))
    → OnOk r (new ≡ then_rows) → OnErr r (new ≡ old) → AreRows cmp then_rows → AreRows cmp old → AreRows cmp new
AreRows-either cmp (Ok x) new then_rows old ok err after before = subst (AreRows cmp) (sym ok) after
AreRows-either cmp (Err x) new then_rows old ok err after before = subst (AreRows cmp) (sym err) before

-- ---- an event at every row

module _ {K C : Type 0} where
  pub Ascends-mapped : (cmp : K → K → Ordering) (f : Row K C → Row K C) → ((r : Row K C) → (f r).key ≡ r.key)
      → (rows : List (Row K C)) → Ascends cmp key_of rows → Ascends cmp key_of (map f rows)
  Ascends-mapped cmp f keeps [] up = tt
  Ascends-mapped cmp f keeps (r ∷ rows) up = (
    Each-mapped (λ y. cmp r.key y.key ≡ Less) (λ y. cmp (f r).key y.key ≡ Less) f
        (λ y h. rw (keeps r, keeps y) h) rows up.0,
    Ascends-mapped cmp f keeps rows up.1,
  )

  pub AreRows-mapped : (cmp : K → K → Ordering) (f : Row K C → Row K C) → ((r : Row K C) → (f r).key ≡ r.key)
      → ((r : Row K C) → is_live r ≡ true → is_live (f r) ≡ true) → (rows : List (Row K C)) → AreRows cmp rows
      → AreRows cmp (map f rows)
  AreRows-mapped cmp f keeps lives rows are =
      (Ascends-mapped cmp f keeps rows are.0, Each-mapped (λ r. is_live r ≡ true) (λ r. is_live r ≡ true) f lives rows are.1)

  pub AreRows-leave_all : (cmp : K → K → Ordering) (leave : Cs) (rows : List (Row K C)) (leave_all : Bool)
      → AreRows cmp rows → AreRows cmp (if leave_all then map (leave_all_row leave) rows else rows)
  AreRows-leave_all cmp leave rows true are = AreRows-mapped cmp (leave_all_row leave) (λ r. refl) (leave_all-live leave) rows are
  AreRows-leave_all cmp leave rows false are = are

  pub AreRows-periodic : (cmp : K → K → Ordering) (rows : List (Row K C)) → AreRows cmp rows → AreRows cmp (map periodic_row rows)
  AreRows-periodic cmp rows are = AreRows-mapped cmp periodic_row (λ r. refl) periodic-live rows are

module _ {K C : Type 0} {cmp : K → K → Ordering} (o : IsTotalOrder cmp) where
  AreRows-fold : (leave : Cs) (events : List (MrpEvent × K × C)) (rows : List (Row K C)) → AreRows cmp rows
      → AreRows cmp (fold (rows_hearing cmp leave) rows events)
  AreRows-fold leave [] rows are = are
  AreRows-fold leave (e ∷ events) rows are = AreRows-fold leave events (rows_hearing cmp leave rows e) (AreRows-hear o e.0 e.1 e.2 leave rows are)

  pub AreRows-receive : (leave : Cs) (leave_all : Bool) (events : List (MrpEvent × K × C)) (rows : List (Row K C))
      → AreRows cmp rows → AreRows cmp (rows_after_receive cmp leave leave_all events rows)
  AreRows-receive leave leave_all events rows are = grind (arith, AreRows-fold, AreRows-leave_all)

-- ---- rows that go where an event leaves nothing of them

module _ {K C : Type 0} where
  pub record Keeps (f : Row K C → Option (Row K C)) : Type 0 where
    pub key : (r s : Row K C) → f r ≡ Some s → s.key ≡ r.key
    pub lives : (r s : Row K C) → is_live r ≡ true → f r ≡ Some s → is_live s ≡ true

  pub AreRows-filter_mapped : (cmp : K → K → Ordering) (f : Row K C → Option (Row K C)) → Keeps f
      → (rows : List (Row K C)) → AreRows cmp rows → AreRows cmp (filter_map f rows)
  AreRows-filter_mapped cmp f keeps rows are = (
    Ascends-kept cmp key_of key_of f keeps.key rows are.0,
    Each-kept (λ r. is_live r ≡ true) (λ r. is_live r ≡ true) f keeps.lives rows are.1,
  )

  -- a row that is kept only where something is left of it
  kept-is_by : (r s : Row K C) (b : Bool) → is_live r ≡ b → (if b then Some r else None) ≡ Some s → (s ≡ r) × (is_live s ≡ true)
  kept-is_by r s true live e = let same_row : r ≡ s = cc in (sym same_row, subst (λ x. is_live x ≡ true) same_row live)
  kept-is_by r s false live e = cc

  pub kept-is : (r s : Row K C) → kept_row r ≡ Some s → (s ≡ r) × (is_live s ≡ true)
  kept-is r s e = kept-is_by r s (is_live r) refl e

  due-key : (r s : Row K C) (b : Bool) → (if b then left_row r else Some r) ≡ Some s → s.key ≡ r.key
  due-key r s true e = ap key_of (kept-is (record r { registrar = registrar.next LeaveTimer r.registrar }) s e).0
  due-key r s false e = let same_row : r ≡ s = cc in ap key_of (sym same_row)

  due-live : (r s : Row K C) (b : Bool) → is_live r ≡ true → (if b then left_row r else Some r) ≡ Some s → is_live s ≡ true
  due-live r s true live e = (kept-is (record r { registrar = registrar.next LeaveTimer r.registrar }) s e).1
  due-live r s false live e = let same_row : r ≡ s = cc in subst (λ x. is_live x ≡ true) same_row live

  pub due-keeps : (now : ℕ) → Keeps (after_leave_due now)
  due-keeps now = record {
    key = λ r s e. due-key r s (leave_is_due now r) e;
    lives = λ r s live e. due-live r s (leave_is_due now r) live e;
  }

-- ---- all timers that are due

module _ {K C : Type 0} where
  -- the timer of LeaveAll changes no row
  pub leave_all_due-rows : (now : Cs) (s : State K C) (b : Bool) → (if b then leave_all_state now s else s).rows ≡ s.rows
  leave_all_due-rows now s true = refl
  leave_all_due-rows now s false = refl

  periodic_due-rows : (cmp : K → K → Ordering) (now : Cs) (s : State K C) (b : Bool) → AreRows cmp s.rows
      → AreRows cmp (if b then periodic_fired_state now s else s).rows
  periodic_due-rows cmp now s true are = AreRows-periodic cmp s.rows are
  periodic_due-rows cmp now s false are = are

  pub AreRows-due : (cmp : K → K → Ordering) (now : Cs) (s : State K C) → AreRows cmp s.rows → AreRows cmp (due_state now s).rows
  AreRows-due cmp now s are =
      let first : State K C = leave_timers_state now s in
      let second : State K C = due_leave_all_state now first in
      periodic_due-rows cmp now second (is_periodic_due now second)
      (subst (AreRows cmp) (sym (leave_all_due-rows now first (is_leave_all_due now first)))
      (AreRows-filter_mapped cmp (after_leave_due now.0) (due-keeps now.0) s.rows are))
