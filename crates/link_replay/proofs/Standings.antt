-- What each event makes of what stands of a key: it depends on what stood alone, and not on the applicant.
use Rattle.std.proofs.Common.{◌≡◌, ◌∙◌, ℕ, Bool, true, false, if◌then◌else◌, nat_le, List, [], ◌∷◌, fold, refl, ap, sym, arith}
use Rattle.std.specs.Prelude.{Option, Some, None, option_map, option_and_then, ◌||◌, ◌&&◌}
use Rattle.std.specs.declared.cmp.Ordering.{Ordering}
use Rattle.srp_base.specs.declared.{numbers.Cs.Cs, mrp.MrpEvent.MrpEvent}
use Rattle.srp_base.specs.declared.mrp.MrpEvent.TheVariants.{New, JoinIn, OnlyIn, JoinMt, OnlyMt, Lv}
use Rattle.applicant.specs.declared.Applicant.TheVariants.{Vo}
use Rattle.applicant.specs.Table as applicant
use Rattle.registrar.specs.declared.Registrar.{Registrar}
use Rattle.registrar.specs.declared.Registrar.TheVariants.{Held, Leaving, Empty}
use Rattle.registrar.specs.declared.RegEvent.TheVariants.{RxNew, RxJoin, RxLv, RxLeaveAll, TxLeaveAll, LeaveTimer}
use Rattle.registrar.specs.Table as registrar
use Rattle.mrp_participant.specs.declared.row.Row.{Row}
use Rattle.mrp_participant.specs.{Lookup.same, Row.is_live, Row.kept_row, Row.fresh_row, Row.after_declare, Row.after_withdraw, Row.after_leave, Row.after_hear, Row.leave_all_row, Row.row_hearing, Row.row_after_receive, Row.leave_is_due, Row.after_leave_due, Row.periodic_row, Sending.sent_row}
use Rattle.link_replay.specs.Standing.{Standing, Standing.Stands, Standing.Leaves, Standing.Gone, held_by, standing, passing}

module _ {C : Type 0} where
  -- ---- what each event makes of what stood

  -- Lv, or a LeaveAll either way
  abbrev pub leaving : Cs → Standing C → Standing C
  leaving until (Stands c) = Leaves c until
  leaving until (Leaves c u) = Leaves c u
  leaving until Gone = Gone

  -- an event that is received
  abbrev pub hearing : MrpEvent → C → Cs → Standing C → Standing C
  hearing New c until s = Stands c
  hearing JoinIn c until s = Stands c
  hearing OnlyIn c until s = s
  hearing JoinMt c until s = Stands c
  hearing OnlyMt c until s = s
  hearing Lv c until s = leaving until s

  -- the end of the leave timer
  abbrev pub ended : Standing C → Standing C
  ended (Stands c) = Stands c
  ended (Leaves c u) = Gone
  ended Gone = Gone

  -- ---- that the table makes it of them

  by_lv : (g : Registrar) (c : C) (u leave : Cs)
      → held_by (registrar.next RxLv g) c (if registrar.starts_leave_timer RxLv g then leave else u) ≡ leaving leave (held_by g c u)
  by_lv Held c u leave = refl
  by_lv Leaving c u leave = refl
  by_lv Empty c u leave = refl

  by_leave_all : (g : Registrar) (c : C) (u leave : Cs)
      → held_by (registrar.next RxLeaveAll g) c (if registrar.starts_leave_timer RxLeaveAll g then leave else u) ≡ leaving leave (held_by g c u)
  by_leave_all Held c u leave = refl
  by_leave_all Leaving c u leave = refl
  by_leave_all Empty c u leave = refl

  by_own_leave_all : (g : Registrar) (c : C) (u leave : Cs)
      → held_by (registrar.next TxLeaveAll g) c (if registrar.starts_leave_timer TxLeaveAll g then leave else u) ≡ leaving leave (held_by g c u)
  by_own_leave_all Held c u leave = refl
  by_own_leave_all Leaving c u leave = refl
  by_own_leave_all Empty c u leave = refl

  by_new : (g : Registrar) (c : C) (u : Cs) → held_by (registrar.next RxNew g) c u ≡ Stands c
  by_new Held c u = refl
  by_new Leaving c u = refl
  by_new Empty c u = refl

  by_join : (g : Registrar) (c : C) (u : Cs) → held_by (registrar.next RxJoin g) c u ≡ Stands c
  by_join Held c u = refl
  by_join Leaving c u = refl
  by_join Empty c u = refl

  by_timer : (g : Registrar) (c : C) (u : Cs) → held_by (registrar.next LeaveTimer g) c u ≡ ended (held_by g c u)
  by_timer Held c u = refl
  by_timer Leaving c u = refl
  by_timer Empty c u = refl

  gone : (other : Bool) (g : Registrar) (c : C) (u : Cs) → (other || registrar.is_registered_in g) ≡ false → held_by g c u ≡ Gone
  gone true g c u h = cc
  gone false Held c u h = cc
  gone false Leaving c u h = cc
  gone false Empty c u h = refl

  due_by : (g : Registrar) (b : Bool) (c : C) (u : Cs) (fired stayed : Standing C) → fired ≡ ended (held_by g c u) → stayed ≡ held_by g c u
      → (if registrar.is_leaving g && b then fired else stayed) ≡ (if b then ended (held_by g c u) else held_by g c u)
  due_by Held true c u fired stayed f s = s
  due_by Held false c u fired stayed f s = s
  due_by Leaving true c u fired stayed f s = f
  due_by Leaving false c u fired stayed f s = s
  due_by Empty true c u fired stayed f s = s
  due_by Empty false c u fired stayed f s = s

  passed : (g : Registrar) (now : ℕ) (c : C) (u : Cs) → (if nat_le u.0 now then ended (held_by g c u) else held_by g c u) ≡ passing now (held_by g c u)
  passed Held now c u = grind arith
  passed Leaving now c u = refl
  passed Empty now c u = grind arith

module _ {K C : Type 0} where
  -- a row of which nothing is kept holds nothing
  kept_by : (keeps : Bool) (r : Row K C) → (keeps ≡ false → held_by r.registrar r.heard r.leave ≡ Gone)
      → standing (if keeps then Some r else None) ≡ held_by r.registrar r.heard r.leave
  kept_by true r h = refl
  kept_by false r h = sym (h refl)

  pub kept : (r : Row K C) → standing (kept_row r) ≡ held_by r.registrar r.heard r.leave
  kept r = kept_by (is_live r) r (gone _ r.registrar r.heard r.leave)

  -- ---- hearing

  pub heard : (e : MrpEvent) (k : K) (c : C) (leave : Cs) (r : Option (Row K C)) → standing (after_hear e k c leave r) ≡ hearing e c leave (standing r)
  heard New k c leave None = refl
  heard JoinIn k c leave None = refl
  heard OnlyIn k c leave None = refl
  heard JoinMt k c leave None = refl
  heard OnlyMt k c leave None = refl
  heard Lv k c leave None = refl
  heard New k c leave (Some r) = by_new r.registrar c _
  heard JoinIn k c leave (Some r) = by_join r.registrar c _
  heard OnlyIn k c leave (Some r) = refl
  heard JoinMt k c leave (Some r) = by_join r.registrar c _
  heard OnlyMt k c leave (Some r) = refl
  heard Lv k c leave (Some r) = by_lv r.registrar r.heard r.leave leave

  -- an event of this key or of another
  abbrev hearing_of : (K → K → Ordering) → Cs → K → Standing C → MrpEvent × K × C → Standing C
  hearing_of cmp leave k s e = if same cmp e.1 k then hearing e.0 e.2 leave s else s

  heard_by : (b : Bool) (e : MrpEvent) (k : K) (c : C) (leave : Cs) (r : Option (Row K C))
      → standing (if b then after_hear e k c leave r else r) ≡ (if b then hearing e c leave (standing r) else standing r)
  heard_by true e k c leave r = heard e k c leave r
  heard_by false e k c leave r = refl

  all_heard : (cmp : K → K → Ordering) (leave : Cs) (k : K) (events : List (MrpEvent × K × C)) (r : Option (Row K C))
      → standing (fold (row_hearing cmp leave k) r events) ≡ fold (hearing_of cmp leave k) (standing r) events
  all_heard cmp leave k [] r = refl
  all_heard cmp leave k (e ∷ events) r =
      all_heard cmp leave k events (row_hearing cmp leave k r e)
      ∙ ap (λ s. fold (hearing_of cmp leave k) s events) (heard_by (same cmp e.1 k) e.0 e.1 e.2 leave r)

  begun : (leave : Cs) (r : Option (Row K C)) → standing (option_map (leave_all_row leave) r) ≡ leaving leave (standing r)
  begun leave None = refl
  begun leave (Some r) = by_leave_all r.registrar r.heard r.leave leave

  begun_by : (leave_all : Bool) (leave : Cs) (r : Option (Row K C))
      → standing (if leave_all then option_map (leave_all_row leave) r else r) ≡ (if leave_all then leaving leave (standing r) else standing r)
  begun_by true leave r = begun leave r
  begun_by false leave r = refl

  -- what a list of messages makes of what stood
  abbrev pub received : (K → K → Ordering) → Cs → Bool → List (MrpEvent × K × C) → K → Standing C → Standing C
  received cmp leave leave_all events k s = fold (hearing_of cmp leave k) (if leave_all then leaving leave s else s) events

  pub receives : (cmp : K → K → Ordering) (leave : Cs) (leave_all : Bool) (events : List (MrpEvent × K × C)) (k : K) (r : Option (Row K C))
      → standing (row_after_receive cmp leave leave_all events k r) ≡ received cmp leave leave_all events k (standing r)
  receives cmp leave leave_all events k r =
      all_heard cmp leave k events (if leave_all then option_map (leave_all_row leave) r else r)
      ∙ ap (λ s. fold (hearing_of cmp leave k) s events) (begun_by leave_all leave r)

  -- ---- sending

  pub sends : (leave_all taken : Bool) (leave : Cs) (r : Row K C)
      → standing (sent_row leave_all taken leave r) ≡ (if leave_all then leaving leave (standing (Some r)) else standing (Some r))
  sends true taken leave r = kept _ ∙ by_own_leave_all r.registrar r.heard r.leave leave
  sends false true leave r = kept _
  sends false false leave r = refl

  pub sent : (leave_all : Bool) (taken : Row K C → Bool) (leave : Cs) (r : Option (Row K C))
      → standing (option_and_then (λ r. sent_row leave_all (taken r) leave r) r) ≡ (if leave_all then leaving leave (standing r) else standing r)
  sent true taken leave None = refl
  sent false taken leave None = refl
  sent leave_all taken leave (Some r) = sends leave_all (taken r) leave r

  -- ---- time

  pub ends : (r : Option (Row K C)) → standing (after_leave r) ≡ ended (standing r)
  ends None = refl
  ends (Some r) = kept _ ∙ by_timer r.registrar r.heard r.leave

  standing-if : (b : Bool) (x y : Option (Row K C)) → standing (if b then x else y) ≡ (if b then standing x else standing y)
  standing-if true x y = refl
  standing-if false x y = refl

  pub passes : (now : ℕ) (r : Option (Row K C)) → standing (option_and_then (after_leave_due now) r) ≡ passing now (standing r)
  passes now None = refl
  passes now (Some r) =
      standing-if (leave_is_due now r) (after_leave (Some r)) (Some r)
      ∙ due_by r.registrar (nat_le r.leave.0 now) r.heard r.leave _ _ (ends (Some r)) refl
      ∙ passed r.registrar now r.heard r.leave

  pub periodic : (b : Bool) (r : Option (Row K C)) → standing (option_map (λ r. if b then periodic_row r else r) r) ≡ standing r
  periodic b None = refl
  periodic true (Some r) = refl
  periodic false (Some r) = refl

  -- ---- what a user asks for

  declared : (c : C) (r : Row K C) (a b : Bool)
      → standing (Some (if a then (if b then r else record r {
        applicant = applicant.redeclare_of r.applicant;
        content = c;
      }) else record r { applicant = applicant.declare_of r.applicant; content = c })) ≡ standing (Some r)
  declared c r true true = refl
  declared c r true false = refl
  declared c r false b = refl

  pub declares : (eq : C → C → Bool) (k : K) (c : C) (r : Option (Row K C)) → standing (after_declare eq k c r) ≡ standing r
  declares eq k c None = declared c (fresh_row k c) (applicant.is_declared_in Vo) (eq c c)
  declares eq k c (Some r) = declared c r (applicant.is_declared_in r.applicant) (eq r.content c)

  pub withdraws : (r : Option (Row K C)) → standing (after_withdraw r) ≡ standing r
  withdraws None = refl
  withdraws (Some r) = refl
