-- What a taken row says, and which row each event that is sent is of.
use Rattle.std.proofs.Common.{◌≡◌, Bool, true, false, not, ◌&&◌, if◌then◌else◌, ◌==◌, List, [], ◌∷◌, refl, sym, ap, ◌∙◌, inl, inr, arith}
use Rattle.std.specs.Prelude.{◌⊎◌, Contains}
use Rattle.std.specs.{declared.option.Option.Option, declared.option.Option.TheVariants.None, declared.option.Option.TheVariants.Some, declared.cmp.Ordering.Ordering, Cmp.IsTotalOrder, List.filter_map, List.cons_option}
use Rattle.srp_base.proofs.Bools.{first_holds}
use Rattle.srp_base.specs.declared.{numbers.Cs.Cs, mrp.MrpEvent.MrpEvent}
use Rattle.applicant.specs.declared.Applicant.{Applicant}
use Rattle.applicant.specs.declared.Applicant.TheVariants.{Vo, Vn, An, Qa, La}
use Rattle.applicant.specs.Table as applicant
use Rattle.registrar.specs.declared.Registrar.{Registrar}
use Rattle.registrar.specs.declared.Registrar.TheVariants.{Held, Leaving, Empty}
use Rattle.leaveall.specs.declared.{LeaveAll.LeaveAll, LeaveAll.TheVariants.Active, LeaveAll.TheVariants.Passive}
use Rattle.mrp_participant.specs.declared.row.Row.{Row}
use Rattle.mrp_participant.specs.{Ascends, key_of, find, declared_in, round, is_tried, is_leave, word_of, sent_event, is_active, is_silent, none_tried}
use Rattle.registrar.specs.Table.{is_in}
use Rattle.mrp_participant.specs.State.{State}
use Rattle.mrp_participant.proofs.{SendingLimitLemmas.In, SendingLimitLemmas.find-in, Octets.sent_is, Changes.In-contains, DutyRows.in_states}

module _ {K C : Type 0} where
  said_by : (leave_all : Bool) (leave : Cs) (r : Row K C) (a : Applicant) (g : Registrar)
      → not (round leave_all a == 0) ≡ true → sent_event leave_all true leave (in_states a g r)
      ≡ Some (word_of leave_all a (is_in g), r.key, r.content)
  unfolding in_states
  said_by true leave r Vo g h = cc
  said_by true leave r La g h = cc
  said_by false leave r Vo g h = cc
  said_by false leave r Qa g h = cc
  said_by leave_all leave r a Held h = refl
  said_by leave_all leave r a Leaving h = refl
  said_by leave_all leave r a Empty h = refl

  said_where : (leave_all taken : Bool) (leave : Cs) (r : Row K C) → is_tried leave_all r ≡ true → taken ≡ true
      → sent_event leave_all taken leave r ≡ Some (
        word_of leave_all r.applicant (is_in r.registrar),
        r.key,
        r.content,
      )
  unfolding in_states
  said_where leave_all true leave r tried h = said_by leave_all leave r r.applicant r.registrar tried
  said_where leave_all false leave r tried h = cc

  -- a taken row says its word
  pub taken-says : (leave_all fits : Bool) (leave : Cs) (r : Row K C) → (is_tried leave_all r && fits) ≡ true
      → sent_event leave_all (is_tried leave_all r && fits) leave r
      ≡ Some (word_of leave_all r.applicant (is_in r.registrar), r.key, r.content)
  taken-says leave_all fits leave r h = said_where leave_all (is_tried leave_all r && fits) leave r (first_holds (is_tried leave_all r) fits h) h

  silent_by : (leave : Cs) (r : Row K C) (a : Applicant) (g : Registrar) → sent_event true false leave (in_states a g r) ≡ None
  unfolding in_states
  silent_by leave r Vo g = refl
  silent_by leave r a g = refl

  -- a row that isn't taken says nothing
  pub not_taken-says : (leave_all taken : Bool) (leave : Cs) (r : Row K C) → taken ≡ false → sent_event leave_all taken leave r ≡ None
  unfolding in_states
  not_taken-says leave_all true leave r h = cc
  not_taken-says true false leave r h = silent_by leave r r.applicant r.registrar
  not_taken-says false false leave r h = refl

-- ---- the row of an event

kept_in : {X Y : Type 0} (f : X → Option Y) (y : Y) (x : X) (ys : List Y) (new : Option Y) → In y (cons_option new ys) → (new ≡ Some y) ⊎ In y ys
kept_in f y x ys None at = inr at
kept_in f y x ys (Some z) (inl e) = inl (ap Some (sym e))
kept_in f y x ys (Some z) (inr at) = inr at

pub In-kept : {X Y : Type 0} (f : X → Option Y) (y : Y) (xs : List X) → In y (filter_map f xs) → (x : X) × In x xs × (f x ≡ Some y)
In-kept f y [] at = absurd at
In-kept f y (x ∷ xs) at =
    elim (kept_in f y x (filter_map f xs) (f x) at) [ inl e ↦ (x, inl refl, e) | inr rest ↦ let found = In-kept f y xs rest in (found.0, inr found.1, found.2) ]

module _ {K C : Type 0} {cmp : K → K → Ordering} (o : IsTotalOrder cmp) (leave_all : Bool) (taken : Row K C → Bool) (leave : Cs) where
  -- the row of an event that is sent
  pub row-of_event : (rows : List (Row K C)) (e : MrpEvent × K × C) → Ascends cmp key_of rows
      → Contains (filter_map (λ r. sent_event leave_all (taken r) leave r) rows) e → (r : Row K C)
      × (find cmp e.1 rows ≡ Some r) × (sent_event leave_all (taken r) leave r ≡ Some e)
  row-of_event rows e up at =
      let member = In-kept (λ r. sent_event leave_all (taken r) leave r) e rows
      (In-contains e (filter_map (λ r. sent_event leave_all (taken r) leave r) rows) at) in
      let is = sent_is leave_all (taken member.0) leave member.0 e member.2 in
      (member.0, ap (λ k. find cmp k rows) is.0 ∙ find-in o member.0 rows up member.1, member.2)

word-declared : {C : Type 0} (leave_all : Bool) (a : Applicant) (held : Bool) (c : C)
    → not (round leave_all a == 0) ≡ true → (if applicant.is_declared_in a then Some c else None)
    ≡ (if is_leave (word_of leave_all a held) then None else Some c)
word-declared true Vo held c h = cc
word-declared false Vo held c h = cc
word-declared leave_all An held c h = refl
word-declared leave_all Vn held c h = refl
word-declared leave_all La held c h = refl
word-declared true a true c h = refl
word-declared true a false c h = refl
word-declared false a true c h = refl
word-declared false a false c h = refl

module _ {K C : Type 0} where
  declared_by : (leave_all : Bool) (r : Row K C) (e : MrpEvent × K × C) (found : Option (Row K C)) → found ≡ Some r
      → is_tried leave_all r ≡ true → Some (word_of leave_all r.applicant (is_in r.registrar), r.key, r.content)
      ≡ Some e → declared_in found ≡ (if is_leave e.0 then None else Some e.2)
  declared_by leave_all r e found is tried says = grind (arith, word-declared)

  -- an event has the content that is declared of its key, or says that it isn't declared any more
  pub event-declared : (leave_all fits : Bool) (leave : Cs) (r : Row K C) (e : MrpEvent × K
      × C) (found : Option (Row K C)) → found ≡ Some r
      → sent_event leave_all (is_tried leave_all r && fits) leave r ≡ Some e
      → declared_in found ≡ (if is_leave e.0 then None else Some e.2)
  event-declared leave_all fits leave r e found is says = grind (arith, declared_by, first_holds, taken-says, not_taken-says)

silent_of : (m : LeaveAll) (b : Bool) → (not (is_active m) && b) ≡ false → is_active m ≡ false → b ≡ false
silent_of Active b h k = cc
silent_of Passive b h k = h

-- where something is to be said and there is no LeaveAll, some row is tried
pub tried-where_not_silent : {K C : Type 0} (s : State K C) → is_silent s ≡ false → is_active s.leave_all ≡ false → none_tried s.rows ≡ false
tried-where_not_silent s h k = silent_of s.leave_all (none_tried s.rows) h k
