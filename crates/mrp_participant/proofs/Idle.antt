-- Where no timer is due a participant stays, and where it is still it has nothing to say.
use Rattle.std.proofs.Common.{◌≡◌, ℕ, Bool, true, false, not, ◌&&◌, if◌then◌else◌, List, [], ◌∷◌, map, filter, refl, ap, arith}
use Rattle.std.specs.Prelude.{Option, Some}
use Rattle.std.specs.List.{filter_map, list_all, list_any}
use Rattle.std.proofs.lemmas.Bool.{or_parts as or_false}
use Rattle.srp_base.proofs.Bools.{both}
use Rattle.applicant.specs.declared.Applicant.{Applicant}
use Rattle.applicant.specs.declared.Applicant.TheVariants.{Vo, Vp, Vn, An, Aa, Qa, La}
use Rattle.applicant.specs.Table.{is_quiet}
use Rattle.registrar.specs.Table.{is_leaving}
use Rattle.srp_base.specs.declared.numbers.Cs.{Cs}
use Rattle.mrp_participant.specs.declared.row.Row.{Row}
use Rattle.mrp_participant.specs.{key_of, leave_is_due, after_leave_due, is_settled, is_tried, is_any_due, is_leave_all_due, is_periodic_due, due_state, due_count, left_keys, is_still, is_silent}
use Rattle.mrp_participant.specs.State.{State}

module _ {K C : Type 0} where
  stays_unless : (b : Bool) (o : Option (Row K C)) (r : Row K C) → b ≡ false → (if b then o else Some r) ≡ Some r
  stays_unless true o r h = cc
  stays_unless false o r h = refl

  rows_stay : (now : ℕ) (rows : List (Row K C)) → list_any (leave_is_due now) rows ≡ false → filter_map (after_leave_due now) rows ≡ rows
  rows_stay now [] h = refl
  rows_stay now (r ∷ rows) h =
      let parts = or_false (leave_is_due now r) (list_any (leave_is_due now) rows) h in
      rw (stays_unless (leave_is_due now r) _ r parts.0, rows_stay now rows parts.1) refl

  none_left : (now : ℕ) (rows : List (Row K C)) → list_any (leave_is_due now) rows ≡ false → filter (leave_is_due now) rows ≡ []
  none_left now [] h = refl
  none_left now (r ∷ rows) h =
      let parts = or_false (leave_is_due now r) (list_any (leave_is_due now) rows) h in
      rw (parts.0, none_left now rows parts.1) refl

  untried : (a : Applicant) (b : Bool) → (is_quiet a && b) ≡ true → (r : Row K C) → r.applicant ≡ a → not (is_tried false r) ≡ true
  untried Vo b h r e = rw e refl
  untried Qa b h r e = rw e refl
  untried Vp b h r e = cc
  untried Vn b h r e = cc
  untried An b h r e = cc
  untried Aa b h r e = cc
  untried La b h r e = cc

  none_tried : (rows : List (Row K C)) → list_all is_settled rows ≡ true → list_all (λ r. not (is_tried false r)) rows ≡ true
  none_tried [] h = refl
  none_tried (r ∷ rows) h =
      let parts = both (is_settled r) (list_all is_settled rows) h in
      rw (untried r.applicant (not (is_leaving r.registrar)) parts.0 r refl) (none_tried rows parts.1)

  pub still_is_silent : (s : State K C) → is_still s ≡ true → is_silent s ≡ true
  still_is_silent s h = grind (arith, both, none_tried)

module _ {K C : Type 0} (s : State K C) (now : Cs) (none : is_any_due now s ≡ false) where
  leave : list_any (leave_is_due now.0) s.rows ≡ false
  leave = (or_false _ _ none).0

  others : (is_leave_all_due now s ≡ false) × (is_periodic_due now s ≡ false)
  others = or_false _ _ (or_false (list_any (leave_is_due now.0) s.rows) _ none).1

  pub due-none : due_state now s ≡ s
  due-none = grind (arith, rows_stay, leave)

  pub left-none : left_keys now s ≡ []
  left-none = ap (map key_of) (none_left now.0 s.rows leave)

  pub count-none : due_count now s ≡ 0
  count-none = rw (left-none, others.0, others.1) refl
