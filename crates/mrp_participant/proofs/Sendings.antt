-- What a participant keeps of its rows when it sends, and what it says.
use Rattle.std.proofs.Common.{◌≡◌, ℕ, ◌+◌, Bool, true, false, not, ◌&&◌, ◌||◌, nat_le, List, [], ◌∷◌, refl, sym, ap, subst, arith}
use Rattle.std.specs.{declared.option.Option.Option, declared.option.Option.TheVariants.None, declared.option.Option.TheVariants.Some, declared.cmp.Ordering.Ordering, Cmp.IsTotalOrder, List.filter_map}
use Rattle.srp_base.specs.declared.{numbers.Cs.Cs, mrp.MrpEvent.MrpEvent}
use Rattle.applicant.specs.declared.AppEvent.{AppEvent}
use Rattle.registrar.specs.declared.RegEvent.TheVariants.{TxLeaveAll as RegTxLeaveAll}
use Rattle.leaveall.specs.declared.{LeaveAll.LeaveAll, LeaveAll.TheVariants.Active, LeaveAll.TheVariants.Passive, LaEvent.TheVariants.Tx as LaTx}
use Rattle.leaveall.specs.Table as leaveall
use Rattle.mrp_participant.specs.declared.row.Row.{Row}
use Rattle.mrp_participant.specs.declared.sending_limit.SendingLimit.{SendingLimit}
use Rattle.mrp_participant.specs.{key_of, is_live, applicant_takes, registrar_takes, is_tried, is_taken, opportunity, row_after, sent_row, sent_event, order, octets_of, up_to, is_in_room, first_limit, AreRows, after, is_active, is_silent, none_tried, sent_events, sent_state}
use Rattle.mrp_participant.specs.State.{State}
use Rattle.mrp_participant.proofs.{Transitions.Keeps, Transitions.kept-is, Transitions.registrar-lives, SendingLimitLemmas.in_room, SendingLimitLemmas.filter_map-same}
use Rattle.registrar.proofs.RegistrarLemmas.{sent_leave_all-registers}

-- ---- rows stay rows

module _ {K C : Type 0} where
  after-key : (event : Option AppEvent) (r s : Row K C) → row_after event r ≡ Some s → s.key ≡ r.key
  after-key None r s e = let one : r ≡ s = cc in ap key_of (sym one)
  after-key (Some event) r s e = ap key_of (kept-is (applicant_takes event r) s e).0

  after-live : (event : Option AppEvent) (r s : Row K C) → is_live r ≡ true → row_after event r ≡ Some s → is_live s ≡ true
  after-live None r s live e = let one : r ≡ s = cc in subst (λ x. is_live x ≡ true) one live
  after-live (Some event) r s live e = (kept-is (applicant_takes event r) s e).1

  sent-key : (leave_all taken : Bool) (leave : Cs) (r s : Row K C) → sent_row leave_all taken leave r ≡ Some s → s.key ≡ r.key
  sent-key true taken leave r s e = after-key (opportunity true taken r) (registrar_takes RegTxLeaveAll leave r) s e
  sent-key false taken leave r s e = after-key (opportunity false taken r) r s e

  sent-live : (leave_all taken : Bool) (leave : Cs) (r s : Row K C) → is_live r ≡ true → sent_row leave_all taken leave r ≡ Some s → is_live s ≡ true
  sent-live true taken leave r s live e = grind (arith, after-live, registrar-lives, sent_leave_all-registers)
  sent-live false taken leave r s live e = after-live (opportunity false taken r) r s live e

  pub sent-keeps : (leave_all : Bool) (taken : Row K C → Bool) (leave : Cs) → Keeps (λ r. sent_row leave_all (taken r) leave r)
  sent-keeps leave_all taken leave = grind (arith, sent-key, sent-live)
  -- ---- the limit gives what the test gives

module _ {K C : Type 0} {cmp : K → K → Ordering} (o : IsTotalOrder cmp) where
  pub rows-by_limit : (base : ℕ) (octets : C
      → ℕ) (leave_all : Bool) (leave : Cs) (rows : List (Row K C)) (limit : Option (SendingLimit K))
      → AreRows cmp rows → limit ≡ first_limit leave_all octets base (order leave_all rows)
      → filter_map (λ r. sent_row leave_all (is_in_room cmp leave_all limit r) leave r) rows
      ≡ filter_map (λ r. sent_row leave_all (is_taken base octets cmp leave_all rows r) leave r) rows
  rows-by_limit base octets leave_all leave rows limit are is = grind (arith, filter_map-same, in_room)

  pub events-by_limit : (base : ℕ) (octets : C
      → ℕ) (leave_all : Bool) (leave : Cs) (rows : List (Row K C)) (limit : Option (SendingLimit K))
      → AreRows cmp rows → limit ≡ first_limit leave_all octets base (order leave_all rows)
      → filter_map (λ r. sent_event leave_all (is_in_room cmp leave_all limit r) leave r) rows
      ≡ filter_map (λ r. sent_event leave_all (is_taken base octets cmp leave_all rows r) leave r) rows
  events-by_limit base octets leave_all leave rows limit are is = grind (arith, filter_map-same, in_room)

-- ---- where nothing is to be said

module _ {K C : Type 0} (cmp : K → K → Ordering) (base : ℕ) (octets : C → ℕ) (leave : Cs) (all : List (Row K C)) where
  untried_by : (r : Row K C) (b : Bool) → is_tried false r ≡ b → not b ≡ true
      → sent_row false (b && nat_le (base + octets_of octets (up_to cmp r.key (order false all))) 1500) leave r
      ≡ Some r
  untried_by r true tried h = cc
  untried_by r false tried h = refl

  silent-rows_by : (r : Row K C) (rows : List (Row K C)) (b : Bool) → not (is_tried false r) ≡ b
      → (b && none_tried rows) ≡ true → (none_tried rows ≡ true → filter_map
      (λ r. sent_row false (is_taken base octets cmp false all r) leave r) rows ≡ rows)
      → filter_map (λ r. sent_row false (is_taken base octets cmp false all r) leave r) (r ∷ rows) ≡ r ∷ rows
  silent-rows_by r rows true untried h rest = grind (arith, untried_by)
  silent-rows_by r rows false untried h rest = cc

  pub silent-rows : (rows : List (Row K C)) → none_tried rows ≡ true
      → filter_map (λ r. sent_row false (is_taken base octets cmp false all r) leave r) rows ≡ rows
  silent-rows [] h = refl
  silent-rows (r ∷ rows) h = silent-rows_by r rows (not (is_tried false r)) refl h (silent-rows rows)

module _ {K C : Type 0} (cmp : K → K → Ordering) (base : ℕ) (octets : C → ℕ) (now : Cs) where
  with_parts : State K C → List (Row K C) → LeaveAll → Bool → State K C
  with_parts s rows machine sound = record s { rows = rows; leave_all = machine; sound = sound }

  silent-state_by : (s : State K C) (machine : LeaveAll) → (not (is_active machine) && none_tried s.rows) ≡ true
      → with_parts s s.rows machine s.sound ≡ with_parts s (filter_map
      (λ r. sent_row (is_active machine) (is_taken base octets cmp (is_active machine) s.rows r)
      (after now s.leave_time) r) s.rows) (leaveall.table LaTx machine) (is_active machine || s.sound)
  silent-state_by s Active h = cc
  silent-state_by s Passive h = ap (λ rows. with_parts s rows Passive s.sound) (sym (silent-rows cmp base octets (after now s.leave_time) s.rows s.rows h))

  -- a silent participant stays as it was
  pub silent-state : (s : State K C) → is_silent s ≡ true → s ≡ sent_state base octets cmp now s
  unfolding with_parts
  silent-state s h = silent-state_by s s.leave_all h

-- ---- what is sent, from what the code has at hand

pub events-of : {K C : Type 0} (cmp : K → K → Ordering) (base : ℕ) (octets : C
    → ℕ) (now : Cs) (s : State K C) (leave_all : Bool) (leave : Cs) (rows : List (Row K C))
    (events : List (MrpEvent × K × C)) → leave_all ≡ is_active s.leave_all → leave ≡ after now s.leave_time
    → rows ≡ s.rows → events ≡ filter_map (λ r. sent_event leave_all
    (is_taken base octets cmp leave_all rows r) leave r) rows → events ≡ sent_events base octets cmp now s
events-of cmp base octets now s leave_all leave rows events active moment is h = grind arith

pub sent-parts : {K C : Type 0} (cmp : K → K → Ordering) (base : ℕ) (octets : C
    → ℕ) (now : Cs) (s : State K C) (leave_all : Bool) (leave : Cs) (new : List (Row K C)) (machine : LeaveAll)
    (sound : Bool) → leave_all ≡ is_active s.leave_all → leave ≡ after now s.leave_time
    → new ≡ filter_map (λ r. sent_row leave_all (is_taken base octets cmp leave_all s.rows r) leave r) s.rows
    → machine ≡ leaveall.table LaTx s.leave_all → sound ≡ (leave_all || s.sound)
    → record s { rows = new; leave_all = machine; sound = sound } ≡ sent_state base octets cmp now s
sent-parts cmp base octets now s leave_all leave new machine sound active moment new_is next sound_is = grind arith

-- what is not silent has a row that is tried, or a LeaveAll to say
pub tried-one : {K C : Type 0} (s : State K C) (leave_all : Bool) (rows : List (Row K C))
    → leave_all ≡ is_active s.leave_all → rows ≡ s.rows → is_silent s ≡ false → leave_all ≡ false
    → none_tried rows ≡ false
tried-one s leave_all rows active is loud none = grind arith
