-- Whatever happens on a link keeps both duties met.
use Rattle.std.proofs.Common.{◌≡◌, ℕ, zero, suc, Bool, true, false, not, ◌&&◌, if◌then◌else◌, List, [], ◌∷◌, ◌++◌, refl, sym, ◌∙◌, subst, append_assoc, arith}
use Rattle.std.specs.{declared.cmp.Ordering.Ordering, Cmp.IsTotalOrder}
use Rattle.std.proofs.lemmas.Bool.{or_right as or-true_right, or_left as or-true_left}
use Rattle.srp_base.specs.declared.numbers.Cs.{Cs}
use Rattle.mrp_participant.specs.{find, registered_in, declared_in, IsDutyMet, EndEvent, LinkEvent, AreDutiesMet, is_loss, end_event_of, with_repeat, other_view, with_near, after_spoiling, after_receiving, after_sending, after_end_event, after_event, after_events, Messages, AreRows, after, is_active, is_silent, is_still, takes, sent_state, sent_messages}
use Rattle.mrp_participant.specs.Link.{Link}
use Rattle.mrp_participant.specs.Link.EndEvent.{Declares, Withdraws, Leaves, Fires, FiresLeaveAll, FiresPeriodic, Sends, Receives, Loses, Repeats}
use Rattle.mrp_participant.specs.Link.LinkEvent.{AtNear, AtFar}
use Rattle.mrp_participant.specs.State.{State}
use Rattle.mrp_participant.proofs.{Duties.own-declare, Duties.far-declare, Duties.own-withdraw, Duties.far-withdraw, Duties.own-leave, Duties.far-leave, Duties.own-due, Duties.far-due, Duties.own-same, Duties.far-kept, Duties.own-periodic, Duties.far-periodic, Duties.own-send, Duties.far-send, Duties.own-receive, Duties.far-receive, Duties.twice-sent, Duties.twice-coming, Duties.unsound-met, Duties.still-held, Duties.due-sound, Transitions.AreRows-declare, Transitions.AreRows-withdraw, Transitions.AreRows-leave, Transitions.AreRows-receive, Transitions.AreRows-due, Transitions.AreRows-periodic, Transitions.AreRows-filter_mapped, Sendings.sent-keeps}

-- what a repeat behind its original keeps, wherever it stands, the list with one element twice has
pub repeated-keeps : {X : Type 0} (P : List X → Type 0)
    → ((front back : List X) (x : X) → P (front ++ (x ∷ back)) → P (front ++ (x ∷ (x ∷ back))))
    → (i : ℕ) (front xs : List X) → P (front ++ xs) → P (front ++ with_repeat i xs)
repeated-keeps P step i front [] h = h
repeated-keeps P step zero front (x ∷ xs) h = step front xs x h
repeated-keeps P step (suc i) front (x ∷ xs) h =
    subst P (append_assoc front (x ∷ []) (with_repeat i xs))
    (repeated-keeps P step i (front ++ (x ∷ [])) xs (subst P (sym (append_assoc front (x ∷ []) xs)) h))

module _ {K C : Type 0} where
  -- the other end of a link keeps the same
  pub turned-met : (cmp : K → K → Ordering) (l : Link K C) → AreDutiesMet cmp l → AreDutiesMet cmp (other_view l)
  turned-met cmp l met = grind arith

  -- a call of the near participant
  near-met : (cmp : K → K → Ordering) (l : Link K C) (s : State K C) → AreRows cmp s.rows
      → IsDutyMet cmp s l.far l.sent l.coming → IsDutyMet cmp l.far s l.coming l.sent → AreDutiesMet cmp l
      → AreDutiesMet cmp (with_near s l)
  near-met cmp l s rows own far met = record { near_rows = rows; far_rows = met.far_rows; near_duty = own; far_duty = far }

  -- ---- in flight

  lost-met : (cmp : K → K → Ordering) (l : Link K C) (sent : List (Messages K C)) → AreDutiesMet cmp l
      → AreDutiesMet cmp (record {
        near = after_spoiling l.near;
        far = after_spoiling l.far;
        sent = sent;
        coming = l.coming;
      })
  lost-met cmp l sent met = grind (arith, unsound-met)

  repeated-met : (cmp : K → K → Ordering) (l : Link K C) (i : ℕ) → AreDutiesMet cmp l → AreDutiesMet cmp (record l { sent = with_repeat i l.sent })
  repeated-met cmp l i met =
      record {
        near_rows = met.near_rows;
        far_rows = met.far_rows;
        near_duty =
            repeated-keeps (λ sent. IsDutyMet cmp l.near l.far sent l.coming)
            (λ front back m h. twice-sent cmp l.near l.far front back l.coming m h) i [] l.sent met.near_duty;
        far_duty =
            repeated-keeps (λ sent. IsDutyMet cmp l.far l.near l.coming sent)
            (λ front back m h. twice-coming cmp l.far l.near l.coming front back m h) i [] l.sent met.far_duty;
      }

module _ {K C : Type 0} {cmp : K → K → Ordering} (o : IsTotalOrder cmp) where
  receiving-met : (now : Cs) (l : Link K C) (coming : List (Messages K C)) → l.coming ≡ coming → AreDutiesMet cmp l
      → AreDutiesMet cmp (after_receiving cmp now coming l)
  receiving-met now l [] is met = met
  receiving-met now l (m ∷ coming) is met = grind (arith, AreRows-receive, own-receive, far-receive)

  module _ (base : ℕ) (octets : C → ℕ) where
    sending-met_by : (now : Cs) (l : Link K C) (b : Bool) → AreDutiesMet cmp l
        → AreDutiesMet cmp (if b then l else record l {
          near = sent_state base octets cmp now l.near;
          sent = l.sent ++ (sent_messages base octets cmp now l.near ∷ []);
        })
    sending-met_by now l true met = met
    sending-met_by now l false met =
        record {
          near_rows = AreRows-filter_mapped cmp _ (sent-keeps (is_active l.near.leave_all)
              (takes base octets cmp l.near) (after now l.near.leave_time)) l.near.rows met.near_rows;
          far_rows = met.far_rows;
          near_duty = own-send o base octets now l.near l.far l.sent l.coming met.near_rows met.near_duty;
          far_duty = far-send o base octets now l.near l.far l.sent l.coming met.near_rows met.far_duty;
        }

    module _ (eq : C → C → Bool) where
      -- ---- at an end, at either end, and in a list of events

      pub end-met : (e : EndEvent K C) (l : Link K C) → AreDutiesMet cmp l → AreDutiesMet cmp (after_end_event base octets cmp eq e l)
      end-met (Declares k c) l met = grind (arith, near-met, AreRows-declare, own-declare, far-declare)
      end-met (Withdraws k) l met = grind (arith, near-met, AreRows-withdraw, own-withdraw, far-withdraw)
      end-met (Leaves k) l met = grind (arith, near-met, AreRows-leave, own-leave, far-leave)
      end-met (Fires now) l met =
          near-met cmp l _ (AreRows-due cmp now l.near met.near_rows)
          (own-due o l.near l.far l.sent l.coming now met.near_rows met.near_duty)
          (far-due o l.near l.far l.sent l.coming now met.near_rows met.far_duty) met
      end-met (FiresLeaveAll now) l met = grind (arith, near-met, own-same, far-kept)
      end-met FiresPeriodic l met = grind (arith, near-met, AreRows-periodic, own-periodic, far-periodic)
      end-met (Sends now) l met = sending-met_by now l (is_silent l.near) met
      end-met (Receives now) l met = receiving-met now l l.coming refl met
      end-met (Loses i) l met = lost-met cmp l _ met
      end-met (Repeats i) l met = repeated-met cmp l i met

      pub event-met : (l : Link K C) (e : LinkEvent K C) → AreDutiesMet cmp l → AreDutiesMet cmp (after_event base octets cmp eq l e)
      event-met l (AtNear e) met = end-met e l met
      event-met l (AtFar e) met = turned-met cmp _ (end-met e (other_view l) (turned-met cmp l met))

      pub events-met : (events : List (LinkEvent K C)) (l : Link K C) → AreDutiesMet cmp l → AreDutiesMet cmp (after_events base octets cmp eq l events)
      events-met [] l met = met
      events-met (e ∷ events) l met = events-met events (after_event base octets cmp eq l e) (event-met l e met)

module _ {K C : Type 0} (cmp : K → K → Ordering) where
  pub still-far : (l : Link K C) → AreDutiesMet cmp l → l.sent ≡ [] → l.coming ≡ [] → is_still l.near ≡ true
      → is_still l.far ≡ true → l.near.sound ≡ true → (k : K)
      → registered_in (find cmp k l.far.rows) ≡ declared_in (find cmp k l.near.rows)
  still-far l met no_sent no_coming near_still far_still sound = grind (arith, still-held)

-- ---- soundness

-- an active LeaveAll machine isn't silent
active-speaks : (a b : Bool) → a ≡ true → (not a && b) ≡ false
active-speaks true b h = refl
active-speaks false b h = cc

module _ {K C : Type 0} {cmp : K → K → Ordering} (o : IsTotalOrder cmp) (base : ℕ) (octets : C → ℕ) where
  sending-near : (now : Cs) (l : Link K C) (b : Bool) → l.near.sound ≡ true
      → (if b then l else record l {
        near = sent_state base octets cmp now l.near;
        sent = l.sent ++ (sent_messages base octets cmp now l.near ∷ []);
      }).near.sound ≡ true
  sending-near now l true h = h
  sending-near now l false h = or-true_right (is_active l.near.leave_all) l.near.sound h

  sending-far : (now : Cs) (l : Link K C) (b : Bool) → l.far.sound ≡ true
      → (if b then l else record l {
        near = sent_state base octets cmp now l.near;
        sent = l.sent ++ (sent_messages base octets cmp now l.near ∷ []);
      }).far.sound ≡ true
  sending-far now l true h = h
  sending-far now l false h = h

  receiving-near : (now : Cs) (l : Link K C) (coming : List (Messages K C)) → l.near.sound ≡ true → (after_receiving cmp now coming l).near.sound ≡ true
  receiving-near now l [] h = h
  receiving-near now l (m ∷ coming) h = h

  receiving-far : (now : Cs) (l : Link K C) (coming : List (Messages K C)) → l.far.sound ≡ true → (after_receiving cmp now coming l).far.sound ≡ true
  receiving-far now l [] h = h
  receiving-far now l (m ∷ coming) h = h

  pub leave_all-sound_after : (now : Cs) (l : Link K C) → is_active l.near.leave_all ≡ true → (after_sending base octets cmp now l).near.sound ≡ true
  leave_all-sound_after now l on = grind (arith, active-speaks, or-true_left)

  module _ (eq : C → C → Bool) where
    end-near_sound : (e : EndEvent K C) (l : Link K C) → is_loss e ≡ false → l.near.sound ≡ true → (after_end_event base octets cmp eq e l).near.sound ≡ true
    end-near_sound (Declares k c) l kept h = h
    end-near_sound (Withdraws k) l kept h = h
    end-near_sound (Leaves k) l kept h = h
    end-near_sound (Fires now) l kept h = due-sound o now l.near ∙ h
    end-near_sound (FiresLeaveAll now) l kept h = h
    end-near_sound FiresPeriodic l kept h = h
    end-near_sound (Sends now) l kept h = sending-near now l (is_silent l.near) h
    end-near_sound (Receives now) l kept h = receiving-near now l l.coming h
    end-near_sound (Loses i) l kept h = cc
    end-near_sound (Repeats i) l kept h = h

    end-far_sound : (e : EndEvent K C) (l : Link K C) → is_loss e ≡ false → l.far.sound ≡ true → (after_end_event base octets cmp eq e l).far.sound ≡ true
    end-far_sound (Declares k c) l kept h = h
    end-far_sound (Withdraws k) l kept h = h
    end-far_sound (Leaves k) l kept h = h
    end-far_sound (Fires now) l kept h = h
    end-far_sound (FiresLeaveAll now) l kept h = h
    end-far_sound FiresPeriodic l kept h = h
    end-far_sound (Sends now) l kept h = sending-far now l (is_silent l.near) h
    end-far_sound (Receives now) l kept h = receiving-far now l l.coming h
    end-far_sound (Loses i) l kept h = cc
    end-far_sound (Repeats i) l kept h = h

    pub event-near_sound : (l : Link K C) (e : LinkEvent K C) → is_loss (end_event_of e) ≡ false → l.near.sound ≡ true
        → (after_event base octets cmp eq l e).near.sound ≡ true
    event-near_sound l (AtNear e) kept h = end-near_sound e l kept h
    event-near_sound l (AtFar e) kept h = end-far_sound e (other_view l) kept h

    pub event-far_sound : (l : Link K C) (e : LinkEvent K C) → is_loss (end_event_of e) ≡ false → l.far.sound ≡ true
        → (after_event base octets cmp eq l e).far.sound ≡ true
    event-far_sound l (AtNear e) kept h = end-far_sound e l kept h
    event-far_sound l (AtFar e) kept h = end-near_sound e (other_view l) kept h
