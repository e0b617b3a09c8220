-- Whatever happens on a link with marks keeps both duties as seen, and what a clear way says.
use Rattle.std.proofs.Common.{◌≡◌, ℕ, Bool, true, false, not, ◌&&◌, ◌||◌, if◌then◌else◌, List, [], ◌∷◌, ◌++◌, refl, sym, ap, ◌∙◌, subst, inl, inr, arith}
use Rattle.std.specs.Prelude.{◌⊎◌}
use Rattle.std.specs.{declared.option.Option.Option, declared.option.Option.TheVariants.None, declared.option.Option.TheVariants.Some, declared.cmp.Ordering.Ordering, Cmp.IsTotalOrder}
use Rattle.std.proofs.lemmas.Bool.{and_from as and-true, or_right as or-true_right, or_left as or-true_left}
use Rattle.srp_base.proofs.Bools.{or_true as or-either, both as and-both}
use Rattle.srp_base.specs.declared.numbers.Cs.{Cs}
use Rattle.applicant.specs.declared.Applicant.{Applicant}
use Rattle.applicant.specs.declared.Applicant.TheVariants.{Vo, An, Aa, Qa}
use Rattle.mrp_participant.specs.declared.row.Row.{Row}
use Rattle.mrp_participant.specs.{find, held_in, hears, has_leave_all, Owes, OwesOf, IsDutyMet, EndEvent, LinkEvent, AreDutiesMet, with_repeat, with_near, after_receiving, Mark, IsNoMore, IsClear, AreMarkedDutiesMet, is_nothing, seen_state, seen_link, other_marked_view, mark_receiving, mark_sending, mark_sent, after_marked_end_event, after_marked_event, after_marked_events, Messages, AreRows, is_active, is_silent, new_state, leave_all_state, periodic_fired_state, due_state, received_state, sent_state, sent_messages}
use Rattle.mrp_participant.specs.Link.EndEvent.{Declares, Withdraws, Leaves, Fires, FiresLeaveAll, FiresPeriodic, Sends, Receives, Loses, Repeats}
use Rattle.mrp_participant.specs.Link.LinkEvent.{AtNear, AtFar}
use Rattle.mrp_participant.specs.MarkedLink.{MarkedLink}
use Rattle.mrp_participant.specs.State.{State}
use Rattle.mrp_participant.proofs.{Duties.far-declare, Duties.far-withdraw, Duties.far-leave, Duties.far-due, Duties.own-same, Duties.far-kept, Duties.far-periodic, Duties.far-send, Duties.due-sound, DutyRows.sent-held, EachKey.each-kept, Links.end-met, Sendings.sent-keeps}

-- ---- tests

or-swap : (a b c : Bool) → (a || (b || c)) ≡ true → (b || (a || c)) ≡ true
or-swap true true c h = refl
or-swap true false c h = refl
or-swap false b c h = h

or-drop : (a b : Bool) → ((a || false) || b) ≡ true → (a || b) ≡ true
or-drop true b h = refl
or-drop false b h = h

or-map_left : (a a' b : Bool) → (a ≡ true → a' ≡ true) → (a || b) ≡ true → (a' || b) ≡ true
or-map_left true a' b f h = or-true_left a' b (f refl)
or-map_left false a' b f h = or-true_right a' b h

nothing-is : {X : Type 0} (xs : List X) → is_nothing xs ≡ true → xs ≡ []
nothing-is [] h = refl
nothing-is (x ∷ xs) h = cc

-- what is owed by an applicant where a LeaveAll comes and nothing will be held
assured-owes_by : {C : Type 0} (a : Applicant) (c : C) (held : Option C) (asked : Bool) → held ≡ None → asked ≡ true → Owes a c held asked
assured-owes_by Vo c held asked none e = none
assured-owes_by An c held asked none e = inr e
assured-owes_by Aa c held asked none e = inr e
assured-owes_by Qa c held asked none e = inr e
assured-owes_by _ c held asked none e = tt

module _ {K C : Type 0} where
  -- ---- timers look at no soundness

  leave_all-seen : (now : Cs) (s : State K C) (b c : Bool)
      → (if c then leave_all_state now (record s { sound = b }) else record s { sound = b })
      ≡ record (if c then leave_all_state now s else s) { sound = b }
  leave_all-seen now s b true = refl
  leave_all-seen now s b false = refl

  periodic-seen : (now : Cs) (s : State K C) (b c : Bool)
      → (if c then periodic_fired_state now (record s { sound = b }) else record s { sound = b })
      ≡ record (if c then periodic_fired_state now s else s) { sound = b }
  periodic-seen now s b true = refl
  periodic-seen now s b false = refl

  due-seen : (now : Cs) (s : State K C) (b : Bool) → due_state now (record s { sound = b }) ≡ record (due_state now s) { sound = b }
  due-seen now s b = grind (arith, leave_all-seen, periodic-seen)

  -- ---- the same of a key by its row

  assured-owes : (r : Option (Row K C)) (held : Option C) (asked : Bool) → held ≡ None → asked ≡ true → OwesOf r held asked
  assured-owes None held asked none e = none
  assured-owes (Some r) held asked none e = assured-owes_by r.applicant r.content held asked none e

  -- a participant that declares nothing: its duty is that nothing will be held, which is what a clear way says
  abbrev quiet_end : State K C
  quiet_end = new_state (record { 0 = 0 }) (record { 0 = 0 }) false

module _ {K C : Type 0} (cmp : K → K → Ordering) where
  -- duties look at the rows, and at soundness alone
  resound : (near near' far far' : State K C) (sent coming : List (Messages K C)) → near'.rows ≡ near.rows
      → far'.rows ≡ far.rows → (near'.sound ≡ true → near.sound ≡ true) → (far'.sound ≡ true → far.sound ≡ true)
      → AreDutiesMet cmp (record { near = near; far = far; sent = sent; coming = coming })
      → AreDutiesMet cmp (record { near = near'; far = far'; sent = sent; coming = coming })
  resound near near' far far' sent coming nears fars near_sound far_sound met = grind (arith, own-same, far-kept)

  clear-duty : (mark : Mark) (sent : List (Messages K C)) (far : State K C) → IsClear cmp mark sent far → mark.clear ≡ true
      → (coming : List (Messages K C)) → IsDutyMet cmp quiet_end far sent coming
  clear-duty mark sent far clear is coming = record { of_key = λ sound k. clear.nothing_held is k }

  clear-kept : (mark : Mark) (sent : List (Messages K C)) (far far' : State K C) (coming : List (Messages K C))
      → (IsDutyMet cmp quiet_end far sent coming → IsDutyMet cmp quiet_end far' sent coming)
      → IsClear cmp mark sent far → IsClear cmp mark sent far'
  clear-kept mark sent far far' coming step clear = grind (arith, clear-duty)

  pub unclear : (mark : Mark) (sent : List (Messages K C)) (far : State K C) → mark.clear ≡ false → IsClear cmp mark sent far
  unclear mark sent far off = grind arith

  -- the same marks, but for whether the end is assured
  clear-same : (mark mark' : Mark) (sent : List (Messages K C)) (far : State K C)
      → (mark'.clear ≡ true → mark.clear ≡ true) → IsClear cmp mark sent far → IsClear cmp mark' sent far
  clear-same mark mark' sent far less clear = grind arith

  pub turned-marked : (l : MarkedLink K C) → AreMarkedDutiesMet cmp l → AreMarkedDutiesMet cmp (other_marked_view l)
  turned-marked l met = grind arith

  pub fewer-marked : (l : MarkedLink K C) (near far : Mark) → IsNoMore near l.near → IsNoMore far l.far → AreMarkedDutiesMet cmp l
      → AreMarkedDutiesMet cmp (record l { near = near; far = far })
  fewer-marked l near far nears fars met = grind (arith, resound, or-map_left, clear-same)

  -- a call of the near participant
  called : (l : MarkedLink K C) (s : State K C) → AreDutiesMet cmp (with_near (seen_state l.near s) (seen_link l))
      → (IsDutyMet cmp quiet_end l.link.near l.link.coming l.link.sent → IsDutyMet cmp quiet_end s l.link.coming l.link.sent)
      → AreMarkedDutiesMet cmp l → AreMarkedDutiesMet cmp (record l { link = with_near s l.link })
  called l s duties step met = grind (arith, clear-kept)

  -- a repeat: where the way is clear there is nothing to repeat
  twice-clear : (mark : Mark) (i : ℕ) (sent : List (Messages K C)) (far : State K C) → IsClear cmp mark sent far
      → IsClear cmp mark (with_repeat i sent) far
  twice-clear mark i sent far clear = grind arith

module _ {K C : Type 0} {cmp : K → K → Ordering} (o : IsTotalOrder cmp) (base : ℕ) (octets : C → ℕ) where
  -- ---- sending

  -- the near end's LeaveAll leaves nothing held, and so clears the far end's way where nothing comes from there
  left-none : (now : Cs) (near : State K C) → AreRows cmp near.rows → is_active near.leave_all ≡ true → (k : K)
      → held_in (find cmp k (sent_state base octets cmp now near).rows) ≡ None
  left-none now near rows on k = grind (arith, each-kept, sent-keeps, sent-held)

  sent-clear_by : (now : Cs) (l : MarkedLink K C) → AreMarkedDutiesMet cmp l
      → (l.far.clear ≡ true) ⊎ ((is_active l.link.near.leave_all && is_nothing l.link.coming) ≡ true)
      → (l.link.coming ≡ []) × ((k : K) → hears cmp k (held_in (find cmp k (sent_state base octets cmp now l.link.near).rows)) l.link.coming ≡ None)
  sent-clear_by now l met (inl is) =
      let before = clear-duty cmp l.far l.link.coming l.link.near met.far_clear is l.link.sent in
      let behind = far-send o base octets now l.link.near quiet_end l.link.sent l.link.coming met.duties.near_rows before in
      (met.far_clear.nothing_sent is, λ k. behind.of_key refl k)
  sent-clear_by now l met (inr is) =
      let both = and-both (is_active l.link.near.leave_all) (is_nothing l.link.coming) is in
      let none = nothing-is l.link.coming both.1 in (
        none,
        λ k. ap (hears cmp k (held_in (find cmp k (sent_state base octets cmp now l.link.near).rows))) none
            ∙ left-none now l.link.near met.duties.near_rows both.0 k,
      )

  sending : (now : Cs) (l : MarkedLink K C) (b : Bool) → AreMarkedDutiesMet cmp l
      → AreDutiesMet cmp (if b then seen_link l else record (seen_link l) {
        near = sent_state base octets cmp now (seen_state l.near l.link.near);
        sent = l.link.sent ++ (sent_messages base octets cmp now (seen_state l.near l.link.near) ∷ []);
      })
      → AreMarkedDutiesMet cmp (record {
        link = if b then l.link else record l.link {
          near = sent_state base octets cmp now l.link.near;
          sent = l.link.sent ++ (sent_messages base octets cmp now l.link.near ∷ []);
        };
        near = mark_sending b l.near;
        far = mark_sent b (is_active l.link.near.leave_all) l.link.coming l.far;
      })
  sending now l true met duties = met
  sending now l false met duties =
      record {
        duties =
            resound cmp (sent_state base octets cmp now (seen_state l.near l.link.near))
            (seen_state l.near (sent_state base octets cmp now l.link.near)) (seen_state l.far l.link.far) (seen_state l.far l.link.far)
            (l.link.sent ++ (sent_messages base octets cmp now l.link.near ∷ [])) l.link.coming refl refl
            (or-swap l.near.assured (is_active l.link.near.leave_all) l.link.near.sound) (λ h. h) duties;
        near_clear = unclear cmp (record l.near { clear = false }) _ _ refl;
        far_clear =
            let active = is_active l.link.near.leave_all && is_nothing l.link.coming in
            record {
              nothing_sent = λ is. (sent-clear_by now l met (or-either l.far.clear active is)).0;
              nothing_held = λ is k. (sent-clear_by now l met (or-either l.far.clear active is)).1 k;
            };
      }

  module _ (eq : C → C → Bool) where
    -- ---- receiving

    received : (now : Cs) (l : MarkedLink K C) (m : Messages K C) (coming : List (Messages K C)) → AreMarkedDutiesMet cmp l
        → AreDutiesMet cmp (record (seen_link l) { coming = m ∷ coming }) → (b : Bool) → (m.leave_all && l.near.clear) ≡ b
        → AreDutiesMet cmp (record {
          near = seen_state (record l.near { assured = l.near.assured || b }) (received_state cmp now m.leave_all m.events l.link.near);
          far = seen_state l.far l.link.far;
          sent = l.link.sent;
          coming = coming;
        })
    received now l m coming met duties false is =
        resound cmp (received_state cmp now m.leave_all m.events (seen_state l.near l.link.near))
        (seen_state (record l.near { assured = l.near.assured || false }) (received_state cmp now m.leave_all m.events l.link.near))
        (seen_state l.far l.link.far) (seen_state l.far l.link.far) l.link.sent coming refl refl
        (or-drop l.near.assured l.link.near.sound) (λ h. h)
        (end-met o base octets eq (Receives now) (record (seen_link l) { coming = m ∷ coming }) duties)
    received now l m coming met duties true is =
        let both = and-both m.leave_all l.near.clear is in
        let sound : State K C = record l.link.near { sound = true } in
        let asked : has_leave_all (m ∷ coming) ≡ true = or-true_left m.leave_all (has_leave_all coming) both.0 in
        let assured : AreDutiesMet cmp (record { near = sound; far = seen_state l.far l.link.far; sent = l.link.sent; coming = m ∷ coming })
        = record {
          near_rows = duties.near_rows;
          far_rows = duties.far_rows;
          near_duty = record { of_key = λ is k. assured-owes (find cmp k l.link.near.rows) _ _ (met.near_clear.nothing_held both.1 k) asked };
          far_duty =
              far-kept cmp (seen_state l.near l.link.near) sound (seen_state l.far l.link.far) l.link.sent (m ∷ coming) (λ k. refl)
              duties.far_duty;
        } in
        resound cmp (received_state cmp now m.leave_all m.events sound)
        (seen_state (record l.near { assured = l.near.assured || true }) (received_state cmp now m.leave_all m.events l.link.near))
        (seen_state l.far l.link.far) (seen_state l.far l.link.far) l.link.sent coming refl refl (λ h. refl) (λ h. h)
        (end-met o base octets eq (Receives now) (record { near = sound; far = seen_state l.far l.link.far; sent = l.link.sent; coming = m ∷ coming }) assured)

    receiving : (now : Cs) (l : MarkedLink K C) (coming : List (Messages K C)) → l.link.coming ≡ coming → AreMarkedDutiesMet cmp l
        → AreMarkedDutiesMet cmp (record { link = after_receiving cmp now coming l.link; near = mark_receiving coming l.near; far = l.far })
    receiving now l [] is met = met
    receiving now l (m ∷ coming) is met =
        record {
          duties =
              received now l m coming met (subst (λ (c : List (Messages K C)). AreDutiesMet cmp (record (seen_link l) { coming = c })) is met.duties)
              (m.leave_all && l.near.clear) refl;
          near_clear = clear-same cmp l.near _ l.link.sent l.link.far (λ h. h) met.near_clear;
          far_clear = record {
            nothing_sent = λ clear. let never : m ∷ coming ≡ [] = sym is ∙ met.far_clear.nothing_sent clear in cc;
            nothing_held = λ clear k. let never : m ∷ coming ≡ [] = sym is ∙ met.far_clear.nothing_sent clear in cc;
          };
        }

    -- ---- at an end, at either end, and in a list of events

    end-marked : (e : EndEvent K C) (l : MarkedLink K C) → AreMarkedDutiesMet cmp l
        → AreMarkedDutiesMet cmp (after_marked_end_event base octets cmp eq e l)
    end-marked (Declares k c) l met =
        called cmp l _ (end-met o base octets eq (Declares k c) (seen_link l) met.duties)
        (far-declare o eq l.link.near quiet_end l.link.sent l.link.coming k c met.duties.near_rows) met
    end-marked (Withdraws k) l met =
        called cmp l _ (end-met o base octets eq (Withdraws k) (seen_link l) met.duties)
        (far-withdraw o l.link.near quiet_end l.link.sent l.link.coming k met.duties.near_rows) met
    end-marked (Leaves k) l met =
        called cmp l _ (end-met o base octets eq (Leaves k) (seen_link l) met.duties)
        (far-leave o l.link.near quiet_end l.link.sent l.link.coming k met.duties.near_rows) met
    end-marked (Fires now) l met =
        let near : State K C = l.link.near in
        let same : due_state now (seen_state l.near near) ≡ seen_state l.near (due_state now near)
        = due-seen now near (l.near.assured || near.sound)
        ∙ ap (λ (b : Bool). record (due_state now near) { sound = l.near.assured || b }) (sym (due-sound o now near)) in
        called cmp l (due_state now near)
        (subst (λ (s : State K C). AreDutiesMet cmp (with_near s (seen_link l))) same
        (end-met o base octets eq (Fires now) (seen_link l) met.duties))
        (far-due o near quiet_end l.link.sent l.link.coming now met.duties.near_rows) met
    end-marked (FiresLeaveAll now) l met = grind (arith, called, end-met, far-kept)
    end-marked FiresPeriodic l met =
        called cmp l _ (end-met o base octets eq FiresPeriodic (seen_link l) met.duties)
        (far-periodic o l.link.near quiet_end l.link.sent l.link.coming) met
    end-marked (Sends now) l met = sending now l (is_silent l.link.near) met (end-met o base octets eq (Sends now) (seen_link l) met.duties)
    end-marked (Receives now) l met = receiving now l l.link.coming refl met
    end-marked (Loses i) l met = grind (arith, end-met, unclear)
    end-marked (Repeats i) l met =
        record {
          duties = end-met o base octets eq (Repeats i) (seen_link l) met.duties;
          near_clear = twice-clear cmp l.near i l.link.sent l.link.far met.near_clear;
          far_clear = met.far_clear;
        }

    pub event-marked : (l : MarkedLink K C) (e : LinkEvent K C) → AreMarkedDutiesMet cmp l
        → AreMarkedDutiesMet cmp (after_marked_event base octets cmp eq l e)
    event-marked l (AtNear e) met = end-marked e l met
    event-marked l (AtFar e) met = turned-marked cmp _ (end-marked e (other_marked_view l) (turned-marked cmp l met))

    pub events-marked : (events : List (LinkEvent K C)) (l : MarkedLink K C) → AreMarkedDutiesMet cmp l
        → AreMarkedDutiesMet cmp (after_marked_events base octets cmp eq l events)
    events-marked [] l met = met
    events-marked (e ∷ events) l met = events-marked events (after_marked_event base octets cmp eq l e) (event-marked l e met)

-- ---- when marks are set

module _ {K C : Type 0} where
  pub clears : (active none : Bool) (coming : List (Messages K C)) (mark : Mark) → active ≡ true → coming ≡ []
      → (mark_sent (not active && none) active coming mark).clear ≡ true
  clears true none [] mark e f = or-true_right mark.clear true refl
  clears true none (m ∷ coming) mark e f = cc
  clears false none coming mark e f = cc

  pub assures : (all coming : List (Messages K C)) (m : Messages K C) (mark : Mark) → all ≡ m ∷ coming → m.leave_all ≡ true
      → mark.clear ≡ true → (mark_receiving all mark).assured ≡ true
  assures all coming m mark is leaves clear = grind (arith, or-true_right, and-true)
