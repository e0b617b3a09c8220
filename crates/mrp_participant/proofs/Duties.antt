-- Each call keeps the duty of the participant that takes it, and its neighbour's.
use Rattle.std.proofs.Common.{◌≡◌, ℕ, Bool, true, false, ◌||◌, if◌then◌else◌, List, [], ◌∷◌, ◌++◌, refl, sym, ap, ◌∙◌, subst, option_and_then, arith}
use Rattle.std.specs.Prelude.{option_to_list}
use Rattle.std.specs.{declared.option.Option.Option, declared.option.Option.TheVariants.None, declared.cmp.Ordering.Ordering, Cmp.IsTotalOrder}
use Rattle.srp_base.specs.declared.numbers.Cs.{Cs}
use Rattle.leaveall.specs.declared.{LeaveAll.LeaveAll, LeaveAll.TheVariants.Active, LeaveAll.TheVariants.Passive}
use Rattle.mrp_participant.specs.declared.row.Row.{Row}
use Rattle.mrp_participant.specs.{same, find, registered_in, declared_in, after_declare, after_withdraw, after_leave, sent_row, sent_event, held_in, held_after, hears, has_leave_all, OwesOf, IsDutyMet, Messages, AreRows, after, is_active, takes, leave_all_state, periodic_fired_state, due_state, declared_state, withdrawn_state, left_state, received_state, periodic_state, sent_state, sent_messages, is_still}
use Rattle.mrp_participant.specs.State.{State}
use Rattle.mrp_participant.proofs.{Lookups.find-same, Lookups.same_is, EachKey.each-declare, EachKey.each-withdraw, EachKey.each-leave, EachKey.each-mapped, EachKey.each-receive, EachKey.each-kept, Sendings.sent-keeps, StateLemmas.each-due, StateLemmas.one-sent, StateLemmas.still-rows, StateLemmas.settled-at, DutyRows.owes-same, DutyRows.owes-asked, DutyRows.declare-owes, DutyRows.withdraw-owes, DutyRows.leave-owes, DutyRows.leave_due-owes, DutyRows.periodic-owes, DutyRows.periodic_if-owes, DutyRows.receive-owes, DutyRows.declare-held, DutyRows.withdraw-held, DutyRows.leave-held, DutyRows.leave_due-held, DutyRows.periodic-held, DutyRows.periodic_if-held, DutyRows.receive-held, DutyRows.held_after_all, DutyRows.events-alone, DutyRows.sent-owes, DutyRows.sent-held, DutyRows.not_leaving-held, DutyRows.quiet-held, Flying.nothing-stays, Flying.hears-append, Flying.hears-twice, Flying.hears-nothing, Flying.leave_all-stays, Flying.leave_all-added, Flying.leave_all-twice, Flying.leave_all-nothing}

-- ---- a change of rows

module _ {K C : Type 0} (cmp : K → K → Ordering) where
  -- what is owed of each key's row is owed of what a call makes of it, so the own duty stays met
  pub own-kept : (near near' far : State K C) (sent coming coming' : List (Messages K C))
      → (near'.sound ≡ true → near.sound ≡ true)
      → ((k : K) (held : Option C) → OwesOf (find cmp k near.rows) held (has_leave_all coming)
      → OwesOf (find cmp k near'.rows) held (has_leave_all coming')) → IsDutyMet cmp near far sent coming
      → IsDutyMet cmp near' far sent coming'
  own-kept near near' far sent coming coming' sound step met = grind arith

  -- a call that leaves what each registrar holds leaves the neighbour's duty met
  pub far-kept : (near near' far : State K C) (sent coming : List (Messages K C))
      → ((k : K) → held_in (find cmp k near'.rows) ≡ held_in (find cmp k near.rows))
      → IsDutyMet cmp far near coming sent → IsDutyMet cmp far near' coming sent
  far-kept near near' far sent coming step met = grind (arith, owes-same)

  -- the same rows
  pub own-same : (near near' far : State K C) (sent coming : List (Messages K C))
      → (near'.sound ≡ true → near.sound ≡ true) → near'.rows ≡ near.rows → IsDutyMet cmp near far sent coming
      → IsDutyMet cmp near' far sent coming
  own-same near near' far sent coming sound is met = grind (arith, own-kept)

module _ {K C : Type 0} {cmp : K → K → Ordering} (o : IsTotalOrder cmp) where
  one-owes_by : (key k : K) (rows : List (Row K C)) (new : Option (Row K C)) (held : Option C) (asked b : Bool)
      → same cmp key k ≡ b → (OwesOf (find cmp key rows) held asked → OwesOf new held asked)
      → OwesOf (find cmp k rows) held asked → OwesOf (if b then new else find cmp k rows) held asked
  one-owes_by key k rows new held asked true e step h = step (subst (λ r. OwesOf r held asked) (sym (find-same o key k rows (same_is cmp key k e))) h)
  one-owes_by key k rows new held asked false e step h = h

  one-held_by : (key k : K) (rows : List (Row K C)) (new : Option (Row K C)) (b : Bool) → same cmp key k ≡ b
      → held_in new ≡ held_in (find cmp key rows)
      → held_in (if b then new else find cmp k rows) ≡ held_in (find cmp k rows)
  one-held_by key k rows new true e step = step ∙ ap held_in (find-same o key k rows (same_is cmp key k e))
  one-held_by key k rows new false e step = refl

  -- a call at one key
  pub own-one : (near near' far : State K C) (sent coming : List (Messages K C)) (key : K) (new : Option (Row K C))
      → (near'.sound ≡ true → near.sound ≡ true)
      → ((k : K) → find cmp k near'.rows ≡ (if same cmp key k then new else find cmp k near.rows))
      → ((held : Option C) → OwesOf (find cmp key near.rows) held (has_leave_all coming)
      → OwesOf new held (has_leave_all coming)) → IsDutyMet cmp near far sent coming
      → IsDutyMet cmp near' far sent coming
  own-one near near' far sent coming key new sound each step met =
      own-kept cmp near near' far sent coming coming sound
      (λ k held h. subst (λ r. OwesOf r held (has_leave_all coming)) (sym (each k))
      (one-owes_by key k near.rows new held (has_leave_all coming) (same cmp key k) refl (step held) h)) met

  pub far-one : (near near' far : State K C) (sent coming : List (Messages K C)) (key : K) (new : Option (Row K C))
      → ((k : K) → find cmp k near'.rows ≡ (if same cmp key k then new else find cmp k near.rows))
      → held_in new ≡ held_in (find cmp key near.rows) → IsDutyMet cmp far near coming sent
      → IsDutyMet cmp far near' coming sent
  far-one near near' far sent coming key new each step met = grind (arith, far-kept, one-held_by)

  -- ---- requests and leave timers

  pub own-declare : (eq : C → C → Bool) (near far : State K C) (sent coming : List (Messages K C)) (key : K) (c : C)
      → AreRows cmp near.rows → IsDutyMet cmp near far sent coming
      → IsDutyMet cmp (declared_state cmp eq key c near) far sent coming
  own-declare eq near far sent coming key c are met = grind (arith, own-one, each-declare, declare-owes)

  pub far-declare : (eq : C → C → Bool) (near far : State K C) (sent coming : List (Messages K C)) (key : K) (c : C)
      → AreRows cmp near.rows → IsDutyMet cmp far near coming sent
      → IsDutyMet cmp far (declared_state cmp eq key c near) coming sent
  far-declare eq near far sent coming key c are met =
      far-one near (declared_state cmp eq key c near) far sent coming key
      (after_declare eq key c (find cmp key near.rows)) (each-declare o eq key c near.rows are)
      (declare-held eq key c (find cmp key near.rows)) met

  pub own-withdraw : (near far : State K C) (sent coming : List (Messages K C)) (key : K) → AreRows cmp near.rows
      → IsDutyMet cmp near far sent coming → IsDutyMet cmp (withdrawn_state cmp key near) far sent coming
  own-withdraw near far sent coming key are met = grind (arith, own-one, each-withdraw, withdraw-owes)

  pub far-withdraw : (near far : State K C) (sent coming : List (Messages K C)) (key : K) → AreRows cmp near.rows
      → IsDutyMet cmp far near coming sent → IsDutyMet cmp far (withdrawn_state cmp key near) coming sent
  far-withdraw near far sent coming key are met =
      far-one near (withdrawn_state cmp key near) far sent coming key (after_withdraw (find cmp key near.rows))
      (each-withdraw o key near.rows are) (withdraw-held (find cmp key near.rows)) met

  pub own-leave : (near far : State K C) (sent coming : List (Messages K C)) (key : K) → AreRows cmp near.rows
      → IsDutyMet cmp near far sent coming → IsDutyMet cmp (left_state cmp key near) far sent coming
  own-leave near far sent coming key are met = grind (arith, own-one, each-leave, leave-owes)

  pub far-leave : (near far : State K C) (sent coming : List (Messages K C)) (key : K) → AreRows cmp near.rows
      → IsDutyMet cmp far near coming sent → IsDutyMet cmp far (left_state cmp key near) coming sent
  far-leave near far sent coming key are met =
      far-one near (left_state cmp key near) far sent coming key (after_leave (find cmp key near.rows))
      (each-leave o key near.rows are) (leave-held (find cmp key near.rows)) met

  -- ---- timers at every row

  pub own-periodic : (near far : State K C) (sent coming : List (Messages K C)) → IsDutyMet cmp near far sent coming
      → IsDutyMet cmp (periodic_state near) far sent coming
  own-periodic near far sent coming met = grind (arith, own-kept, each-mapped, periodic-owes)

  pub far-periodic : (near far : State K C) (sent coming : List (Messages K C)) → IsDutyMet cmp far near coming sent
      → IsDutyMet cmp far (periodic_state near) coming sent
  far-periodic near far sent coming met = grind (arith, far-kept, each-mapped, periodic-held)

  leave_all-sound : (now : Cs) (s : State K C) (b : Bool) → (if b then leave_all_state now s else s).sound ≡ s.sound
  leave_all-sound now s true = refl
  leave_all-sound now s false = refl

  periodic-sound : (now : Cs) (s : State K C) (b : Bool) → (if b then periodic_fired_state now s else s).sound ≡ s.sound
  periodic-sound now s true = refl
  periodic-sound now s false = refl

  pub due-sound : (now : Cs) (s : State K C) → (due_state now s).sound ≡ s.sound
  due-sound now s = grind (arith, periodic-sound, leave_all-sound)

  pub own-due : (near far : State K C) (sent coming : List (Messages K C)) (now : Cs) → AreRows cmp near.rows
      → IsDutyMet cmp near far sent coming → IsDutyMet cmp (due_state now near) far sent coming
  own-due near far sent coming now are met = grind (arith, own-kept, due-sound, each-due, periodic_if-owes, option_and_then, leave_due-owes)

  pub far-due : (near far : State K C) (sent coming : List (Messages K C)) (now : Cs) → AreRows cmp near.rows
      → IsDutyMet cmp far near coming sent → IsDutyMet cmp far (due_state now near) coming sent
  far-due near far sent coming now are met = grind (arith, far-kept, each-due, periodic_if-held, option_and_then, leave_due-held)

  -- ---- receiving

  pub own-receive : (near far : State K C) (sent coming : List (Messages K C)) (now : Cs) (m : Messages K C)
      → AreRows cmp near.rows → IsDutyMet cmp near far sent (m ∷ coming)
      → IsDutyMet cmp (received_state cmp now m.leave_all m.events near) far sent coming
  own-receive near far sent coming now m are met = grind (arith, own-kept, each-receive, receive-owes)

  pub far-receive : (near far : State K C) (sent coming : List (Messages K C)) (now : Cs) (m : Messages K C)
      → AreRows cmp near.rows → IsDutyMet cmp far near (m ∷ coming) sent
      → IsDutyMet cmp far (received_state cmp now m.leave_all m.events near) coming sent
  far-receive near far sent coming now m are met = grind (arith, owes-same, each-receive, receive-held)

  -- ---- sending

  module _ (base : ℕ) (octets : C → ℕ) (now : Cs) where
    -- what is sent of one key makes of what is held
    sent-heard : (s : State K C) (k : K) (held : Option C) → AreRows cmp s.rows
        → held_after cmp k held (sent_messages base octets cmp now s)
        ≡ held_after_all (if is_active s.leave_all then None else held)
        (option_to_list (option_and_then (λ r. sent_event (is_active s.leave_all) (takes base octets cmp s r)
        (after now s.leave_time) r) (find cmp k s.rows)))
    sent-heard s k held are =
        events-alone cmp k (sent_messages base octets cmp now s).events (if is_active s.leave_all then None else held)
        ∙ ap (held_after_all (if is_active s.leave_all then None else held))
        (one-sent o (is_active s.leave_all) (takes base octets cmp s) (after now s.leave_time) s.rows are.0 k)

    each-sent : (s : State K C) → AreRows cmp s.rows → (k : K)
        → find cmp k (sent_state base octets cmp now s).rows
        ≡ option_and_then (λ r. sent_row (is_active s.leave_all) (takes base octets cmp s r)
        (after now s.leave_time) r) (find cmp k s.rows)
    each-sent s are k = each-kept o _ (sent-keeps (is_active s.leave_all) (takes base octets cmp s) (after now s.leave_time)) s.rows are.0 k

    own-send_at : (near : State K C) (k : K) (held : Option C) (asked : Bool) → AreRows cmp near.rows
        → (is_active near.leave_all ≡ false → OwesOf (find cmp k near.rows) held asked)
        → OwesOf (find cmp k (sent_state base octets cmp now near).rows)
        (held_after cmp k held (sent_messages base octets cmp now near)) asked
    own-send_at near k held asked are h =
        subst (λ x. OwesOf (find cmp k (sent_state base octets cmp now near).rows) x asked) (sym (sent-heard near k held are))
        (subst (λ r. OwesOf r (held_after_all (if is_active near.leave_all then None else held)
        (option_to_list (option_and_then (λ r. sent_event (is_active near.leave_all)
        (takes base octets cmp near r) (after now near.leave_time) r) (find cmp k near.rows)))) asked)
        (sym (each-sent near are k))
        (sent-owes (is_active near.leave_all) (takes base octets cmp near) (after now near.leave_time) (find cmp k near.rows) held asked h))

    sound_before : (m : LeaveAll) (b : Bool) → (is_active m || b) ≡ true → is_active m ≡ false → b ≡ true
    sound_before Active b h k = cc
    sound_before Passive b h k = h

    own-send_from : (near far : State K C) (sent coming : List (Messages K C)) → AreRows cmp near.rows
        → ((k : K) → (sent_state base octets cmp now near).sound ≡ true → is_active near.leave_all ≡ false
        → OwesOf (find cmp k near.rows) (hears cmp k (held_in (find cmp k far.rows)) sent) (has_leave_all coming))
        → IsDutyMet cmp (sent_state base octets cmp now near) far
        (sent ++ (sent_messages base octets cmp now near ∷ [])) coming
    own-send_from near far sent coming are owed =
        record {
          of_key = λ is k.
              subst (λ x. OwesOf (find cmp k (sent_state base octets cmp now near).rows) x (has_leave_all coming))
              (sym (hears-append cmp k (held_in (find cmp k far.rows)) sent
              (sent_messages base octets cmp now near ∷ [])))
              (own-send_at near k (hears cmp k (held_in (find cmp k far.rows)) sent) (has_leave_all coming) are (owed k is));
        }

    pub own-send : (near far : State K C) (sent coming : List (Messages K C)) → AreRows cmp near.rows
        → IsDutyMet cmp near far sent coming → IsDutyMet cmp (sent_state base octets cmp now near) far
        (sent ++ (sent_messages base octets cmp now near ∷ [])) coming
    own-send near far sent coming are met = grind (arith, own-send_from, sound_before)

    -- a LeaveAll needs no duty before
    pub own-send_leave_all : (near far : State K C) (sent coming : List (Messages K C)) → AreRows cmp near.rows
        → is_active near.leave_all ≡ true → IsDutyMet cmp (sent_state base octets cmp now near) far
        (sent ++ (sent_messages base octets cmp now near ∷ [])) coming
    own-send_leave_all near far sent coming are on = grind (arith, own-send_from)

    far-send_by : (near far : State K C) (sent coming : List (Messages K C)) (k : K) (b : Bool)
        → is_active near.leave_all ≡ b → held_in (find cmp k (sent_state base octets cmp now near).rows)
        ≡ (if b then None else held_in (find cmp k near.rows))
        → OwesOf (find cmp k far.rows) (hears cmp k (held_in (find cmp k near.rows)) coming) (has_leave_all sent)
        → OwesOf (find cmp k far.rows) (hears cmp k (held_in (find cmp k
        (sent_state base octets cmp now near).rows)) coming)
        (has_leave_all (sent ++ (sent_messages base octets cmp now near ∷ [])))
    far-send_by near far sent coming k true on held h =
        owes-asked (find cmp k far.rows) _ _ _ _
        (λ none. ap (λ x. hears cmp k x coming) held ∙ nothing-stays cmp k (held_in (find cmp k near.rows)) coming none)
        (leave_all-added sent (sent_messages base octets cmp now near) on) h
    far-send_by near far sent coming k false off held h =
        owes-same (find cmp k far.rows) _ _ _ _ (ap (λ x. hears cmp k x coming) (sym held)) (leave_all-stays sent (sent_messages base octets cmp now near)) h

    pub far-send : (near far : State K C) (sent coming : List (Messages K C)) → AreRows cmp near.rows
        → IsDutyMet cmp far near coming sent → IsDutyMet cmp far (sent_state base octets cmp now near) coming
        (sent ++ (sent_messages base octets cmp now near ∷ []))
    far-send near far sent coming are met =
        record {
          of_key = λ is k.
              far-send_by near far sent coming k (is_active near.leave_all) refl
              (ap held_in (each-sent near are k) ∙ sent-held (is_active near.leave_all) (takes base octets cmp near)
              (after now near.leave_time) (find cmp k near.rows))
              (met.of_key is k);
        }

-- ---- what happens in flight

module _ {K C : Type 0} (cmp : K → K → Ordering) where
  pub twice-sent : (near far : State K C) (front back coming : List (Messages K C)) (m : Messages K C)
      → IsDutyMet cmp near far (front ++ (m ∷ back)) coming
      → IsDutyMet cmp near far (front ++ (m ∷ (m ∷ back))) coming
  twice-sent near far front back coming m met = grind (arith, hears-twice)

  pub twice-coming : (near far : State K C) (sent front back : List (Messages K C)) (m : Messages K C)
      → IsDutyMet cmp near far sent (front ++ (m ∷ back)) → IsDutyMet cmp near far sent (front ++ (m ∷ (m ∷ back)))
  twice-coming near far sent front back m met = grind (arith, leave_all-twice)

  pub nothing-sent : (near far : State K C) (front back coming : List (Messages K C))
      → IsDutyMet cmp near far (front ++ (record { leave_all = false; events = [] } ∷ back)) coming
      → IsDutyMet cmp near far (front ++ back) coming
  nothing-sent near far front back coming met = grind (arith, hears-nothing)

  pub sent-nothing : (near far : State K C) (front back coming : List (Messages K C))
      → IsDutyMet cmp near far (front ++ back) coming
      → IsDutyMet cmp near far (front ++ (record { leave_all = false; events = [] } ∷ back)) coming
  sent-nothing near far front back coming met = grind (arith, hears-nothing)

  pub nothing-coming : (near far : State K C) (sent front back : List (Messages K C))
      → IsDutyMet cmp near far sent (front ++ (record { leave_all = false; events = [] } ∷ back))
      → IsDutyMet cmp near far sent (front ++ back)
  nothing-coming near far sent front back met = grind (arith, leave_all-nothing)

  pub coming-nothing : (near far : State K C) (sent front back : List (Messages K C))
      → IsDutyMet cmp near far sent (front ++ back)
      → IsDutyMet cmp near far sent (front ++ (record { leave_all = false; events = [] } ∷ back))
  coming-nothing near far sent front back met = grind (arith, leave_all-nothing)

  pub unsound-met : (near far : State K C) (sent coming : List (Messages K C)) → near.sound ≡ false → IsDutyMet cmp near far sent coming
  unsound-met near far sent coming off = record { of_key = λ is k. let never : true ≡ false = sym is ∙ off in cc }

  -- ---- where both are still

  pub still-held : (near far : State K C) → near.sound ≡ true → is_still near ≡ true → is_still far ≡ true
      → IsDutyMet cmp near far [] [] → (k : K)
      → registered_in (find cmp k far.rows) ≡ declared_in (find cmp k near.rows)
  still-held near far sound near_still far_still met k =
      not_leaving-held (find cmp k far.rows) (settled-at cmp far.rows (still-rows far far_still) k).1
      ∙ quiet-held (find cmp k near.rows) (held_in (find cmp k far.rows)) (settled-at cmp near.rows (still-rows near near_still) k).0 (met.of_key sound k)
