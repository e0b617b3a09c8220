-- What each step of a node leaves and keeps, by the laws of its application.
use Rattle.std.proofs.lemmas.List.{length-replicate}
use Rattle.std.proofs.Common.{◌≡◌, ◌≢◌, ◌<◌, ℕ, List, [], ◌∷◌, ◌++◌, refl, sym, ap, subst, ◌∙◌, append_assoc, arith}
use Rattle.std.specs.Prelude.{slice_set, Option, Some, None}
use Rattle.srp_base.proofs.{Options.one_some, Lists.length_set, Lists.each-set as each_set, Lists.each_append}
use Rattle.srp_base.specs.declared.numbers.Cs.{Cs}
use Rattle.link_app.specs.{Wires.NamedOctets, Words.AppWords, Laws.AppLaws, Laws.StaysAt, Laws.IsCallAt}
use Rattle.link_node.specs.declared.steps.PortStep.{PortStep}
use Rattle.link_node.specs.declared.steps.PortStep.TheVariants.{Work, LeaveNow, LeaveAllNow, PeriodicNow, Due, Settle, Send}
use Rattle.link_node.specs.{Boxes.box_at, State.NodeState, State.IsKeptNode, State.IsFitPdu, State.AreFit, State.new_node, State.part_at, State.ports_of, State.spoilt_at, State.with_inbox, State.with_outbox, Step.after_work, Step.port_step, Step.sent_octets}
use Rattle.link_node.proofs.BoxLemmas.{box_other, box_got, box_set, each_box, each_new}

module _ {Name Key Request : Type 0} (w : AppWords Name Key Request) where
  abbrev S : Type 0
  S = NodeState w.State Name

  -- ---- what is at one place

  -- the participants and the boxes there are as they were
  pub record IsSame (k : ℕ) (s t : S) : Type 0 where
    pub part : (n : Name) → part_at w n k t ≡ part_at w n k s
    pub inbox : box_at k t.inboxes ≡ box_at k s.inboxes
    pub outbox : box_at k t.outboxes ≡ box_at k s.outboxes

  pub unchanged : (k : ℕ) (s : S) → IsSame k s s
  unchanged k s = record { part = λ n. refl; inbox = refl; outbox = refl }

  -- what becomes of the participants and the boxes at a place keeps the duties of its link
  abbrev pub KeepsLink : ℕ → S → S → Type 0
  KeepsLink at s t =
      (n : Name) (x y z : w.Part n) (far_in far_out : List (NamedOctets Name))
      → part_at w n at s ≡ Some x → part_at w n at t ≡ Some y
      → w.AreDutiesMet n x z (far_in ++ box_at at s.outboxes) (box_at at s.inboxes ++ far_out)
      → w.AreDutiesMet n y z (far_in ++ box_at at t.outboxes) (box_at at t.inboxes ++ far_out)

  pub still : (at : ℕ) (s : S) → KeepsLink at s s
  still at s n x y z far_in far_out old new met =
      subst (λ (p : w.Part n). w.AreDutiesMet n p z (far_in ++ box_at at s.outboxes) (box_at at s.inboxes ++ far_out)) (one_some (part_at w n at s) x y old new) met

  -- ---- what a node keeps

  -- with as many ports, it keeps what a node keeps, and its moment
  pub record StaysNode (s t : S) : Type 0 where
    pub ports : ports_of w t ≡ ports_of w s
    pub kept : IsKeptNode w s → IsKeptNode w t
    pub moment : (now : Cs) → w.IsAt now s.app → w.IsAt now t.app

  -- and its application asks for nothing more
  pub record StaysIdle (s t : S) : Type 0 where
    pub stays : StaysNode s t
    pub idle : w.IsIdle s.app → w.IsIdle t.app

  pub no_change : (s : S) → StaysIdle s s
  no_change s = record { stays = record { ports = refl; kept = λ h. h; moment = λ now h. h }; idle = λ h. h }

  -- the application becomes another
  pub other_app : (s : S) (app : w.State) → w.ports_of app ≡ w.ports_of s.app → w.IsKept app → IsKeptNode w s → IsKeptNode w (record s { app = app })
  other_app s app many kept h =
      record {
        app = kept;
        boxes = record { inboxes = h.boxes.inboxes ∙ sym many; outboxes = h.boxes.outboxes ∙ sym many };
        fit_in = h.fit_in;
        fit_out = h.fit_out;
      }

  other_inbox : (at : ℕ) (pdus : List (NamedOctets Name)) (s : S) → AreFit w pdus → IsKeptNode w s → IsKeptNode w (with_inbox at pdus s)
  other_inbox at pdus s fit h =
      record {
        app = h.app;
        boxes = record { inboxes = length_set s.inboxes at pdus ∙ h.boxes.inboxes; outboxes = h.boxes.outboxes };
        fit_in = each_set (AreFit w) s.inboxes at pdus fit h.fit_in;
        fit_out = h.fit_out;
      }

  other_outbox : (at : ℕ) (pdus : List (NamedOctets Name)) (s : S) → AreFit w pdus → IsKeptNode w s → IsKeptNode w (with_outbox at pdus s)
  other_outbox at pdus s fit h =
      record {
        app = h.app;
        boxes = record { inboxes = h.boxes.inboxes; outboxes = length_set s.outboxes at pdus ∙ h.boxes.outboxes };
        fit_in = h.fit_in;
        fit_out = each_set (AreFit w) s.outboxes at pdus fit h.fit_out;
      }

  -- what waits is fit
  pub fit_at : (at : ℕ) (s : S) → IsKeptNode w s → AreFit w (box_at at s.inboxes)
  fit_at at s h = each_box (IsFitPdu w) s.inboxes at h.fit_in

  pub fit_out_at : (at : ℕ) (s : S) → IsKeptNode w s → AreFit w (box_at at s.outboxes)
  fit_out_at at s h = each_box (IsFitPdu w) s.outboxes at h.fit_out

  -- only a box becomes another
  pub in_box : (at : ℕ) (pdus : List (NamedOctets Name)) (s : S) → (IsKeptNode w s → AreFit w pdus) → StaysIdle s (with_inbox at pdus s)
  in_box at pdus s fit = record { stays = record { ports = refl; kept = λ h. other_inbox at pdus s (fit h) h; moment = λ now h. h }; idle = λ h. h }

  pub emptied_stays : (at : ℕ) (s : S) → StaysIdle s (with_outbox at [] s)
  emptied_stays at s = record { stays = record { ports = refl; kept = λ h. other_outbox at [] s tt h; moment = λ now h. h }; idle = λ h. h }

  -- a node with boxes at its places
  pub inbox_set : (at : ℕ) (pdus : List (NamedOctets Name)) (s : S) → IsKeptNode w s → at < ports_of w s → box_at at (with_inbox at pdus s).inboxes ≡ pdus
  inbox_set at pdus s h below = let many = h.boxes.inboxes in box_got s.inboxes at pdus (omega (arith, many, below))

  pub outbox_set : (at : ℕ) (pdus : List (NamedOctets Name)) (s : S) → IsKeptNode w s → at < ports_of w s → box_at at (with_outbox at pdus s).outboxes ≡ pdus
  outbox_set at pdus s h below = let many = h.boxes.outboxes in box_got s.outboxes at pdus (omega (arith, many, below))

  module _ (laws : AppLaws w) where
    pub new_kept : (app : w.State) → w.IsNew app → IsKeptNode w (new_node w app)
    new_kept app new =
        record {
          app = (laws.begins app new).kept;
          boxes = record { inboxes = length-replicate (w.ports_of app) []; outboxes = length-replicate (w.ports_of app) [] };
          fit_in = each_new (IsFitPdu w) (w.ports_of app);
          fit_out = each_new (IsFitPdu w) (w.ports_of app);
        }

    -- ---- calls of the application alone

    app_apart : (Needs : Type 0) (at k : ℕ) (s : S) (app : w.State) → at ≢ k → StaysAt w Needs at s.app app → IsSame k s (record s { app = app })
    app_apart Needs at k s app ne is = record { part = λ n. is.elsewhere n k ne; inbox = refl; outbox = refl }

    app_stays : (Needs : Type 0) (at : ℕ) (s : S) (app : w.State) → Needs → StaysAt w Needs at s.app app → StaysIdle s (record s { app = app })
    app_stays Needs at s app such is =
        record {
          stays = record {
            ports = is.stays.ports;
            kept = λ h. other_app s app is.stays.ports (is.stays.kept such h.app) h;
            moment = is.stays.moment;
          };
          idle = is.idle;
        }

    call_keeps : (at : ℕ) (s : S) (app : w.State) → IsKeptNode w s → IsCallAt w at s.app app → KeepsLink at s (record s { app = app })
    call_keeps at s app h is n x y z far_in far_out old new met =
        is.duties (far_in ++ box_at at s.outboxes) (box_at at s.inboxes ++ far_out) n x y z h.app old new met

    pub spoilt_apart : (n : Name) (at k : ℕ) (s : S) → at ≢ k → IsSame k s (spoilt_at w n at s)
    spoilt_apart n at k s ne = app_apart (Unit {0}) at k s (w.after_spoiling n at s.app) ne (laws.spoiling n at s.app)

    pub spoilt_stays : (n : Name) (at : ℕ) (s : S) → StaysIdle s (spoilt_at w n at s)
    spoilt_stays n at s = app_stays (Unit {0}) at s (w.after_spoiling n at s.app) tt (laws.spoiling n at s.app)

    -- ---- the front PDU is taken

    work_apart : (now : Cs) (at k : ℕ) (pdus : List (NamedOctets Name)) (s : S) → at ≢ k → IsSame k s (after_work w now at pdus s).0
    work_apart now at k [] s ne = unchanged k s
    work_apart now at k (pdu ∷ pdus) s ne =
        record {
          part = λ n. (laws.receipt pdu.app now at pdu.octets s.app).elsewhere n k ne;
          inbox = box_other s.inboxes at k pdus ne;
          outbox = refl;
        }

    work_keeps : (now : Cs) (at : ℕ) (pdus : List (NamedOctets Name)) (s : S) → IsKeptNode w s → box_at at s.inboxes ≡ pdus → KeepsLink at s (after_work w now at pdus s).0
    work_keeps now at [] s h is n x y z far_in far_out old new met = still at s n x y z far_in far_out old new met
    work_keeps now at (pdu ∷ pdus) s h is n x y z far_in far_out old new met =
        subst (λ (ps : List (NamedOctets Name)). w.AreDutiesMet n y z (far_in ++ box_at at s.outboxes) (ps ++ far_out)) (sym (box_set s.inboxes at pdu pdus pdus is))
        (laws.receipt_met pdu.app now at pdu.octets s.app (far_in ++ box_at at s.outboxes) (pdus ++ far_out) n x y z h.app old new
        (subst (λ (ps : List (NamedOctets Name)). w.AreDutiesMet n x z (far_in ++ box_at at s.outboxes) (ps ++ far_out)) is met))

    work_stays : (now : Cs) (at : ℕ) (pdus : List (NamedOctets Name)) (s : S) → (IsKeptNode w s → AreFit w pdus) → StaysIdle s (after_work w now at pdus s).0
    work_stays now at [] s fit = no_change s
    work_stays now at (pdu ∷ pdus) s fit =
        let is = laws.receipt pdu.app now at pdu.octets s.app in
        record {
          stays = record {
            ports = is.stays.ports;
            kept = λ h. other_app (with_inbox at pdus s) (w.after_receipt pdu.app now at pdu.octets s.app) is.stays.ports (is.stays.kept (fit h).0 h.app) (other_inbox at pdus s (fit h).1 h);
            moment = is.stays.moment;
          };
          idle = is.idle;
        }

    -- ---- what there is to say is said

    send_apart : (m : Name) (now : Cs) (at k : ℕ) (o : Option (List ℕ)) (s : S) → at ≢ k → IsSame k s (sent_octets w m now at o s).0
    send_apart m now at k None s ne = unchanged k s
    send_apart m now at k (Some octets) s ne =
        record { part = λ n. (laws.sending m now at s.app).elsewhere n k ne; inbox = refl; outbox = box_other s.outboxes at k _ ne }

    send_keeps : (m : Name) (now : Cs) (at : ℕ) (o : Option (List ℕ)) (s : S) → IsKeptNode w s → w.octets_to_say m now at s.app ≡ o → KeepsLink at s (sent_octets w m now at o s).0
    send_keeps m now at None s h is n x y z far_in far_out old new met = still at s n x y z far_in far_out old new met
    send_keeps m now at (Some octets) s h is n x y z far_in far_out old new met =
        let out : List (NamedOctets Name) = box_at at s.outboxes in
        let pdu : NamedOctets Name = record { app = m; octets = octets } in
        let put : box_at at (slice_set s.outboxes at (out ++ (pdu ∷ []))) ≡ out ++ (pdu ∷ []) = outbox_set at (out ++ (pdu ∷ [])) s h (laws.part_within n at s.app x h.app old) in
        subst (λ (ps : List (NamedOctets Name)). w.AreDutiesMet n y z ps (box_at at s.inboxes ++ far_out))
        (append_assoc far_in out (pdu ∷ []) ∙ ap (λ (ps : List (NamedOctets Name)). far_in ++ ps) (sym put))
        (laws.sending_met m now at octets s.app (far_in ++ out) (box_at at s.inboxes ++ far_out) is n x y z h.app old new met)

    send_stays : (m : Name) (now : Cs) (at : ℕ) (o : Option (List ℕ)) (s : S) → w.octets_to_say m now at s.app ≡ o → StaysIdle s (sent_octets w m now at o s).0
    send_stays m now at None s says = no_change s
    send_stays m now at (Some octets) s says =
        let is = laws.sending m now at s.app in
        let pdu : NamedOctets Name = record { app = m; octets = octets } in
        let out : List (NamedOctets Name) = box_at at s.outboxes in
        record {
          stays = record {
            ports = is.stays.ports;
            kept = λ h.
                other_app (with_outbox at (out ++ (pdu ∷ [])) s) (w.after_sending m now at s.app) is.stays.ports (is.stays.kept tt h.app)
                (other_outbox at (out ++ (pdu ∷ [])) s (each_append (IsFitPdu w) out (pdu ∷ []) (fit_out_at at s h) (laws.sending_fit m now at octets s.app h.app says, tt)) h);
            moment = is.stays.moment;
          };
          idle = is.idle;
        }

    -- ---- every step

    pub step_apart : (now : Cs) (step : PortStep Name Key) (at k : ℕ) (s : S) → at ≢ k → IsSame k s (port_step w now step at s).0
    step_apart now Work at k s ne = work_apart now at k (box_at at s.inboxes) s ne
    step_apart now (LeaveNow key) at k s ne = app_apart (Unit {0}) at k s _ ne (laws.leave key at s.app).stays
    step_apart now (LeaveAllNow m) at k s ne = app_apart (Unit {0}) at k s _ ne (laws.leave_all m now at s.app).stays
    step_apart now (PeriodicNow m) at k s ne = app_apart (Unit {0}) at k s _ ne (laws.periodic m at s.app).stays
    step_apart now Due at k s ne = app_apart (Unit {0}) at k s _ ne (laws.due now at s.app).stays
    step_apart now Settle at k s ne = app_apart (Unit {0}) at k s _ ne (laws.settling at s.app).stays
    step_apart now (Send m) at k s ne = send_apart m now at k (w.octets_to_say m now at s.app) s ne

    pub step_keeps : (now : Cs) (step : PortStep Name Key) (at : ℕ) (s : S) → IsKeptNode w s → KeepsLink at s (port_step w now step at s).0
    step_keeps now Work at s h = work_keeps now at (box_at at s.inboxes) s h refl
    step_keeps now (LeaveNow key) at s h = call_keeps at s _ h (laws.leave key at s.app)
    step_keeps now (LeaveAllNow m) at s h = call_keeps at s _ h (laws.leave_all m now at s.app)
    step_keeps now (PeriodicNow m) at s h = call_keeps at s _ h (laws.periodic m at s.app)
    step_keeps now Due at s h = call_keeps at s _ h (laws.due now at s.app)
    step_keeps now Settle at s h = call_keeps at s _ h (laws.settling at s.app)
    step_keeps now (Send m) at s h = send_keeps m now at (w.octets_to_say m now at s.app) s h refl

    pub step_stays : (now : Cs) (step : PortStep Name Key) (at : ℕ) (s : S) → StaysIdle s (port_step w now step at s).0
    step_stays now Work at s = work_stays now at (box_at at s.inboxes) s (fit_at at s)
    step_stays now (LeaveNow key) at s = app_stays (Unit {0}) at s _ tt (laws.leave key at s.app).stays
    step_stays now (LeaveAllNow m) at s = app_stays (Unit {0}) at s _ tt (laws.leave_all m now at s.app).stays
    step_stays now (PeriodicNow m) at s = app_stays (Unit {0}) at s _ tt (laws.periodic m at s.app).stays
    step_stays now Due at s = app_stays (Unit {0}) at s _ tt (laws.due now at s.app).stays
    step_stays now Settle at s = app_stays (Unit {0}) at s _ tt (laws.settling at s.app).stays
    step_stays now (Send m) at s = send_stays m now at (w.octets_to_say m now at s.app) s refl
