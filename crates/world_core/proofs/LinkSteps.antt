-- What a node's step makes of a participant, of the boxes at its port and of the marks, keeps what the port's link does, in any
-- application: a call of the participant, the receipt of the front PDU, and the sending of one.
use Rattle.std.proofs.Common.{◌≡◌, Bool, true, false, ◌&&◌, ◌||◌, if◌then◌else◌, ℕ, ◌+◌, ◌-◌, List, [], ◌∷◌, ◌++◌, fold, refl, sym, ap, subst, ◌∙◌, append_assoc, arith}
use Rattle.std.specs.Prelude.{Option, Some, None, option_map, filter_map, ◌==◌}
use Rattle.std.specs.List.{cons_option}
use Rattle.std.proofs.lemmas.{Bool.Decides.nat_tests, List.append-nil, List.Elements.filter_map-append}
use Rattle.srp_base.proofs.{Bools.first_holds as and_first, Bools.or-map_right as or_either, Lists.mapped}
use Rattle.srp_base.specs.declared.{numbers.Cs.Cs}
use Rattle.mrp_participant.specs.{State.State, State.Messages, State.is_active, State.is_silent, State.declared_state, State.withdrawn_state, State.due_state, State.left_state, State.leave_all_state, State.periodic_state, State.received_state, State.sent_state, State.sent_messages, Link.EndEvent.Declares, Link.EndEvent.Withdraws, Link.EndEvent.Leaves, Link.EndEvent.Fires, Link.EndEvent.FiresLeaveAll, Link.EndEvent.FiresPeriodic, Link.EndEvent.Sends, Link.EndEvent.Receives, Link.LinkEvent.AtNear, MarkedLink.Mark, MarkedLink.MarkedLink, MarkedLink.AreMarkedDutiesMet, MarkedLink.is_nothing, MarkedLink.mark_sending, MarkedLink.mark_sent, MarkedLink.seen_state}
use Rattle.node_core.specs.declared.types.Wire.{Wire}
use Rattle.node_core.specs.{Leaving.has_leave_all, State.NodeState, State.box_at}
use Rattle.world_core.specs.{BothMarks, is_same_app, count_of, after_saying, after_hearing_of, both_sent, both_took, flags_of}
use Rattle.world_core.proofs.{Counts.one_of, Counts.count_append, Counts.none_said, Views.AppView, Views.LinkLaws, Views.Met, Views.Boxed, Views.KeepsLink, Views.both_same, Views.says_leave_all, Views.met_same, SameSaid.SaysSame, SameSaid.says_same_duties}

-- ---- numbers and tests, on plain variables

none_before : (a b : ℕ) → a ≡ 0 + b → a ≡ b
none_before a b e = omega (arith, e)

one_fewer : (a b : ℕ) → a ≡ 1 + b → a - 1 ≡ b
one_fewer a b e = omega (arith, e)

none_fewer : (a : ℕ) → a ≡ 0 → a - 1 ≡ 0
none_fewer a e = omega (arith, e)

one_more : (a b c : ℕ) → a ≡ b → c ≡ b + 1 → a + 1 ≡ c
one_more a b c e f = omega (arith, e, f)

and_second : (a b : Bool) → (a && b) ≡ true → b ≡ true
and_second true b h = h
and_second false b h = cc

and_swapped : (c l l' : Bool) → l ≡ l' → ((c && l) && c) ≡ true → (l' && c) ≡ true
and_swapped true true l' e h = sym (ap (λ (b : Bool). b && true) e)
and_swapped true false l' e h = cc
and_swapped false l l' e h = cc

or_dropped : (a b : Bool) → (b ≡ true → a ≡ true) → (a || b) ≡ true → a ≡ true
or_dropped true b f h = refl
or_dropped false b f h = f h

is_none : (n : ℕ) → (n == 0) ≡ true → n ≡ 0
is_none n h = grind (arith, nat_tests, h)

nothing_there : {X : Type 0} (xs : List X) → xs ≡ [] → is_nothing xs ≡ true
nothing_there [] e = refl
nothing_there (x ∷ xs) e = cc

module _ {K C : Type 0} (v : AppView K C) (laws : LinkLaws v) where
  -- ---- calls of a participant

  -- what becomes of a participant keeps what each link does at whose near end it stands
  abbrev pub KeepsNear : State K C → State K C → Type 0
  KeepsNear x y =
      (z : State K C) (sent coming : List (Messages K C)) (near far : Mark)
      → AreMarkedDutiesMet v.cmp (record { link = record { near = x; far = z; sent = sent; coming = coming }; near = near; far = far })
      → AreMarkedDutiesMet v.cmp (record { link = record { near = y; far = z; sent = sent; coming = coming }; near = near; far = far })

  abbrev link_of : State K C → State K C → List (Messages K C) → List (Messages K C) → Mark → Mark → MarkedLink K C
  link_of x z sent coming near far = record { link = record { near = x; far = z; sent = sent; coming = coming }; near = near; far = far }

  pub declares : (k : K) (c : C) (x : State K C) → KeepsNear x (declared_state v.cmp laws.same k c x)
  declares k c x z sent coming near far met = laws.event (link_of x z sent coming near far) (AtNear (Declares k c)) met

  pub withdraws : (k : K) (x : State K C) → KeepsNear x (withdrawn_state v.cmp k x)
  withdraws k x z sent coming near far met = laws.event (link_of x z sent coming near far) (AtNear (Withdraws k)) met

  pub leaves : (k : K) (x : State K C) → KeepsNear x (left_state v.cmp k x)
  leaves k x z sent coming near far met = laws.event (link_of x z sent coming near far) (AtNear (Leaves k)) met

  pub fires : (now : Cs) (x : State K C) → KeepsNear x (due_state now x)
  fires now x z sent coming near far met = laws.event (link_of x z sent coming near far) (AtNear (Fires now)) met

  pub fires_leave_all : (now : Cs) (x : State K C) → KeepsNear x (leave_all_state now x)
  fires_leave_all now x z sent coming near far met = laws.event (link_of x z sent coming near far) (AtNear (FiresLeaveAll now)) met

  pub fires_periodic : (x : State K C) → KeepsNear x (periodic_state x)
  fires_periodic x z sent coming near far met = laws.event (link_of x z sent coming near far) (AtNear FiresPeriodic) met

  -- one call for each of a list
  pub all_keep : {X : Type 0} (call : State K C → X → State K C) → ((x : State K C) (k : X) → KeepsNear x (call x k)) → (ks : List X) (x : State K C) → KeepsNear x (fold call x ks)
  all_keep call each [] x z sent coming near far met = met
  all_keep call each (k ∷ ks) x z sent coming near far met = all_keep call each ks (call x k) z sent coming near far (each x k z sent coming near far met)

  -- the same participant
  pub same_near : (x y : State K C) → x ≡ y → KeepsNear x y
  same_near x y is = subst (λ (p : State K C). KeepsNear x p) is (λ z sent coming near far met. met)

  -- a step that leaves the boxes at its place, and the marks
  pub called : (at : ℕ) (s t : NodeState) → ((x y : State K C) → v.part at s ≡ Some x → v.part at t ≡ Some y → KeepsNear x y)
      → box_at at t.inboxes ≡ box_at at s.inboxes → box_at at t.outboxes ≡ box_at at s.outboxes → KeepsLink v at s t both_same
  called at s t keeps ins outs x y z far_in far_out marks old new met =
      met_same v marks y y z z far_in far_in (box_at at s.outboxes) (box_at at t.outboxes) (box_at at s.inboxes) (box_at at t.inboxes) far_out far_out
      refl refl refl (sym outs) (sym ins) refl
      (record {
        duties = keeps x y old new z (filter_map v.said (far_in ++ box_at at s.outboxes)) (filter_map v.said (box_at at s.inboxes ++ far_out))
            (flags_of marks.0) (flags_of marks.1) met.duties;
        near_flying = met.near_flying;
        far_flying = met.far_flying;
        near_clear = met.near_clear;
        far_clear = met.far_clear;
      })

  -- where the participant becomes what a call makes of it
  pub by_call : (f : State K C → State K C) → ((x : State K C) → KeepsNear x (f x)) → (o n : Option (State K C)) → n ≡ option_map f o
      → (x y : State K C) → o ≡ Some x → n ≡ Some y → KeepsNear x y
  by_call f keeps o n is x y old new = subst (λ (p : State K C). KeepsNear x p) (mapped f o x y old (sym is ∙ new)) (keeps x)

  -- ---- the front PDU is taken

  -- the participant after what a PDU says, if anything
  abbrev pub hearing : Cs → Option (Messages K C) → State K C → State K C
  hearing now None x = x
  hearing now (Some m) x = received_state v.cmp now m.leave_all m.events x

  -- with the mark of one that may be assured by it
  received : (now : Cs) (o : Option (Messages K C)) (x z : State K C) (sent rest : List (Messages K C)) (near far : Mark) (l : Bool)
      → l ≡ says_leave_all o
      → AreMarkedDutiesMet v.cmp (link_of x z sent (cons_option o rest) near far)
      → AreMarkedDutiesMet v.cmp (link_of (hearing now o x) z sent rest (record { clear = near.clear; assured = near.assured || ((near.clear && l) && near.clear) }) far)
  received now None x z sent rest near far l is met =
      laws.fewer (link_of x z sent rest near far) _ far
      (record {
        clear = λ h. h;
        assured = or_dropped near.assured ((near.clear && l) && near.clear)
            (λ h. let never : true ≡ false = sym (and_second near.clear l (and_first (near.clear && l) near.clear h)) ∙ is in cc);
      })
      (record { clear = λ h. h; assured = λ h. h }) met
  received now (Some m) x z sent rest near far l is met =
      laws.fewer (link_of (received_state v.cmp now m.leave_all m.events x) z sent rest (record { clear = near.clear; assured = near.assured || (m.leave_all && near.clear) }) far) _ far
      (record {
        clear = λ h. h;
        assured = or_either near.assured ((near.clear && l) && near.clear) (m.leave_all && near.clear) (and_swapped near.clear l m.leave_all is);
      })
      (record { clear = λ h. h; assured = λ h. h })
      (laws.event (link_of x z sent (m ∷ rest) near far) (AtNear (Receives now)) met)

  -- another application's PDU is nothing to it
  received_other : (now : Cs) (o : Option (Messages K C)) (x z : State K C) (sent rest : List (Messages K C)) (near far : Mark) → o ≡ None
      → AreMarkedDutiesMet v.cmp (link_of x z sent (cons_option o rest) near far)
      → AreMarkedDutiesMet v.cmp (link_of (hearing now o x) z sent rest near far)
  received_other now None x z sent rest near far none met = met
  received_other now (Some m) x z sent rest near far none met = cc

  taken_by : (now : Cs) (wire : Wire) (wires far_out sent : List Wire) (x z : State K C) (marks : BothMarks) (own : Bool) → is_same_app v.app wire.app ≡ own
      → (own ≡ false → v.said wire ≡ None) → (own ≡ true → has_leave_all wire ≡ says_leave_all (v.said wire))
      → Met v x z sent ((wire ∷ wires) ++ far_out) marks
      → Met v (hearing now (v.said wire) x) z sent (wires ++ far_out) (if own then both_took (marks.0.clear && has_leave_all wire) marks else marks)
  taken_by now wire wires far_out sent x z marks false e other own met =
      record {
        duties = received_other now (v.said wire) x z (filter_map v.said sent) (filter_map v.said (wires ++ far_out)) (flags_of marks.0) (flags_of marks.1) (other refl) met.duties;
        near_flying = met.near_flying;
        far_flying = none_before marks.1.flying (count_of v.app (wires ++ far_out)) (met.far_flying ∙ ap (λ (b : Bool). one_of b + count_of v.app (wires ++ far_out)) e);
        near_clear = met.near_clear;
        far_clear = met.far_clear;
      }
  taken_by now wire wires far_out sent x z marks true e other own met =
      record {
        duties = received now (v.said wire) x z (filter_map v.said sent) (filter_map v.said (wires ++ far_out)) (flags_of marks.0) (flags_of marks.1) (has_leave_all wire) (own refl) met.duties;
        near_flying = met.near_flying;
        far_flying = one_fewer marks.1.flying (count_of v.app (wires ++ far_out)) (met.far_flying ∙ ap (λ (b : Bool). one_of b + count_of v.app (wires ++ far_out)) e);
        near_clear = met.near_clear;
        far_clear = λ is. none_fewer marks.1.flying (met.far_clear is);
      }

  pub taken : (now : Cs) (at : ℕ) (s t : NodeState) (wire : Wire) (wires : List Wire) (own : Bool) → is_same_app v.app wire.app ≡ own
      → (own ≡ false → v.said wire ≡ None) → (own ≡ true → has_leave_all wire ≡ says_leave_all (v.said wire))
      → v.part at t ≡ option_map (hearing now (v.said wire)) (v.part at s)
      → box_at at s.inboxes ≡ wire ∷ wires → box_at at t.inboxes ≡ wires → box_at at t.outboxes ≡ box_at at s.outboxes
      → KeepsLink v at s t (λ marks. if own then both_took (marks.0.clear && has_leave_all wire) marks else marks)
  taken now at s t wire wires own e other leaves_as is was left outs x y z far_in far_out marks old new met =
      let sent : List Wire = far_in ++ box_at at s.outboxes in
      let before : Met v x z sent ((wire ∷ wires) ++ far_out) marks = subst (λ (ws : List Wire). Met v x z sent (ws ++ far_out) marks) was met in
      met_same v (if own then both_took (marks.0.clear && has_leave_all wire) marks else marks) (hearing now (v.said wire) x) y z z far_in far_in
      (box_at at s.outboxes) (box_at at t.outboxes) wires (box_at at t.inboxes) far_out far_out
      (mapped (hearing now (v.said wire)) (v.part at s) x y old (sym is ∙ new)) refl refl (sym outs) (sym left) refl
      (taken_by now wire wires far_out sent x z marks own e other leaves_as before)

  -- ---- what is said goes to the end of the outbox

  -- as the link's law has it, with the messages that are read in the place of those that were said
  speaks : (now : Cs) (x z : State K C) (sent coming : List (Messages K C)) (near far : Mark) (n : Messages K C) → is_silent x ≡ false
      → SaysSame v.cmp (sent_messages laws.base laws.octets v.cmp now x) n
      → AreMarkedDutiesMet v.cmp (link_of x z sent coming near far)
      → AreMarkedDutiesMet v.cmp (link_of (sent_state laws.base laws.octets v.cmp now x) z (sent ++ (n ∷ [])) coming
      (record { clear = false; assured = near.assured })
      (record { clear = far.clear || (is_active x.leave_all && is_nothing coming); assured = far.assured }))
  speaks now x z sent coming near far n loud same met =
      let l : MarkedLink K C = link_of x z sent coming near far in
      let m : Messages K C = sent_messages laws.base laws.octets v.cmp now x in
      let y : State K C = sent_state laws.base laws.octets v.cmp now x in
      let far' : Mark = record { clear = far.clear || (is_active x.leave_all && is_nothing coming); assured = far.assured } in
      let near' : Mark = record { clear = false; assured = near.assured } in
      let after : AreMarkedDutiesMet v.cmp (link_of y z (sent ++ (m ∷ [])) coming near' far')
      = subst (λ (b : Bool). AreMarkedDutiesMet v.cmp (record {
        link = if b then l.link else record l.link { near = y; sent = sent ++ (m ∷ []) };
        near = mark_sending b near;
        far = mark_sent b (is_active x.leave_all) coming far;
      })) loud (laws.event l (AtNear (Sends now)) met) in
      record {
        duties = says_same_duties v.cmp m n same (seen_state near' y) (seen_state far' z) sent [] coming after.duties;
        near_clear = record {
          nothing_sent = λ is. let never : false ≡ true = is in cc;
          nothing_held = λ is k. let never : false ≡ true = is in cc;
        };
        far_clear = after.far_clear;
      }

  more_said : (far_in out : List Wire) (wire : Wire) (m : Messages K C) → v.said wire ≡ Some m
      → filter_map v.said (far_in ++ (out ++ (wire ∷ []))) ≡ filter_map v.said (far_in ++ out) ++ (m ∷ [])
  more_said far_in out wire m is =
      ap (filter_map v.said) (sym (append_assoc far_in out (wire ∷ [])))
      ∙ (filter_map-append v.said (far_in ++ out) (wire ∷ [])
      ∙ ap (λ (o : Option (Messages K C)). filter_map v.said (far_in ++ out) ++ cons_option o []) is)

  nothing_said : (far_in out : List Wire) (wire : Wire) → v.said wire ≡ None → filter_map v.said (far_in ++ (out ++ (wire ∷ []))) ≡ filter_map v.said (far_in ++ out)
  nothing_said far_in out wire is =
      ap (filter_map v.said) (sym (append_assoc far_in out (wire ∷ [])))
      ∙ (filter_map-append v.said (far_in ++ out) (wire ∷ [])
      ∙ (ap (λ (o : Option (Messages K C)). filter_map v.said (far_in ++ out) ++ cons_option o []) is
      ∙ append-nil (filter_map v.said (far_in ++ out))))

  -- the PDUs from the near end with one more
  more_counted : (far_in out : List Wire) (wire : Wire) (own : Bool) → is_same_app v.app wire.app ≡ own
      → count_of v.app (far_in ++ (out ++ (wire ∷ []))) ≡ count_of v.app (far_in ++ out) + (one_of own + 0)
  more_counted far_in out wire own e =
      ap (count_of v.app) (sym (append_assoc far_in out (wire ∷ [])))
      ∙ (count_append v.app (far_in ++ out) (wire ∷ [])
      ∙ ap (λ (b : Bool). count_of v.app (far_in ++ out) + (one_of b + 0)) e)

  -- the participant has spoken, and its PDU, which says the same of each key, is the last in the outbox
  pub record HasSpoken (now : Cs) (at : ℕ) (s t : NodeState) (leave_all : Bool) (x : State K C) : Type 0 where
    pub loud : is_silent x ≡ false
    pub leave_all_is : leave_all ≡ is_active x.leave_all
    pub part : v.part at t ≡ Some (sent_state laws.base laws.octets v.cmp now x)
    pub wire : Wire
    pub own : is_same_app v.app wire.app ≡ true
    pub says : Messages K C
    pub read : v.said wire ≡ Some says
    pub same : SaysSame v.cmp (sent_messages laws.base laws.octets v.cmp now x) says
    pub ins : box_at at t.inboxes ≡ box_at at s.inboxes
    pub outs : box_at at t.outboxes ≡ box_at at s.outboxes ++ (wire ∷ [])

  pub spoken : (others : (wire : Wire) → is_same_app v.app wire.app ≡ false → v.said wire ≡ None) (now : Cs) (at : ℕ) (s t : NodeState) (leave_all : Bool)
      → ((x : State K C) → v.part at s ≡ Some x → HasSpoken now at s t leave_all x) → KeepsLink v at s t (both_sent leave_all)
  spoken others now at s t leave_all has x y z far_in far_out marks old new met =
      let h = has x old in
      let out : List Wire = box_at at s.outboxes in
      let coming : List Wire = box_at at s.inboxes ++ far_out in
      let became : sent_state laws.base laws.octets v.cmp now x ≡ y = cc (h.part, new) in
      let spoke = speaks now x z (filter_map v.said (far_in ++ out)) (filter_map v.said coming) (flags_of marks.0) (flags_of marks.1) h.says h.loud h.same met.duties in
      let said : AreMarkedDutiesMet v.cmp (link_of (sent_state laws.base laws.octets v.cmp now x) z (filter_map v.said (far_in ++ (out ++ (h.wire ∷ [])))) (filter_map v.said coming)
      (record { clear = false; assured = marks.0.assured })
      (record { clear = marks.1.clear || (is_active x.leave_all && is_nothing (filter_map v.said coming)); assured = marks.1.assured }))
      = subst (λ (ms : List (Messages K C)). AreMarkedDutiesMet v.cmp (link_of (sent_state laws.base laws.octets v.cmp now x) z ms (filter_map v.said coming)
      (record { clear = false; assured = marks.0.assured })
      (record { clear = marks.1.clear || (is_active x.leave_all && is_nothing (filter_map v.said coming)); assured = marks.1.assured })))
      (sym (more_said far_in out h.wire h.says h.read)) spoke in
      let none : marks.1.flying ≡ 0 → filter_map v.said coming ≡ [] = λ e. none_said v.app v.said others coming (sym met.far_flying ∙ e) in
      let fewer : (leave_all && marks.1.flying == 0) ≡ true → (is_active x.leave_all && is_nothing (filter_map v.said coming)) ≡ true
      = λ e.
      both_true (is_active x.leave_all) (is_nothing (filter_map v.said coming))
      (sym h.leave_all_is ∙ and_first leave_all (marks.1.flying == 0) e)
      (nothing_there (filter_map v.said coming) (none (is_none marks.1.flying (and_second leave_all (marks.1.flying == 0) e)))) in
      met_same v (both_sent leave_all marks) (sent_state laws.base laws.octets v.cmp now x) y z z far_in far_in
      (out ++ (h.wire ∷ [])) (box_at at t.outboxes) (box_at at s.inboxes) (box_at at t.inboxes) far_out far_out
      became refl refl (sym h.outs) (sym h.ins) refl
      (record {
        duties = laws.fewer _ (flags_of (after_saying marks.0)) (flags_of (after_hearing_of leave_all marks.1))
            (record { clear = λ e. e; assured = λ e. e })
            (record {
              clear = or_either marks.1.clear (leave_all && marks.1.flying == 0) (is_active x.leave_all && is_nothing (filter_map v.said coming)) fewer;
              assured = λ e. e;
            }) said;
        near_flying = one_more marks.0.flying (count_of v.app (far_in ++ out)) (count_of v.app (far_in ++ (out ++ (h.wire ∷ [])))) met.near_flying (more_counted far_in out h.wire true h.own);
        far_flying = met.far_flying;
        near_clear = λ is. let never : false ≡ true = is in cc;
        far_clear = clear_then marks.1.clear leave_all marks.1.flying met.far_clear;
      })
    where
      both_true : (a b : Bool) → a ≡ true → b ≡ true → (a && b) ≡ true
      both_true true b e f = f
      both_true false b e f = cc

      clear_then : (c l : Bool) (n : ℕ) → (c ≡ true → n ≡ 0) → (c || (l && n == 0)) ≡ true → n ≡ 0
      clear_then true l n f h = f refl
      clear_then false l n f h = is_none n (and_second l (n == 0) h)

  -- a PDU that says nothing in the application
  pub unheard : (at : ℕ) (s t : NodeState) → v.part at t ≡ v.part at s → box_at at t.inboxes ≡ box_at at s.inboxes
      → (wire : Wire) → is_same_app v.app wire.app ≡ false → v.said wire ≡ None → box_at at t.outboxes ≡ box_at at s.outboxes ++ (wire ∷ [])
      → KeepsLink v at s t both_same
  unheard at s t same ins wire other silent outs x y z far_in far_out marks old new met =
      let is : x ≡ y = cc (same, old, new) in
      let out : List Wire = box_at at s.outboxes in
      let coming : List Wire = box_at at s.inboxes ++ far_out in
      let counted = more_counted far_in out wire false other in
      met_same v marks x y z z far_in far_in (out ++ (wire ∷ [])) (box_at at t.outboxes) (box_at at s.inboxes) (box_at at t.inboxes) far_out far_out
      is refl refl (sym outs) (sym ins) refl
      (record {
        duties = subst (λ (ms : List (Messages K C)). AreMarkedDutiesMet v.cmp (link_of x z ms (filter_map v.said coming) (flags_of marks.0) (flags_of marks.1)))
            (sym (nothing_said far_in out wire silent)) met.duties;
        near_flying = same_count marks.0.flying (count_of v.app (far_in ++ out)) _ met.near_flying counted;
        far_flying = met.far_flying;
        near_clear = met.near_clear;
        far_clear = met.far_clear;
      })
    where
      same_count : (a b c : ℕ) → a ≡ b → c ≡ b + (0 + 0) → a ≡ c
      same_count a b c e f = omega (arith, e, f)

  -- ---- a node that stays as it is

  pub still : (at : ℕ) (s : NodeState) → KeepsLink v at s s both_same
  still at s x y z far_in far_out marks old new met =
      let same : x ≡ y = cc (old, new) in
      subst (λ (p : State K C). Boxed v p z far_in (box_at at s.outboxes) (box_at at s.inboxes) far_out marks) same met
