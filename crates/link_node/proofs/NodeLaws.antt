-- A node has the laws of a node in a network.
use Rattle.std.proofs.Common.{◌≡◌, ◌<◌, ◌^◌, ℕ, zero, suc, List, [], ◌∷◌, ◌++◌, take, drop, refl, sym, ap, subst, ◌∙◌, append_assoc}
use Rattle.std.specs.Prelude.{slice_get, Option, Some, None, option_map}
use Rattle.srp_base.proofs.Lists.{each_append, set_set}
use Rattle.srp_base.specs.declared.numbers.Cs.{Cs}
use Rattle.tree_topology.specs.declared.graph.NodeKind.{NodeKind}
use Rattle.tree_topology.specs.declared.graph.NodeKind.TheVariants.{Station}
use Rattle.mrp_participant.specs.Link.{with_repeat}
use Rattle.link_app.specs.{Wires.NamedOctets, Wires.of_app, Words.AppWords, Laws.AppLaws}
use Rattle.link_net.specs.Meaning.{with_one, without}
use Rattle.link_net.specs.NodeLaws.{HasPlaceLaws, HasBoxLaws, HasDutyLaws, HasKeepingLaws, HasStartLaws, HasNodeLaws, IsSameAt, next_of}
use Rattle.link_node.specs.{Boxes.box_at, State.NodeState, State.IsFitPdu, State.IsKeptNode, State.part_at, State.spoilt_at, State.with_inbox, State.with_outbox, Step.after_asking, Step.clocked_node, Step.port_step, Meaning.IsKeptAs, Meaning.node_meaning}
use Rattle.link_node.proofs.BoxLemmas.{box_new, box_none, box_other, each_repeated, each_with_one, each_without, set_same}
use Rattle.link_node.proofs.NodeSteps.{IsSame, StaysIdle, emptied_stays, fit_at, fit_out_at, in_box, inbox_set, new_kept, other_app, outbox_set, spoilt_apart, spoilt_stays, step_apart, step_keeps, step_stays}

-- a list with an element of an index is what is before it, the element, and what is behind it
record IsSplit {X : Type 0} (xs : List X) (i : ℕ) (x : X) : Type 0 where
  front : List X
  back : List X
  whole : xs ≡ front ++ (x ∷ back)
  others : without i xs ≡ front ++ back

split_at : {X : Type 0} (xs : List X) (i : ℕ) (x : X) → slice_get xs i ≡ Some x → IsSplit xs i x
split_at [] i x is = cc
split_at (y ∷ xs) zero x is = record { front = []; back = xs; whole = cc; others = refl }
split_at (y ∷ xs) (suc i) x is =
    let s = split_at xs i x is in
    record { front = y ∷ s.front; back = s.back; whole = ap (λ ys. y ∷ ys) s.whole; others = ap (λ ys. y ∷ ys) s.others }

-- a list is what is before an index, and what stands there and behind
two_parts : {X : Type 0} (i : ℕ) (xs : List X) → xs ≡ take i xs ++ drop i xs
two_parts zero xs = refl
two_parts (suc i) [] = refl
two_parts (suc i) (x ∷ xs) = ap (λ ys. x ∷ ys) (two_parts i xs)

module _ {Name Key Request : Type 0} (w : AppWords Name Key Request) (laws : AppLaws w) where
  abbrev S : Type 0
  S = NodeState w.State Name

  abbrev Pdus : Type 0
  Pdus = List (NamedOctets Name)

  same_at : (k : ℕ) (s t : S) → IsSame w k s t → IsSameAt (node_meaning w) k s t
  same_at k s t h = record { part = h.part; inbox = h.inbox; outbox = h.outbox }

  kept_as : (kind : NodeKind) (now : Cs) (s t : S) → IsKeptAs w kind now s → StaysIdle w s t → IsKeptAs w kind now t
  kept_as kind now s t h is =
      record {
        node = is.stays.kept h.node;
        moment = is.stays.moment now h.moment;
        idle = λ bridge. is.idle (h.idle bridge);
      }

  places : HasPlaceLaws (node_meaning w)
  places =
      record {
        step = λ now step at. record {
          ports = λ s. (step_stays w laws now step at s).stays.ports;
          places = λ k s ne. same_at k s (port_step w now step at s).0 (step_apart w laws now step at k s ne);
        };
        spoils = λ n at. record {
          ports = λ s. (spoilt_stays w laws n at s).stays.ports;
          places = λ k s ne. same_at k s (spoilt_at w n at s) (spoilt_apart w laws n at k s ne);
        };
        inbox = λ at pdus. record {
          ports = λ s. refl;
          places = λ k s ne. record { part = λ n. refl; inbox = box_other s.inboxes at k pdus ne; outbox = refl };
        };
        outbox = λ at pdus. record {
          ports = λ s. refl;
          places = λ k s ne. record { part = λ n. refl; inbox = refl; outbox = box_other s.outboxes at k pdus ne };
        };
        request = λ request. record {
          ports = λ s. (laws.request request s.app).ports;
          places = λ k s. record { part = λ n. laws.request_parts request s.app n k; inbox = refl; outbox = refl };
        };
        tick = λ now. record {
          ports = λ s. laws.clock_ports now s.app;
          places = λ k s. record { part = λ n. laws.clock_parts now s.app n k; inbox = refl; outbox = refl };
        };
      }

  boxes : HasBoxLaws (node_meaning w)
  boxes =
      record {
        in_part = λ n at pdus s. refl;
        in_out = λ at pdus s. refl;
        in_same = λ at s. ap (λ (bs : List Pdus). record s { inboxes = bs }) (set_same s.inboxes at);
        out_part = λ n at pdus s. refl;
        out_in = λ at pdus s. refl;
        out_none = λ at s. box_none s.outboxes at;
        out_same = λ at s. ap (λ (bs : List Pdus). record s { outboxes = bs }) (set_same s.outboxes at);
        out_twice = λ at pdus more s. ap (λ (bs : List Pdus). record s { outboxes = bs }) (set_set s.outboxes at pdus more);
        spoilt_in = λ n at s. refl;
        spoilt_out = λ n at s. refl;
      }

  -- ---- PDUs on the way become others where both ends are spoilt

  module _ (n m : Name) (at k : ℕ) (s t : S) (x y far other : w.Part n)
      (old : part_at w n at s ≡ Some x) (new : part_at w n at (spoilt_at w m at s) ≡ Some y)
      (far_old : part_at w n k t ≡ Some far) (far_new : part_at w n k (spoilt_at w m k t) ≡ Some other) where
    -- those that come become others
    becomes : (sent came came' : Pdus) (front back : Pdus) (gone instead : List (List ℕ))
        → came ≡ front ++ (of_app m gone ++ back) → came' ≡ front ++ (of_app m instead ++ back)
        → w.AreDutiesMet n x far sent came → w.AreDutiesMet n y other sent came'
    becomes sent came came' front back gone instead was is met =
        laws.turns n other y came' sent
        (subst (λ (ps : Pdus). w.AreDutiesMet n other y ps sent) (sym is)
        (laws.spoiling_met n m k at t.app s.app far other x y front back sent gone instead far_old far_new old new
        (subst (λ (ps : Pdus). w.AreDutiesMet n far x ps sent) was (laws.turns n x far sent came met))))

    loses : (sent came far_out : Pdus) (index : ℕ) → option_map (λ (pdu : NamedOctets Name). pdu.app) (slice_get came index) ≡ Some m
        → w.AreDutiesMet n x far sent (came ++ far_out) → w.AreDutiesMet n y other sent (without index came ++ far_out)
    loses sent came far_out index named met = by (slice_get came index) refl
      where
        by : (o : Option (NamedOctets Name)) → slice_get came index ≡ o → w.AreDutiesMet n y other sent (without index came ++ far_out)
        by None is = let none : None ≡ Some m = ap (option_map (λ (pdu : NamedOctets Name). pdu.app)) (sym is) ∙ named in cc
        by (Some pdu) is =
            let split = split_at came index pdu is in
            let one : pdu.app ≡ m = let same : Some pdu.app ≡ Some m = ap (option_map (λ (pdu : NamedOctets Name). pdu.app)) (sym is) ∙ named in cc in
            becomes sent (came ++ far_out) (without index came ++ far_out) split.front (split.back ++ far_out) (pdu.octets ∷ []) []
            (ap (λ (ps : Pdus). ps ++ far_out) split.whole
            ∙ (append_assoc split.front (pdu ∷ split.back) far_out
            ∙ ap (λ (a : Name). split.front ++ (record { app = a; octets = pdu.octets } ∷ (split.back ++ far_out))) one))
            (ap (λ (ps : Pdus). ps ++ far_out) split.others ∙ append_assoc split.front split.back far_out)
            met

    forges : (sent came far_out : Pdus) (index : ℕ) (pdu : NamedOctets Name) → pdu.app ≡ m
        → w.AreDutiesMet n x far sent (came ++ far_out) → w.AreDutiesMet n y other sent (with_one index pdu came ++ far_out)
    forges sent came far_out index pdu one met =
        becomes sent (came ++ far_out) (with_one index pdu came ++ far_out) (take index came) (drop index came ++ far_out) [] (pdu.octets ∷ [])
        (ap (λ (ps : Pdus). ps ++ far_out) (two_parts index came) ∙ append_assoc (take index came) (drop index came) far_out)
        (append_assoc (take index came) (pdu ∷ drop index came) far_out
        ∙ ap (λ (a : Name). take index came ++ (record { app = a; octets = pdu.octets } ∷ (drop index came ++ far_out))) one)
        met

  duties : HasDutyLaws (node_meaning w)
  duties =
      record {
        turns = laws.turns;
        step = λ kind now step at s n x y far far_in far_out kept old new met. step_keeps w laws now step at s kept.node n x y far far_in far_out old new met;
        repeats = λ n near far sent came far_out index met.
            laws.turns n far near (with_repeat index came ++ far_out) sent (laws.repeats n far near index came far_out sent (laws.turns n near far sent (came ++ far_out) met));
        loses = λ n lost at k s t x y far other sent came far_out index old new far_old far_new named met.
            loses n lost at k s t x y far other old new far_old far_new sent came far_out index named met;
        forges = λ n forged at k s t x y far other sent came far_out index pdu old new far_old far_new named met.
            forges n forged at k s t x y far other old new far_old far_new sent came far_out index pdu named met;
      }

  -- ---- what a node keeps

  asked_kept : (now : Cs) (request : Request) (s : S) → w.IsAskable request → IsKeptAs w Station now s → IsKeptAs w Station now (after_asking w request s).0
  asked_kept now request s can h =
      let is = laws.request request s.app in
      record {
        node = other_app w s (w.after_request request s.app) is.ports (is.kept can h.node.app) h.node;
        moment = is.moment now h.moment;
        idle = λ bridge. cc;
      }

  ticked_kept : (kind : NodeKind) (now : Cs) (s : S) → now.0 < 2 ^ 61 → IsKeptAs w kind now s → IsKeptAs w kind (next_of now) (clocked_node w (next_of now) s)
  ticked_kept kind now s below h =
      let is = laws.clock (next_of now) s.app (laws.can_clock now s.app below h.moment) in
      record {
        node = other_app w s (w.after_clock (next_of now) s.app) (laws.clock_ports (next_of now) s.app) (is.kept h.node.app) h.node;
        moment = is.moment;
        idle = λ bridge. is.idle (h.idle bridge);
      }

  keeps : HasKeepingLaws (node_meaning w)
  keeps =
      record {
        part = λ kind now n at s h below. laws.part_there n at s.app h.node.app below;
        inbox = λ kind now at pdus s h below. inbox_set w at pdus s h.node below;
        outbox = λ kind now at pdus s h below. outbox_set w at pdus s h.node below;
        can_ask = λ now request s h. tt;
        can_tick = λ kind now s below h. laws.can_clock now s.app below h.moment;
        step = λ now step at kind s h. kept_as kind now s (port_step w now step at s).0 h (step_stays w laws now step at s);
        request = asked_kept;
        spoils = λ now n at kind s h. kept_as kind now s (spoilt_at w n at s) h (spoilt_stays w laws n at s);
        loses = λ now at index kind s h.
            kept_as kind now s (with_inbox at (without index (box_at at s.inboxes)) s) h
            (in_box w at (without index (box_at at s.inboxes)) s (λ k. each_without (IsFitPdu w) index (box_at at s.inboxes) (fit_at w at s k)));
        repeats = λ now at index kind s h.
            kept_as kind now s (with_inbox at (with_repeat index (box_at at s.inboxes)) s) h
            (in_box w at (with_repeat index (box_at at s.inboxes)) s (λ k. each_repeated (IsFitPdu w) index (box_at at s.inboxes) (fit_at w at s k)));
        forges = λ now at index pdu fit short kind s h.
            kept_as kind now s (with_inbox at (with_one index pdu (box_at at s.inboxes)) s) h
            (in_box w at (with_one index pdu (box_at at s.inboxes)) s (λ k. each_with_one (IsFitPdu w) index pdu (box_at at s.inboxes) fit (fit_at w at s k)));
        empties = λ now at kind s h. kept_as kind now s (with_outbox at [] s) h (emptied_stays w at s);
        carries = λ kind now at k s h other t h'.
            kept_as other now t (with_inbox k (box_at k t.inboxes ++ box_at at s.outboxes) t) h'
            (in_box w k (box_at k t.inboxes ++ box_at at s.outboxes) t (λ b. each_append (IsFitPdu w) (box_at k t.inboxes) (box_at at s.outboxes) (fit_at w k t b) (fit_out_at w at s h.node)));
        tick = ticked_kept;
      }

  -- ---- new nodes

  starts : HasStartLaws (node_meaning w)
  starts =
      record {
        keeps = λ kind s new.
            let is = laws.begins s.app new.app in
            record {
              node = subst (IsKeptNode w) (sym new.none) (new_kept w laws s.app new.app);
              moment = is.moment;
              idle = λ bridge. is.idle;
            };
        inbox = λ kind at s new. ap (λ (t : S). box_at at t.inboxes) new.none ∙ box_new (w.ports_of s.app) at;
        outbox = λ kind at s new. ap (λ (t : S). box_at at t.outboxes) new.none ∙ box_new (w.ports_of s.app) at;
        duties = λ kind other n at k s t near far new new' old old'. laws.begins_met n at k s.app t.app near far new.app new'.app old old';
      }

  pub has_laws : HasNodeLaws (node_meaning w)
  has_laws = record { places = places; boxes = boxes; duties = duties; keeps = keeps; starts = starts }
