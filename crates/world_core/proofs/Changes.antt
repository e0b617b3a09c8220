-- Each change of a timeline says what was in force at a moment of the run, so that its slopes are within the limits.
use Rattle.std.proofs.Common.{◌≡◌, ℕ, zero, suc, ◌+◌, ◌<◌, ◌≤◌, inl, inr, true, List, [], ◌∷◌, ◌++◌, length, map, take, drop, Option, Some, None, refl, sym, ap, subst, ◌∙◌, arith, append_assoc}
use Rattle.std.specs.Prelude.{All, nat_le, slice_get}
use Rattle.std.specs.{Option.option_map_or, List.AllByRecursion}
use Rattle.std.proofs.lemmas.{Bool.cond-true, Bool.cond-false, Bool.cases_Bool, Bool.le-leb, Bool.lt-leb, Bool.false≢true, Option.none-some, Option.same_Some, List.take_at, List.Elements.All-from_recursion, List.Elements.recursion_from_All}
use Rattle.srp_base.proofs.Lists.{within, Each-map as each_weaker}
use Rattle.srp_base.specs.declared.{numbers.EgressPort.EgressPort, bandwidth.Class.TheVariants.A, bandwidth.Class.TheVariants.B, ports.PortChange.PortChange}
use Rattle.tree_topology.specs.Topology.{HasPort}
use Rattle.frame_flow.specs.{Force.is_port, Force.changes_at, Force.last_upto, Force.in_force, Given.IsEarlier}
use Rattle.topology_file.specs.Plan.{Plan}
use Rattle.attribute_propagation.specs.Ports.{place_of}
use Rattle.node_core.specs.State.{NodeState, slope_at}
use Rattle.frame_flow.proofs.LevelLemmas.{same-port, port-itself}
use Rattle.world_core.specs.{WorldEvent, Tick, WorldState, node_at, world_after, world_of, script_at, step_events, after_steps, closing_events, tick_events, events_from, IsMoment, caps_at, booked_at_port, IsWithinLimits, no_reservation, said_by, node_force, force_at, world_after_ticks, IsAfterSteps, IsTimelineOf}
use Rattle.world_core.specs.Reservation.{Reservation}
use Rattle.world_core.proofs.{PortOrder.AreInOrder, PortOrder.before_other, PortOrder.earlier_is, PortOrder.order_from_pairs, PortOrder.at_append, PortOrder.upto_append, Timelines.after_both}

-- ---- a change is in force in its own tick

-- none of the later changes at its port has come
later_none : (c : PortChange) (newest : Option PortChange) (ds : List PortChange) → AllByRecursion (IsEarlier c) ds → last_upto c.tick newest (changes_at ds c.at) ≡ newest
later_none c newest [] h = refl
later_none c newest (d ∷ ds) h =
    elim (cases_Bool (is_port d.at c.at)) [
      | inl is ↦ (
          let here = same-port d.at c.at is in
          elim (earlier_is c d h.0) [
            | inl b ↦ absurd (false≢true (sym (before_other c.at d.at b) ∙ subst (λ (q : EgressPort). is_port c.at q ≡ true) (sym here) (port-itself c.at)))
            | inr b ↦ (
                let lt = b.1 in
                ap (last_upto c.tick newest) (cond-true (is_port d.at c.at) (d ∷ changes_at ds c.at) (changes_at ds c.at) is)
                ∙ ap (λ (o : Option PortChange). last_upto c.tick o (changes_at ds c.at)) (cond-false (nat_le d.tick c.tick) (Some d) newest (lt-leb d.tick c.tick lt))
                ∙ later_none c newest ds h.1)
          ])
      | inr nay ↦ ap (last_upto c.tick newest) (cond-false (is_port d.at c.at) (d ∷ changes_at ds c.at) (changes_at ds c.at) nay) ∙ later_none c newest ds h.1
    ]

own_tick : (before : List PortChange) (c : PortChange) (after : List PortChange) → AllByRecursion (IsEarlier c) after → in_force c.tick (changes_at (before ++ c ∷ after) c.at) ≡ Some c
own_tick before c after h =
    let p = c.at in
    let rest = changes_at after p in
    let newest = in_force c.tick (changes_at before p) in
    ap (in_force c.tick) (at_append p before (c ∷ after) ∙ ap (λ (ds : List PortChange). changes_at before p ++ ds) (cond-true (is_port c.at p) (c ∷ rest) rest (port-itself p)))
    ∙ upto_append c.tick None (changes_at before p) (c ∷ rest)
    ∙ ap (λ (o : Option PortChange). last_upto c.tick o rest) (cond-true (nat_le c.tick c.tick) (Some c) newest (le-leb c.tick c.tick (omega arith)))
    ∙ later_none c (Some c) after h

each_own : (before after : List PortChange) → AreInOrder after → AllByRecursion (λ c. in_force c.tick (changes_at (before ++ after) c.at) ≡ Some c) after
each_own before [] up = tt
each_own before (c ∷ after) up = (
  own_tick before c after up.0,
  subst (λ (all : List PortChange). AllByRecursion (λ d. in_force d.tick (changes_at all d.at) ≡ Some d) after) (append_assoc before (c ∷ []) after) (each_own (before ++ c ∷ []) after up.1),
)

-- ---- what is in force after a tick's steps is so at a moment

split_at : {X : Type 0} (xs : List X) (i : ℕ) (x : X) → slice_get xs i ≡ Some x → xs ≡ take i xs ++ x ∷ drop (suc i) xs
split_at [] i x is = absurd (none-some x is)
split_at {X} (y ∷ xs) zero x is = ap (λ (z : X). z ∷ xs) (same_Some y x is)
split_at {X} (y ∷ xs) (suc i) x is = ap (λ (ys : List X). y ∷ ys) (split_at xs i x is)

length_taken : {X : Type 0} (xs : List X) (i : ℕ) (x : X) → slice_get xs i ≡ Some x → length (take i xs) ≡ i
length_taken [] i x is = absurd (none-some x is)
length_taken (y ∷ xs) zero x is = refl
length_taken (y ∷ xs) (suc i) x is = ap suc (length_taken xs i x is)

events_append : (plan : Plan) (t : ℕ) (before after : List Tick) → events_from plan t (before ++ after) ≡ events_from plan t before ++ events_from plan (t + length before) after
events_append plan t [] after = ap (λ (k : ℕ). events_from plan k after) (let e : t ≡ t + 0 = omega arith in e)
events_append plan t (x ∷ before) after =
    ap (λ (es : List WorldEvent). tick_events plan t x ++ es) (events_append plan (suc t) before after)
    ∙ sym (append_assoc (tick_events plan t x) (events_from plan (suc t) before) (events_from plan (suc t + length before) after))
    ∙ ap (λ (k : ℕ). (tick_events plan t x ++ events_from plan (suc t) before) ++ events_from plan k after) (let e : suc t + length before ≡ t + length (x ∷ before) = omega arith in e)

pub steps_are_moment : (plan : Plan) (ticks : List Tick) (t : ℕ) (w : WorldState) → IsAfterSteps plan ticks t w → IsMoment plan ticks w
steps_are_moment plan ticks t w h =
    let start : WorldState = world_of plan in
    let early : List WorldEvent = events_from plan 0 (take t ticks) in
    let script : List WorldEvent = map (λ e. e.1) (script_at plan t) in
    let steps : List WorldEvent = step_events h.tick.steps in
    let closing : List WorldEvent = closing_events plan.tree in
    let later : List WorldEvent = events_from plan (suc t) (drop (suc t) ticks) in
    let done : List WorldEvent = early ++ (script ++ steps) in
    let many : 0 + length (take t ticks) ≡ t = omega (arith, length_taken ticks t h.tick h.at) in
    let all : events_from plan 0 ticks ≡ done ++ (closing ++ later) =
    ap (events_from plan 0) (split_at ticks t h.tick h.at) ∙ events_append plan 0 (take t ticks) (h.tick ∷ drop (suc t) ticks)
    ∙ ap (λ (k : ℕ). early ++ events_from plan k (h.tick ∷ drop (suc t) ticks)) many
    ∙ ap (λ (es : List WorldEvent). early ++ es) (append_assoc (script ++ steps) closing later)
    ∙ sym (append_assoc early (script ++ steps) (closing ++ later)) in
    record {
      count = length done;
      reached =
          h.reached ∙ sym (after_both early (script ++ steps) start ∙ after_both script steps (world_after early start))
          ∙ sym (ap (λ (es : List WorldEvent). world_after es start) (ap (take (length done)) all ∙ take_at done (closing ++ later) (length done) refl));
    }

-- ---- the slopes of a change

slope_a_is : (p : EgressPort) (w : WorldState) (o : Option NodeState) → (option_map_or (node_force (place_of p.port)) o no_reservation).slope_a ≡ option_map_or (slope_at A (place_of p.port)) o 0
slope_a_is p w None = refl
slope_a_is p w (Some s) = refl

slope_b_is : (p : EgressPort) (w : WorldState) (o : Option NodeState) → (option_map_or (node_force (place_of p.port)) o no_reservation).slope_b ≡ option_map_or (slope_at B (place_of p.port)) o 0
slope_b_is p w None = refl
slope_b_is p w (Some s) = refl

module _ (plan : Plan) (ticks : List Tick) (changes : List PortChange) (timeline : IsTimelineOf plan ticks changes) where
  -- a change says what was in force after its tick's steps
  said_then : (c : PortChange) → HasPort plan.tree c.at → c.tick < length ticks → in_force c.tick (changes_at changes c.at) ≡ Some c
      → (w : WorldState) × IsAfterSteps plan ticks c.tick w × (said_by (Some c) ≡ force_at c.at w)
  said_then c has lt is =
      let tick = within ticks c.tick lt in
      let w = after_steps plan c.tick tick.0 (world_after_ticks plan (take c.tick ticks)) in
      let after : IsAfterSteps plan ticks c.tick w = record { tick = tick.0; at = tick.1; reached = refl } in
      (w, after, ap said_by (sym is) ∙ timeline.gives c.tick w c.at after has)

  module _ (limits : (w : WorldState) → IsMoment plan ticks w → IsWithinLimits plan w) where
    one_within : (c : PortChange) → HasPort plan.tree c.at → c.tick < length ticks → in_force c.tick (changes_at changes c.at) ≡ Some c
        → (c.slope_a ≤ (caps_at plan c.at).class_a) × (c.slope_a + c.slope_b ≤ (caps_at plan c.at).both)
    one_within c has lt is =
        let said = said_then c has lt is in
        let w = said.0 in
        let caps = limits w (steps_are_moment plan ticks c.tick w said.1) c.at has in
        let a : c.slope_a ≡ booked_at_port A c.at w = ap (λ (f : Reservation). f.slope_a) said.2 ∙ slope_a_is c.at w (node_at c.at.node w) in
        let b : c.slope_b ≡ booked_at_port B c.at w = ap (λ (f : Reservation). f.slope_b) said.2 ∙ slope_b_is c.at w (node_at c.at.node w) in
        (omega (arith, a, caps.class_a), omega (arith, a, b, caps.both))

    both_each : (cs : List PortChange) → AllByRecursion (λ c. HasPort plan.tree c.at) cs → AllByRecursion (λ c. c.tick < length ticks) cs
        → AllByRecursion (λ c. in_force c.tick (changes_at changes c.at) ≡ Some c) cs
        → AllByRecursion (λ c. (c.slope_a ≤ (caps_at plan c.at).class_a) × (c.slope_a + c.slope_b ≤ (caps_at plan c.at).both)) cs
    both_each [] has lt is = tt
    both_each (c ∷ cs) has lt is = (one_within c has.0 lt.0 is.0, both_each cs has.1 lt.1 is.1)

    pub each_within : AllByRecursion (λ c. (c.slope_a ≤ (caps_at plan c.at).class_a) × (c.slope_a + c.slope_b ≤ (caps_at plan c.at).both)) changes
    each_within =
        both_each changes (recursion_from_All (λ (c : PortChange). HasPort plan.tree c.at) changes timeline.are.ports)
        (recursion_from_All (λ (c : PortChange). c.tick < length ticks) changes timeline.are.before)
        (each_own [] changes (order_from_pairs changes timeline.are.ascend))

    pub within_caps_a : All (λ c. c.slope_a ≤ (caps_at plan c.at).class_a) changes
    within_caps_a =
        All-from_recursion (λ (c : PortChange). c.slope_a ≤ (caps_at plan c.at).class_a) changes
        (each_weaker (λ (c : PortChange). (c.slope_a ≤ (caps_at plan c.at).class_a) × (c.slope_a + c.slope_b ≤ (caps_at plan c.at).both))
        (λ (c : PortChange). c.slope_a ≤ (caps_at plan c.at).class_a) (λ c h. h.0) changes each_within)

    pub within_caps : All (λ c. c.slope_a + c.slope_b ≤ (caps_at plan c.at).both) changes
    within_caps =
        All-from_recursion (λ (c : PortChange). c.slope_a + c.slope_b ≤ (caps_at plan c.at).both) changes
        (each_weaker (λ (c : PortChange). (c.slope_a ≤ (caps_at plan c.at).class_a) × (c.slope_a + c.slope_b ≤ (caps_at plan c.at).both))
        (λ (c : PortChange). c.slope_a + c.slope_b ≤ (caps_at plan c.at).both) (λ c h. h.1) changes each_within)
