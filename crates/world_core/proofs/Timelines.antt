-- The timeline of ticks, and one tick more.
use Rattle.std.proofs.Common.{◌≡◌, ℕ, zero, suc, ◌+◌, ◌<◌, ◌≤◌, ◌⊎◌, inl, inr, List, [], ◌∷◌, ◌++◌, length, map, take, Some, refl, sym, ap, subst, ◌∙◌, arith, append-nil, append_assoc}
use Rattle.std.specs.Prelude.{slice_get}
use Rattle.std.proofs.lemmas.{Option.none-some, Option.same_Some, List.Elements.All-weaker}
use Rattle.srp_base.specs.declared.{numbers.EgressPort.EgressPort, ports.PortChange.PortChange}
use Rattle.tree_topology.specs.Topology.{Topology, HasPort}
use Rattle.frame_flow.specs.Force.{changes_at, in_force}
use Rattle.topology_file.specs.Plan.{Plan}
use Rattle.world_core.specs.{WorldEvent, Tick, WorldState, world_step, world_after, world_of, script_at, step_events, after_steps, closing_events, tick_events, events_from, said_by, force_at, with_notes, AreChanges, SaysFrom, world_after_ticks, IsAfterSteps, IsTimelineOf}
use Rattle.world_core.proofs.{Reservations.start_has_none, Noting.tree_noted, Noting.tree_before, Noting.tree_from}

-- ---- noted in a network

pub noted_changes : (tick : ℕ) (w : WorldState) (changes : List PortChange) → AreChanges w.tree tick changes → AreChanges w.tree (suc tick) (with_notes tick w changes)
noted_changes tick w changes are = tree_noted w.tree tick (λ p. force_at p w) changes are

pub noted_before : (tick t : ℕ) (w : WorldState) (changes : List PortChange) (p : EgressPort) → AreChanges w.tree tick changes → HasPort w.tree p → t < tick
    → in_force t (changes_at (with_notes tick w changes) p) ≡ in_force t (changes_at changes p)
noted_before tick t w changes p are has lt = tree_before w.tree tick (λ p. force_at p w) changes are p has t lt

pub noted_from : (tick : ℕ) (w : WorldState) (changes : List PortChange) → AreChanges w.tree tick changes → SaysFrom tick (with_notes tick w changes) w
noted_from tick w changes are p has t le = tree_from w.tree tick (λ p. force_at p w) changes are p has t le

pub start_says : (plan : Plan) → SaysFrom 0 [] (world_of plan)
start_says plan p has t le = sym (start_has_none plan p)

-- ---- lists with one more

get_push : {X : Type 0} (xs : List X) (x y : X) (i : ℕ) → slice_get (xs ++ x ∷ []) i ≡ Some y → ((i < length xs) × (slice_get xs i ≡ Some y)) ⊎ ((i ≡ length xs) × (x ≡ y))
get_push [] x y zero is = inr (refl, same_Some x y is)
get_push [] x y (suc i) is = absurd (none-some y is)
get_push (z ∷ xs) x y zero is = inl (omega arith, is)
get_push (z ∷ xs) x y (suc i) is =
    elim (get_push xs x y i is) [
      | inl h ↦ inl (let lt = h.0 in omega arith, h.1)
      | inr h ↦ inr (ap suc h.0, h.1)
    ]

take_push : {X : Type 0} (xs : List X) (x : X) (i : ℕ) → i ≤ length xs → take i (xs ++ x ∷ []) ≡ take i xs
take_push xs x zero le = refl
take_push [] x (suc i) le = absurd (omega (arith, le))
take_push {X} (z ∷ xs) x (suc i) le = ap (λ (ys : List X). z ∷ ys) (take_push xs x i (omega (arith, le)))

take_length : {X : Type 0} (xs : List X) → take (length xs) xs ≡ xs
take_length [] = refl
take_length {X} (x ∷ xs) = ap (λ (ys : List X). x ∷ ys) (take_length xs)

length_one_more : {X : Type 0} (xs : List X) (x : X) → length (xs ++ x ∷ []) ≡ suc (length xs)
length_one_more [] x = refl
length_one_more (y ∷ xs) x = ap suc (length_one_more xs x)

-- ---- one tick more

pub after_both : (es fs : List WorldEvent) (w : WorldState) → world_after (es ++ fs) w ≡ world_after fs (world_after es w)
after_both [] fs w = refl
after_both (e ∷ es) fs w = after_both es fs (world_step e w).0

events_push : (plan : Plan) (t : ℕ) (ticks : List Tick) (tick : Tick) → events_from plan t (ticks ++ tick ∷ []) ≡ events_from plan t ticks ++ tick_events plan (t + length ticks) tick
events_push plan t [] tick =
    append-nil (tick_events plan t tick) ∙ ap (λ (k : ℕ). tick_events plan k tick) (let e : t ≡ t + 0 = omega arith in e)
events_push plan t (x ∷ ticks) tick =
    ap (λ (es : List WorldEvent). tick_events plan t x ++ es) (events_push plan (suc t) ticks tick)
    ∙ sym (append_assoc (tick_events plan t x) (events_from plan (suc t) ticks) (tick_events plan (suc t + length ticks) tick))
    ∙ ap (λ (k : ℕ). (tick_events plan t x ++ events_from plan (suc t) ticks) ++ tick_events plan k tick) (let e : suc t + length ticks ≡ t + length (x ∷ ticks) = omega arith in e)

pub next_world : (plan : Plan) (ticks : List Tick) (tick : Tick)
    → world_after_ticks plan (ticks ++ tick ∷ []) ≡ world_after (closing_events plan.tree) (after_steps plan (length ticks) tick (world_after_ticks plan ticks))
next_world plan ticks tick =
    let t = length ticks in
    let w = world_after_ticks plan ticks in
    let script : List WorldEvent = map (λ e. e.1) (script_at plan t) in
    let steps : List WorldEvent = step_events tick.steps in
    let closing : List WorldEvent = closing_events plan.tree in
    ap (λ (es : List WorldEvent). world_after es (world_of plan)) (events_push plan 0 ticks tick)
    ∙ ap (λ (k : ℕ). world_after (events_from plan 0 ticks ++ tick_events plan k tick) (world_of plan)) (let e : 0 + t ≡ t = omega arith in e)
    ∙ after_both (events_from plan 0 ticks) (tick_events plan t tick) (world_of plan)
    ∙ after_both (script ++ steps) closing w
    ∙ ap (λ (u : WorldState). world_after closing u) (after_both script steps w)

-- the network after a tick's steps, of ticks with one more
steps_push : (plan : Plan) (ticks : List Tick) (tick : Tick) (t : ℕ) (w : WorldState) → IsAfterSteps plan (ticks ++ tick ∷ []) t w
    → ((t < length ticks) × IsAfterSteps plan ticks t w) ⊎ ((t ≡ length ticks) × (w ≡ after_steps plan (length ticks) tick (world_after_ticks plan ticks)))
steps_push plan ticks tick t w h =
    elim (get_push ticks tick h.tick t h.at) [
      | inl k ↦ (
          let lt = k.0 in
          inl (
            lt,
            record {
              tick = h.tick;
              at = k.1;
              reached = h.reached ∙ ap (λ (xs : List Tick). after_steps plan t h.tick (world_after_ticks plan xs)) (take_push ticks tick t (omega arith));
            },
          ))
      | inr k ↦ (
          let e = k.0 in
          inr (
            e,
            h.reached ∙ ap (λ (x : Tick). after_steps plan t x (world_after_ticks plan (take t (ticks ++ tick ∷ [])))) (sym k.1)
                ∙ ap (λ (xs : List Tick). after_steps plan t tick (world_after_ticks plan xs)) (take_push ticks tick t (omega arith))
                ∙ ap (λ (i : ℕ). after_steps plan i tick (world_after_ticks plan (take i ticks))) e
                ∙ ap (λ (xs : List Tick). after_steps plan (length ticks) tick (world_after_ticks plan xs)) (take_length ticks),
          ))
    ]

-- no change is in order, in every tree and before every tick
pub none_are : (tree : Topology) (tick : ℕ) (changes : List PortChange) → changes ≡ [] → AreChanges tree tick changes
none_are tree tick changes none =
    subst (AreChanges tree tick) (sym none)
    (record { ascend = λ i j d lt below. absurd (omega (arith, below)); ports = λ k d below. absurd (omega (arith, below)); before = λ k d below. absurd (omega (arith, below)) })

pub no_ticks : (plan : Plan) → IsTimelineOf plan [] []
no_ticks plan = record { are = none_are plan.tree 0 [] refl; gives = λ t w p h has. absurd (none-some h.tick h.at) }

module _ (plan : Plan) (ticks : List Tick) (tick : Tick) (changes : List PortChange) (w : WorldState) (so_far : IsTimelineOf plan ticks changes)
    (reached : w ≡ after_steps plan (length ticks) tick (world_after_ticks plan ticks)) (tree : w.tree ≡ plan.tree) where
  are_there : AreChanges w.tree (length ticks) changes
  are_there = subst (λ (r : Topology). AreChanges r (length ticks) changes) (sym tree) so_far.are

  pub tick_noted : IsTimelineOf plan (ticks ++ tick ∷ []) (with_notes (length ticks) w changes)
  tick_noted =
      let t' = length ticks in
      record {
        are = subst (λ (k : ℕ). AreChanges plan.tree k (with_notes t' w changes)) (sym (length_one_more ticks tick))
            (subst (λ (r : Topology). AreChanges r (suc t') (with_notes t' w changes)) tree (noted_changes t' w changes are_there));
        gives = λ t v p h has. elim (steps_push plan ticks tick t v h) [
          | inl k ↦ ap said_by (noted_before t' t w changes p are_there (subst (λ (r : Topology). HasPort r p) (sym tree) has) k.0) ∙ so_far.gives t v p k.1 has
          | inr k ↦ (
              let e = k.0 in
              noted_from t' w changes are_there p (subst (λ (r : Topology). HasPort r p) (sym tree) has) t (omega arith) ∙ ap (force_at p) (reached ∙ sym k.1))
        ];
      }

  pub tick_same : SaysFrom (length ticks) changes w → IsTimelineOf plan (ticks ++ tick ∷ []) changes
  tick_same says =
      let t' = length ticks in
      let are = so_far.are in
      record {
        are = subst (λ (k : ℕ). AreChanges plan.tree k changes) (sym (length_one_more ticks tick))
            (record { ascend = are.ascend; ports = are.ports; before = All-weaker (λ (c : PortChange). c.tick < t') (λ (c : PortChange). c.tick < suc t') (λ c lt. omega arith) changes are.before });
        gives = λ t v p h has. elim (steps_push plan ticks tick t v h) [
          | inl k ↦ so_far.gives t v p k.1 has
          | inr k ↦ (
              let e = k.0 in
              says p (subst (λ (r : Topology). HasPort r p) (sym tree) has) t (omega arith) ∙ ap (force_at p) (reached ∙ sym k.1))
        ];
      }
