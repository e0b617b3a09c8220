-- The timeline of the run so far, and one tick more.
use Rattle.std.proofs.Common.{◌≡◌, ℕ, ◌+◌, false, List, [], ◌∷◌, ◌++◌, length, map, refl, sym, ap, subst, ◌∙◌, arith}
use Rattle.std.proofs.lemmas.List.{length_push}
use Rattle.srp_base.specs.declared.{numbers.EgressPort.EgressPort, ports.PortChange.PortChange}
use Rattle.tree_topology.specs.Topology.{Topology, HasPort}
use Rattle.topology_file.specs.Plan.{Plan}
use Rattle.world_core.specs.declared.{events.WorldEvent.WorldEvent, journal.NodeSteps.NodeSteps, journal.Tick.Tick}
use Rattle.world_core.specs.{World.WorldState, World.world_after, Start.world_of, Ticks.script_at, Ticks.step_events, Ticks.after_script, Ticks.after_steps, Ticks.closing_events, Ticks.tick_events, Ticks.IsLegalTick, During.IsDuring, Carrying.NothingWaits, Timeline.force_at, Timeline.with_notes, Timeline.AreChanges, Timeline.Says, Timeline.SaysFrom, Timeline.world_after_ticks, Timeline.IsTimelineOf, History.has_acted, History.acts_noted}
use Rattle.world_core.proofs.Timelines.{after_both}
use Rattle.srp_schedule.proofs.TickLemmas.{IsRunTo, no_tick}

-- what this rests on, as the public laws say it
pub record TimelineLaws : Type 0 where
  pub goes_on : (plan : Plan) (ticks : List Tick) (tick : Tick) (changes : List PortChange) (w : WorldState) → IsTimelineOf plan ticks changes
      → w ≡ after_steps plan (length ticks) tick (world_after_ticks plan ticks) → w.tree ≡ plan.tree → IsTimelineOf plan (ticks ++ tick ∷ []) (with_notes (length ticks) w changes)
  pub next : (plan : Plan) (ticks : List Tick) (tick : Tick)
      → world_after_ticks plan (ticks ++ tick ∷ []) ≡ world_after (closing_events plan.tree) (after_steps plan (length ticks) tick (world_after_ticks plan ticks))
  pub from : (tick : ℕ) (w : WorldState) (changes : List PortChange) → AreChanges w.tree tick changes → SaysFrom tick (with_notes tick w changes) w
  pub closing : (tree : Topology) (w : WorldState) (p : EgressPort) → force_at p (world_after (closing_events tree) w) ≡ force_at p w
  pub trees : (es : List WorldEvent) (w : WorldState) → (world_after es w).tree ≡ w.tree
  pub quiet : (plan : Plan) (t : ℕ) (w : WorldState) (tick : Tick) (p : EgressPort) → IsLegalTick plan t w tick → HasPort plan.tree p → has_acted p.node tick.steps ≡ false
      → force_at p (after_steps plan t tick w) ≡ force_at p w
  pub all : (tick : ℕ) (steps : List NodeSteps) (w : WorldState) (changes : List PortChange)
      → ((p : EgressPort) → HasPort w.tree p → has_acted p.node steps ≡ false → Says tick changes p (force_at p w)) → acts_noted tick steps w changes ≡ with_notes tick w changes

-- the ticks before tick t have their timeline, which says what is in force now
pub record IsNotedTo (plan : Plan) (t : ℕ) (made : List Tick) (w : WorldState) (i : ℕ) (changes : List PortChange) : Type 0 where
  pub run : IsRunTo plan t made w i
  pub many : length made ≡ t
  pub reached : w ≡ world_after_ticks plan made
  pub timeline : IsTimelineOf plan made changes
  pub says : SaysFrom t changes w
  pub waits : NothingWaits w

pub changes_are : (plan : Plan) (t : ℕ) (made : List Tick) (w : WorldState) (i : ℕ) (changes : List PortChange) → IsNotedTo plan t made w i changes → AreChanges plan.tree t changes
changes_are plan t made w i changes h = subst (λ (k : ℕ). AreChanges plan.tree k changes) h.many h.timeline.are

pub none_noted : (plan : Plan) → IsDuring plan.tree 0 (world_of plan) → NothingWaits (world_of plan) → IsTimelineOf plan [] [] → SaysFrom 0 [] (world_of plan)
    → IsNotedTo plan 0 [] (world_of plan) 0 []
none_noted plan during waits timeline says = record { run = no_tick plan during; many = refl; reached = refl; timeline = timeline; says = says; waits = waits }

module _ (laws : TimelineLaws) (plan : Plan) (t : ℕ) (ticks : List Tick) (w v : WorldState) (cursor next : ℕ) (tick : Tick) (changes after : List PortChange)
    (before : IsNotedTo plan t ticks w cursor changes)
    (legal : IsLegalTick plan t w tick) (made : v ≡ world_after (tick_events plan t tick) w) (is : after ≡ acts_noted t tick.steps (after_steps plan t tick w) changes) where
  abbrev u : WorldState
  u = after_steps plan t tick w

  u_reached : u ≡ after_steps plan (length ticks) tick (world_after_ticks plan ticks)
  u_reached =
      ap (λ (x : WorldState). after_steps plan t tick x) before.reached ∙ ap (λ (k : ℕ). after_steps plan k tick (world_after_ticks plan ticks)) (sym before.many)

  u_tree : u.tree ≡ plan.tree
  u_tree = laws.trees (step_events tick.steps) (after_script plan t w) ∙ laws.trees (map (λ (e : ℕ × WorldEvent). e.1) (script_at plan t)) w ∙ before.run.during.tree_is

  v_closes : v ≡ world_after (closing_events plan.tree) u
  v_closes =
      let script : List WorldEvent = map (λ (e : ℕ × WorldEvent). e.1) (script_at plan t) in
      let steps : List WorldEvent = step_events tick.steps in
      made ∙ after_both (script ++ steps) (closing_events plan.tree) w ∙ ap (λ (x : WorldState). world_after (closing_events plan.tree) x) (after_both script steps w)

  says_later : (cs : List PortChange) → SaysFrom t cs u → SaysFrom (t + 1) cs v
  says_later cs says p has k le =
      let tree : v.tree ≡ u.tree = ap (λ (x : WorldState). x.tree) v_closes ∙ laws.trees (closing_events plan.tree) u in
      says p (subst (λ (r : Topology). HasPort r p) tree has) k (omega (arith, le)) ∙ sym (ap (force_at p) v_closes ∙ laws.closing plan.tree u p)

  are : AreChanges u.tree t changes
  are = subst (λ (r : Topology). AreChanges r t changes) (sym u_tree) (changes_are plan t ticks w cursor changes before)

  -- the nodes that have acted are all that have anything to note
  is_noted : after ≡ with_notes t u changes
  is_noted =
      is ∙ laws.all t tick.steps u changes
      (λ p has none.
      let here = subst (λ (r : Topology). HasPort r p) u_tree has in
      before.says p (subst (λ (r : Topology). HasPort r p) (sym before.run.during.tree_is) here) t (omega arith) ∙ sym (laws.quiet plan t w tick p legal here none))

  pub one_noted : IsRunTo plan (t + 1) (ticks ++ tick ∷ []) v next → NothingWaits v → IsNotedTo plan (t + 1) (ticks ++ tick ∷ []) v next after
  one_noted run waits =
      record {
        run = run;
        many = length_push ticks tick ∙ ap (λ (k : ℕ). k + 1) before.many;
        reached = v_closes ∙ ap (λ (x : WorldState). world_after (closing_events plan.tree) x) u_reached ∙ sym (laws.next plan ticks tick);
        timeline = subst (λ (cs : List PortChange). IsTimelineOf plan (ticks ++ tick ∷ []) cs) (ap (λ (k : ℕ). with_notes k u changes) before.many ∙ sym is_noted)
            (laws.goes_on plan ticks tick changes u before.timeline u_reached u_tree);
        says = subst (λ (cs : List PortChange). SaysFrom (t + 1) cs v) (sym is_noted) (says_later (with_notes t u changes) (laws.from t u changes are));
        waits = waits;
      }
