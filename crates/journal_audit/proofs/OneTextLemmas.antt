-- Legal journals of one scenario with one text are one.
use Rattle.std.proofs.Common.{◌≡◌, ℕ, zero, suc, ◌+◌, ◌≤◌, List, [], ◌∷◌, ◌++◌, length, map, refl, sym, ap, subst, ◌∙◌, append_assoc, arith}
use Rattle.std.specs.Prelude.{slice_set}
use Rattle.srp_base.proofs.Lists.{length_set}
use Rattle.tree_topology.specs.{Topology.HasNode, Ports.neighbours}
use Rattle.attribute_propagation.specs.Ports.{place_of}
use Rattle.topology_file.specs.Plan.{Plan}
use Rattle.node_core.specs.declared.{types.NodeStep.NodeStep, types.PortStep.PortStep}
use Rattle.world_core.specs.declared.{events.WorldEvent.TheVariants.Port, events.WorldReply.WorldReply, events.WorldEvent.WorldEvent, journal.NodeSteps.NodeSteps, journal.Tick.Tick}
use Rattle.world_core.specs.{World.WorldState, World.world_step, World.world_after, Apart.events_of, Ticks.script_at, Ticks.after_script, Ticks.tick_events, Ticks.IsLegalTick, Ticks.LeadTo, During.IsDuring, OneByOne.node_jobs, OneByOne.MakeLeft, OneByOne.steps_before, OneByOne.MakeAll}
use Rattle.journal_lines.specs.Lines.{made_text, line_at}
use Rattle.journal_audit.specs.{answer_lines, made_lines, steps_lines, ticks_lines, ReplayLaws}
use Rattle.journal_audit.proofs.{ReadingLemmas.Lines, ReadingLemmas.same_behind, FollowLemmas.node, FollowLemmas.pairs_same, FollowLemmas.none_at, FollowLemmas.before_lines, FollowLemmas.upto, FollowLemmas.has_port, FollowLemmas.next_same, FollowLemmas.ports_same}

module _ (plan : Plan) (laws : ReplayLaws plan) where
  -- the jobs of a node
  left_stays : (t x : ℕ) (left : List (List PortStep)) (w : WorldState) (made : List NodeStep) → HasNode plan.tree x → length left ≡ length (neighbours plan.tree.links x) → IsDuring plan.tree t w
      → MakeLeft (node x) left w made → IsDuring plan.tree t (world_after (events_of (node x) made) w)
  left_stays t x left w [] known long run h = run
  left_stays t x left w (st ∷ made) known long run h =
      left_stays t x (slice_set left (place_of st.port) h.0) (world_step (Port (node x) st.port st.step) w).0 made known (length_set left (place_of st.port) h.0 ∙ long)
      (laws.stay t (Port (node x) st.port st.step ∷ []) w (has_port plan laws x left w st h.0 known long h.1, tt) run) h.2

  jobs_same : (t x : ℕ) (left : List (List PortStep)) (w : WorldState) (made other : List NodeStep) (a b : Lines) → HasNode plan.tree x → length left ≡ length (neighbours plan.tree.links x)
      → MakeLeft (node x) left w made → MakeLeft (node x) left w other → made_lines plan t (node x) made ++ a ≡ made_lines plan t (node x) other ++ b → (made ≡ other) × (a ≡ b)
  jobs_same t x left w [] [] a b known long h k e = (refl, e)
  jobs_same t x left w [] (st ∷ other) a b known long h k e = absurd (none_at left (place_of st.port) st.step k.0 h k.1.job)
  jobs_same t x left w (st ∷ made) [] a b known long h k e = absurd (none_at left (place_of st.port) st.step h.0 k h.1.job)
  jobs_same t x left w (st ∷ made) (su ∷ other) a b known long h k e =
      let whole : line_at plan t (node x) st ∷ (made_lines plan t (node x) made ++ a) ≡ line_at plan t (node x) su ∷ (made_lines plan t (node x) other ++ b) = e in
      let first : line_at plan t (node x) st ≡ line_at plan t (node x) su = cc in
      let behind : made_lines plan t (node x) made ++ a ≡ made_lines plan t (node x) other ++ b = cc in
      let port = ports_same plan laws t x left w known long st su h.0 k.0 (made_text st) (made_text su) h.1 k.1 first in
      let same = next_same plan laws t x left w known long st su h.0 k.0 h.1 k.1 port in
      let here = subst (λ (s : NodeStep). MakeLeft (node x) (slice_set left (place_of s.port) h.0) (world_step (Port (node x) s.port s.step) w).0 made) same.0 h.2 in
      let there = subst (λ (js : List PortStep). MakeLeft (node x) (slice_set left (place_of su.port) js) (world_step (Port (node x) su.port su.step) w).0 made) same.1 here in
      let later =
      jobs_same t x (slice_set left (place_of su.port) k.0) (world_step (Port (node x) su.port su.step) w).0 made other a b known (length_set left (place_of su.port) k.0 ∙ long) there k.2 behind
      in
      (ap (λ (s : NodeStep). s ∷ made) same.0 ∙ ap (λ (ss : List NodeStep). su ∷ ss) later.0, later.1)

  -- those of all nodes
  nodes_same : (count t x : ℕ) (w : WorldState) (steps others : List NodeSteps) (a b : Lines) → 1 ≤ x → x + count ≡ suc (length plan.tree.kinds) → IsDuring plan.tree t w
      → MakeAll x count w steps → MakeAll x count w others → steps_lines plan t steps ++ a ≡ steps_lines plan t others ++ b → (steps ≡ others) × (a ≡ b)
  nodes_same zero t x w steps others a b first all run h k e =
      (h ∙ sym k, sym (ap (λ (s : List NodeSteps). steps_lines plan t s ++ a) h) ∙ (e ∙ ap (λ (s : List NodeSteps). steps_lines plan t s ++ b) k))
  nodes_same (suc count) t x w steps others a b first all run h k e =
      let made : List NodeStep = h.0 in
      let later : List NodeSteps = h.1.0 in
      let other : List NodeStep = k.0 in
      let behind : List NodeSteps = k.1.0 in
      let known : HasNode plan.tree x = (first, omega (arith, all)) in
      let long = laws.count t x w run known in
      let left : made_lines plan t (node x) made ++ (steps_lines plan t later ++ a) ≡ steps_lines plan t steps ++ a =
      sym (append_assoc (made_lines plan t (node x) made) (steps_lines plan t later) a)
      ∙ (ap (λ (ls : Lines). ls ++ a) (sym (before_lines plan t (node x) made later)) ∙ ap (λ (s : List NodeSteps). steps_lines plan t s ++ a) (sym h.1.1))
      in
      let right : steps_lines plan t others ++ b ≡ made_lines plan t (node x) other ++ (steps_lines plan t behind ++ b) =
      ap (λ (s : List NodeSteps). steps_lines plan t s ++ b) k.1.1
      ∙ (ap (λ (ls : Lines). ls ++ b) (before_lines plan t (node x) other behind) ∙ append_assoc (made_lines plan t (node x) other) (steps_lines plan t behind) b)
      in
      let jobs = jobs_same t x (node_jobs (node x) w) w made other (steps_lines plan t later ++ a) (steps_lines plan t behind ++ b) known long h.1.2 k.1.2 (left ∙ (e ∙ right)) in
      let there = subst (λ (m : List NodeStep). MakeAll (suc x) count (world_after (events_of (node x) m) w) later) jobs.0 h.1.3 in
      let rest =
      nodes_same count t (suc x) (world_after (events_of (node x) other) w) later behind a b (omega arith) (omega (arith, all))
      (left_stays t x (node_jobs (node x) w) w other known long run k.1.2) there k.1.3 jobs.1
      in (
        h.1.1 ∙ (ap (λ (m : List NodeStep). steps_before (node x) m later) jobs.0 ∙ (ap (λ (s : List NodeSteps). steps_before (node x) other s) rest.0 ∙ sym k.1.1)),
        rest.1,
      )

  -- and those of all ticks
  pub ticks_same : (t : ℕ) (w end last : WorldState) (ticks others : List Tick) → IsDuring plan.tree t w → LeadTo (IsLegalTick plan) plan t w ticks plan.ticks end
      → LeadTo (IsLegalTick plan) plan t w others plan.ticks last → ticks_lines plan t ticks ≡ ticks_lines plan t others → (ticks ≡ others) × (end ≡ last)
  ticks_same t w end last [] [] run h k e = (refl, h.1 ∙ sym k.1)
  ticks_same t w end last [] (other ∷ others) run h k e =
      let here = h.0 in
      let later = upto plan (suc t) (world_after (tick_events plan t other) w) others plan.ticks last k.1 in
      absurd (omega (arith, here, later))
  ticks_same t w end last (tick ∷ ticks) [] run h k e =
      let here = k.0 in
      let later = upto plan (suc t) (world_after (tick_events plan t tick) w) ticks plan.ticks end h.1 in
      absurd (omega (arith, here, later))
  ticks_same t w end last (tick ∷ ticks) (other ∷ others) run h k e =
      let later = upto plan (suc t) (world_after (tick_events plan t other) w) others plan.ticks last k.1 in
      let one = laws.made t w tick run h.0 in
      let two = laws.made t w other run k.0 in
      let events : tick.events ≡ other.events = pairs_same tick.events other.events (one.numbers ∙ sym two.numbers) (one.answers ∙ sym two.answers) in
      let there = laws.stay t (map (λ (x : ℕ × WorldEvent). x.1) (script_at plan t)) w (laws.scripted t) run in
      let a : Lines = ticks_lines plan (suc t) ticks in
      let b : Lines = ticks_lines plan (suc t) others in
      let lines : answer_lines t other.events ++ (steps_lines plan t tick.steps ++ a) ≡ answer_lines t other.events ++ (steps_lines plan t other.steps ++ b) =
      ap (λ (es : List (ℕ × WorldReply)). answer_lines t es ++ (steps_lines plan t tick.steps ++ a)) (sym events)
      ∙ (sym (append_assoc (answer_lines t tick.events) (steps_lines plan t tick.steps) a) ∙ (e ∙ append_assoc (answer_lines t other.events) (steps_lines plan t other.steps) b))
      in
      let nodes =
      nodes_same (length plan.tree.kinds) t 1 (after_script plan t w) tick.steps other.steps a b (omega arith) (omega arith) there one.steps two.steps
      (same_behind (answer_lines t other.events) (steps_lines plan t tick.steps ++ a) (steps_lines plan t other.steps ++ b) lines)
      in
      let same : record { events = tick.events; steps = tick.steps } ≡ record { events = other.events; steps = other.steps } =
      ap (λ (es : List (ℕ × WorldReply)). record { events = es; steps = tick.steps }) events ∙ ap (λ (s : List NodeSteps). record { events = other.events; steps = s }) nodes.0
      in
      let tick_is : tick ≡ other = same in
      let next = laws.next_tick t w other (omega (arith, later)) run k.0 in
      let leads = subst (λ (x : Tick). LeadTo (IsLegalTick plan) plan (suc t) (world_after (tick_events plan t x) w) ticks plan.ticks end) tick_is h.1 in
      let rest = ticks_same (suc t) (world_after (tick_events plan t other) w) end last ticks others next leads k.1 nodes.1 in
      (ap (λ (x : Tick). x ∷ ticks) tick_is ∙ ap (λ (xs : List Tick). other ∷ xs) rest.0, rest.1)
