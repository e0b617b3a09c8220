-- What may follow at each place of a legal run, from place to place.
use Rattle.std.proofs.Common.{◌≡◌, ◌≢◌, ℕ, zero, suc, ◌<◌, ◌≤◌, ◌^◌, List, [], ◌∷◌, ◌++◌, length, map, take, refl, sym, ap, subst, ◌∙◌, append_assoc, arith}
use Rattle.std.specs.Prelude.{slice_get, slice_set, Option, Some}
use Rattle.std.specs.List.{AllByRecursion}
use Rattle.std.proofs.lemmas.Option.{slice_get_within}
use Rattle.srp_base.proofs.Lists.{length_set}
use Rattle.srp_base.specs.declared.{numbers.NodeNo.NodeNo, numbers.PortNo.PortNo, numbers.EgressPort.EgressPort}
use Rattle.tree_topology.specs.{Topology.HasNode, Topology.HasPort, Topology.link_ports, Ports.neighbours}
use Rattle.attribute_propagation.specs.Ports.{place_of}
use Rattle.topology_file.specs.Plan.{Plan}
use Rattle.node_core.specs.declared.{types.NodeStep.NodeStep, types.PortStep.PortStep, types.StepReply.StepReply}
use Rattle.world_core.specs.declared.{events.WorldEvent.WorldEvent, events.WorldReply.WorldReply, events.WorldReply.TheVariants.Step, journal.NodeSteps.NodeSteps, journal.Tick.Tick}
use Rattle.world_core.specs.declared.events.WorldEvent.TheVariants.{Port, Carry, Clock}
use Rattle.world_core.specs.{World.WorldState, World.world_step, World.world_after, World.replies_to, Apart.events_of, Ticks.script_at, Ticks.after_script, Ticks.step_events, Ticks.closing_events, Ticks.tick_events, Ticks.IsLegalTick, Ticks.LeadTo, During.IsDuring, OneByOne.node_jobs, OneByOne.IsNextJob, OneByOne.MakeLeft, OneByOne.steps_before, OneByOne.MakeAll, OneByOne.IsOneByOne}
use Rattle.report_words.specs.Names.{port_name}
use Rattle.journal_lines.specs.Lines.{place_text, made_text, line_at}
use Rattle.world_core.proofs.{Timelines.after_both, OneByOne.before_after}
use Rattle.journal_audit.specs.{lines_of, asking_for, IsStuck, answer_line, answer_lines, made_lines, steps_lines, ticks_lines, FollowTicks, FollowNodes, FollowJobs, FollowAnswers, nodes_from, ReplayLaws}
use Rattle.journal_audit.specs.Reading.{Reading}
use Rattle.journal_audit.proofs.ReadingLemmas.{Lines, stuck_here}

abbrev pub node : ℕ → NodeNo
node x = record { 0 = x }

-- ---- lists

-- answers with their numbers are determined by both
pub pairs_same : (a b : List (ℕ × WorldReply)) → map (λ x. x.0) a ≡ map (λ x. x.0) b → map (λ x. x.1) a ≡ map (λ x. x.1) b → a ≡ b
pairs_same [] [] e f = refl
pairs_same [] (y ∷ b) e f = let g : [] ≡ y.0 ∷ map (λ (x : ℕ × WorldReply). x.0) b = e in cc
pairs_same (x ∷ a) [] e f = let g : x.0 ∷ map (λ (x : ℕ × WorldReply). x.0) a ≡ [] = e in cc
pairs_same (x ∷ a) (y ∷ b) e f =
    let numbers : x.0 ∷ map (λ (z : ℕ × WorldReply). z.0) a ≡ y.0 ∷ map (λ (z : ℕ × WorldReply). z.0) b = e in
    let answers : x.1 ∷ map (λ (z : ℕ × WorldReply). z.1) a ≡ y.1 ∷ map (λ (z : ℕ × WorldReply). z.1) b = f in
    let number : x.0 ≡ y.0 = cc in
    let answer : x.1 ≡ y.1 = cc in
    let later = pairs_same a b (let g : map (λ (z : ℕ × WorldReply). z.0) a ≡ map (λ (z : ℕ × WorldReply). z.0) b = cc in g)
    (let g : map (λ (z : ℕ × WorldReply). z.1) a ≡ map (λ (z : ℕ × WorldReply). z.1) b = cc in g) in
    let first : (x.0, x.1) ≡ (y.0, y.1) = ap (λ (n : ℕ). (n, x.1)) number ∙ ap (λ (r : WorldReply). (y.0, r)) answer in
    ap (λ (z : ℕ × WorldReply). z ∷ a) first ∙ ap (λ (zs : List (ℕ × WorldReply)). y ∷ zs) later

-- where all are empty, none is left at any place
pub none_at : (left : List (List PortStep)) (at : ℕ) (step : PortStep) (rest : List PortStep) → AllByRecursion (λ jobs. jobs ≡ []) left → slice_get left at ≡ Some (step ∷ rest) → ⊥
none_at [] at step rest all get = cc
none_at (jobs ∷ left) zero step rest all get = let some : Some jobs ≡ Some (step ∷ rest) = get in let none = all.0 in cc
none_at (jobs ∷ left) (suc at) step rest all get = none_at left at step rest all.1 get

-- the lines of a node's steps before those of later nodes, and the network behind them
pub before_lines : (plan : Plan) (t : ℕ) (n : NodeNo) (made : List NodeStep) (later : List NodeSteps)
    → steps_lines plan t (steps_before n made later) ≡ made_lines plan t n made ++ steps_lines plan t later
before_lines plan t n [] later = refl
before_lines plan t n (st ∷ made) later = refl

-- ticks don't fall
pub upto : (plan : Plan) (t : ℕ) (w : WorldState) (ticks : List Tick) (u : ℕ) (end : WorldState) → LeadTo (IsLegalTick plan) plan t w ticks u end → t ≤ u
upto plan t w [] u end lead = let e = lead.0 in omega (arith, e)
upto plan t w (tick ∷ ticks) u end lead = let later = upto plan (suc t) (world_after (tick_events plan t tick) w) ticks u end lead.1 in omega (arith, later)

-- the network behind a tick
pub tick_closes : (plan : Plan) (t : ℕ) (tick : Tick) (w : WorldState)
    → world_after (tick_events plan t tick) w ≡ world_after (closing_events plan.tree) (world_after (step_events tick.steps) (after_script plan t w))
tick_closes plan t tick w =
    let script : List WorldEvent = map (λ (e : ℕ × WorldEvent). e.1) (script_at plan t) in
    after_both (script ++ step_events tick.steps) (closing_events plan.tree) w
    ∙ ap (λ (u : WorldState). world_after (closing_events plan.tree) u) (after_both script (step_events tick.steps) w)

take_one : (line : List ℕ) (ls : Lines) → line ∷ [] ≡ take 1 ls → (rest : Lines) × (ls ≡ line ∷ rest)
take_one line [] e = cc
take_one line (l ∷ ls) e = let f : line ∷ [] ≡ l ∷ [] = e in let same : l ≡ line = cc in (ls, ap (λ (x : List ℕ). x ∷ ls) same)

module _ (plan : Plan) (laws : ReplayLaws plan) where
  below : (t : ℕ) → t < plan.ticks → t < 2 ^ 61
  below t within = let few = laws.rules.ticks.1 in omega (arith, within, few)

  pub closing_stays : (t : ℕ) (w : WorldState) → t < plan.ticks → IsDuring plan.tree t w → IsDuring plan.tree (suc t) (world_after (closing_events plan.tree) w)
  closing_stays t w within run =
      let carried = laws.stay t (map Carry (link_ports plan.tree)) w laws.carried run in
      subst (IsDuring plan.tree (suc t)) (sym (after_both (map Carry (link_ports plan.tree)) (Clock ∷ []) w))
      (laws.next t (world_after (map Carry (link_ports plan.tree)) w) (below t within) carried)

  -- ---- from the beginning of a tick to its steps

  module _ (t : ℕ) (w : WorldState) (run : IsDuring plan.tree t w) (within : t < plan.ticks) (answers : List (ℕ × WorldReply))
      (numbers : map (λ x. x.0) answers ≡ map (λ x. x.0) (script_at plan t)) (replies : map (λ x. x.1) answers ≡ replies_to (map (λ x. x.1) (script_at plan t)) w) where
    all_nodes : length plan.tree.kinds ≡ nodes_from plan 1
    all_nodes = omega arith

    pub answers_out : (lines : Lines) → FollowTicks plan t w lines → FollowAnswers plan t answers (after_script plan t w) lines
    answers_out lines h = by h.ticks h.end h.lead h.are
      where
        by : (ticks : List Tick) (end : WorldState) → LeadTo (IsLegalTick plan) plan t w ticks plan.ticks end → lines ≡ ticks_lines plan t ticks
            → FollowAnswers plan t answers (after_script plan t w) lines
        by [] end lead are = let e = lead.0 in absurd (omega (arith, within, e))
        by (tick ∷ ticks) end lead are =
            let one = laws.made t w tick run lead.0 in
            let same : tick.events ≡ answers = pairs_same tick.events answers (one.numbers ∙ sym numbers) (one.answers ∙ sym replies) in
            let behind : Lines = ticks_lines plan (suc t) ticks in
            record {
              rest = steps_lines plan t tick.steps ++ behind;
              then = record {
                steps = tick.steps;
                rest = behind;
                made = subst (λ (k : ℕ). MakeAll 1 k (after_script plan t w) tick.steps) all_nodes one.steps;
                then = record {
                  ticks = ticks;
                  end = end;
                  lead = subst (λ (v : WorldState). LeadTo (IsLegalTick plan) plan (suc t) v ticks plan.ticks end) (tick_closes plan t tick w) lead.1;
                  are = refl;
                };
                are = refl;
              };
              are = are ∙ (append_assoc (answer_lines t tick.events) (steps_lines plan t tick.steps) behind
                  ∙ ap (λ (es : List (ℕ × WorldReply)). answer_lines t es ++ (steps_lines plan t tick.steps ++ behind)) same);
            }

    pub answers_in : (lines : Lines) → FollowAnswers plan t answers (after_script plan t w) lines → FollowTicks plan t w lines
    answers_in lines h =
        let nodes = h.then in
        let later = nodes.then in
        let tick : Tick = record { events = answers; steps = nodes.steps } in
        let one : IsOneByOne plan t w tick = record { numbers = numbers; answers = replies; steps = subst (λ (k : ℕ). MakeAll 1 k (after_script plan t w) nodes.steps) (sym all_nodes) nodes.made } in
        record {
          ticks = tick ∷ later.ticks;
          end = later.end;
          lead = (laws.legal t w tick run one, subst (λ (v : WorldState). LeadTo (IsLegalTick plan) plan (suc t) v later.ticks plan.ticks later.end) (sym (tick_closes plan t tick w)) later.lead);
          are = h.are
              ∙ (ap (λ (ls : Lines). answer_lines t answers ++ ls) (nodes.are ∙ ap (λ (ls : Lines). steps_lines plan t nodes.steps ++ ls) later.are)
              ∙ sym (append_assoc (answer_lines t answers) (steps_lines plan t nodes.steps) (ticks_lines plan (suc t) later.ticks)));
        }

  -- ---- an event's line

  -- ---- from a node's turn to its jobs

  pub one_less : (x : ℕ) → x ≤ length plan.tree.kinds → nodes_from plan x ≡ suc (nodes_from plan (suc x))
  one_less x last = omega (arith, last)

  pub jobs_out : (t x : ℕ) (w : WorldState) (lines : Lines) → x ≤ length plan.tree.kinds → FollowNodes plan t x w lines → FollowJobs plan t x (node_jobs (node x) w) w lines
  jobs_out t x w lines last h =
      let all = subst (λ (k : ℕ). MakeAll x k w h.steps) (one_less x last) h.made in
      let made : List NodeStep = all.0 in
      let later : List NodeSteps = all.1.0 in
      let same : h.steps ≡ steps_before (node x) made later = all.1.1 in
      record {
        made = made;
        rest = steps_lines plan t later ++ h.rest;
        jobs = all.1.2;
        then = record {
          steps = later;
          rest = h.rest;
          made = all.1.3;
          then = subst (λ (v : WorldState). FollowTicks plan (suc t) (world_after (closing_events plan.tree) v) h.rest)
              (ap (λ (s : List NodeSteps). world_after (step_events s) w) same ∙ before_after (node x) made later w) h.then;
          are = refl;
        };
        are = h.are
            ∙ (ap (λ (s : List NodeSteps). steps_lines plan t s ++ h.rest) same
            ∙ (ap (λ (ls : Lines). ls ++ h.rest) (before_lines plan t (node x) made later) ∙ append_assoc (made_lines plan t (node x) made) (steps_lines plan t later) h.rest));
      }

  pub jobs_in : (t x : ℕ) (w : WorldState) (lines : Lines) → x ≤ length plan.tree.kinds → FollowJobs plan t x (node_jobs (node x) w) w lines → FollowNodes plan t x w lines
  jobs_in t x w lines last h =
      let made : List NodeStep = h.made in
      let nodes = h.then in
      let later : List NodeSteps = nodes.steps in
      let steps : List NodeSteps = steps_before (node x) made later in
      record {
        steps = steps;
        rest = nodes.rest;
        made = subst (λ (k : ℕ). MakeAll x k w steps) (sym (one_less x last)) (made, (later, refl, h.jobs, nodes.made));
        then = subst (λ (v : WorldState). FollowTicks plan (suc t) (world_after (closing_events plan.tree) v) nodes.rest) (sym (before_after (node x) made later w)) nodes.then;
        are = h.are
            ∙ (ap (λ (ls : Lines). made_lines plan t (node x) made ++ ls) nodes.are
            ∙ (sym (append_assoc (made_lines plan t (node x) made) (steps_lines plan t later) nodes.rest) ∙ ap (λ (ls : Lines). ls ++ nodes.rest) (sym (before_lines plan t (node x) made later))));
      }

  -- behind the last node the tick ends
  pub none_behind : (x : ℕ) → x ≡ suc (length plan.tree.kinds) → nodes_from plan x ≡ 0
  none_behind x last = omega (arith, last)

  pub nodes_none_out : (t x : ℕ) (w : WorldState) (lines : Lines) → x ≡ suc (length plan.tree.kinds) → FollowNodes plan t x w lines
      → FollowTicks plan (suc t) (world_after (closing_events plan.tree) w) lines
  nodes_none_out t x w lines last h =
      let none : h.steps ≡ [] = subst (λ (k : ℕ). MakeAll x k w h.steps) (none_behind x last) h.made in
      let same : lines ≡ h.rest = h.are ∙ ap (λ (s : List NodeSteps). steps_lines plan t s ++ h.rest) none in
      subst (FollowTicks plan (suc t) (world_after (closing_events plan.tree) w)) (sym same)
      (subst (λ (s : List NodeSteps). FollowTicks plan (suc t) (world_after (closing_events plan.tree) (world_after (step_events s) w)) h.rest) none h.then)

  pub nodes_none_in : (t x : ℕ) (w : WorldState) (lines : Lines) → x ≡ suc (length plan.tree.kinds) → FollowTicks plan (suc t) (world_after (closing_events plan.tree) w) lines
      → FollowNodes plan t x w lines
  nodes_none_in t x w lines last h = record { steps = []; rest = lines; made = subst (λ (k : ℕ). MakeAll x k w []) (sym (none_behind x last)) refl; then = h; are = refl }

  -- ---- a node without a job left

  pub left_none_out : (t x : ℕ) (left : List (List PortStep)) (w : WorldState) (lines : Lines) → AllByRecursion (λ jobs. jobs ≡ []) left → FollowJobs plan t x left w lines
      → FollowNodes plan t (suc x) w lines
  left_none_out t x left w lines none h = by h.made h.jobs h.then h.are
    where
      by : (made : List NodeStep) → MakeLeft (node x) left w made → FollowNodes plan t (suc x) (world_after (events_of (node x) made) w) h.rest
          → lines ≡ made_lines plan t (node x) made ++ h.rest → FollowNodes plan t (suc x) w lines
      by [] jobs then are = subst (FollowNodes plan t (suc x) w) (sym are) then
      by (st ∷ made) jobs then are = absurd (none_at left (place_of st.port) st.step jobs.0 none jobs.1.job)

  pub left_none_in : (t x : ℕ) (left : List (List PortStep)) (w : WorldState) (lines : Lines) → AllByRecursion (λ jobs. jobs ≡ []) left → FollowNodes plan t (suc x) w lines
      → FollowJobs plan t x left w lines
  left_none_in t x left w lines none h = record { made = []; rest = lines; jobs = none; then = h; are = refl }

  -- ---- a step

  pub has_port : (x : ℕ) (left : List (List PortStep)) (w : WorldState) (st : NodeStep) (rest : List PortStep) → HasNode plan.tree x → length left ≡ length (neighbours plan.tree.links x)
      → IsNextJob (node x) left w st rest → HasPort plan.tree (record { node = node x; port = st.port })
  has_port x left w st rest known long next =
      let inside = slice_get_within left (place_of st.port) (st.step ∷ rest) next.job in
      let some = next.port in
      (known, some, omega (arith, inside, some, long))

  module _ (t x : ℕ) (left : List (List PortStep)) (w : WorldState) (known : HasNode plan.tree x) (long : length left ≡ length (neighbours plan.tree.links x)) where
    -- two next steps whose lines begin with one port are one
    pub next_same : (st other : NodeStep) (rest more : List PortStep) → IsNextJob (node x) left w st rest → IsNextJob (node x) left w other more → st.port ≡ other.port
        → (st ≡ other) × (rest ≡ more)
    next_same st other rest more one two same =
        let here : slice_get left (place_of other.port) ≡ Some (st.step ∷ rest) = subst (λ (p : PortNo). slice_get left (place_of p) ≡ Some (st.step ∷ rest)) same one.job in
        let there : slice_get left (place_of other.port) ≡ Some (other.step ∷ more) = two.job in
        let step : st.step ≡ other.step = cc in
        let jobs : rest ≡ more = cc in
        let first : (world_step (Port (node x) other.port other.step) w).1 ≡ Step st.reply =
        subst (λ (s : PortStep). (world_step (Port (node x) other.port s) w).1 ≡ Step st.reply) step
        (subst (λ (p : PortNo). (world_step (Port (node x) p st.step) w).1 ≡ Step st.reply) same one.reply)
        in
        let second : (world_step (Port (node x) other.port other.step) w).1 ≡ Step other.reply = two.reply in
        let reply : st.reply ≡ other.reply = cc in
        let whole : record { port = st.port; step = st.step; reply = st.reply } ≡ record { port = other.port; step = other.step; reply = other.reply } =
        ap (λ (p : PortNo). record { port = p; step = st.step; reply = st.reply }) same
        ∙ (ap (λ (s : PortStep). record { port = other.port; step = s; reply = st.reply }) step ∙ ap (λ (r : StepReply). record { port = other.port; step = other.step; reply = r }) reply)
        in
        (whole, jobs)

    pub ports_same : (st other : NodeStep) (rest more : List PortStep) (a b : List ℕ) → IsNextJob (node x) left w st rest → IsNextJob (node x) left w other more
        → place_text t (port_name plan.nodes plan.tree.links (record { node = node x; port = st.port })) ++ a
        ≡ place_text t (port_name plan.nodes plan.tree.links (record { node = node x; port = other.port })) ++ b
        → st.port ≡ other.port
    ports_same st other rest more a b one two e =
        ap (λ (p : EgressPort). p.port)
        (laws.tells t (record { node = node x; port = st.port }) (record { node = node x; port = other.port }) a b (has_port x left w st rest known long one)
        (has_port x left w other more known long two) refl e)

    pub step_onto : (st : NodeStep) (rest : List PortStep) (lines : Lines) → IsNextJob (node x) left w st rest
        → FollowJobs plan t x (slice_set left (place_of st.port) rest) (world_step (Port (node x) st.port st.step) w).0 lines → FollowJobs plan t x left w (line_at plan t (node x) st ∷ lines)
    step_onto st rest lines next h =
        record { made = st ∷ h.made; rest = h.rest; jobs = (rest, next, h.jobs); then = h.then; are = ap (λ (ls : Lines). line_at plan t (node x) st ∷ ls) h.are }

    pub step_back : (st : NodeStep) (rest : List PortStep) (lines : Lines) → IsNextJob (node x) left w st rest
        → FollowJobs plan t x left w (line_at plan t (node x) st ∷ lines) → FollowJobs plan t x (slice_set left (place_of st.port) rest) (world_step (Port (node x) st.port st.step) w).0 lines
    step_back st rest lines next h = by h.made h.jobs h.then h.are
      where
        by : (made : List NodeStep) → MakeLeft (node x) left w made → FollowNodes plan t (suc x) (world_after (events_of (node x) made) w) h.rest
            → line_at plan t (node x) st ∷ lines ≡ made_lines plan t (node x) made ++ h.rest
            → FollowJobs plan t x (slice_set left (place_of st.port) rest) (world_step (Port (node x) st.port st.step) w).0 lines
        by [] jobs then are = absurd (none_at left (place_of st.port) st.step rest jobs next.job)
        by (other ∷ made) jobs then are =
            let whole : line_at plan t (node x) st ∷ lines ≡ line_at plan t (node x) other ∷ (made_lines plan t (node x) made ++ h.rest) = are in
            let first : line_at plan t (node x) st ≡ line_at plan t (node x) other = cc in
            let behind : lines ≡ made_lines plan t (node x) made ++ h.rest = cc in
            let port = ports_same st other rest jobs.0 (made_text st) (made_text other) next jobs.1 first in
            let same = next_same st other rest jobs.0 next jobs.1 port in
            record {
              made = made;
              rest = h.rest;
              jobs = subst (λ (s : NodeStep). MakeLeft (node x) (slice_set left (place_of s.port) rest) (world_step (Port (node x) s.port s.step) w).0 made) (sym same.0)
                  (subst (λ (js : List PortStep). MakeLeft (node x) (slice_set left (place_of other.port) js) (world_step (Port (node x) other.port other.step) w).0 made) (sym same.1) jobs.2);
              then = subst (λ (s : NodeStep). FollowNodes plan t (suc x) (world_after (events_of (node x) made) (world_step (Port (node x) s.port s.step) w).0) h.rest) (sym same.0) then;
              are = behind;
            }

  -- ---- something may follow

  pub some_ticks : (t : ℕ) (w : WorldState) → t ≤ plan.ticks → IsDuring plan.tree t w → (lines : Lines) × FollowTicks plan t w lines
  some_ticks t w within run = let rest = laws.rest t w within run in (ticks_lines plan t rest.0, record { ticks = rest.0; end = rest.1.0; lead = rest.1.1; are = refl })

  pub some_nodes : (t x : ℕ) (w : WorldState) → t < plan.ticks → IsDuring plan.tree t w → 1 ≤ x → x ≤ suc (length plan.tree.kinds) → (lines : Lines) × FollowNodes plan t x w lines
  some_nodes t x w within run first last =
      let steps = laws.nodes t x (nodes_from plan x) w run first (omega (arith, last)) in
      let end : WorldState = world_after (step_events steps.0) w in
      let ticks = some_ticks (suc t) (world_after (closing_events plan.tree) end) (omega (arith, within)) (closing_stays t end within steps.2) in
      (steps_lines plan t steps.0 ++ ticks.0, record { steps = steps.0; rest = ticks.0; made = steps.1; then = ticks.1; are = refl })

  pub some_jobs : (t x : ℕ) (left : List (List PortStep)) (w : WorldState) → t < plan.ticks → IsDuring plan.tree t w → HasNode plan.tree x
      → length left ≡ length (neighbours plan.tree.links x) → (lines : Lines) × FollowJobs plan t x left w lines
  some_jobs t x left w within run known long =
      let made = laws.jobs t x left w run known long in
      let last = known.1 in
      let nodes = some_nodes t (suc x) (world_after (events_of (node x) made.0) w) within made.2 (omega arith) (omega (arith, last)) in
      (made_lines plan t (node x) made.0 ++ nodes.0, record { made = made.0; rest = nodes.0; jobs = made.1; then = nodes.1; are = refl })

  -- and first the line of any next job
  jobs_with : (t x : ℕ) (left : List (List PortStep)) (w : WorldState) → t < plan.ticks → IsDuring plan.tree t w → HasNode plan.tree x
      → length left ≡ length (neighbours plan.tree.links x) → (next : NodeStep) (behind : List PortStep) → IsNextJob (node x) left w next behind
      → (lines : Lines) × FollowJobs plan t x left w (line_at plan t (node x) next ∷ lines)
  jobs_with t x left w within run known long next behind job =
      let there = laws.stay t (Port (node x) next.port next.step ∷ []) w (has_port x left w next behind known long job, tt) run in
      let later =
      some_jobs t x (slice_set left (place_of next.port) behind) (world_step (Port (node x) next.port next.step) w).0 within there known (length_set left (place_of next.port) behind ∙ long)
      in
      (later.0, step_onto t x left w known long next behind later.0 job later.1)

  pub some_answers : (t : ℕ) (answers : List (ℕ × WorldReply)) (w : WorldState) → t < plan.ticks → IsDuring plan.tree t w → (lines : Lines) × FollowAnswers plan t answers w lines
  some_answers t answers w within run =
      let nodes = some_nodes t 1 w within run (omega arith) (omega arith) in
      (answer_lines t answers ++ nodes.0, record { rest = nodes.0; then = nodes.1; are = refl })

  -- ---- where it stops

  pub answers_stuck : (t : ℕ) (e : ℕ × WorldReply) (answers : List (ℕ × WorldReply)) (w : WorldState) (from : Reading) → t < plan.ticks → IsDuring plan.tree t w
      → from.wanted ≡ Some (answer_line t e) → ((lines : Lines) → lines_of from.rest ≢ answer_line t e ∷ lines) → IsStuck (FollowAnswers plan t (e ∷ answers) w) from from
  answers_stuck t e answers w from within run wanted none =
      let some = some_answers t (e ∷ answers) w within run in
      subst (λ (o : Option (List ℕ)). IsStuck (FollowAnswers plan t (e ∷ answers) w) from (asking_for o from)) (ap (λ (ls : Lines). slice_get ls 0) some.1.are ∙ sym wanted)
      (stuck_here (FollowAnswers plan t (e ∷ answers) w) from some.0 some.1
      (λ other may same. let there = take_one (answer_line t e) (lines_of from.rest) (sym (ap (take 1) may.are) ∙ same) in none there.0 there.1))

  pub jobs_stuck : (t x : ℕ) (left : List (List PortStep)) (w : WorldState) (from : Reading) → t < plan.ticks → IsDuring plan.tree t w → HasNode plan.tree x
      → length left ≡ length (neighbours plan.tree.links x) → (next : NodeStep) (behind : List PortStep) → IsNextJob (node x) left w next behind
      → ((st : NodeStep) (rest : List PortStep) (lines : Lines) → IsNextJob (node x) left w st rest → lines_of from.rest ≢ line_at plan t (node x) st ∷ lines)
      → IsStuck (FollowJobs plan t x left w) from (asking_for (Some (line_at plan t (node x) next)) from)
  jobs_stuck t x left w from within run known long next behind job none =
      let one = jobs_with t x left w within run known long next behind job in
      stuck_here (FollowJobs plan t x left w) from (line_at plan t (node x) next ∷ one.0) one.1 (λ other may same. by other may.made may.rest may.jobs may.are same)
    where
      by : (other : Lines) (made : List NodeStep) (rest : Lines) → MakeLeft (node x) left w made → other ≡ made_lines plan t (node x) made ++ rest → take 1 other ≡ take 1 (lines_of from.rest) → ⊥
      by other [] rest jobs are same = none_at left (place_of next.port) next.step behind jobs job.job
      by other (st ∷ made) rest jobs are same =
          let there = take_one (line_at plan t (node x) st) (lines_of from.rest) (sym (ap (take 1) are) ∙ same) in
          none st jobs.0 there.0 jobs.1 there.1

  -- no line follows behind the last tick
  pub nothing_follows : (t : ℕ) (w : WorldState) (lines : Lines) → t ≡ plan.ticks → FollowTicks plan t w lines → lines ≡ []
  nothing_follows t w lines last h = by h.ticks h.lead h.are
    where
      by : (ticks : List Tick) → LeadTo (IsLegalTick plan) plan t w ticks plan.ticks h.end → lines ≡ ticks_lines plan t ticks → lines ≡ []
      by [] lead are = are
      by (tick ∷ ticks) lead are = let later = upto plan (suc t) (world_after (tick_events plan t tick) w) ticks plan.ticks h.end lead.1 in absurd (omega (arith, later, last))
