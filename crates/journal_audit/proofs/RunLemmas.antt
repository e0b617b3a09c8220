-- The replay of a whole run, and what an audit answers by it.
use Rattle.std.proofs.Common.{◌≡◌, ℕ, suc, ◌+◌, ◌<◌, List, [], ◌∷◌, ◌++◌, length, map, take, slice_get, refl, sym, ap, subst, ◌∙◌, append_assoc, arith}
use Rattle.std.specs.{List.AllByRecursion, Prelude.None}
use Rattle.std.proofs.lemmas.List.{append-nil}
use Rattle.srp_base.proofs.Lists.{each_append}
use Rattle.srp_base.specs.Text.{whole_of}
use Rattle.srp_base.specs.declared.{numbers.NodeNo.NodeNo, ports.PortChange.PortChange}
use Rattle.tree_topology.specs.Topology.{HasPort, link_ports}
use Rattle.topology_file.specs.Plan.{Plan}
use Rattle.node_core.specs.declared.types.NodeStep.{NodeStep}
use Rattle.world_core.specs.declared.{events.WorldReply.WorldReply, events.WorldEvent.TheVariants.Carry, events.WorldEvent.TheVariants.Clock, journal.NodeSteps.NodeSteps, journal.Tick.Tick, journal.Run.Run}
use Rattle.world_core.specs.{World.WorldState, World.CanHappen, World.world_step, World.world_after, Start.world_of, Ticks.closing_events, Ticks.after_steps, Ticks.tick_events, Ticks.IsLegalTick, Ticks.LeadTo, During.IsDuring, Carrying.NothingWaits, History.HistoryState, History.acts_noted, NotedRuns.IsNotedRun, Missed.is_missed}
use Rattle.journal_lines.specs.Lines.{IsLine}
use Rattle.world_core.proofs.Timelines.{after_both}
use Rattle.journal_audit.specs.{lines_of, asking_for, IsStuck, HasRead, answer_lines, made_lines, steps_lines, tick_lines, ticks_lines, FollowTicks, ReplayLaws, IsTickRead, AreTicksRead, IsRunRead, IsJournalOf, IsFirstIllegal, GoesOnWith}
use Rattle.journal_audit.specs.Reading.{Reading}
use Rattle.journal_audit.proofs.{TextLemmas.line_first, TextLemmas.lines_join, ReadingLemmas.Lines, ReadingLemmas.read_then, ReadingLemmas.stuck_here, ReadingLemmas.stuck_then, FollowLemmas.tick_closes, FollowLemmas.nothing_follows}

-- one tick more
ticks_push : (plan : Plan) (s : ℕ) (ticks : List Tick) (tick : Tick) → ticks_lines plan s (ticks ++ tick ∷ []) ≡ ticks_lines plan s ticks ++ tick_lines plan (s + length ticks) tick
ticks_push plan s [] tick =
    let same : s + 0 ≡ s = omega arith in
    append-nil (tick_lines plan s tick) ∙ ap (λ (k : ℕ). tick_lines plan k tick) (sym same)
ticks_push plan s (first ∷ ticks) tick =
    let same : suc s + length ticks ≡ s + length (first ∷ ticks) = omega arith in
    ap (λ (ls : Lines). tick_lines plan s first ++ ls) (ticks_push plan (suc s) ticks tick ∙ ap (λ (k : ℕ). ticks_lines plan (suc s) ticks ++ tick_lines plan k tick) same)
    ∙ sym (append_assoc (tick_lines plan s first) (ticks_lines plan (suc s) ticks) (tick_lines plan (s + length (first ∷ ticks)) tick))

-- ---- texts of lines

lines_whole : (lines : Lines) → AllByRecursion IsLine lines → lines_of (whole_of lines) ≡ lines
lines_whole [] all = refl
lines_whole (line ∷ lines) all = line_first line (whole_of lines) all.0 ∙ ap (λ (ls : Lines). line ∷ ls) (lines_whole lines all.1)

-- a text with something in it has a line
no_line : (text : List ℕ) → lines_of text ≡ [] → text ≡ []
no_line text e = sym (lines_join text) ∙ ap whole_of e

module _ (plan : Plan) (laws : ReplayLaws plan) where
  pub clock_can : (t : ℕ) (w v : WorldState) → t < plan.ticks → IsDuring plan.tree t w → v ≡ world_after (map Carry (link_ports w.tree)) w → CanHappen Clock v
  clock_can t w v within run is =
      let few = laws.rules.ticks.1 in
      let carried = laws.stay t (map Carry (link_ports plan.tree)) w laws.carried run in
      laws.clock t v (omega (arith, within, few))
      (subst (IsDuring plan.tree t) (sym (is ∙ ap (λ r. world_after (map Carry (link_ports r)) w) run.tree_is)) carried)

  pub closes : (t : ℕ) (w v u : WorldState) → IsDuring plan.tree t w → v ≡ world_after (map Carry (link_ports w.tree)) w → u ≡ (world_step Clock v).0 → u ≡ world_after (closing_events plan.tree) w
  closes t w v u run is clock =
      clock
      ∙ (ap (λ (x : WorldState). (world_step Clock x).0) (is ∙ ap (λ r. world_after (map Carry (link_ports r)) w) run.tree_is)
      ∙ sym (after_both (map Carry (link_ports plan.tree)) (Clock ∷ []) w))

  -- ---- from tick to tick

  pub ticks_more : (t : ℕ) (from via to : Reading) (ticks : List Tick) (tick : Tick) (w w1 w2 : WorldState) (history after : HistoryState)
      → (IsNotedRun plan t ticks w history.changes → IsLegalTick plan t w tick
      → IsNotedRun plan (suc t) (ticks ++ tick ∷ []) (world_after (tick_events plan t tick) w) (acts_noted t tick.steps (after_steps plan t tick w) history.changes))
      → NothingWaits (world_after (tick_events plan t tick) w)
      → AreTicksRead plan t from ticks w history via → IsTickRead plan t w via tick w1 to → w2 ≡ world_after (closing_events plan.tree) w1
      → after.tree ≡ history.tree → after.changes ≡ acts_noted t tick.steps w1 history.changes → AreTicksRead plan (t + 1) from (ticks ++ tick ∷ []) w2 after to
  ticks_more t from via to ticks tick w w1 w2 history after goes_on waits before one closed tree changes =
      let reached : w2 ≡ world_after (tick_events plan t tick) w =
      closed ∙ (ap (λ (v : WorldState). world_after (closing_events plan.tree) v) one.reached ∙ sym (tick_closes plan t tick w))
      in
      let noted_is : after.changes ≡ acts_noted t tick.steps (after_steps plan t tick w) history.changes =
      changes ∙ ap (λ (v : WorldState). acts_noted t tick.steps v history.changes) one.reached
      in
      let noted : IsNotedRun plan (suc t) (ticks ++ tick ∷ []) w2 after.changes =
      subst (λ (v : WorldState). IsNotedRun plan (suc t) (ticks ++ tick ∷ []) v after.changes) (sym reached)
      (subst (λ (cs : List PortChange). IsNotedRun plan (suc t) (ticks ++ tick ∷ []) (world_after (tick_events plan t tick) w) cs) (sym noted_is) (goes_on before.noted one.legal))
      in
      let many = before.noted.many in
      let number : 0 + length ticks ≡ t = omega (arith, many) in
      let front : ticks_lines plan 0 (ticks ++ tick ∷ []) ≡ ticks_lines plan 0 ticks ++ tick_lines plan t tick =
      ticks_push plan 0 ticks tick ∙ ap (λ (k : ℕ). ticks_lines plan 0 ticks ++ tick_lines plan k tick) number
      in
      let read =
      read_then (FollowTicks plan 0 (world_of plan)) (FollowTicks plan t w) (FollowTicks plan (suc t) (world_after (closing_events plan.tree) w1)) from via to
      (ticks_lines plan 0 ticks) (tick_lines plan t tick) before.read one.read
      in
      let later : suc t ≡ t + 1 = omega arith in
      subst (λ (k : ℕ). AreTicksRead plan k from (ticks ++ tick ∷ []) w2 after to) later (record {
        noted = noted;
        tree = tree ∙ before.tree;
        waits = subst NothingWaits (sym reached) waits;
        read = subst (λ (ls : Lines). HasRead (FollowTicks plan 0 (world_of plan)) from ls (FollowTicks plan (suc t) w2) to) (sym front)
            (subst (λ (v : WorldState). HasRead (FollowTicks plan 0 (world_of plan)) from (ticks_lines plan 0 ticks ++ tick_lines plan t tick) (FollowTicks plan (suc t) v) to) (sym closed) read);
      })

  pub ticks_stuck : (t : ℕ) (from via : Reading) (ticks : List Tick) (w : WorldState) (history : HistoryState) (to : Reading) → AreTicksRead plan t from ticks w history via
      → IsStuck (FollowTicks plan t w) via to → IsStuck (FollowTicks plan 0 (world_of plan)) from to
  ticks_stuck t from via ticks w history to before stuck =
      stuck_then (FollowTicks plan 0 (world_of plan)) (FollowTicks plan t w) from via (ticks_lines plan 0 ticks) to before.read stuck

  -- something is left behind the last tick
  pub end_stuck : (from to : Reading) (ticks : List Tick) (w : WorldState) (history : HistoryState) → AreTicksRead plan plan.ticks from ticks w history to → (to.rest ≡ [] → ⊥)
      → IsStuck (FollowTicks plan 0 (world_of plan)) from (asking_for None to)
  end_stuck from to ticks w history before some =
      ticks_stuck plan.ticks from to ticks w history (asking_for None to) before
      (stuck_here (FollowTicks plan plan.ticks w) to [] (record { ticks = []; end = w; lead = (refl, refl); are = refl })
      (λ other may same. by other (lines_of to.rest) (nothing_follows plan laws plan.ticks w other refl may) same (λ none. some (no_line to.rest none))))
    where
      by : (other lines : Lines) → other ≡ [] → take 1 other ≡ take 1 lines → (lines ≡ [] → ⊥) → ⊥
      by other [] none same some_line = some_line refl
      by other (line ∷ lines) none same some_line = let strange : [] ≡ line ∷ [] = ap (take 1) (sym none) ∙ same in cc

  pub run_read : (from to : Reading) (ticks : List Tick) (w : WorldState) (history : HistoryState) (run : Run) → AreTicksRead plan plan.ticks from ticks w history to → to.rest ≡ []
      → run.world ≡ w → run.journal.ticks ≡ ticks → run.timeline.changes ≡ history.changes → IsRunRead plan from run to
  run_read from to ticks w history run before none world journal timeline =
      record {
        noted = subst (λ (v : WorldState). IsNotedRun plan plan.ticks run.journal.ticks v run.timeline.changes) (sym world)
            (subst (λ (ts : List Tick). IsNotedRun plan plan.ticks ts w run.timeline.changes) (sym journal)
            (subst (λ (cs : List PortChange). IsNotedRun plan plan.ticks ticks w cs) (sym timeline) before.noted));
        lines = before.read.lines
            ∙ (ap (λ (text : List ℕ). ticks_lines plan 0 ticks ++ lines_of text) none ∙ (append-nil (ticks_lines plan 0 ticks) ∙ ap (λ (ts : List Tick). ticks_lines plan 0 ts) (sym journal)));
      }

  -- ---- the lines of a legal journal

  answers_are : (t : ℕ) (answers : List (ℕ × WorldReply)) → AllByRecursion IsLine (answer_lines t answers)
  answers_are t [] = tt
  answers_are t (e ∷ answers) = (laws.event t e.0 (is_missed e.1), answers_are t answers)

  made_are : (t : ℕ) (n : NodeNo) (made : List NodeStep) → AllByRecursion (λ st. HasPort plan.tree (record { node = n; port = st.port })) made → AllByRecursion IsLine (made_lines plan t n made)
  made_are t n [] known = tt
  made_are t n (st ∷ made) known = (laws.line t n st known.0, made_are t n made known.1)

  steps_are : (t : ℕ) (steps : List NodeSteps) → AllByRecursion (λ ns. AllByRecursion (λ st. HasPort plan.tree (record { node = ns.node; port = st.port })) ns.steps) steps
      → AllByRecursion IsLine (steps_lines plan t steps)
  steps_are t [] known = tt
  steps_are t (ns ∷ steps) known = each_append IsLine (made_lines plan t ns.node ns.steps) (steps_lines plan t steps) (made_are t ns.node ns.steps known.0) (steps_are t steps known.1)

  ticks_are : (t u : ℕ) (w end : WorldState) (ticks : List Tick) → LeadTo (IsLegalTick plan) plan t w ticks u end → AllByRecursion IsLine (ticks_lines plan t ticks)
  ticks_are t u w end [] lead = tt
  ticks_are t u w end (tick ∷ ticks) lead =
      each_append IsLine (tick_lines plan t tick) (ticks_lines plan (suc t) ticks)
      (each_append IsLine (answer_lines t tick.events) (steps_lines plan t tick.steps) (answers_are t tick.events) (steps_are t tick.steps lead.0.known))
      (ticks_are (suc t) u (world_after (tick_events plan t tick) w) end ticks lead.1)

  pub journal_lines_are : (text : List ℕ) (ticks : List Tick) (end : WorldState) → IsJournalOf plan text ticks end → lines_of text ≡ ticks_lines plan 0 ticks
  journal_lines_are text ticks end h = ap lines_of h.text_is ∙ lines_whole (ticks_lines plan 0 ticks) (ticks_are 0 plan.ticks (world_of plan) end ticks h.legal)

  -- a text with which no legal journal agrees for so many lines is the text of none
  pub none_is : (text : List ℕ) (count : ℕ) → IsFirstIllegal plan text count → (ticks : List Tick) (end : WorldState) → IsJournalOf plan text ticks end → ⊥
  none_is text count first ticks end h = first.here (ticks, end, h.legal, ap (take (suc count)) (sym (journal_lines_are text ticks end h)))

  -- ---- what is answered

  pub legal_is : (text : List ℕ) (to : Reading) (run : Run) → IsRunRead plan (record { rest = text; read = 0; wanted = None }) run to → IsJournalOf plan text run.journal.ticks run.world
  legal_is text to run h = record { legal = h.noted.leads; text_is = sym (lines_join text) ∙ ap whole_of h.lines }

  pub first_is : (text : List ℕ) (to : Reading) → IsStuck (FollowTicks plan 0 (world_of plan)) (record { rest = text; read = 0; wanted = None }) to → IsFirstIllegal plan text to.read
  first_is text to stuck =
      let reached = stuck.reached in
      let same : stuck.count ≡ to.read = omega (arith, reached) in
      let follow = stuck.before.1 in
      subst (IsFirstIllegal plan text) same (record {
        before = (follow.ticks, follow.end, follow.lead, ap (take stuck.count) (sym follow.are) ∙ stuck.before.2);
        here = λ agrees. stuck.here (ticks_lines plan 0 agrees.0, record { ticks = agrees.0; end = agrees.1; lead = agrees.2; are = refl }, agrees.3);
      })

  pub goes_on : (text : List ℕ) (to : Reading) → IsStuck (FollowTicks plan 0 (world_of plan)) (record { rest = text; read = 0; wanted = None }) to → GoesOnWith plan text to.read to.wanted
  goes_on text to stuck =
      let reached = stuck.reached in
      let same : stuck.count ≡ to.read = omega (arith, reached) in
      let follow = stuck.before.1 in
      subst (λ (count : ℕ). GoesOnWith plan text count to.wanted) same (record {
        ticks = follow.ticks;
        end = follow.end;
        run = follow.lead;
        agree = ap (take stuck.count) (sym follow.are) ∙ stuck.before.2;
        next = ap (λ (ls : Lines). slice_get ls stuck.count) (sym follow.are) ∙ stuck.before.3;
      })
