-- A legal run of a scenario has one flow of frames, and its journal's text is the one that an audit reads.
use Rattle.std.proofs.Common.{◌≡◌, ℕ, suc, ◌+◌, ◌<◌, inl, inr, List, [], ◌∷◌, ◌++◌, length, map, flat_map, take, Option, Some, None, refl, sym, ◌∙◌, ap, subst, arith, append_assoc}
use Rattle.std.specs.Prelude.{AllPairs, codes, ◌==◌}
use Rattle.std.specs.List.{list_any}
use Rattle.std.proofs.lemmas.Option.{slice_get_cases}
use Rattle.srp_base.specs.Text.{whole_of}
use Rattle.srp_base.specs.declared.{numbers.EgressPort.EgressPort, numbers.StreamId.StreamId, ports.PortChange.PortChange}
use Rattle.tree_topology.specs.Topology.{HasPort, IsSound}
use Rattle.frame_flow.specs.declared.result.PortFlow.{PortFlow}
use Rattle.frame_flow.specs.{Flow.Setting, Flow.IsFlow, Force.changes_at, Force.first_slopes, Force.has_booked, Force.has_vid, Force.in_force, Given.IsEarlier, Laws.IsSameForce, Laws.SayTheSame}
use Rattle.topology_file.specs.{Plan.Plan, Scenario.KeepsRules}
use Rattle.scenario_frames.specs.Setting.{setting_of}
use Rattle.world_core.specs.declared.{journal.NodeSteps.NodeSteps, journal.Tick.Tick}
use Rattle.world_core.specs.{Reservation.Reservation, Reservation.said_by, Start.world_of, Ticks.AreLegalTicks, Ticks.IsLegalTick, Ticks.LeadTo, Ticks.after_steps, Ticks.tick_events, Timeline.IsAfterSteps, Timeline.IsTimelineOf, Timeline.world_after_ticks, World.WorldState, World.world_after}
use Rattle.journal_lines.specs.Lines.{line_at}
use Rattle.journal_audit.specs.Journal as audited
use Rattle.srp_report.specs.JournalText as printed
use Rattle.srp_report.specs.Report.{report_text}
use Rattle.srpnet.specs.AuditParts.{AuditParts}
use Rattle.srpnet.specs.{IsApproved, HoldsThroughout, IsRun}

-- ---- one flow

pub ticks_from : (plan : Plan) (ticks : List Tick) (t : ℕ) (w end : WorldState) → LeadTo (IsLegalTick plan) plan t w ticks plan.ticks end → t + length ticks ≡ plan.ticks
ticks_from plan [] t w end h = let is = h.0 in omega (arith, is)
ticks_from plan (tick ∷ ticks) t w end h = let rest = ticks_from plan ticks (suc t) (world_after (tick_events plan t tick) w) end h.1 in omega (arith, rest)

booked_said : (stream : StreamId) (f : Option PortChange) → has_booked stream f ≡ list_any (λ s. s.0 == stream.0) (said_by f).booked
booked_said stream None = refl
booked_said stream (Some c) = refl

vid_said : (vid : ℕ) (f : Option PortChange) → has_vid vid f ≡ list_any (λ v. v == vid) (said_by f).vids
vid_said vid None = refl
vid_said vid (Some c) = refl

slope_a_said : (f : Option PortChange) → (first_slopes f).slope_a ≡ (said_by f).slope_a
slope_a_said None = refl
slope_a_said (Some c) = refl

slope_b_said : (f : Option PortChange) → (first_slopes f).slope_b ≡ (said_by f).slope_b
slope_b_said None = refl
slope_b_said (Some c) = refl

-- where changes say the same, the same is in force
same_force : (f g : Option PortChange) → said_by f ≡ said_by g → IsSameForce f g
same_force f g is = record {
  booked = λ stream. booked_said stream f ∙ ap (λ (x : Reservation). list_any (λ (s : StreamId). s.0 == stream.0) x.booked) is ∙ sym (booked_said stream g);
  vids = λ vid. vid_said vid f ∙ ap (λ (x : Reservation). list_any (λ (v : ℕ). v == vid) x.vids) is ∙ sym (vid_said vid g);
  slope_a = slope_a_said f ∙ ap (λ (x : Reservation). x.slope_a) is ∙ sym (slope_a_said g);
  slope_b = slope_b_said f ∙ ap (λ (x : Reservation). x.slope_b) is ∙ sym (slope_b_said g);
}

-- two timelines of one run say the same of a port in each tick
say_the_same : (plan : Plan) (ticks : List Tick) (end : WorldState) (one other : List PortChange) → AreLegalTicks plan ticks end
    → IsTimelineOf plan ticks one → IsTimelineOf plan ticks other → (p : EgressPort) → HasPort plan.tree p → SayTheSame plan.ticks one other p
say_the_same plan ticks end one other legal is_one is_other p there t lt =
    let many = ticks_from plan ticks 0 (world_of plan) end legal in
    elim (slice_get_cases ticks t).1 [
      | inl is ↦ (
          let tick = is.0 in
          let w = after_steps plan t tick (world_after_ticks plan (take t ticks)) in
          let after : IsAfterSteps plan ticks t w = record { tick = tick; at = is.2; reached = refl } in
          same_force (in_force t (changes_at one p)) (in_force t (changes_at other p)) (is_one.gives t w p after there ∙ sym (is_other.gives t w p after there)))
      | inr past ↦ (let le = past.0 in absurd (omega (arith, le, many, lt)))
    ]

pub one_run : ((s : Setting) (one other : List PortFlow) → IsSound s.tree → IsFlow s one → IsFlow s other → one ≡ other)
    → ((s : Setting) (changes : List PortChange) (flows : List PortFlow) → IsSound s.tree → 0 < s.ticks → AllPairs IsEarlier s.changes → AllPairs IsEarlier changes
    → ((p : EgressPort) → HasPort s.tree p → SayTheSame s.ticks s.changes changes p) → IsFlow s flows → IsFlow (record s { changes = changes }) flows)
    → (plan : Plan) (ticks : List Tick) (world : WorldState) (changes others : List PortChange) (flows last : List PortFlow) → KeepsRules plan
    → IsRun AreLegalTicks plan ticks world changes flows → IsRun AreLegalTicks plan ticks world others last → flows ≡ last
one_run one_flow decides plan ticks world changes others flows last rules here there =
    let sound : IsSound plan.tree = subst IsSound (sym rules.tree) rules.accepted in
    let some = rules.ticks.0 in
    one_flow (setting_of plan others) flows last sound
    (decides (setting_of plan changes) others flows sound (omega (arith, some)) here.in_force.are.ascend there.in_force.are.ascend
    (say_the_same plan ticks world changes others here.lead here.in_force there.in_force) here.flow) there.flow

-- ---- one journal

whole_append : (xs ys : List (List ℕ)) → whole_of (xs ++ ys) ≡ whole_of xs ++ whole_of ys
whole_append [] ys = refl
whole_append (x ∷ xs) ys = ap (λ (l : List ℕ). x ++ l) (whole_append xs ys) ∙ sym (append_assoc x (whole_of xs) (whole_of ys))

whole_map : {X : Type 0} (f : X → List ℕ) (xs : List X) → whole_of (map f xs) ≡ flat_map f xs
whole_map f [] = refl
whole_map f (x ∷ xs) = ap (λ (l : List ℕ). f x ++ l) (whole_map f xs)

steps_printed : (plan : Plan) (t : ℕ) (nodes : List NodeSteps) → flat_map (printed.step_lines plan t) nodes ≡ whole_of (audited.steps_lines plan t nodes)
steps_printed plan t [] = refl
steps_printed plan t (ns ∷ nodes) =
    let made = audited.made_lines plan t ns.node ns.steps in
    ap (λ (l : List ℕ). l ++ flat_map (printed.step_lines plan t) nodes) (sym (whole_map (line_at plan t ns.node) ns.steps))
    ∙ ap (λ (l : List ℕ). whole_of made ++ l) (steps_printed plan t nodes)
    ∙ sym (whole_append made (audited.steps_lines plan t nodes))

tick_printed : (plan : Plan) (t : ℕ) (tick : Tick) → printed.tick_lines plan t tick ≡ whole_of (audited.tick_lines plan t tick)
tick_printed plan t tick =
    let answers = audited.answer_lines t tick.events in
    ap (λ (l : List ℕ). l ++ flat_map (printed.step_lines plan t) tick.steps) (sym (whole_map (audited.answer_line t) tick.events))
    ∙ ap (λ (l : List ℕ). whole_of answers ++ l) (steps_printed plan t tick.steps)
    ∙ sym (whole_append answers (audited.steps_lines plan t tick.steps))

ticks_printed : (plan : Plan) (t : ℕ) (ticks : List Tick) → printed.ticks_lines plan t ticks ≡ whole_of (audited.ticks_lines plan t ticks)
ticks_printed plan t [] = refl
ticks_printed plan t (tick ∷ ticks) =
    let next : t + 1 ≡ suc t = omega arith in
    let lines = audited.tick_lines plan t tick in
    ap (λ (l : List ℕ). l ++ printed.ticks_lines plan (t + 1) ticks) (tick_printed plan t tick)
    ∙ ap (λ (n : ℕ). whole_of lines ++ printed.ticks_lines plan n ticks) next
    ∙ ap (λ (l : List ℕ). whole_of lines ++ l) (ticks_printed plan (suc t) ticks)
    ∙ sym (whole_append lines (audited.ticks_lines plan (suc t) ticks))

pub journal_printed : (plan : Plan) (ticks : List Tick) → printed.journal_text plan ticks ≡ codes "journal\n" ++ audited.journal_text plan ticks
journal_printed plan ticks = ap (λ (l : List ℕ). codes "journal\n" ++ l) (ticks_printed plan 0 ticks)

pub approved : (plan : Plan) (ticks : List Tick) (world : WorldState) (changes : List PortChange) (flows : List PortFlow) (parts : AuditParts)
    → IsRun AreLegalTicks plan ticks world changes flows → HoldsThroughout plan ticks flows → parts.report ≡ report_text plan world ticks flows
    → parts.journal ≡ audited.journal_text plan ticks → IsApproved plan parts
approved plan ticks world changes flows parts run holds report journal = record {
  ticks = ticks;
  world = world;
  flows = flows;
  run = record { changes = changes; run = run; spelled = journal; holds = holds };
  reported = report;
}
