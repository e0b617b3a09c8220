use Rattle.std.proofs.Common.{◌≡◌, ◌<◌, ℕ, suc, List, [], ◌∷◌, ◌++◌, length, get_or, sym, ap, subst, ◌∙◌, arith}
use Rattle.group_file.specs.declared.entries.GroupEntry.{GroupEntry}
use Rattle.group_file.specs.{Events.IsKnownGroup, Plan.GroupPlan}
use Rattle.mmrp.specs.declared.events.GroupEvent.{GroupEvent}
use Rattle.group_run.specs.{NamesNeighbours, IsCursor, event_of}
use Rattle.group_run.proofs.Scripts.{IsScripted, StandsAt, begins, one_entry, stops, runs_out}
use Rattle.group_run.proofs.script.script_of.Goals as goal

pub loop-i-init : goal.loop-i-init
loop-i-init c =
    subst (IsScripted c.args.scenario.now c.args.now.0 c.args.cursor.now) (sym c.new-script.ensures.items)
    (begins c.args.scenario.now c.args.now.0 c.args.cursor.now c.requires)

-- the entry that is read stands at the loop's place
at_place : (plan : GroupPlan) (slice : List GroupEntry) (i : ℕ) (e : GroupEntry) → slice ≡ plan.events → i < length slice → e ≡ get_or slice i e → StandsAt plan.events i e
at_place plan slice i e events lt is =
    subst (λ (es : List GroupEntry). StandsAt es i e) events (record { below = lt; is = is })

pub returns-then-entry-now-clause-events : goal.returns-then-entry-now-clause-events
returns-then-entry-now-clause-events c =
    let plan = c.args.scenario.now in
    let e = c.index-events-i.result in
    let test = c.loop-i-test.true in
    let here = at_place plan c.as_slice-events.result.now c.loop-i.i e (c.as_slice-events.ensures ∙ ap (λ (p : GroupPlan). p.events) c.scenario.view_is) (omega (arith, test)) c.index-events-i.is in
    (stops plan c.args.now.0 c.loop-i.i e c.loop-i.script.items c.keeps_rules.ensures.events_order here c.if-entry-now.true c.loop-i.invariant).0

pub returns-then-entry-now-clause-cursor : goal.returns-then-entry-now-clause-cursor
returns-then-entry-now-clause-cursor c =
    let plan = c.args.scenario.now in
    let e = c.index-events-i.result in
    let test = c.loop-i-test.true in
    let here = at_place plan c.as_slice-events.result.now c.loop-i.i e (c.as_slice-events.ensures ∙ ap (λ (p : GroupPlan). p.events) c.scenario.view_is) (omega (arith, test)) c.index-events-i.is in
    (stops plan c.args.now.0 c.loop-i.i e c.loop-i.script.items c.keeps_rules.ensures.events_order here c.if-entry-now.true c.loop-i.invariant).1

pub event_of-requires : goal.event_of-requires
event_of-requires c =
    let plan = c.args.scenario.now in
    let e = c.index-events-i.result in
    let test = c.loop-i-test.true in
    let here = at_place plan c.as_slice-events.result.now c.loop-i.i e (c.as_slice-events.ensures ∙ ap (λ (p : GroupPlan). p.events) c.scenario.view_is) (omega (arith, test)) c.index-events-i.is in
    let known = subst (λ (x : GroupEntry). IsKnownGroup plan.nodes plan.links x.kind) (sym here.is) (c.keeps_rules.ensures.events_known c.loop-i.i e here.below) in
    subst (λ (p : GroupPlan). NamesNeighbours p.tree.links e.kind) (sym c.scenario.view_is) (c.what_events_name_are_neighbours.ensures plan e.kind c.keeps_rules.ensures known)

pub loop-i-preserved : goal.loop-i-preserved
loop-i-preserved c =
    let plan = c.args.scenario.now in
    let e = c.index-events-i.result in
    let test = c.loop-i-test.true in
    let here = at_place plan c.as_slice-events.result.now c.loop-i.i e (c.as_slice-events.ensures ∙ ap (λ (p : GroupPlan). p.events) c.scenario.view_is) (omega (arith, test)) c.index-events-i.is in
    one_entry plan c.args.now.0 c.loop-i.i e c.loop-i.script.items _ here c.if-entry-now.false
    (c.in_ok-push.ensures.items
    ∙ ap (λ (made : GroupEvent). c.loop-i.script.items ++ made ∷ []) (c.event_of.ensures ∙ ap (λ (p : GroupPlan). event_of p.tree.links e.kind) c.scenario.view_is))
    c.loop-i.invariant

pub returns-clause-events : goal.returns-clause-events
returns-clause-events c =
    let plan = c.args.scenario.now in
    let events = c.as_slice-events.ensures ∙ ap (λ (p : GroupPlan). p.events) c.scenario.view_is in
    let test = c.loop-i-test.false in
    let many = ap length events in
    let within = c.requires.within in
    let last = c.loop-i.auto.i-end (omega (arith, within, many)) in
    (runs_out plan c.args.now.0 c.loop-i.i c.loop-i.script.items (omega (arith, test, last, many)) c.loop-i.invariant).0

pub returns-clause-cursor : goal.returns-clause-cursor
returns-clause-cursor c =
    let plan = c.args.scenario.now in
    let events = c.as_slice-events.ensures ∙ ap (λ (p : GroupPlan). p.events) c.scenario.view_is in
    let test = c.loop-i-test.false in
    let many = ap length events in
    let within = c.requires.within in
    let last = c.loop-i.auto.i-end (omega (arith, within, many)) in
    let end : c.loop-i.i ≡ length c.as_slice-events.result.now = omega (arith, test, last) in
    subst (IsCursor plan.events (suc c.args.now.0)) end
    (runs_out plan c.args.now.0 c.loop-i.i c.loop-i.script.items (omega (arith, test, last, many)) c.loop-i.invariant).1
