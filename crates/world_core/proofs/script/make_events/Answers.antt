use Rattle.std.proofs.Common.{◌≡◌, ◌<◌, ℕ, suc, List, length, map, get_or, refl, sym, ap, subst, ◌∙◌, arith}
use Rattle.std.proofs.lemmas.Option.{IfSome_then}
use Rattle.topology_file.specs.declared.entries.EventEntry.{EventEntry}
use Rattle.topology_file.specs.{Kinds.IsKnownKind, Plan.Plan}
use Rattle.world_core.specs.{WorldReply, event_of, script_at, IsCursor}
use Rattle.world_core.proofs.Scripts.{IsScripted, begins, one_entry, stops, runs_out, numbers_are, answers_are}
use Rattle.world_core.proofs.script.make_events.Goals as goal

pub loop-i-init : goal.loop-i-init
loop-i-init c =
    subst (IsScripted c.args.scenario.now c.args.t c.args.cursor.now c.args.world.now c.args.world.now) (sym c.new-answers.ensures.items)
    (begins c.args.scenario.now c.args.t c.args.cursor.now c.args.world.now c.requires.during c.requires.cursor)

pub returns-then-entry-t-clause-numbers : goal.returns-then-entry-t-clause-numbers
returns-then-entry-t-clause-numbers c =
    let plan = c.args.scenario.now in
    let e = c.index-events-i.result in
    let events = c.as_slice-events.ensures ∙ ap (λ (p : Plan). p.events) c.scenario.view_is in
    let test = c.loop-i-test.true in
    let lt : c.loop-i.i < length plan.events = omega (arith, test, ap length events) in
    let here : e ≡ get_or plan.events c.loop-i.i e = c.index-events-i.is ∙ ap (λ (es : List EventEntry). get_or es c.loop-i.i e) events in
    let done = (stops plan c.args.t c.loop-i.i c.args.world.now c.loop-i.world e c.loop-i.answers.items c.keeps_rules.ensures.events_order lt here c.if-entry-t.true c.loop-i.invariant).0 in
    ap (λ (es : List (ℕ × WorldReply)). map (λ e. e.0) es) done ∙ numbers_are (script_at plan c.args.t) c.args.world.now

pub returns-then-entry-t-clause-answers : goal.returns-then-entry-t-clause-answers
returns-then-entry-t-clause-answers c =
    let plan = c.args.scenario.now in
    let e = c.index-events-i.result in
    let events = c.as_slice-events.ensures ∙ ap (λ (p : Plan). p.events) c.scenario.view_is in
    let test = c.loop-i-test.true in
    let lt : c.loop-i.i < length plan.events = omega (arith, test, ap length events) in
    let here : e ≡ get_or plan.events c.loop-i.i e = c.index-events-i.is ∙ ap (λ (es : List EventEntry). get_or es c.loop-i.i e) events in
    let done = (stops plan c.args.t c.loop-i.i c.args.world.now c.loop-i.world e c.loop-i.answers.items c.keeps_rules.ensures.events_order lt here c.if-entry-t.true c.loop-i.invariant).0 in
    ap (λ (es : List (ℕ × WorldReply)). map (λ e. e.1) es) done ∙ answers_are (script_at plan c.args.t) c.args.world.now

pub returns-then-entry-t-clause-after : goal.returns-then-entry-t-clause-after
returns-then-entry-t-clause-after c =
    let plan = c.args.scenario.now in
    let e = c.index-events-i.result in
    let events = c.as_slice-events.ensures ∙ ap (λ (p : Plan). p.events) c.scenario.view_is in
    let test = c.loop-i-test.true in
    let lt : c.loop-i.i < length plan.events = omega (arith, test, ap length events) in
    let here : e ≡ get_or plan.events c.loop-i.i e = c.index-events-i.is ∙ ap (λ (es : List EventEntry). get_or es c.loop-i.i e) events in
    (stops plan c.args.t c.loop-i.i c.args.world.now c.loop-i.world e c.loop-i.answers.items c.keeps_rules.ensures.events_order lt here c.if-entry-t.true c.loop-i.invariant).1

pub returns-then-entry-t-clause-cursor : goal.returns-then-entry-t-clause-cursor
returns-then-entry-t-clause-cursor c =
    let plan = c.args.scenario.now in
    let e = c.index-events-i.result in
    let events = c.as_slice-events.ensures ∙ ap (λ (p : Plan). p.events) c.scenario.view_is in
    let test = c.loop-i-test.true in
    let lt : c.loop-i.i < length plan.events = omega (arith, test, ap length events) in
    let here : e ≡ get_or plan.events c.loop-i.i e = c.index-events-i.is ∙ ap (λ (es : List EventEntry). get_or es c.loop-i.i e) events in
    (stops plan c.args.t c.loop-i.i c.args.world.now c.loop-i.world e c.loop-i.answers.items c.keeps_rules.ensures.events_order lt here c.if-entry-t.true c.loop-i.invariant).2

pub make_entry-requires-clause-can : goal.make_entry-requires-clause-can
make_entry-requires-clause-can c =
    let plan = c.args.scenario.now in
    let e = c.index-events-i.result in
    let events = c.as_slice-events.ensures ∙ ap (λ (p : Plan). p.events) c.scenario.view_is in
    let test = c.loop-i-test.true in
    let lt : c.loop-i.i < length plan.events = omega (arith, test, ap length events) in
    let here : e ≡ get_or plan.events c.loop-i.i e = c.index-events-i.is ∙ ap (λ (es : List EventEntry). get_or es c.loop-i.i e) events in
    let known = subst (λ (x : EventEntry). IsKnownKind plan.nodes plan.links plan.streams x.kind) (sym here) (c.keeps_rules.ensures.events_known c.loop-i.i e lt) in
    IfSome_then (event_of plan.tree.links plan.streams e.kind) (c.what_is_allowed_may_happen.ensures.known plan e.kind c.keeps_rules.ensures known)
    (λ r ok. c.what_is_allowed_may_happen.ensures.can plan.tree c.args.t r c.loop-i.world ok c.loop-i.invariant.during)

pub loop-i-preserved : goal.loop-i-preserved
loop-i-preserved c =
    let plan = c.args.scenario.now in
    let e = c.index-events-i.result in
    let events = c.as_slice-events.ensures ∙ ap (λ (p : Plan). p.events) c.scenario.view_is in
    let test = c.loop-i-test.true in
    let lt : c.loop-i.i < length plan.events = omega (arith, test, ap length events) in
    let here : e ≡ get_or plan.events c.loop-i.i e = c.index-events-i.is ∙ ap (λ (es : List EventEntry). get_or es c.loop-i.i e) events in
    let known = subst (λ (x : EventEntry). IsKnownKind plan.nodes plan.links plan.streams x.kind) (sym here) (c.keeps_rules.ensures.events_known c.loop-i.i e lt) in
    one_entry plan c.args.t c.loop-i.i c.args.world.now c.loop-i.world c.make_entry.new.world e e.kind c.loop-i.answers.items c.make_entry.new.answers.items
    c.keeps_rules.ensures.events_order lt here c.if-entry-t.false refl (c.what_is_allowed_may_happen.ensures.known plan e.kind c.keeps_rules.ensures known)
    (λ r ok. c.what_is_allowed_may_happen.ensures.stays plan.tree c.args.t r c.loop-i.world ok c.loop-i.invariant.during)
    c.in_ok-make_entry.ensures.after c.in_ok-make_entry.ensures.answer c.loop-i.invariant

pub returns-clause-cursor : goal.returns-clause-cursor
returns-clause-cursor c =
    let plan = c.args.scenario.now in
    let events = c.as_slice-events.ensures ∙ ap (λ (p : Plan). p.events) c.scenario.view_is in
    let test = c.loop-i-test.false in
    let many = ap length events in
    let within = c.requires.cursor.within in
    let last = c.loop-i.auto.i-end (omega (arith, within, many)) in
    let all : c.loop-i.i ≡ length plan.events = omega (arith, test, last, many) in
    let end : c.loop-i.i ≡ length c.as_slice-events.result.now = omega (arith, test, last) in
    subst (IsCursor plan.events (suc c.args.t)) end
    (runs_out plan c.args.t c.loop-i.i c.args.world.now c.loop-i.world c.loop-i.answers.items all c.loop-i.invariant).2

pub returns-clause-numbers : goal.returns-clause-numbers
returns-clause-numbers c =
    let plan = c.args.scenario.now in
    let events = c.as_slice-events.ensures ∙ ap (λ (p : Plan). p.events) c.scenario.view_is in
    let test = c.loop-i-test.false in
    let many = ap length events in
    let within = c.requires.cursor.within in
    let last = c.loop-i.auto.i-end (omega (arith, within, many)) in
    let all : c.loop-i.i ≡ length plan.events = omega (arith, test, last, many) in
    let done = (runs_out plan c.args.t c.loop-i.i c.args.world.now c.loop-i.world c.loop-i.answers.items all c.loop-i.invariant).0 in
    ap (λ (es : List (ℕ × WorldReply)). map (λ e. e.0) es) done ∙ numbers_are (script_at plan c.args.t) c.args.world.now

pub returns-clause-answers : goal.returns-clause-answers
returns-clause-answers c =
    let plan = c.args.scenario.now in
    let events = c.as_slice-events.ensures ∙ ap (λ (p : Plan). p.events) c.scenario.view_is in
    let test = c.loop-i-test.false in
    let many = ap length events in
    let within = c.requires.cursor.within in
    let last = c.loop-i.auto.i-end (omega (arith, within, many)) in
    let all : c.loop-i.i ≡ length plan.events = omega (arith, test, last, many) in
    let done = (runs_out plan c.args.t c.loop-i.i c.args.world.now c.loop-i.world c.loop-i.answers.items all c.loop-i.invariant).0 in
    ap (λ (es : List (ℕ × WorldReply)). map (λ e. e.1) es) done ∙ answers_are (script_at plan c.args.t) c.args.world.now
