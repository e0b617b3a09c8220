use Rattle.std.proofs.Common.{◌≤◌, ◌∙◌, sym, ap, subst}
use Rattle.std.specs.List.{list_any}
use Rattle.msrp.specs.{Streams, IsKept, clocked_streams, shows_at, SideHolding, ports_in, streams_of}
use Rattle.msrp.proofs.Clocked.{moments_before, passed_is}
use Rattle.msrp.proofs.side.MsrpSide.pass.Goals as goal

pub clock_all-requires : goal.clock_all-requires
clock_all-requires c =
    moments_before c.self.inside.moment.0 c.args.now.0 (ports_in c.self.inside.ports.items) (rw (ap (λ (v : SideHolding). v.state.moment) c.self.view_is) c.requires.moment) c.self.invariant.0.ports

pub invariant_of-self : goal.invariant_of-self
invariant_of-self c =
    let before : Streams = streams_of c.self.inside.ports.items c.self.inside.awaiting.items c.self.inside.talks.items c.self.inside.listens.items c.self.inside.moment.0 in
    let up : before.moment ≤ c.args.now.0 = rw (ap (λ (v : SideHolding). v.state.moment) c.self.view_is) c.requires.moment in
    let passed = passed_is before c.self.invariant.0 c.args.now.0 (ports_in c.clock_all.new.ports.items)
    (ap (λ (v : SideHolding). list_any (shows_at c.args.now.0) v.state.ports) c.self.view_is ∙ c.requires.still) c.clock_all.ensures in
    (subst IsKept (sym passed) (c.every_call_keeps_a_side.ensures.clock c.args.now.0 before up c.self.invariant.0), tt)

pub returns-clause-state : goal.returns-clause-state
returns-clause-state c =
    let before : Streams = streams_of c.self.inside.ports.items c.self.inside.awaiting.items c.self.inside.talks.items c.self.inside.listens.items c.self.inside.moment.0 in
    passed_is before c.self.invariant.0 c.args.now.0 (ports_in c.clock_all.new.ports.items)
    (ap (λ (v : SideHolding). list_any (shows_at c.args.now.0) v.state.ports) c.self.view_is ∙ c.requires.still) c.clock_all.ensures
    ∙ ap (λ (v : SideHolding). clocked_streams c.args.now.0 v.state) c.self.view_is
