-- The earliest of three moments, each after this bit time.
use Rattle.std.proofs.Common.{◌+◌, ◌≤◌, List, length, sym, subst, arith}
use Rattle.std.specs.List.{AllWithin}
use Rattle.credit_shaper.specs.{SlopeChange, Arrival}
use Rattle.credit_shaper.proofs.TraceLemmas.{reached_until, quiet_until}
use Rattle.credit_shaper.proofs.trace.PortTrace.next_moment.Goals as goal

pub returns-clause-later : goal.returns-clause-later
returns-clause-later c =
    let comes : c.args.self.now.bit + 1 ≤ c.next_arrival-comes.result =
    c.next_arrival-comes.ensures.later (c.args.self.now.bit + 1) (omega arith)
    (subst (λ (xs : List Arrival). AllWithin (λ x. c.args.self.now.bit + 1 ≤ x.bit) xs c.args.self.now.came (length xs)) (sym c.as_slice.ensures) c.requires.reached.arrivals.later) in
    let changes : c.args.self.now.bit + 1 ≤ c.next_change-changes.result =
    c.next_change-changes.ensures.later (c.args.self.now.bit + 1) (omega arith)
    (subst (λ (xs : List SlopeChange). AllWithin (λ x. c.args.self.now.bit + 1 ≤ x.bit) xs c.args.self.now.changed (length xs)) (sym c.as_slice-2.ensures) c.requires.reached.changes.later) in
    omega (arith, comes, changes)

pub returns-clause-reached : goal.returns-clause-reached
returns-clause-reached c =
    let later = returns-clause-later c in
    let arrivals : AllWithin (λ x. c.next_arrival-comes.result ≤ x.bit) c.args.input.now.arrivals c.args.self.now.came (length c.args.input.now.arrivals) =
    subst (λ (xs : List Arrival). AllWithin (λ x. c.next_arrival-comes.result ≤ x.bit) xs c.args.self.now.came (length xs)) c.as_slice.ensures c.next_arrival-comes.ensures.before in
    let changes : AllWithin (λ x. c.next_change-changes.result ≤ x.bit) c.args.input.now.slopes c.args.self.now.changed (length c.args.input.now.slopes) =
    subst (λ (xs : List SlopeChange). AllWithin (λ x. c.next_change-changes.result ≤ x.bit) xs c.args.self.now.changed (length xs)) c.as_slice-2.ensures c.next_change-changes.ensures.before in
    reached_until c.args.input.now c.args.self.now (c.args.self.now.bit + 1) _ c.requires.reached (omega (arith, later))
    (λ k d from to. omega (arith, arrivals k d from to)) (λ k d from to. omega (arith, changes k d from to))

pub returns-clause-quiet : goal.returns-clause-quiet
returns-clause-quiet c = quiet_until c.args.self.now _ c.next_start-starts.result (omega arith) c.next_start-starts.ensures.quiet
