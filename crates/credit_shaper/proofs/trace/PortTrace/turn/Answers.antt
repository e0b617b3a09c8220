-- The credits are in range, and the trace moves on as the port does.
use Rattle.std.proofs.Common.{◌≡◌, ℕ, ◌+◌, ◌-◌, List, sym, ◌∙◌, ap, subst, arith}
use Rattle.credit_shaper.specs.{PortInput, Departure, PortTrace, IsInRange, within_bit, port_in, HasReached, port_of}
use Rattle.credit_shaper.proofs.{PortLemmas.in_range, TraceLemmas.reached_moved, QuietLemmas.moved_port}
use Rattle.credit_shaper.proofs.trace.PortTrace.turn.Goals as goal

pub goes_on-requires-clause-credits : goal.goes_on-requires-clause-credits
goes_on-requires-clause-credits c =
    let here : port_of c.args.input.now.arrivals c.in_bit.new.sent.items c.in_ok-in_bit.field-0 ≡ port_in c.args.input.now c.args.self.bit =
    c.in_ok-in_bit.ensures.port ∙ ap (within_bit c.args.input.now c.args.self.bit) c.requires.port in
    subst IsInRange (sym (ap (λ p. p.shaper) here)) (in_range c.args.input.now c.args.self.bit c.requires.input (omega (arith, c.requires.input.end)))

pub returns-clause-port : goal.returns-clause-port
returns-clause-port c =
    let input : PortInput = c.args.input.now in
    let trace : PortTrace = c.in_ok-in_bit.field-0 in
    let sent : List Departure = c.in_bit.new.sent.items in
    let next : ℕ = c.goes_on.result.bit in
    let bit : trace.bit ≡ c.args.self.bit = c.in_ok-in_bit.ensures.bit in
    let here : port_of input.arrivals sent trace ≡ port_in input trace.bit =
    c.in_ok-in_bit.ensures.port ∙ (ap (within_bit input c.args.self.bit) c.requires.port ∙ ap (port_in input) (sym bit)) in
    let now : HasReached input (trace.bit + 1) trace =
    subst (λ (t : ℕ). HasReached input (t + 1) trace) (sym bit) c.in_ok-in_bit.ensures.reached in
    ap (port_of input.arrivals sent) c.goes_on.ensures.moved
    ∙ moved_port input sent trace next c.in_ok-in_bit.ensures.heads now c.goes_on.ensures.reached c.goes_on.ensures.quiet c.goes_on.ensures.later here

pub returns-clause-reached : goal.returns-clause-reached
returns-clause-reached c =
    let trace : PortTrace = c.in_ok-in_bit.field-0 in
    let next : ℕ = c.goes_on.result.bit in
    subst (λ (t : PortTrace). HasReached c.args.input.now next t) (sym c.goes_on.ensures.moved)
    (reached_moved c.args.input.now next next (next - trace.bit) trace c.goes_on.ensures.reached)
