-- The credits are in range, the trace moves on as the port does, and up to its moment the port is alike.
use Rattle.std.proofs.Common.{◌≡◌, ℕ, ◌+◌, ◌-◌, List, sym, ◌∙◌, ap, subst, arith}
use Rattle.credit_shaper.specs.{PortInput, Departure, PortTrace, Piece, IsInRange, within_bit, port_in, IsPiece, HasReached, port_of, piece_of}
use Rattle.credit_shaper.proofs.{PieceLemmas.piece_is, PortLemmas.in_range, TraceLemmas.reached_moved, QuietLemmas.moved_port}
use Rattle.credit_shaper.proofs.trace.PortTrace.piece.Goals as goal

pub goes_on-next-requires-clause-credits : goal.goes_on-next-requires-clause-credits
goes_on-next-requires-clause-credits c =
    let here : port_of c.args.input.now.arrivals c.in_bit.new.sent.items c.in_ok-within.within ≡ port_in c.args.input.now c.args.self.bit =
    c.in_ok-within.ensures.port ∙ ap (within_bit c.args.input.now c.args.self.bit) c.requires.port in
    subst IsInRange (sym (ap (λ p. p.shaper) here)) (in_range c.args.input.now c.args.self.bit c.requires.input (omega (arith, c.requires.input.end)))

pub returns-clause-reached : goal.returns-clause-reached
returns-clause-reached c =
    let trace : PortTrace = c.in_ok-within.within in
    let next : ℕ = c.goes_on-next.result.bit in
    subst (λ (t : PortTrace). HasReached c.args.input.now next t) (sym c.goes_on-next.ensures.moved)
    (reached_moved c.args.input.now next next (next - trace.bit) trace c.goes_on-next.ensures.reached)

pub returns-clause-port : goal.returns-clause-port
returns-clause-port c =
    let input : PortInput = c.args.input.now in
    let trace : PortTrace = c.in_ok-within.within in
    let sent : List Departure = c.in_bit.new.sent.items in
    let next : ℕ = c.goes_on-next.result.bit in
    let bit : trace.bit ≡ c.args.self.bit = c.in_ok-within.ensures.bit in
    let here : port_of input.arrivals sent trace ≡ port_in input trace.bit =
    c.in_ok-within.ensures.port ∙ (ap (within_bit input c.args.self.bit) c.requires.port ∙ ap (port_in input) (sym bit)) in
    let now : HasReached input (trace.bit + 1) trace =
    subst (λ (t : ℕ). HasReached input (t + 1) trace) (sym bit) c.in_ok-within.ensures.reached in
    ap (port_of input.arrivals sent) c.goes_on-next.ensures.moved
    ∙ moved_port input sent trace next c.in_ok-within.ensures.heads now c.goes_on-next.ensures.reached c.goes_on-next.ensures.quiet c.goes_on-next.ensures.later here

pub returns-clause-pieces : goal.returns-clause-pieces
returns-clause-pieces c =
    let input : PortInput = c.args.input.now in
    let trace : PortTrace = c.in_ok-within.within in
    let sent : List Departure = c.in_bit.new.sent.items in
    let next : ℕ = c.goes_on-next.result.bit in
    let bit : trace.bit ≡ c.args.self.bit = c.in_ok-within.ensures.bit in
    let here : port_of input.arrivals sent trace ≡ port_in input trace.bit =
    c.in_ok-within.ensures.port ∙ (ap (within_bit input c.args.self.bit) c.requires.port ∙ ap (port_in input) (sym bit)) in
    let now : HasReached input (trace.bit + 1) trace =
    subst (λ (t : ℕ). HasReached input (t + 1) trace) (sym bit) c.in_ok-within.ensures.reached in
    let is : c.piece_of.result ≡ piece_of (next - trace.bit) trace = c.piece_of.ensures in
    let one : IsPiece input (piece_of (next - trace.bit) trace) =
    piece_is input sent trace next c.requires.input (omega (arith, bit)) c.in_ok-within.ensures.heads now c.goes_on-next.ensures.reached
    c.goes_on-next.ensures.quiet c.goes_on-next.ensures.later here in (
      c.piece_of.result,
      c.in_ok-push.ensures.items,
      ap (λ (p : Piece). p.bit) is ∙ bit,
      omega (arith, ap (λ (p : Piece). p.bits) is, bit, c.goes_on-next.ensures.later),
      subst (IsPiece input) (sym is) one,
    )
