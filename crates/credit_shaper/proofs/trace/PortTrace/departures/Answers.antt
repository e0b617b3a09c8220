-- A run begins as the port does, and ends with what the port has sent and what waits.
use Rattle.std.proofs.Common.{◌≡◌, ℕ, List, [], map, refl, sym, ◌∙◌, ap, subst, arith}
use Rattle.credit_shaper.specs.{Arrival, PortInput, PortTrace, port_at, HasReached, port_of, pending}
use Rattle.credit_shaper.proofs.TraceLemmas.{departures_found, port_at_start}
use Rattle.credit_shaper.proofs.trace.PortTrace.departures.Goals as goal

pub loop-trace-init : goal.loop-trace-init
loop-trace-init c =
    let input : PortInput = c.args.input.now in
    let trace : PortTrace = c.new-trace.result in
    let zero : trace.bit ≡ 0 = c.new-trace.ensures.bit in
    let reached : HasReached input 0 trace = c.new-trace.ensures.reached input refl in
    let port : port_of input.arrivals [] trace ≡ port_at input 0 = c.new-trace.ensures.port input refl ∙ port_at_start input in
    record {
      within = omega (arith, zero);
      reached = subst (λ (t : ℕ). HasReached input t trace) (sym zero) reached;
      port = ap (λ ds. port_of input.arrivals ds trace) c.new-sent.ensures.items ∙ (port ∙ ap (port_at input) (sym zero));
    }

pub returns : goal.returns
returns c =
    let input : PortInput = c.args.input.now in
    let left : c.in_ok-left.left ≡ map (λ x. x.frame) (pending c.loop-trace.trace.heads 0 input.arrivals) =
    subst (λ (xs : List Arrival). c.in_ok-left.left ≡ map (λ x. x.frame) (pending c.loop-trace.trace.heads 0 xs)) c.as_slice.ensures c.in_ok-left.ensures in
    ap (λ ds. record { sent = ds; left = c.in_ok-left.left }) c.from_vec.ensures
    ∙ departures_found input c.loop-trace.trace c.loop-trace.sent.items c.in_ok-left.left c.requires (omega arith)
    c.loop-trace.invariant.reached c.loop-trace.invariant.port left
