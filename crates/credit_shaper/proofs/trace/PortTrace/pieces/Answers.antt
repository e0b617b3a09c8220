-- A run begins as the port does, and each piece goes on from the one before.
use Rattle.std.proofs.Common.{◌≡◌, ℕ, List, [], ◌∷◌, ◌++◌, refl, sym, ◌∙◌, ap, subst, arith}
use Rattle.credit_shaper.specs.{PortInput, PortTrace, Piece, port_at, ArePieces, HasReached, port_of}
use Rattle.credit_shaper.proofs.{PieceLemmas.pieces_more, TraceLemmas.port_at_start}
use Rattle.credit_shaper.proofs.trace.PortTrace.pieces.Goals as goal

pub loop-trace-init : goal.loop-trace-init
loop-trace-init c =
    let input : PortInput = c.args.input.now in
    let trace : PortTrace = c.new-trace.result in
    let zero : trace.bit ≡ 0 = c.new-trace.ensures.bit in
    let reached : HasReached input 0 trace = c.new-trace.ensures.reached input refl in
    let port : port_of input.arrivals [] trace ≡ port_at input 0 = c.new-trace.ensures.port input refl ∙ port_at_start input in
    record {
      within = omega (arith, zero);
      reached = subst (λ (t : ℕ). HasReached input t trace) (sym zero) reached;
      port = ap (λ ds. port_of input.arrivals ds trace) c.new-sent.ensures.items ∙ (port ∙ ap (port_at input) (sym zero));
      pieces = subst (λ (ps : List Piece). ArePieces input 0 trace.bit ps) (sym c.new-pieces.ensures.items) (sym zero);
    }

pub loop-trace-preserved : goal.loop-trace-preserved
loop-trace-preserved c =
    let input : PortInput = c.args.input.now in
    let next : PortTrace = c.in_ok-trace.trace in
    let one = c.in_ok-trace.ensures.pieces in
    record {
      within = c.in_ok-trace.ensures.within;
      reached = c.in_ok-trace.ensures.reached;
      port = c.in_ok-trace.ensures.port;
      pieces = subst (λ (ps : List Piece). ArePieces input 0 next.bit ps) (sym one.1)
          (subst (λ (n : ℕ). ArePieces input 0 n (c.loop-trace.pieces.items ++ one.0 ∷ [])) one.3
          (pieces_more input 0 c.loop-trace.trace.bit c.loop-trace.pieces.items one.0 c.loop-trace.invariant.pieces one.2 one.4));
    }
