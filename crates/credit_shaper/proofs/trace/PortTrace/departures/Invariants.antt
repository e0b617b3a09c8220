-- The trace stands for the port at its bit time.
use Rattle.std.proofs.Common.{◌-◌, ◌≡◌, ◌≤◌}
use Rattle.credit_shaper.specs.{port_at, HasReached, port_of}
use Rattle.credit_shaper.proofs.trace.PortTrace.departures.Given as goal

abbrev pub invariant-loop-trace : goal.invariant-loop-trace
invariant-loop-trace l =
    record {
      within : l.trace.bit ≤ l.input.end;
      reached : HasReached l.input l.trace.bit l.trace;
      port : port_of l.input.arrivals l.sent.items l.trace ≡ port_at l.input l.trace.bit;
    }

abbrev pub decreases-loop-trace : goal.decreases-loop-trace
decreases-loop-trace l = l.input.end - l.trace.bit
