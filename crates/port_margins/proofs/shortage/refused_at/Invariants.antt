use Rattle.std.proofs.Common.{◌≡◌, ◌+◌, ◌*◌, ◌^◌, ◌≤◌, drop}
use Rattle.std.specs.Prelude.{sum_by}
use Rattle.attribute_propagation.specs.Ports.{place_of}
use Rattle.port_margins.specs.{slope_in, want_at}
use Rattle.port_margins.proofs.shortage.refused_at.Given as goal

-- the sum so far with the slopes of the streams that are left is the whole
abbrev pub invariant-loop-entry : goal.invariant-loop-entry
invariant-loop-entry l = record {
  whole : l.sum + sum_by (λ e. slope_in l.class (want_at (place_of l.at) l.node.state e)) (drop l.entry-index l.streams)
      ≡ sum_by (λ e. slope_in l.class (want_at (place_of l.at) l.node.state e)) l.streams;
  small : l.sum ≤ l.entry-index * (2 ^ 64);
}
