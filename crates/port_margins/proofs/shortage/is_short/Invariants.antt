use Rattle.std.proofs.Common.{◌≡◌, drop}
use Rattle.std.specs.Prelude.{is_some}
use Rattle.std.specs.List.{list_any}
use Rattle.attribute_propagation.specs.Ports.{place_of}
use Rattle.port_margins.specs.{want_at}
use Rattle.port_margins.proofs.shortage.is_short.Given as goal

-- none so far, so that the rest tells
abbrev pub invariant-loop-entry : goal.invariant-loop-entry
invariant-loop-entry l =
    list_any (λ e. is_some (want_at (place_of l.at) l.node.state e)) (drop l.entry-index l.streams)
    ≡ list_any (λ e. is_some (want_at (place_of l.at) l.node.state e)) l.streams
