use Rattle.std.proofs.Common.{◌≡◌, ◌-◌, drop}
use Rattle.std.specs.Prelude.{filter, slice_get}
use Rattle.scenario_bounds.specs.{is_link_of}
use Rattle.scenario_bounds.proofs.caps.link_of.Given as goal

abbrev pub invariant-loop-link : goal.invariant-loop-link
invariant-loop-link l =
    slice_get (filter (is_link_of l.at.node.0) l.links) (l.at.port.0 - 1)
    ≡ slice_get (filter (is_link_of l.at.node.0) (drop l.link-index l.links)) l.before
