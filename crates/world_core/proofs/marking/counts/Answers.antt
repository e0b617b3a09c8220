use Rattle.std.proofs.Common.{Bool, false, ◌&&◌, sym, ap, ◌∙◌}
use Rattle.std.specs.Prelude.{slice_get}
use Rattle.std.specs.Option.{option_map_or}
use Rattle.srp_base.proofs.Arithmetic.{if_ok}
use Rattle.node_core.specs.{Holding.states_in, Leaving.has_leave_all}
use Rattle.world_core.specs.{inbox}
use Rattle.world_core.proofs.marking.counts.Goals as goal

pub returns : goal.returns
returns c =
    if_ok c.front_leaves.result _ _
    (λ leaves h. λ tree m. h tree m
    ∙ ap (λ (b : Bool). b && option_map_or has_leave_all (slice_get (inbox c.args.at (record { tree = tree; nodes = states_in c.args.nodes.now.items; marks = m })) 0) false)
    (sym c.if-not-is_clear.false ∙ c.is_clear.ensures)) c.front_leaves.ensures
