use Rattle.std.proofs.Common.{List, sym, ap, subst, ◌∙◌, length}
use Rattle.tree_topology.specs.Topology.{Topology}
use Rattle.srp_schedule.specs.declared.rest.Rest.{Rest}
use Rattle.srp_schedule.specs.{Unknown, AreRests}
use Rattle.srp_schedule.proofs.RestLemmas.{all_alike}
use Rattle.srp_schedule.proofs.rest.nothing_known.Goals as goal

pub returns : goal.returns
returns c = subst (λ (rs : List Rest). AreRests c.args.world.now rs) (sym (c.in_ok-rests.ensures.items_if_clones_equal (λ y e. e)))
    (all_alike c.args.world.now Unknown c.from.result tt (c.from.ensures ∙ c.nodes.ensures ∙ ap (λ (t : Topology). length t.kinds) c.tree.ensures))
