use Rattle.std.proofs.Common.{ℕ, length, sym, subst}
use Rattle.std.specs.Prelude.{◌<◌, ◌^◌}
use Rattle.srp_base.specs.declared.numbers.EgressPort.{EgressPort}
use Rattle.node_core.specs.Holding.{states_in}
use Rattle.world_core.specs.{WorldState, StandsAt, inbox}
use Rattle.world_core.proofs.{Standing.stands, Standing.peer_stands, Marked.few_counted}
use Rattle.world_core.proofs.marking.few_wait.Goals as goal

pub out_count-requires : goal.out_count-requires
out_count-requires c = stands (record { tree = c.args.tree.now; nodes = states_in c.args.nodes.now.items; marks = c.args.marks.now }) c.requires.kept c.args.at c.requires.port

pub in_count-requires : goal.in_count-requires
in_count-requires c =
    let w : WorldState = record { tree = c.args.tree.now; nodes = states_in c.args.nodes.now.items; marks = c.args.marks.now } in
    subst (λ (r : EgressPort). StandsAt r (states_in c.args.nodes.now.items)) (sym c.peer.ensures)
    (peer_stands w c.requires.kept (c.ports.ensures c.args.tree.now c.requires.kept.tree) c.args.at c.requires.port)

pub returns : goal.returns
returns c = λ app.
    let w : WorldState = record { tree = c.args.tree.now; nodes = states_in c.args.nodes.now.items; marks = c.args.marks.now } in
    few_counted w c.requires.kept (c.ports.ensures c.args.tree.now c.requires.kept.tree) app c.args.at c.requires.port
    (subst (λ (r : EgressPort). length (inbox r w) < 2 ^ 64) c.peer.ensures (subst (λ (n : ℕ). n < 2 ^ 64) (c.in_count.ensures.count c.args.tree.now c.args.marks.now) c.in_count.ensures.few))
    (subst (λ (n : ℕ). n < 2 ^ 64) (c.out_count.ensures.count c.args.tree.now c.args.marks.now) c.out_count.ensures.few)
