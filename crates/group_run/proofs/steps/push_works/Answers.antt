use Rattle.std.proofs.Common.{◌≡◌, ◌++◌, length, ap, sym, ◌∙◌, arith}
use Rattle.std.specs.List.{flat_map, range_with_len}
use Rattle.std.proofs.lemmas.List.Folds.{flat_map-map}
use Rattle.tree_topology.specs.{Topology.Topology, Ports.neighbours}
use Rattle.group_run.specs.{port_at, works_at}
use Rattle.group_run.proofs.Listed.{extend-more}
use Rattle.group_run.proofs.steps.push_works.Goals as goal

pub loop-k-preserved : goal.loop-k-preserved
loop-k-preserved c =
    extend-more (λ k. works_at c.args.net.now (port_at c.args.node k)) c.loop-k.k _ _ _ c.loop-k.invariant
    (c.in_ok-push_works_at.ensures ∙ ap (λ p. c.loop-k.steps.items ++ works_at c.args.net.now p) c.port_at.ensures)

pub returns : goal.returns
returns c =
    let net = c.args.net.now in
    let count = length (neighbours net.tree.links c.args.node.0) in
    let test = c.loop-k-test.false in
    let last = c.loop-k.auto.k-end in
    let end : c.ports-k-end.result ≡ count = c.ports-k-end.ensures ∙ ap (λ (t : Topology). length (neighbours t.links c.args.node.0)) c.tree.ensures in
    let all : c.loop-k.k ≡ count = omega (arith, test, last, end) in
    c.loop-k.invariant
    ∙ (ap (λ n. c.args.steps.now.items ++ flat_map (λ k. works_at net (port_at c.args.node k)) (range_with_len 1 n)) all
    ∙ ap (λ xs. c.args.steps.now.items ++ xs) (sym (flat_map-map (works_at net) (port_at c.args.node) (range_with_len 1 count))))
