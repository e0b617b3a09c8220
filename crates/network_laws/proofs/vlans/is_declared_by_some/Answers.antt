use Rattle.std.proofs.Common.{◌≡◌, ◌<◌, ◌+◌, ◌-◌, ◌&&◌, ℕ, Bool, false, length, sym, ap, ◌∙◌, arith}
use Rattle.std.specs.List.{list_any, range_with_len}
use Rattle.srp_base.proofs.Bools.{any-later}
use Rattle.tree_topology.specs.{Topology.Topology, Walk.is_behind}
use Rattle.network_laws.specs.{is_declared_at}
use Rattle.network_laws.proofs.vlans.is_declared_by_some.Goals as goal

pub loop-y-preserved : goal.loop-y-preserved
loop-y-preserved c =
    let test : ℕ → Bool = λ y. is_behind c.args.world.now.tree.links c.args.at y && is_declared_at c.args.world.now c.args.vid y in
    let count = length c.args.world.now.tree.kinds in
    let end : c.nodes-y-end.result ≡ count = c.nodes-y-end.ensures ∙ ap (λ (t : Topology). length t.kinds) c.tree.ensures in
    let lt : 0 < count - c.loop-y.y = omega (arith, c.loop-y-test.true, end) in
    let less : count - c.loop-y.y - 1 ≡ count - (c.loop-y.y + 1) = omega arith in
    let no : test (c.loop-y.y + 1) ≡ false = sym c.is_declared_there.ensures ∙ c.if-is_declared_there.false in
    c.loop-y.invariant ∙ (any-later test (c.loop-y.y + 1) (count - c.loop-y.y) lt no ∙ ap (λ n. list_any test (range_with_len (c.loop-y.y + 1 + 1) n)) less)
