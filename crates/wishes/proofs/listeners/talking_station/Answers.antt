use Rattle.std.proofs.Common.{◌≡◌, ◌<◌, ◌+◌, ◌-◌, ℕ, Bool, false, length, sym, ap, ◌∙◌, arith}
use Rattle.std.specs.Prelude.{find}
use Rattle.std.specs.List.{range_with_len}
use Rattle.tree_topology.specs.Topology.{Topology}
use Rattle.network_laws.specs.Streams.{is_talked_at}
use Rattle.network_laws.proofs.Paths.{find-later}
use Rattle.wishes.proofs.listeners.talking_station.Goals as goal

pub loop-y-preserved : goal.loop-y-preserved
loop-y-preserved c =
    let test : ℕ → Bool = is_talked_at c.args.world.now c.args.stream in
    let count = length c.args.world.now.tree.kinds in
    let end : c.nodes-y-end.result ≡ count = c.nodes-y-end.ensures ∙ ap (λ (t : Topology). length t.kinds) c.tree.ensures in
    let lt : 0 < count - c.loop-y.y = omega (arith, c.loop-y-test.true, end) in
    let less : count - c.loop-y.y - 1 ≡ count - (c.loop-y.y + 1) = omega arith in
    let off : test (c.loop-y.y + 1) ≡ false = sym c.is_talking.ensures ∙ c.if-is_talking.false in
    c.loop-y.invariant ∙ (find-later test (c.loop-y.y + 1) (count - c.loop-y.y) lt off ∙ ap (λ n. find test (range_with_len (c.loop-y.y + 1 + 1) n)) less)
