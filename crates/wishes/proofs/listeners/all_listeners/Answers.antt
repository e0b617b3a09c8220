use Rattle.std.proofs.Common.{◌≡◌, ◌<◌, ◌+◌, ◌-◌, ◌++◌, ℕ, Bool, List, length, ap, ◌∙◌, arith}
use Rattle.srp_base.specs.declared.numbers.NodeNo.{NodeNo}
use Rattle.tree_topology.specs.Topology.{Topology}
use Rattle.network_laws.specs.Streams.{is_listened_at}
use Rattle.wishes.specs.{listeners_from, numbered}
use Rattle.wishes.proofs.ListLemmas.{picked_first}
use Rattle.wishes.proofs.listeners.all_listeners.Goals as goal

pub loop-y-preserved : goal.loop-y-preserved
loop-y-preserved c =
    let w = c.args.world.now in
    let test : ℕ → Bool = is_listened_at w c.args.stream in
    let count = length w.tree.kinds in
    let y = c.loop-y.y in
    let end : c.nodes-y-end.result ≡ count = c.nodes-y-end.ensures ∙ ap (λ (t : Topology). length t.kinds) c.tree.ensures in
    let lt : 0 < count - y = omega (arith, c.loop-y-test.true, end) in
    let less : count - (y + 1) ≡ count - y - 1 = omega arith in
    let new : List NodeNo = c.push_if_listening.new.stations.items in
    ap (λ (n : ℕ). new ++ listeners_from w c.args.stream (y + 1 + 1) n) less
    ∙ (picked_first numbered test c.loop-y.stations.items new (y + 1) (count - y) lt c.in_ok-push_if_listening.ensures ∙ c.loop-y.invariant)
