use Rattle.std.proofs.Common.{◌≡◌, ◌≤◌, ◌<◌, ◌+◌, ◌++◌, ◌∷◌, [], List, length, drop, sym, ap, subst, ◌∙◌, arith}
use Rattle.std.specs.Prelude.{flat_map}
use Rattle.std.specs.List.{AllByRecursion}
use Rattle.srp_base.specs.declared.numbers.EgressPort.{EgressPort}
use Rattle.tree_topology.specs.{Topology.HasPort, Topology.HasLink, Ports.ends_of}
use Rattle.report_words.proofs.LinkPorts.{both_ends, next-link, each-two}
use Rattle.report_words.proofs.ports.ports_of_links.Goals as goal

pub loop-i-preserved : goal.loop-i-preserved
loop-i-preserved c =
    let tree = c.args.tree.now in
    let i = c.loop-i.i in
    let ports = c.loop-i.ports.items in
    let ends = ends_of tree.links (i + 1) in
    let lt : i < length tree.links = omega (arith, c.loop-i-test.true, c.links-i-end.ensures) in
    let some : 1 ≤ i + 1 = omega arith in
    let few : i + 1 ≤ length tree.links = omega (arith, lt) in
    let has : HasLink tree (i + 1) = (some, few) in
    let grown : c.push-in-loop-i.new.self.items ≡ (ports ++ ends.0 ∷ []) ++ ends.1 ∷ []
    = c.in_ok-push-2.ensures.items
    ∙ (ap (λ (xs : List EgressPort). xs ++ c.ends.result.1 ∷ []) c.in_ok-push.ensures.items
    ∙ ap (λ (es : EgressPort × EgressPort). (ports ++ es.0 ∷ []) ++ es.1 ∷ []) c.ends.ensures) in
    record {
      all = ap (λ (xs : List EgressPort). xs ++ flat_map (both_ends tree) (drop (i + 1) tree.links)) grown
          ∙ (next-link tree i ports lt ∙ c.loop-i.invariant.all);
      known = subst (λ (xs : List EgressPort). AllByRecursion (HasPort tree) xs) (sym grown)
          (each-two (HasPort tree) ports ends.0 ends.1 c.loop-i.invariant.known
          (c.keeps.ensures.ports.end_a (i + 1) has) (c.keeps.ensures.ports.end_b (i + 1) has));
    }
