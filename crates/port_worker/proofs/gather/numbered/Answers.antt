use Rattle.std.proofs.Common.{◌≡◌, ◌∷◌, [], ◌++◌, ◌+◌, ℕ, List, length, length-append, map, sym, ap, ◌∙◌, subst, arith}
use Rattle.std.proofs.lemmas.List.{map-append, length-map}
use Rattle.srp_base.proofs.Lists.{no_more as no_items}
use Rattle.node_core.specs.Holding.{NodeHolding}
use Rattle.port_worker.specs.{Task, AreNumbered}
use Rattle.port_worker.proofs.{Lists.rest_less, Lists.rest_none, NumberedLemmas.numbered_more}
use Rattle.port_worker.proofs.gather.numbered.Goals as goal

pub loop-node-init : goal.loop-node-init
loop-node-init c =
    let none : c.new-tasks.result.items ≡ [] = c.new-tasks.ensures.items in (
      ap (λ (ts : List Task). map (λ t. t.node) ts) none,
      subst (AreNumbered 0) (sym {A = List Task} none) tt,
      ap (λ (ts : List Task). length ts) none,
      c.into_iter-node-iterator.ensures.into_iter_gives.0,
    )

pub loop-node-preserved : goal.loop-node-preserved
loop-node-preserved c =
    let node : NodeHolding = c.in-Some.node in
    let next = c.next.new.self.rest.items in
    let first : c.loop-node.node-iterator.rest.items ≡ node ∷ next = c.in-Some.ensures.steps.0 in
    let so_far = c.loop-node.invariant in
    let rest = rest_less c.loop-node.yielded c.loop-node.node-iterator.rest.items next c.args.nodes.items node first so_far.3 in
    let task : Task = record { number = record { 0 = c.saturating_add-number.result }; node = node } in
    let push : c.push.new.self.items ≡ c.loop-node.tasks.items ++ task ∷ [] = c.in_ok-push.ensures.items in
    let few = c.requires in
    let fits = c.ranges.count.fits in
    let sat = c.saturating_add-number.ensures in
    let long : length (c.loop-node.yielded ++ node ∷ []) + length next ≡ length c.args.nodes.items =
    sym (length-append (c.loop-node.yielded ++ node ∷ []) next) ∙ ap (λ (xs : List NodeHolding). length xs) rest
    in
    let one = length-append c.loop-node.yielded (node ∷ []) in
    let same : length c.loop-node.tasks.items ≡ length c.loop-node.yielded = sym (length-map c.loop-node.tasks.items (λ (t : Task). t.node)) ∙ ap (λ (xs : List NodeHolding). length xs) so_far.0 in
    let count = so_far.2 in
    let number : c.saturating_add-number.result ≡ c.loop-node.number + 1 = grind (arith, sat, fits, few, long, one, same, count) in (
      ap (λ (ts : List Task). map (λ t. t.node) ts) push ∙ (map-append (λ (t : Task). t.node) c.loop-node.tasks.items (task ∷ []) ∙ ap (λ (xs : List NodeHolding). xs ++ node ∷ []) so_far.0),
      subst (AreNumbered 0) (sym {A = List Task} push) (numbered_more 0 c.loop-node.tasks.items task so_far.1 (omega (arith, number, count))),
      ap (λ (ts : List Task). length ts) push ∙ (length-append c.loop-node.tasks.items (task ∷ []) ∙ (ap (λ (k : ℕ). k + 1) so_far.2 ∙ sym number)),
      rest,
    )

pub returns-clause-nodes : goal.returns-clause-nodes
returns-clause-nodes c =
    let none : c.loop-node.node-iterator.rest.items ≡ [] = no_items c.loop-node.node-iterator.rest.items (omega (arith, c.in-None.ensures.steps.0)) in
    c.loop-node.invariant.0 ∙ rest_none c.loop-node.yielded c.loop-node.node-iterator.rest.items c.args.nodes.items none c.loop-node.invariant.3
