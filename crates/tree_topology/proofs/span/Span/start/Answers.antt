use Rattle.std.proofs.Common.{◌≡◌, Vec, Global, ℕ, List, length, [], ◌∷◌, ◌++◌, ◌∙◌, ap, set, arith}
use Rattle.tree_topology.proofs.{SpanSteps.span-start_none, SpanSteps.span-start_one, span.Span.start.Goals.then-count-gt0+in_ok-push, span.Span.start.Goals.else-count-gt0}
use Rattle.tree_topology.proofs.span.Span.start.Goals as goal

pub returns : goal.returns
returns c =
    let items : Vec ℕ Global → List ℕ = λ v. v.items in
    let size : c.len-count.result ≡ length c.args.graph.now.kinds.items = omega (arith, c.args.graph.now.kinds.ok.0, c.len-count.ensures) in
    let zeros = c.in_ok-parents.ensures.items_if_clones_equal (λ y e. e) in
    let deep = c.in_ok-depths.ensures.items_if_clones_equal (λ y e. e) in
    elim c.if-count-gt0.branch [
      | then-count-gt0+in_ok-push w ↦ span-start_one _ _ _ _ _ _ size w.if-count-gt0.true (ap items w.parents-is
          ∙ ap (λ (t : List ℕ). set t 1 1) zeros) deep (ap items w.order-is ∙ w.in_ok-push.ensures.items
          ∙ ap (λ (t : List ℕ). t ++ 1 ∷ []) c.new-order.ensures.items)
      | else-count-gt0 w ↦ span-start_none _ _ _ _ _ _ size w.if-count-gt0.false (ap items w.parents-is
          ∙ zeros) deep (ap items w.order-is ∙ c.new-order.ensures.items)
    ]
