use Rattle.std.proofs.Common.{◌≡◌, ◌∙◌, ◌++◌, ◌∷◌, [], List, ℕ, ap, replicate, arith}
use Rattle.std.proofs.lemmas.List.{replicate_more}
use Rattle.tree_topology.proofs.adjacency.empty_rows.Goals as goal

pub loop-preserved : goal.loop-preserved
loop-preserved c =
    let row : List ℕ → List (List ℕ) = λ t. c.loop.rows.items ++ t ∷ [] in
    c.in_ok-push.ensures.items ∙ ap row c.new.ensures ∙ ap (λ (t : List (List ℕ)). t ++ [] ∷ []) c.loop.invariant ∙ replicate_more c.loop.counter []

pub returns : goal.returns
returns c =
    let all : c.loop.counter ≡ c.args.count = omega (arith, c.loop-test.false, c.loop.auto.counter-end) in
    c.loop.invariant ∙ ap (λ (n : ℕ). replicate {A = List ℕ} n []) all
