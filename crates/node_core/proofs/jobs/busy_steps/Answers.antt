use Rattle.std.proofs.Common.{◌++◌, [], ◌∷◌, ap, ◌∙◌, append_assoc}
use Rattle.node_core.specs.{Due, Settle, works}
use Rattle.node_core.proofs.jobs.busy_steps.Goals as goal

pub returns : goal.returns
returns c =
    c.in_ok-push-2.ensures.items
    ∙ (ap (λ xs. xs ++ (Settle ∷ [])) (c.in_ok-push.ensures.items ∙ ap (λ xs. xs ++ (Due ∷ [])) c.in_ok-steps.ensures)
    ∙ append_assoc (works c.args.inbox.now) (Due ∷ []) (Settle ∷ []))
