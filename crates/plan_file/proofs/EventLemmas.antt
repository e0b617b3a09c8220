-- The events of a plan, node by node and stream by stream.
use Rattle.std.proofs.Common.{◌≡◌, ◌∙◌, ℕ, ◌+◌, ◌<◌, ◌≤◌, List, [], ◌∷◌, ◌++◌, ap, sym, length, get_or, drop, append_assoc, arith}
use Rattle.std.proofs.lemmas.List.{drop_more, Elements.All-weaker}
use Rattle.std.specs.List.{All}
use Rattle.topology_file.proofs.Chains.{an_element}
use Rattle.plan_file.specs.{PlanEvent, PlanStream, at_each, has_vid, numbers_from, plan_vids, talks_from}
use Rattle.plan_file.specs.declared.events.PlanEvent.TheVariants.{Talk}
use Rattle.plan_file.proofs.FreeNumbers.{filter-keeps, numbers-below}

-- what happens at one more node
pub each-step : {A : Type 0} (at : ℕ → List PlanEvent) (nodes : List A) (i : ℕ) (front more whole : List PlanEvent) → i < length nodes
    → more ≡ front ++ at (i + 1) → front ++ at_each at (i + 1) (drop i nodes) ≡ whole → more ++ at_each at (i + 1 + 1) (drop (i + 1) nodes) ≡ whole
each-step at nodes i front more whole lt new h =
    let d = an_element nodes i lt in
    ap (λ ys. ys ++ at_each at (i + 1 + 1) (drop (i + 1) nodes)) new ∙ append_assoc front (at (i + 1)) (at_each at (i + 1 + 1) (drop (i + 1) nodes))
    ∙ ap (λ xs. front ++ at_each at (i + 1) xs) (sym (drop_more nodes i d lt)) ∙ h

-- one more stream is talked
pub talk-step : (streams : List PlanStream) (i : ℕ) (front more whole : List PlanEvent) → i < length streams
    → more ≡ front ++ (Talk (i + 1) ∷ []) → front ++ talks_from (i + 1) (drop i streams) ≡ whole → more ++ talks_from (i + 1 + 1) (drop (i + 1) streams) ≡ whole
talk-step streams i front more whole lt new h =
    let d = an_element streams i lt in
    ap (λ ys. ys ++ talks_from (i + 1 + 1) (drop (i + 1) streams)) new ∙ append_assoc front (Talk (i + 1) ∷ []) (talks_from (i + 1 + 1) (drop (i + 1) streams))
    ∙ ap (λ xs. front ++ talks_from (i + 1) xs) (sym (drop_more streams i d lt)) ∙ h

-- the VIDs of streams are VIDs
pub vids-small : (streams : List PlanStream) (vids : List ℕ) → vids ≡ plan_vids streams → All (λ n. n ≤ 4094) vids
vids-small streams vids is =
    let P : ℕ → Type 0 = λ n. n ≤ 4094 in
    rw is
    (filter-keeps P (has_vid streams) (numbers_from 1 4094)
    (All-weaker (λ n. (1 ≤ n) × (n < 1 + 4094)) P (λ n h. omega (arith, h.1)) (numbers_from 1 4094) (numbers-below 1 4094)))
