-- The lines of the stations: one node more.
use Rattle.std.proofs.Common.{◌≡◌, ℕ, ◌+◌, ◌<◌, List, ◌++◌, length, drop, get_or, sym, ap, ◌∙◌, append_assoc}
use Rattle.std.specs.Prelude.{Some, slice_get}
use Rattle.std.proofs.lemmas.{List.at_drop_more, Option.slice_get_within, Option.get_or_from_slice_get}
use Rattle.topology_file.specs.Plan.{Plan}
use Rattle.node_core.specs.State.{NodeState}
use Rattle.srp_report.specs.{node_heard, nodes_heard}

pub next-heard : (plan : Plan) (n i : ℕ) (out after : List ℕ) (nodes : List NodeState) (s : NodeState) → slice_get nodes i ≡ Some s
    → after ≡ out ++ node_heard plan (record { 0 = n }) s
    → after ++ nodes_heard plan (n + 1) (drop (i + 1) nodes) ≡ out ++ nodes_heard plan n (drop i nodes)
next-heard plan n i out after nodes s at e =
    let later : List ℕ = nodes_heard plan (n + 1) (drop (i + 1) nodes) in
    let below : i < length nodes = slice_get_within nodes i s at in
    let here : get_or nodes i s ≡ s = get_or_from_slice_get nodes i s s at in
    let all : nodes_heard plan n (drop i nodes) ≡ node_heard plan (record { 0 = n }) (get_or nodes i s) ++ later
    = at_drop_more (nodes_heard plan n) nodes i s below in
    ap (λ (text : List ℕ). text ++ later) e
    ∙ (append_assoc out (node_heard plan (record { 0 = n }) s) later
    ∙ ap (λ (text : List ℕ). out ++ text) (sym (all ∙ ap (λ (t : NodeState). node_heard plan (record { 0 = n }) t ++ later) here)))
