-- The lines of a stream at the nodes: one node more.
use Rattle.std.proofs.Common.{◌≡◌, ℕ, ◌+◌, ◌<◌, List, ◌++◌, length, drop, get_or, sym, ap, ◌∙◌, append_assoc}
use Rattle.std.specs.Prelude.{Some, slice_get}
use Rattle.std.proofs.lemmas.{List.at_drop_more, Option.slice_get_within, Option.get_or_from_slice_get}
use Rattle.node_core.specs.State.{NodeState}
use Rattle.scenario_delays.specs.declared.answers.StreamAnswer.{StreamAnswer}
use Rattle.delay_report.specs.Text.{DelayRun, node_delay, stream_delays}

pub next_delay : (r : DelayRun) (a : StreamAnswer) (n i : ℕ) (out after : List ℕ) (nodes : List NodeState) (s : NodeState) → slice_get nodes i ≡ Some s
    → after ≡ out ++ node_delay r a (record { 0 = n }) s s.kind
    → after ++ stream_delays r a (n + 1) (drop (i + 1) nodes) ≡ out ++ stream_delays r a n (drop i nodes)
next_delay r a n i out after nodes s at e =
    let later : List ℕ = stream_delays r a (n + 1) (drop (i + 1) nodes) in
    let below : i < length nodes = slice_get_within nodes i s at in
    let here : get_or nodes i s ≡ s = get_or_from_slice_get nodes i s s at in
    let line = λ (t : NodeState). node_delay r a (record { 0 = n }) t t.kind in
    let all : stream_delays r a n (drop i nodes) ≡ line (get_or nodes i s) ++ later = at_drop_more (stream_delays r a n) nodes i s below in
    ap (λ (text : List ℕ). text ++ later) e
    ∙ (append_assoc out (line s) later ∙ ap (λ (text : List ℕ). out ++ text) (sym (all ∙ ap (λ (t : NodeState). line t ++ later) here)))
