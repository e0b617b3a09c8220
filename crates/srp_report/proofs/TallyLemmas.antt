-- The tallies that are kept while the journal is read are the counts over each port's answers.
use Rattle.std.proofs.Common.{◌≡◌, ◌≢◌, ℕ, zero, suc, ◌+◌, ◌<◌, ◌≤◌, Bool, true, false, List, [], ◌∷◌, ◌++◌, refl, sym, ap, subst, ◌∙◌, arith}
use Rattle.std.specs.Prelude.{◌==◌, if◌then◌else◌, fold, replicate, slice_get, slice_set, Option, Some, None, option_map}
use Rattle.std.specs.Option.{option_map_or, option_and_then}
use Rattle.std.proofs.lemmas.{Bool.eqb-true, Bool.eqb-false, List.Sums.fold-append}
use Rattle.srp_base.proofs.Lists.{get_set_other as get-other, get_set as get-set}
use Rattle.srp_base.specs.declared.{numbers.PortNo.PortNo, numbers.EgressPort.EgressPort}
use Rattle.node_core.specs.declared.{types.NodeStep.NodeStep, types.StepReply.StepReply}
use Rattle.world_core.specs.declared.{journal.NodeSteps.NodeSteps, journal.Tick.Tick}
use Rattle.report_words.specs.declared.tally.Tally.{Tally}
use Rattle.report_words.specs.Tally.{zero_tally}
use Rattle.report_words.proofs.Counting.{all-counted}
use Rattle.srp_report.specs.{replies_at, replies_in, replies_of, octets_sent, is_discarded, tally_of, zero_row, zero_rows, with_reply, step_counted, steps_counted, node_counted, nodes_counted, ticks_counted, tally_at}

-- ---- one place of a list becomes what is made of it

abbrev pub changed_at : {X : Type 0} → List X → ℕ → (X → X) → List X
changed_at xs i f = option_map_or (λ x. slice_set xs i (f x)) (slice_get xs i) xs

-- the place itself, and any other
same-place : {X : Type 0} (xs : List X) (i : ℕ) (f : X → X) → slice_get (changed_at xs i f) i ≡ option_map f (slice_get xs i)
same-place {X = X} xs i f = by (slice_get xs i) refl
  where
    by : (o : Option X) → slice_get xs i ≡ o → slice_get (option_map_or (λ x. slice_set xs i (f x)) o xs) i ≡ option_map f o
    by None is = is
    by (Some x) is = get-set xs i x (f x) is

other-place : {X : Type 0} (xs : List X) (i j : ℕ) (f : X → X) → i ≢ j → slice_get (changed_at xs i f) j ≡ slice_get xs j
other-place {X = X} xs i j f ne = by (slice_get xs i)
  where
    by : (o : Option X) → slice_get (option_map_or (λ x. slice_set xs i (f x)) o xs) j ≡ slice_get xs j
    by None = refl
    by (Some x) = get-other xs i j (f x) ne

-- ---- the answers of a port are counted in its place

-- one list of answers after another
more : (a b : List StepReply) (o : Option Tally)
    → option_map (λ t. fold with_reply t b) (option_map (λ t. fold with_reply t a) o) ≡ option_map (λ t. fold with_reply t (a ++ b)) o
more a b None = refl
more a b (Some t) = ap Some (sym (fold-append with_reply t a b))

none : (o : Option Tally) → o ≡ option_map (λ t. fold with_reply t []) o
none None = refl
none (Some t) = refl

-- the answers of a port among one step of its node
abbrev from_step : PortNo → NodeStep → List StepReply
from_step port st = if st.port.0 == port.0 then st.reply ∷ [] else []

one-more : (port : PortNo) (st : NodeStep) (made : List NodeStep) → from_step port st ++ replies_at port made ≡ replies_at port (st ∷ made)
one-more port st made = by (st.port.0 == port.0) refl
  where
    by : (b : Bool) → (st.port.0 == port.0) ≡ b → from_step port st ++ replies_at port made ≡ replies_at port (st ∷ made)
    by true is = rw is refl
    by false is = rw is refl

step-place : (port : PortNo) (st : NodeStep) (row : List Tally)
    → slice_get (step_counted row st) port.0 ≡ option_map (λ t. fold with_reply t (from_step port st)) (slice_get row port.0)
step-place port st row = by (st.port.0 == port.0) refl
  where
    by : (b : Bool) → (st.port.0 == port.0) ≡ b
        → slice_get (step_counted row st) port.0 ≡ option_map (λ t. fold with_reply t (from_step port st)) (slice_get row port.0)
    by true is =
        let same : st.port.0 ≡ port.0 = eqb-true st.port.0 port.0 is in
        rw is (subst (λ (i : ℕ). slice_get (step_counted row st) i ≡ option_map (λ t. with_reply t st.reply) (slice_get row i)) same
        (same-place row st.port.0 (λ t. with_reply t st.reply)))
    by false is =
        rw is (other-place row st.port.0 port.0 (λ t. with_reply t st.reply) (eqb-false st.port.0 port.0 is) ∙ none (slice_get row port.0))

-- those of all steps of a node
row-place : (port : PortNo) (made : List NodeStep) (row : List Tally)
    → slice_get (steps_counted row made) port.0 ≡ option_map (λ t. fold with_reply t (replies_at port made)) (slice_get row port.0)
row-place port [] row = none (slice_get row port.0)
row-place port (st ∷ made) row =
    row-place port made (step_counted row st)
    ∙ (ap (λ o. option_map (λ t. fold with_reply t (replies_at port made)) o) (step-place port st row)
    ∙ (more (from_step port st) (replies_at port made) (slice_get row port.0)
    ∙ ap (λ replies. option_map (λ t. fold with_reply t replies) (slice_get row port.0)) (one-more port st made)))

in-row : (port : PortNo) (made : List NodeStep) (o : Option (List Tally))
    → option_and_then (λ row. slice_get row port.0) (option_map (λ row. steps_counted row made) o)
    ≡ option_map (λ t. fold with_reply t (replies_at port made)) (option_and_then (λ row. slice_get row port.0) o)
in-row port made None = refl
in-row port made (Some row) = row-place port made row

-- the answers of a port among the steps of one node
abbrev from_node : EgressPort → NodeSteps → List StepReply
from_node p ns = if ns.node.0 == p.node.0 then replies_at p.port ns.steps else []

node-place : (p : EgressPort) (ns : NodeSteps) (rows : List (List Tally))
    → tally_at p (node_counted rows ns) ≡ option_map (λ t. fold with_reply t (from_node p ns)) (tally_at p rows)
node-place p ns rows = by (ns.node.0 == p.node.0) refl
  where
    by : (b : Bool) → (ns.node.0 == p.node.0) ≡ b
        → tally_at p (node_counted rows ns) ≡ option_map (λ t. fold with_reply t (from_node p ns)) (tally_at p rows)
    by true is =
        let same : ns.node.0 ≡ p.node.0 = eqb-true ns.node.0 p.node.0 is in
        let here : slice_get (node_counted rows ns) p.node.0 ≡ option_map (λ row. steps_counted row ns.steps) (slice_get rows p.node.0)
        = subst (λ (i : ℕ). slice_get (node_counted rows ns) i ≡ option_map (λ row. steps_counted row ns.steps) (slice_get rows i)) same
        (same-place rows ns.node.0 (λ row. steps_counted row ns.steps)) in
        rw is (ap (λ o. option_and_then (λ row. slice_get row p.port.0) o) here
        ∙ in-row p.port ns.steps (slice_get rows p.node.0))
    by false is =
        rw is (ap (λ o. option_and_then (λ row. slice_get row p.port.0) o)
        (other-place rows ns.node.0 p.node.0 (λ row. steps_counted row ns.steps) (eqb-false ns.node.0 p.node.0 is))
        ∙ none (tally_at p rows))

-- those of all nodes in a tick, and in all ticks
nodes-place : (p : EgressPort) (nodes : List NodeSteps) (rows : List (List Tally))
    → tally_at p (nodes_counted rows nodes) ≡ option_map (λ t. fold with_reply t (replies_in p nodes)) (tally_at p rows)
nodes-place p [] rows = none (tally_at p rows)
nodes-place p (ns ∷ nodes) rows =
    nodes-place p nodes (node_counted rows ns)
    ∙ (ap (λ o. option_map (λ t. fold with_reply t (replies_in p nodes)) o) (node-place p ns rows)
    ∙ more (from_node p ns) (replies_in p nodes) (tally_at p rows))

ticks-place : (p : EgressPort) (ticks : List Tick) (rows : List (List Tally))
    → tally_at p (ticks_counted rows ticks) ≡ option_map (λ t. fold with_reply t (replies_of p ticks)) (tally_at p rows)
ticks-place p [] rows = none (tally_at p rows)
ticks-place p (tick ∷ ticks) rows =
    ticks-place p ticks (nodes_counted rows tick.steps)
    ∙ (ap (λ o. option_map (λ t. fold with_reply t (replies_of p ticks)) o) (nodes-place p tick.steps rows)
    ∙ more (replies_in p tick.steps) (replies_of p ticks) (tally_at p rows))

-- ---- from nothing

get-replicate : {X : Type 0} (n i : ℕ) (x : X) → i < n → slice_get (replicate n x) i ≡ Some x
get-replicate zero i x h = absurd (omega (arith, h))
get-replicate (suc n) zero x h = refl
get-replicate (suc n) (suc i) x h = let lt : i < n = omega (arith, h) in get-replicate n i x lt

pub tallies-counted : (last : ℕ) (ticks : List Tick) (p : EgressPort) → p.node.0 ≤ last → p.port.0 < 256
    → tally_at p (ticks_counted (zero_rows last) ticks) ≡ Some (tally_of (replies_of p ticks))
tallies-counted last ticks p few port =
    let some : p.node.0 < last + 1 = omega (arith, few) in
    let start : tally_at p (zero_rows last) ≡ Some zero_tally
    = ap (λ o. option_and_then (λ row. slice_get row p.port.0) o) (get-replicate (last + 1) p.node.0 zero_row some)
    ∙ get-replicate 256 p.port.0 zero_tally port in
    ticks-place p ticks (zero_rows last)
    ∙ (ap (λ o. option_map (λ t. fold with_reply t (replies_of p ticks)) o) start
    ∙ ap Some (all-counted octets_sent is_discarded (replies_of p ticks)))
