-- What Node::new asks of the ports of a node.
use Rattle.std.proofs.Common.{ℕ, ◌+◌, ◌-◌, ◌*◌, ◌<◌, ◌≤◌, Bool, true, false, if◌then◌else◌, List, [], ◌∷◌, ◌++◌, length, arith}
use Rattle.std.specs.Prelude.{◌==◌, ◌^◌}
use Rattle.std.specs.List.{All, AllByRecursion}
use Rattle.std.proofs.lemmas.List.Elements.{All-head, All-tail}
use Rattle.srp_base.specs.declared.ports.PortSetup.{PortSetup}
use Rattle.tree_topology.specs.Graph.{IsNode}
use Rattle.topology_file.specs.declared.entries.LinkEntry.{LinkEntry}
use Rattle.topology_file.specs.{Plan.Plan, Scenario.KeepsRules}
use Rattle.mrp_participant.specs.State.{IsTime}
use Rattle.world_core.specs.{period_of, setup_of, end_setup, setups_from}
use Rattle.world_core.proofs.Beginnings.{ports_length}

-- a LeaveAll period is a time
is_period : (n : ℕ) → IsTime (period_of n)
is_period n = (omega arith, omega arith)

-- what holds of both ends of a link and of the rest holds of all
one_more : (P : PortSetup → Type 0) (n x : ℕ) (l : LinkEntry) (rest : List PortSetup) → ((k : ℕ) → P (setup_of k l)) → AllByRecursion P rest
    → AllByRecursion P (end_setup n x l ++ rest)
one_more P n x l rest each all = by (l.a.0 == x) (l.b.0 == x)
  where
    by : (a b : Bool) → AllByRecursion P ((if a then setup_of (2 * n - 1) l ∷ [] else if b then setup_of (2 * n) l ∷ [] else []) ++ rest)
    by true b = (each (2 * n - 1), all)
    by false true = (each (2 * n), all)
    by false false = all

pub have_periods : (n x : ℕ) (links : List LinkEntry) → AllByRecursion (λ p. IsTime p.period) (setups_from n x links)
have_periods n x [] = tt
have_periods n x (l ∷ links) = one_more (λ p. IsTime p.period) n x l (setups_from (n + 1) x links) is_period (have_periods (n + 1) x links)

pub have_shares : (n x : ℕ) (links : List LinkEntry) → All (λ l. (l.delta_a + l.delta_b ≤ 90) × (l.latency < 2 ^ 32)) links
    → AllByRecursion (λ p. p.delta_a + p.delta_b ≤ 90) (setups_from n x links)
have_shares n x [] forms = tt
have_shares n x (l ∷ links) forms =
    let F : LinkEntry → Type 0 = λ l. (l.delta_a + l.delta_b ≤ 90) × (l.latency < 2 ^ 32) in
    one_more (λ p. p.delta_a + p.delta_b ≤ 90) n x l (setups_from (n + 1) x links) (λ _. (All-head F l links forms).0) (have_shares (n + 1) x links (All-tail F l links forms))

-- a node has few ports
pub few_ports : (plan : Plan) → KeepsRules plan → (x : ℕ) → IsNode (length plan.nodes) x → length (setups_from 1 x plan.links) ≤ 255
few_ports plan rules x is = let count = ports_length 1 x plan.links in let few = rules.uncrowded x is in omega (arith, count, few)
