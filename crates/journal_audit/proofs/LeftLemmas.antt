-- All jobs of a node's ports at its turn.
use Rattle.std.proofs.Common.{◌≡◌, ℕ, zero, suc, ◌+◌, ◌≤◌, Bool, true, false, List, [], ◌∷◌, length, map, refl, sym, ap, subst, ◌∙◌, arith}
use Rattle.std.specs.Prelude.{slice_get, Option, Some, ◌||◌, nat_lt}
use Rattle.std.proofs.lemmas.Bool.Decides.{nat_tests}
use Rattle.std.specs.{Option.option_map_or, List.range_with_len}
use Rattle.srp_base.specs.declared.numbers.NodeNo.{NodeNo}
use Rattle.tree_topology.specs.Topology.{HasNode}
use Rattle.topology_file.specs.Plan.{Plan}
use Rattle.node_core.specs.declared.types.PortStep.{PortStep}
use Rattle.node_core.specs.State.{NodeState, ports_of, job_list}
use Rattle.world_core.specs.{World.WorldState, World.node_at, During.IsDuring, OneByOne.node_jobs}
use Rattle.journal_audit.specs.{LeftState, is_any_left, jobs_left, left_at, left_of, place_at, ArePortsLeft, ReplayLaws}
use Rattle.journal_audit.proofs.FollowLemmas.{node}

jobs_of_all : (plan : Plan) (t : ℕ) (n : NodeNo) (s : NodeState) (places : List ℕ) → jobs_left (map (left_at plan t n s) places) ≡ map (λ at. job_list at s) places
jobs_of_all plan t n s [] = refl
jobs_of_all plan t n s (at ∷ places) = ap (λ (js : List (List PortStep)). job_list at s ∷ js) (jobs_of_all plan t n s places)

got : (plan : Plan) (t : ℕ) (n : NodeNo) (s : NodeState) (a m at : ℕ) (p : LeftState) → slice_get (map (left_at plan t n s) (range_with_len a m)) at ≡ Some p → p.place ≡ place_at plan t n (a + at)
got plan t n s a zero at p get = cc
got plan t n s a (suc m) zero p get =
    let same : left_at plan t n s a ≡ p = cc in
    let number : a ≡ a + 0 = omega arith in
    sym (ap (λ (q : LeftState). q.place) same) ∙ ap (place_at plan t n) number
got plan t n s a (suc m) (suc at) p get = let number : a + 1 + at ≡ a + suc at = omega arith in got plan t n s (a + 1) m at p get ∙ ap (place_at plan t n) number

pub jobs_all : (plan : Plan) (t : ℕ) (n : NodeNo) (w : WorldState) (s : NodeState) → node_at n w ≡ Some s → jobs_left (left_of plan t n s) ≡ node_jobs n w
jobs_all plan t n w s is =
    jobs_of_all plan t n s (range_with_len 0 (ports_of s))
    ∙ ap (λ (o : Option NodeState). option_map_or (λ (r : NodeState). map (λ at. job_list at r) (range_with_len 0 (ports_of r))) o []) (sym is)

pub ports_all : (plan : Plan) → ReplayLaws plan → (t x : ℕ) (w : WorldState) (s : NodeState) (ports : List LeftState) → IsDuring plan.tree t w → HasNode plan.tree x → node_at (node x) w ≡ Some s
    → ports ≡ left_of plan t (node x) s → length ports ≤ 255 → ArePortsLeft plan t (node x) ports
ports_all plan laws t x w s ports run known is are few =
    record {
      few = few;
      long = ap (λ (ps : List LeftState). length (jobs_left ps)) are ∙ (ap (λ (js : List (List PortStep)). length js) (jobs_all plan t (node x) w s is) ∙ laws.count t x w run known);
      places = λ at p get. by at p (got plan t (node x) s 0 (ports_of s) at p (subst (λ (ps : List LeftState). slice_get ps at ≡ Some p) are get));
    }
  where
    by : (at : ℕ) (p : LeftState) → p.place ≡ place_at plan t (node x) (0 + at) → p.place ≡ place_at plan t (node x) at
    by at p e = let number : 0 + at ≡ at = omega arith in e ∙ ap (place_at plan t (node x)) number

-- where a job is left, it is at some port
pub some_left : (ports : List LeftState) → is_any_left ports ≡ true → (at : ℕ) × (p : LeftState) × (slice_get ports at ≡ Some p) × (1 ≤ length p.jobs)
some_left [] h = cc
some_left (p ∷ ports) h = by (nat_lt 0 (length p.jobs)) refl h (some_left ports)
  where
    by : (b : Bool) → nat_lt 0 (length p.jobs) ≡ b → (b || is_any_left ports) ≡ true
        → (is_any_left ports ≡ true → (at : ℕ) × (q : LeftState) × (slice_get ports at ≡ Some q) × (1 ≤ length q.jobs))
        → (at : ℕ) × (q : LeftState) × (slice_get (p ∷ ports) at ≡ Some q) × (1 ≤ length q.jobs)
    by true e is later = (0, p, refl, grind (arith, nat_tests, e))
    by false e is later = let found = later is in (suc found.0, found.1, found.2, found.3)
