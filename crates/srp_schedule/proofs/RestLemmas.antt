-- The nodes that rest: what is known of them stays while others make steps and while the clock goes on.
use Rattle.std.proofs.Common.{◌≡◌, ℕ, zero, suc, ◌+◌, ◌-◌, ◌<◌, Bool, true, false, ◌||◌, List, [], ◌∷◌, length, get_or, replicate, map, Option, Some, None, inl, inr, refl, sym, ap, subst, ◌∙◌, arith}
use Rattle.std.specs.Prelude.{not, ◌==◌, slice_get, slice_set, option_map}
use Rattle.std.specs.List.{AllByRecursion}
use Rattle.std.proofs.lemmas.{Bool.cases_eq, Bool.ne_eqb, Bool.true≢false, List.length-replicate, Option.slice_get-map}
use Rattle.srp_base.proofs.Lists.{get-place as get_there, get-set_same as set_here, length_set, get_set_other}
use Rattle.srp_base.specs.declared.{numbers.Cs.Cs, numbers.NodeNo.NodeNo}
use Rattle.tree_topology.specs.Topology.{Topology}
use Rattle.node_core.specs.declared.types.NodeEvent.TheVariants as node_events
use Rattle.node_core.specs.declared.types.NodeStep.{NodeStep}
use Rattle.node_core.specs.{Links.IsKeptNode, State.NodeState, State.is_at_rest, State.is_busy_node, State.is_sending_time, Step.node_step}
use Rattle.topology_file.specs.Plan.{Plan}
use Rattle.world_core.specs.declared.{events.WorldEvent.WorldEvent, events.WorldEvent.TheVariants.Clock, events.WorldReply.WorldReply}
use Rattle.world_core.specs.{Kept.IsKeptWorld, World.WorldState, World.node_at, World.world_after, World.world_step, Ticks.after_script, Ticks.script_at}
use Rattle.srp_schedule.specs.{IsNodeMade, Unknown, Awake, UpTo, AreRests, IsRestAt, IsRestOf, SaysNothing}
use Rattle.srp_schedule.specs.declared.rest.Rest.{Rest}
use Rattle.srp_schedule.proofs.{OrderLemmas.idle_order, StepLemmas.steps_other}

-- ---- nothing is known

nothing_says : (rest : Rest) (s : NodeState) → SaysNothing rest → IsRestOf rest s
nothing_says Unknown s says = tt
nothing_says Awake s says = tt
nothing_says (UpTo until) s says = absurd says

rest_in : (rests : List Rest) (x : ℕ) (rest : Rest) (s : NodeState) → AllByRecursion SaysNothing rests → slice_get rests x ≡ Some rest → IsRestOf rest s
rest_in [] x rest s none is = absurd (let nay : None ≡ Some rest = is in cc)
rest_in (r ∷ rests) zero rest s none is =
    let same : r ≡ rest = cc in
    subst (λ (t : Rest). IsRestOf t s) same (nothing_says r s none.0)
rest_in (r ∷ rests) (suc x) rest s none is = rest_in rests x rest s none.1 is

all_says : (rest : Rest) → SaysNothing rest → (n : ℕ) → AllByRecursion SaysNothing (replicate n rest)
all_says rest says zero = tt
all_says rest says (suc n) = (says, all_says rest says n)

-- of each node the same is known, which says nothing
pub all_alike : (w : WorldState) (rest : Rest) (n : ℕ) → SaysNothing rest → n ≡ length w.tree.kinds → AreRests w (replicate n rest)
all_alike w rest n says count =
    record { count = length-replicate n rest ∙ count; each = λ x r s is here. rest_in (replicate n rest) x r s (all_says rest says n) is }

-- ---- a node in its turn

-- one that is known to have nothing to do makes no step
pub rest_made : (n : NodeNo) (w : WorldState) (s : NodeState) → node_at n w ≡ Some s → (is_busy_node s || is_sending_time s.clock) ≡ false → IsNodeMade n w w []
rest_made n w s is idle = record { order = idle_order n w s is idle; known = tt; replies = refl; after = refl; tree = refl }

-- what is known of a node in its turn, read from the list
rest_at : (w : WorldState) (rests : List Rest) (x : ℕ) (rest : Rest) → AreRests w rests → slice_get rests x ≡ Some rest → IsRestAt (record { 0 = x + 1 }) w rest
rest_at w rests x rest are is s here =
    let number : x + 1 - 1 ≡ x = omega arith in
    are.each x rest s is (ap (λ (k : ℕ). slice_get w.nodes k) (sym number) ∙ here)

pub rest_read : (w : WorldState) (rests : List Rest) (x i : ℕ) (rest : Rest) → AreRests w rests → x < length rests → i ≡ x → rest ≡ get_or rests i rest
    → IsRestAt (record { 0 = x + 1 }) w rest
rest_read w rests x i rest are below at value =
    rest_at w rests x rest are (get_there rests x rest below (value ∙ ap (λ (k : ℕ). get_or rests k rest) at))

-- its steps change no other node
pub one_rest : (x : ℕ) (w v : WorldState) (rests : List Rest) (rest : Rest) (made : List NodeStep) → AreRests w rests → IsNodeMade (record { 0 = x + 1 }) w v made
    → IsRestAt (record { 0 = x + 1 }) v rest → AreRests v (slice_set rests x rest)
one_rest x w v rests rest made are m own =
    let n : NodeNo = record { 0 = x + 1 } in
    let number : n.0 - 1 ≡ x = omega arith in
    record {
      count = length_set rests x rest ∙ are.count ∙ ap (λ (t : Topology). length t.kinds) (sym m.tree);
      each = λ y r s is here. elim (cases_eq x y) [
        | inl same ↦ (
            let is_here : slice_get (slice_set rests x rest) x ≡ Some r = ap (λ (k : ℕ). slice_get (slice_set rests x rest) k) same ∙ is in
            let at : node_at n v ≡ Some s = ap (λ (k : ℕ). slice_get v.nodes k) (number ∙ same) ∙ here in
            subst (λ (t : Rest). IsRestOf t s) (set_here rests x rest r is_here) (own s at))
        | inr ne ↦ (
            let before : slice_get rests y ≡ Some r = sym (get_set_other rests x y rest ne) ∙ is in
            let as_was : slice_get v.nodes y ≡ slice_get w.nodes y =
            ap (λ (u : WorldState). slice_get u.nodes y) m.after ∙ steps_other n made w y (λ e. ne (sym number ∙ e)) in
            are.each y r s before (sym as_was ∙ here))
      ];
    }

-- ---- the clock

mapped : {X Y : Type 0} (f : X → Y) (o : Option X) (y : Y) → option_map f o ≡ Some y → (x : X) × ((o ≡ Some x) × (f x ≡ y))
mapped f None y is = absurd (let nay : None ≡ Some y = is in cc)
mapped f (Some x) y is = (x, (refl, cc))

clocked_rest : ((until : Cs) (s : NodeState) → IsKeptNode s → is_at_rest until s ≡ true → is_at_rest until (node_step node_events.Clock s).0 ≡ true)
    → (rest : Rest) (s : NodeState) → IsKeptNode s → IsRestOf rest s → IsRestOf rest (node_step node_events.Clock s).0
clocked_rest law Unknown s kept is = tt
clocked_rest law Awake s kept is = tt
clocked_rest law (UpTo until) s kept is = law until s kept is

pub clocked_rests : ((until : Cs) (s : NodeState) → IsKeptNode s → is_at_rest until s ≡ true → is_at_rest until (node_step node_events.Clock s).0 ≡ true)
    → (w : WorldState) (rests : List Rest) → IsKeptWorld w → AreRests w rests → AreRests (world_step Clock w).0 rests
clocked_rests law w rests kept are =
    let on : NodeState → NodeState = λ s. (node_step node_events.Clock s).0 in
    record {
      count = are.count;
      each = λ x rest t is here.
          let was = mapped on (slice_get w.nodes x) t (sym (slice_get-map on w.nodes x) ∙ here) in
          let s = was.0 in
          subst (λ (u : NodeState). IsRestOf rest u) was.1.1
          (clocked_rest law rest s (kept.nodes x s was.1.0).kept.kept (are.each x rest s is was.1.0));
    }

-- ---- a tick

-- where a test says so a list is empty
pub empty_as : {X : Type 0} (xs : List X) (b : Bool) → b ≡ (length xs == 0) → not b ≡ false → xs ≡ []
empty_as [] b e nay = refl
empty_as (x ∷ xs) b e nay =
    let some = ne_eqb (length (x ∷ xs)) 0 (λ none. omega (arith, none)) in absurd (true≢false (sym (ap not (e ∙ some)) ∙ nay))

-- nothing has happened where no event has a number
script_none : (es : List (ℕ × WorldEvent)) → map (λ e. e.0) es ≡ [] → es ≡ []
script_none [] none = refl
script_none (e ∷ es) none = absurd (cc)

pub script_rests : (plan : Plan) (t : ℕ) (w v : WorldState) (answers : List (ℕ × WorldReply)) (rests : List Rest) → map (λ e. e.0) answers ≡ map (λ e. e.0) (script_at plan t)
    → v ≡ after_script plan t w → answers ≡ [] → AreRests w rests → AreRests v rests
script_rests plan t w v answers rests are after none rest =
    let empty = script_none (script_at plan t) (sym are ∙ ap (λ (es : List (ℕ × WorldReply)). map (λ e. e.0) es) none) in
    let same : v ≡ w = after ∙ ap (λ (es : List (ℕ × WorldEvent)). world_after (map (λ (e : ℕ × WorldEvent). e.1) es) w) empty in
    subst (λ (u : WorldState). AreRests u rests) (sym same) rest
