-- The canonical order of a node's jobs is that of its turns, and at each port it is the port's own order.
use Rattle.std.proofs.Common.{◌≡◌, ◌≢◌, ℕ, zero, suc, ◌+◌, ◌-◌, ◌<◌, ◌≤◌, Bool, true, false, ◌||◌, List, [], ◌∷◌, ◌++◌, length, map, drop, get_or, refl, sym, ap, ◌∙◌, append_assoc, arith}
use Rattle.std.specs.Prelude.{slice_get, Some, ◌==◌, if◌then◌else◌, filter, replicate}
use Rattle.std.specs.{Option.option_map_or, List.AllByRecursion, List.flat_map, List.range_with_len}
use Rattle.std.proofs.Math.Seq.{drop-cons}
use Rattle.std.proofs.lemmas.{List.append-nil, List.map-append, List.Elements.filter-append}
use Rattle.std.proofs.lemmas.Bool.{or_parts as neither}
use Rattle.srp_base.proofs.{Lists.each_append, Arithmetic.is_same as same_is, Arithmetic.is_other as other_is}
use Rattle.srp_base.specs.declared.{numbers.NodeNo.NodeNo, numbers.PortNo.PortNo, numbers.EgressPort.EgressPort, mrp.App.TheVariants.Mvrp, mrp.App.TheVariants.Msrp}
use Rattle.attribute_propagation.specs.Ports.{place_of}
use Rattle.node_core.specs.declared.types.PortStep.{PortStep}
use Rattle.node_core.specs.declared.types.PortStep.TheVariants.{Work, Due, Settle, Send}
use Rattle.node_core.specs.State.{NodeState, ports_of, job_list, is_busy_node, is_sending_time}
use Rattle.world_core.specs.{World.WorldState, World.node_at, Ticks.is_work, Ticks.is_due, Ticks.is_settle, Ticks.is_send, Ticks.jobs_of, Ticks.node_ports, Ticks.canonical_order}
use Rattle.srp_schedule.specs.{Turn, Works, Dues, Settles, Sends, is_in_turn, turn_from, order_of}

-- four lists one after the other
four : {X : Type 0} (a b c d p q r s : List X) → a ≡ p → b ≡ q → c ≡ r → d ≡ s → a ++ b ++ c ++ d ≡ p ++ q ++ r ++ s
four a b c d p q r s e f g h = cc

-- ---- the definition's order is that of the turns

turn_is : (turn : Turn) (n : NodeNo) (jobs : EgressPort → List PortStep) (f : ℕ → List PortStep)
    → ((at : ℕ) → jobs (record { node = n; port = record { 0 = at + 1 } }) ≡ f at) → (a c : ℕ)
    → flat_map (λ p. map (λ step. (p.port, step)) (filter (is_in_turn turn) (jobs p))) (map (λ k. record { node = n; port = record { 0 = k } }) (range_with_len (a + 1) c))
    ≡ turn_from turn (a + 1) (map f (range_with_len a c))
turn_is turn n jobs f same a zero = refl
turn_is turn n jobs f same a (suc c) =
    let port : PortNo = record { 0 = a + 1 } in
    let rest : List (PortNo × PortStep) = turn_from turn (a + 1 + 1) (map f (range_with_len (a + 1) c)) in
    ap (λ x. map (λ step. (port, step)) (filter (is_in_turn turn) (jobs (record { node = n; port = port }))) ++ x) (turn_is turn n jobs f same (a + 1) c)
    ∙ ap (λ (x : List PortStep). map (λ step. (port, step)) (filter (is_in_turn turn) x) ++ rest) (same a)

jobs_are : (n : NodeNo) (w : WorldState) (s : NodeState) → node_at n w ≡ Some s → (at : ℕ) → jobs_of (record { node = n; port = record { 0 = at + 1 } }) w ≡ job_list at s
jobs_are n w s is at =
    let number : at + 1 - 1 ≡ at = omega arith in
    ap (λ o. option_map_or (λ r. job_list (at + 1 - 1) r) o []) is ∙ ap (λ (k : ℕ). job_list k s) number

pub canonical_is : (n : NodeNo) (w : WorldState) (s : NodeState) → node_at n w ≡ Some s
    → canonical_order n w ≡ order_of (map (λ at. job_list at s) (range_with_len 0 (ports_of s)))
canonical_is n w s is = four _ _ _ _ _ _ _ _ (that Works) (that Dues) (that Settles) (that Sends)
  where
    count : option_map_or ports_of (node_at n w) 0 ≡ ports_of s
    count = ap (λ o. option_map_or ports_of o 0) is

    that : (turn : Turn) → flat_map (λ p. map (λ step. (p.port, step)) (filter (is_in_turn turn) (jobs_of p w))) (node_ports n w)
        ≡ turn_from turn 1 (map (λ at. job_list at s) (range_with_len 0 (ports_of s)))
    that turn =
        ap (λ (c : ℕ). flat_map (λ p. map (λ step. (p.port, step)) (filter (is_in_turn turn) (jobs_of p w))) (map (λ k. record { node = n; port = record { 0 = k } }) (range_with_len 1 c))) count
        ∙ turn_is turn n (λ p. jobs_of p w) (λ at. job_list at s) (jobs_are n w s is) 0 (ports_of s)

-- ---- a node that isn't busy

-- its jobs are two Sends at a moment of sending, and else none
still_jobs : (b c : Bool) (busy sending : List PortStep) → b ≡ false → (if b then busy else []) ++ (if c then sending else []) ≡ (if c then sending else [])
still_jobs true c busy sending h = cc
still_jobs false c busy sending h = refl

each_same : (f : ℕ → List PortStep) (steps : List PortStep) → ((at : ℕ) → f at ≡ steps) → (a c : ℕ) → map f (range_with_len a c) ≡ replicate c steps
each_same f steps same a zero = refl
each_same f steps same a (suc c) =
    ap (λ (x : List PortStep). x ∷ map f (range_with_len (a + 1) c)) (same a) ∙ ap (λ (x : List (List PortStep)). steps ∷ x) (each_same f steps same (a + 1) c)

-- a turn in which none of their steps is made
no_turn : (turn : Turn) (steps : List PortStep) → filter (is_in_turn turn) steps ≡ [] → (k c : ℕ) → turn_from turn k (replicate c steps) ≡ []
no_turn turn steps none k zero = refl
no_turn turn steps none k (suc c) =
    ap (λ (x : List PortStep). map (λ step. (record { 0 = k }, step)) x ++ turn_from turn (k + 1) (replicate c steps)) none ∙ no_turn turn steps none (k + 1) c

quiet_lists : (s : NodeState) (c : Bool) → is_sending_time s.clock ≡ c → is_busy_node s ≡ false
    → map (λ at. job_list at s) (range_with_len 0 (ports_of s)) ≡ replicate (ports_of s) (if c then Send Mvrp ∷ Send Msrp ∷ [] else [])
quiet_lists s c time still =
    let sends : Bool → List PortStep = λ b. if b then Send Mvrp ∷ Send Msrp ∷ [] else [] in
    each_same (λ at. job_list at s) (sends c)
    (λ at. still_jobs (is_busy_node s) (is_sending_time s.clock) _ (Send Mvrp ∷ Send Msrp ∷ []) still ∙ ap sends time) 0 (ports_of s)

pub sends_order : (s : NodeState) → is_busy_node s ≡ false → is_sending_time s.clock ≡ true
    → turn_from Sends 1 (replicate (ports_of s) (Send Mvrp ∷ Send Msrp ∷ [])) ≡ order_of (map (λ at. job_list at s) (range_with_len 0 (ports_of s)))
sends_order s still time =
    let steps : List PortStep = Send Mvrp ∷ Send Msrp ∷ [] in
    let n = ports_of s in
    sym (ap order_of (quiet_lists s true time still)
    ∙ four _ _ _ _ [] [] [] (turn_from Sends 1 (replicate n steps)) (no_turn Works steps refl 1 n) (no_turn Dues steps refl 1 n) (no_turn Settles steps refl 1 n) refl)

pub no_order : (s : NodeState) → is_busy_node s ≡ false → is_sending_time s.clock ≡ false
    → [] ≡ order_of (map (λ at. job_list at s) (range_with_len 0 (ports_of s)))
no_order s still time =
    let n = ports_of s in
    sym (ap order_of (quiet_lists s false time still)
    ∙ four _ _ _ _ [] [] [] [] (no_turn Works [] refl 1 n) (no_turn Dues [] refl 1 n) (no_turn Settles [] refl 1 n) (no_turn Sends [] refl 1 n))

-- a node that has nothing to do has no jobs in the order
pub idle_order : (n : NodeNo) (w : WorldState) (s : NodeState) → node_at n w ≡ Some s → (is_busy_node s || is_sending_time s.clock) ≡ false → [] ≡ canonical_order n w
idle_order n w s is idle =
    let both = neither (is_busy_node s) (is_sending_time s.clock) idle in
    no_order s both.0 both.1 ∙ sym (canonical_is n w s is)

-- two Sends of one port more
pub sends_more : (at n : ℕ) (order one both : List (PortNo × PortStep)) (all : List (PortNo × PortStep)) → at < n
    → one ≡ order ++ (record { 0 = at + 1 }, Send Mvrp) ∷ [] → both ≡ one ++ (record { 0 = at + 1 }, Send Msrp) ∷ []
    → order ++ turn_from Sends (at + 1) (replicate (n - at) (Send Mvrp ∷ Send Msrp ∷ [])) ≡ all
    → both ++ turn_from Sends (at + 1 + 1) (replicate (n - (at + 1)) (Send Mvrp ∷ Send Msrp ∷ [])) ≡ all
sends_more at n order one both all lt is_one is_both so_far =
    let steps : List PortStep = Send Mvrp ∷ Send Msrp ∷ [] in
    let port : PortNo = record { 0 = at + 1 } in
    let rest : ℕ → List (PortNo × PortStep) = λ k. turn_from Sends (at + 1 + 1) (replicate k steps) in
    let less : n - at ≡ suc (n - (at + 1)) = omega (arith, lt) in
    let left = rest (n - (at + 1)) in
    ap (λ (x : List (PortNo × PortStep)). x ++ left) (is_both ∙ ap (λ (x : List (PortNo × PortStep)). x ++ (port, Send Msrp) ∷ []) is_one)
    ∙ ap (λ (x : List (PortNo × PortStep)). x ++ left) (append_assoc order ((port, Send Mvrp) ∷ []) ((port, Send Msrp) ∷ []))
    ∙ append_assoc order ((port, Send Mvrp) ∷ (port, Send Msrp) ∷ []) left
    ∙ ap (λ (k : ℕ). order ++ turn_from Sends (at + 1) (replicate k steps)) (sym less)
    ∙ so_far

-- ---- the ports of the order

each_step : (P : PortNo → Type 0) (port : PortNo) (steps : List PortStep) → P port → AllByRecursion (λ (j : PortNo × PortStep). P j.0) (map (λ step. (port, step)) steps)
each_step P port [] h = tt
each_step P port (step ∷ steps) h = (h, each_step P port steps h)

turn_ports : (P : PortNo → Type 0) (turn : Turn) (k : ℕ) (jobs : List (List PortStep)) → ((i : ℕ) → k ≤ i → i < k + length jobs → P (record { 0 = i }))
    → AllByRecursion (λ (j : PortNo × PortStep). P j.0) (turn_from turn k jobs)
turn_ports P turn k [] h = tt
turn_ports P turn k (steps ∷ jobs) h =
    each_append (λ (j : PortNo × PortStep). P j.0) (map (λ step. (record { 0 = k }, step)) (filter (is_in_turn turn) steps)) (turn_from turn (k + 1) jobs)
    (each_step P (record { 0 = k }) (filter (is_in_turn turn) steps) (h k (omega arith) (omega arith)))
    (turn_ports P turn (k + 1) jobs (λ i le lt. h i (omega (arith, le)) (omega (arith, lt))))

pub order_ports : (P : PortNo → Type 0) (jobs : List (List PortStep)) → ((i : ℕ) → 1 ≤ i → i < 1 + length jobs → P (record { 0 = i }))
    → AllByRecursion (λ (j : PortNo × PortStep). P j.0) (order_of jobs)
order_ports P jobs h =
    let Q : PortNo × PortStep → Type 0 = λ j. P j.0 in
    let works = turn_from Works 1 jobs in
    let dues = turn_from Dues 1 jobs in
    let settles = turn_from Settles 1 jobs in
    let sends = turn_from Sends 1 jobs in
    each_append Q (works ++ dues ++ settles) sends
    (each_append Q (works ++ dues) settles (each_append Q works dues (turn_ports P Works 1 jobs h) (turn_ports P Dues 1 jobs h)) (turn_ports P Settles 1 jobs h))
    (turn_ports P Sends 1 jobs h)

-- ---- the steps of one port in the order

abbrev pub at_port : ℕ → List (PortNo × PortStep) → List PortStep
at_port k jobs = map (λ j. j.1) (filter (λ j. j.0.0 == k) jobs)

at_append : (k : ℕ) (a b : List (PortNo × PortStep)) → at_port k (a ++ b) ≡ at_port k a ++ at_port k b
at_append k a b =
    ap (λ (x : List (PortNo × PortStep)). map (λ j. j.1) x) (filter-append (λ (j : PortNo × PortStep). j.0.0 == k) a b)
    ∙ map-append (λ (j : PortNo × PortStep). j.1) (filter (λ (j : PortNo × PortStep). j.0.0 == k) a) (filter (λ (j : PortNo × PortStep). j.0.0 == k) b)

at_own : (k m : ℕ) (steps : List PortStep) → m ≡ k → at_port k (map (λ step. (record { 0 = m }, step)) steps) ≡ steps
at_own k m [] e = refl
at_own k m (step ∷ steps) e =
    let later : List (PortNo × PortStep) = map (λ x. (record { 0 = m }, x)) steps in
    ap (λ (b : Bool). map (λ (j : PortNo × PortStep). j.1) (if b then (record { 0 = m }, step) ∷ filter (λ (j : PortNo × PortStep). j.0.0 == k) later
    else filter (λ (j : PortNo × PortStep). j.0.0 == k) later)) (same_is m k e)
    ∙ ap (λ x. step ∷ x) (at_own k m steps e)

at_other : (k m : ℕ) (steps : List PortStep) → m ≢ k → at_port k (map (λ step. (record { 0 = m }, step)) steps) ≡ []
at_other k m [] ne = refl
at_other k m (step ∷ steps) ne =
    let later : List (PortNo × PortStep) = map (λ x. (record { 0 = m }, x)) steps in
    ap (λ (b : Bool). map (λ (j : PortNo × PortStep). j.1) (if b then (record { 0 = m }, step) ∷ filter (λ (j : PortNo × PortStep). j.0.0 == k) later
    else filter (λ (j : PortNo × PortStep). j.0.0 == k) later)) (other_is m k ne)
    ∙ at_other k m steps ne

turn_below : (turn : Turn) (k m : ℕ) (jobs : List (List PortStep)) → k < m → at_port k (turn_from turn m jobs) ≡ []
turn_below turn k m [] lt = refl
turn_below turn k m (steps ∷ jobs) lt =
    let own : List PortStep = filter (is_in_turn turn) steps in
    at_append k (map (λ step. (record { 0 = m }, step)) own) (turn_from turn (m + 1) jobs)
    ∙ (ap (λ x. x ++ at_port k (turn_from turn (m + 1) jobs)) (at_other k m own (λ e. omega (arith, lt, e)))
    ∙ turn_below turn k (m + 1) jobs (omega (arith, lt)))

turn_at : (turn : Turn) (k m i : ℕ) (jobs : List (List PortStep)) (steps : List PortStep) → slice_get jobs i ≡ Some steps → k ≡ m + i
    → at_port k (turn_from turn m jobs) ≡ filter (is_in_turn turn) steps
turn_at turn k m i [] steps get e = cc
turn_at turn k m zero (own ∷ jobs) steps get e =
    let made : List PortStep = filter (is_in_turn turn) own in
    let same : own ≡ steps = cc in
    at_append k (map (λ step. (record { 0 = m }, step)) made) (turn_from turn (m + 1) jobs)
    ∙ (ap (λ x. x ++ at_port k (turn_from turn (m + 1) jobs)) (at_own k m made (omega (arith, e)))
    ∙ (ap (λ x. made ++ x) (turn_below turn k (m + 1) jobs (omega (arith, e)))
    ∙ (append-nil made ∙ ap (λ x. filter (is_in_turn turn) x) same)))
turn_at turn k m (suc i) (own ∷ jobs) steps get e =
    let made : List PortStep = filter (is_in_turn turn) own in
    at_append k (map (λ step. (record { 0 = m }, step)) made) (turn_from turn (m + 1) jobs)
    ∙ (ap (λ x. x ++ at_port k (turn_from turn (m + 1) jobs)) (at_other k m made (λ same. omega (arith, same, e)))
    ∙ turn_at turn k (m + 1) i jobs steps get (omega (arith, e)))

abbrev turns : List PortStep → List PortStep
turns steps = filter is_work steps ++ filter is_due steps ++ filter is_settle steps ++ filter is_send steps

order_at : (k i : ℕ) (jobs : List (List PortStep)) (steps : List PortStep) → slice_get jobs i ≡ Some steps → k ≡ 1 + i → at_port k (order_of jobs) ≡ turns steps
order_at k i jobs steps get e =
    let works = turn_from Works 1 jobs in
    let dues = turn_from Dues 1 jobs in
    let settles = turn_from Settles 1 jobs in
    let sends = turn_from Sends 1 jobs in
    at_append k (works ++ dues ++ settles) sends
    ∙ (ap (λ x. x ++ at_port k sends) (at_append k (works ++ dues) settles ∙ ap (λ x. x ++ at_port k settles) (at_append k works dues))
    ∙ four _ _ _ _ _ _ _ _ (turn_at Works k 1 i jobs steps get e) (turn_at Dues k 1 i jobs steps get e) (turn_at Settles k 1 i jobs steps get e) (turn_at Sends k 1 i jobs steps get e))

-- ---- the jobs of one port stand in the order of the turns

works_in : {X : Type 0} (ws : List X) (r : List PortStep) → filter is_work (map (λ _. Work) ws ++ r) ≡ map (λ _. Work) ws ++ filter is_work r
works_in [] r = refl
works_in (w ∷ ws) r = ap (λ x. Work ∷ x) (works_in ws r)

dues_out : {X : Type 0} (ws : List X) (r : List PortStep) → filter is_due (map (λ _. Work) ws ++ r) ≡ filter is_due r
dues_out [] r = refl
dues_out (w ∷ ws) r = dues_out ws r

settles_out : {X : Type 0} (ws : List X) (r : List PortStep) → filter is_settle (map (λ _. Work) ws ++ r) ≡ filter is_settle r
settles_out [] r = refl
settles_out (w ∷ ws) r = settles_out ws r

sends_out : {X : Type 0} (ws : List X) (r : List PortStep) → filter is_send (map (λ _. Work) ws ++ r) ≡ filter is_send r
sends_out [] r = refl
sends_out (w ∷ ws) r = sends_out ws r

joined : (ws s : List PortStep) → ws ++ [] ++ (Due ∷ []) ++ (Settle ∷ []) ++ s ≡ ws ++ (Due ∷ Settle ∷ s)
joined [] s = refl
joined (w ∷ ws) s = ap (λ x. w ∷ x) (joined ws s)

busy_turns : {X : Type 0} (ws : List X) (c : Bool) → turns (map (λ _. Work) ws ++ (Due ∷ Settle ∷ (if c then Send Mvrp ∷ Send Msrp ∷ [] else [])))
    ≡ map (λ _. Work) ws ++ (Due ∷ Settle ∷ (if c then Send Mvrp ∷ Send Msrp ∷ [] else []))
busy_turns ws true =
    let r : List PortStep = Due ∷ Settle ∷ Send Mvrp ∷ Send Msrp ∷ [] in
    four _ _ _ _ _ _ _ _ (works_in ws r) (dues_out ws r) (settles_out ws r) (sends_out ws r) ∙ joined (map (λ _. Work) ws) (Send Mvrp ∷ Send Msrp ∷ [])
busy_turns ws false =
    let r : List PortStep = Due ∷ Settle ∷ [] in
    four _ _ _ _ _ _ _ _ (works_in ws r) (dues_out ws r) (settles_out ws r) (sends_out ws r) ∙ joined (map (λ _. Work) ws) []

job_turns : {X : Type 0} (b c : Bool) (ws : List X)
    → turns ((if b then map (λ _. Work) ws ++ (Due ∷ Settle ∷ []) else []) ++ (if c then Send Mvrp ∷ Send Msrp ∷ [] else []))
    ≡ (if b then map (λ _. Work) ws ++ (Due ∷ Settle ∷ []) else []) ++ (if c then Send Mvrp ∷ Send Msrp ∷ [] else [])
job_turns false false ws = refl
job_turns false true ws = refl
job_turns true c ws =
    let s : List PortStep = if c then Send Mvrp ∷ Send Msrp ∷ [] else [] in
    let e = append_assoc (map (λ _. Work) ws) (Due ∷ Settle ∷ []) s in
    ap turns e ∙ (busy_turns ws c ∙ sym e)

pub turns_of_jobs : (at : ℕ) (s : NodeState) → turns (job_list at s) ≡ job_list at s
turns_of_jobs at s = job_turns (is_busy_node s) (is_sending_time s.clock) _

at_range : (f : ℕ → List PortStep) (a c i : ℕ) → i < c → slice_get (map f (range_with_len a c)) i ≡ Some (f (a + i))
at_range f a zero i lt = absurd (omega (arith, lt))
at_range f a (suc c) zero lt = let here : a ≡ a + 0 = omega arith in ap (λ (k : ℕ). Some (f k)) here
at_range f a (suc c) (suc i) lt =
    let next : a + 1 + i ≡ a + suc i = omega arith in
    at_range f (a + 1) c i (omega (arith, lt)) ∙ ap (λ (k : ℕ). Some (f k)) next

-- what the canonical order has of a port is the port's jobs
pub order_of_port : (n : NodeNo) (w : WorldState) (s : NodeState) (port : PortNo) → node_at n w ≡ Some s → 1 ≤ port.0 → port.0 ≤ ports_of s
    → at_port port.0 (canonical_order n w) ≡ jobs_of (record { node = n; port = port }) w
order_of_port n w s port is first last =
    let i : ℕ = port.0 - 1 in
    let f : ℕ → List PortStep = λ at. job_list at s in
    let number : port.0 ≡ 1 + i = omega (arith, first) in
    let zero_more : 0 + i ≡ i = omega arith in
    let at_i : slice_get (map f (range_with_len 0 (ports_of s))) i ≡ Some (f i) = at_range f 0 (ports_of s) i (omega (arith, first, last)) ∙ ap (λ (k : ℕ). Some (f k)) zero_more in
    ap (at_port port.0) (canonical_is n w s is)
    ∙ (order_at port.0 i (map f (range_with_len 0 (ports_of s))) (f i) at_i number
    ∙ (turns_of_jobs i s ∙ sym (ap (λ o. option_map_or (λ r. job_list (place_of port) r) o []) is)))

-- ---- loops

pub range_more : (f : ℕ → List PortStep) (a c : ℕ) → 0 < c → map f (range_with_len a c) ≡ f a ∷ map f (range_with_len (a + 1) (c - 1))
range_more f a zero lt = absurd (omega (arith, lt))
range_more f a (suc c) lt = let less : c ≡ suc c - 1 = omega arith in ap (λ (k : ℕ). f a ∷ map f (range_with_len (a + 1) k)) less

-- the jobs of one port more
pub port_more : (f : ℕ → List PortStep) (a n : ℕ) (jobs next : List (List PortStep)) (steps : List PortStep) (all : List (List PortStep)) → a < n → steps ≡ f a
    → next ≡ jobs ++ steps ∷ [] → jobs ++ map f (range_with_len a (n - a)) ≡ all → next ++ map f (range_with_len (a + 1) (n - (a + 1))) ≡ all
port_more f a n jobs next steps all lt own push so_far =
    let less : n - (a + 1) ≡ n - a - 1 = omega (arith, lt) in
    ap (λ (k : ℕ). next ++ map f (range_with_len (a + 1) k)) less
    ∙ (ap (λ x. x ++ map f (range_with_len (a + 1) (n - a - 1))) (push ∙ ap (λ x. jobs ++ x ∷ []) own)
    ∙ (append_assoc jobs (f a ∷ []) (map f (range_with_len (a + 1) (n - a - 1)))
    ∙ (ap (λ x. jobs ++ x) (sym (range_more f a (n - a) (omega (arith, lt)))) ∙ so_far)))

-- the turn of one port more
pub turn_more : (turn : Turn) (i : ℕ) (jobs : List (List PortStep)) (own steps : List PortStep) (order next all : List (PortNo × PortStep)) → i < length jobs
    → own ≡ steps → steps ≡ get_or jobs i steps → next ≡ order ++ map (λ step. (record { 0 = i + 1 }, step)) (filter (is_in_turn turn) own)
    → order ++ turn_from turn (i + 1) (drop i jobs) ≡ all → next ++ turn_from turn (i + 1 + 1) (drop (i + 1) jobs) ≡ all
turn_more turn i jobs own steps order next all lt same here push so_far =
    let after : suc i ≡ i + 1 = omega arith in
    let cut : drop i jobs ≡ own ∷ drop (i + 1) jobs =
    drop-cons jobs i steps lt ∙ (ap (λ x. x ∷ drop (suc i) jobs) (sym (same ∙ here)) ∙ ap (λ (k : ℕ). own ∷ drop k jobs) after)
    in
    let made : List (PortNo × PortStep) = map (λ step. (record { 0 = i + 1 }, step)) (filter (is_in_turn turn) own) in
    ap (λ x. x ++ turn_from turn (i + 1 + 1) (drop (i + 1) jobs)) push
    ∙ (append_assoc order made (turn_from turn (i + 1 + 1) (drop (i + 1) jobs)) ∙ (ap (λ js. order ++ turn_from turn (i + 1) js) (sym cut) ∙ so_far))
