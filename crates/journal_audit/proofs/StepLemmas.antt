-- One step of the replay: which port makes it, and where no port can.
use Rattle.std.proofs.Common.{◌≡◌, ◌≢◌, ◌⊎◌, inl, inr, ℕ, zero, suc, ◌+◌, ◌<◌, ◌≤◌, true, false, List, [], ◌∷◌, ◌++◌, length, refl, sym, ap, subst, ◌∙◌, append_assoc, arith}
use Rattle.std.specs.Prelude.{slice_get, slice_index_or, slice_set, Some}
use Rattle.std.proofs.lemmas.{List.length-append, Option.slice_get_within}
use Rattle.srp_base.proofs.Lists.{length_set}
use Rattle.srp_base.specs.Text.{whole_of}
use Rattle.srp_base.specs.declared.{numbers.NodeNo.NodeNo, numbers.PortNo.PortNo}
use Rattle.tree_topology.specs.Topology.{HasNode, HasPort}
use Rattle.attribute_propagation.specs.Ports.{place_of}
use Rattle.topology_file.specs.Plan.{Plan}
use Rattle.node_core.specs.declared.{types.NodeStep.NodeStep, types.PortStep.PortStep}
use Rattle.world_core.specs.declared.{events.WorldEvent.TheVariants.Port, events.WorldReply.WorldReply, events.WorldReply.TheVariants.Step}
use Rattle.world_core.specs.{World.WorldState, World.Happened, World.world_step, During.IsDuring, OneByOne.IsNextJob}
use Rattle.report_words.specs.Names.{port_name}
use Rattle.journal_lines.specs.Lines.{place_text, made_text, line_at}
use Rattle.journal_audit.specs.{lines_of, LeftState, jobs_left, place_at, ArePortsLeft, MayBeNext, IsOfNone, IsNextPort, asking_for, IsTaken, IsStuck, TakesOrStays, AreTaken, answer_line, answer_lines, FollowJobs, ReplayLaws, IsOtherAnswer, IsStepRead}
use Rattle.journal_audit.specs.Reading.{Reading}
use Rattle.journal_audit.proofs.{TextLemmas.first_begins, FollowLemmas.node, FollowLemmas.jobs_stuck, FollowLemmas.ports_same, FollowLemmas.next_same}

-- ---- answers

pub other_answer : (t : ℕ) (answers front behind : List (ℕ × WorldReply)) (e : ℕ × WorldReply) (from via to : Reading) → answers ≡ front ++ e ∷ behind → AreTaken (answer_lines t front) from via
    → TakesOrStays (answer_line t e) via to false → IsOtherAnswer t answers from to
other_answer t answers front behind e from via to are taken stays =
    subst (IsOtherAnswer t answers from) (sym (stays.stays refl)) (record {
      front = front;
      next = e;
      behind = behind;
      are = are;
      taken = record { lines_are = taken.lines_are; read = taken.read };
      wanted = refl;
      other = stays.other refl;
    })

pub answers_more : (t : ℕ) (front more : List (ℕ × WorldReply)) (e : ℕ × WorldReply) (from via to : Reading) → more ≡ front ++ e ∷ [] → AreTaken (answer_lines t front) from via
    → TakesOrStays (answer_line t e) via to true → AreTaken (answer_lines t more) from to
answers_more t front more e from via to is taken takes =
    let line = takes.takes refl in
    let all : answer_lines t more ≡ answer_lines t front ++ answer_line t e ∷ [] = ap (answer_lines t) is ∙ push front in
    let many : length (answer_lines t more) ≡ length (answer_lines t front) + 1 = ap (λ (ls : List (List ℕ)). length ls) all ∙ length-append (answer_lines t front) (answer_line t e ∷ []) in
    let first = taken.read in
    let second = line.read in
    record {
      lines_are = taken.lines_are
          ∙ (ap (λ (ls : List (List ℕ)). answer_lines t front ++ ls) line.lines
          ∙ (sym (append_assoc (answer_lines t front) (answer_line t e ∷ []) (lines_of to.rest)) ∙ ap (λ (ls : List (List ℕ)). ls ++ lines_of to.rest) (sym all)));
      read = omega (arith, many, first, second);
    }
  where
    push : (xs : List (ℕ × WorldReply)) → answer_lines t (xs ++ e ∷ []) ≡ answer_lines t xs ++ answer_line t e ∷ []
    push [] = refl
    push (x ∷ xs) = ap (λ (ls : List (List ℕ)). answer_line t x ∷ ls) (push xs)

-- ---- ports

jobs_get : (ports : List LeftState) (at : ℕ) (p : LeftState) → slice_get ports at ≡ Some p → slice_get (jobs_left ports) at ≡ Some p.jobs
jobs_get [] at p get = cc
jobs_get (q ∷ ports) zero p get = let same : q ≡ p = cc in ap (λ (r : LeftState). Some r.jobs) same
jobs_get (q ∷ ports) (suc at) p get = jobs_get ports at p get

jobs_from : (ports : List LeftState) (at : ℕ) (jobs : List PortStep) → slice_get (jobs_left ports) at ≡ Some jobs → (p : LeftState) × (slice_get ports at ≡ Some p) × (p.jobs ≡ jobs)
jobs_from [] at jobs get = cc
jobs_from (q ∷ ports) zero jobs get = let same : q.jobs ≡ jobs = cc in (q, refl, same)
jobs_from (q ∷ ports) (suc at) jobs get = jobs_from ports at jobs get

jobs_set : (ports : List LeftState) (at : ℕ) (q : LeftState) → jobs_left (slice_set ports at q) ≡ slice_set (jobs_left ports) at q.jobs
jobs_set [] at q = refl
jobs_set (p ∷ ports) zero q = refl
jobs_set (p ∷ ports) (suc at) q = ap (λ (js : List (List PortStep)). p.jobs ∷ js) (jobs_set ports at q)

get_set : {X : Type 0} (xs : List X) (i k : ℕ) (y r : X) → slice_get (slice_set xs i y) k ≡ Some r → ((i ≡ k) × (r ≡ y)) ⊎ (slice_get xs k ≡ Some r)
get_set [] i k y r get = inr get
get_set (x ∷ xs) zero zero y r get = let same : r ≡ y = cc in inl (refl, same)
get_set (x ∷ xs) zero (suc k) y r get = inr get
get_set (x ∷ xs) (suc i) zero y r get = inr get
get_set (x ∷ xs) (suc i) (suc k) y r get = by (get_set xs i k y r get)
  where
    by : ((i ≡ k) × (r ≡ y)) ⊎ (slice_get xs k ≡ Some r) → ((suc i ≡ suc k) × (r ≡ y)) ⊎ (slice_get xs k ≡ Some r)
    by (inl (e, f)) = inl (ap suc e, f)
    by (inr here) = inr here

map_length : (ports : List LeftState) → length (jobs_left ports) ≡ length ports
map_length [] = refl
map_length (p ∷ ports) = ap suc (map_length ports)

read_is : (ports : List LeftState) (i : ℕ) (b : LeftState) → i < length ports → b ≡ slice_index_or ports i b → slice_get ports i ≡ Some b
read_is [] i b h e = absurd (omega (arith, h))
read_is (x ∷ ports) zero b h e = ap Some (sym e)
read_is (x ∷ ports) (suc i) b h e = read_is ports i b (omega (arith, h)) e

-- the port that was found
pub found_within : (ports slice : List LeftState) (at : ℕ) (from : Reading) → slice ≡ ports → IsNextPort from slice at → at < length ports
found_within ports slice at from is found = subst (λ (ps : List LeftState). at < length ps) is (slice_get_within slice at found.port found.is)

pub found_port : (ports slice : List LeftState) (at : ℕ) (from : Reading) (e : LeftState) → slice ≡ ports → IsNextPort from slice at
    → e ≡ slice_index_or ports at e → (slice_get ports at ≡ Some e) × (1 ≤ length e.jobs) × (MayBeNext from e ⊎ IsOfNone from ports)
found_port ports slice at from e is found value =
    let next = subst (λ (ps : List LeftState). IsNextPort from ps at) is found in
    let get : slice_get ports at ≡ Some next.port = next.is in
    let here = read_is ports at e (found_within ports slice at from is found) value in
    let same : next.port ≡ e = cc in
    (here, subst (λ (p : LeftState). 1 ≤ length p.jobs) same next.some, subst (λ (p : LeftState). MayBeNext from p ⊎ IsOfNone from ports) same next.named)

-- a port has taken its next job
pub ports_set : (plan : Plan) (t : ℕ) (n : NodeNo) (ports next : List LeftState) (at : ℕ) (p q : LeftState) → slice_get ports at ≡ Some p → next ≡ slice_set ports at q → q.place ≡ p.place
    → ArePortsLeft plan t n ports → ArePortsLeft plan t n next
ports_set plan t n ports next at p q get is place are =
    let few = are.few in
    let long : length next ≡ length ports = ap (λ (ps : List LeftState). length ps) is ∙ length_set ports at q in
    record {
      few = omega (arith, few, long);
      long = map_length next ∙ (long ∙ (sym (map_length ports) ∙ are.long));
      places = λ k r here. by k r (get_set ports at k q r (subst (λ (ps : List LeftState). slice_get ps k ≡ Some r) is here));
    }
  where
    by : (k : ℕ) (r : LeftState) → ((at ≡ k) × (r ≡ q)) ⊎ (slice_get ports k ≡ Some r) → r.place ≡ place_at plan t n k
    by k r (inl (e, f)) = ap (λ (s : LeftState). s.place) f ∙ (place ∙ (are.places at p get ∙ ap (place_at plan t n) e))
    by k r (inr here) = are.places k r here

module _ (plan : Plan) (laws : ReplayLaws plan) (t x : ℕ) (ports : List LeftState) (w : WorldState) (known : HasNode plan.tree x) (are : ArePortsLeft plan t (node x) ports) where
  -- a port makes its next job
  pub next_job : (at : ℕ) (p q : LeftState) (step : PortStep) (st : NodeStep) (w2 : WorldState) → slice_get ports at ≡ Some p → p.jobs ≡ step ∷ q.jobs → st.port ≡ record { 0 = at + 1 }
      → st.step ≡ step
      → world_step (Port (node x) st.port st.step) w ≡ (w2, Step st.reply) → IsNextJob (node x) (jobs_left ports) w st q.jobs
  next_job at p q step st w2 get jobs port is made =
      let number : place_of st.port ≡ at = ap (λ (k : PortNo). place_of k) port ∙ omega arith in
      let some : st.port.0 ≡ at + 1 = ap (λ (k : PortNo). k.0) port in
      record {
        port = omega (arith, some);
        job = ap (λ (k : ℕ). slice_get (jobs_left ports) k) number ∙ (jobs_get ports at p get ∙ ap Some (jobs ∙ ap (λ (s : PortStep). s ∷ q.jobs) (sym is)));
        reply = ap (λ (h : Happened). h.1) made;
      }

  pub job_port : (at : ℕ) (p : LeftState) → slice_get ports at ≡ Some p → HasPort plan.tree (record { node = node x; port = record { 0 = at + 1 } })
  job_port at p get =
      let inside = slice_get_within ports at p get in
      let many = map_length ports in
      let long = are.long in
      (known, omega arith, omega (arith, inside, many, long))

  pub step_is : (at : ℕ) (p q : LeftState) (next : List LeftState) (step : PortStep) (st : NodeStep) (w2 : WorldState) (from to : Reading) → slice_get ports at ≡ Some p → p.jobs ≡ step ∷ q.jobs
      → st.port ≡ record { 0 = at + 1 } → st.step ≡ step → world_step (Port (node x) st.port st.step) w ≡ (w2, Step st.reply) → next ≡ slice_set ports at q
      → IsTaken (line_at plan t (node x) st) from to → IsStepRead plan t x (jobs_left ports) (jobs_left next) w w2 st from to
  step_is at p q next step st w2 from to get jobs port is made set taken =
      let number : place_of st.port ≡ at = ap (λ (k : PortNo). place_of k) port ∙ omega arith in
      record {
        rest = q.jobs;
        next = next_job at p q step st w2 get jobs port is made;
        left_is = ap jobs_left set ∙ (jobs_set ports at q ∙ ap (λ (k : ℕ). slice_set (jobs_left ports) k q.jobs) (sym number));
        reached = ap (λ (h : Happened). h.0) (sym made);
        taken = taken;
      }

  -- how the line of a next job begins
  line_begins : (st : NodeStep) (rest : List PortStep) (from : Reading) (lines : List (List ℕ)) → lines_of from.rest ≡ line_at plan t (node x) st ∷ lines
      → from.rest ≡ place_text t (port_name plan.nodes plan.tree.links (record { node = node x; port = st.port })) ++ (made_text st ++ whole_of lines)
  line_begins st rest from lines e =
      first_begins from.rest (line_at plan t (node x) st) lines e
      ∙ append_assoc (place_text t (port_name plan.nodes plan.tree.links (record { node = node x; port = st.port }))) (made_text st) (whole_of lines)

  -- the next line is of a step of no port
  none_stuck : (from : Reading) (made : NodeStep) (behind : List PortStep) → t < plan.ticks → IsDuring plan.tree t w → IsNextJob (node x) (jobs_left ports) w made behind → IsOfNone from ports
      → IsStuck (FollowJobs plan t x (jobs_left ports) w) from (asking_for (Some (line_at plan t (node x) made)) from)
  none_stuck from made behind within run job none =
      jobs_stuck plan laws t x (jobs_left ports) w from within run known are.long made behind job
      (λ st rest lines next e. by st rest lines next e (jobs_from ports (place_of st.port) (st.step ∷ rest) next.job))
    where
      by : (st : NodeStep) (rest : List PortStep) (lines : List (List ℕ)) → IsNextJob (node x) (jobs_left ports) w st rest → lines_of from.rest ≡ line_at plan t (node x) st ∷ lines
          → ((p : LeftState) × (slice_get ports (place_of st.port) ≡ Some p) × (p.jobs ≡ st.step ∷ rest)) → ⊥
      by st rest lines next e (p, get, jobs) =
          let first = next.port in
          let number : place_of st.port + 1 ≡ st.port.0 = omega (arith, first) in
          let same : p.place ≡ place_text t (port_name plan.nodes plan.tree.links (record { node = node x; port = st.port })) =
          are.places (place_of st.port) p get ∙ ap (λ (k : ℕ). place_text t (port_name plan.nodes plan.tree.links (record { node = node x; port = record { 0 = k } }))) number
          in
          let many : length p.jobs ≡ suc (length rest) = ap (λ (js : List PortStep). length js) jobs in
          none (place_of st.port) p get (record {
            some = omega (arith, many);
            rest = made_text st ++ whole_of lines;
            begins = line_begins st rest from lines e ∙ ap (λ (front : List ℕ). front ++ (made_text st ++ whole_of lines)) (sym same);
          })

  -- the next line begins like one of this port's, but is another
  other_stuck : (at : ℕ) (p q : LeftState) (st : NodeStep) (from : Reading) → t < plan.ticks → IsDuring plan.tree t w
      → slice_get ports at ≡ Some p → MayBeNext from p → st.port ≡ record { 0 = at + 1 } → IsNextJob (node x) (jobs_left ports) w st q.jobs
      → ((lines : List (List ℕ)) → lines_of from.rest ≢ line_at plan t (node x) st ∷ lines)
      → IsStuck (FollowJobs plan t x (jobs_left ports) w) from (asking_for (Some (line_at plan t (node x) st)) from)
  other_stuck at p q st from within run get may port one none =
      jobs_stuck plan laws t x (jobs_left ports) w from within run known are.long st q.jobs one by
    where
      by : (other : NodeStep) (rest : List PortStep) (lines : List (List ℕ)) → IsNextJob (node x) (jobs_left ports) w other rest → lines_of from.rest ≢ line_at plan t (node x) other ∷ lines
      by other rest lines next e =
          let own : p.place ≡ place_text t (port_name plan.nodes plan.tree.links (record { node = node x; port = st.port })) =
          are.places at p get ∙ ap (λ (k : PortNo). place_text t (port_name plan.nodes plan.tree.links (record { node = node x; port = k }))) (sym port)
          in
          let begins : place_text t (port_name plan.nodes plan.tree.links (record { node = node x; port = st.port })) ++ may.rest
          ≡ place_text t (port_name plan.nodes plan.tree.links (record { node = node x; port = other.port })) ++ (made_text other ++ whole_of lines) =
          ap (λ (front : List ℕ). front ++ may.rest) (sym own) ∙ (sym may.begins ∙ line_begins other rest from lines e)
          in
          let same_port = ports_same plan laws t x (jobs_left ports) w known are.long st other q.jobs rest may.rest (made_text other ++ whole_of lines) one next begins in
          let same = next_same plan laws t x (jobs_left ports) w known are.long st other q.jobs rest one next same_port in
          none lines (e ∙ ap (λ (s : NodeStep). line_at plan t (node x) s ∷ lines) (sym same.0))

  -- the port that was found has made its next job, whose line isn't the next
  pub made_stuck : (at : ℕ) (p q : LeftState) (step : PortStep) (st : NodeStep) (w2 : WorldState) (from to : Reading) → t < plan.ticks → IsDuring plan.tree t w
      → slice_get ports at ≡ Some p → MayBeNext from p ⊎ IsOfNone from ports → p.jobs ≡ step ∷ q.jobs → st.port ≡ record { 0 = at + 1 } → st.step ≡ step
      → world_step (Port (node x) st.port st.step) w ≡ (w2, Step st.reply) → TakesOrStays (line_at plan t (node x) st) from to false → IsStuck (FollowJobs plan t x (jobs_left ports) w) from to
  made_stuck at p q step st w2 from to within run get named jobs port is made stays =
      let one = next_job at p q step st w2 get jobs port is made in
      subst (IsStuck (FollowJobs plan t x (jobs_left ports) w) from) (sym (stays.stays refl)) (elim named [
        | inl may ↦ other_stuck at p q st from within run get may port one (stays.other refl)
        | inr none ↦ none_stuck from st q.jobs within run one none
      ])
