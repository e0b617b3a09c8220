-- What a closed hub says of its node: the ports have made their jobs, each its own in order, with the node's own answers.
use Rattle.std.proofs.Common.{◌≡◌, ◌⊎◌, inl, inr, ℕ, zero, suc, ◌+◌, ◌-◌, ◌<◌, ◌≤◌, Bool, true, false, cond, ◌||◌, ◌&&◌, List, [], ◌∷◌, length, map, refl, sym, ap, subst, ◌∙◌, arith}
use Rattle.std.specs.Prelude.{slice_get, slice_index_or, Option, Some, ◌==◌, if◌then◌else◌, filter, nat_lt, nat_le}
use Rattle.std.specs.{Option.option_map_or, List.AllByRecursion, List.range_with_len, List.list_any}
use Rattle.std.proofs.lemmas.{Bool.Decides.nat_tests, Option.slice_get-get_or}
use Rattle.srp_base.proofs.{Arithmetic.is_same, Arithmetic.same_where_equal as same_number, Options.one_some, Lists.within as get_within, Lists.each_more, Lists.each_of_map as each_map}
use Rattle.srp_base.specs.declared.numbers.PortNo.{PortNo}
use Rattle.attribute_propagation.specs.Ports.{IsLinkPort, place_of}
use Rattle.node_core.specs.declared.{types.NodeEvent.NodeEvent, types.NodeEvent.TheVariants.Port, types.NodeStep.NodeStep, types.PortStep.PortStep, types.StepReply.StepReply}
use Rattle.node_core.specs.{State.NodeState, State.ports_of, State.job_list, State.is_busy_node, State.is_sending_time, Step.node_step}
use Rattle.turn_lock.specs.{History.Entry, History.number_of, History.ask_of, History.answer_of, History.calls_of, History.last_state, History.IsHistory, Closing.HasCallsOf, Passes.is_given}
use Rattle.bridge_book.specs.declared.{notice.Notice.Notice, notice.Told.Told, shared.PortAsk.PortAsk}
use Rattle.bridge_book.specs.{Steps.is_port, Steps.notice_of, Steps.told_nothing, Steps.port_does, Steps.node_does, Hub.Hub, Hub.Steps, Hub.PortPass, Hub.first_node, Hub.step_of, Hub.notice_in, Hub.HasClosedHub}
use Rattle.world_core.specs.{Apart.stepped_node, Apart.node_after, Apart.HaveOwnReplies, Ticks.steps_at_port}
use Rattle.port_worker.specs.{asks_of, own_jobs, AreDone, has_jobs, notices_of, IsNodeWorked}
use Rattle.port_worker.proofs.Lists.{get_range}

-- an entry of a history
abbrev One : Type 0
One = Entry PortAsk Told

-- ---- each entry is of the port whose number it has

-- what holds of the calls of each number holds of all
each_by_calls : (P : One → Type 0) (h : Steps) → ((n : ℕ) → AllByRecursion P (calls_of n h)) → AllByRecursion P h
each_by_calls P [] all = tt
each_by_calls P (e ∷ h) all =
    let first = subst (λ (b : Bool). AllByRecursion P (if b then e ∷ calls_of (number_of e) h else calls_of (number_of e) h)) (is_same (number_of e) (number_of e) refl) (all (number_of e)) in
    (first.0, each_by_calls P h (λ n. by n (number_of e == n) (all n)))
  where
    by : (n : ℕ) (b : Bool) → AllByRecursion P (if b then e ∷ calls_of n h else calls_of n h) → AllByRecursion P (calls_of n h)
    by n true k = k.1
    by n false k = k

-- the calls of a number have it
calls_number : (n : ℕ) (h : Steps) → AllByRecursion (λ (e : One). number_of e ≡ n) (calls_of n h)
calls_number n [] = tt
calls_number n (e ∷ h) = by (number_of e == n) refl (calls_number n h)
  where
    by : (b : Bool) → (number_of e == n) ≡ b → AllByRecursion (λ (x : One). number_of x ≡ n) (calls_of n h)
        → AllByRecursion (λ (x : One). number_of x ≡ n) (if b then e ∷ calls_of n h else calls_of n h)
    by true is later = (same_number (number_of e) n is, later)
    by false is later = later

-- what is asked for a port's steps is of the port
asks_port : (n : ℕ) (es : Steps) (steps : List PortStep) → map ask_of es ≡ asks_of n steps → AllByRecursion (λ (e : One). (ask_of e).port.0 ≡ n) es
asks_port n [] steps is = tt
asks_port n (e ∷ es) [] is = cc
asks_port n (e ∷ es) (step ∷ steps) is =
    let first : ask_of e ≡ record { port = record { 0 = n }; step = step } = cc in
    let rest : map ask_of es ≡ asks_of n steps = cc in
    (ap (λ (a : PortAsk). a.port.0) first, asks_port n es steps rest)

-- an entry is of a link port of a node with so many, the one whose number it has
abbrev IsOfPort : ℕ → One → Type 0
IsOfPort count e = IsLinkPort (ask_of e).port count × ((ask_of e).port.0 ≡ number_of e)

both : (P Q : One → Type 0) (es : Steps) → AllByRecursion P es → AllByRecursion Q es → AllByRecursion (λ e. P e × Q e) es
both P Q [] h k = tt
both P Q (e ∷ es) h k = ((h.0, k.0), both P Q es h.1 k.1)

decide : (n count : ℕ) → ((1 ≤ n) × (n ≤ count)) ⊎ (1 ≤ n → count < n)
decide zero count = inr (λ some. absurd (omega (arith, some)))
decide (suc n) count = by (nat_le (suc n) count) refl
  where
    by : (b : Bool) → nat_le (suc n) count ≡ b → ((1 ≤ suc n) × (suc n ≤ count)) ⊎ (1 ≤ suc n → count < suc n)
    by true is = inl (omega arith, grind (arith, nat_tests, is))
    by false is = inr (λ some. grind (arith, nat_tests, is))

module _ (hub : Hub) (jobs : List (List PortStep)) (passes : List PortPass) (v : NodeState) (steps : List NodeStep) (notices : List Notice) (done : AreDone hub jobs passes)
    (count : length passes ≡ hub.lock.passes) (closed : HasClosedHub hub passes v steps notices) where
  abbrev h : Steps
  h = closed.history

  -- the pass of a number, which has asked for its port's jobs
  pub record HasPass (n : ℕ) : Type 0 where
    pub pass : PortPass
    pub number : pass.number ≡ n
    pub asks : map ask_of (calls_of n h) ≡ asks_of n (own_jobs jobs pass)

  pub pass_of : (n : ℕ) → 1 ≤ n → n ≤ hub.lock.passes → HasPass n
  pass_of n some few =
      let there = get_within passes (n - 1) (omega (arith, some, few, count)) in
      let p : PortPass = there.0 in
      let lt : n - 1 < length passes = omega (arith, some, few, count) in
      let is = done (n - 1) p there.1 in
      let at = is.0 in
      let number : p.number ≡ n = omega (arith, at, some) in
      let here : slice_index_or passes (n - 1) p ≡ p = one_some (slice_get passes (n - 1)) (slice_index_or passes (n - 1) p) p (slice_get-get_or passes (n - 1) p lt) there.1 in
      let calls = subst (λ (q : PortPass). HasCallsOf h q.number q.seen) here (closed.calls (n - 1) p lt) in
      let own : map ask_of (calls_of p.number h) ≡ asks_of p.number (own_jobs jobs p) = ap (λ (es : Steps). map ask_of es) calls.1 ∙ is.1.made in
      record {
        pass = p;
        number = number;
        asks = subst (λ (k : ℕ). map ask_of (calls_of k h) ≡ asks_of k (own_jobs jobs p)) number own;
      }

  of_number : (n : ℕ) → AllByRecursion (IsOfPort hub.lock.passes) (calls_of n h)
  of_number n = by (decide n hub.lock.passes)
    where
      by : ((1 ≤ n) × (n ≤ hub.lock.passes)) ⊎ (1 ≤ n → hub.lock.passes < n) → AllByRecursion (IsOfPort hub.lock.passes) (calls_of n h)
      by (inl is) =
          let p = pass_of n is.0 is.1 in
          each_more (λ (e : One). ((ask_of e).port.0 ≡ n) × (number_of e ≡ n)) (IsOfPort hub.lock.passes) (calls_of n h)
          (λ e k. let port = k.0 in let some = is.0 in let few = is.1 in
          (record { some = omega (arith, port, some); within = omega (arith, port, few) }, k.0 ∙ sym k.1))
          (both (λ (e : One). (ask_of e).port.0 ≡ n) (λ (e : One). number_of e ≡ n) (calls_of n h) (asks_port n (calls_of n h) (own_jobs jobs p.pass) p.asks) (calls_number n h))
      by (inr none) = subst (AllByRecursion (IsOfPort hub.lock.passes)) (sym (closed.no_others n none)) tt

  pub of_ports : AllByRecursion (IsOfPort hub.lock.passes) h
  of_ports = each_by_calls (IsOfPort hub.lock.passes) h of_number

-- ---- the steps at each port

steps_of_calls : (port : PortNo) (count : ℕ) (es : Steps) → AllByRecursion (IsOfPort count) es
    → steps_at_port port (map step_of es) ≡ map (λ (a : PortAsk). a.step) (map ask_of (calls_of port.0 es))
steps_of_calls port count [] all = refl
steps_of_calls port count (e ∷ es) all =
    let rest = steps_of_calls port count es all.1 in
    ap (λ (n : ℕ). map (λ (s : NodeStep). s.step) (if n == port.0 then step_of e ∷ filter (λ s. s.port.0 == port.0) (map step_of es) else filter (λ s. s.port.0 == port.0) (map step_of es))) all.0.1
    ∙ by (number_of e == port.0) rest
  where
    by : (b : Bool) → steps_at_port port (map step_of es) ≡ map (λ (a : PortAsk). a.step) (map ask_of (calls_of port.0 es))
        → map (λ (s : NodeStep). s.step) (if b then step_of e ∷ filter (λ s. s.port.0 == port.0) (map step_of es) else filter (λ s. s.port.0 == port.0) (map step_of es))
        ≡ map (λ (a : PortAsk). a.step) (map ask_of (if b then e ∷ calls_of port.0 es else calls_of port.0 es))
    by true k = ap (λ (xs : List PortStep). (ask_of e).step ∷ xs) k
    by false k = k

asked_steps : (n : ℕ) (steps : List PortStep) → map (λ (a : PortAsk). a.step) (asks_of n steps) ≡ steps
asked_steps n [] = refl
asked_steps n (step ∷ steps) = ap (λ (xs : List PortStep). step ∷ xs) (asked_steps n steps)

-- ---- the node's own answers

is_link : (port : PortNo) (count : ℕ) → IsLinkPort port count → is_port port count ≡ true
is_link port count link =
    let some = link.some in
    let few = link.within in
    let first : nat_lt 0 port.0 ≡ true = grind (arith, nat_tests, some) in
    let last : nat_le port.0 count ≡ true = grind (arith, nat_tests, few) in
    ap (λ (b : Bool). b && nat_le port.0 count) first ∙ last

-- what a history of a node's link ports is, as steps of the node
record IsOfNode (s : NodeState) (es : Steps) : Type 0 where
  own : HaveOwnReplies (map step_of es) s
  last : last_state node_does s es ≡ node_after (map step_of es) s
  noticed : map notice_in es ≡ notices_of (map step_of es) s

of_node : ((event : NodeEvent) (s : NodeState) → ports_of (node_step event s).0 ≡ ports_of s) → (count : ℕ) (s : NodeState) (es : Steps) → ports_of s ≡ count
    → AllByRecursion (IsOfPort count) es → IsHistory node_does s es → IsOfNode s es
of_node keeps count s [] ports all legal = record { own = tt; last = refl; noticed = refl }
of_node keeps count s (e ∷ es) ports all legal =
    let ask : PortAsk = ask_of e in
    let does : node_does s ask ≡ port_does s ask =
    ap (λ (b : Bool). cond b (port_does s ask) (told_nothing, s)) (ap (is_port ask.port) ports ∙ is_link ask.port count all.0.0)
    in
    let told : answer_of e ≡ (port_does s ask).0 = legal [] es e refl ∙ ap (λ (d : Told × NodeState). d.0) does in
    let next : NodeState = stepped_node (step_of e) s in
    let same : (node_does s ask).1 ≡ next = ap (λ (d : Told × NodeState). d.1) does in
    let later = subst (λ (x : NodeState). IsHistory node_does x es) same (λ earlier rest n is. legal (e ∷ earlier) rest n (ap (λ (l : Steps). e ∷ l) is)) in
    let rest = of_node keeps count next es (keeps (Port ask.port ask.step) s ∙ ports) all.1 later in
    let reply : (answer_of e).reply ≡ (node_step (Port ask.port ask.step) s).1 = ap (λ (t : Told). t.reply) told in
    let notice : notice_in e ≡ notice_of ask.step (place_of ask.port) (answer_of e).reply s =
    ap (λ (t : Told). t.notice) told ∙ ap (λ (r : StepReply). notice_of ask.step (place_of ask.port) r s) (sym reply)
    in
    record {
      own = (reply, rest.own);
      last = ap (λ (x : NodeState). last_state node_does x es) same ∙ rest.last;
      noticed = ap (λ (x : Notice). x ∷ map notice_in es) notice ∙ ap (λ (xs : List Notice). notice_of ask.step (place_of ask.port) (answer_of e).reply s ∷ xs) rest.noticed;
    }

-- ---- a closed hub

pub closed_worked : ((event : NodeEvent) (s : NodeState) → ports_of (node_step event s).0 ≡ ports_of s)
    → (hub : Hub) (jobs : List (List PortStep)) (passes : List PortPass) (v : NodeState) (steps : List NodeStep) (notices : List Notice)
    → jobs ≡ map (λ at. job_list at (first_node hub)) (range_with_len 0 (ports_of (first_node hub))) → hub.lock.passes ≡ ports_of (first_node hub)
    → AreDone hub jobs passes → length passes ≡ hub.lock.passes → HasClosedHub hub passes v steps notices → IsNodeWorked (first_node hub) v steps notices
closed_worked keeps hub jobs passes v steps notices are ports done count closed =
    let s : NodeState = first_node hub in
    let es : Steps = closed.history in
    let all = of_ports hub jobs passes v steps notices done count closed in
    let own = of_node keeps hub.lock.passes s es (sym ports) all closed.legal in
    let at_port : (port : PortNo) → IsLinkPort port (ports_of s) → steps_at_port port (map step_of es) ≡ job_list (place_of port) s =
    λ port link.
    let some = link.some in
    let few = link.within in
    let p = pass_of hub jobs passes v steps notices done count closed port.0 some (omega (arith, few, ports)) in
    let number = p.number in
    let first : 0 + (port.0 - 1) ≡ port.0 - 1 = omega arith in
    let place : slice_get jobs (p.pass.number - 1) ≡ Some (job_list (port.0 - 1) s) =
    ap (λ (js : List (List PortStep)). slice_get js (p.pass.number - 1)) are
    ∙ (ap (λ (k : ℕ). slice_get (map (λ at. job_list at s) (range_with_len 0 (ports_of s))) (k - 1)) number
    ∙ (get_range (λ at. job_list at s) 0 (ports_of s) (port.0 - 1) (omega (arith, some, few)) ∙ ap (λ (k : ℕ). Some (job_list k s)) first))
    in
    steps_of_calls port hub.lock.passes es all
    ∙ (ap (λ (asks : List PortAsk). map (λ a. a.step) asks) p.asks
    ∙ (asked_steps port.0 (own_jobs jobs p.pass) ∙ ap (λ (o : Option (List PortStep)). option_map_or (λ x. x) o []) place))
    in
    let linked = subst (λ (made : List NodeStep). AllByRecursion (λ st. IsLinkPort st.port (ports_of s)) made) (sym closed.steps_are)
    (each_map (λ (st : NodeStep). IsLinkPort st.port (ports_of s)) step_of es
    (each_more (IsOfPort hub.lock.passes) (λ (e : One). IsLinkPort (ask_of e).port (ports_of s)) es (λ e k. subst (IsLinkPort (ask_of e).port) ports k.0) all))
    in
    record {
      ports = linked;
      jobs = λ port link. ap (steps_at_port port) closed.steps_are ∙ at_port port link;
      own = subst (λ (made : List NodeStep). HaveOwnReplies made s) (sym closed.steps_are) own.own;
      after = closed.last ∙ (own.last ∙ ap (λ (made : List NodeStep). node_after made s) (sym closed.steps_are));
      notices_are = closed.notices_are ∙ (own.noticed ∙ ap (λ (made : List NodeStep). notices_of made s) (sym closed.steps_are));
    }

-- each pass is given where they are as many as the ports
pub none_missing : (hub : Hub) (jobs : List (List PortStep)) (passes : List PortPass) → AreDone hub jobs passes → length passes ≡ hub.lock.passes
    → (n : ℕ) → 1 ≤ n → n ≤ hub.lock.passes → is_given passes n ≡ true
none_missing hub jobs passes done count n some few =
    let there = get_within passes (n - 1) (omega (arith, some, few, count)) in
    let at = (done (n - 1) there.0 there.1).0 in
    given passes (n - 1) there.0 there.1 (omega (arith, at, some))
  where
    true_or : (a b : Bool) → b ≡ true → (a || b) ≡ true
    true_or true b is = refl
    true_or false b is = is

    given : (ps : List PortPass) (k : ℕ) (p : PortPass) → slice_get ps k ≡ Some p → p.number ≡ n → is_given ps n ≡ true
    given [] k p get is = cc
    given (q ∷ ps) zero p get is =
        let own : q ≡ p = cc in
        ap (λ (b : Bool). b || list_any (λ (x : PortPass). x.number == n) ps) (is_same q.number n (ap (λ (x : PortPass). x.number) own ∙ is))
    given (q ∷ ps) (suc k) p get is = true_or (q.number == n) (list_any (λ (x : PortPass). x.number == n) ps) (given ps k p get is)

-- ---- a node that has nothing to do

no_jobs : (s : NodeState) (at : ℕ) → (is_busy_node s || is_sending_time s.clock) ≡ false → job_list at s ≡ []
no_jobs s at rests = by (is_busy_node s) (is_sending_time s.clock) refl refl rests
  where
    by : (a b : Bool) → is_busy_node s ≡ a → is_sending_time s.clock ≡ b → (a || b) ≡ false → job_list at s ≡ []
    by true b busy time none = cc
    by false true busy time none = cc
    by false false busy time none = cc

pub idle_worked : (s : NodeState) → has_jobs s ≡ false → IsNodeWorked s s [] []
idle_worked s none =
    record {
      ports = tt;
      jobs = λ port link. by port link (nat_lt 0 (ports_of s)) refl none;
      own = tt;
      after = refl;
      notices_are = refl;
    }
  where
    by : (port : PortNo) → IsLinkPort port (ports_of s) → (b : Bool) → nat_lt 0 (ports_of s) ≡ b → (b && (is_busy_node s || is_sending_time s.clock)) ≡ false → [] ≡ job_list (place_of port) s
    by port link true is rests = sym (no_jobs s (place_of port) rests)
    by port link false is rests =
        let some = link.some in
        let few = link.within in
        let zero_ports : ports_of s ≤ 0 = grind (arith, nat_tests, is) in
        absurd (omega (arith, some, few, zero_ports))
