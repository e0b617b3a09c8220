-- What goes on in one bit time.
use Rattle.std.proofs.Common.{◌≡◌, ℕ, zero, suc, ◌+◌, ◌-◌, ◌<◌, ◌≤◌, ◌⊎◌, Bool, true, false, cond, List, [], ◌∷◌, ◌++◌, Option, Some, None, refl, sym, ◌∙◌, ap, subst, arith, inl, inr}
use Rattle.std.specs.Prelude.{All, nat_le, is_some, ◌&&◌, ℤ, pos, ◌≤ℤ◌, ◌<ℤ◌, int_le}
use Rattle.std.proofs.lemmas.{Bool.cases_Bool, Bool.cases_lt, Bool.cases_eq, Bool.and_parts, Bool.cond-true, Bool.cond-false, Bool.le-leb, Bool.lt-leb, Bool.true≢false, Bool.false≢true, Int.ints, List.Elements.Contains-append_left, List.Elements.Contains-push}
use Rattle.std.specs.List.{Contains}
use Rattle.srp_base.proofs.Arithmetic.{at_least_zero}
use Rattle.srp_base.specs.declared.bandwidth.Rate.{Rate}
use Rattle.srp_base.specs.Bandwidth.{bits_of}
use Rattle.credit_shaper.specs.{Traffic, A, B, Other, Sends, Shaper, Arrival, PortInput, Departure, credit_after, does_send, traffic_number, IsPortInput, IsFrameSize, is_of, arrivals_at, no_slopes, head_of, turn_of, does_wait, departure_at, starts, with_arrivals, port_at, port_in, credit_a_at, credit_b_at, slope_a_at, slope_b_at, is_on_line, KeepCaps, AreSlopesWithin, head_at, is_waiting, was_on_line, bits_left, bits_ahead, GoesOn, Starts, Rests, IsOneOfThree, WaitsWithCreditA, sent_of, DepartsAt}
use Rattle.credit_shaper.specs.Trace.{Port}
use Rattle.credit_shaper.proofs.{BoundLemmas.HasSizes, BoundLemmas.head_traffic, BoundLemmas.head_of-other, BoundLemmas.head_within, BoundLemmas.sizes_at, BoundLemmas.with_arrivals_sizes, PortLemmas.shaper-port_in, PortLemmas.rate_is, PortLemmas.last_change_all, QueueLemmas.same_traffic, DepartureLemmas.Goes, DepartureLemmas.goes_by, CreditLemmas.short_if}

-- ---- the credits

pub credit_a-step : (input : PortInput) (t : ℕ)
    → credit_a_at input (suc t) ≡ credit_after (bits_of input.rate) (slope_a_at input t) (is_on_line input A t) (is_waiting input A t) (credit_a_at input t)
unfolding port_at
credit_a-step input t =
    let q : Port = port_in input t in
    let is = shaper-port_in input t in
    ap (λ (s : Shaper). credit_after (bits_of s.rate) s.slope_a (does_send A q.line) (does_wait A q.waiting) s.credit_a) is
    ∙ ap (λ (r : Rate). credit_after (bits_of r) (slope_a_at input t) (does_send A q.line) (does_wait A q.waiting) (credit_a_at input t)) (rate_is input t)

pub credit_b-step : (input : PortInput) (t : ℕ)
    → credit_b_at input (suc t) ≡ credit_after (bits_of input.rate) (slope_b_at input t) (is_on_line input B t) (is_waiting input B t) (credit_b_at input t)
unfolding port_at
credit_b-step input t =
    let q : Port = port_in input t in
    let is = shaper-port_in input t in
    ap (λ (s : Shaper). credit_after (bits_of s.rate) s.slope_b (does_send B q.line) (does_wait B q.waiting) s.credit_b) is
    ∙ ap (λ (r : Rate). credit_after (bits_of r) (slope_b_at input t) (does_send B q.line) (does_wait B q.waiting) (credit_b_at input t)) (rate_is input t)

pub credit_a-first : (input : PortInput) → credit_a_at input 0 ≡ pos 0
unfolding port_at
credit_a-first input = refl

pub credit_b-first : (input : PortInput) → credit_b_at input 0 ≡ pos 0
unfolding port_at
credit_b-first input = refl

-- ---- the line from one bit time to the next

pub line-first : (input : PortInput) → bits_left input 0 ≡ 0
unfolding port_at
line-first input = refl

pub line-next : (input : PortInput) (traffic : Traffic) (t : ℕ) → was_on_line input traffic (suc t) ≡ is_on_line input traffic t
unfolding port_at
line-next input traffic t = refl

pub left-next : (input : PortInput) (t : ℕ) → bits_left input (suc t) ≡ bits_ahead input t - 1
unfolding port_at
left-next input t = omega arith

-- ---- whose turn it is, with what waits

-- the class waits and has credit, or it is short if it waits
record IsTurnOf (s : Shaper) (w : List Arrival) : Type 0 where
  of_a : turn_of s w ≡ A → (does_wait A w ≡ true) × (pos 0 ≤ℤ s.credit_a)
  of_b : turn_of s w ≡ B → (does_wait B w ≡ true) × (pos 0 ≤ℤ s.credit_b) × (does_wait A w ≡ true → s.credit_a <ℤ pos 0)
  of_other : turn_of s w ≡ Other → (does_wait A w ≡ true → s.credit_a <ℤ pos 0) × (does_wait B w ≡ true → s.credit_b <ℤ pos 0)

turn_is_of : (s : Shaper) (w : List Arrival) → IsTurnOf s w
turn_is_of s w = grind (arith, cases_Bool, cond-true, and_parts, at_least_zero, cond-false)

-- what a port is once its line was free, in the words of a bit time
record HasStarted (t : ℕ) (p q : Port) (traffic : Traffic) : Type 0 where
  size : IsFrameSize (q.free_from - t)
  line : q.line ≡ Sends traffic
  other : (kind : Traffic) → (traffic_number traffic ≡ traffic_number kind → ⊥) → head_of kind q.waiting ≡ head_of kind p.waiting

has_started : (t : ℕ) (p : Port) (x : Arrival) → head_of (turn_of p.shaper p.waiting) p.waiting ≡ Some x
    → All (λ y. IsFrameSize y.bits) p.waiting → HasStarted t p (starts t p (Some x)) (turn_of p.shaper p.waiting)
has_started t p x e sizes =
    let turn : Traffic = turn_of p.shaper p.waiting in
    let own : x.traffic ≡ turn = head_traffic turn p.waiting x e in
    let size : IsFrameSize x.bits = head_within (λ y. IsFrameSize y.bits) turn p.waiting x sizes e in
    let bits : x.bits ≡ t + x.bits - t = omega arith in
    record {
      size = subst IsFrameSize bits size;
      line = ap Sends own;
      other = λ kind ne. head_of-other kind x.traffic p.waiting (λ f. ne (ap traffic_number (sym own) ∙ f));
    }

-- a start of this traffic, from the port before it
starts_of : (input : PortInput) (t : ℕ) (q : Port) (traffic : Traffic) → q ≡ with_arrivals input t (port_at input t)
    → bits_left input t ≡ 0 → turn_of q.shaper q.waiting ≡ traffic → HasStarted t q (port_in input t) traffic → Starts input traffic t
starts_of input t q A is free turn has =
    let facts = turn_is_of q.shaper q.waiting in
    record {
      free = free;
      size = has.size;
      line = has.line;
      turn = subst (λ (p : Port). pos 0 ≤ℤ p.shaper.credit_a) is (facts.of_a turn).1;
    }
starts_of input t q B is free turn has =
    let facts = (turn_is_of q.shaper q.waiting).of_b turn in
    let waits : is_waiting input A t ≡ does_wait A q.waiting = ap is_some (has.other A (λ f. absurd (omega (arith, f)))) in
    record {
      free = free;
      size = has.size;
      line = has.line;
      turn = (
        subst (λ (p : Port). pos 0 ≤ℤ p.shaper.credit_b) is facts.1,
        λ w. subst (λ (p : Port). p.shaper.credit_a <ℤ pos 0) is (facts.2 (sym waits ∙ w)),
      );
    }
starts_of input t q Other is free turn has =
    let facts = (turn_is_of q.shaper q.waiting).of_other turn in
    let a : is_waiting input A t ≡ does_wait A q.waiting = ap is_some (has.other A (λ f. absurd (omega (arith, f)))) in
    let b : is_waiting input B t ≡ does_wait B q.waiting = ap is_some (has.other B (λ f. absurd (omega (arith, f)))) in
    record {
      free = free;
      size = has.size;
      line = has.line;
      turn = (
        λ w. subst (λ (p : Port). p.shaper.credit_a <ℤ pos 0) is (facts.0 (sym a ∙ w)),
        λ w. subst (λ (p : Port). p.shaper.credit_b <ℤ pos 0) is (facts.1 (sym b ∙ w)),
      );
    }

-- nothing to start leaves the classes short and the rest without a frame
no_start : (s : Shaper) (w : List Arrival) (traffic : Traffic) → turn_of s w ≡ traffic → head_of traffic w ≡ None → traffic ≡ Other
no_start s w traffic h1 h2 = grind (arith, true≢false, turn_is_of)

free_cases : (input : PortInput) (t : ℕ) (q : Port) (o : Option Arrival) → q ≡ with_arrivals input t (port_at input t)
    → HasSizes t q → q.free_from ≤ t → port_in input t ≡ starts t q o → head_of (turn_of q.shaper q.waiting) q.waiting ≡ o
    → ((traffic : Traffic) × Starts input traffic t) ⊎ Rests input t
free_cases input t q None is sizes free now e =
    let other : turn_of q.shaper q.waiting ≡ Other = no_start q.shaper q.waiting (turn_of q.shaper q.waiting) refl e in
    let facts = (turn_is_of q.shaper q.waiting).of_other other in
    let none : head_of Other q.waiting ≡ None = ap (λ x. head_of x q.waiting) (sym other) ∙ e in
    let left : (port_at input t).free_from ≤ t = subst (λ (p : Port). p.free_from ≤ t) is free in
    inr (record {
      free = omega (arith, left);
      none = subst (λ (p : Port). p.free_from - t ≡ 0) (sym now) (omega (arith, free));
      line = ap (λ p. p.line) now;
      turn = (
        λ w. subst (λ (p : Port). p.shaper.credit_a <ℤ pos 0) is (facts.0 (sym (ap (λ p. does_wait A p.waiting) now) ∙ w)),
        λ w. subst (λ (p : Port). p.shaper.credit_b <ℤ pos 0) is (facts.1 (sym (ap (λ p. does_wait B p.waiting) now) ∙ w)),
      );
      other = ap (λ p. does_wait Other p.waiting) now ∙ ap is_some none;
    })
free_cases input t q (Some x) is sizes free now e =
    let left : (port_at input t).free_from ≤ t = subst (λ (p : Port). p.free_from ≤ t) is free in
    let traffic : Traffic = turn_of q.shaper q.waiting in
    inl (
      traffic,
      starts_of input t q traffic is (omega (arith, left)) refl
          (subst (λ (p : Port). HasStarted t q p traffic) (sym now) (has_started t q x e sizes.waiting)),
    )

pub one_of_three : (input : PortInput) (t : ℕ) → IsPortInput input → IsOneOfThree input t
one_of_three input t valid =
    let p : Port = port_at input t in
    let q : Port = with_arrivals input t p in
    let turn : Option Arrival = head_of (turn_of q.shaper q.waiting) q.waiting in
    elim (cases_lt t p.free_from) [
      | inl busy ↦
          let same : port_in input t ≡ q = cond-false (nat_le q.free_from t) (starts t q turn) q (lt-leb q.free_from t busy) in
          inl (record {
            left = omega (arith, busy);
            same = ap (λ r. r.free_from - t) same;
            line = λ traffic. ap (λ r. does_send traffic r.line) same;
          })
      | inr free ↦
          inr (free_cases input t q turn refl (with_arrivals_sizes input t p valid (sizes_at input t valid)) free
          (cond-true (nat_le q.free_from t) (starts t q turn) q (le-leb q.free_from t free)) refl)
    ]

-- ---- how many bits are left

-- a frame that goes on has fewer bits left than the longest has
pub left_most : (input : PortInput) (t : ℕ) → IsPortInput input → bits_left input t ≤ 12335
left_most input zero valid = omega (arith, line-first input)
left_most input (suc t) valid =
    let before : bits_left input t ≤ 12335 = left_most input t valid in
    let next = left-next input t in
    elim (one_of_three input t valid) [
      | inl on ↦ let same : bits_ahead input t ≡ bits_left input t = on.same in omega (arith, next, same, before)
      | inr free ↦ elim free [
        | inl start ↦ let size : bits_ahead input t ≤ 12336 = start.1.size.1 in omega (arith, next, size)
        | inr rest ↦ let none : bits_ahead input t ≡ 0 = rest.none in omega (arith, next, none)
      ]
    ]

-- ---- the slopes

pub slopes_within : (input : PortInput) (cap_a cap_ab t : ℕ) → KeepCaps cap_a cap_ab input.slopes → AreSlopesWithin input cap_a cap_ab t
slopes_within input cap_a cap_ab t keep =
    last_change_all (λ c. (c.slope_a ≤ cap_a) × (c.slope_a + c.slope_b ≤ cap_ab)) t no_slopes input.slopes (omega arith, omega arith) keep

-- ---- a class A frame with credit waits for one frame

not_both : (c : ℤ) → pos 0 ≤ℤ c → c <ℤ pos 0 → ⊥
not_both c up down = omega (arith, ints, up, down)

-- a start of a traffic is seen on the line
starts_line : (input : PortInput) (traffic : Traffic) (t : ℕ) → Starts input traffic t → is_on_line input traffic t ≡ true
starts_line input traffic t h1 = grind arith

not_started : (input : PortInput) (t : ℕ) (traffic : Traffic) → is_waiting input A t ≡ true → pos 0 ≤ℤ credit_a_at input t
    → is_on_line input A t ≡ false → Starts input traffic t → ⊥
not_started input t A waits credit line s = true≢false (sym (starts_line input A t s) ∙ line)
not_started input t B waits credit line s = not_both (credit_a_at input t) credit (s.turn.1 waits)
not_started input t Other waits credit line s = not_both (credit_a_at input t) credit (s.turn.0 waits)

-- while it waits, the frame on the line goes on
waits_behind : (input : PortInput) (t : ℕ) → IsPortInput input → is_waiting input A t ≡ true → pos 0 ≤ℤ credit_a_at input t
    → is_on_line input A t ≡ false → GoesOn input t
waits_behind input t valid waits credit line =
    elim (one_of_three input t valid) [
      | inl on ↦ on
      | inr free ↦ elim free [
        | inl start ↦ absurd (not_started input t start.0 waits credit line start.1)
        | inr rest ↦ absurd (not_both (credit_a_at input t) credit (rest.turn.0 waits))
      ]
    ]

-- so each bit time of the wait takes one of its bits
waits_for : (input : PortInput) (from bits : ℕ) → IsPortInput input → WaitsWithCreditA input from bits → bits ≤ bits_left input from
waits_for input from zero valid wait = omega arith
waits_for input from (suc bits) valid wait =
    let here = wait from (omega arith) (omega arith) in
    let on : GoesOn input from = waits_behind input from valid here.0 here.1 here.2 in
    let some : 0 < bits_left input from = on.left in
    let same : bits_ahead input from ≡ bits_left input from = on.same in
    let next = left-next input from in
    let rest : bits ≤ bits_left input (suc from) =
    waits_for input (suc from) bits valid (λ t low high. wait t (omega (arith, low)) (omega (arith, high))) in
    omega (arith, some, same, next, rest)

pub waits_for_one : (input : PortInput) (from bits : ℕ) → IsPortInput input → WaitsWithCreditA input from bits → bits ≤ 12335
waits_for_one input from bits valid wait = omega (arith, waits_for input from bits valid wait, left_most input from valid)

-- ---- what waits goes on waiting

-- what heads a queue heads it still once more has arrived
head-append : (traffic : Traffic) (xs ys : List Arrival) (x : Arrival) → head_of traffic xs ≡ Some x → head_of traffic (xs ++ ys) ≡ Some x
head-append traffic [] ys x e = absurd (false≢true (ap is_some e))
head-append traffic (y ∷ xs) ys x e0 =
    (elim (is_of traffic y) as (λ b. cond b (Some y) (head_of traffic xs) ≡ Some x → cond b (Some y) (head_of traffic (xs ++ ys)) ≡ Some x) [
      | true ↦ λ e. e
      | false ↦ λ e. head-append traffic xs ys x e
    ]) e0

-- a start of another traffic, or none, leaves what heads the queue
start_leaves : (input : PortInput) (t : ℕ) (traffic : Traffic) (q : Port) (x : Arrival) (o : Option Arrival) → head_of traffic q.waiting ≡ Some x
    → HasSizes t q → port_in input t ≡ starts t q o → head_of (turn_of q.shaper q.waiting) q.waiting ≡ o
    → q ≡ with_arrivals input t (port_at input t) → bits_left input t ≡ 0
    → Starts input traffic t ⊎ (head_at input traffic t ≡ Some x)
start_leaves input t traffic q x None head sizes now e is free = inr (ap (λ p. head_of traffic p.waiting) now ∙ head)
start_leaves input t traffic q x (Some y) head sizes now e is free =
    let turn : Traffic = turn_of q.shaper q.waiting in
    let has : HasStarted t q (port_in input t) turn = subst (λ (p : Port). HasStarted t q p turn) (sym now) (has_started t q y e sizes.waiting) in
    elim (cases_eq (traffic_number turn) (traffic_number traffic)) [
      | inl same ↦
          let one : turn ≡ traffic = same_traffic turn traffic same in
          inl (subst (λ (k : Traffic). Starts input k t) one (starts_of input t q turn is free refl has))
      | inr ne ↦ inr (has.other traffic ne ∙ head)
    ]

stays_within : (input : PortInput) (t : ℕ) (traffic : Traffic) (x : Arrival) → IsPortInput input → head_of traffic (port_at input t).waiting ≡ Some x
    → Starts input traffic t ⊎ (head_at input traffic t ≡ Some x)
stays_within input t traffic x valid head =
    let p : Port = port_at input t in
    let q : Port = with_arrivals input t p in
    let turn : Option Arrival = head_of (turn_of q.shaper q.waiting) q.waiting in
    let more : head_of traffic q.waiting ≡ Some x = head-append traffic p.waiting (arrivals_at input.arrivals t) x head in
    elim (cases_lt t p.free_from) [
      | inl busy ↦
          let same : port_in input t ≡ q = cond-false (nat_le q.free_from t) (starts t q turn) q (lt-leb q.free_from t busy) in
          inr (ap (λ r. head_of traffic r.waiting) same ∙ more)
      | inr free ↦
          start_leaves input t traffic q x turn more (with_arrivals_sizes input t p valid (sizes_at input t valid))
          (cond-true (nat_le q.free_from t) (starts t q turn) q (le-leb q.free_from t free)) refl refl (omega (arith, free))
    ]

pub stays_on : (input : PortInput) (traffic : Traffic) (x : Arrival) (t : ℕ) → IsPortInput input → head_at input traffic t ≡ Some x
    → Starts input traffic (suc t) ⊎ (head_at input traffic (suc t) ≡ Some x)
unfolding port_at
stays_on input traffic x t valid head = stays_within input (suc t) traffic x valid head

-- so a queue that isn't empty stays so
pub waits_head : (o : Option Arrival) → is_some o ≡ true → (x : Arrival) × (o ≡ Some x)
waits_head None w = absurd (false≢true w)
waits_head (Some x) w = (x, refl)

pub waits_on : (input : PortInput) (traffic : Traffic) (t : ℕ) → IsPortInput input → is_waiting input traffic t ≡ true
    → Starts input traffic (suc t) ⊎ (is_waiting input traffic (suc t) ≡ true)
waits_on input traffic t valid waits =
    let head = waits_head (head_at input traffic t) waits in
    elim (stays_on input traffic head.0 t valid head.1) [ inl start ↦ inl start | inr stays ↦ inr (ap is_some stays) ]

-- ---- the frame that starts is the one that headed its queue

starts_first : (t : ℕ) (traffic : Traffic) (q : Port) (x : Arrival) (o : Option Arrival) → head_of traffic q.waiting ≡ Some x
    → head_of (turn_of q.shaper q.waiting) q.waiting ≡ o → (starts t q o).line ≡ Sends traffic
    → (starts t q o).sent ≡ q.sent ++ departure_at t x ∷ []
starts_first t traffic q x o h1 h2 h3 = grind (arith, head_traffic)

departs_within : (input : PortInput) (t : ℕ) (traffic : Traffic) (x : Arrival) → head_of traffic (port_at input t).waiting ≡ Some x
    → Starts input traffic t → (port_in input t).sent ≡ (port_at input t).sent ++ departure_at t x ∷ []
departs_within input t traffic x head start =
    let p : Port = port_at input t in
    let q : Port = with_arrivals input t p in
    let turn : Option Arrival = head_of (turn_of q.shaper q.waiting) q.waiting in
    let left : p.free_from - t ≡ 0 = start.free in
    let now : port_in input t ≡ starts t q turn = cond-true (nat_le q.free_from t) (starts t q turn) q (le-leb q.free_from t (omega (arith, left))) in
    ap (λ r. r.sent) now
    ∙ starts_first t traffic q x turn (head-append traffic p.waiting (arrivals_at input.arrivals t) x head) refl (ap (λ r. r.line) (sym now) ∙ start.line)

pub departs_next : (input : PortInput) (traffic : Traffic) (x : Arrival) (t : ℕ) → head_at input traffic t ≡ Some x
    → Starts input traffic (suc t) → suc t < input.end → DepartsAt input x (suc t)
unfolding port_at
departs_next input traffic x t head start in_time =
    let sent : (port_at input (suc (suc t))).sent ≡ (port_at input (suc t)).sent ++ departure_at (suc t) x ∷ [] =
    departs_within input (suc t) traffic x head start in
    let goes : Goes (suc (suc t)) (port_at input (suc (suc t))).sent (sent_of input) = goes_by input (suc (suc t)) input.end (omega (arith, in_time)) in
    subst (λ (ds : List Departure). Contains ds (departure_at (suc t) x)) (sym goes.is)
    (Contains-append_left (port_at input (suc (suc t))).sent goes.more (departure_at (suc t) x)
    (subst (λ (ds : List Departure). Contains ds (departure_at (suc t) x)) (sym sent) (Contains-push (port_at input (suc t)).sent (departure_at (suc t) x))))
