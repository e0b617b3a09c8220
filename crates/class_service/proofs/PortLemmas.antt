-- What a bit time makes of the bits that a port has to send, by the definition of its trace: a start moves them from a queue
-- to the line, and each bit time in which the line sends takes one.
use Rattle.std.proofs.Common.{◌≡◌, ℕ, zero, suc, ◌+◌, ◌-◌, ◌<◌, ◌≤◌, ◌⊎◌, inl, inr, Bool, true, false, cond, List, [], ◌∷◌, ◌++◌, get_or, Option, Some, None, refl, sym, ◌∙◌, ap, subst, arith}
use Rattle.std.specs.Prelude.{All, nat_le, nat_lt, ◌==◌, filter, sum_by, is_some}
use Rattle.std.proofs.lemmas.{Bool.cases_Bool, Bool.cases_lt, Bool.cases_eq, Bool.cond-true, Bool.cond-false, Bool.le-leb, Bool.lt-leb, Bool.lt-ltb, Bool.le-ltb, Bool.eq-eqb, Bool.ne_eqb, Bool.eqb-true, Bool.or_parts, Bool.true≢false, List.Elements.All-head, List.Elements.All-tail, List.Elements.All-append, List.Elements.All-filter, List.Elements.filter-append, List.Elements.filter_passes, List.Sums.sum_by-cons, List.Sums.sum_by-append}
use Rattle.credit_shaper.specs.declared.{shaper.Traffic.Traffic, shaper.Line.Line, shaper.Line.TheVariants.Free, shaper.Line.TheVariants.Sends, port.Arrival.Arrival, port.PortInput.PortInput}
use Rattle.credit_shaper.specs.declared.shaper.Traffic.TheVariants.{A, B, Other}
use Rattle.credit_shaper.specs.{Credit.traffic_number, Credit.does_send, Port.IsPortInput, Port.is_of, Port.arrivals_at, Trace.Port, Trace.head_of, Trace.does_wait, Trace.turn_of, Trace.without_head, Trace.starts, Trace.sends_frame, Trace.with_start, Trace.with_arrivals, Trace.port_at, Trace.port_in, Bounds.is_on_line, Steps.is_waiting, Steps.bits_left, Steps.bits_ahead, Steps.Starts, Departures.arrivals_before}
use Rattle.credit_shaper.proofs.BoundLemmas.{head_within, All-without_head}
use Rattle.class_service.specs.{IsIdleBefore, bits_in, HasLongest, bits_among, bits_to_send, HasNoneBefore, LineLaws}
use Rattle.class_service.proofs.CreditLemmas.{bit_of, bits_more, sum_none}

-- ---- the bits of a traffic among some frames

abbrev weight : Traffic → Arrival → ℕ
weight traffic x = cond (is_of traffic x) x.bits 0

pub among-cons : (traffic : Traffic) (x : Arrival) (xs : List Arrival) → bits_among traffic (x ∷ xs) ≡ weight traffic x + bits_among traffic xs
among-cons traffic x xs =
    elim (is_of traffic x) as (λ b. sum_by (λ y. y.bits) (cond b (x ∷ filter (is_of traffic) xs) (filter (is_of traffic) xs)) ≡ cond b x.bits 0 + bits_among traffic xs) [
      | true ↦ sum_by-cons (λ y. y.bits) x (filter (is_of traffic) xs)
      | false ↦ omega arith
    ]

pub among-append : (traffic : Traffic) (xs ys : List Arrival) → bits_among traffic (xs ++ ys) ≡ bits_among traffic xs + bits_among traffic ys
among-append traffic xs ys =
    ap (sum_by (λ x. x.bits)) (filter-append (is_of traffic) xs ys) ∙ sum_by-append (λ x. x.bits) (filter (is_of traffic) xs) (filter (is_of traffic) ys)

among_if : (traffic : Traffic) (b : Bool) (x : Arrival) (xs : List Arrival) → bits_among traffic (cond b (x ∷ xs) xs) ≡ cond b (weight traffic x) 0 + bits_among traffic xs
among_if traffic true x xs = among-cons traffic x xs
among_if traffic false x xs = omega arith

-- one test passes where exactly one of two others does
abbrev pub IsSplit : (p q r : Arrival → Bool) → Type 0
IsSplit p q r = (x : Arrival) → ((p x ≡ q x) × (r x ≡ false)) ⊎ ((p x ≡ r x) × (q x ≡ false))

split_if : (b c d : Bool) (n : ℕ) → ((b ≡ c) × (d ≡ false)) ⊎ ((b ≡ d) × (c ≡ false)) → cond b n 0 ≡ cond c n 0 + cond d n 0
split_if b c d n (inl e) = rw (e.0, e.1) (omega arith)
split_if b c d n (inr e) = rw (e.0, e.1) (omega arith)

pub among_split : (traffic : Traffic) (p q r : Arrival → Bool) → IsSplit p q r → (xs : List Arrival)
    → bits_among traffic (filter p xs) ≡ bits_among traffic (filter q xs) + bits_among traffic (filter r xs)
among_split traffic p q r split [] = refl
among_split traffic p q r split (x ∷ xs) =
    let rest = among_split traffic p q r split xs in
    let one = among_if traffic (p x) x (filter p xs) in
    let two = among_if traffic (q x) x (filter q xs) in
    let three = among_if traffic (r x) x (filter r xs) in
    let here : cond (p x) (weight traffic x) 0 ≡ cond (q x) (weight traffic x) 0 + cond (r x) (weight traffic x) 0 =
    split_if (p x) (q x) (r x) (weight traffic x) (split x) in
    omega (arith, rest, one, two, three, here)

-- what has arrived before the next bit time had before this one, or arrives in it
arrived_next : (traffic : Traffic) (xs : List Arrival) (t : ℕ)
    → bits_among traffic (arrivals_before xs (suc t)) ≡ bits_among traffic (arrivals_before xs t) + bits_among traffic (arrivals_at xs t)
arrived_next traffic xs t =
    among_split traffic (λ x. nat_lt x.bit (suc t)) (λ x. nat_lt x.bit t) (λ x. x.bit == t)
    (λ x. elim (cases_lt x.bit t) [
      | inl l ↦ inl (lt-ltb x.bit (suc t) (omega (arith, l)) ∙ sym (lt-ltb x.bit t l), ne_eqb x.bit t (λ e. omega (arith, l, e)))
      | inr l ↦ inr (now x l, le-ltb x.bit t l)
    ]) xs
  where
    now : (x : Arrival) → t ≤ x.bit → nat_lt x.bit (suc t) ≡ (x.bit == t)
    now x l =
        elim (cases_eq x.bit t) [
          | inl e ↦ lt-ltb x.bit (suc t) (omega (arith, e)) ∙ sym (eq-eqb x.bit t e)
          | inr ne ↦ le-ltb x.bit (suc t) (omega (arith, l, ne)) ∙ sym (ne_eqb x.bit t ne)
        ]

-- without the first of a queue the bits of that frame are gone
without_bits : (traffic kind : Traffic) (w : List Arrival) (x : Arrival) → head_of kind w ≡ Some x
    → bits_among traffic w ≡ weight traffic x + bits_among traffic (without_head kind w)
without_bits traffic kind [] x e = cc
without_bits traffic kind (y ∷ ys) x e =
    elim (cases_Bool (is_of kind y)) [
      | inl own ↦
          let found : Some y ≡ Some x = sym (cond-true (is_of kind y) (Some y) (head_of kind ys) own) ∙ e in
          let same : y ≡ x = cc in
          rw own (among-cons traffic y ys ∙ ap (λ z. weight traffic z + bits_among traffic ys) same)
      | inr out ↦
          let rest = without_bits traffic kind ys x (sym (cond-false (is_of kind y) (Some y) (head_of kind ys) out) ∙ e) in
          let one = among-cons traffic y ys in
          let two = among-cons traffic y (without_head kind ys) in
          rw out (omega (arith, rest, one, two))
    ]

-- where no frame of a traffic waits there are no bits of it
pub none_waits : (traffic : Traffic) (w : List Arrival) → does_wait traffic w ≡ false → filter (is_of traffic) w ≡ []
none_waits traffic [] e = refl
none_waits traffic (x ∷ xs) e =
    elim (cases_Bool (is_of traffic x)) [
      | inl own ↦ absurd (true≢false (sym (ap is_some (cond-true (is_of traffic x) (Some x) (head_of traffic xs) own)) ∙ e))
      | inr out ↦ rw out (none_waits traffic xs (sym (ap is_some (cond-false (is_of traffic x) (Some x) (head_of traffic xs) out)) ∙ e))
    ]

-- ---- a start

pub same_traffic : (one other : Traffic) → traffic_number one ≡ traffic_number other → one ≡ other
same_traffic A A e = refl
same_traffic A B e = absurd (omega (arith, e))
same_traffic A Other e = absurd (omega (arith, e))
same_traffic B A e = absurd (omega (arith, e))
same_traffic B B e = refl
same_traffic B Other e = absurd (omega (arith, e))
same_traffic Other A e = absurd (omega (arith, e))
same_traffic Other B e = absurd (omega (arith, e))
same_traffic Other Other e = refl

-- the first frame of a traffic's queue is of that traffic
own_head : (kind : Traffic) (w : List Arrival) (x : Arrival) → head_of kind w ≡ Some x → x.traffic ≡ kind
own_head kind w x e = same_traffic x.traffic kind (eqb-true (traffic_number x.traffic) (traffic_number kind) (own w e))
  where
    own : (ys : List Arrival) → head_of kind ys ≡ Some x → is_of kind x ≡ true
    own [] f = cc
    own (y ∷ ys) f =
        elim (cases_Bool (is_of kind y)) [
          | inl first ↦
              let found : Some y ≡ Some x = sym (cond-true (is_of kind y) (Some y) (head_of kind ys) first) ∙ f in
              let same : y ≡ x = cc in
              ap (is_of kind) (sym same) ∙ first
          | inr out ↦ own ys (sym (cond-false (is_of kind y) (Some y) (head_of kind ys) out) ∙ f)
        ]

-- a port in a bit time is as before it, with a free line, or with the first frame of a queue on it
with_start_cases : (P : Port → Type 0) (t : ℕ) (q : Port) → (t < q.free_from → P q) → (q.free_from ≤ t → P (record q { line = Free }))
    → ((kind : Traffic) (x : Arrival) → q.free_from ≤ t → head_of kind q.waiting ≡ Some x → x.traffic ≡ kind → P (sends_frame t q x)) → P (with_start t q)
with_start_cases P t q busy rest begin =
    let turn : Traffic = turn_of q.shaper q.waiting in
    elim (cases_lt t q.free_from) [
      | inl l ↦ subst P (sym (cond-false (nat_le q.free_from t) (starts t q (head_of turn q.waiting)) q (lt-leb q.free_from t l))) (busy l)
      | inr free ↦ subst P (sym (cond-true (nat_le q.free_from t) (starts t q (head_of turn q.waiting)) q (le-leb q.free_from t free)))
          (started (head_of turn q.waiting) refl free)
    ]
  where
    started : (o : Option Arrival) → head_of (turn_of q.shaper q.waiting) q.waiting ≡ o → q.free_from ≤ t → P (starts t q o)
    started None e free = rest free
    started (Some x) e free = begin (turn_of q.shaper q.waiting) x free e (own_head (turn_of q.shaper q.waiting) q.waiting x e)

-- the bits of a traffic that a port has to send
abbrev to_send : Traffic → ℕ → Port → ℕ
to_send traffic t p = bits_among traffic p.waiting + cond (does_send traffic p.line) (p.free_from - t) 0

none_left : (b : Bool) (n : ℕ) → n ≡ 0 → cond b n 0 ≡ 0
none_left true n e = e
none_left false n e = refl

start_moves : (traffic : Traffic) (t : ℕ) (q : Port) → to_send traffic t (with_start t q) ≡ to_send traffic t q
start_moves traffic t q =
    with_start_cases (λ p. to_send traffic t p ≡ to_send traffic t q) t q (λ _. refl)
    (λ free. let none = none_left (does_send traffic q.line) (q.free_from - t) (omega (arith, free)) in omega (arith, none))
    (λ kind x free e own.
    let none = none_left (does_send traffic q.line) (q.free_from - t) (omega (arith, free)) in
    let moved = without_bits traffic kind q.waiting x e in
    let same : bits_among traffic (without_head x.traffic q.waiting) ≡ bits_among traffic (without_head kind q.waiting) =
    ap (λ k. bits_among traffic (without_head k q.waiting)) own in
    let sized : cond (is_of traffic x) (t + x.bits - t) 0 ≡ weight traffic x = ap (λ n. cond (is_of traffic x) n 0) (omega arith) in
    omega (arith, none, moved, same, sized))

-- a frame on the line has a bit left for this bit time
pub ahead_some : (laws : LineLaws) (input : PortInput) (traffic : Traffic) (t : ℕ) → IsPortInput input → is_on_line input traffic t ≡ true → 0 < bits_ahead input t
ahead_some laws input traffic t valid on =
    elim (laws.three input t valid) [
      | inl same ↦ let left : 0 < bits_left input t = same.left in let is : bits_ahead input t ≡ bits_left input t = same.same in omega (arith, left, is)
      | inr free ↦ elim free [
        | inl start ↦ let size : 336 ≤ bits_ahead input t = start.1.size.0 in omega (arith, size)
        | inr rest ↦ absurd (true≢false (sym on ∙ ap (does_send traffic) rest.line))
      ]
    ]

one_less : (b : Bool) (free t : ℕ) → (b ≡ true → 0 < free - t) → cond b (free - suc t) 0 + cond b 1 0 ≡ cond b (free - t) 0
one_less true free t some = let more : 0 < free - t = some refl in omega (arith, more)
one_less false free t some = refl

-- a bit time adds what arrives in it, and takes one bit where the line sends
send_next : (laws : LineLaws) (input : PortInput) (traffic : Traffic) (t : ℕ) → IsPortInput input
    → bits_to_send input traffic (suc t) + bit_of input traffic t ≡ bits_to_send input traffic t + bits_among traffic (arrivals_at input.arrivals t)
unfolding port_at
send_next laws input traffic t valid =
    let p : Port = port_in input t in
    let moved = start_moves traffic t (with_arrivals input t (port_at input t)) in
    let come = among-append traffic (port_at input t).waiting (arrivals_at input.arrivals t) in
    let less = one_less (does_send traffic p.line) p.free_from t (ahead_some laws input traffic t valid) in
    omega (arith, moved, come, less)

none_to_send : (input : PortInput) (traffic : Traffic) (s : ℕ) → IsIdleBefore input traffic s → bits_to_send input traffic s ≡ 0
unfolding port_at
none_to_send input traffic zero idle = refl
none_to_send input traffic (suc k) idle =
    let off = or_parts (is_on_line input traffic k) (is_waiting input traffic k) (idle k refl) in
    let waits : bits_among traffic (port_in input k).waiting ≡ 0 = ap (sum_by (λ (x : Arrival). x.bits)) (none_waits traffic (port_in input k).waiting off.1) in
    let line : cond (does_send traffic (port_in input k).line) ((port_in input k).free_from - suc k) 0 ≡ 0 =
    cond-false (does_send traffic (port_in input k).line) ((port_in input k).free_from - suc k) 0 off.0 in
    omega (arith, waits, line)

-- what arrives is carried or to send
carried_over : (laws : LineLaws) (input : PortInput) (traffic : Traffic) (s n : ℕ) → IsPortInput input → IsIdleBefore input traffic s
    → bits_among traffic (arrivals_before input.arrivals (s + n))
    ≡ bits_among traffic (arrivals_before input.arrivals s) + bits_in input traffic s (s + n) + bits_to_send input traffic (s + n)
carried_over laws input traffic s zero valid idle =
    let at : s ≡ s + 0 = omega arith in
    let none = none_to_send input traffic s idle in
    let bits : bits_in input traffic s s ≡ 0 = sum_none (bit_of input traffic) s in
    subst (λ (t : ℕ). bits_among traffic (arrivals_before input.arrivals t)
    ≡ bits_among traffic (arrivals_before input.arrivals s) + bits_in input traffic s t + bits_to_send input traffic t) at (omega (arith, none, bits))
carried_over laws input traffic s (suc n) valid idle =
    let t : ℕ = s + n in
    let at : suc t ≡ s + suc n = omega arith in
    let before = carried_over laws input traffic s n valid idle in
    let come = arrived_next traffic input.arrivals t in
    let bits = bits_more input traffic s t (omega arith) in
    let sent = send_next laws input traffic t valid in
    subst (λ (k : ℕ). bits_among traffic (arrivals_before input.arrivals k)
    ≡ bits_among traffic (arrivals_before input.arrivals s) + bits_in input traffic s k + bits_to_send input traffic k) at (omega (arith, before, come, bits, sent))

pub carried : (laws : LineLaws) (input : PortInput) (traffic : Traffic) (s t : ℕ) → IsPortInput input → IsIdleBefore input traffic s → s ≤ t
    → bits_among traffic (arrivals_before input.arrivals t)
    ≡ bits_among traffic (arrivals_before input.arrivals s) + bits_in input traffic s t + bits_to_send input traffic t
carried laws input traffic s t valid idle up =
    let at : s + (t - s) ≡ t = omega (arith, up) in
    subst (λ (k : ℕ). bits_among traffic (arrivals_before input.arrivals k)
    ≡ bits_among traffic (arrivals_before input.arrivals s) + bits_in input traffic s k + bits_to_send input traffic k) at (carried_over laws input traffic s (t - s) valid idle)

-- ---- what starts is a frame of the input

all_wait : (P : Arrival → Type 0) (input : PortInput) (t : ℕ) → All P input.arrivals → All P (port_at input t).waiting
unfolding port_at
all_wait P input zero all = λ k d l. absurd (omega (arith, l))
all_wait P input (suc t) all =
    let q : Port = with_arrivals input t (port_at input t) in
    let come : All P q.waiting = All-append P (port_at input t).waiting (arrivals_at input.arrivals t) (all_wait P input t all) (All-filter (λ x. x.bit == t) P input.arrivals all) in
    with_start_cases (λ p. All P p.waiting) t q (λ _. come) (λ _. come) (λ kind x _ _ _. All-without_head P x.traffic q.waiting come)

-- a number for each line, by which two are compared
abbrev line_number : Line → ℕ
line_number Free = 0
line_number (Sends traffic) = suc (traffic_number traffic)

no_start : (traffic : Traffic) → Free ≡ Sends traffic → ⊥
no_start traffic e = let apart : line_number Free ≡ line_number (Sends traffic) = ap line_number e in absurd (omega (arith, apart))

same_number : (one two : Traffic) → Sends one ≡ Sends two → traffic_number one ≡ traffic_number two
same_number one two e = let same : suc (traffic_number one) ≡ suc (traffic_number two) = ap line_number e in omega (arith, same)

-- what starts of a traffic is one of its frames that wait or arrive
pub starts_of : (P : Arrival → Type 0) (input : PortInput) (traffic : Traffic) (t : ℕ) → All P ((port_at input t).waiting ++ arrivals_at input.arrivals t) → Starts input traffic t
    → (x : Arrival) × P x × (is_of traffic x ≡ true) × (bits_ahead input t ≡ x.bits)
starts_of P input traffic t all s =
    let q : Port = with_arrivals input t (port_at input t) in
    let left : bits_left input t ≡ 0 = s.free in
    with_start_cases (λ p. p.line ≡ Sends traffic → (x : Arrival) × P x × (is_of traffic x ≡ true) × (p.free_from - t ≡ x.bits)) t q
    (λ l _. absurd (omega (arith, left, l)))
    (λ _ e. absurd (no_start traffic e))
    (λ kind x _ e own sends.
    (x, head_within P kind q.waiting x all e, eq-eqb (traffic_number x.traffic) (traffic_number traffic) (same_number x.traffic traffic sends), omega arith))
    s.line

-- no frame of a traffic starts that is longer than those of the input
pub starts_short : (input : PortInput) (traffic : Traffic) (longest t : ℕ) → HasLongest traffic longest input.arrivals → Starts input traffic t → bits_ahead input t ≤ longest
starts_short input traffic longest t short s =
    let P : Arrival → Type 0 = λ x. is_of traffic x ≡ true → x.bits ≤ longest in
    let x = starts_of P input traffic t
    (All-append P (port_at input t).waiting (arrivals_at input.arrivals t) (all_wait P input t short) (All-filter (λ x. x.bit == t) P input.arrivals short)) s in
    let few : x.0.bits ≤ longest = x.1 x.2 in
    omega (arith, few, x.3)

-- ---- a traffic without frames up to a bit time

-- what waits as a bit time begins has arrived before
early_wait : (input : PortInput) (t : ℕ) → All (λ x. x.bit < t) (port_at input t).waiting
unfolding port_at
early_wait input zero = λ k d l. absurd (omega (arith, l))
early_wait input (suc t) =
    let E : Arrival → Type 0 = λ x. x.bit < suc t in
    let q : Port = with_arrivals input t (port_at input t) in
    let come : All E q.waiting = All-append E (port_at input t).waiting (arrivals_at input.arrivals t)
    (λ k d l. omega (arith, early_wait input t k d l))
    (λ k d l. let now : (get_or (arrivals_at input.arrivals t) k d).bit ≡ t = eqb-true (get_or (arrivals_at input.arrivals t) k d).bit t
    (filter_passes (λ x. x.bit == t) input.arrivals k d l) in omega (arith, now)) in
    with_start_cases (λ p. All E p.waiting) t q (λ _. come) (λ _. come) (λ kind x _ _ _. All-without_head E x.traffic q.waiting come)

-- where no frame of a traffic arrives before a bit time, what waits or arrives before it is of other traffic
others_wait : (input : PortInput) (traffic : Traffic) (z t : ℕ) → HasNoneBefore traffic z input.arrivals → t < z
    → All (λ x. is_of traffic x ≡ false) ((port_at input t).waiting ++ arrivals_at input.arrivals t)
others_wait input traffic z t none l =
    let P : Arrival → Type 0 = λ x. is_of traffic x ≡ true → z ≤ x.bit in
    let N : Arrival → Type 0 = λ x. is_of traffic x ≡ false in
    let new : List Arrival = arrivals_at input.arrivals t in
    All-append N (port_at input t).waiting new
    (λ k d h. off (get_or (port_at input t).waiting k d) (all_wait P input t none k d h) (omega (arith, l, early_wait input t k d h)))
    (λ k d h. let now : (get_or new k d).bit ≡ t = eqb-true (get_or new k d).bit t (filter_passes (λ x. x.bit == t) input.arrivals k d h) in
    off (get_or new k d) (All-filter (λ x. x.bit == t) P input.arrivals none k d h) (omega (arith, l, now)))
  where
    off : (x : Arrival) → (is_of traffic x ≡ true → z ≤ x.bit) → x.bit < z → is_of traffic x ≡ false
    off x h early =
        elim (cases_Bool (is_of traffic x)) [
          | inl yes_x ↦ let late : z ≤ x.bit = h yes_x in absurd (omega (arith, late, early))
          | inr no_x ↦ no_x
        ]

none_of : (traffic : Traffic) (w : List Arrival) → All (λ x. is_of traffic x ≡ false) w → does_wait traffic w ≡ false
none_of traffic [] all = refl
none_of traffic (x ∷ xs) all =
    let N : Arrival → Type 0 = λ y. is_of traffic y ≡ false in
    ap is_some (cond-false (is_of traffic x) (Some x) (head_of traffic xs) (All-head N x xs all)) ∙ none_of traffic xs (All-tail N x xs all)

-- in each bit time before it none waits, and none is on the line
pub none_waiting : (input : PortInput) (traffic : Traffic) (z t : ℕ) → HasNoneBefore traffic z input.arrivals → t < z → is_waiting input traffic t ≡ false
none_waiting input traffic z t none l =
    let N : Arrival → Type 0 = λ x. is_of traffic x ≡ false in
    let q : Port = with_arrivals input t (port_at input t) in
    let all : All N q.waiting = others_wait input traffic z t none l in
    with_start_cases (λ p. does_wait traffic p.waiting ≡ false) t q (λ _. none_of traffic q.waiting all) (λ _. none_of traffic q.waiting all)
    (λ kind x _ _ _. none_of traffic (without_head x.traffic q.waiting) (All-without_head N x.traffic q.waiting all))

pub none_starts : (input : PortInput) (traffic : Traffic) (z t : ℕ) → HasNoneBefore traffic z input.arrivals → t < z → Starts input traffic t → ⊥
none_starts input traffic z t none l s =
    let x = starts_of (λ x. is_of traffic x ≡ false) input traffic t (others_wait input traffic z t none l) s in
    true≢false (sym x.2 ∙ x.1)
