-- Why class A's credit stays between its bounds.
use Rattle.std.proofs.Common.{◌≡◌, ℕ, zero, suc, ◌+◌, ◌-◌, ◌*◌, ◌<◌, ◌≤◌, ◌⊎◌, Bool, true, false, cond, List, [], ◌∷◌, Option, Some, None, refl, sym, ◌∙◌, ap, subst, arith, inl, inr}
use Rattle.std.specs.Prelude.{All, nat_le, ◌==◌, is_some, ◌&&◌, ℤ, pos, ◌+ℤ◌, ◌≤ℤ◌, ◌<ℤ◌, int_le}
use Rattle.std.proofs.Math.Nat.{mul-le-mul_left}
use Rattle.std.proofs.lemmas.{Bool.cases_Bool, Bool.cases_lt, Bool.cond-true, Bool.cond-false, Bool.le-leb, Bool.lt-leb, Bool.eqb-true, Bool.ne_eqb, Bool.eq-eqb, Bool.and_parts, Bool.true≢false, Bool.false≢true, Int.ints, Int.clamps, List.Elements.All-head, List.Elements.All-tail, List.Elements.All-cons, List.Elements.All-append, List.Elements.All-filter}
use Rattle.srp_base.proofs.Arithmetic.{at_least_zero as zero_or_more}
use Rattle.srp_base.specs.declared.bandwidth.Rate.{Rate}
use Rattle.srp_base.specs.Bandwidth.{bits_of}
use Rattle.credit_shaper.specs.{Traffic, A, B, Other, Sends, Shaper, Arrival, PortInput, traffic_number, credit_after, does_send, IsPortInput, IsFrameSize, is_of, arrivals_at, head_of, turn_of, does_wait, without_head, starts, with_start, with_arrivals, within_bit, port_at, port_in, slope_a_at, lo_credit, hi_credit, IsStretch, IsCreditAWithin}
use Rattle.credit_shaper.specs.Trace.{Port}
use Rattle.credit_shaper.proofs.{CreditLemmas.below_zero, QueueLemmas.traffic_of, PortLemmas.shaper-port_in, PortLemmas.rate_is, PortLemmas.slope_a_below}

-- the credit as a bit time begins, by how many bits of the frame on the line are left, of class A or not
record Begins (gap most rem : ℕ) (sends : Bool) (c : ℤ) : Type 0 where
  low : pos 0 ≤ℤ (c +ℤ pos (gap * (12336 - cond sends rem 0)))
  high : c ≤ℤ pos (most * (12336 - cond sends 0 rem))

-- the credit in a bit time, once a frame has started or not
record Stands (gap most rem : ℕ) (sends waits : Bool) (c : ℤ) : Type 0 where
  size : rem ≤ 12336
  low : pos 0 ≤ℤ (c +ℤ pos (gap * (12336 - cond sends rem 0)))
  busy : sends ≡ true → 0 < rem
  high : sends ≡ true → c ≤ℤ pos (most * 12336)
  short : sends ≡ false → waits ≡ true → (c <ℤ pos 0) ⊎ ((0 < rem) × (c ≤ℤ pos (most * (12336 - rem))))

-- the credit's step, where the slope is between the least and the most
step : (gap most rem rate slope : ℕ) (sends waits : Bool) (c : ℤ) → rate ≤ slope + gap → slope ≤ most → slope < rate
    → Stands gap most rem sends waits c → Begins gap most (rem - 1) sends (credit_after rate slope sends waits c)
step gap most rem rate slope true waits c least top below s =
    let some : 0 < rem = s.busy refl in
    let more : 12336 - (rem - 1) ≡ suc (12336 - rem) = omega (arith, some, s.size) in
    let room : gap * (12336 - (rem - 1)) ≡ gap * (12336 - rem) + gap = rw more (omega arith) in
    let high : c ≤ℤ pos (most * 12336) = s.high refl in
    record { low = omega (arith, ints, s.low, room, least); high = omega (arith, ints, high, below) }
step gap most rem rate slope false true c least top below s =
    record {
      low = omega (arith, ints, s.low);
      high = elim (s.short refl refl) [
        | inl short ↦
            let one : most * 1 ≤ most * (12336 - (rem - 1)) = mul-le-mul_left most (omega (arith, s.size)) in
            omega (arith, ints, short, one, top)
        | inr room ↦
            let more : 12336 - (rem - 1) ≡ suc (12336 - rem) = omega (arith, room.0, s.size) in
            let next : most * (12336 - (rem - 1)) ≡ most * (12336 - rem) + most = rw more (omega arith) in
            omega (arith, ints, room.1, next, top)
      ];
    }
step gap most rem rate slope false false c least top below s =
    record { low = omega (arith, ints, clamps, s.low); high = omega (arith, ints, clamps) }

-- whose turn it is: class A's where it has credit, else class A waits only without
turn_cases : (s : Shaper) (w : List Arrival) → ((turn_of s w ≡ A) × (int_le (pos 0) s.credit_a ≡ true))
    ⊎ ((traffic_number (turn_of s w) ≡ 0 → ⊥) × (does_wait A w ≡ true → int_le (pos 0) s.credit_a ≡ false))
turn_cases s w =
    let a : Bool = does_wait A w && int_le (pos 0) s.credit_a in
    let b : Bool = does_wait B w && int_le (pos 0) s.credit_b in
    elim (cases_Bool a) [
      | inl y ↦ inl (cond-true a A (cond b B Other) y, (and_parts (does_wait A w) (int_le (pos 0) s.credit_a) y).1)
      | inr n ↦
          let other : traffic_number (turn_of s w) ≡ 0 → ⊥ =
          λ e. let f : traffic_number (cond b B Other) ≡ 0 = ap traffic_number (sym (cond-false a A (cond b B Other) n)) ∙ e in
          elim (cases_Bool b) [
            | inl y ↦ omega (arith, ap traffic_number (sym (cond-true b B Other y)) ∙ f)
            | inr m ↦ omega (arith, ap traffic_number (sym (cond-false b B Other m)) ∙ f)
          ] in
          inr (
            other,
            λ w'. elim (cases_Bool (int_le (pos 0) s.credit_a)) [
              | inl y ↦ absurd (true≢false (sym (ap (λ v. v && int_le (pos 0) s.credit_a) w' ∙ y) ∙ n))
              | inr m ↦ m
            ],
          )
    ]

-- the first frame of a queue is of its traffic
pub head_traffic : (traffic : Traffic) (w : List Arrival) (x : Arrival) → head_of traffic w ≡ Some x → x.traffic ≡ traffic
head_traffic traffic [] x e = cc
head_traffic traffic (y ∷ ys) x e =
    elim (cases_Bool (is_of traffic y)) [
      | inl own ↦
          let found : Some y ≡ Some x = sym (cond-true (is_of traffic y) (Some y) (head_of traffic ys) own) ∙ e in
          let same : y ≡ x = cc in
          traffic_of traffic x (ap (is_of traffic) (sym same) ∙ own)
      | inr out ↦ head_traffic traffic ys x (sym (cond-false (is_of traffic y) (Some y) (head_of traffic ys) out) ∙ e)
    ]

-- a start of another traffic leaves class A's queue
pub head_of-other : (traffic gone : Traffic) (w : List Arrival) → (traffic_number gone ≡ traffic_number traffic → ⊥)
    → head_of traffic (without_head gone w) ≡ head_of traffic w
head_of-other traffic gone [] ne = refl
head_of-other traffic gone (x ∷ xs) ne = grind (arith, head_of-other traffic gone xs ne, cases_Bool, ne_eqb, eqb-true)

-- what a port is as a bit time begins, and in it
abbrev PortBegins : ℕ → ℕ → ℕ → Port → Type 0
PortBegins gap most t p = Begins gap most (p.free_from - t) (does_send A p.line) p.shaper.credit_a

abbrev PortStands : ℕ → ℕ → ℕ → Port → Type 0
PortStands gap most t p = Stands gap most (p.free_from - t) (does_send A p.line) (does_wait A p.waiting) p.shaper.credit_a

-- a frame that waits has 1 to 12,336 bits, and what is on the line has no more
pub record HasSizes (t : ℕ) (p : Port) : Type 0 where
  pub line : p.free_from ≤ t + 12336
  pub waiting : All (λ x. IsFrameSize x.bits) p.waiting

-- what holds of all that wait holds of the first frame of a queue
pub head_within : (P : Arrival → Type 0) (traffic : Traffic) (w : List Arrival) (x : Arrival) → All P w → head_of traffic w ≡ Some x → P x
head_within P traffic [] x all e = cc
head_within P traffic (y ∷ ys) x all e =
    elim (cases_Bool (is_of traffic y)) [
      | inl own ↦
          let found : Some y ≡ Some x = sym (cond-true (is_of traffic y) (Some y) (head_of traffic ys) own) ∙ e in
          let same : y ≡ x = cc in
          subst P same (All-head P y ys all)
      | inr out ↦ head_within P traffic ys x (All-tail P y ys all) (sym (cond-false (is_of traffic y) (Some y) (head_of traffic ys) out) ∙ e)
    ]

pub All-without_head : (P : Arrival → Type 0) (traffic : Traffic) (w : List Arrival) → All P w → All P (without_head traffic w)
All-without_head P traffic [] all = all
All-without_head P traffic (x ∷ xs) all =
    let rest : All P xs = All-tail P x xs all in
    elim (is_of traffic x) as (λ b. All P (cond b xs (x ∷ without_head traffic xs))) [
      | true ↦ rest
      | false ↦ All-cons P x (without_head traffic xs) (All-head P x xs all) (All-without_head P traffic xs rest)
    ]

-- where no frame is on the line, the bounds are the widest
begins_free : (gap most rem : ℕ) (sends : Bool) (c : ℤ) → rem ≡ 0 → Begins gap most rem sends c
    → (pos 0 ≤ℤ (c +ℤ pos (gap * 12336))) × (c ≤ℤ pos (most * 12336))
begins_free gap most rem true c e b =
    let low : pos 0 ≤ℤ (c +ℤ pos (gap * (12336 - rem))) = b.low in
    (subst (λ (n : ℕ). pos 0 ≤ℤ (c +ℤ pos (gap * (12336 - n)))) e low, b.high)
begins_free gap most rem false c e b =
    let high : c ≤ℤ pos (most * (12336 - rem)) = b.high in
    (b.low, subst (λ (n : ℕ). c ≤ℤ pos (most * (12336 - n))) e high)

-- while a frame is on the line nothing starts
begins_busy : (gap most rem : ℕ) (sends waits : Bool) (c : ℤ) → 0 < rem → rem ≤ 12336 → Begins gap most rem sends c
    → Stands gap most rem sends waits c
begins_busy gap most rem sends waits c h1 h2 h3 = grind (arith, true≢false, false≢true)

-- a class A frame starts with credit, which is in bounds
begins_a : (gap most bits : ℕ) (waits : Bool) (c : ℤ) → IsFrameSize bits → pos 0 ≤ℤ c → c ≤ℤ pos (most * 12336)
    → Stands gap most bits true waits c
begins_a gap most bits waits c size credit high = grind (arith, ints, true≢false)

-- while class A doesn't send it waits only without credit
begins_other : (gap most rem : ℕ) (waits : Bool) (c : ℤ) → rem ≤ 12336 → pos 0 ≤ℤ (c +ℤ pos (gap * 12336))
    → (waits ≡ true → c <ℤ pos 0) → Stands gap most rem false waits c
begins_other gap most rem waits c size low short = grind (arith, false≢true)

-- a start on a free line keeps class A's credit in bounds
starts_stand : (gap most t : ℕ) (p : Port) (o : Option Arrival) → head_of (turn_of p.shaper p.waiting) p.waiting ≡ o
    → p.free_from ≤ t → All (λ x. IsFrameSize x.bits) p.waiting → PortBegins gap most t p → PortStands gap most t (starts t p o)
starts_stand gap most t p None e free sizes b =
    let wide = begins_free gap most (p.free_from - t) (does_send A p.line) p.shaper.credit_a (omega (arith, free)) b in
    begins_other gap most (p.free_from - t) (does_wait A p.waiting) p.shaper.credit_a (omega (arith, free)) wide.0
    (λ w. elim (turn_cases p.shaper p.waiting) [
      | inl turn ↦
          let none : does_wait A p.waiting ≡ false = ap (λ traffic. is_some (head_of traffic p.waiting)) (sym turn.0) ∙ ap is_some e in
          absurd (true≢false (sym w ∙ none))
      | inr turn ↦ below_zero p.shaper.credit_a (turn.1 w)
    ])
starts_stand gap most t p (Some x) e free sizes b =
    let wide = begins_free gap most (p.free_from - t) (does_send A p.line) p.shaper.credit_a (omega (arith, free)) b in
    let size : IsFrameSize x.bits = head_within (λ y. IsFrameSize y.bits) (turn_of p.shaper p.waiting) p.waiting x sizes e in
    let own : x.traffic ≡ turn_of p.shaper p.waiting = head_traffic (turn_of p.shaper p.waiting) p.waiting x e in
    let bits : x.bits ≡ t + x.bits - t = omega arith in
    let waits : Bool = does_wait A (without_head x.traffic p.waiting) in
    elim (turn_cases p.shaper p.waiting) [
      | inl turn ↦
          let sends : true ≡ does_send A (Sends x.traffic) = sym (eq-eqb (traffic_number x.traffic) 0 (ap traffic_number (own ∙ turn.0))) in
          subst (λ (n : ℕ). Stands gap most n (does_send A (Sends x.traffic)) waits p.shaper.credit_a) bits
          (subst (λ (s : Bool). Stands gap most x.bits s waits p.shaper.credit_a) sends
          (begins_a gap most x.bits waits p.shaper.credit_a size (zero_or_more p.shaper.credit_a turn.1) wide.1))
      | inr turn ↦
          let ne : traffic_number x.traffic ≡ 0 → ⊥ = λ f. turn.0 (ap traffic_number (sym own) ∙ f) in
          let sends : false ≡ does_send A (Sends x.traffic) = sym (ne_eqb (traffic_number x.traffic) 0 ne) in
          let kept : waits ≡ does_wait A p.waiting = ap is_some (head_of-other A x.traffic p.waiting ne) in
          subst (λ (n : ℕ). Stands gap most n (does_send A (Sends x.traffic)) waits p.shaper.credit_a) bits
          (subst (λ (s : Bool). Stands gap most x.bits s waits p.shaper.credit_a) sends
          (begins_other gap most x.bits waits p.shaper.credit_a size.1 wide.0 (λ w. below_zero p.shaper.credit_a (turn.1 (sym kept ∙ w)))))
    ]

with_start_stands : (gap most t : ℕ) (p : Port) → HasSizes t p → PortBegins gap most t p → PortStands gap most t (with_start t p)
with_start_stands gap most t p sizes b =
    elim (cases_lt t p.free_from) [
      | inl busy ↦
          subst (PortStands gap most t) (sym (cond-false (nat_le p.free_from t) (starts t p (head_of (turn_of p.shaper p.waiting) p.waiting)) p (lt-leb p.free_from t busy)))
          (begins_busy gap most (p.free_from - t) (does_send A p.line) (does_wait A p.waiting) p.shaper.credit_a (omega (arith, busy)) (omega (arith, sizes.line)) b)
      | inr free ↦
          subst (PortStands gap most t) (sym (cond-true (nat_le p.free_from t) (starts t p (head_of (turn_of p.shaper p.waiting) p.waiting)) p (le-leb p.free_from t free)))
          (starts_stand gap most t p (head_of (turn_of p.shaper p.waiting) p.waiting) refl free sizes.waiting b)
    ]

-- the sizes at every bit time
starts_sizes : (t : ℕ) (p : Port) (o : Option Arrival) → head_of (turn_of p.shaper p.waiting) p.waiting ≡ o → HasSizes t p → HasSizes t (starts t p o)
starts_sizes t p None e sizes = record { line = sizes.line; waiting = sizes.waiting }
starts_sizes t p (Some x) e sizes =
    let size : IsFrameSize x.bits = head_within (λ y. IsFrameSize y.bits) (turn_of p.shaper p.waiting) p.waiting x sizes.waiting e in
    record { line = omega (arith, size.1); waiting = All-without_head (λ y. IsFrameSize y.bits) x.traffic p.waiting sizes.waiting }

pub with_arrivals_sizes : (input : PortInput) (t : ℕ) (p : Port) → IsPortInput input → HasSizes t p → HasSizes t (with_arrivals input t p)
with_arrivals_sizes input t p valid sizes =
    record {
      line = sizes.line;
      waiting = All-append (λ x. IsFrameSize x.bits) p.waiting (arrivals_at input.arrivals t) sizes.waiting
          (All-filter (λ x. x.bit == t) (λ x. IsFrameSize x.bits) input.arrivals valid.arrivals.sizes);
    }

sizes_in : (input : PortInput) (t : ℕ) (p : Port) → IsPortInput input → HasSizes t p → HasSizes t (within_bit input t p)
sizes_in input t p valid sizes =
    let q : Port = with_arrivals input t p in
    let come : HasSizes t q = with_arrivals_sizes input t p valid sizes in
    elim (nat_le q.free_from t) as (λ b. HasSizes t (cond b (starts t q (head_of (turn_of q.shaper q.waiting) q.waiting)) q)) [
      | true ↦ starts_sizes t q (head_of (turn_of q.shaper q.waiting) q.waiting) refl come
      | false ↦ come
    ]

pub sizes_at : (input : PortInput) (t : ℕ) → IsPortInput input → HasSizes t (port_at input t)
unfolding port_at
sizes_at input zero valid = record { line = omega arith; waiting = λ k d l. absurd (omega (arith, l)) }
sizes_at input (suc t) valid =
    let now : HasSizes t (port_in input t) = sizes_in input t (port_at input t) valid (sizes_at input t valid) in
    record { line = omega (arith, now.line); waiting = now.waiting }

-- one bit time of a stretch
begins_next : (input : PortInput) (gap most t : ℕ) → IsPortInput input → bits_of input.rate ≤ slope_a_at input t + gap → slope_a_at input t ≤ most
    → PortBegins gap most t (port_at input t) → PortBegins gap most (suc t) (port_at input (suc t))
unfolding port_at
begins_next input gap most t valid least top b =
    let p : Port = port_at input t in
    let q : Port = port_in input t in
    let come : HasSizes t (with_arrivals input t p) = with_arrivals_sizes input t p valid (sizes_at input t valid) in
    let stands : PortStands gap most t q = with_start_stands gap most t (with_arrivals input t p) come b in
    let is = shaper-port_in input t in
    let rate : q.shaper.rate ≡ input.rate = ap (λ s. s.rate) is ∙ rate_is input t in
    let less : q.free_from - t - 1 ≡ q.free_from - suc t = omega arith in
    let next : Begins gap most (q.free_from - t - 1) (does_send A q.line)
    (credit_after (bits_of input.rate) (slope_a_at input t) (does_send A q.line) (does_wait A q.waiting) q.shaper.credit_a) =
    step gap most (q.free_from - t) (bits_of input.rate) (slope_a_at input t) (does_send A q.line) (does_wait A q.waiting) q.shaper.credit_a
    least top (slope_a_below input t valid) stands in
    subst (λ (n : ℕ). Begins gap most n (does_send A q.line) (credit_after (bits_of q.shaper.rate) q.shaper.slope_a (does_send A q.line) (does_wait A q.waiting) q.shaper.credit_a)) less
    (subst (λ (r : Rate). Begins gap most (q.free_from - t - 1) (does_send A q.line)
    (credit_after (bits_of r) q.shaper.slope_a (does_send A q.line) (does_wait A q.waiting) q.shaper.credit_a)) (sym rate)
    (subst (λ (s : ℕ). Begins gap most (q.free_from - t - 1) (does_send A q.line)
    (credit_after (bits_of input.rate) s (does_send A q.line) (does_wait A q.waiting) q.shaper.credit_a)) (sym (ap (λ s. s.slope_a) is)) next))

begins_zero : (gap most rem : ℕ) (sends : Bool) (c : ℤ) → c ≡ pos 0 → Begins gap most rem sends c
begins_zero gap most rem sends c zero' = record { low = omega (arith, ints, zero'); high = omega (arith, ints, zero') }

begins_on : (input : PortInput) (least most from to n : ℕ) → IsPortInput input → IsStretch input least most from to → from + n ≤ to
    → PortBegins (bits_of input.rate - least) most (from + n) (port_at input (from + n))
begins_on input least most from to zero valid s l =
    let at : from ≡ from + 0 = omega arith in
    let p : Port = port_at input from in
    subst (λ (t : ℕ). PortBegins (bits_of input.rate - least) most t (port_at input t)) at
    (begins_zero (bits_of input.rate - least) most (p.free_from - from) (does_send A p.line) p.shaper.credit_a s.from_zero)
begins_on input least most from to (suc n) valid s l =
    let at : suc (from + n) ≡ from + suc n = omega arith in
    let slopes = s.slopes (from + n) (omega arith) (omega (arith, l)) in
    subst (λ (t : ℕ). PortBegins (bits_of input.rate - least) most t (port_at input t)) at
    (begins_next input (bits_of input.rate - least) most (from + n) valid (omega (arith, slopes.0)) slopes.1 (begins_on input least most from to n valid s (omega (arith, l))))

bounds_of : (rate gap least most rem : ℕ) (sends : Bool) (c : ℤ) → gap + least ≡ rate → Begins gap most rem sends c
    → (lo_credit rate least ≤ℤ c) × (c ≤ℤ hi_credit most)
bounds_of rate gap least most rem sends c e b =
    let wide : gap * (12336 - cond sends rem 0) ≤ gap * 12336 = mul-le-mul_left gap (omega arith) in
    let high : most * (12336 - cond sends 0 rem) ≤ most * 12336 = mul-le-mul_left most (omega arith) in
    (omega (arith, ints, b.low, wide, e), omega (arith, ints, b.high, high))

-- in a stretch class A's credit stays within its bounds
pub credit_within : (input : PortInput) (least most from to t : ℕ) → IsPortInput input → IsStretch input least most from to
    → from ≤ t → t ≤ to → IsCreditAWithin input least most t
credit_within input least most from to t valid s up l =
    let at : from + (t - from) ≡ t = omega (arith, up) in
    let first = s.slopes from (omega arith) s.some in
    let below = slope_a_below input from valid in
    let p : Port = port_at input t in
    let b : PortBegins (bits_of input.rate - least) most t p =
    subst (λ (k : ℕ). PortBegins (bits_of input.rate - least) most k (port_at input k)) at (begins_on input least most from to (t - from) valid s (omega (arith, at, l))) in
    let bounds = bounds_of (bits_of input.rate) (bits_of input.rate - least) least most (p.free_from - t) (does_send A p.line) p.shaper.credit_a (omega (arith, first.0, below)) b in
    record { low = bounds.0; high = bounds.1 }
