-- Why what leaves a port is what arrived, in order, one frame after the other.
use Rattle.std.proofs.Common.{◌≡◌, ℕ, zero, suc, ◌+◌, ◌-◌, ◌<◌, ◌≤◌, Bool, true, false, cond, List, [], ◌∷◌, ◌++◌, get_or, Option, Some, None, refl, sym, ◌∙◌, ap, subst, arith, inl, inr, append-nil, append_assoc}
use Rattle.std.specs.Prelude.{All, AllPairs, nat_le, nat_lt, ◌==◌, filter, ◌&&◌, ◌||◌}
use Rattle.std.specs.List.{list_any}
use Rattle.std.proofs.lemmas.{Bool.cases_Bool, Bool.cases_lt, Bool.cases_eq, Bool.cases_order, Bool.cond-true, Bool.cond-false, Bool.le-leb, Bool.lt-leb, Bool.lt-ltb, Bool.le-ltb, Bool.eqb-true, Bool.ne_eqb, Bool.eq-eqb, Bool.and_left, Bool.and_right, List.Folds.list_any-append, List.Elements.All-head, List.Elements.All-tail, List.Elements.All-append, List.Elements.All-push, List.Elements.filter-append, List.Elements.filter_passes, List.Kept.AllPairs-cons, List.Kept.AllPairs-filter, List.Quantifiers.all_pairs_push}
use Rattle.srp_base.proofs.Bools.{or_no as or-false}
use Rattle.credit_shaper.specs.{Traffic, Free, Sends, SlopeChange, Arrival, PortInput, Departure, traffic_number, does_send, IsPortInput, IsNotAfter, IsFrameSize, is_of, slopes_at, arrivals_at, head_of, turn_of, without_head, departure_at, starts, sends_frame, with_start, with_arrivals, with_credits, port_at, port_in, is_on_line, sent_of, left_of, departs_as, IsDepartureOf, DepartInOrder, is_sending, AgreeBefore, arrivals_before, started_before}
use Rattle.credit_shaper.specs.Trace.{Port}
use Rattle.credit_shaper.proofs.{PairLemmas.pairs-head, PairLemmas.pairs-tail, PairLemmas.pairs-append, MomentLemmas.not_after, MomentLemmas.filter_nothing, QueueLemmas.same_traffic, BoundLemmas.head_traffic, BoundLemmas.head_within, BoundLemmas.All-without_head, BoundLemmas.with_arrivals_sizes, BoundLemmas.sizes_at}

-- ---- nothing depends on what comes later

pub same_before : (one other : PortInput) (t : ℕ) → AgreeBefore t one other → port_at one t ≡ port_at other t
unfolding port_at
same_before one other zero agree = rw agree.rate refl
same_before one other (suc t) agree =
    let earlier : AgreeBefore t one other =
    record { rate = agree.rate; slopes = λ k l. agree.slopes k (omega (arith, l)); arrivals = λ k l. agree.arrivals k (omega (arith, l)) } in
    let before : port_at one t ≡ port_at other t = same_before one other t earlier in
    let next : SlopeChange → List Arrival → Port → Port =
    λ slopes come p. with_credits (with_start t (record p {
      waiting = p.waiting ++ come;
      shaper = record p.shaper { slope_a = slopes.slope_a; slope_b = slopes.slope_b };
    })) in
    ap (next (slopes_at one t) (arrivals_at one.arrivals t)) before
    ∙ (ap (λ slopes. next slopes (arrivals_at one.arrivals t) (port_at other t)) (agree.slopes t (omega arith))
    ∙ ap (λ come. next (slopes_at other t) come (port_at other t)) (agree.arrivals t (omega arith)))

-- ---- what a start may be

with_start_cases : (P : Port → Type 0) (t : ℕ) (q : Port) → (t < q.free_from → P q) → (q.free_from ≤ t → P (record q { line = Free }))
    → ((x : Arrival) → q.free_from ≤ t → head_of x.traffic q.waiting ≡ Some x → P (sends_frame t q x)) → P (with_start t q)
with_start_cases P t q busy rest begin =
    let turn : Traffic = turn_of q.shaper q.waiting in
    elim (cases_lt t q.free_from) [
      | inl l ↦ subst P (sym (cond-false (nat_le q.free_from t) (starts t q (head_of turn q.waiting)) q (lt-leb q.free_from t l))) (busy l)
      | inr free ↦ subst P (sym (cond-true (nat_le q.free_from t) (starts t q (head_of turn q.waiting)) q (le-leb q.free_from t free)))
          (started (head_of turn q.waiting) refl free)
    ]
  where
    started : (o : Option Arrival) → head_of (turn_of q.shaper q.waiting) q.waiting ≡ o → q.free_from ≤ t → P (starts t q o)
    started None e free = rest free
    started (Some x) e free =
        begin x free (ap (λ traffic. head_of traffic q.waiting) (head_traffic (turn_of q.shaper q.waiting) q.waiting x e) ∙ e)

-- ---- the frames that wait, without one

pairs-without_head : (R : Arrival → Arrival → Type 0) (traffic : Traffic) (w : List Arrival) → AllPairs R w → AllPairs R (without_head traffic w)
pairs-without_head R traffic [] pairs = pairs
pairs-without_head R traffic (x ∷ xs) pairs =
    let rest : AllPairs R xs = pairs-tail R x xs pairs in
    elim (is_of traffic x) as (λ b. AllPairs R (cond b xs (x ∷ without_head traffic xs))) [
      | true ↦ rest
      | false ↦ AllPairs-cons R x (without_head traffic xs) (All-without_head (R x) traffic xs (pairs-head R x xs pairs)) (pairs-without_head R traffic xs rest)
    ]

-- ---- departures follow one another

pub record AreApart (t : ℕ) (p : Port) : Type 0 where
  pub apart : AllPairs (λ d e. d.end ≤ e.start) p.sent
  pub ended : All (λ d. d.end ≤ p.free_from) p.sent
  pub started : All (λ d. d.start < t) p.sent
  pub sized : All (λ d. (d.start + 336 ≤ d.end) × (d.end ≤ d.start + 12336)) p.sent

apart_in : (t : ℕ) (q : Port) → All (λ x. IsFrameSize x.bits) q.waiting → AreApart t q → AreApart (suc t) (with_start t q)
apart_in t q sizes a =
    let before : All (λ d. d.start < suc t) q.sent = λ k d l. omega (arith, a.started k d l) in
    with_start_cases (AreApart (suc t)) t q
    (λ _. record { apart = a.apart; ended = a.ended; started = before; sized = a.sized })
    (λ _. record { apart = a.apart; ended = a.ended; started = before; sized = a.sized })
    (λ x free e.
    let size : IsFrameSize x.bits = head_within (λ y. IsFrameSize y.bits) x.traffic q.waiting x sizes e in
    record {
      apart = all_pairs_push (λ d e. d.end ≤ e.start) q.sent (departure_at t x) a.apart (λ k d l. omega (arith, a.ended k d l, free));
      ended = All-push (λ d. d.end ≤ t + x.bits) q.sent (departure_at t x) (λ k d l. omega (arith, a.ended k d l, free)) (omega arith);
      started = All-push (λ d. d.start < suc t) q.sent (departure_at t x) before (omega arith);
      sized = All-push (λ d. (d.start + 336 ≤ d.end) × (d.end ≤ d.start + 12336)) q.sent (departure_at t x) a.sized
          (omega (arith, size.0), omega (arith, size.1));
    })

pub apart_at : (input : PortInput) (t : ℕ) → IsPortInput input → AreApart t (port_at input t)
unfolding port_at
apart_at input zero valid =
    record {
      apart = λ i j d l h. absurd (omega (arith, h));
      ended = λ k d l. absurd (omega (arith, l));
      started = λ k d l. absurd (omega (arith, l));
      sized = λ k d l. absurd (omega (arith, l));
    }
apart_at input (suc t) valid =
    let before : AreApart t (port_at input t) = apart_at input t valid in
    let sizes = (with_arrivals_sizes input t (port_at input t) valid (sizes_at input t valid)).waiting in
    let now : AreApart (suc t) (port_in input t) =
    apart_in t (with_arrivals input t (port_at input t)) sizes
    (record { apart = before.apart; ended = before.ended; started = before.started; sized = before.sized }) in
    record { apart = now.apart; ended = now.ended; started = now.started; sized = now.sized }

-- a departure starts before the bit time up to which a port has sent it
started_in : (t : ℕ) (q : Port) → All (λ d. d.start < t) q.sent → All (λ d. d.start < suc t) (with_start t q).sent
started_in t q all =
    let before : All (λ d. d.start < suc t) q.sent = λ k d l. omega (arith, all k d l) in
    with_start_cases (λ p. All (λ d. d.start < suc t) p.sent) t q (λ _. before) (λ _. before)
    (λ x _ _. All-push (λ d. d.start < suc t) q.sent (departure_at t x) before (omega arith))

pub started_at : (input : PortInput) (t : ℕ) → All (λ d. d.start < t) (port_at input t).sent
unfolding port_at
started_at input zero = λ k d l. absurd (omega (arith, l))
started_at input (suc t) = started_in t (with_arrivals input t (port_at input t)) (started_at input t)

-- ---- more departs, and nothing is taken back

pub record Goes (t : ℕ) (early late : List Departure) : Type 0 where
  pub more : List Departure
  pub is : late ≡ early ++ more
  pub later : All (λ d. t ≤ d.start) more

goes_none : (t : ℕ) (ds : List Departure) → Goes t ds ds
goes_none t ds = record { more = []; is = sym (append-nil ds); later = λ k d l. absurd (omega (arith, l)) }

goes_on : (s t : ℕ) (one two three : List Departure) → s ≤ t → Goes s one two → Goes t two three → Goes s one three
goes_on s t one two three up first second =
    record {
      more = first.more ++ second.more;
      is = second.is ∙ (ap (λ ds. ds ++ second.more) first.is ∙ append_assoc one first.more second.more);
      later = All-append (λ d. s ≤ d.start) first.more second.more first.later (λ k d l. omega (arith, second.later k d l, up));
    }

goes_in : (t : ℕ) (q : Port) → Goes t q.sent (with_start t q).sent
goes_in t q =
    with_start_cases (λ p. Goes t q.sent p.sent) t q (λ _. goes_none t q.sent) (λ _. goes_none t q.sent)
    (λ x _ _. record { more = departure_at t x ∷ []; is = refl; later = All-push (λ d. t ≤ d.start) [] (departure_at t x) (λ k d l. absurd (omega (arith, l))) (omega arith) })

goes_next : (input : PortInput) (t : ℕ) → Goes t (port_at input t).sent (port_at input (suc t)).sent
unfolding port_at
goes_next input t = goes_in t (with_arrivals input t (port_at input t))

pub goes_to : (input : PortInput) (t n : ℕ) → Goes t (port_at input t).sent (port_at input (t + n)).sent
goes_to input t zero = subst (λ (k : ℕ). Goes t (port_at input t).sent (port_at input k).sent) (omega arith) (goes_none t (port_at input t).sent)
goes_to input t (suc n) =
    subst (λ (k : ℕ). Goes t (port_at input t).sent (port_at input k).sent) (omega arith)
    (goes_on t (t + n) (port_at input t).sent (port_at input (t + n)).sent (port_at input (suc (t + n))).sent (omega arith) (goes_to input t n) (goes_next input (t + n)))

pub goes_by : (input : PortInput) (t u : ℕ) → t ≤ u → Goes t (port_at input t).sent (port_at input u).sent
goes_by input t u l =
    subst (λ (k : ℕ). Goes t (port_at input t).sent (port_at input k).sent) (omega (arith, l)) (goes_to input t (u - t))

pub filter_all : {X : Type 0} (p : X → Bool) (xs : List X) → All (λ x. p x ≡ true) xs → filter p xs ≡ xs
filter_all p [] all = refl
filter_all p (x ∷ xs) all = grind (arith, filter_all p xs (All-tail (λ y. p y ≡ true) x xs all), All-head, All-tail)

-- what started before a bit time is what the port had sent as it began
pub started_is : (input : PortInput) (t : ℕ) → t ≤ input.end → started_before t (sent_of input) ≡ (port_at input t).sent
started_is input t l =
    let goes : Goes t (port_at input t).sent (sent_of input) = goes_by input t input.end l in
    let early : filter (λ d. nat_lt d.start t) (port_at input t).sent ≡ (port_at input t).sent =
    filter_all (λ d. nat_lt d.start t) (port_at input t).sent (λ k d h. lt-ltb (get_or (port_at input t).sent k d).start t (started_at input t k d h)) in
    let late : filter (λ d. nat_lt d.start t) goes.more ≡ [] =
    filter_nothing (λ d. nat_lt d.start t) goes.more (λ k d h. le-ltb (get_or goes.more k d).start t (goes.later k d h)) in
    ap (started_before t) goes.is
    ∙ (filter-append (λ d. nat_lt d.start t) (port_at input t).sent goes.more
    ∙ (ap (λ ds. ds ++ filter (λ d. nat_lt d.start t) goes.more) early ∙ (ap (λ ds. (port_at input t).sent ++ ds) late ∙ append-nil (port_at input t).sent)))

pub same_departures : (one other : PortInput) (t : ℕ) → AgreeBefore t one other → t ≤ one.end → t ≤ other.end
    → started_before t (sent_of one) ≡ started_before t (sent_of other)
same_departures one other t agree l h =
    started_is one t l ∙ (ap (λ p. p.sent) (same_before one other t agree) ∙ sym (started_is other t h))

-- ---- the line carries the departures

-- from a bit time on, a departure of a traffic has the line exactly where the line says so
abbrev IsCarried : ℕ → Port → Type 0
IsCarried t p = (traffic : Traffic) (u : ℕ) → t ≤ u → list_any (is_sending traffic u) p.sent ≡ (does_send traffic p.line && nat_lt u p.free_from)

any-push : {X : Type 0} (p : X → Bool) (xs : List X) (y : X) → list_any p (xs ++ y ∷ []) ≡ (list_any p xs || p y)
any-push p xs y = list_any-append p xs (y ∷ []) ∙ ap (λ b. list_any p xs || b) (or-false (p y))

-- what had the line before has it no more
gone : (t u : ℕ) (q : Port) (traffic : Traffic) → IsCarried t q → q.free_from ≤ t → t ≤ u → list_any (is_sending traffic u) q.sent ≡ false
gone t u q traffic carried free up = grind (arith, and_right, le-ltb)

carried_in : (t : ℕ) (q : Port) → IsCarried t q → IsCarried t (with_start t q)
carried_in t q carried =
    with_start_cases (IsCarried t) t q
    (λ _. carried)
    (λ free traffic u up. gone t u q traffic carried free up)
    (λ x free _ traffic u up.
    any-push (is_sending traffic u) q.sent (departure_at t x)
    ∙ (ap (λ b. b || is_sending traffic u (departure_at t x)) (gone t u q traffic carried free up)
    ∙ ap (λ b. departs_as traffic (departure_at t x) && (b && nat_lt u (t + x.bits))) (le-leb t u up)))

carried_at : (input : PortInput) (t : ℕ) → IsCarried t (port_at input t)
unfolding port_at
carried_at input zero traffic u up = refl
carried_at input (suc t) traffic u up =
    carried_in t (with_arrivals input t (port_at input t)) (carried_at input t) traffic u (omega (arith, up))

and-true : (a b : Bool) → b ≡ true → (a && b) ≡ a
and-true a b h1 = grind arith

-- a line that isn't free is so for this bit time
busy_line : (traffic : Traffic) (t : ℕ) (q : Port) → All (λ x. IsFrameSize x.bits) q.waiting
    → (does_send traffic (with_start t q).line && nat_lt t (with_start t q).free_from) ≡ does_send traffic (with_start t q).line
busy_line traffic t q sizes =
    with_start_cases (λ p. (does_send traffic p.line && nat_lt t p.free_from) ≡ does_send traffic p.line) t q
    (λ l. and-true (does_send traffic q.line) (nat_lt t q.free_from) (lt-ltb t q.free_from l))
    (λ _. refl)
    (λ x _ e. let size : IsFrameSize x.bits = head_within (λ y. IsFrameSize y.bits) x.traffic q.waiting x sizes e in
    and-true (does_send traffic (Sends x.traffic)) (nat_lt t (t + x.bits)) (lt-ltb t (t + x.bits) (omega (arith, size.0))))

later_not : (traffic : Traffic) (t : ℕ) (ds : List Departure) → All (λ d. suc t ≤ d.start) ds → list_any (is_sending traffic t) ds ≡ false
later_not traffic t [] all = refl
later_not traffic t (d ∷ ds) all = grind (arith, later_not traffic t ds (All-tail (λ e. suc t ≤ e.start) d ds all), All-head, and_right, and_left, lt-leb, All-tail)

pub line_is : (input : PortInput) (traffic : Traffic) (t : ℕ) → IsPortInput input → t < input.end
    → is_on_line input traffic t ≡ list_any (is_sending traffic t) (sent_of input)
unfolding port_at
line_is input traffic t valid l =
    let q : Port = with_arrivals input t (port_at input t) in
    let sizes = (with_arrivals_sizes input t (port_at input t) valid (sizes_at input t valid)).waiting in
    let now : list_any (is_sending traffic t) (port_at input (suc t)).sent ≡ is_on_line input traffic t =
    carried_in t q (carried_at input t) traffic t (omega arith) ∙ busy_line traffic t q sizes in
    let goes : Goes (suc t) (port_at input (suc t)).sent (sent_of input) = goes_by input (suc t) input.end (omega (arith, l)) in
    let all : list_any (is_sending traffic t) (sent_of input) ≡ (list_any (is_sending traffic t) (port_at input (suc t)).sent || list_any (is_sending traffic t) goes.more) =
    ap (list_any (is_sending traffic t)) goes.is ∙ list_any-append (is_sending traffic t) (port_at input (suc t)).sent goes.more in
    sym (all ∙ (ap (λ b. list_any (is_sending traffic t) (port_at input (suc t)).sent || b) (later_not traffic t goes.more goes.later)
    ∙ (or-false (list_any (is_sending traffic t) (port_at input (suc t)).sent) ∙ now)))

-- ---- frames depart in order of arrival

arrivals_next : (xs : List Arrival) (t : ℕ) → AllPairs IsNotAfter xs → arrivals_before xs (suc t) ≡ arrivals_before xs t ++ arrivals_at xs t
arrivals_next [] t order = refl
arrivals_next (x ∷ xs) t order =
    let rest : arrivals_before xs (suc t) ≡ arrivals_before xs t ++ arrivals_at xs t = arrivals_next xs t (pairs-tail IsNotAfter x xs order) in
    elim (cases_order x.bit t) [
      | inl same ↦
          let none : arrivals_before xs t ≡ [] =
          filter_nothing (λ y. nat_lt y.bit t) xs (λ k d l. le-ltb (get_or xs k d).bit t
          (let up : x.bit ≤ (get_or xs k d).bit = not_after x (get_or xs k d) (pairs-head IsNotAfter x xs order k d l) in omega (arith, same, up))) in
          let a : nat_lt x.bit (suc t) ≡ true = lt-ltb x.bit (suc t) (omega (arith, same)) in
          let b : nat_lt x.bit t ≡ false = le-ltb x.bit t (omega (arith, same)) in
          let e : (x.bit == t) ≡ true = eq-eqb x.bit t same in
          rw a (rw (b, e) (ap (λ ys. x ∷ ys) (rest ∙ ap (λ ys. ys ++ arrivals_at xs t) none) ∙ sym (ap (λ ys. ys ++ x ∷ arrivals_at xs t) none)))
      | inr c ↦ elim c [
        | inl early ↦
            let a : nat_lt x.bit (suc t) ≡ true = lt-ltb x.bit (suc t) (omega (arith, early)) in
            let b : nat_lt x.bit t ≡ true = lt-ltb x.bit t early in
            let e : (x.bit == t) ≡ false = ne_eqb x.bit t (λ f. omega (arith, early, f)) in
            rw a (rw (b, e) (ap (λ ys. x ∷ ys) rest))
        | inr late ↦
            let a : nat_lt x.bit (suc t) ≡ false = le-ltb x.bit (suc t) (omega (arith, late)) in
            let b : nat_lt x.bit t ≡ false = le-ltb x.bit t (omega (arith, late)) in
            let e : (x.bit == t) ≡ false = ne_eqb x.bit t (λ f. omega (arith, late, f)) in
            rw a (rw (b, e) rest)
      ]
    ]

depart_more : (xs ys : List Arrival) (ds : List Departure) (left : List Arrival) → DepartInOrder xs ds left
    → DepartInOrder (xs ++ ys) ds (left ++ ys)
depart_more xs ys [] left h = ap (λ zs. zs ++ ys) h
depart_more [] ys (d ∷ ds) left h = absurd h
depart_more (x ∷ xs) ys (d ∷ ds) left h = (h.0, depart_more xs ys ds left h.1)

depart_next : (xs : List Arrival) (ds : List Departure) (x : Arrival) (rest : List Arrival) (d : Departure)
    → DepartInOrder xs ds (x ∷ rest) → IsDepartureOf x d → DepartInOrder xs (ds ++ d ∷ []) rest
depart_next xs [] x rest d h own = subst (λ (zs : List Arrival). DepartInOrder zs (d ∷ []) rest) (sym h) (own, refl)
depart_next [] (e ∷ ds) x rest d h own = absurd h
depart_next (y ∷ ys) (e ∷ ds) x rest d h own = (h.0, depart_next ys ds x rest d h.1 own)

filter-head : (traffic : Traffic) (w : List Arrival) (x : Arrival) → head_of traffic w ≡ Some x
    → filter (is_of traffic) w ≡ x ∷ filter (is_of traffic) (without_head traffic w)
filter-head traffic [] x e = cc
filter-head traffic (y ∷ ys) x e =
    elim (cases_Bool (is_of traffic y)) [
      | inl own ↦
          let found : Some y ≡ Some x = sym (cond-true (is_of traffic y) (Some y) (head_of traffic ys) own) ∙ e in
          let same : y ≡ x = cc in
          rw own (ap (λ z. z ∷ filter (is_of traffic) ys) same)
      | inr out ↦
          let rest : filter (is_of traffic) ys ≡ x ∷ filter (is_of traffic) (without_head traffic ys) =
          filter-head traffic ys x (sym (cond-false (is_of traffic y) (Some y) (head_of traffic ys) out) ∙ e) in
          rw out (rw out rest)
    ]

filter-without_other : (traffic lost : Traffic) (w : List Arrival) → (traffic_number lost ≡ traffic_number traffic → ⊥)
    → filter (is_of traffic) (without_head lost w) ≡ filter (is_of traffic) w
filter-without_other traffic lost [] ne = refl
filter-without_other traffic lost (x ∷ xs) ne = grind (arith, filter-without_other traffic lost xs ne, cases_Bool, ne_eqb, eqb-true)

-- of these frames, those of each traffic departed in order, and the rest of them wait in order
record IsInOrder (come : List Arrival) (t : ℕ) (p : Port) : Type 0 where
  each : (traffic : Traffic) → DepartInOrder (filter (is_of traffic) come) (filter (departs_as traffic) p.sent) (filter (is_of traffic) p.waiting)
  order : AllPairs IsNotAfter p.waiting
  early : All (λ x. x.bit < t) p.waiting

order_with_arrivals : (input : PortInput) (t : ℕ) (p : Port) → IsPortInput input → IsInOrder (arrivals_before input.arrivals t) t p
    → IsInOrder (arrivals_before input.arrivals (suc t)) (suc t) (with_arrivals input t p)
order_with_arrivals input t p valid o =
    let come : List Arrival = arrivals_before input.arrivals t in
    let new : List Arrival = arrivals_at input.arrivals t in
    let now : All (λ x. (x.bit == t) ≡ true) new = filter_passes (λ x. x.bit == t) input.arrivals in
    let next : arrivals_before input.arrivals (suc t) ≡ come ++ new = arrivals_next input.arrivals t valid.arrivals.ascend in
    record {
      each = λ traffic.
          subst (λ (xs : List Arrival). DepartInOrder xs (filter (departs_as traffic) p.sent) (filter (is_of traffic) (p.waiting ++ new)))
          (sym (ap (filter (is_of traffic)) next ∙ filter-append (is_of traffic) come new))
          (subst (λ (xs : List Arrival). DepartInOrder (filter (is_of traffic) come ++ filter (is_of traffic) new) (filter (departs_as traffic) p.sent) xs)
          (sym (filter-append (is_of traffic) p.waiting new))
          (depart_more (filter (is_of traffic) come) (filter (is_of traffic) new) (filter (departs_as traffic) p.sent) (filter (is_of traffic) p.waiting) (o.each traffic)));
      order = pairs-append IsNotAfter p.waiting new o.order (AllPairs-filter IsNotAfter (λ x. x.bit == t) input.arrivals valid.arrivals.ascend)
          (λ k d l j e h. inl (omega (arith, o.early k d l, eqb-true (get_or new j e).bit t (now j e h))));
      early = All-append (λ x. x.bit < suc t) p.waiting new (λ k d l. omega (arith, o.early k d l))
          (λ k d l. omega (arith, eqb-true (get_or new k d).bit t (now k d l)));
    }

own_departs : (come : List Arrival) (t : ℕ) (q : Port) (x : Arrival) → IsInOrder come (suc t) q → head_of x.traffic q.waiting ≡ Some x
    → DepartInOrder (filter (is_of x.traffic) come) (filter (departs_as x.traffic) (q.sent ++ departure_at t x ∷ [])) (filter (is_of x.traffic) (without_head x.traffic q.waiting))
own_departs come t q x o e =
    let own : departs_as x.traffic (departure_at t x) ≡ true = eq-eqb (traffic_number x.traffic) (traffic_number x.traffic) refl in
    let sent : filter (departs_as x.traffic) (q.sent ++ departure_at t x ∷ []) ≡ filter (departs_as x.traffic) q.sent ++ departure_at t x ∷ [] =
    filter-append (departs_as x.traffic) q.sent (departure_at t x ∷ []) ∙ ap (λ ds. filter (departs_as x.traffic) q.sent ++ ds) (cond-true (departs_as x.traffic (departure_at t x)) _ _ own) in
    let before : x.bit < suc t = head_within (λ y. y.bit < suc t) x.traffic q.waiting x o.early e in
    subst (λ (ds : List Departure). DepartInOrder (filter (is_of x.traffic) come) ds (filter (is_of x.traffic) (without_head x.traffic q.waiting))) (sym sent)
    (depart_next (filter (is_of x.traffic) come) (filter (departs_as x.traffic) q.sent) x (filter (is_of x.traffic) (without_head x.traffic q.waiting)) (departure_at t x)
    (subst (λ (xs : List Arrival). DepartInOrder (filter (is_of x.traffic) come) (filter (departs_as x.traffic) q.sent) xs) (filter-head x.traffic q.waiting x e) (o.each x.traffic))
    (record { frame = refl; traffic = refl; after = omega (arith, before); end = refl }))

other_departs : (come : List Arrival) (t : ℕ) (q : Port) (x : Arrival) (traffic : Traffic) → IsInOrder come (suc t) q
    → (traffic_number x.traffic ≡ traffic_number traffic → ⊥)
    → DepartInOrder (filter (is_of traffic) come) (filter (departs_as traffic) (q.sent ++ departure_at t x ∷ [])) (filter (is_of traffic) (without_head x.traffic q.waiting))
other_departs come t q x traffic o ne =
    let out : departs_as traffic (departure_at t x) ≡ false = ne_eqb (traffic_number x.traffic) (traffic_number traffic) ne in
    let sent : filter (departs_as traffic) (q.sent ++ departure_at t x ∷ []) ≡ filter (departs_as traffic) q.sent =
    filter-append (departs_as traffic) q.sent (departure_at t x ∷ [])
    ∙ (ap (λ ds. filter (departs_as traffic) q.sent ++ ds) (cond-false (departs_as traffic (departure_at t x)) _ _ out) ∙ append-nil (filter (departs_as traffic) q.sent)) in
    subst (λ (ds : List Departure). DepartInOrder (filter (is_of traffic) come) ds (filter (is_of traffic) (without_head x.traffic q.waiting))) (sym sent)
    (subst (λ (xs : List Arrival). DepartInOrder (filter (is_of traffic) come) (filter (departs_as traffic) q.sent) xs) (sym (filter-without_other traffic x.traffic q.waiting ne)) (o.each traffic))

order_with_start : (come : List Arrival) (t : ℕ) (q : Port) → IsInOrder come (suc t) q → IsInOrder come (suc t) (with_start t q)
order_with_start come t q o =
    with_start_cases (IsInOrder come (suc t)) t q (λ _. o) (λ _. record { each = o.each; order = o.order; early = o.early })
    (λ x free e. record {
      each = λ traffic. elim (cases_eq (traffic_number x.traffic) (traffic_number traffic)) [
        | inl f ↦
            subst (λ (kind : Traffic). DepartInOrder (filter (is_of kind) come) (filter (departs_as kind) (q.sent ++ departure_at t x ∷ [])) (filter (is_of kind) (without_head x.traffic q.waiting)))
            (same_traffic x.traffic traffic f) (own_departs come t q x o e)
        | inr ne ↦ other_departs come t q x traffic o ne
      ];
      order = pairs-without_head IsNotAfter x.traffic q.waiting o.order;
      early = All-without_head (λ y. y.bit < suc t) x.traffic q.waiting o.early;
    })

arrivals_none_before : (xs : List Arrival) → arrivals_before xs 0 ≡ []
arrivals_none_before xs = filter_nothing (λ x. nat_lt x.bit 0) xs (λ k d l. le-ltb (get_or xs k d).bit 0 (omega arith))

order_at : (input : PortInput) (t : ℕ) → IsPortInput input → IsInOrder (arrivals_before input.arrivals t) t (port_at input t)
unfolding port_at
order_at input zero valid =
    record {
      each = λ traffic. ap (filter (is_of traffic)) (arrivals_none_before input.arrivals);
      order = λ i j d l h. absurd (omega (arith, h));
      early = λ k d l. absurd (omega (arith, l));
    }
order_at input (suc t) valid =
    let o : IsInOrder (arrivals_before input.arrivals (suc t)) (suc t) (port_in input t) =
    order_with_start (arrivals_before input.arrivals (suc t)) t (with_arrivals input t (port_at input t)) (order_with_arrivals input t (port_at input t) valid (order_at input t valid)) in
    record { each = o.each; order = o.order; early = o.early }

pub in_order : (input : PortInput) (traffic : Traffic) → IsPortInput input
    → DepartInOrder (filter (is_of traffic) input.arrivals) (filter (departs_as traffic) (sent_of input)) (filter (is_of traffic) (left_of input))
in_order input traffic valid =
    let all : arrivals_before input.arrivals input.end ≡ input.arrivals =
    filter_all (λ x. nat_lt x.bit input.end) input.arrivals (λ k d l. lt-ltb (get_or input.arrivals k d).bit input.end (valid.arrivals.in_time k d l)) in
    subst (λ (xs : List Arrival). DepartInOrder (filter (is_of traffic) xs) (filter (departs_as traffic) (sent_of input)) (filter (is_of traffic) (left_of input))) all
    ((order_at input input.end valid).each traffic)

pub left_order : (input : PortInput) → IsPortInput input → AllPairs IsNotAfter (left_of input)
left_order input valid = (order_at input input.end valid).order

-- what arrives in a bit time is told by what arrives before a later one
arrivals_in : (xs : List Arrival) (t k : ℕ) → k < t → arrivals_at (arrivals_before xs t) k ≡ arrivals_at xs k
arrivals_in [] t k l = refl
arrivals_in (x ∷ xs) t k l = grind (arith, arrivals_in xs t k l, cases_lt, lt-ltb, le-ltb, ne_eqb)

pub arrivals_agree : (xs ys : List Arrival) (t k : ℕ) → arrivals_before xs t ≡ arrivals_before ys t → k < t
    → arrivals_at xs k ≡ arrivals_at ys k
arrivals_agree xs ys t k same l = sym (arrivals_in xs t k l) ∙ (ap (λ zs. arrivals_at zs k) same ∙ arrivals_in ys t k l)
