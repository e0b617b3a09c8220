-- Where a frame stands in its queue: the frames of each traffic start in order of arrival, so what has started before a bit
-- time is what stands in front of those that wait then.
use Rattle.std.proofs.Common.{◌≡◌, ℕ, suc, ◌+◌, ◌<◌, ◌≤◌, ◌⊎◌, inl, inr, Bool, true, false, cond, List, [], ◌∷◌, ◌++◌, length, get_or, refl, sym, ◌∙◌, ap, subst, arith, append-nil, length-append}
use Rattle.std.specs.Prelude.{All, AllPairs, nat_le, nat_lt, filter, count_by, sum_by}
use Rattle.std.specs.List.{Contains}
use Rattle.std.proofs.lemmas.{Bool.cases_Bool, Bool.cases_lt, Bool.cond-true, Bool.cond-false, Bool.le-leb, Bool.lt-leb, Bool.lt-ltb, Bool.le-ltb, Bool.eq-eqb, Bool.ltb-true, List.Elements.All-head, List.Elements.All-tail, List.Elements.All-cons, List.Elements.All-filter, List.Elements.All-contains, List.Elements.All-contains_itself, List.Elements.filter-append, List.Elements.filter_passes, List.Elements.Contains-append_right, List.Sums.sum_by-cons, List.Sums.sum_by-append, List.Sums.length-filter, List.Kept.AllPairs-filter}
use Rattle.credit_shaper.specs.declared.{shaper.Traffic.Traffic, port.Arrival.Arrival, port.PortInput.PortInput, port.Departure.Departure}
use Rattle.credit_shaper.specs.{Credit.traffic_number, Port.IsPortInput, Port.IsNotAfter, Port.IsFrameSize, Port.is_of, Trace.does_wait, Trace.departure_at, Trace.port_at, Steps.is_waiting, Departures.sent_of, Departures.left_of, Departures.departs_as, Departures.IsDepartureOf, Departures.DepartInOrder, Departures.AgreeBefore, Departures.arrivals_before, Departures.started_before}
use Rattle.credit_shaper.proofs.{DepartureLemmas.filter_all, MomentLemmas.filter_nothing, MomentLemmas.not_after, PairLemmas.pairs-head, PairLemmas.pairs-tail}
use Rattle.class_service.specs.{IsIdleBefore, bits_in, bits_among, arrivals_from, HasPlace, starts_before, HasNotStarted, StartsAt, LineLaws, OrderLaws}
use Rattle.class_service.proofs.PortLemmas.{among_split, none_waits, carried}

-- ---- the input up to a bit time

-- what arrives before a bit time, with that as its end
abbrev cut : PortInput → ℕ → PortInput
cut input u = record input { arrivals = arrivals_before input.arrivals u; end = u }

cut_valid : (input : PortInput) (u : ℕ) → IsPortInput input → u ≤ input.end → IsPortInput (cut input u)
cut_valid input u valid l =
    record {
      slopes = valid.slopes;
      arrivals = record {
        ascend = AllPairs-filter IsNotAfter (λ x. nat_lt x.bit u) input.arrivals valid.arrivals.ascend;
        in_time = λ k d h. ltb-true (get_or (arrivals_before input.arrivals u) k d).bit u (filter_passes (λ x. nat_lt x.bit u) input.arrivals k d h);
        sizes = All-filter (λ x. nat_lt x.bit u) (λ x. IsFrameSize x.bits) input.arrivals valid.arrivals.sizes;
      };
      end = omega (arith, l, valid.end);
    }

cut_agrees : (laws : OrderLaws) (input : PortInput) (u : ℕ) → AgreeBefore u input (cut input u)
cut_agrees laws input u =
    record {
      rate = refl;
      slopes = λ k l. refl;
      arrivals = λ k l. laws.agree input.arrivals (arrivals_before input.arrivals u) u k
          (sym (filter_all (λ x. nat_lt x.bit u) (arrivals_before input.arrivals u) (filter_passes (λ x. nat_lt x.bit u) input.arrivals))) l;
    }

-- what starts before a bit time is all that leaves the input up to it
cut_sent : (laws : OrderLaws) (input : PortInput) (u : ℕ) → u ≤ input.end → started_before u (sent_of input) ≡ sent_of (cut input u)
cut_sent laws input u l =
    laws.departures input (cut input u) u (cut_agrees laws input u) l (omega arith)
    ∙ filter_all (λ d. nat_lt d.start u) (sent_of (cut input u)) (λ k d h. lt-ltb (get_or (sent_of (cut input u)) k d).start u (laws.in_time (cut input u) k d h))

-- and what waits as it begins is what that leaves
cut_left : (laws : OrderLaws) (input : PortInput) (u : ℕ) → left_of (cut input u) ≡ (port_at input u).waiting
cut_left laws input u = ap (λ p. p.waiting) (sym (laws.port input (cut input u) u (cut_agrees laws input u)))

-- ---- what has departed is what stands in front

-- the frames that departed, of some that depart in order
record HasGone (xs : List Arrival) (ds : List Departure) (left : List Arrival) : Type 0 where
  gone : List Arrival
  is : xs ≡ gone ++ left
  long : length gone ≡ length ds

has_gone : (xs : List Arrival) (ds : List Departure) (left : List Arrival) → DepartInOrder xs ds left → HasGone xs ds left
has_gone xs [] left h = record { gone = []; is = h; long = refl }
has_gone [] (d ∷ ds) left h = absurd h
has_gone (x ∷ xs) (d ∷ ds) left h =
    let rest : HasGone xs ds left = has_gone xs ds left h.1 in
    record { gone = x ∷ rest.gone; is = ap (λ ys. x ∷ ys) rest.is; long = omega (arith, rest.long) }

-- what of a traffic has departed before a bit time, and what waits
gone_at : (laws : OrderLaws) (input : PortInput) (traffic : Traffic) (u : ℕ) → IsPortInput input → u ≤ input.end
    → HasGone (filter (is_of traffic) (arrivals_before input.arrivals u)) (filter (departs_as traffic) (started_before u (sent_of input)))
    (filter (is_of traffic) (port_at input u).waiting)
gone_at laws input traffic u valid l =
    let order = laws.order (cut input u) traffic (cut_valid input u valid l) in
    has_gone (filter (is_of traffic) (arrivals_before input.arrivals u)) (filter (departs_as traffic) (started_before u (sent_of input)))
    (filter (is_of traffic) (port_at input u).waiting)
    (subst (λ (ds : List Departure). DepartInOrder (filter (is_of traffic) (arrivals_before input.arrivals u)) (filter (departs_as traffic) ds) (filter (is_of traffic) (port_at input u).waiting))
    (sym (cut_sent laws input u l))
    (subst (λ (w : List Arrival). DepartInOrder (filter (is_of traffic) (arrivals_before input.arrivals u)) (filter (departs_as traffic) (sent_of (cut input u))) (filter (is_of traffic) w))
    (cut_left laws input u) order))

-- ---- lists with a place

-- a front that isn't longer than another of the same list has no more bits
front_sum : (f : Arrival → ℕ) (gone rest front behind : List Arrival) → gone ++ rest ≡ front ++ behind → length gone ≤ length front
    → sum_by f gone ≤ sum_by f front
front_sum f [] rest front behind e l = omega arith
front_sum f (x ∷ gone) rest [] behind e l = absurd (omega (arith, l))
front_sum f (x ∷ gone) rest (y ∷ front) behind e l =
    let same : x ≡ y = cc in
    let tail : gone ++ rest ≡ front ++ behind = cc in
    let more = front_sum f gone rest front behind tail (omega (arith, l)) in
    let one = sum_by-cons f x gone in
    let two = sum_by-cons f y front in
    let here : f x ≡ f y = ap f same in
    omega (arith, more, one, two, here)

-- how those in front of a place stand to what is there, and that to those behind it
front_pairs : {X : Type 0} (R : X → X → Type 0) (front : List X) (x : X) (behind : List X) → AllPairs R (front ++ x ∷ behind) → All (λ y. R y x) front
front_pairs R [] x behind pairs = λ k d l. absurd (omega (arith, l))
front_pairs {X} R (y ∷ ys) x behind pairs =
    let T : X → Type 0 = λ z. R z x in
    let there : Contains (ys ++ x ∷ behind) x = Contains-append_right ys (x ∷ behind) x (0, omega arith, refl) in
    All-cons T y ys (All-contains (R y) (ys ++ x ∷ behind) x (pairs-head R y (ys ++ x ∷ behind) pairs) there)
    (front_pairs R ys x behind (pairs-tail R y (ys ++ x ∷ behind) pairs))

behind_pairs : {X : Type 0} (R : X → X → Type 0) (front : List X) (x : X) (behind : List X) → AllPairs R (front ++ x ∷ behind) → All (R x) behind
behind_pairs R [] x behind pairs = pairs-head R x behind pairs
behind_pairs R (y ∷ ys) x behind pairs = behind_pairs R ys x behind (pairs-tail R y (ys ++ x ∷ behind) pairs)

-- the bit times of arrivals ascend at a place
record Ascends (front behind : List Arrival) (x : Arrival) : Type 0 where
  ahead : All (λ y. y.bit ≤ x.bit) front
  later : All (λ y. x.bit ≤ y.bit) (x ∷ behind)

ascends : (input : PortInput) (front behind : List Arrival) (x : Arrival) → IsPortInput input → HasPlace input front x behind → Ascends front behind x
ascends input front behind x valid place =
    let pairs : AllPairs IsNotAfter (front ++ x ∷ behind) = subst (AllPairs IsNotAfter) place valid.arrivals.ascend in
    let L : Arrival → Type 0 = λ y. x.bit ≤ y.bit in
    record {
      ahead = λ k d l. not_after (get_or front k d) x (front_pairs IsNotAfter front x behind pairs k d l);
      later = All-cons L x behind (omega arith) (λ k d l. not_after x (get_or behind k d) (behind_pairs IsNotAfter front x behind pairs k d l));
    }

-- ---- which of them have arrived before a bit time

before_place : (input : PortInput) (front behind : List Arrival) (x : Arrival) (u : ℕ) → HasPlace input front x behind
    → arrivals_before input.arrivals u ≡ arrivals_before front u ++ arrivals_before (x ∷ behind) u
before_place input front behind x u place = ap (λ xs. arrivals_before xs u) place ∙ filter-append (λ y. nat_lt y.bit u) front (x ∷ behind)

-- up to the frame's arrival none behind it, and after it all in front of it
none_behind : (front behind : List Arrival) (x : Arrival) (u : ℕ) → Ascends front behind x → u ≤ x.bit → arrivals_before (x ∷ behind) u ≡ []
none_behind front behind x u up l =
    filter_nothing (λ y. nat_lt y.bit u) (x ∷ behind) (λ k d h. le-ltb (get_or (x ∷ behind) k d).bit u (omega (arith, l, up.later k d h)))

all_front : (front behind : List Arrival) (x : Arrival) (u : ℕ) → Ascends front behind x → x.bit < u → arrivals_before front u ≡ front
all_front front behind x u up l =
    filter_all (λ y. nat_lt y.bit u) front (λ k d h. lt-ltb (get_or front k d).bit u (omega (arith, l, up.ahead k d h)))

-- some frames are those that arrive before a bit time and those from it on
among_parts : (traffic : Traffic) (xs : List Arrival) (s : ℕ) → bits_among traffic xs ≡ bits_among traffic (arrivals_before xs s) + bits_among traffic (arrivals_from xs s)
among_parts traffic xs s =
    ap (bits_among traffic) (sym (filter_all (λ _. true) xs (λ k d l. refl)))
    ∙ among_split traffic (λ _. true) (λ x. nat_lt x.bit s) (λ x. nat_le s x.bit)
    (λ x. elim (cases_lt x.bit s) [
      | inl l ↦ inl (sym (lt-ltb x.bit s l), lt-leb s x.bit l)
      | inr l ↦ inr (sym (le-leb s x.bit l), le-ltb x.bit s l)
    ]) xs

-- ---- counts

count_if : {X : Type 0} (p : X → Bool) (b : Bool) (x : X) (xs : List X) → count_by p (cond b (x ∷ xs) xs) ≡ cond b (cond (p x) 1 0) 0 + count_by p xs
count_if p true x xs = sum_by-cons (λ y. cond (p y) 1 0) x xs
count_if p false x xs = omega arith

if_more : (b c : Bool) (n : ℕ) → (b ≡ true → c ≡ true) → cond b n 0 ≤ cond c n 0
if_more true c n h = rw (h refl) (omega arith)
if_more false c n h = omega arith

-- a wider test lets more through
count_more : {X : Type 0} (p q r : X → Bool) → ((x : X) → q x ≡ true → r x ≡ true) → (xs : List X) → count_by p (filter q xs) ≤ count_by p (filter r xs)
count_more p q r wide [] = omega arith
count_more p q r wide (x ∷ xs) =
    let rest = count_more p q r wide xs in
    let one = count_if p (q x) x (filter q xs) in
    let two = count_if p (r x) x (filter r xs) in
    let here = if_more (q x) (r x) (cond (p x) 1 0) (wide x) in
    omega (arith, rest, one, two, here)

started_more : (input : PortInput) (x : Arrival) (t u : ℕ) → t ≤ u → starts_before input x t ≤ starts_before input x u
started_more input x t u l =
    count_more (departs_as x.traffic) (λ d. nat_lt d.start t) (λ d. nat_lt d.start u)
    (λ d e. lt-ltb d.start u (omega (arith, l, ltb-true d.start t e))) (sent_of input)

own : (x : Arrival) → is_of x.traffic x ≡ true
own x = eq-eqb (traffic_number x.traffic) (traffic_number x.traffic) refl

-- ---- a frame that hasn't started waits, and those in front of it have the line

-- what has started of the frame's traffic before a bit time, as frames
gone_few : (laws : OrderLaws) (input : PortInput) (front : List Arrival) (x : Arrival) (u : ℕ) (valid : IsPortInput input) (l : u ≤ input.end)
    → HasNotStarted input front x u → length (gone_at laws input x.traffic u valid l).gone ≤ length (filter (is_of x.traffic) front)
gone_few laws input front x u valid l few =
    let long = (gone_at laws input x.traffic u valid l).long in
    let departed = length-filter (departs_as x.traffic) (started_before u (sent_of input)) in
    let stand = length-filter (is_of x.traffic) front in
    omega (arith, long, departed, stand, few)

-- the port's queues as a bit time ends are those of the next
next_waits : (input : PortInput) (traffic : Traffic) (t : ℕ) → is_waiting input traffic t ≡ does_wait traffic (port_at input (suc t)).waiting
unfolding port_at
next_waits input traffic t = refl

some_wait : (traffic : Traffic) (w : List Arrival) → 0 < length (filter (is_of traffic) w) → does_wait traffic w ≡ true
some_wait traffic w some =
    elim (cases_Bool (does_wait traffic w)) [
      | inl waits ↦ waits
      | inr none ↦ let empty : length (filter (is_of traffic) w) ≡ 0 = ap length (none_waits traffic w none) in absurd (omega (arith, some, empty))
    ]

pub waits_until : (laws : OrderLaws) (input : PortInput) (front behind : List Arrival) (x : Arrival) (u t : ℕ) → IsPortInput input → HasPlace input front x behind
    → u ≤ input.end → HasNotStarted input front x u → x.bit ≤ t → t < u → is_waiting input x.traffic t ≡ true
waits_until laws input front behind x u t valid place l few low high =
    let traffic : Traffic = x.traffic in
    let up : Ascends front behind x = ascends input front behind x valid place in
    let in_time : suc t ≤ input.end = omega (arith, l, high) in
    let still : HasNotStarted input front x (suc t) = let more = started_more input x (suc t) u high in omega (arith, more, few) in
    let g = gone_at laws input traffic (suc t) valid in_time in
    let short = gone_few laws input front x (suc t) valid in_time still in
    let here : nat_lt x.bit (suc t) ≡ true = lt-ltb x.bit (suc t) (omega (arith, low)) in
    let come : arrivals_before input.arrivals (suc t) ≡ front ++ x ∷ arrivals_before behind (suc t) =
    before_place input front behind x (suc t) place
    ∙ (ap (λ xs. xs ++ arrivals_before (x ∷ behind) (suc t)) (all_front front behind x (suc t) up (omega (arith, low)))
    ∙ ap (λ xs. front ++ xs) (cond-true (nat_lt x.bit (suc t)) _ _ here)) in
    let list : filter (is_of traffic) (arrivals_before input.arrivals (suc t)) ≡ filter (is_of traffic) front ++ x ∷ filter (is_of traffic) (arrivals_before behind (suc t)) =
    ap (filter (is_of traffic)) come
    ∙ (filter-append (is_of traffic) front (x ∷ arrivals_before behind (suc t)) ∙ ap (λ xs. filter (is_of traffic) front ++ xs) (cond-true (is_of traffic x) _ _ (own x))) in
    let all : length (filter (is_of traffic) front ++ x ∷ filter (is_of traffic) (arrivals_before behind (suc t))) ≡ length (g.gone ++ filter (is_of traffic) (port_at input (suc t)).waiting) =
    ap length (sym list ∙ g.is) in
    let one = length-append (filter (is_of traffic) front) (x ∷ filter (is_of traffic) (arrivals_before behind (suc t))) in
    let two = length-append g.gone (filter (is_of traffic) (port_at input (suc t)).waiting) in
    next_waits input traffic t ∙ some_wait traffic (port_at input (suc t)).waiting (omega (arith, short, all, one, two))

-- those that have gone are of those in front
gone_bits : (input : PortInput) (front behind gone waiting : List Arrival) (x : Arrival) (u : ℕ) → HasPlace input front x behind → Ascends front behind x
    → filter (is_of x.traffic) (arrivals_before input.arrivals u) ≡ gone ++ waiting → length gone ≤ length (filter (is_of x.traffic) front)
    → sum_by (λ y. y.bits) gone ≤ bits_among x.traffic front
gone_bits input front behind gone waiting x u place up e short =
    let traffic : Traffic = x.traffic in
    let list : filter (is_of traffic) (arrivals_before input.arrivals u) ≡ filter (is_of traffic) (arrivals_before front u) ++ filter (is_of traffic) (arrivals_before (x ∷ behind) u) =
    ap (filter (is_of traffic)) (before_place input front behind x u place) ∙ filter-append (is_of traffic) (arrivals_before front u) (arrivals_before (x ∷ behind) u) in
    elim (cases_lt x.bit u) [
      | inl l ↦
          let whole = ap (λ xs. filter (is_of traffic) xs ++ filter (is_of traffic) (arrivals_before (x ∷ behind) u)) (all_front front behind x u up l) in
          front_sum (λ y. y.bits) gone waiting (filter (is_of traffic) front) (filter (is_of traffic) (arrivals_before (x ∷ behind) u)) (sym e ∙ (list ∙ whole)) short
      | inr l ↦
          let none : bits_among traffic (arrivals_before (x ∷ behind) u) ≡ 0 = ap (bits_among traffic) (none_behind front behind x u up l) in
          let all : sum_by (λ (y : Arrival). y.bits) (gone ++ waiting) ≡ sum_by (λ (y : Arrival). y.bits)
          (filter (is_of traffic) (arrivals_before front u) ++ filter (is_of traffic) (arrivals_before (x ∷ behind) u)) =
          ap (sum_by (λ (y : Arrival). y.bits)) (sym e ∙ list) in
          let one = sum_by-append (λ (y : Arrival). y.bits) gone waiting in
          let two = sum_by-append (λ (y : Arrival). y.bits) (filter (is_of traffic) (arrivals_before front u)) (filter (is_of traffic) (arrivals_before (x ∷ behind) u)) in
          let parts = among_parts traffic front u in
          omega (arith, none, all, one, two, parts)
    ]

pub bits_in_front : (line : LineLaws) (laws : OrderLaws) (input : PortInput) (front behind : List Arrival) (x : Arrival) (s u : ℕ) → IsPortInput input → HasPlace input front x behind
    → IsIdleBefore input x.traffic s → s ≤ x.bit → x.bit ≤ u → u ≤ input.end → HasNotStarted input front x u
    → bits_in input x.traffic s u ≤ bits_among x.traffic (arrivals_from front s)
bits_in_front line laws input front behind x s u valid place idle low high l few =
    let traffic : Traffic = x.traffic in
    let up : Ascends front behind x = ascends input front behind x valid place in
    let g = gone_at laws input traffic u valid l in
    let carry = carried line input traffic s u valid idle (omega (arith, low, high)) in
    let gone = gone_bits input front behind g.gone (filter (is_of traffic) (port_at input u).waiting) x u place up g.is (gone_few laws input front x u valid l few) in
    let sums : bits_among traffic (arrivals_before input.arrivals u) ≡ sum_by (λ (y : Arrival). y.bits) g.gone + bits_among traffic (port_at input u).waiting =
    ap (sum_by (λ (y : Arrival). y.bits)) g.is ∙ sum_by-append (λ (y : Arrival). y.bits) g.gone (filter (is_of traffic) (port_at input u).waiting) in
    let early : bits_among traffic (arrivals_before input.arrivals s) ≡ bits_among traffic (arrivals_before front s) =
    ap (bits_among traffic) (before_place input front behind x s place ∙ ap (λ xs. arrivals_before front s ++ xs) (none_behind front behind x s up low) ∙ append-nil (arrivals_before front s)) in
    let parts = among_parts traffic front s in
    omega (arith, carry, gone, sums, early, parts)

-- ---- each frame starts or is left

record HasDeparted (front : List Arrival) (x : Arrival) (ds : List Departure) : Type 0 where
  before : List Departure
  one : Departure
  after : List Departure
  is : ds ≡ before ++ one ∷ after
  long : length before ≡ length front
  own : IsDepartureOf x one

departed : (front : List Arrival) (x : Arrival) (behind : List Arrival) (ds : List Departure) (left : List Arrival) → DepartInOrder (front ++ x ∷ behind) ds left
    → HasDeparted front x ds ⊎ (length ds ≤ length front)
departed front x behind [] left h = inr (omega arith)
departed [] x behind (d ∷ ds) left h = inl (record { before = []; one = d; after = ds; is = refl; long = refl; own = h.0 })
departed (y ∷ front) x behind (d ∷ ds) left h =
    elim (departed front x behind ds left h.1) [
      | inl e ↦ inl (record { before = d ∷ e.before; one = e.one; after = e.after; is = ap (λ es. d ∷ es) e.is; long = omega (arith, e.long); own = e.own })
      | inr l ↦ inr (omega (arith, l))
    ]

same_departure : (x : Arrival) (frame : ℕ) (traffic : Traffic) (start end : ℕ) → frame ≡ x.frame → traffic ≡ x.traffic → end ≡ start + x.bits
    → departure_at start x ≡ record { frame = frame; traffic = traffic; start = start; end = end }
same_departure x frame traffic start end e f g = rw (e, f, g) refl

filter_swap : {X : Type 0} (p q : X → Bool) (xs : List X) → filter p (filter q xs) ≡ filter q (filter p xs)
filter_swap p q [] = refl
filter_swap p q (x ∷ xs) =
    let rest = filter_swap p q xs in
    elim (cases_Bool (p x)) [
      | inl yes_p ↦ elim (cases_Bool (q x)) [ inl yes_q ↦ rw (yes_p, yes_q, yes_p) (ap (λ ys. x ∷ ys) rest) | inr no_q ↦ rw (yes_p, no_q) rest ]
      | inr no_p ↦ elim (cases_Bool (q x)) [ inl yes_q ↦ rw (no_p, yes_q, no_p) rest | inr no_q ↦ rw (no_p, no_q) rest ]
    ]

All-front : {X : Type 0} (P : X → Type 0) (xs ys : List X) → All P (xs ++ ys) → All P xs
All-front P [] ys all = λ k d l. absurd (omega (arith, l))
All-front P (x ∷ xs) ys all = All-cons P x xs (All-head P x (xs ++ ys) all) (All-front P xs ys (All-tail P x (xs ++ ys) all))

-- the one that starts has all before it started, and none after it
started_here : (before after : List Departure) (d : Departure) → AllPairs (λ d e. d.end ≤ e.start) (before ++ d ∷ after) → All (λ d. d.start < d.end) (before ++ d ∷ after)
    → started_before d.start (before ++ d ∷ after) ≡ before
started_here before after d apart sized =
    let R : Departure → Departure → Type 0 = λ d e. d.end ≤ e.start in
    let S : Departure → Type 0 = λ e. e.start < e.end in
    let p : Departure → Bool = λ e. nat_lt e.start d.start in
    let left : All S before = All-front S before (d ∷ after) sized in
    let here : S d = All-contains S (before ++ d ∷ after) d sized (Contains-append_right before (d ∷ after) d (0, omega arith, refl)) in
    let front = front_pairs R before d after apart in
    let behind = behind_pairs R before d after apart in
    let early : started_before d.start before ≡ before = filter_all p before (λ k e l. lt-ltb (get_or before k e).start d.start (omega (arith, front k e l, left k e l))) in
    let late : started_before d.start after ≡ [] = filter_nothing p after (λ k e l. le-ltb (get_or after k e).start d.start (omega (arith, behind k e l, here))) in
    let self : nat_lt d.start d.start ≡ false = le-ltb d.start d.start (omega arith) in
    filter-append p before (d ∷ after) ∙ (ap (λ ds. ds ++ filter p (d ∷ after)) early ∙ (ap (λ ds. before ++ ds) (cond-false (p d) _ _ self ∙ late) ∙ append-nil before))

-- the frame that departs as the one at a place does so in its turn
starts_at : (laws : OrderLaws) (input : PortInput) (front behind : List Arrival) (x : Arrival) → IsPortInput input
    → (e : HasDeparted (filter (is_of x.traffic) front) x (filter (departs_as x.traffic) (sent_of input))) → StartsAt input front x e.one.start
starts_at laws input front behind x valid e =
    let p : Departure → Bool = departs_as x.traffic in
    let sent : List Departure = sent_of input in
    let d : Departure = e.one in
    let q : Departure → Bool = λ other. nat_lt other.start d.start in
    let apart = subst (AllPairs (λ d e. d.end ≤ e.start)) e.is (AllPairs-filter (λ d e. d.end ≤ e.start) p sent (laws.apart input valid)) in
    let sized = subst (All (λ d. d.start < d.end)) e.is (All-filter p (λ d. d.start < d.end) sent (laws.sized input valid)) in
    let before : filter p (filter q sent) ≡ e.before = filter_swap p q sent ∙ (ap (filter q) e.is ∙ started_here e.before e.after d apart sized) in
    let count : starts_before input x d.start ≡ length e.before = sym (length-filter p (filter q sent)) ∙ ap length before in
    let among : Contains (filter p sent) d = subst (λ (ds : List Departure). Contains ds d) (sym e.is) (Contains-append_right e.before (d ∷ e.after) d (0, omega arith, refl)) in
    let there : Contains sent d = All-contains (Contains sent) (filter p sent) d (All-filter p (Contains sent) sent (All-contains_itself sent)) among in
    let same : departure_at d.start x ≡ d = same_departure x d.frame d.traffic d.start d.end e.own.frame e.own.traffic e.own.end in
    record {
      departs = subst (Contains sent) (sym same) there;
      arrived = e.own.after;
      turn = count ∙ (e.long ∙ length-filter (is_of x.traffic) front);
    }

pub starts_or_left : (laws : OrderLaws) (input : PortInput) (front behind : List Arrival) (x : Arrival) → IsPortInput input → HasPlace input front x behind
    → ((t : ℕ) × (t < input.end) × StartsAt input front x t) ⊎ HasNotStarted input front x input.end
starts_or_left laws input front behind x valid place =
    let traffic : Traffic = x.traffic in
    let list : filter (is_of traffic) input.arrivals ≡ filter (is_of traffic) front ++ x ∷ filter (is_of traffic) behind =
    ap (filter (is_of traffic)) place
    ∙ (filter-append (is_of traffic) front (x ∷ behind) ∙ ap (λ xs. filter (is_of traffic) front ++ xs) (cond-true (is_of traffic x) _ _ (own x))) in
    let sent : List Departure = filter (departs_as traffic) (sent_of input) in
    let left : List Arrival = filter (is_of traffic) (left_of input) in
    let order : DepartInOrder (filter (is_of traffic) front ++ x ∷ filter (is_of traffic) behind) sent left =
    subst (λ (xs : List Arrival). DepartInOrder xs sent left) list (laws.order input traffic valid) in
    elim (departed (filter (is_of traffic) front) x (filter (is_of traffic) behind) sent left order) [
      | inl e ↦
          let in_time : All (λ d. d.start < input.end) sent = All-filter (departs_as traffic) (λ d. d.start < input.end) (sent_of input) (laws.in_time input) in
          let there : Contains sent e.one = subst (λ (ds : List Departure). Contains ds e.one) (sym e.is) (Contains-append_right e.before (e.one ∷ e.after) e.one (0, omega arith, refl)) in
          inl (e.one.start, All-contains (λ d. d.start < input.end) sent e.one in_time there, starts_at laws input front behind x valid e)
      | inr few ↦
          let all : started_before input.end (sent_of input) ≡ sent_of input =
          filter_all (λ d. nat_lt d.start input.end) (sent_of input) (λ k d l. lt-ltb (get_or (sent_of input) k d).start input.end (laws.in_time input k d l)) in
          let count : starts_before input x input.end ≡ length sent = ap (count_by (departs_as traffic)) all ∙ sym (length-filter (departs_as traffic) (sent_of input)) in
          let stand = length-filter (is_of traffic) front in
          inr (omega (arith, count, few, stand))
    ]
