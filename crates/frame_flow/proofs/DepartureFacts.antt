-- A copy departs from a port once where that is its fate, and else never.
use Rattle.std.proofs.Common.{◌≡◌, ◌≢◌, ℕ, inl, inr, Bool, true, false, List, [], ◌∷◌, get_or, Some, None, refl, sym, ◌∙◌, ap, subst}
use Rattle.std.specs.Prelude.{All, AllPairs, filter, find, ◌==◌}
use Rattle.std.proofs.lemmas.{Bool.cond-true, Bool.cond-false, Bool.cases_Bool, Bool.eqb-true, Bool.eq-eqb, Bool.ne_eqb, Bool.false≢true, List.Elements.All-nil, List.Elements.All-cons, List.Elements.All-head, List.Elements.All-tail, List.Elements.All-weaker, List.Elements.All-filter, List.Kept.AllPairs-cons, List.Kept.AllPairs-filter}
use Rattle.credit_shaper.specs.declared.{shaper.Traffic.Traffic, port.Arrival.Arrival, port.Departure.Departure}
use Rattle.credit_shaper.specs.{Credit.traffic_number, Port.is_of, Departures.departs_as, Departures.IsDepartureOf, Departures.DepartInOrder}
use Rattle.credit_shaper.proofs.PairLemmas.{pairs-head, pairs-tail, pairs-none}
use Rattle.frame_flow.proofs.NumberLemmas.{find-here}

-- ---- what one list passes to another, in order

-- what is so of the arrivals, by number and traffic, is so of their departures
departed-each : (P : ℕ → Traffic → Type 0) (xs : List Arrival) (ds : List Departure) (left : List Arrival) → DepartInOrder xs ds left
    → All (λ x. P x.frame x.traffic) xs → All (λ d. P d.frame d.traffic) ds
departed-each P xs [] left order all = All-nil (λ d. P d.frame d.traffic)
departed-each P [] (d ∷ ds) left order all = absurd order
departed-each P (x ∷ xs) (d ∷ ds) left order all =
    let is = order.0 in
    let Q : Arrival → Type 0 = λ y. P y.frame y.traffic in
    let here = All-head Q x xs all in
    let numbered = subst (λ (n : ℕ). P n x.traffic) (sym is.frame) here in
    All-cons (λ e. P e.frame e.traffic) d ds (subst (λ (t : Traffic). P d.frame t) (sym is.traffic) numbered)
    (departed-each P xs ds left order.1 (All-tail Q x xs all))

abbrev pub DifferArrivals : Arrival → Arrival → Type 0
DifferArrivals x y = x.frame ≢ y.frame

abbrev pub DifferDepartures : Departure → Departure → Type 0
DifferDepartures d e = d.frame ≢ e.frame

departed-pairs : (xs : List Arrival) (ds : List Departure) (left : List Arrival) → DepartInOrder xs ds left → AllPairs DifferArrivals xs → AllPairs DifferDepartures ds
departed-pairs xs [] left order h = pairs-none DifferDepartures
departed-pairs [] (d ∷ ds) left order h = absurd order
departed-pairs (x ∷ xs) (d ∷ ds) left order h =
    let is = order.0 in
    AllPairs-cons DifferDepartures d ds
    (departed-each (λ n t. d.frame ≢ n) xs ds left order.1
    (All-weaker (DifferArrivals x) (λ y. d.frame ≢ y.frame) (λ y ne e. ne (sym is.frame ∙ e)) xs (pairs-head DifferArrivals x xs h)))
    (departed-pairs xs ds left order.1 (pairs-tail DifferArrivals x xs h))

-- ---- over all traffics

rest-passes : (P : Departure → Type 0) (u : Traffic) (d : Departure) (ds : List Departure) → All P (filter (departs_as u) (d ∷ ds)) → All P (filter (departs_as u) ds)
rest-passes P u d ds all =
    let rest = filter (departs_as u) ds in
    elim (cases_Bool (departs_as u d)) [
      | inl is ↦ All-tail P d rest (subst (λ (xs : List Departure). All P xs) (cond-true (departs_as u d) (d ∷ rest) rest is) all)
      | inr nay ↦ subst (λ (xs : List Departure). All P xs) (cond-false (departs_as u d) (d ∷ rest) rest nay) all
    ]

rest-pairs : (R : Departure → Departure → Type 0) (u : Traffic) (d : Departure) (ds : List Departure) → AllPairs R (filter (departs_as u) (d ∷ ds)) → AllPairs R (filter (departs_as u) ds)
rest-pairs R u d ds pairs =
    let rest = filter (departs_as u) ds in
    elim (cases_Bool (departs_as u d)) [
      | inl is ↦ pairs-tail R d rest (subst (λ (xs : List Departure). AllPairs R xs) (cond-true (departs_as u d) (d ∷ rest) rest is) pairs)
      | inr nay ↦ subst (λ (xs : List Departure). AllPairs R xs) (cond-false (departs_as u d) (d ∷ rest) rest nay) pairs
    ]

-- what is so of each traffic's departures is so of all
all-traffics : (P : Departure → Type 0) (ds : List Departure) → ((t : Traffic) → All P (filter (departs_as t) ds)) → All P ds
all-traffics P [] each = All-nil P
all-traffics P (d ∷ ds) each =
    let t = d.traffic in
    let own : departs_as t d ≡ true = eq-eqb (traffic_number t) (traffic_number t) refl in
    let first = subst (λ (xs : List Departure). All P xs) (cond-true (departs_as t d) (d ∷ filter (departs_as t) ds) (filter (departs_as t) ds) own) (each t) in
    All-cons P d ds (All-head P d (filter (departs_as t) ds) first)
    (all-traffics P ds (λ u. rest-passes P u d ds (each u)))

head-all : (R : Departure → Departure → Type 0) (T : Departure → Type 0) (t : Traffic) (d : Departure) → ((d e : Departure) → T d → T e → d.traffic ≢ e.traffic → R d e)
    → T d → d.traffic ≡ t → (ds : List Departure) → All T ds → All (R d) (filter (departs_as t) ds) → All (R d) ds
head-all R T t d apart is of [] all same = All-nil (R d)
head-all R T t d apart is of (e ∷ es) all same =
    let rest = filter (departs_as t) es in
    let tail = All-tail T e es all in
    elim (cases_Bool (departs_as t e)) [
      | inl own ↦ (
          let both = subst (λ (xs : List Departure). All (R d) xs) (cond-true (departs_as t e) (e ∷ rest) rest own) same in
          All-cons (R d) e es (All-head (R d) e rest both) (head-all R T t d apart is of es tail (All-tail (R d) e rest both)))
      | inr other ↦ (
          let both = subst (λ (xs : List Departure). All (R d) xs) (cond-false (departs_as t e) (e ∷ rest) rest other) same in
          let ne : d.traffic ≢ e.traffic = λ f. false≢true (sym other ∙ eq-eqb (traffic_number e.traffic) (traffic_number t) (ap (λ (u : Traffic). traffic_number u) (sym f ∙ of))) in
          All-cons (R d) e es (apart d e is (All-head T e es all) ne) (head-all R T t d apart is of es tail both))
    ]

-- pairs of one traffic by that traffic's, and pairs of two by what sets these apart
all-pairs : (R : Departure → Departure → Type 0) (T : Departure → Type 0) → ((d e : Departure) → T d → T e → d.traffic ≢ e.traffic → R d e)
    → (ds : List Departure) → All T ds → ((t : Traffic) → AllPairs R (filter (departs_as t) ds)) → AllPairs R ds
all-pairs R T apart [] all each = pairs-none R
all-pairs R T apart (d ∷ ds) all each =
    let t = d.traffic in
    let own : departs_as t d ≡ true = eq-eqb (traffic_number t) (traffic_number t) refl in
    let rest = filter (departs_as t) ds in
    let same = pairs-head R d rest (subst (λ (xs : List Departure). AllPairs R xs) (cond-true (departs_as t d) (d ∷ rest) rest own) (each t)) in
    AllPairs-cons R d ds (head-all R T t d apart (All-head T d ds all) refl ds (All-tail T d ds all) same)
    (all-pairs R T apart ds (All-tail T d ds all) (λ u. rest-pairs R u d ds (each u)))

-- ---- a port's departures

-- the traffic of the arrival of a number
abbrev pub HasTraffic : List Arrival → ℕ → Traffic → Type 0
HasTraffic xs number t = (x : Arrival) × (find (λ y. y.frame == number) xs ≡ Some x) × (x.traffic ≡ t)

own-traffic : (xs : List Arrival) → AllPairs DifferArrivals xs → All (λ x. HasTraffic xs x.frame x.traffic) xs
own-traffic xs apart k d below = (
  get_or xs k d,
  find-here (λ y. y.frame == (get_or xs k d).frame) xs k d below (λ j lt. ne_eqb (get_or xs j d).frame (get_or xs k d).frame (apart j k d lt below))
      (eq-eqb (get_or xs k d).frame (get_or xs k d).frame refl),
  refl,
)

traffics-apart : (xs : List Arrival) (d e : Departure) → HasTraffic xs d.frame d.traffic → HasTraffic xs e.frame e.traffic → d.traffic ≢ e.traffic → DifferDepartures d e
traffics-apart xs d e one two ne same =
    let found : Some one.0 ≡ Some two.0 = sym one.1 ∙ ap (λ (n : ℕ). find (λ y. y.frame == n) xs) same ∙ two.1 in
    let x : one.0 ≡ two.0 = cc in
    ne (sym one.2 ∙ ap (λ (y : Arrival). y.traffic) x ∙ two.2)

-- what leaves a port is of one of the arrivals, and no two of one number, where no two arrivals are
pub sent-known : (xs : List Arrival) (ds : List Departure) (left : Traffic → List Arrival) → AllPairs DifferArrivals xs
    → ((t : Traffic) → DepartInOrder (filter (is_of t) xs) (filter (departs_as t) ds) (left t)) → All (λ d. HasTraffic xs d.frame d.traffic) ds
sent-known xs ds left apart order =
    all-traffics (λ d. HasTraffic xs d.frame d.traffic) ds
    (λ t. departed-each (HasTraffic xs) (filter (is_of t) xs) (filter (departs_as t) ds) (left t) (order t)
    (All-filter (is_of t) (λ x. HasTraffic xs x.frame x.traffic) xs (own-traffic xs apart)))

pub sent-apart : (xs : List Arrival) (ds : List Departure) (left : Traffic → List Arrival) → AllPairs DifferArrivals xs
    → ((t : Traffic) → DepartInOrder (filter (is_of t) xs) (filter (departs_as t) ds) (left t)) → AllPairs DifferDepartures ds
sent-apart xs ds left apart order =
    all-pairs DifferDepartures (λ d. HasTraffic xs d.frame d.traffic) (traffics-apart xs) ds (sent-known xs ds left apart order)
    (λ t. departed-pairs (filter (is_of t) xs) (filter (departs_as t) ds) (left t) (order t) (AllPairs-filter DifferArrivals (is_of t) xs apart))

-- a departure is that of an arrival of which this is so
abbrev pub IsOfSome : (Arrival → Type 0) → Departure → Type 0
IsOfSome P d = (x : Arrival) × P x × IsDepartureOf x d

departed-of : (P : Arrival → Type 0) (xs : List Arrival) (ds : List Departure) (left : List Arrival) → DepartInOrder xs ds left → All P xs → All (IsOfSome P) ds
departed-of P xs [] left order all = All-nil (IsOfSome P)
departed-of P [] (d ∷ ds) left order all = absurd order
departed-of P (x ∷ xs) (d ∷ ds) left order all =
    All-cons (IsOfSome P) d ds (x, All-head P x xs all, order.0) (departed-of P xs ds left order.1 (All-tail P x xs all))

-- each departure is that of an arrival
pub sent-of : (P : Arrival → Type 0) (xs : List Arrival) (ds : List Departure) (left : Traffic → List Arrival) → All P xs
    → ((t : Traffic) → DepartInOrder (filter (is_of t) xs) (filter (departs_as t) ds) (left t)) → All (IsOfSome P) ds
sent-of P xs ds left all order =
    all-traffics (IsOfSome P) ds
    (λ t. departed-of P (filter (is_of t) xs) (filter (departs_as t) ds) (left t) (order t) (All-filter (is_of t) P xs all))

-- ---- of one number

abbrev pub of_number : ℕ → Departure → Bool
of_number n d = d.frame == n

pub none-of : (n : ℕ) (ds : List Departure) → All (λ d. of_number n d ≡ false) ds → filter (of_number n) ds ≡ []
none-of n [] all = refl
none-of n (d ∷ ds) all =
    let P : Departure → Type 0 = λ e. of_number n e ≡ false in
    cond-false (of_number n d) (d ∷ filter (of_number n) ds) (filter (of_number n) ds) (All-head P d ds all) ∙ none-of n ds (All-tail P d ds all)

-- none is found where none is
pub unfound : (n : ℕ) (ds : List Departure) → find (of_number n) ds ≡ None → filter (of_number n) ds ≡ []
unfound n [] e = refl
unfound n (d ∷ ds) e =
    elim (cases_Bool (of_number n d)) [
      | inl is ↦ absurd (let some : Some d ≡ None = sym (cond-true (of_number n d) (Some d) (find (of_number n) ds) is) ∙ e in cc)
      | inr nay ↦ cond-false (of_number n d) (d ∷ filter (of_number n) ds) (filter (of_number n) ds) nay
          ∙ unfound n ds (sym (cond-false (of_number n d) (Some d) (find (of_number n) ds) nay) ∙ e)
    ]

-- the one that is found is the only one
pub found-only : (n : ℕ) (ds : List Departure) (d : Departure) → AllPairs DifferDepartures ds → find (of_number n) ds ≡ Some d → filter (of_number n) ds ≡ d ∷ []
found-only n [] d apart e = absurd (let none : None ≡ Some d = e in cc)
found-only n (x ∷ xs) d apart e =
    elim (cases_Bool (of_number n x)) [
      | inl is ↦ (
          let some : Some x ≡ Some d = sym (cond-true (of_number n x) (Some x) (find (of_number n) xs) is) ∙ e in
          let same : x ≡ d = cc in
          let others = All-weaker (DifferDepartures x) (λ y. of_number n y ≡ false)
          (λ y ne. ne_eqb y.frame n (λ f. ne (eqb-true x.frame n is ∙ sym f))) xs (pairs-head DifferDepartures x xs apart) in
          cond-true (of_number n x) (x ∷ filter (of_number n) xs) (filter (of_number n) xs) is
          ∙ ap (λ (t : List Departure). x ∷ t) (none-of n xs others) ∙ ap (λ (t : Departure). t ∷ []) same)
      | inr nay ↦ cond-false (of_number n x) (x ∷ filter (of_number n) xs) (filter (of_number n) xs) nay
          ∙ found-only n xs d (pairs-tail DifferDepartures x xs apart) (sym (cond-false (of_number n x) (Some x) (find (of_number n) xs) nay) ∙ e)
    ]
