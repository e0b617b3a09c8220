-- The events of a number: their ticks, that what they name is known, and how many there are.
use Rattle.std.proofs.Common.{◌≡◌, ◌≢◌, ℕ, zero, suc, ◌+◌, ◌-◌, ◌*◌, ◌≤◌, ◌<◌, inl, inr, List, [], ◌∷◌, ◌++◌, length, get_or, map, refl, sym, ap, ◌∙◌, subst, arith, length-append}
use Rattle.std.specs.Prelude.{All, ◌==◌}
use Rattle.std.specs.{List.flat_map, List.range_with_len, List.Sorted.IsPermutation, List.Sorted.IsNonDecreasing, List.Sorted.IsSortedByKey, List.Sorted.IsStableByKey, Ordering.nat_cmp}
use Rattle.std.proofs.lemmas.{Bool.cases_Bool, Bool.eqb-true, Bool.eqb-false, List.get_or-map, List.length-map, List.Elements.All-append, List.Elements.All-map, List.Elements.All-nil, List.FromFn.length-map-range_with_len, List.FromFn.length-range_with_len, List.FromFn.get_or-range_with_len, List.Sorted.All-permutation, List.Sorted.length_permutation, List.Sorted.IsNonDecreasingBy-from_sort}
use Rattle.topology_file.specs.declared.{entries.LinkEntry.LinkEntry, entries.StreamEntry.StreamEntry, entries.EventEntry.EventEntry}
use Rattle.topology_file.specs.{Events.event_ticks, Kinds.IsKnownKind, Kinds.IsNotTalker, Kinds.AreJoinedNumbers}
use Rattle.scenario_generator.specs.{bridge_count, station_count, stream_count, link_count, station_node, link_entry, drawn_nodes, drawn_links, talker_drawn, drawn_streams, declaration, event_draw, talk, listening_station, listen, stream_events, loss_draw, lost_on, loss_link, loss, drawn_events, IsSortedByTick}
use Rattle.scenario_generator.proofs.{DrawLemmas.draw-below, DrawLemmas.bridges-between, DrawLemmas.stations-between, DrawLemmas.streams-between, NetworkLemmas.station-number, NetworkLemmas.ends-joined, PairLemmas.all-of-range, StreamLemmas.talker-below, StreamLemmas.stream-at, StreamLemmas.stream-number}

-- what the rules ask of an event
pub record IsGood (number : ℕ) (e : EventEntry) : Type 0 where
  pub tick : e.tick < 4000
  pub known : IsKnownKind (drawn_nodes number) (drawn_links number) (drawn_streams number) e.kind

declaration-good : (number n : ℕ) → n < station_count number → IsGood number (declaration number (1 + n))
declaration-good number n lt = record { tick = omega arith; known = (station-number number n lt, omega arith, omega arith) }

-- ---- of a stream

event-draw-below : (number k i m : ℕ) → 0 < m → event_draw number k i m < m
event-draw-below number k i m some = draw-below number (3 + link_count number + 3 * stream_count number + 5 * (k - 1) + i) m some

talk-good : (number i : ℕ) → i < stream_count number → IsGood number (talk number (1 + i))
talk-good number i lt = let h = event-draw-below number (1 + i) 0 500 (omega arith) in record { tick = omega (arith, h); known = stream-number number i lt }

-- a listening station is one, and not the talker
listening : (stations talker drawn : ℕ) → 2 ≤ stations → talker < stations → drawn < stations
    → (listening_station stations talker drawn < stations) × (listening_station stations talker drawn ≢ talker)
listening stations talker drawn two talks drew =
    elim (cases_Bool (drawn == talker)) [
      | inl same ↦
          let e = eqb-true drawn talker same in
          elim (cases_Bool (drawn + 1 == stations)) [
            | inl last ↦
                let f = eqb-true (drawn + 1) stations last in
                rw (same, last) (omega (arith, two), λ g. omega (arith, e, f, g, two))
            | inr more ↦
                let f = eqb-false (drawn + 1) stations more in
                rw (same, more) (omega (arith, f, drew), λ g. omega (arith, e, g))
          ]
      | inr other ↦ rw other (drew, eqb-false drawn talker other)
    ]

listen-good : (number n i : ℕ) → n < stream_count number → IsGood number (listen number (1 + n) i)
listen-good number n i lt =
    let four = (stations-between number).0 in
    let tick = event-draw-below number (1 + n) (i + 1) 500 (omega arith) in
    let drew = event-draw-below number (1 + n) i (station_count number) (omega (arith, four)) in
    let s = listening_station (station_count number) (talker_drawn number (1 + n)) (event_draw number (1 + n) i (station_count number)) in
    let h = listening (station_count number) (talker_drawn number (1 + n)) (event_draw number (1 + n) i (station_count number)) (omega (arith, four)) (talker-below number (1 + n)) drew in
    let place : 1 + n - 1 ≡ n = omega arith in
    let apart : IsNotTalker (drawn_streams number) (station_node (bridge_count number) (1 + s)) (1 + n) =
    (λ d e. h.1 (
    let at = ap (λ (x : StreamEntry). x.talker.0) (ap (λ (j : ℕ). get_or (drawn_streams number) j d) place ∙ stream-at number n d lt) in
    omega (arith, at, e))) in
    record { tick = omega (arith, tick); known = (station-number number s h.0, stream-number number n lt, apart) }

-- ---- a loss

loss-draw-below : (number n i m : ℕ) → 0 < m → loss_draw number n i m < m
loss-draw-below number n i m some = draw-below number (3 + link_count number + 8 * stream_count number + 3 * n + i) m some

loss-good : (number n : ℕ) → IsGood number (loss number n)
loss-good number n =
    let two = (bridges-between number).0 in
    let tick = loss-draw-below number n 2 25 (omega arith) in
    let link = loss-draw-below number n 0 (link_count number) (omega (arith, two)) in
    let l = loss_link number n in
    let joined = ends-joined number (loss_draw number n 0 (link_count number)) (link_entry 0 0) link in
    record { tick = omega (arith, tick); known = by l (loss_draw number n 1 2) joined.0 joined.1 }
  where
    by : (l : LinkEntry) (direction : ℕ) → AreJoinedNumbers (drawn_nodes number) (drawn_links number) l.a.0 l.b.0 → AreJoinedNumbers (drawn_nodes number) (drawn_links number) l.b.0 l.a.0
        → IsKnownKind (drawn_nodes number) (drawn_links number) (drawn_streams number) (lost_on l direction)
    by l direction to back =
        elim (cases_Bool (direction == 0)) [
          | inl is ↦ rw is (to, omega arith)
          | inr other ↦ rw other (back, omega arith)
        ]

-- ---- all of them

all-flat : {X A : Type 0} (P : A → Type 0) (f : X → List A) (xs : List X) → All (λ x. All P (f x)) xs → All P (flat_map f xs)
all-flat P f [] all = All-nil P
all-flat P f (x ∷ xs) all = All-append P (f x) (flat_map f xs) (all 0 x (omega arith)) (all-flat P f xs (λ i d lt. all (suc i) d (omega (arith, lt))))

three-good : (number n : ℕ) → n < stream_count number → All (IsGood number) (stream_events number (1 + n))
three-good number n lt zero d below = talk-good number n lt
three-good number n lt (suc zero) d below = listen-good number n 1 lt
three-good number n lt (suc (suc zero)) d below = listen-good number n 3 lt
three-good number n lt (suc (suc (suc i))) d below = absurd (omega (arith, below))

-- what is true of each number of a range
of-range : (P : ℕ → Type 0) (a n : ℕ) → ((k : ℕ) → k < n → P (a + k)) → All P (range_with_len a n)
of-range P a n each k d lt =
    let below : k < n = omega (arith, lt, length-range_with_len a n) in
    subst P (sym (get_or-range_with_len a n k d below)) (each k below)

pub events-good : (number : ℕ) → All (IsGood number) (drawn_events number)
events-good number =
    All-append (IsGood number) (map (declaration number) (range_with_len 1 (station_count number)))
    (flat_map (stream_events number) (range_with_len 1 (stream_count number)) ++ map (loss number) (range_with_len 0 20))
    (all-of-range (IsGood number) (declaration number) 1 (station_count number) (declaration-good number))
    (All-append (IsGood number) (flat_map (stream_events number) (range_with_len 1 (stream_count number))) (map (loss number) (range_with_len 0 20))
    (all-flat (IsGood number) (stream_events number) (range_with_len 1 (stream_count number))
    (of-range (λ (k : ℕ). All (IsGood number) (stream_events number k)) 1 (stream_count number) (three-good number)))
    (all-of-range (IsGood number) (loss number) 0 20 (λ n lt. loss-good number (0 + n))))

three-each : (number : ℕ) (xs : List ℕ) → length (flat_map (stream_events number) xs) ≡ 3 * length xs
three-each number [] = refl
three-each number (k ∷ xs) = omega (arith, length-append (stream_events number k) (flat_map (stream_events number) xs), three-each number xs)

events-counted : (number : ℕ) → length (drawn_events number) ≡ station_count number + (3 * stream_count number + 20)
events-counted number =
    let d = length-map-range_with_len (declaration number) 1 (station_count number) in
    let r = length-range_with_len 1 (stream_count number) in
    let t = three-each number (range_with_len 1 (stream_count number)) in
    let l = length-map-range_with_len (loss number) 0 20 in
    let later = length-append (flat_map (stream_events number) (range_with_len 1 (stream_count number))) (map (loss number) (range_with_len 0 20)) in
    let all = length-append (map (declaration number) (range_with_len 1 (station_count number)))
    (flat_map (stream_events number) (range_with_len 1 (stream_count number)) ++ map (loss number) (range_with_len 0 20)) in
    omega (arith, d, r, t, l, later, all)

-- ---- sorted

-- what a stable sort gives of the events as they were drawn
pub sorted-of : (number : ℕ) (events sorted : List EventEntry) → events ≡ drawn_events number → IsPermutation events sorted → IsSortedByKey (λ (e : EventEntry). e.tick) nat_cmp sorted
    → IsStableByKey (λ (e : EventEntry). e.tick) nat_cmp events sorted → IsSortedByTick (drawn_events number) sorted
sorted-of number events sorted is same order stable =
    subst (λ (xs : List EventEntry). IsSortedByTick xs sorted) is (record { same = same; order = order; stable = stable })

module _ (number : ℕ) (events : List EventEntry) (sorted : IsSortedByTick (drawn_events number) events) where
  good : All (IsGood number) events
  good = All-permutation (IsGood number) (drawn_events number) events sorted.same (events-good number)

  pub sorted-many : length events ≤ 10000
  sorted-many =
      let same = length_permutation (drawn_events number) events sorted.same in
      let all = events-counted number in
      let s = (stations-between number).1 in
      let k = (streams-between number).1 in
      omega (arith, same, all, s, k)

  pub sorted-within : All (λ t. t < 4000) (event_ticks events)
  sorted-within = All-map (λ (t : ℕ). t < 4000) (λ (e : EventEntry). e.tick) events (λ i d lt. (good i d lt).tick)

  pub sorted-known : All (λ e. IsKnownKind (drawn_nodes number) (drawn_links number) (drawn_streams number) e.kind) events
  sorted-known i d lt = (good i d lt).known

  pub sorted-order : IsNonDecreasing (event_ticks events)
  sorted-order i j d le below =
      let n = length-map events (λ (e : EventEntry). e.tick) in
      let e : EventEntry = declaration number 1 in
      let lt : j < length events = omega (arith, n, below) in
      let one = get_or-map (λ (e : EventEntry). e.tick) events i e d (omega (arith, le, lt)) in
      let two = get_or-map (λ (e : EventEntry). e.tick) events j e d lt in
      let rises = IsNonDecreasingBy-from_sort (λ (e : EventEntry). e.tick) events sorted.order i j e le lt in
      omega (arith, one, two, rises)
