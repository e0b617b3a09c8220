-- The streams of a number: what stands at each place, and their values.
use Rattle.std.proofs.Common.{◌≡◌, ◌≢◌, ℕ, ◌+◌, ◌-◌, ◌*◌, ◌<◌, [], ◌∷◌, length, get_or, refl, ap, arith}
use Rattle.std.specs.Prelude.{All, AllPairs}
use Rattle.std.proofs.lemmas.List.FromFn.{length-map-range_with_len, get_or-map-range_with_len}
use Rattle.topology_file.specs.declared.entries.StreamEntry.{StreamEntry}
use Rattle.topology_file.specs.{Kinds.IsStationNumber, Kinds.IsStreamNumber, Scenario.HasStreamForm}
use Rattle.scenario_generator.specs.{station_count, stream_count, link_count, numbered_name, drawn_nodes, talker_drawn, stream_entry, drawn_streams}
use Rattle.scenario_generator.proofs.{DrawLemmas.draw-below, DrawLemmas.stations-between, DrawLemmas.streams-between, NetworkLemmas.station-number, PairLemmas.all-of-range, PairLemmas.pairs-differ, PairLemmas.numbered-is-name, PairLemmas.same-number}

pub streams-counted : (number : ℕ) → length (drawn_streams number) ≡ stream_count number
streams-counted number = length-map-range_with_len (stream_entry number) 1 (stream_count number)

pub stream-at : (number i : ℕ) (d : StreamEntry) → i < stream_count number → get_or (drawn_streams number) i d ≡ stream_entry number (1 + i)
stream-at number i d lt = get_or-map-range_with_len (stream_entry number) 1 (stream_count number) i (1 + i) d lt refl

pub talker-below : (number k : ℕ) → talker_drawn number k < station_count number
talker-below number k = let four = (stations-between number).0 in draw-below number (3 + link_count number + 3 * (k - 1) + 0) (station_count number) (omega (arith, four))

pub streams-formed : (number : ℕ) → All HasStreamForm (drawn_streams number)
streams-formed number = all-of-range HasStreamForm (stream_entry number) 1 (stream_count number) (λ i lt.
    let few = (streams-between number).1 in
    let octets = draw-below number (3 + link_count number + 3 * (1 + i - 1) + 1) 600 (omega arith) in
    record {
      name = numbered-is-name 107 (1 + i) refl (omega (arith, few, lt));
      id = omega (arith, few, lt);
      dest = omega (arith, few, lt);
      octets = omega (arith, octets);
      frames = omega arith;
      vid = (omega arith, omega arith);
      priority = omega arith;
    })

pub stream-names-differ : (number : ℕ) → AllPairs (λ x y. x.name ≢ y.name) (drawn_streams number)
stream-names-differ number =
    let few = (streams-between number).1 in
    let all = streams-counted number in
    pairs-differ (λ (x : StreamEntry). x.name) (λ (i : ℕ). numbered_name (107 ∷ []) (1 + i)) (drawn_streams number)
    (λ i d lt. ap (λ (x : StreamEntry). x.name) (stream-at number i d (omega (arith, all, lt))))
    (λ i j lt below e.
    let same = same-number 107 (1 + i) (1 + j) (omega (arith, lt, below, all, few)) (omega (arith, below, all, few)) e in
    omega (arith, same, lt))

pub stream-ids-differ : (number : ℕ) → AllPairs (λ x y. x.id.0 ≢ y.id.0) (drawn_streams number)
stream-ids-differ number =
    let all = streams-counted number in
    pairs-differ (λ (x : StreamEntry). x.id.0) (λ (i : ℕ). 144115188075855872 + (1 + i)) (drawn_streams number)
    (λ i d lt. ap (λ (x : StreamEntry). x.id.0) (stream-at number i d (omega (arith, all, lt))))
    (λ i j lt below e. omega (arith, lt, e))

pub talkers-known : (number : ℕ) → All (λ s. IsStationNumber (drawn_nodes number) s.talker.0) (drawn_streams number)
talkers-known number =
    all-of-range (λ (s : StreamEntry). IsStationNumber (drawn_nodes number) s.talker.0) (stream_entry number) 1 (stream_count number)
    (λ i lt. station-number number (talker_drawn number (1 + i)) (talker-below number (1 + i)))

-- a stream's number, from 1
pub stream-number : (number i : ℕ) → i < stream_count number → IsStreamNumber (drawn_streams number) (1 + i)
stream-number number i lt = let all = streams-counted number in (omega arith, omega (arith, all, lt))
