-- Values one after another, and Listeners that are all ignored.
use Rattle.std.proofs.Common.{◌≡◌, ℕ, zero, suc, ◌+◌, ◌-◌, ◌*◌, ◌/◌, ◌%◌, ◌<◌, ◌≤◌, List, ◌++◌, length, get_or, take, drop, inl, inr, refl, sym, ap, subst, ◌∙◌, add-one, drop-cons, arith}
use Rattle.std.specs.Prelude.{slice_index}
use Rattle.std.specs.List.{flat_map}
use Rattle.std.proofs.lemmas.Bool.{cases_lt}
use Rattle.std.proofs.Math.ListN.{drop_of_length-le}
use Rattle.srp_base.specs.declared.{mrp.MrpEvent.MrpEvent, mrp.MrpEvent.TheVariants.New, numbers.StreamId.StreamId}
use Rattle.mrpdu_codec.specs.declared.raw.RawVector.{RawVector}
use Rattle.mrpdu_codec.specs.{Octets.three_events, Octets.four_params, Raw.attr_in}
use Rattle.msrp_codec.specs.declared.first_value.FirstValue.{FirstValue}
use Rattle.msrp_codec.specs.declared.first_value.FirstValue.TheVariants.{Listener}
use Rattle.msrp_codec.specs.{event_in_place, values_from, IsSilent, event_at, events_from}
use Rattle.msrp_codec.proofs.PlaceLemmas.{four_at_place}

-- ---- one value

first_of : (first : FirstValue) (params : List ℕ) (i : ℕ) (events : List MrpEvent) → i < length events
    → events_from first params i (drop i events)
    ≡ event_at first i (get_or events i New) (slice_index params i) ++ events_from first params (i + 1) (drop (i + 1) events)
first_of first params i events h =
    ap (λ (es : List MrpEvent). events_from first params i es) (drop-cons events i New h)
    ∙ ap (λ (k : ℕ). event_at first i (get_or events i New) (slice_index params i) ++ events_from first params (i + 1) (drop k events)) (sym (add-one i))

pub value_first : (first : FirstValue) (raw : RawVector) (i : ℕ) → i < length (attr_in raw).events
    → values_from first raw i ≡ event_in_place first raw i ++ values_from first raw (i + 1)
value_first first raw i h = first_of first (attr_in raw).params i (attr_in raw).events h

-- ---- four Listeners

-- no value declares anything by an octet of zeros
four_zeros : (k : ℕ) → get_or (four_params 0) k 0 ≡ 0
four_zeros zero = refl
four_zeros (suc zero) = refl
four_zeros (suc (suc zero)) = refl
four_zeros (suc (suc (suc zero))) = refl
four_zeros (suc (suc (suc (suc k)))) = refl

-- a value in such an octet declares nothing
silent_params : (n i q : ℕ) (packed fours : List ℕ) → i < length (take n (flat_map three_events packed)) → q < length fours → get_or fours q 0 ≡ 0
    → i / 4 ≡ q → slice_index (take n (flat_map four_params fours)) i ≡ 0
silent_params n i q packed fours h within silent is =
    let lt : i / 4 < length fours = omega arith in
    let octet : get_or fours (i / 4) 0 ≡ 0 = ap (λ (k : ℕ). get_or fours k 0) is ∙ silent in
    four_at_place n i packed fours h lt ∙ ap (λ (o : ℕ). get_or (four_params o) (i % 4) 0) octet ∙ four_zeros (i % 4)

-- an ignored Listener gives no event
ignored : (stream : StreamId) (params : List ℕ) (i : ℕ) (events : List MrpEvent) → i < length events → slice_index params i ≡ 0
    → events_from (Listener stream) params i (drop i events) ≡ events_from (Listener stream) params (i + 1) (drop (i + 1) events)
ignored stream params i events h nothing =
    first_of (Listener stream) params i events h
    ∙ ap (λ (p : ℕ). event_at (Listener stream) i (get_or events i New) p ++ events_from (Listener stream) params (i + 1) (drop (i + 1) events)) nothing

-- nor does a place past the last value
past_last : (first : FirstValue) (params : List ℕ) (i : ℕ) (events : List MrpEvent) → length events ≤ i
    → events_from first params i (drop i events) ≡ events_from first params (i + 1) (drop (i + 1) events)
past_last first params i events h =
    ap (λ (es : List MrpEvent). events_from first params i es) (drop_of_length-le events h)
    ∙ ap (λ (es : List MrpEvent). events_from first params (i + 1) es) (sym (drop_of_length-le events (omega arith)))

silent_value : (stream : StreamId) (raw : RawVector) (q i : ℕ) → q < length raw.four_packed.now → get_or raw.four_packed.now q 0 ≡ 0
    → i / 4 ≡ q → values_from (Listener stream) raw i ≡ values_from (Listener stream) raw (i + 1)
silent_value stream raw q i within silent is =
    elim (cases_lt i (length (attr_in raw).events)) [
      | inl lt ↦ ignored stream (attr_in raw).params i (attr_in raw).events lt
          (silent_params ((256 * raw.high + raw.low) % 8192) i q raw.three_packed.now raw.four_packed.now lt within silent is)
      | inr ge ↦ past_last (Listener stream) (attr_in raw).params i (attr_in raw).events ge
    ]

-- so many places on in the octet
silent_values : (stream : StreamId) (raw : RawVector) (q i d : ℕ) → q < length raw.four_packed.now → get_or raw.four_packed.now q 0 ≡ 0
    → q * 4 ≤ i → i + d ≤ q * 4 + 4 → values_from (Listener stream) raw i ≡ values_from (Listener stream) raw (i + d)
silent_values stream raw q i zero within silent from to = ap (λ (k : ℕ). values_from (Listener stream) raw k) (omega arith)
silent_values stream raw q i (suc d) within silent from to =
    silent_values stream raw q i d within silent from (omega arith)
    ∙ silent_value stream raw q (i + d) within silent (omega arith)
    ∙ ap (λ (k : ℕ). values_from (Listener stream) raw k) (omega arith)

to_end : (stream : StreamId) (raw : RawVector) (i : ℕ) → i / 4 < length raw.four_packed.now → get_or raw.four_packed.now (i / 4) 0 ≡ 0
    → values_from (Listener stream) raw (i / 4 * 4 + 4) ≡ values_from (Listener stream) raw i
to_end stream raw i within silent =
    let there : i + (i / 4 * 4 + 4 - i) ≡ i / 4 * 4 + 4 = omega arith in
    sym (silent_values stream raw (i / 4) i (i / 4 * 4 + 4 - i) within silent (omega arith) (omega arith)
    ∙ ap (λ (k : ℕ). values_from (Listener stream) raw k) there)

pub silent_octet : (first : FirstValue) (raw : RawVector) (i : ℕ) → IsSilent first raw i
    → values_from first raw (i / 4 * 4 + 4) ≡ values_from first raw i
silent_octet first raw i s =
    subst (λ (x : FirstValue). values_from x raw (i / 4 * 4 + 4) ≡ values_from x raw i) (sym s.listens) (to_end s.stream raw i s.within s.zero)
