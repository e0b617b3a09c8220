-- The events of consecutive VIDs, one packed octet after another.
use Rattle.std.proofs.Common.{◌≡◌, ℕ, zero, suc, ◌+◌, ◌-◌, ◌/◌, ◌%◌, ◌<◌, ◌≤◌, min, false, leb, List, [], ◌∷◌, ◌++◌, length, get_or, take, drop, map, refl, sym, ap, ◌∙◌, append_assoc, arith}
use Rattle.std.specs.List.{flat_map}
use Rattle.std.proofs.lemmas.{Bool.lt-leb, Bool.and_right, List.append-nil, List.drop_all, List.drop_more, List.Folds.flat_map-map}
use Rattle.srp_base.specs.declared.mrp.MrpEvent.{MrpEvent}
use Rattle.mrpdu_codec.specs.declared.raw.RawMessage.{RawMessage}
use Rattle.mrpdu_codec.specs.{Octets.event_numbered, Octets.three_events, Raw.attr_in, Raw.message_in}
use Rattle.mvrp_codec.specs.{event_at, events_from, events_in_place, vector_events, message_events}

-- ---- the events of packed octets

-- past 4,094 there are none
none_past : (vid : ℕ) (events : List MrpEvent) → 4094 < vid → events_from vid events ≡ []
none_past vid [] h = refl
none_past vid (event ∷ events) h =
    rw (lt-leb vid 4094 h, and_right (leb 1 vid) false refl) (none_past (vid + 1) events (omega arith))

-- three events, and what follows them
after_three : (vid : ℕ) (a b c : MrpEvent) (rest : List MrpEvent) → events_from vid (a ∷ b ∷ c ∷ rest) ≡ events_from vid (a ∷ b ∷ c ∷ []) ++ events_from (vid + 3) rest
after_three vid a b c rest =
    let three : vid + 1 + 1 + 1 ≡ vid + 3 = omega arith in
    ap (λ (n : ℕ). event_at a vid ++ (event_at b (vid + 1) ++ (event_at c (vid + 1 + 1) ++ events_from n rest))) three ∙ simp (append_assoc, append-nil) refl

take_nil : (n : ℕ) → take {A = MrpEvent} n [] ≡ []
take_nil zero = refl
take_nil (suc n) = refl

-- at most n events of an octet, and what follows it
octet_more : (vid n : ℕ) (a b c : MrpEvent) (rest : List MrpEvent)
    → events_from vid (take n (a ∷ b ∷ c ∷ rest)) ≡ events_from vid (take n (a ∷ b ∷ c ∷ [])) ++ events_from (vid + 3) (take (n - 3) rest)
octet_more vid zero a b c rest = refl
octet_more vid (suc zero) a b c rest = sym (append-nil (events_from vid (a ∷ [])))
octet_more vid (suc (suc zero)) a b c rest = sym (append-nil (events_from vid (a ∷ b ∷ [])))
octet_more vid (suc (suc (suc n))) a b c rest =
    let less : n ≡ suc (suc (suc n)) - 3 = omega arith in
    after_three vid a b c (take n rest)
    ∙ ap (λ (k : ℕ). events_from vid (a ∷ b ∷ c ∷ []) ++ events_from (vid + 3) (take k rest)) less
    ∙ ap (λ (none : List MrpEvent). events_from vid (a ∷ b ∷ c ∷ none) ++ events_from (vid + 3) (take (suc (suc (suc n)) - 3) rest)) (sym (take_nil n))

-- one event more of a list
pub event_more : (events : List MrpEvent) (vid i : ℕ) (d : MrpEvent) (done more total : List (MrpEvent × ℕ)) → i < length events
    → done ++ events_from vid (drop i events) ≡ total → more ≡ done ++ event_at (get_or events i d) vid → more ++ events_from (vid + 1) (drop (i + 1) events) ≡ total
event_more events vid i d done more total lt so_far e =
    let later = events_from (vid + 1) (drop (i + 1) events) in
    ap (λ (es : List (MrpEvent × ℕ)). es ++ later) e
    ∙ append_assoc done (event_at (get_or events i d) vid) later
    ∙ ap (λ (es : List MrpEvent). done ++ events_from vid es) (sym (drop_more events i d lt))
    ∙ so_far

take_three : (n m : ℕ) (a b c : MrpEvent) → m ≡ min n 3 → take m (a ∷ b ∷ c ∷ []) ≡ take n (a ∷ b ∷ c ∷ [])
take_three zero m a b c e = ap (λ (k : ℕ). take k (a ∷ b ∷ c ∷ [])) (let k : m ≡ 0 = omega arith in k)
take_three (suc zero) m a b c e = ap (λ (k : ℕ). take k (a ∷ b ∷ c ∷ [])) (let k : m ≡ 1 = omega arith in k)
take_three (suc (suc zero)) m a b c e = ap (λ (k : ℕ). take k (a ∷ b ∷ c ∷ [])) (let k : m ≡ 2 = omega arith in k)
take_three (suc (suc (suc n))) m a b c e =
    ap (λ (k : ℕ). take k (a ∷ b ∷ c ∷ [])) (let k : m ≡ 3 = omega arith in k)
    ∙ ap (λ (none : List MrpEvent). a ∷ b ∷ c ∷ none) (sym (take_nil n))

-- no event is left of the first n of an octet
pub octet_ends : (octet n m : ℕ) (events : List MrpEvent) (first vid i : ℕ) (old done : List (MrpEvent × ℕ)) → events ≡ three_events octet → m ≡ min n 3 → length (take m events) ≤ i
    → done ++ events_from vid (drop i (take m events)) ≡ old ++ events_from first (take m events) → done ≡ old ++ events_from first (take n (three_events octet))
octet_ends octet n m events first vid i old done is few le so_far =
    sym (append-nil done)
    ∙ ap (λ (es : List MrpEvent). done ++ events_from vid es) (sym (drop_all i (take m events) le))
    ∙ so_far
    ∙ ap (λ (es : List MrpEvent). old ++ events_from first es) (ap (take m) is ∙ take_three n m (event_numbered (octet / 36)) (event_numbered (octet / 6 % 6)) (event_numbered (octet % 6)) few)

pub events_go_on : (done more total : List (MrpEvent × ℕ)) (vid n i : ℕ) (packed : List ℕ) → i < length packed
    → done ++ events_from vid (take n (flat_map three_events (drop i packed))) ≡ total → more ≡ done ++ events_from vid (take n (three_events (get_or packed i 0)))
    → more ++ events_from (vid + 3) (take (n - 3) (flat_map three_events (drop (i + 1) packed))) ≡ total
events_go_on done more total vid n i packed lt so_far e =
    let octet = get_or packed i 0 in
    let here = events_from vid (take n (three_events octet)) in
    let later = events_from (vid + 3) (take (n - 3) (flat_map three_events (drop (i + 1) packed))) in
    let split : events_from vid (take n (flat_map three_events (drop i packed))) ≡ here ++ later =
    ap (λ (os : List ℕ). events_from vid (take n (flat_map three_events os))) (drop_more packed i 0 lt)
    ∙ octet_more vid n (event_numbered (octet / 36)) (event_numbered (octet / 6 % 6)) (event_numbered (octet % 6)) (flat_map three_events (drop (i + 1) packed)) in
    ap (λ (es : List (MrpEvent × ℕ)). es ++ later) e ∙ append_assoc done here later ∙ ap (λ (es : List (MrpEvent × ℕ)). done ++ es) (sym split) ∙ so_far

-- no octet is left
pub events_end : (done total : List (MrpEvent × ℕ)) (vid n i : ℕ) (packed : List ℕ) → length packed ≤ i
    → done ++ events_from vid (take n (flat_map three_events (drop i packed))) ≡ total → done ≡ total
events_end done total vid n i packed le so_far =
    sym (append-nil done)
    ∙ ap (λ (es : List MrpEvent). done ++ events_from vid es) (sym (ap (λ (os : List ℕ). take n (flat_map three_events os)) (drop_all i packed le) ∙ take_nil n))
    ∙ so_far

pub events_stop : (done total : List (MrpEvent × ℕ)) (vid : ℕ) (events : List MrpEvent) → 4094 < vid → done ++ events_from vid events ≡ total → done ≡ total
events_stop done total vid events h so_far = sym (append-nil done) ∙ ap (λ (x : List (MrpEvent × ℕ)). done ++ x) (sym (none_past vid events h)) ∙ so_far

-- ---- the events of what was read in place

pub events_meant : (messages : List RawMessage) → flat_map message_events (map message_in messages) ≡ flat_map (λ m. flat_map events_in_place m.vectors.items) messages
events_meant [] = refl
events_meant (m ∷ messages) = rw (flat_map-map vector_events attr_in m.vectors.items, events_meant messages) refl
