-- Events and parameters that are packed are unpacked again.
use Rattle.std.proofs.Common.{◌≡◌, ℕ, zero, suc, ◌+◌, ◌-◌, ◌*◌, ◌/◌, ◌%◌, ◌<◌, ◌≤◌, min, true, leb, List, [], ◌∷◌, ◌++◌, length, get_or, take, drop, refl, ap, ◌∙◌, arith}
use Rattle.std.proofs.lemmas.{List.length-drop, List.take_all, Bool.and_parts, Bool.leb-true}
use Rattle.std.specs.List.{flat_map, list_all}
use Rattle.srp_base.specs.declared.mrp.MrpEvent.{MrpEvent}
use Rattle.srp_base.specs.declared.mrp.MrpEvent.TheVariants.{New, JoinIn, OnlyIn, JoinMt, OnlyMt, Lv}
use Rattle.mrpdu_codec.specs.{thirds, quarters, event_numbered, event_number, three_events, four_params, AllUpTo, three, pack_events, four, pack_params}

-- ---- events

event_again : (e : MrpEvent) → event_numbered (event_number e) ≡ e
event_again e = grind arith

pub number_limit : (e : MrpEvent) → event_number e ≤ 5
number_limit e = grind arith

three_limit : (a b c : MrpEvent) → three a b c ≤ 215
three_limit a b c = grind (arith, number_limit)

high_digit : (x y z : ℕ) → y ≤ 5 → z ≤ 5 → ((x * 6 + y) * 6 + z) / 36 ≡ x
high_digit x y z p q = omega arith

middle_digit : (x y z : ℕ) → y ≤ 5 → z ≤ 5 → ((x * 6 + y) * 6 + z) / 6 % 6 ≡ y
middle_digit x y z p q = omega arith

low_digit : (x y z : ℕ) → z ≤ 5 → ((x * 6 + y) * 6 + z) % 6 ≡ z
low_digit x y z q = omega arith

high_event : (a b c : MrpEvent) → event_numbered (three a b c / 36) ≡ a
high_event a b c = ap event_numbered (high_digit (event_number a) (event_number b) (event_number c) (number_limit b) (number_limit c)) ∙ event_again a

middle_event : (a b c : MrpEvent) → event_numbered (three a b c / 6 % 6) ≡ b
middle_event a b c = ap event_numbered (middle_digit (event_number a) (event_number b) (event_number c) (number_limit b) (number_limit c)) ∙ event_again b

low_event : (a b c : MrpEvent) → event_numbered (three a b c % 6) ≡ c
low_event a b c = ap event_numbered (low_digit (event_number a) (event_number b) (event_number c) (number_limit c)) ∙ event_again c

-- an octet's three events
unpacked : (a b c : MrpEvent) → three_events (three a b c) ≡ a ∷ b ∷ c ∷ []
unpacked a b c = grind (arith, high_event, middle_event, low_event)

-- the first n events of an octet and of what follows
unpacked_on : (n : ℕ) (a b c : MrpEvent) (octets : List ℕ) → take n (three_events (three a b c) ++ flat_map three_events octets) ≡ take n (a ∷ b ∷ c ∷ flat_map three_events octets)
unpacked_on n a b c octets = ap (λ (es : List MrpEvent). take n (es ++ flat_map three_events octets)) (unpacked a b c)

pub events_again : (events : List MrpEvent) → take (length events) (flat_map three_events (pack_events events)) ≡ events
events_again [] = refl
events_again (a ∷ []) = unpacked_on 1 a New New []
events_again (a ∷ b ∷ []) = unpacked_on 2 a b New []
events_again (a ∷ b ∷ c ∷ events) = unpacked_on (length (a ∷ b ∷ c ∷ events)) a b c (pack_events events) ∙ ap (λ (es : List MrpEvent). a ∷ b ∷ c ∷ es) (events_again events)

pub packed_length : (events : List MrpEvent) → length (pack_events events) ≡ thirds (length events)
packed_length [] = refl
packed_length (a ∷ []) = refl
packed_length (a ∷ b ∷ []) = refl
packed_length (a ∷ b ∷ c ∷ events) = omega (arith, packed_length events)

pub packed_limit_holds : (events : List MrpEvent) → AllUpTo 215 (pack_events events)
packed_limit_holds [] = tt
packed_limit_holds (a ∷ []) = (three_limit a New New, tt)
packed_limit_holds (a ∷ b ∷ []) = (three_limit a b New, tt)
packed_limit_holds (a ∷ b ∷ c ∷ events) = (three_limit a b c, packed_limit_holds events)

-- ---- parameters

abbrev Small : List ℕ → Type 0
Small params = list_all (λ p. leb p 3) params ≡ true

first_small : (p : ℕ) (params : List ℕ) → Small (p ∷ params) → (p ≤ 3) × Small params
first_small p params h = let a = and_parts (leb p 3) (list_all (λ q. leb q 3) params) h in (leb-true p 3 a.0, a.1)

params_of : (a b c d : ℕ) → a ≤ 3 → b ≤ 3 → c ≤ 3 → d ≤ 3 → four_params (four a b c d) ≡ a ∷ b ∷ c ∷ d ∷ []
params_of a b c d p q r s = grind arith

params_on : (n a b c d : ℕ) (octets : List ℕ) → a ≤ 3 → b ≤ 3 → c ≤ 3 → d ≤ 3
    → take n (four_params (four a b c d) ++ flat_map four_params octets) ≡ take n (a ∷ b ∷ c ∷ d ∷ flat_map four_params octets)
params_on n a b c d octets p q r s = ap (λ (xs : List ℕ). take n (xs ++ flat_map four_params octets)) (params_of a b c d p q r s)

pub params_again : (params : List ℕ) → Small params → take (length params) (flat_map four_params (pack_params params)) ≡ params
params_again [] h = refl
params_again (a ∷ []) h = let p = first_small a [] h in params_on 1 a 0 0 0 [] p.0 (omega arith) (omega arith) (omega arith)
params_again (a ∷ b ∷ []) h = grind (arith, params_on)
params_again (a ∷ b ∷ c ∷ []) h = grind (arith, params_on)
params_again (a ∷ b ∷ c ∷ d ∷ params) h =
    let p = first_small a (b ∷ c ∷ d ∷ params) h in
    let q = first_small b (c ∷ d ∷ params) p.1 in
    let r = first_small c (d ∷ params) q.1 in
    let s = first_small d params r.1 in
    params_on (length (a ∷ b ∷ c ∷ d ∷ params)) a b c d (pack_params params) p.0 q.0 r.0 s.0 ∙ ap (λ (ps : List ℕ). a ∷ b ∷ c ∷ d ∷ ps) (params_again params s.1)

pub fours_length : (params : List ℕ) → length (pack_params params) ≡ quarters (length params)
fours_length [] = refl
fours_length (a ∷ []) = refl
fours_length (a ∷ b ∷ []) = refl
fours_length (a ∷ b ∷ c ∷ []) = refl
fours_length (a ∷ b ∷ c ∷ d ∷ params) = omega (arith, fours_length params)

pub fours_limit : (params : List ℕ) → Small params → AllUpTo 255 (pack_params params)
fours_limit [] h = tt
fours_limit (a ∷ []) h = let p = first_small a [] h in (omega arith, tt)
fours_limit (a ∷ b ∷ []) h = grind arith
fours_limit (a ∷ b ∷ c ∷ []) h = grind arith
fours_limit (a ∷ b ∷ c ∷ d ∷ params) h =
    let p = first_small a (b ∷ c ∷ d ∷ params) h in
    let q = first_small b (c ∷ d ∷ params) p.1 in
    let r = first_small c (d ∷ params) q.1 in
    let s = first_small d params r.1 in
    (omega arith, fours_limit params s.1)

-- ---- the first octet, and what is packed after it

pub rest-after : {X : Type 0} (xs : List X) (k n : ℕ) → n ≡ min (length xs) k → take (length xs - n) (drop n xs) ≡ drop (min (length xs) k) xs
rest-after xs k n is = take_all (length xs - n) (drop n xs) (omega (arith, length-drop n xs)) ∙ ap (λ m. drop m xs) is

packed-events : (events : List MrpEvent) → 0 < length events
    → pack_events events ≡ three (get_or events 0 New) (get_or events 1 New) (get_or events 2 New) ∷ pack_events (drop (min (length events) 3) events)
packed-events events h1 = grind arith

pub first-events : (events : List MrpEvent) (a b c : MrpEvent) (n octet : ℕ) → 0 < length events → a ≡ get_or events 0 New → b ≡ get_or events 1 New
    → c ≡ get_or events 2 New → octet ≡ three a b c → n ≡ min (length events) 3 → pack_events events ≡ octet ∷ pack_events (take (length events - n) (drop n events))
first-events events a b c n octet some p q r packed is = let whole = packed-events events some in let rest = rest-after events 3 n is in cc

packed-params : (params : List ℕ) → 0 < length params
    → pack_params params ≡ four (get_or params 0 0) (get_or params 1 0) (get_or params 2 0) (get_or params 3 0) ∷ pack_params (drop (min (length params) 4) params)
packed-params params h1 = grind arith

pub first-params : (params : List ℕ) (a b c d n octet : ℕ) → 0 < length params → a ≡ get_or params 0 0 → b ≡ get_or params 1 0 → c ≡ get_or params 2 0
    → d ≡ get_or params 3 0 → octet ≡ four a b c d → n ≡ min (length params) 4 → pack_params params ≡ octet ∷ pack_params (take (length params - n) (drop n params))
first-params params a b c d n octet some p q r s packed is = let whole = packed-params params some in let rest = rest-after params 4 n is in cc

pub small-at : (params : List ℕ) (i : ℕ) → Small params → get_or params i 0 ≤ 3
small-at [] i h = omega arith
small-at (p ∷ params) zero h = (first_small p params h).0
small-at (p ∷ params) (suc i) h = small-at params i (first_small p params h).1

pub small-after : (params : List ℕ) (n : ℕ) → Small params → Small (drop n params)
small-after params zero h = h
small-after [] (suc n) h = refl
small-after (p ∷ params) (suc n) h = small-after params n (first_small p params h).1
