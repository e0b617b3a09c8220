-- The first entry that a test passes, seen from the tables that are gone through.
use Rattle.std.proofs.Common.{◌≡◌, ℕ, ◌+◌, ◌<◌, ◌≤◌, Bool, true, false, List, ◌∷◌, ◌++◌, append-nil, append_assoc, map, length, take, drop, get_or, Option, Some, None, sym, ap, ◌∙◌, arith}
use Rattle.std.proofs.lemmas.List.{drop_all, drop_more, get_or-map, length-map, length-take-le}
use Rattle.srp_base.specs.Firsts.{first_where}
use Rattle.srp_base.proofs.FirstLemmas.{where-here, where-later, where-end}
use Rattle.toml.specs.Data.{Members}
use Rattle.rule_words.specs.{number_words, numbers_words}

-- the test of an entry, seen with those before it
abbrev pub numbered : (ℕ → Members → Bool) → List Members → Members → Bool
numbered said earlier x = said (length earlier + 1) x

-- what it tells of the entry at a place
told-at : {T : Type 0} (view : T → Members) (said : ℕ → Members → Bool) (xs : List T) (i : ℕ) (x : T) (r : Bool)
    → i < length xs → x ≡ get_or xs i x → r ≡ said (i + 1) (view x) → numbered said (take i (map view xs)) (get_or (map view xs) i (view x)) ≡ r
told-at {T} view said xs i x r lt is q =
    let ys = map view xs in
    let short : length (take i ys) ≡ i = length-take-le i ys (omega (arith, lt, length-map xs view)) in
    let here : get_or ys i (view x) ≡ view x = get_or-map view xs i x (view x) lt ∙ ap view (sym is) in
    ap (λ (n : ℕ). said (n + 1) (get_or ys i (view x))) short ∙ (ap (said (i + 1)) here ∙ sym q)

-- an entry that the test doesn't pass
pub entry-step : {T : Type 0} (view : T → Members) (said : ℕ → Members → Bool) (xs : List T) (i : ℕ) (x : T) (r : Bool) (whole : Option ℕ)
    → i < length xs → x ≡ get_or xs i x → r ≡ said (i + 1) (view x) → r ≡ false
    → first_where (numbered said) (take i (map view xs)) (drop i (map view xs)) ≡ whole
    → first_where (numbered said) (take (i + 1) (map view xs)) (drop (i + 1) (map view xs)) ≡ whole
entry-step view said xs i x r whole lt is q off h =
    sym (where-later (numbered said) (map view xs) i (view x) (omega (arith, lt, length-map xs view)) (told-at view said xs i x r lt is q ∙ off)) ∙ h

-- one that it passes
pub entry-found : {T : Type 0} (view : T → Members) (said : ℕ → Members → Bool) (xs : List T) (i : ℕ) (x : T) (r : Bool) (whole : Option ℕ)
    → i < length xs → x ≡ get_or xs i x → r ≡ said (i + 1) (view x) → r ≡ true
    → first_where (numbered said) (take i (map view xs)) (drop i (map view xs)) ≡ whole → Some (i + 1) ≡ whole
entry-found view said xs i x r whole lt is q on h =
    sym (where-here (numbered said) (map view xs) i (view x) (omega (arith, lt, length-map xs view)) (told-at view said xs i x r lt is q ∙ on)) ∙ h

-- no entry is left
pub entry-over : {T : Type 0} (view : T → Members) (said : ℕ → Members → Bool) (xs : List T) (i : ℕ) (whole : Option ℕ)
    → length xs ≤ i → first_where (numbered said) (take i (map view xs)) (drop i (map view xs)) ≡ whole → None ≡ whole
entry-over view said xs i whole le h = sym (where-end (numbered said) (map view xs) i (omega (arith, le, length-map xs view))) ∙ h

-- ---- numbers of links

-- the numbers of the links that are left, one link further
pub numbers-step : {T : Type 0} (view : T → Members) (name : List ℕ) (xs : List T) (i : ℕ) (x : T) (out more whole : List ℕ)
    → i < length xs → x ≡ get_or xs i x → more ≡ out ++ number_words name (i + 1) (view x)
    → out ++ numbers_words name (i + 1) (map view (drop i xs)) ≡ whole → more ++ numbers_words name (i + 1 + 1) (map view (drop (i + 1) xs)) ≡ whole
numbers-step {T} view name xs i x out more whole lt is put h =
    let rest = numbers_words name (i + 1 + 1) (map view (drop (i + 1) xs)) in
    let cut : drop i xs ≡ x ∷ drop (i + 1) xs = drop_more xs i x lt ∙ ap (λ (y : T). y ∷ drop (i + 1) xs) (sym is) in
    ap (λ (t : List ℕ). t ++ rest) put
    ∙ (append_assoc out (number_words name (i + 1) (view x)) rest
    ∙ (ap (λ (t : List T). out ++ numbers_words name (i + 1) (map view t)) (sym cut) ∙ h))

-- none is left
pub numbers-over : {T : Type 0} (view : T → Members) (name : List ℕ) (xs : List T) (i : ℕ) (out whole : List ℕ)
    → length xs ≤ i → out ++ numbers_words name (i + 1) (map view (drop i xs)) ≡ whole → out ≡ whole
numbers-over {T} view name xs i out whole le h =
    sym (append-nil out) ∙ (ap (λ (t : List T). out ++ numbers_words name (i + 1) (map view t)) (sym (drop_all i xs le)) ∙ h)
