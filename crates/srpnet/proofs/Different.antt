-- The different numbers of a list, kept as a set in the order of insertion.
use Rattle.std.proofs.Common.{◌≡◌, ℕ, ◌+◌, ◌<◌, ◌≤◌, Bool, true, false, ◌||◌, List, [], ◌∷◌, ◌++◌, length, take, drop, get_or, filter, refl, ap, sym, ◌∙◌, inl, inr, Option, Some, arith, Err, eqb, cond, append-nil, nat_le, length-take, add-one, drop-cons, le-leb}
use Rattle.std.specs.List.{list_any}
use Rattle.std.specs.Prelude.{not}
use Rattle.std.proofs.lemmas.{Bool.Decides.nat_tests, Bool.eqb-true, Bool.cases_Bool, List.take_more, List.map_push, List.length-map, List.Elements.filter-append}
use Rattle.indexmap.specs.IndexSet.{insert_key}
use Rattle.srpnet.specs.declared.ledger.file.LedgerWant.{LedgerWant}
use Rattle.srpnet.specs.{different, streams_of, first_crowd, streams_mentioned}
use Rattle.toml_rules.specs.Rules.{fails_at}

-- what isn't x
abbrev other : ℕ → ℕ → Bool
other x j = not (eqb j x)

-- leaving x out hides no other number
any-other : (x k : ℕ) → eqb k x ≡ false → (ks : List ℕ) → list_any (eqb k) (filter (other x) ks) ≡ list_any (eqb k) ks
any-other x k ne [] = refl
any-other x k ne (y ∷ ks) = elim (cases_Bool (eqb y x)) [
  | inl same ↦
      let e : y ≡ x = eqb-true y x same in
      rw (same, e, ne) (any-other x k ne ks)
  | inr differs ↦ rw differs (ap (λ b. eqb k y || b) (any-other x k ne ks))
]

-- one more number behind a first one: with the set of the rest
push-behind : (x k : ℕ) (ks : List ℕ) → x ∷ filter (other x) (insert_key eqb ks k) ≡ insert_key eqb (x ∷ filter (other x) ks) k
push-behind x k ks = elim (cases_Bool (eqb k x)) [
  | inl same ↦ rw same (ap (λ l. x ∷ l) (here (list_any (eqb k) ks) (eqb-true k x same) same))
  | inr differs ↦ rw (differs, any-other x k differs ks) (there (list_any (eqb k) ks) differs)
]
  where
    here : (b : Bool) → k ≡ x → eqb k x ≡ true → filter (other x) (cond b ks (ks ++ k ∷ [])) ≡ filter (other x) ks
    here true e same = refl
    here false e same = filter-append (other x) ks (k ∷ []) ∙ rw same (append-nil (filter (other x) ks))

    there : (b : Bool) → eqb k x ≡ false
        → x ∷ filter (other x) (cond b ks (ks ++ k ∷ [])) ≡ cond b (x ∷ filter (other x) ks) (x ∷ (filter (other x) ks ++ k ∷ []))
    there true differs = refl
    there false differs = ap (λ l. x ∷ l) (filter-append (other x) ks (k ∷ []) ∙ rw differs refl)

-- the different numbers of one more are those so far with it
pub different-push : (ks : List ℕ) (k : ℕ) → different (ks ++ k ∷ []) ≡ insert_key eqb (different ks) k
different-push [] k = refl
different-push (x ∷ ks) k = rw (different-push ks k) (push-behind x k (different ks))

-- ---- the streams of a file's first wants

streams_of-more : (ws : List LedgerWant) (i : ℕ) (d : LedgerWant) → i < length ws
    → streams_of (take (i + 1) ws) ≡ streams_of (take i ws) ++ (get_or ws i d).want.stream.0 ∷ []
streams_of-more ws i d h = rw (take_more ws i d h) (map_push (λ w. w.want.stream.0) (take i ws) (get_or ws i d))

-- the set after one more want
pub set_step : (ws : List LedgerWant) (i : ℕ) (d : LedgerWant) (keys new : List ℕ) → i < length ws
    → keys ≡ different (streams_of (take i ws)) → new ≡ insert_key eqb keys (get_or ws i d).want.stream.0
    → new ≡ different (streams_of (take (i + 1) ws))
set_step ws i d keys new h is after =
    rw (streams_of-more ws i d h, different-push (streams_of (take i ws)) (get_or ws i d).want.stream.0, ← is) after

-- the search for a crowd at one more want
crowd_at : (ws : List LedgerWant) (i : ℕ) (d : LedgerWant) (set : List ℕ) → i < length ws
    → set ≡ different (streams_of (take (i + 1) ws))
    → first_crowd (streams_of (take i ws)) (streams_of (drop i ws))
    ≡ cond (nat_le (length set) 128) (first_crowd (streams_of (take (i + 1) ws)) (streams_of (drop (i + 1) ws))) (Some (i + 1))
crowd_at ws i d set h is =
    let len : length (streams_of (take i ws)) ≡ i = omega (arith, length-map (take i ws) (λ (w : LedgerWant). w.want.stream.0), length-take i ws) in
    let cut : drop i ws ≡ get_or ws i d ∷ drop (i + 1) ws = rw add-one (drop-cons ws i d h) in
    rw (is, streams_of-more ws i d h, cut) (rw len refl)

pub crowd_not_yet : (ws : List LedgerWant) (i : ℕ) (d : LedgerWant) (keys set : List ℕ) (found : Option ℕ) → i < length ws
    → keys ≡ different (streams_of (take i ws)) → set ≡ insert_key eqb keys (get_or ws i d).want.stream.0
    → length set ≤ 128 → first_crowd (streams_of (take i ws)) (streams_of (drop i ws)) ≡ found
    → first_crowd (streams_of (take (i + 1) ws)) (streams_of (drop (i + 1) ws)) ≡ found
crowd_not_yet ws i d keys set found h is after few before =
    let at = crowd_at ws i d set h (set_step ws i d keys set h is after) in
    let no_crowd : nat_le (length set) 128 ≡ true = le-leb _ _ few in
    sym (rw no_crowd at at) ∙ before

-- the file breaks the rule at this want
pub crowd_here : (ws : List LedgerWant) (i : ℕ) (d : LedgerWant) (keys set : List ℕ) → i < length ws
    → keys ≡ different (streams_of (take i ws)) → set ≡ insert_key eqb keys (get_or ws i d).want.stream.0
    → 128 < length set → first_crowd (streams_of (take i ws)) (streams_of (drop i ws)) ≡ first_crowd [] (streams_of ws)
    → streams_mentioned ws ≡ Err (fails_at 35 (i + 1))
crowd_here ws i d keys set h is after many before =
    let at = crowd_at ws i d set h (set_step ws i d keys set h is after) in
    let crowd : nat_le (length set) 128 ≡ false = grind (arith, nat_tests) in
    let found : first_crowd [] (streams_of ws) ≡ Some (i + 1) = sym before ∙ rw crowd at at in
    rw found refl
