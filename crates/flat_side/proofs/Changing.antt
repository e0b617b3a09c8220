-- What becomes of a side's state where the participant at a place changes in its place.
use Rattle.std.proofs.Common.{◌≡◌, ◌≤◌, ◌<◌, ◌||◌, ◌+◌, ℕ, zero, suc, Bool, true, false, if◌then◌else◌, List, [], ◌∷◌, length, map, take, drop, refl, ap, sym, subst, ◌∙◌, arith}
use Rattle.std.specs.Prelude.{slice_get, slice_set, slice_index_or, Option, Some, None, option_map, IfSome, Result, Ok, Err, OnOk, OnErr}
use Rattle.std.specs.{List.list_any, declared.cmp.Ordering.Ordering}
use Rattle.std.proofs.lemmas.Option.{slice_get-map, slice_get_read}
use Rattle.srp_base.proofs.Lists.{map-set}
use Rattle.srp_base.specs.declared.numbers.Cs.{Cs}
use Rattle.registrar.specs.Table.{is_leaving}
use Rattle.mrp_participant.specs.declared.row.Row.{Row}
use Rattle.mrp_participant.specs.{Row.is_leaving_in, Row.registrar_of, State.declared_state, State.due_state, State.left_keys, State.withdrawn_state}
use Rattle.attribute_propagation.specs.{Dirty.KeySet, Dirty.is_awaiting, Dirty.with_key, Dirty.without_key, Flat.elsewhere, Flat.is_any, Ports.HasRoom, Ports.HasTold, Ports.keys_at, Ports.keys_in, Ports.marked_elsewhere, Ports.marked_everywhere}
use Rattle.flat_side.specs.Part.{Part}
use Rattle.flat_side.specs.{registers, same_content, settled_key, settled_part, FlatState, IsKept, at_part, awaiting_at, due_flat, has_own, parts_by, parts_settled, places_of, requested_flat, rule_at, settled_flat, with_part_at, with_told_part, PartHolding, flat_of, parts_in}
use Rattle.flat_side.proofs.Places.{elsewhere-set}

-- room for so many keys is room for fewer
pub fewer : {K : Type 0} (n m : ℕ) (sets : List (KeySet K)) → n ≤ m → HasRoom m sets → HasRoom n sets
fewer n m [] le h = tt
fewer n m (set ∷ sets) le h = (omega (arith, le, h.0), fewer n m sets le h.1)

module _ {K : Type 0} where
  pub states-set : (parts : List (PartHolding K)) (at : ℕ) (y : PartHolding K) → parts_in (slice_set parts at y) ≡ slice_set (parts_in parts) at y.state
  states-set parts at y = map-set (λ (p : PartHolding K). p.state) parts at y

  -- the participant at a place, and its state
  pub part_is : (parts : List (PartHolding K)) (at : ℕ) (x : PartHolding K) → at < length parts → x ≡ slice_index_or parts at x → slice_get parts at ≡ Some x
  part_is parts at x below is = slice_get_read parts (length parts) at x refl below is

  pub state_is : (parts : List (PartHolding K)) (at : ℕ) (x : PartHolding K) → slice_get parts at ≡ Some x → slice_get (parts_in parts) at ≡ Some x.state
  state_is parts at x here = slice_get-map (λ (p : PartHolding K). p.state) parts at ∙ ap (option_map (λ (p : PartHolding K). p.state)) here

  -- it changes, and tells none
  pub changed_is : (parts : List (PartHolding K)) (sets : List (KeySet K)) (own : List K) (at : ℕ) (x y : PartHolding K) (f : Part K → Part K)
      → at < length parts → x ≡ slice_index_or parts at x → y.state ≡ f x.state
      → flat_of (slice_set parts at y) sets own ≡ at_part at (λ s. with_part_at at (f s) (flat_of parts sets own)) (flat_of parts sets own)
  changed_is parts sets own at x y f below is e =
      let here : slice_get (parts_in parts) at ≡ Some x.state = state_is parts at x (part_is parts at x below is) in
      rw (here, states-set parts at y, e) refl

  -- it changes, and tells keys
  pub told_is : (cmp : K → K → Ordering) (parts : List (PartHolding K)) (old new : List (KeySet K))
      (own : List K) (at : ℕ) (x y : PartHolding K) (f : Part K → Part K) (told : List K) (h : Part K → List K)
      → at < length parts → x ≡ slice_index_or parts at x → y.state ≡ f x.state → told ≡ h x.state → keys_in new ≡ marked_elsewhere cmp at told (keys_in old)
      → flat_of (slice_set parts at y) new own ≡ at_part at (λ s. with_told_part cmp at (f s) (h s) (flat_of parts old own)) (flat_of parts old own)
  told_is cmp parts old new own at x y f told h below is e said marked =
      let here : slice_get (parts_in parts) at ≡ Some x.state = state_is parts at x (part_is parts at x below is) in
      rw (here, states-set parts at y, e, marked, said) refl

  -- one of the same state takes the place
  pub same_states : (parts : List (PartHolding K)) (at : ℕ) (x y : PartHolding K) → x ≡ slice_index_or parts at x → y.state ≡ x.state → parts_in (slice_set parts at y) ≡ parts_in parts
  same_states [] at x y is e = refl
  same_states (p ∷ parts) zero x y is e = ap (λ (s : Part K). s ∷ parts_in parts) (e ∙ ap (λ (q : PartHolding K). q.state) is)
  same_states (p ∷ parts) (suc at) x y is e = ap (λ ss. p.state ∷ ss) (same_states parts at x y is e)

  -- what holds of a participant that is read holds of the one at the place
  pub holds_at : (P : PartHolding K → Type 0) (parts : List (PartHolding K)) (at : ℕ) (x : PartHolding K) → at < length parts → x ≡ slice_index_or parts at x → IfSome (slice_get parts at) P → P x
  holds_at P parts at x below is h = by (slice_get parts at) (part_is parts at x below is) h
    where
      by : (o : Option (PartHolding K)) → o ≡ Some x → IfSome o P → P x
      by None e i = cc
      by (Some y) e i = let one : y ≡ x = cc in subst P one i

  -- one that is set at a place holds what it holds
  pub set_holds : (P : PartHolding K → Type 0) (parts : List (PartHolding K)) (at : ℕ) (y : PartHolding K) → at < length parts → P y → IfSome (slice_get (slice_set parts at y) at) P
  set_holds P [] at y below h = absurd (omega arith)
  set_holds P (p ∷ parts) zero y below h = h
  set_holds P (p ∷ parts) (suc at) y below h = set_holds P parts at y (omega (arith, below)) h

-- ---- the flat rule, and settling by it

module _ {K : Type 0} (cmp : K → K → Ordering) where
  any_taken : {X : Type 0} (p : X → Bool) (at : ℕ) (xs : List X) → is_any (take at (map p xs)) ≡ list_any p (take at xs)
  any_taken p zero xs = refl
  any_taken p (suc at) [] = refl
  any_taken p (suc at) (x ∷ xs) = ap (λ b. p x || b) (any_taken p at xs)

  any_all : {X : Type 0} (p : X → Bool) (xs : List X) → is_any (map p xs) ≡ list_any p xs
  any_all p [] = refl
  any_all p (x ∷ xs) = ap (λ b. p x || b) (any_all p xs)

  any_behind : {X : Type 0} (p : X → Bool) (at : ℕ) (xs : List X) → is_any (drop 1 (drop at (map p xs))) ≡ list_any p (drop 1 (drop at xs))
  any_behind p zero [] = refl
  any_behind p zero (x ∷ xs) = any_all p xs
  any_behind p (suc at) [] = refl
  any_behind p (suc at) (x ∷ xs) = any_behind p at xs

  map-map : {X Y Z : Type 0} (f : Y → Z) (h : X → Y) (xs : List X) → map f (map h xs) ≡ map (λ x. f (h x)) xs
  map-map f h [] = refl
  map-map f h (x ∷ xs) = ap (λ zs. f (h x) ∷ zs) (map-map f h xs)

  pub rule_split : (at : ℕ) (own : List K) (parts : List (PartHolding K)) (key : K)
      → rule_at cmp at own (parts_in parts) key
      ≡ ((is_awaiting cmp key own || list_any (λ (p : PartHolding K). registers cmp key p.state) (take at parts))
      || list_any (λ (p : PartHolding K). registers cmp key p.state) (drop 1 (drop at parts)))
  rule_split at own parts key =
      let q : PartHolding K → Bool = λ p. registers cmp key p.state in
      ap (λ bs. (is_awaiting cmp key own || is_any (take at bs)) || is_any (drop 1 (drop at bs))) (map-map (registers cmp key) (λ (p : PartHolding K). p.state) parts)
      ∙ (ap (λ b. (is_awaiting cmp key own || b) || is_any (drop 1 (drop at (map q parts)))) (any_taken q at parts)
      ∙ ap (λ b. (is_awaiting cmp key own || list_any q (take at parts)) || b) (any_behind q at parts))

  -- the rule at a place doesn't look at the participant there
  rule-set : (at : ℕ) (own : List K) (parts : List (Part K)) (t : Part K) (key : K) → rule_at cmp at own (slice_set parts at t) key ≡ rule_at cmp at own parts key
  rule-set at own parts t key =
      ap (elsewhere (suc at)) (ap (λ bs. is_awaiting cmp key own ∷ bs) (map-set (registers cmp key) parts at t))
      ∙ elsewhere-set (suc at) (places_of cmp key own parts) (registers cmp key t)

  same_rule : (one other : K → Bool) → ((k : K) → one k ≡ other k) → (keys : List K) (s : Part K) → settled_part cmp one keys s ≡ settled_part cmp other keys s
  same_rule one other same [] s = refl
  same_rule one other same (k ∷ keys) s =
      same_rule one other same keys (settled_key cmp one s k)
      ∙ ap (λ b. settled_part cmp other keys (if b then declared_state cmp same_content k tt s else withdrawn_state cmp k s)) (same k)

  set-twice : {X : Type 0} (xs : List X) (at : ℕ) (x y : X) → slice_set (slice_set xs at x) at y ≡ slice_set xs at y
  set-twice [] at x y = refl
  set-twice (z ∷ xs) zero x y = refl
  set-twice (z ∷ xs) (suc at) x y = ap (λ ys. z ∷ ys) (set-twice xs at x y)

  set-here : {X : Type 0} (xs : List X) (at : ℕ) (x y : X) → slice_get xs at ≡ Some x → slice_get (slice_set xs at y) at ≡ Some y
  set-here [] at x y h = cc
  set-here (z ∷ xs) zero x y h = refl
  set-here (z ∷ xs) (suc at) x y h = set-here xs at x y h

  set-same : {X : Type 0} (xs : List X) (at : ℕ) (x : X) → slice_get xs at ≡ Some x → slice_set xs at x ≡ xs
  set-same [] at x h = refl
  set-same (z ∷ xs) zero x h = let one : z ≡ x = cc in ap (λ y. y ∷ xs) (sym one)
  set-same (z ∷ xs) (suc at) x h = ap (λ ys. z ∷ ys) (set-same xs at x h)

  -- settling one key and then others is settling them all
  pub settle_more : (at : ℕ) (own : List K) (parts : List (Part K)) (s : Part K) (flat : Bool) (key : K) (keys : List K)
      → slice_get parts at ≡ Some s → flat ≡ rule_at cmp at own parts key
      → parts_settled cmp at own keys (slice_set parts at (settled_key cmp (λ _. flat) s key)) ≡ parts_settled cmp at own (key ∷ keys) parts
  settle_more at own parts s flat key keys here is =
      let t : Part K = settled_key cmp (λ _. flat) s key in
      ap (λ o. parts_by o (λ u. slice_set (slice_set parts at t) at (settled_part cmp (rule_at cmp at own (slice_set parts at t)) keys u)) (slice_set parts at t)) (set-here parts at s t here)
      ∙ (set-twice parts at t (settled_part cmp (rule_at cmp at own (slice_set parts at t)) keys t)
      ∙ (ap (slice_set parts at) (same_rule (rule_at cmp at own (slice_set parts at t)) (rule_at cmp at own parts) (rule-set at own parts t) keys t
      ∙ ap (λ b. settled_part cmp (rule_at cmp at own parts) keys (if b then declared_state cmp same_content key tt s else withdrawn_state cmp key s)) is)
      ∙ ap (λ o. parts_by o (λ u. slice_set parts at (settled_part cmp (rule_at cmp at own parts) (key ∷ keys) u)) parts) (sym here)))

  pub settle_none : (at : ℕ) (own : List K) (parts : List (Part K)) → parts_settled cmp at own [] parts ≡ parts
  settle_none at own parts = by (slice_get parts at) refl
    where
      by : (o : Option (Part K)) → slice_get parts at ≡ o → parts_by o (λ s. slice_set parts at s) parts ≡ parts
      by None h = refl
      by (Some s) h = set-same parts at s h

  -- what settling the keys of a place makes of the side
  pub settled_is : (side : FlatState K) (at : ℕ) (keys : List K) (parts : List (Part K)) (sets : List (List K)) (s : Part K) → slice_get side.parts at ≡ Some s → keys ≡ awaiting_at at side
      → parts ≡ parts_settled cmp at side.own keys side.parts → sets ≡ slice_set side.awaiting at []
      → record { parts = parts; awaiting = sets; own = side.own } ≡ settled_flat cmp at side
  settled_is side at keys parts sets s here all became emptied = rw (became, emptied, all, here) refl

-- ---- what loops over keys leave

pub one_less : {K : Type 0} (parts : List (PartHolding K)) (at m n : ℕ) (x y : PartHolding K) → at < length parts → x ≡ slice_index_or parts at x → m ≡ suc n
    → x.spare ≤ y.spare + 1 → IfSome (slice_get parts at) (λ p. m ≤ p.spare) → IfSome (slice_get (slice_set parts at y) at) (λ p. n ≤ p.spare)
one_less parts at m n x y below is less spare room =
    let had : m ≤ x.spare = holds_at (λ p. m ≤ p.spare) parts at x below is room in
    set_holds (λ p. n ≤ p.spare) parts at y below (omega (arith, less, spare, had))

pub drop_more : {X : Type 0} (xs : List X) (i : ℕ) (x : X) → i < length xs → x ≡ slice_index_or xs i x → drop i xs ≡ x ∷ drop (i + 1) xs
drop_more [] i x below is = absurd (omega arith)
drop_more (y ∷ xs) zero x below is = ap (λ z. z ∷ xs) (sym is)
drop_more (y ∷ xs) (suc i) x below is =
    let next : suc (i + 1) ≡ suc i + 1 = omega arith in
    drop_more xs i x (omega (arith, below)) is ∙ ap (λ n. x ∷ drop n (y ∷ xs)) next

-- there is one at each place
pub some_state : {K : Type 0} (parts : List (PartHolding K)) (at : ℕ) → at < length parts → (s : Part K) × (slice_get (parts_in parts) at ≡ Some s)
some_state [] at below = absurd (omega arith)
some_state (p ∷ parts) zero below = (p.state, refl)
some_state (p ∷ parts) (suc at) below = some_state parts at (omega (arith, below))

-- ---- what a call leaves keeps what every side keeps

pub kept_either : {K E : Type 0} (cmp : K → K → Ordering) (r : Result (Unit {0}) E) (old new done : FlatState K) → IsKept cmp old → IsKept cmp done
    → OnOk r (new ≡ done) → OnErr r (new ≡ old) → IsKept cmp new
kept_either cmp (Ok x) old new done was is ok err = subst (IsKept cmp) (sym ok) is
kept_either cmp (Err e) old new done was is ok err = subst (IsKept cmp) (sym err) was

pub both_ok : {X E : Type 0} {P Q R : Type 0} (r : Result X E) → (P → Q → R) → OnOk r P → OnOk r Q → OnOk r R
both_ok (Ok x) f p q = f p q
both_ok (Err e) f p q = tt

-- where no timer is due nothing changes
pub none_due : {K : Type 0} (cmp : K → K → Ordering) → HasTold cmp → (side : FlatState K) (at : ℕ) (s : Part K) → slice_get side.parts at ≡ Some s → (now : Cs)
    → due_state now s ≡ s → left_keys now s ≡ [] → due_flat cmp now at side ≡ side
none_due cmp told side at s here now same none =
    let stays : slice_set side.parts at s ≡ side.parts = set-same cmp side.parts at s here in
    let all : marked_elsewhere cmp at [] side.awaiting ≡ side.awaiting = told.none_elsewhere at side.awaiting in
    rw (here, same, none, stays, all) refl

-- where no key awaits settling changes nothing
pub none_settled : {K : Type 0} (cmp : K → K → Ordering) (side : FlatState K) (at : ℕ) → awaiting_at at side ≡ [] → settled_flat cmp at side ≡ side
none_settled {K} cmp side at none = by (slice_get side.parts at) refl
  where
    empty_stays : (sets : List (List K)) (i : ℕ) → keys_at i sets ≡ [] → slice_set sets i [] ≡ sets
    empty_stays [] i h = refl
    empty_stays (set ∷ sets) zero h = ap (λ keys. keys ∷ sets) (sym h)
    empty_stays (set ∷ sets) (suc i) h = ap (λ others. set ∷ others) (empty_stays sets i h)

    by : (o : Option (Part K)) → slice_get side.parts at ≡ o → settled_flat cmp at side ≡ side
    by None here = rw here refl
    by (Some s) here =
        let stays : slice_set side.parts at s ≡ side.parts = set-same cmp side.parts at s here in
        let all : slice_set side.awaiting at [] ≡ side.awaiting = empty_stays side.awaiting at none in
        rw (here, none, stays, all) refl

-- whether a key's registrar is LV
pub leaving_of : {K C : Type 0} (row : Option (Row K C)) → is_leaving_in row ≡ is_leaving (registrar_of row)
leaving_of None = refl
leaving_of (Some r) = refl

-- room for no key asks nothing
pub no_room : {K : Type 0} (sets : List (KeySet K)) → HasRoom 0 sets
no_room [] = tt
no_room (set ∷ sets) = (omega arith, no_room sets)

-- a key that the application declares, and didn't before, or withdraws, and did before, awaits everywhere
pub asked_is : {K : Type 0} (cmp : K → K → Ordering) (key : K) (declared had : Bool) (side : FlatState K) (own : List K) (sets : List (List K)) → had ≡ has_own cmp key side → (declared ≡ had → ⊥)
    → own ≡ (if declared then with_key cmp key side.own else without_key cmp key side.own) → sets ≡ marked_everywhere cmp (key ∷ []) side.awaiting
    → record { parts = side.parts; awaiting = sets; own = own } ≡ requested_flat cmp key declared side
asked_is cmp key true true side own sets had differs is all = absurd (differs refl)
asked_is cmp key true false side own sets had differs is all = rw (sym had, is, all) refl
asked_is cmp key false true side own sets had differs is all = rw (sym had, is, all) refl
asked_is cmp key false false side own sets had differs is all = absurd (differs refl)

abbrev pub flat_made : {K : Type 0} → List (Part K) → List (List K) → List K → FlatState K
flat_made parts sets own = record { parts = parts; awaiting = sets; own = own }

-- two states of the same are one
pub same_flat : {K : Type 0} (parts those : List (Part K)) (sets these : List (List K)) (own keys : List K) → parts ≡ those → sets ≡ these → own ≡ keys
    → flat_made parts sets own ≡ flat_made those these keys
same_flat parts those sets these own keys p s o = rw (p, s, o) refl
