-- Where a link port declares that Listeners can have a stream, its application or a Listener at another port of the node can.
use Rattle.std.proofs.Common.{◌≡◌, ◌≢◌, ◌⊎◌, inl, inr, ℕ, zero, suc, Bool, true, false, ◌||◌, List, [], ◌∷◌, ◌++◌, map, take, drop, refl, sym, ap, ◌∙◌, arith}
use Rattle.std.specs.Prelude.{slice_get, Option, Some, None, fold}
use Rattle.std.specs.{List.list_any, List.filter_map}
use Rattle.std.proofs.lemmas.Bool.{or_right as true-right}
use Rattle.srp_base.proofs.Bools.{or_true as or-cases}
use Rattle.srp_base.specs.declared.{numbers.StreamId.StreamId, streams.ListenerKind.ListenerKind}
use Rattle.srp_base.specs.declared.streams.ListenerKind.TheVariants.{AskingFailed, Ready, ReadyFailed}
use Rattle.msrp_listener.specs.declared.port_listener.PortListener.{PortListener}
use Rattle.msrp_listener.specs.Merging.{merge_of, counted_kind, listener_out}
use Rattle.msrp.specs.{PortState.PortState, Part.registered_listener, Stream.Registrations, Stream.first_talker, Stream.is_advertised, Stream.is_ready, Stream.is_ready_kind, Stream.is_talker_port, Stream.listener_at, Stream.listener_row, Stream.other_listeners, Stream.own_listener}
use Rattle.network_laws.proofs.StreamNode.{can_have, can_have_if}

merged : (a b : ListenerKind) → is_ready_kind (merge_of a b) ≡ true → (is_ready_kind a ≡ true) ⊎ (is_ready_kind b ≡ true)
merged Ready b h = inl refl
merged ReadyFailed b h = inl refl
merged AskingFailed Ready h = inr refl
merged AskingFailed ReadyFailed h = inr refl
merged AskingFailed AskingFailed h = cc

folded : (k : ListenerKind) (rows : List PortListener) → is_ready_kind (fold merge_of k (map counted_kind rows)) ≡ true → (is_ready_kind k ≡ true) ⊎ (list_any can_have rows ≡ true)
folded k [] h = inl h
folded k (row ∷ rows) h = by (folded (merge_of k (counted_kind row)) rows h)
  where
    first : (is_ready_kind k ≡ true) ⊎ (is_ready_kind (counted_kind row) ≡ true) → (is_ready_kind k ≡ true) ⊎ (list_any can_have (row ∷ rows) ≡ true)
    first (inl before) = inl before
    first (inr here) = inr (ap (λ b. b || list_any can_have rows) here)

    by : (is_ready_kind (merge_of k (counted_kind row)) ≡ true) ⊎ (list_any can_have rows ≡ true) → (is_ready_kind k ≡ true) ⊎ (list_any can_have (row ∷ rows) ≡ true)
    by (inl m) = first (merged k (counted_kind row) m)
    by (inr there) = inr (true-right (can_have row) (list_any can_have rows) there)

some-row : (rows : List PortListener) → is_ready (listener_out rows) ≡ true → list_any can_have rows ≡ true
some-row [] h = cc
some-row (row ∷ rows) h = by (folded (counted_kind row) rows h)
  where
    by : (is_ready_kind (counted_kind row) ≡ true) ⊎ (list_any can_have rows ≡ true) → list_any can_have (row ∷ rows) ≡ true
    by (inl here) = ap (λ b. b || list_any can_have rows) here
    by (inr there) = true-right (can_have row) (list_any can_have rows) there

some-place : (os : List (Option PortListener)) → list_any can_have (filter_map (λ row. row) os) ≡ true → list_any can_have_if os ≡ true
some-place [] h = cc
some-place (None ∷ os) h = some-place os h
some-place (Some row ∷ os) h = by (or-cases (can_have row) (list_any can_have (filter_map (λ x. x) os)) h) (λ there. some-place os there)
  where
    by : (can_have row ≡ true) ⊎ (list_any can_have (filter_map (λ x. x) os) ≡ true) → (list_any can_have (filter_map (λ x. x) os) ≡ true → list_any can_have_if os ≡ true)
        → (can_have row || list_any can_have_if os) ≡ true
    by (inl here) rest = ap (λ b. b || list_any can_have_if os) here
    by (inr there) rest = true-right (can_have row) (list_any can_have_if os) (rest there)

-- some element that passes a test, and its place
record Passes {X : Type 0} (q : X → Bool) (xs : List X) : Type 0 where
  place : ℕ
  x : X
  is : slice_get xs place ≡ Some x
  passes : q x ≡ true

any-at : {X : Type 0} (q : X → Bool) (xs : List X) → list_any q xs ≡ true → Passes q xs
any-at q [] h = cc
any-at q (x ∷ xs) h = by (or-cases (q x) (list_any q xs) h) (λ there. any-at q xs there)
  where
    by : (q x ≡ true) ⊎ (list_any q xs ≡ true) → (list_any q xs ≡ true → Passes q xs) → Passes q (x ∷ xs)
    by (inl here) rest = record { place = 0; x = x; is = refl; passes = here }
    by (inr there) rest = let r = rest there in record { place = suc r.place; x = r.x; is = r.is; passes = r.passes }

-- one at another place than this
record PassesElsewhere {X : Type 0} (q : X → Bool) (at : ℕ) (xs : List X) : Type 0 where
  found : Passes q xs
  other : found.place ≢ at

other-at : {X : Type 0} (q : X → Bool) (at : ℕ) (xs : List X) → list_any q (take at xs ++ drop (suc at) xs) ≡ true → PassesElsewhere q at xs
other-at q zero [] h = cc
other-at q (suc at) [] h = cc
other-at q zero (x ∷ xs) h =
    let r = any-at q xs h in
    record { found = record { place = suc r.place; x = r.x; is = r.is; passes = r.passes }; other = λ e. absurd (omega (arith, e)) }
other-at q (suc at) (x ∷ xs) h = by (or-cases (q x) (list_any q (take at xs ++ drop (suc at) xs)) h) (λ there. other-at q at xs there)
  where
    by : (q x ≡ true) ⊎ (list_any q (take at xs ++ drop (suc at) xs) ≡ true) → (list_any q (take at xs ++ drop (suc at) xs) ≡ true → PassesElsewhere q at xs)
        → PassesElsewhere q (suc at) (x ∷ xs)
    by (inl here) rest = record { found = record { place = 0; x = x; is = refl; passes = here }; other = λ e. absurd (omega (arith, e)) }
    by (inr there) rest =
        let r = rest there in
        let p = r.found in
        record { found = record { place = suc p.place; x = p.x; is = p.is; passes = p.passes }; other = λ e. r.other (omega (arith, e)) }

-- the application listens to an advertised Talker, or another port has Listeners that can have the stream
pub data CanHave (at : ℕ) (r : Registrations) : Type 0 where
  own : r.listens ≡ true → is_advertised (first_talker r.talkers) ≡ true → CanHave at r
  other : (j : ℕ) (row : PortListener) → j ≢ at → slice_get r.listeners j ≡ Some (Some row) → can_have row ≡ true → CanHave at r

own-can : (at : ℕ) (r : Registrations) → can_have_if (own_listener r) ≡ true → CanHave at r
own-can at r h = by r.listens (is_advertised (first_talker r.talkers)) refl refl
  where
    by : (a b : Bool) → r.listens ≡ a → is_advertised (first_talker r.talkers) ≡ b → CanHave at r
    by true true e f = own e f
    by true false e f = let off : can_have_if (own_listener r) ≡ false = rw e (rw f refl) in cc
    by false b e f = let off : can_have_if (own_listener r) ≡ false = rw e refl in cc

-- a port that declares so is the Talker's port
pub declares-ready : (at : ℕ) (r : Registrations) → is_ready (listener_at at r) ≡ true → (is_talker_port (suc at) r.talkers ≡ true) × CanHave at r
declares-ready at r h = by (is_talker_port (suc at) r.talkers) refl
  where
    of-row : (j : ℕ) → j ≢ at → (o : Option PortListener) → slice_get r.listeners j ≡ Some o → can_have_if o ≡ true → CanHave at r
    of-row j ne None is h = cc
    of-row j ne (Some row) is h = other j row ne is h

    of-any : (can_have_if (own_listener r) ≡ true) ⊎ (list_any can_have_if (take at r.listeners ++ drop (suc at) r.listeners) ≡ true) → CanHave at r
    of-any (inl here) = own-can at r here
    of-any (inr there) = let p = other-at can_have_if at r.listeners there in of-row p.found.place p.other p.found.x p.found.is p.found.passes

    by : (b : Bool) → is_talker_port (suc at) r.talkers ≡ b → (is_talker_port (suc at) r.talkers ≡ true) × CanHave at r
    by false e = let none : is_ready (listener_at at r) ≡ false = rw e refl in cc
    by true e =
        let here : listener_at at r ≡ listener_out (other_listeners at r) = rw e refl in
        let some = some-place (own_listener r ∷ (take at r.listeners ++ drop (suc at) r.listeners)) (some-row (other_listeners at r) (ap is_ready (sym here) ∙ h)) in
        (e, of-any (or-cases (can_have_if (own_listener r)) (list_any can_have_if (take at r.listeners ++ drop (suc at) r.listeners)) some))

-- where a port's Listener counts as one that can have the stream, such a Listener is registered there
pub row-ready : (stream : StreamId) (x : PortState) (row : PortListener) → listener_row stream x ≡ Some row → can_have row ≡ true → is_ready (registered_listener stream x.part) ≡ true
row-ready stream x row e can = by (registered_listener stream x.part) refl
  where
    kind-ready : (k : PortListener) → can_have k ≡ true → is_ready_kind k.kind ≡ true
    kind-ready k c = of k.booked refl
      where
        of : (b : Bool) → k.booked ≡ b → is_ready_kind k.kind ≡ true
        of true f = let here : can_have k ≡ is_ready_kind k.kind = rw f refl in sym here ∙ c
        of false f = let off : can_have k ≡ false = rw f refl in cc

    by : (o : Option ListenerKind) → registered_listener stream x.part ≡ o → is_ready (registered_listener stream x.part) ≡ true
    by None f = let none : listener_row stream x ≡ None = rw f refl in cc
    by (Some kind) f =
        let is : option_kind (listener_row stream x) ≡ Some kind = rw f refl in
        let same : Some row.kind ≡ Some kind = ap option_kind (sym e) ∙ is in
        let kind-is : row.kind ≡ kind = cc in
        ap is_ready f ∙ (ap is_ready_kind (sym kind-is) ∙ kind-ready row can)
      where
        option_kind : Option PortListener → Option ListenerKind
        option_kind None = None
        option_kind (Some k) = Some k.kind
