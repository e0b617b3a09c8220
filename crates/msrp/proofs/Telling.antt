-- Which keys are among those that are told, and what isn't told is registered as before.
use Rattle.std.proofs.Common.{◌≡◌, ◌≢◌, ◌⊎◌, inl, inr, ℕ, zero, suc, ◌<◌, Bool, true, false, ◌&&◌, ◌==◌, if◌then◌else◌, List, [], ◌∷◌, length, map, refl, sym, ap, ◌∙◌, arith}
use Rattle.std.specs.Prelude.{slice_get, slice_set, slice_index_or, Option, Some, None, option_map, Contains}
use Rattle.std.specs.Ordering.{nat_cmp, is_eq}
use Rattle.std.proofs.lemmas.{List.Folds.list_any_at, Bool.Decides.nat_tests}
use Rattle.std.proofs.Math.ListN.{length-set}
use Rattle.std.proofs.lemmas.Bool.{or_parts as or_false}
use Rattle.srp_base.proofs.{Arithmetic.decide, Lists.get_set_other as get-set_other, Lists.get-set_same, Lists.map-set_same}
use Rattle.srp_base.specs.declared.{numbers.StreamId.StreamId, streams.Talker.Talker}
use Rattle.attribute_propagation.specs.{Dirty.is_awaiting, Dirty.all_marked, Ports.HasTold, Ports.keys_or_none, Ports.marked_everywhere}
use Rattle.mrp_participant.specs.{Lookup.find, Lookup.same, Row.is_leaving_in, State.registered_at, State.left_state}
use Rattle.msrp_codec.specs.declared.pdu.MsrpKey.{MsrpKey}
use Rattle.msrp_codec.specs.declared.pdu.MsrpKey.TheVariants as keys
use Rattle.msrp.specs.{DomainSet, Off, Nothing, OnlyA, Both, key_cmp, registered_talker, talker_reg_of, listener_row, registrations_of, talkers_of, advertise_of, talk_of, is_listened, all_keys_with, is_domain_told, keys_of, marked_here, told_sets, TellsEach, left_key, with_part}
use Rattle.msrp.specs.PortState.{PortState}
use Rattle.msrp.proofs.KeyLemmas.{key_is, key_self}
use Rattle.msrp.specs.Part.{Part}

-- a key that is in a list is among its keys
pub contained : (told : List MsrpKey) (k : ℕ) (key : MsrpKey) → k < length told → slice_index_or told k key ≡ key → is_awaiting key_cmp key told ≡ true
contained told k key below at = list_any_at (λ x. is_eq (key_cmp x key)) told k key below (rw at (key_self key))

-- a key that isn't told is registered as before
pub untold : (told : List MsrpKey) (s t : Part) (key : MsrpKey) → TellsEach told s t → is_awaiting key_cmp key told ≡ false → registered_at key_cmp key t ≡ registered_at key_cmp key s
untold told s t key tells out = by (tells key)
  where
    by : Contains told key ⊎ (registered_at key_cmp key t ≡ registered_at key_cmp key s) → registered_at key_cmp key t ≡ registered_at key_cmp key s
    by (inl c) = let inside = contained told c.0 key c.1 c.2 in cc
    by (inr e) = e

-- the key whose leave timer ended is told, or its registration is as before
pub leaving_told : (s : Part) (x key : MsrpKey)
    → registered_at key_cmp key (left_state key_cmp x s)
    ≡ (if same key_cmp x key && is_leaving_in (find key_cmp x s.rows) then None else registered_at key_cmp key s)
    → Contains (left_key x s) key ⊎ (registered_at key_cmp key (left_state key_cmp x s) ≡ registered_at key_cmp key s)
leaving_told s x key law = by (same key_cmp x key) (is_leaving_in (find key_cmp x s.rows)) refl law
  where
    by : (one leaving : Bool) → same key_cmp x key ≡ one
        → registered_at key_cmp key (left_state key_cmp x s) ≡ (if one && leaving then None else registered_at key_cmp key s)
        → Contains (if leaving then x ∷ [] else []) key ⊎ (registered_at key_cmp key (left_state key_cmp x s) ≡ registered_at key_cmp key s)
    by true true e h = inl (0, omega arith, key_is x key e)
    by true false e h = inr h
    by false true e h = inr h
    by false false e h = inr h

-- where a key of a stream isn't among both keys of the told streams, neither key of the stream is told
pub record IsUntold (told : List MsrpKey) (stream : StreamId) : Type 0 where
  pub talker : is_awaiting key_cmp (keys.Talker stream) told ≡ false
  pub listener : is_awaiting key_cmp (keys.Listener stream) told ≡ false

pub talker_untold : (told : List MsrpKey) (s : StreamId) → is_awaiting key_cmp (keys.Talker s) (all_keys_with told) ≡ false → IsUntold told s
talker_untold [] s h = record { talker = refl; listener = refl }
talker_untold (keys.Talker t ∷ told) s h =
    let first = or_false (is_eq (nat_cmp t.0 s.0)) (is_awaiting key_cmp (keys.Talker s) (all_keys_with told)) h in
    let rest = talker_untold told s first.1 in
    record { talker = rw first.0 rest.talker; listener = rest.listener }
talker_untold (keys.Listener t ∷ told) s h =
    let first = or_false (is_eq (nat_cmp t.0 s.0)) (is_awaiting key_cmp (keys.Talker s) (all_keys_with told)) h in
    let rest = talker_untold told s first.1 in
    record { talker = rest.talker; listener = rw first.0 rest.listener }
talker_untold (keys.Domain c ∷ told) s h =
    let rest = talker_untold told s h in
    record { talker = rest.talker; listener = rest.listener }

pub listener_untold : (told : List MsrpKey) (s : StreamId) → is_awaiting key_cmp (keys.Listener s) (all_keys_with told) ≡ false → IsUntold told s
listener_untold [] s h = record { talker = refl; listener = refl }
listener_untold (keys.Talker t ∷ told) s h =
    let first = or_false (is_eq (nat_cmp t.0 s.0)) (is_awaiting key_cmp (keys.Listener s) (all_keys_with told)) h in
    let rest = listener_untold told s first.1 in
    record { talker = rw first.0 rest.talker; listener = rest.listener }
listener_untold (keys.Listener t ∷ told) s h =
    let first = or_false (is_eq (nat_cmp t.0 s.0)) (is_awaiting key_cmp (keys.Listener s) (all_keys_with told)) h in
    let rest = listener_untold told s first.1 in
    record { talker = rest.talker; listener = rw first.0 rest.listener }
listener_untold (keys.Domain c ∷ told) s h =
    let rest = listener_untold told s h in
    record { talker = rest.talker; listener = rest.listener }

-- what is registered of a stream, once the participant at a place is another that has the stream's registrations
pub registrations-same : (talks : List Talker) (listens : List StreamId) (ports : List PortState) (at : ℕ) (p : PortState) (t : Part) (s : StreamId)
    → slice_get ports at ≡ Some p
    → registered_at key_cmp (keys.Talker s) t ≡ registered_at key_cmp (keys.Talker s) p.part
    → registered_at key_cmp (keys.Listener s) t ≡ registered_at key_cmp (keys.Listener s) p.part
    → registrations_of talks listens (slice_set ports at (with_part t p)) s ≡ registrations_of talks listens ports s
registrations-same talks listens ports at p t s here e f =
    let g : listener_row s (with_part t p) ≡ listener_row s p = rw f refl in
    let one = map-set_same (λ (q : PortState). registered_talker s q.part) ports at p (with_part t p) here (ap talker_reg_of e) in
    let two = map-set_same (listener_row s) ports at p (with_part t p) here g in
    ap (λ ts. record { talkers = advertise_of (talk_of s talks) ∷ ts; listens = is_listened s listens; listeners = map (listener_row s) (slice_set ports at (with_part t p)) }) one
    ∙ ap (λ ls. record { talkers = talkers_of talks ports s; listens = is_listened s listens; listeners = ls }) two

-- what keys that are told make of the sets of all ports
abbrev pub Awaits : Type 0
Awaits = HasTold key_cmp

pub unmarked : Awaits → (key : MsrpKey) (new set : List MsrpKey) → is_awaiting key_cmp key (all_marked key_cmp new set) ≡ false
    → (is_awaiting key_cmp key new ≡ false) × (is_awaiting key_cmp key set ≡ false)
unmarked awaits key new set out = or_false (is_awaiting key_cmp key new) (is_awaiting key_cmp key set) (sym (awaits.among key new set) ∙ out)

-- the set at a place before keys were put in everywhere
pub record WasSet (new : List MsrpKey) (sets : List (List MsrpKey)) (j : ℕ) (now : List MsrpKey) : Type 0 where
  pub set : List MsrpKey
  pub there : slice_get sets j ≡ Some set
  pub is : all_marked key_cmp new set ≡ now

pub was_set : Awaits → (new : List MsrpKey) (sets : List (List MsrpKey)) (j : ℕ) (now : List MsrpKey) → slice_get (marked_everywhere key_cmp new sets) j ≡ Some now → WasSet new sets j now
was_set awaits new sets j now h = by (slice_get sets j) refl (sym (awaits.everywhere j new sets) ∙ h)
  where
    by : (o : Option (List MsrpKey)) → slice_get sets j ≡ o → option_map (all_marked key_cmp new) o ≡ Some now → WasSet new sets j now
    by None is e = cc
    by (Some set) is e = record { set = set; there = is; is = cc }

-- a list that has an element at a place where one was put had one before
had_one : {X : Type 0} (xs : List X) (i : ℕ) (y z : X) → slice_get (slice_set xs i y) i ≡ Some z → (x : X) × (slice_get xs i ≡ Some x)
had_one [] i y z h = cc
had_one (x ∷ xs) zero y z h = (x, refl)
had_one (x ∷ xs) (suc i) y z h = had_one xs i y z h

-- the set at a place before keys were told at a port of a node: what doesn't await now is neither of a told stream nor
-- awaited before, and where a Domain had to be heeded it isn't of a known stream at the port that told it
pub record WasTold (at : ℕ) (domain : DomainSet) (told known : List MsrpKey) (sets : List (List MsrpKey)) (j : ℕ) (now : List MsrpKey) : Type 0 where
  pub set : List MsrpKey
  pub there : slice_get sets j ≡ Some set
  pub untold : (key : MsrpKey) → is_awaiting key_cmp key now ≡ false → is_awaiting key_cmp key (all_keys_with told) ≡ false
  pub fewer : (key : MsrpKey) → is_awaiting key_cmp key now ≡ false → is_awaiting key_cmp key set ≡ false
  pub unknown : at ≡ j → is_domain_told domain told ≡ true → (key : MsrpKey) → is_awaiting key_cmp key now ≡ false → is_awaiting key_cmp key (all_keys_with known) ≡ false

-- the sets once keys were told everywhere
abbrev everywhere : List MsrpKey → List (List MsrpKey) → List (List MsrpKey)
everywhere told sets = marked_everywhere key_cmp (all_keys_with told) sets

pub was_told : Awaits → (at : ℕ) (domain : DomainSet) (told known : List MsrpKey) (sets : List (List MsrpKey)) (j : ℕ) (now : List MsrpKey)
    → slice_get (told_sets at domain told known sets) j ≡ Some now → WasTold at domain told known sets j now
was_told awaits at domain told known sets j now h = by (is_domain_told domain told) refl h
  where
    -- of a set with the told keys put in
    from : (mid : List MsrpKey) → slice_get (everywhere told sets) j ≡ Some mid → ((key : MsrpKey) → is_awaiting key_cmp key now ≡ false → is_awaiting key_cmp key mid ≡ false)
        → (at ≡ j → is_domain_told domain told ≡ true → (key : MsrpKey) → is_awaiting key_cmp key now ≡ false → is_awaiting key_cmp key (all_keys_with known) ≡ false)
        → WasTold at domain told known sets j now
    from mid there less more =
        let was = was_set awaits (all_keys_with told) sets j mid there in
        let apart : (key : MsrpKey) → is_awaiting key_cmp key now ≡ false → (is_awaiting key_cmp key (all_keys_with told) ≡ false) × (is_awaiting key_cmp key was.set ≡ false) =
        λ key out. unmarked awaits key (all_keys_with told) was.set (ap (is_awaiting key_cmp key) was.is ∙ less key out) in
        record { set = was.set; there = was.there; untold = λ key out. (apart key out).0; fewer = λ key out. (apart key out).1; unknown = more }

    there_or_here : (at ≡ j) ⊎ (at ≢ j) → is_domain_told domain told ≡ true → slice_get (marked_here at (all_keys_with known) (everywhere told sets)) j ≡ Some now
        → WasTold at domain told known sets j now
    there_or_here (inr ne) e k = from now (sym (get-set_other (everywhere told sets) at j _ ne) ∙ k) (λ key out. out) (λ same. absurd (ne same))
    there_or_here (inl same) e k =
        let k_at : slice_get (marked_here at (all_keys_with known) (everywhere told sets)) at ≡ Some now
        = ap (λ n. slice_get (marked_here at (all_keys_with known) (everywhere told sets)) n) same ∙ k in
        let mid = had_one (everywhere told sets) at _ now k_at in
        let is : all_marked key_cmp (all_keys_with known) mid.0 ≡ now =
        ap (λ o. all_marked key_cmp (all_keys_with known) (keys_or_none o)) (sym mid.1) ∙ get-set_same (everywhere told sets) at _ now k_at in
        let apart : (key : MsrpKey) → is_awaiting key_cmp key now ≡ false → (is_awaiting key_cmp key (all_keys_with known) ≡ false) × (is_awaiting key_cmp key mid.0 ≡ false) =
        λ key out. unmarked awaits key (all_keys_with known) mid.0 (ap (is_awaiting key_cmp key) is ∙ out) in
        from mid.0 (ap (λ n. slice_get (everywhere told sets) n) (sym same) ∙ mid.1) (λ key out. (apart key out).1) (λ _ _ key out. (apart key out).0)

    by : (b : Bool) → is_domain_told domain told ≡ b
        → slice_get (if b then marked_here at (all_keys_with known) (everywhere told sets) else (everywhere told sets)) j ≡ Some now → WasTold at domain told known sets j now
    by true e k = there_or_here (decide at j) e k
    by false e k = from now k (λ key out. out) (λ _ f. absurd (let none : true ≡ false = sym f ∙ e in cc))

-- there are as many sets once keys are told
pub as_many_told : Awaits → (at : ℕ) (domain : DomainSet) (told known : List MsrpKey) (sets : List (List MsrpKey)) → length (told_sets at domain told known sets) ≡ length sets
as_many_told awaits at domain told known sets = by (is_domain_told domain told)
  where
    by : (b : Bool)
        → length (if b then marked_here at (all_keys_with known) (marked_everywhere key_cmp (all_keys_with told) sets) else marked_everywhere key_cmp (all_keys_with told) sets) ≡ length sets
    by true = length-set (marked_everywhere key_cmp (all_keys_with told) sets) at _ ∙ awaits.as_many_everywhere (all_keys_with told) sets
    by false = awaits.as_many_everywhere (all_keys_with told) sets

-- where no key is told none has to be heeded, and all sets stay
pub none_heeded : (domain : DomainSet) → is_domain_told domain [] ≡ false
none_heeded Off = refl
none_heeded Nothing = refl
none_heeded OnlyA = refl
none_heeded Both = refl

pub none_told : Awaits → (at : ℕ) (domain : DomainSet) (known : List MsrpKey) (sets : List (List MsrpKey)) → told_sets at domain [] known sets ≡ sets
none_told awaits at domain known sets =
    ap (λ b. if b then marked_here at (all_keys_with known) (marked_everywhere key_cmp [] sets) else marked_everywhere key_cmp [] sets) (none_heeded domain) ∙ awaits.none_everywhere sets

-- of the keys of a stream, none is one of another stream
pub talker_other : (x s : StreamId) → is_awaiting key_cmp (keys.Talker s) (keys_of x) ≡ false → (s.0 == x.0) ≡ false
talker_other x s h =
    let first = or_false (is_eq (nat_cmp x.0 s.0)) false h in grind (arith, nat_tests, first.0)

pub listener_other : (x s : StreamId) → is_awaiting key_cmp (keys.Listener s) (keys_of x) ≡ false → (s.0 == x.0) ≡ false
listener_other x s h =
    let first = or_false (is_eq (nat_cmp x.0 s.0)) false h in grind (arith, nat_tests, first.0)
