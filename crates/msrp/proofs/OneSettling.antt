-- What awaits at each port once one of them is settled.
use Rattle.std.proofs.Common.{◌≡◌, ◌≢◌, ℕ, zero, suc, ◌<◌, false, ◌||◌, ◌==◌, if◌then◌else◌, List, [], ◌∷◌, length, refl, sym, ap, ◌∙◌, arith}
use Rattle.std.specs.Prelude.{slice_get, slice_set, Option, Some, None, option_map}
use Rattle.std.proofs.lemmas.Bool.Decides.{nat_tests}
use Rattle.srp_base.proofs.Lists.{get-set_same, get_set_other as get-set_other}
use Rattle.attribute_propagation.specs.{Dirty.all_marked, Dirty.is_awaiting, Ports.marked_elsewhere, Ports.keys_or_none}
use Rattle.msrp_codec.specs.declared.pdu.MsrpKey.{MsrpKey}
use Rattle.msrp.specs.PortState.{PortState}
use Rattle.msrp.specs.{key_cmp, listener_keys, moved_streams, Streams, awaiting_at, moved_keys, settled_at, settled_streams}
use Rattle.msrp.proofs.Telling.{Awaits}

emptied : (sets : List (List MsrpKey)) (at : ℕ) → keys_or_none (slice_get (slice_set sets at []) at) ≡ []
emptied [] at = refl
emptied (set ∷ sets) zero = refl
emptied (set ∷ sets) (suc at) = emptied sets at

marked_there : Awaits → (new : List MsrpKey) (sets : List (List MsrpKey)) (at j : ℕ) (key : MsrpKey) → at ≢ j → j < length sets
    → is_awaiting key_cmp key (keys_or_none (slice_get (marked_elsewhere key_cmp at new sets) j)) ≡ (is_awaiting key_cmp key new || is_awaiting key_cmp key (keys_or_none (slice_get sets j)))
marked_there awaits new sets at j key ne below = by (slice_get sets j) refl (awaits.elsewhere at j new sets)
  where
    within : (xs : List (List MsrpKey)) (i : ℕ) → i < length xs → slice_get xs i ≡ None → ⊥
    within [] i below is = absurd (omega arith)
    within (x ∷ xs) zero below is = cc
    within (x ∷ xs) (suc i) below is = within xs i (omega arith) is

    by : (o : Option (List MsrpKey)) → slice_get sets j ≡ o → slice_get (marked_elsewhere key_cmp at new sets) j ≡ option_map (λ set. if j == at then set else all_marked key_cmp new set) o
        → is_awaiting key_cmp key (keys_or_none (slice_get (marked_elsewhere key_cmp at new sets) j)) ≡ (is_awaiting key_cmp key new || is_awaiting key_cmp key (keys_or_none o))
    by None is e = absurd (within sets j below is)
    by (Some set) is e =
        let other : (j == at) ≡ false = grind (arith, nat_tests, ne) in
        rw e (rw other (awaits.among key new set))

-- the side once a port is settled
after_is : (at : ℕ) (side : Streams) (p : PortState) → slice_get side.ports at ≡ Some p
    → settled_streams at side
    ≡ record side {
      ports = slice_set side.ports at (settled_at at side p);
      awaiting = slice_set (marked_elsewhere key_cmp at (moved_keys at side p) side.awaiting) at [];
    }
after_is at side p here = rw here refl

pub none_awaits : (at : ℕ) (side : Streams) (p : PortState) → slice_get side.ports at ≡ Some p → awaiting_at at (settled_streams at side) ≡ []
none_awaits at side p here =
    ap (λ (s : Streams). awaiting_at at s) (after_is at side p here)
    ∙ emptied (marked_elsewhere key_cmp at (moved_keys at side p) side.awaiting) at

pub others_await : Awaits → (at other : ℕ) (side : Streams) (before after : PortState) (key : MsrpKey)
    → slice_get side.ports at ≡ Some before → slice_get (settled_streams at side).ports at ≡ Some after
    → at ≢ other → other < length side.awaiting
    → is_awaiting key_cmp key (awaiting_at other (settled_streams at side))
    ≡ (is_awaiting key_cmp key (listener_keys (moved_streams before.ledger after.ledger)) || is_awaiting key_cmp key (awaiting_at other side))
others_await awaits at other side before after key here there ne below =
    let sets : List (List MsrpKey) = marked_elsewhere key_cmp at (moved_keys at side before) side.awaiting in
    let whole = after_is at side before here in
    let port : settled_at at side before ≡ after =
    get-set_same side.ports at (settled_at at side before) after (sym (ap (λ (s : Streams). slice_get s.ports at) whole) ∙ there) in
    ap (λ (s : Streams). is_awaiting key_cmp key (awaiting_at other s)) whole
    ∙ (ap (λ (o : Option (List MsrpKey)). is_awaiting key_cmp key (keys_or_none o)) (get-set_other sets at other [] ne)
    ∙ (marked_there awaits (moved_keys at side before) side.awaiting at other key ne below
    ∙ ap (λ (p : PortState). is_awaiting key_cmp key (listener_keys (moved_streams before.ledger p.ledger)) || is_awaiting key_cmp key (awaiting_at other side)) port))

pub others_stay : (at other : ℕ) (side : Streams) → at ≢ other → slice_get (settled_streams at side).ports other ≡ slice_get side.ports other
others_stay at other side ne = by (slice_get side.ports at) refl
  where
    by : (o : Option PortState) → slice_get side.ports at ≡ o → slice_get (settled_streams at side).ports other ≡ slice_get side.ports other
    by None e = rw e refl
    by (Some p) e = ap (λ (s : Streams). slice_get s.ports other) (after_is at side p e) ∙ get-set_other side.ports at other (settled_at at side p) ne
