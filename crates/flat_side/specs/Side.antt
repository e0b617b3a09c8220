-- An application at a node whose attributes go everywhere (IEEE Std 802.1Q-2018, 10.3): its state,
-- and the state after each call.
use Rattle.std.specs.Prelude.{◌≡◌, ◌⊎◌, ℕ, suc, Bool, true, false, ◌&&◌, ◌||◌, if◌then◌else◌, List, [], ◌∷◌, length, map, Option, Some, None, slice_get, slice_set, Contains, Result, Ok, Err, IfSome}
use Rattle.std.specs.{declared.cmp.Ordering.Ordering, List.AllByRecursion, List.list_all, List.list_any}
use Rattle.srp_base.specs.declared.{numbers.Cs.Cs, mrp.MrpEvent.MrpEvent, ports.PortSetup.PortSetup, memory.NoMemory.NoMemory}
use Rattle.mrpdu_codec.specs.declared.error.DecodeErr.{DecodeErr}
use Rattle.mrpdu_codec.specs.declared.error.DecodeErr.TheVariants as errors
use Rattle.mrp_participant.specs.{Lookup.find, Row.is_leaving_in, State.AreRows, State.is_active, State.is_silent, State.is_still, State.is_any_due, State.declared_at, State.registered_at, State.new_state, State.left_state, State.left_keys, State.due_state, State.received_state, State.changed_keys, State.leave_all_state, State.periodic_state, State.sent_events, State.sent_state}
use Rattle.attribute_propagation.specs.{Dirty.IsAscending, Dirty.is_awaiting, Dirty.with_key, Dirty.without_key, Flat.elsewhere, Ports.count_of, Ports.keys_at, Ports.marked_elsewhere, Ports.marked_everywhere, Ports.new_sets, Ports.none_awaits, Ports.some_awaits}
use Rattle.flat_side.specs.{Part.Part, Part.same_content, Part.key_events, Part.received_part, Part.told_by_receipt, Part.declares, Part.registers, Part.settled_part, Codec.Codec, Codec.IsWritten}

-- the participants of the link ports, in the order of the ports; the keys that await settling at
-- each, ascending; and the keys that the application declares, ascending
pub record FlatState (K : Type 0) : Type 0 where
  pub parts : List (Part K)
  pub awaiting : List (List K)
  pub own : List K

module _ {K : Type 0} where
  -- the side that is made with a participant; where there is none, it stays as it is
  abbrev pub with_part : Option (Part K) → (Part K → FlatState K) → FlatState K → FlatState K
  with_part None make side = side
  with_part (Some s) make side = make s

  -- the side that is made with the participant at a place; where none is there, it stays as it is
  abbrev pub at_part : ℕ → (Part K → FlatState K) → FlatState K → FlatState K
  at_part at make side = with_part (slice_get side.parts at) make side

  -- the participants that are made with one of them; where there is none, they stay as they are
  abbrev pub parts_by : Option (Part K) → (Part K → List (Part K)) → List (Part K) → List (Part K)
  parts_by None make parts = parts
  parts_by (Some s) make parts = make s

  -- a participant has become another and has told none
  abbrev pub with_part_at : ℕ → Part K → FlatState K → FlatState K
  with_part_at at s side = record side { parts = slice_set side.parts at s }

  -- the keys that await at a port
  abbrev pub awaiting_at : ℕ → FlatState K → List K
  awaiting_at at side = keys_at at side.awaiting

  -- ---- the side after a call that looks at no key

  -- a new side: no key is declared or registered, and none awaits
  abbrev pub new_flat : Cs → Bool → List PortSetup → FlatState K
  new_flat leave_time periodic ports =
      record { parts = map (λ p. new_state p.period leave_time periodic) ports; awaiting = new_sets ports; own = [] }

  -- the LeaveAll timer has fired at a place: the LeaveAll machine is Active, and the timer restarts
  -- (10.7.9)
  abbrev pub leave_all_flat : Cs → ℕ → FlatState K → FlatState K
  leave_all_flat now at side = at_part at (λ s. with_part_at at (leave_all_state now s) side) side

  -- every Applicant at a place has taken the periodic event; the periodic timer stays as it is
  abbrev pub periodic_flat : ℕ → FlatState K → FlatState K
  periodic_flat at side = at_part at (λ s. with_part_at at (periodic_state s) side) side

  -- the participant at a place isn't sound any more, as after the loss of a PDU on its link
  abbrev pub spoilt_flat : ℕ → FlatState K → FlatState K
  spoilt_flat at side = at_part at (λ (s : Part K). with_part_at at (record s { sound = false }) side) side

  -- ---- what a side has to do

  -- whether nothing is pending at any port: every participant is at rest, and no key awaits
  abbrev pub are_still : FlatState K → Bool
  are_still side = list_all is_still side.parts && none_awaits side.awaiting

  -- whether at some port a timer is due at a moment, or a key awaits
  abbrev pub is_busy : Cs → FlatState K → Bool
  is_busy now side = list_any (is_any_due now) side.parts || some_awaits side.awaiting

module _ {K : Type 0} (cmp : K → K → Ordering) where
  -- whether the application declares a key
  abbrev pub has_own : K → FlatState K → Bool
  has_own key side = is_awaiting cmp key side.own

  -- where the application and each link port have a key registered, the application first
  abbrev pub places_of : K → List K → List (Part K) → List Bool
  places_of key own parts = is_awaiting cmp key own ∷ map (registers cmp key) parts

  -- the flat rule at a place: a port other than the one there, or the application, has the key
  -- registered
  abbrev pub rule_at : ℕ → List K → List (Part K) → K → Bool
  rule_at at own parts key = elsewhere (suc at) (places_of key own parts)

  -- the flat rule at a port of a side: whether it is to declare a key
  abbrev pub is_flat : FlatState K → ℕ → K → Bool
  is_flat side at key = rule_at at side.own side.parts key

  -- ---- the side after a call

  -- a participant has become another and has told keys, which await at every other port
  abbrev pub with_told_part : ℕ → Part K → List K → FlatState K → FlatState K
  with_told_part at s keys side =
      record side { parts = slice_set side.parts at s; awaiting = marked_elsewhere cmp at keys side.awaiting }

  -- the participant at a place received a PDU, and the keys whose registration that changed await
  -- at every other port
  abbrev pub received_flat : Cs → ℕ → Bool → List (MrpEvent × K) → FlatState K → FlatState K
  received_flat now at leave_all events side =
      at_part at
      (λ s. with_told_part at (received_part cmp now leave_all events s) (told_by_receipt cmp now leave_all events s) side)
      side

  -- the same, for messages as a participant takes them
  abbrev pub heard_flat : Cs → ℕ → Bool → List (MrpEvent × K × Unit {0}) → FlatState K → FlatState K
  heard_flat now at leave_all events side =
      at_part at
      (λ s. with_told_part at (received_state cmp now leave_all events s)
      (changed_keys cmp same_content s.rows (received_state cmp now leave_all events s).rows) side)
      side

  -- all timers that are due at a place have fired, and the keys that left await at every other port
  abbrev pub due_flat : Cs → ℕ → FlatState K → FlatState K
  due_flat now at side = at_part at (λ s. with_told_part at (due_state now s) (left_keys now s) side) side

  -- the leave timer of one key ends: where its registrar was LV, the key leaves
  abbrev pub left_key : K → Part K → List K
  left_key key s = if is_leaving_in (find cmp key s.rows) then key ∷ [] else []

  -- the leave timer of one key has ended at a place, and where the key left, it awaits at every
  -- other port
  abbrev pub left_flat : ℕ → K → FlatState K → FlatState K
  left_flat at key side = at_part at (λ s. with_told_part at (left_state cmp key s) (left_key key s) side) side

  -- the participant at a place has sent its PDU, of which some octets are stated, and some of each
  -- key
  abbrev pub sent_flat : ℕ → (Unit {0} → ℕ) → Cs → ℕ → FlatState K → FlatState K
  sent_flat base octets now at side = at_part at (λ s. with_part_at at (sent_state base octets cmp now s) side) side

  -- the participants once these keys are settled at a place by the flat rule, in this order
  abbrev pub parts_settled : ℕ → List K → List K → List (Part K) → List (Part K)
  parts_settled at own keys parts =
      parts_by (slice_get parts at) (λ s. slice_set parts at (settled_part cmp (rule_at at own parts) keys s)) parts

  -- the keys that await at a port are settled by the flat rule, ascending, and none awaits there
  abbrev pub settled_flat : ℕ → FlatState K → FlatState K
  settled_flat at side = at_part at (λ s. record side {
    parts = slice_set side.parts at (settled_part cmp (is_flat side at) (awaiting_at at side) s);
    awaiting = slice_set side.awaiting at [];
  }) side

  -- the application declares a key or withdraws it; where that changes, the key awaits at every
  -- port
  abbrev pub requested_flat : K → Bool → FlatState K → FlatState K
  requested_flat key true side =
      if has_own key side then side
      else record side { own = with_key cmp key side.own; awaiting = marked_everywhere cmp (key ∷ []) side.awaiting }
  requested_flat key false side =
      if has_own key side
      then record side { own = without_key cmp key side.own; awaiting = marked_everywhere cmp (key ∷ []) side.awaiting }
      else side

  -- ---- what every side keeps

  -- each port's keys that don't await are declared there exactly by the flat rule
  abbrev pub IsFlatAt : FlatState K → ℕ → Type 0
  IsFlatAt side at =
      (s : Part K) (keys : List K) (key : K) → slice_get side.parts at ≡ Some s → slice_get side.awaiting at ≡ Some keys
      → is_awaiting cmp key keys ≡ false → declares cmp key s ≡ is_flat side at key

  -- what every side keeps: participants' rows, a set of awaiting keys for each, its own keys
  -- ascending, and the flat rule
  pub record IsKept (side : FlatState K) : Type 0 where
    pub rows : AllByRecursion (λ s. AreRows cmp s.rows) side.parts
    pub ports : length side.awaiting ≡ length side.parts
    pub own : IsAscending cmp side.own
    pub flat : (at : ℕ) → IsFlatAt side at

  -- ---- what the calls answer

  -- the PDU that is sent: a LeaveAll where the LeaveAll machine is Active, and what those rows say
  -- that find room in it
  abbrev pub pdu_sent : {Pdu : Type 0} → Codec K Pdu → ℕ → (Unit {0} → ℕ) → Cs → Part K → Pdu
  pdu_sent codec base octets now s = codec.pdu_of (is_active s.leave_all) (key_events (sent_events base octets cmp now s))

  -- a PDU was received: its reading has acted, or it is malformed and nothing has
  abbrev pub HasReceived : {Pdu : Type 0} → Codec K Pdu → Cs → ℕ → List ℕ → FlatState K → Result ℕ DecodeErr → FlatState K → Type 0
  HasReceived {Pdu} codec now at octets before (Ok n) after =
      (pdu : Pdu) × (codec.reading octets ≡ Ok pdu) × (n ≡ count_of (length (codec.events_of pdu)))
      × (after ≡ received_flat now at (codec.leave_all_of pdu) (codec.events_of pdu) before)
  HasReceived codec now at octets before (Err (errors.Malformed place)) after =
      (codec.reading octets ≡ Err place) × (after ≡ before)
  HasReceived codec now at octets before (Err errors.NoMemory) after = after ≡ before

  -- a port had nothing to say, and nothing changed; or it has said what it had in these octets
  abbrev pub HasSent : {Pdu : Type 0} → Codec K Pdu → ℕ → (Unit {0} → ℕ) → Cs → ℕ → FlatState K → Result (Option (List ℕ)) NoMemory → FlatState K → Type 0
  HasSent codec base octets now at before (Ok None) after =
      IfSome (slice_get before.parts at) (λ s. is_silent s ≡ true) × (after ≡ before)
  HasSent codec base octets now at before (Ok (Some said)) after =
      IfSome (slice_get before.parts at) (λ s. (is_silent s ≡ false) × IsWritten codec (pdu_sent codec base octets now s) said)
      × (after ≡ sent_flat base octets now at before)
  HasSent codec base octets now at before (Err e) after = after ≡ before

  -- ---- what a participant that takes the place of another owes

  -- the same keys are declared
  abbrev pub SameDeclared : Part K → Part K → Type 0
  SameDeclared before after = (key : K) → declared_at cmp key after ≡ declared_at cmp key before

  -- each key whose registration differs is told
  abbrev pub TellsEach : List K → Part K → Part K → Type 0
  TellsEach told before after =
      (key : K) → Contains told key ⊎ (registered_at cmp key after ≡ registered_at cmp key before)
