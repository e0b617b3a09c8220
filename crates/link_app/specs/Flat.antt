-- A side whose attributes are keys that go everywhere (flat_side), in the words of an application
-- at link ports.
use Rattle.std.specs.Prelude.{◌≡◌, ◌≤◌, ℕ, Bool, true, false, if◌then◌else◌, List, [], length, filter_map, Option, Some, None, slice_get, Result, Ok, Err}
use Rattle.std.specs.{declared.cmp.Ordering.Ordering, List.list_all, Option.option_map_or}
use Rattle.srp_base.specs.declared.{numbers.Cs.Cs, ports.PortSetup.PortSetup}
use Rattle.mrp_participant.specs.{Link.Link, Link.AreDutiesMet, Lookup.find, Row.is_leaving_in, State.Messages, State.is_silent, State.due_count}
use Rattle.attribute_propagation.specs.Ports.{count_of}
use Rattle.flat_side.specs.{Part.Part, Part.said_events, Codec.Codec, Keys.IsProper, Side.FlatState, Side.are_still, Side.awaiting_at, Side.due_flat, Side.is_busy, Side.leave_all_flat, Side.left_flat, Side.new_flat, Side.pdu_sent, Side.periodic_flat, Side.received_flat, Side.requested_flat, Side.sent_flat, Side.settled_flat, Side.spoilt_flat}
use Rattle.link_app.specs.declared.flat.KeyRequest.{KeyRequest}
use Rattle.link_app.specs.declared.flat.KeyRequest.TheVariants.{Declare, Withdraw}
use Rattle.link_app.specs.{Wires.NamedOctets, Words.AppWords}

-- a PDU on its way, of the one application that there is
abbrev pub OnePdu : Type 0
OnePdu = NamedOctets (Unit {0})

-- something of the participant at a place, or what there is for none
abbrev pub of_part : {K X : Type 0} → (Part K → X) → X → ℕ → FlatState K → X
of_part f none at side = option_map_or f (slice_get side.parts at) none

-- a side that was just made
pub record IsNewFlat {K : Type 0} (side : FlatState K) : Type 0 where
  pub leave_time : Cs
  pub periodic : Bool
  pub ports : List PortSetup
  pub is_new : side ≡ new_flat leave_time periodic ports

module _ {K Pdu : Type 0} (codec : Codec K Pdu) where
  -- the number of events of a PDU, or the place where its octets are malformed
  abbrev pub counted : Result Pdu ℕ → Result ℕ ℕ
  counted (Ok pdu) = Ok (count_of (length (codec.events_of pdu)))
  counted (Err place) = Err place

  -- what a PDU says to a participant; malformed octets say nothing
  abbrev pub said_by : Result Pdu ℕ → Option (Messages K (Unit {0}))
  said_by (Ok pdu) =
      Some (record {
        leave_all = codec.leave_all_of pdu;
        events = said_events (codec.events_of pdu);
      })
  said_by (Err place) = None

  -- what a PDU on its way says, if anything
  abbrev pub message_of : OnePdu → Option (Messages K (Unit {0}))
  message_of pdu = said_by (codec.reading pdu.octets)

  -- the link between two participants with these PDUs on their way
  abbrev pub link_of : Part K → Part K → List OnePdu → List OnePdu → Link K (Unit {0})
  link_of near far there from =
      record {
        near = near;
        far = far;
        sent = filter_map message_of there;
        coming = filter_map message_of from;
      }

module _ {K : Type 0} (cmp : K → K → Ordering) where
  -- what the application asks for
  abbrev pub asked : KeyRequest K → FlatState K → FlatState K
  asked (Declare key) side = requested_flat cmp key true side
  asked (Withdraw key) side = requested_flat cmp key false side

  -- it is one of the application's keys
  abbrev pub IsOfKey : (K → Type 0) → KeyRequest K → Type 0
  IsOfKey IsKey (Declare key) = IsKey key
  IsOfKey IsKey (Withdraw key) = IsKey key

  -- whether the registrar of a key at a place is LV
  abbrev pub is_leaving_at : K → ℕ → FlatState K → Bool
  is_leaving_at key at side = of_part (λ part. is_leaving_in (find cmp key part.rows)) false at side

module _ {K Pdu : Type 0} (cmp : K → K → Ordering) (codec : Codec K Pdu) where
  -- what a PDU says acts at a place; where it is malformed, nothing does
  abbrev pub heard : Cs → ℕ → Result Pdu ℕ → FlatState K → FlatState K
  heard now at (Ok pdu) side =
      received_flat cmp now at (codec.leave_all_of pdu) (codec.events_of pdu) side
  heard now at (Err place) side = side

  -- the octets that the participant at a place has to say, if any, in their one spelling
  abbrev pub said : ℕ → (Unit {0} → ℕ) → Cs → ℕ → FlatState K → Option (List ℕ)
  said base octets now at side =
      of_part
      (λ part.
      if is_silent part then None
      else Some (codec.spelling (pdu_sent cmp codec base octets now part)))
      None at side

  -- the words of a flat side
  abbrev pub flat_words : (K → Type 0) → ℕ → (Unit {0} → ℕ) → AppWords (Unit {0}) K (KeyRequest K)
  flat_words IsKey base octets =
      record {
        State = FlatState K;
        Part = λ app. Part K;
        ports_of = λ side. length side.parts;
        part_at = λ app at side. slice_get side.parts at;
        is_still = are_still;
        is_busy = is_busy;
        are_sound = λ side. list_all (λ part. part.sound) side.parts;
        reading = λ app pdu. counted codec (codec.reading pdu);
        after_receipt = λ app now at pdu side. heard now at (codec.reading pdu) side;
        due_count = λ now at side. of_part (due_count now) 0 at side;
        after_due = due_flat cmp;
        awaiting_count = λ at side. length (awaiting_at at side);
        after_settling = settled_flat cmp;
        is_leaving = is_leaving_at cmp;
        after_leave = λ key at side. left_flat cmp at key side;
        after_leave_all = λ app now at side. leave_all_flat now at side;
        after_periodic = λ app at side. periodic_flat at side;
        octets_to_say = λ app now at side. said base octets now at side;
        after_sending = λ app now at side. sent_flat cmp base octets now at side;
        after_request = asked cmp;
        after_spoiling = λ app at side. spoilt_flat at side;
        after_clock = λ now side. side;
        IsFit = λ app pdu. length pdu ≤ 1500;
        IsAskable = IsOfKey cmp IsKey;
        IsAt = λ now side. Unit {0};
        CanClock = λ now side. Unit {0};
        IsIdle = λ side. side.own ≡ [];
        IsNew = IsNewFlat;
        IsKept = IsProper cmp IsKey;
        AreDutiesMet = λ app near far there from.
            AreDutiesMet cmp (link_of codec near far there from);
      }
