-- The participant of MSRP at a port, with the keys and contents that MSRPDUs carry (IEEE Std
-- 802.1Q-2018, 35.2.2).
use Rattle.std.specs.Prelude.{◌≡◌, Bool, List, fold, Option, Some, None}
use Rattle.std.specs.declared.cmp.Ordering.{Ordering}
use Rattle.srp_base.specs.declared.{numbers.Cs.Cs, numbers.StreamId.StreamId, streams.ListenerKind.ListenerKind, streams.TalkerReg.TalkerReg}
use Rattle.srp_base.specs.declared.streams.TalkerReg.TheVariants as regs
use Rattle.mrp_participant.specs.declared.row.Row.{Row}
use Rattle.mrp_participant.specs.{Lookup.find, State.State, State.is_active, State.registered_at, State.declared_state, State.withdrawn_state, State.received_state, State.changed_keys, State.sent_events, State.sent_state}
use Rattle.msrp_codec.specs.declared.{pdu.MsrpKey.MsrpKey, pdu.MsrpContent.MsrpContent, pdu.MsrpPdu.MsrpPdu}
use Rattle.msrp_codec.specs.declared.pdu.MsrpKey.TheVariants as keys
use Rattle.msrp_codec.specs.declared.pdu.MsrpContent.TheVariants.{Advertise, Failed, Listener, Domain}
use Rattle.msrp_codec.specs.{contracts.pdu.MsrpKeyOrd.TheImpl.ghosts as key_order, contracts.pdu.MsrpContentPartialEq.TheImpl.ghosts as content_equality, Content.Belongs, Content.octets_of, Content.base_octets}
use Rattle.srp_base.specs.contracts.numbers.StreamIdOrd.TheImpl.{ghosts as stream_order}

-- the state of a port's participant, with a row for each Talker, Listener or Domain key that it
-- keeps something of
abbrev pub Part : Type 0
Part = State MsrpKey MsrpContent

-- the order of keys: Talkers, then Listeners, then Domains, each ascending by number
abbrev pub key_cmp : MsrpKey → MsrpKey → Ordering
key_cmp = key_order.cmp

-- whether two contents are one: of one type, and the same in each field
abbrev pub same_content : MsrpContent → MsrpContent → Bool
same_content = content_equality.eq

-- the order of streams
abbrev pub stream_cmp : StreamId → StreamId → Ordering
stream_cmp = stream_order.cmp

-- the participant after it received a PDU
abbrev pub received_part : Cs → MsrpPdu → Part → Part
received_part now pdu s = received_state key_cmp now pdu.leave_all pdu.events s

-- the keys whose registration or registered content a received PDU changes, ascending
abbrev pub told_by_receipt : Cs → MsrpPdu → Part → List MsrpKey
told_by_receipt now pdu s = changed_keys key_cmp same_content s.rows (received_part now pdu s).rows

-- the PDU that is sent: a LeaveAll where the LeaveAll machine is Active, and what those rows say
-- that find room in it
abbrev pub pdu_sent : Cs → Part → MsrpPdu
pdu_sent now s =
    record {
      leave_all = is_active s.leave_all;
      events = sent_events base_octets octets_of key_cmp now s;
    }

-- the participant after it sent its PDU
abbrev pub sent_part : Cs → Part → Part
sent_part now s = sent_state base_octets octets_of key_cmp now s

-- what a content says of a Talker; no Listener and no Domain says anything
abbrev pub talker_reg_of : Option MsrpContent → TalkerReg
talker_reg_of None = regs.Absent
talker_reg_of (Some (Advertise talker)) = regs.Advertise talker
talker_reg_of (Some (Failed talker failure)) = regs.Failed talker failure
talker_reg_of (Some (Listener kind)) = regs.Absent
talker_reg_of (Some (Domain priority vid)) = regs.Absent

-- what a content says of Listeners
abbrev pub listener_kind_of : Option MsrpContent → Option ListenerKind
listener_kind_of (Some (Listener kind)) = Some kind
listener_kind_of _ = None

-- what is registered of a stream's Talker
abbrev pub registered_talker : StreamId → Part → TalkerReg
registered_talker stream s = talker_reg_of (registered_at key_cmp (keys.Talker stream) s)

-- what is registered of a stream's Listeners, if anything
abbrev pub registered_listener : StreamId → Part → Option ListenerKind
registered_listener stream s = listener_kind_of (registered_at key_cmp (keys.Listener stream) s)

-- the content by which a Talker is declared
abbrev pub talker_content : TalkerReg → Option MsrpContent
talker_content regs.Absent = None
talker_content (regs.Advertise talker) = Some (Advertise talker)
talker_content (regs.Failed talker failure) = Some (Failed talker failure)

-- a key is declared with a content, or withdrawn where it has none
abbrev pub settled_as : MsrpKey → Option MsrpContent → Part → Part
settled_as key None s = withdrawn_state key_cmp key s
settled_as key (Some content) s = declared_state key_cmp same_content key content s

-- these keys are declared with what a rule gives them, or withdrawn, in this order
abbrev pub settled_part : (MsrpKey → Option MsrpContent) → List MsrpKey → Part → Part
settled_part rule keys s = fold (λ (t : Part) (key : MsrpKey). settled_as key (rule key) t) s keys

-- of each key that has a row, the declared and the registered content are of that key
pub record HasOwnContents (s : Part) : Type 0 where
  pub declared : (key : MsrpKey) (r : Row MsrpKey MsrpContent)
      → find key_cmp key s.rows ≡ Some r → Belongs key r.content
  pub registered : (key : MsrpKey) (r : Row MsrpKey MsrpContent)
      → find key_cmp key s.rows ≡ Some r → Belongs key r.heard
