-- Values that change in one PDU. To MRP the value of a Talker or a Domain is part of the attribute: a
-- Talker that goes from Failed to Advertise or asks for more, and a Domain of another priority or VID,
-- are an attribute that is withdrawn and another that is declared (IEEE Std 802.1Q-2018, 10.8,
-- 35.2.2.8, 35.2.2.9). Here they are one key with two contents, and what is declared is what stands: so
-- that withdrawal says nothing, wherever in the PDU it is.
use Rattle.std.specs.Prelude.{Bool, true, false, not, ◌&&◌, ◌||◌, List, filter, Option, Some, None}
use Rattle.std.specs.{List.list_any, BTreeMap.BTreeMap, BTreeMap.get}
use Rattle.mrp_participant.specs.{Lookup.same, Sending.is_leave}
use Rattle.msrp.specs.Part.{key_cmp, same_content}
use Rattle.msrp_codec.specs.declared.pdu.{MsrpKey.MsrpKey, MsrpContent.MsrpContent}
use Rattle.msrp_codec.specs.declared.pdu.MsrpKey.TheVariants.{Talker, Listener, Domain}
use Rattle.replay_words.specs.declared.replaced.KeyContents.{KeyContents}
use Rattle.replay_words.specs.Doubles.{StreamEvent, is_declaring}

-- whether the content of a key is part of the attribute: a Listener's kind isn't (35.2.2.7.2)
abbrev pub has_value : MsrpKey → Bool
has_value (Talker stream) = true
has_value (Listener stream) = false
has_value (Domain class) = true

-- whether an event declares another content of a key
abbrev pub declares_other : MsrpKey → MsrpContent → StreamEvent → Bool
declares_other key content e = is_declaring e.0 && (same key_cmp e.1 key && not (same_content e.2 content))

-- whether an event withdraws a value of a Talker or a Domain of which the PDU declares another
unfoldable pub is_replaced : List StreamEvent → StreamEvent → Bool
is_replaced events e = is_leave e.0 && (has_value e.1 && list_any (declares_other e.1 e.2) events)

-- the events of a PDU without these
unfoldable pub without_replaced : List StreamEvent → List StreamEvent
without_replaced events = filter (λ e. not (is_replaced events e)) events

-- whether another content than one is declared of a key, by what is kept of that key
abbrev pub is_other : Option KeyContents → MsrpContent → Bool
is_other None content = false
is_other (Some d) content = d.others || not (same_content d.content content)

-- whether an event withdraws a value of which another is declared, by what is kept of each key
abbrev pub is_replaced_by : BTreeMap MsrpKey KeyContents → StreamEvent → Bool
is_replaced_by declared e = is_leave e.0 && (has_value e.1 && is_other (get key_cmp declared e.1) e.2)
