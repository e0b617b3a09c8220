-- A link of all three applications of MRP: what is printed of what an end sends, of what arrives at
-- the other, and of a moment, and what becomes of the link.
use Rattle.std.specs.Prelude.{ℕ, ◌+◌, List, [], ◌++◌, Result, Ok, Err}
use Rattle.std.specs.Ordering.{nat_cmp}
use Rattle.srp_base.specs.declared.numbers.Cs.{Cs}
use Rattle.attribute_propagation.specs.Dirty.{all_marked}
use Rattle.flat_side.specs.Part.{same_content as same_nothing}
use Rattle.link_replay.specs.declared.lines.End.{End}
use Rattle.link_replay.specs.{Moments.cs_cmp, BothWays.ways_ends_up_to, BothWays.ways_passing_text, BothWays.ways_let_go, BothWays.saying_text, LinkWatch.LinkState, LinkWatch.unseen_link, LinkWatch.link_passing, LinkWatch.link_saying, LinkWatch.link_arriving, LinkWatch.arriving_text, LinkWatch.link_judged, LinkWatch.judging_text, LinkWatch.link_broken}
use Rattle.mmrp_codec.specs.{Meaning.mmrp_reading, declared.pdu.GroupPdu.GroupPdu}
use Rattle.mrpdu_codec.specs.declared.form.AppForm.{AppForm}
use Rattle.mrpdu_codec.specs.declared.form.AppForm.TheVariants.{Mvrp, Msrp, Mmrp}
use Rattle.msrp.specs.Part.{key_cmp, same_content}
use Rattle.msrp_codec.specs.{Meaning.msrp_reading, declared.pdu.MsrpKey.MsrpKey, declared.pdu.MsrpContent.MsrpContent, declared.pdu.MsrpPdu.MsrpPdu}
use Rattle.mvrp_codec.specs.{Meaning.mvrp_reading, declared.pdu.MvrpPdu.MvrpPdu}
use Rattle.pdu_words.specs.Events.{key_text, content_text}
use Rattle.replay_words.specs.{Apps.vlan_text, Apps.group_text, Apps.no_text, Apps.vlan_messages, Apps.stream_messages, Apps.group_messages, Lines.malformed_line, Doubles.doubles_text, Doubles.doubles_count}

-- the link of each application
pub record Watched : Type 0 where
  pub vlans : LinkState ℕ (Unit {0})
  pub streams : LinkState MsrpKey MsrpContent
  pub groups : LinkState ℕ (Unit {0})

-- of which nothing was seen yet
abbrev pub new_watched : Cs → Watched
new_watched leave_time = record { vlans = unseen_link leave_time; streams = unseen_link leave_time; groups = unseen_link leave_time }

-- ---- time

-- the moments up to this one at which leave timers end, each once and in order
unfoldable pub watched_ends : Cs → Watched → List Cs
watched_ends at w =
    all_marked cs_cmp (ways_ends_up_to at w.vlans.ways ++ (ways_ends_up_to at w.streams.ways ++ ways_ends_up_to at w.groups.ways)) []

-- after a moment
unfoldable pub watched_passing : Cs → Watched → Watched
watched_passing at w = record { vlans = link_passing at w.vlans; streams = link_passing at w.streams; groups = link_passing at w.groups }

-- what is printed of a moment
unfoldable pub watched_passing_text : Cs → Watched → List ℕ
watched_passing_text at w =
    ways_passing_text nat_cmp vlan_text at w.vlans.ways
    ++ (ways_passing_text key_cmp key_text at w.streams.ways ++ ways_passing_text nat_cmp group_text at w.groups.ways)

-- how many attributes are let go at a moment
unfoldable pub watched_let_go : Cs → Watched → ℕ
watched_let_go at w =
    ways_let_go nat_cmp at w.vlans.ways + (ways_let_go key_cmp at w.streams.ways + ways_let_go nat_cmp at w.groups.ways)

-- ---- what is on its way, once it is with the other end

-- after it
unfoldable pub watched_arriving : Cs → Watched → Watched
watched_arriving at w =
    record { vlans = link_arriving nat_cmp at w.vlans; streams = link_arriving key_cmp at w.streams; groups = link_arriving nat_cmp at w.groups }

-- what is printed of it, by application
unfoldable pub watched_arriving_text : Cs → Watched → List ℕ
watched_arriving_text at w =
    arriving_text nat_cmp same_nothing vlan_text no_text at w.vlans
    ++ (arriving_text key_cmp same_content key_text content_text at w.streams ++ arriving_text nat_cmp same_nothing group_text no_text at w.groups)

-- ---- the words on registrars that disagreed when they were said, judged anew

-- after that
unfoldable pub watched_judged : Watched → Watched
watched_judged w = record { vlans = link_judged w.vlans; streams = link_judged w.streams; groups = link_judged w.groups }

-- what is printed of those that were said at a moment
unfoldable pub watched_judging_text : Cs → Watched → List ℕ
watched_judging_text at w =
    judging_text nat_cmp vlan_text at w.vlans ++ (judging_text key_cmp key_text at w.streams ++ judging_text nat_cmp group_text at w.groups)

-- how many are broken
unfoldable pub watched_broken : Watched → ℕ
watched_broken w = link_broken nat_cmp w.vlans + (link_broken key_cmp w.streams + link_broken nat_cmp w.groups)

-- ---- what an end sends, by its reading as a PDU of an application; a malformed one is passed over

-- after it, of MVRP
unfoldable pub after_vlans : Cs → End → Result MvrpPdu ℕ → Watched → Watched
after_vlans at who (Ok pdu) w = record w { vlans = link_saying nat_cmp at who (vlan_messages pdu) w.vlans }
after_vlans at who (Err place) w = w

-- of MSRP
unfoldable pub after_streams : Cs → End → Result MsrpPdu ℕ → Watched → Watched
after_streams at who (Ok pdu) w = record w { streams = link_saying key_cmp at who (stream_messages pdu) w.streams }
after_streams at who (Err place) w = w

-- of MMRP
unfoldable pub after_groups : Cs → End → Result GroupPdu ℕ → Watched → Watched
after_groups at who (Ok pdu) w = record w { groups = link_saying nat_cmp at who (group_messages pdu) w.groups }
after_groups at who (Err place) w = w

-- of any of them
unfoldable pub after_octets : Cs → End → AppForm → List ℕ → Watched → Watched
after_octets at who Mvrp octets w = after_vlans at who (mvrp_reading octets) w
after_octets at who Msrp octets w = after_streams at who (msrp_reading octets) w
after_octets at who Mmrp octets w = after_groups at who (mmrp_reading octets) w

-- what is printed of it, of MVRP
unfoldable pub vlans_text : Cs → End → Result MvrpPdu ℕ → Watched → List ℕ
vlans_text at who (Ok pdu) w = saying_text vlan_text at who (vlan_messages pdu) w.vlans.ways
vlans_text at who (Err place) w = malformed_line at who Mvrp place

-- of MSRP
unfoldable pub streams_text : Cs → End → Result MsrpPdu ℕ → Watched → List ℕ
streams_text at who (Ok pdu) w = doubles_text at who pdu.events ++ saying_text key_text at who (stream_messages pdu) w.streams.ways
streams_text at who (Err place) w = malformed_line at who Msrp place

-- of MMRP
unfoldable pub groups_text : Cs → End → Result GroupPdu ℕ → Watched → List ℕ
groups_text at who (Ok pdu) w = saying_text group_text at who (group_messages pdu) w.groups.ways
groups_text at who (Err place) w = malformed_line at who Mmrp place

-- of any of them
unfoldable pub octets_text : Cs → End → AppForm → List ℕ → Watched → List ℕ
octets_text at who Mvrp octets w = vlans_text at who (mvrp_reading octets) w
octets_text at who Msrp octets w = streams_text at who (msrp_reading octets) w
octets_text at who Mmrp octets w = groups_text at who (mmrp_reading octets) w

-- how much of a PDU is broken in itself: double Talkers, or all of it; of MVRP
unfoldable pub vlans_broken : Result MvrpPdu ℕ → ℕ
vlans_broken (Ok pdu) = 0
vlans_broken (Err place) = 1

-- of MSRP
unfoldable pub streams_broken : Result MsrpPdu ℕ → ℕ
streams_broken (Ok pdu) = doubles_count pdu.events
streams_broken (Err place) = 1

-- of MMRP
unfoldable pub groups_broken : Result GroupPdu ℕ → ℕ
groups_broken (Ok pdu) = 0
groups_broken (Err place) = 1

-- of any of them
unfoldable pub octets_broken : AppForm → List ℕ → ℕ
octets_broken Mvrp octets = vlans_broken (mvrp_reading octets)
octets_broken Msrp octets = streams_broken (msrp_reading octets)
octets_broken Mmrp octets = groups_broken (mmrp_reading octets)
