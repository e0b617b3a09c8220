-- A replay of a capture of a link between two nodes of this project follows the nodes from tick to tick.
use Rattle.std.proofs.Common.{◌≡◌, ◌≢◌, ◌∙◌, ◌<◌, ◌≤◌, ℕ, ◌+◌, ◌/◌, Bool, true, false, if◌then◌else◌, List, [], ◌∷◌, ◌++◌, map, fold, length, filter, inl, inr, refl, ap, sym, subst, arith}
use Rattle.std.specs.Prelude.{Option, Some, None, Result, Ok, Err, not, ◌||◌, ◌&&◌, nat_lt, option_to_list, option_and_then}
use Rattle.std.specs.{declared.cmp.Ordering.Ordering, Ordering.nat_cmp, Ordering.is_eq, List.AllByRecursion}
use Rattle.std.proofs.lemmas.Bool.Decides.{nat_tests}
use Rattle.srp_base.specs.declared.{numbers.Cs.Cs, numbers.StreamId.StreamId, mrp.MrpEvent.MrpEvent}
use Rattle.attribute_propagation.specs.Dirty.{is_awaiting, all_marked}
use Rattle.capture_file.specs.Packets.{Packet}
use Rattle.flat_side.specs.Part.{same_content as same_nothing}
use Rattle.link_replay.specs.declared.lines.End.{End}
use Rattle.link_replay.specs.declared.lines.End.TheVariants as at_end
use Rattle.link_replay.specs.{Moments.cs_cmp, BothWays.ways_ends_up_to, LinkWatch.LinkState, LinkWatch.link_saying, LinkWatch.judging_text}
use Rattle.link_replay.specs.Ticks.{Tick, Pair, Replayed, all_passing as link_all_passing, going_by, both_saying, said_at, is_quiet, pair_after, ready_a, ready_b, IsSentByBoth, sent_read, next_moment, broken_then}
use Rattle.link_replay.specs.Following.{AreMoments, Follows}
use Rattle.mrp_frames.specs.Frames.{Seen, frame_in}
use Rattle.mrp_participant.specs.{State.State, State.Messages, State.AreRows, State.is_silent, State.sent_events, State.event_sent, Lookup.same, Lookup.find}
use Rattle.mrpdu_codec.specs.declared.form.AppForm.{AppForm}
use Rattle.mrpdu_codec.specs.declared.form.AppForm.TheVariants.{Mvrp, Msrp, Mmrp}
use Rattle.msrp.specs.Part.{key_cmp, same_content, stream_cmp}
use Rattle.msrp_codec.specs.{Content.base_octets, Content.octets_of, Meaning.msrp_reading, Writing.in_type_order, Writing.of_key}
use Rattle.msrp_codec.specs.declared.pdu.{MsrpKey.MsrpKey, MsrpContent.MsrpContent, MsrpPdu.MsrpPdu}
use Rattle.mvrp.specs.Part.{base as vlan_base, octets as vlan_octets}
use Rattle.mvrp_codec.specs.{Meaning.mvrp_reading, declared.pdu.MvrpPdu.MvrpPdu}
use Rattle.mmrp_codec.specs.{Meaning.mmrp_reading, declared.pdu.GroupPdu.GroupPdu}
use Rattle.replay_words.specs.declared.ends.Ends.{Ends}
use Rattle.pdu_words.specs.Events.{key_text}
use Rattle.replay_words.specs.{group_base, group_octets, vlan_text, group_text, watched_judging_text, end_at, Watched.Watched, watched_ends, watched_passing, watched_arriving, watched_judged, watched_broken, after_vlans, after_streams, after_groups, after_octets, vlans_broken, streams_broken, groups_broken, octets_broken, risen, LinkSeen, moment_after, arrived, seen_arriving, seen_passing, all_passing, ending_by, seen_later, seen_at, after_said, said_broken, seen_said, seen_from, seen_frame, after_packet, after_packets, PlainSaid, StreamsSaid, vlans_read, streams_read, groups_read, vlans_said, streams_said, groups_said, said_from, said_in, all_said, is_unread, is_malformed, IsSoundFrom, IsSoundAs, IsSound, Pairs, LinkTick, tick_of, as_written, AreVlansSent, AreStreamsSent, AreGroupsSent, pairs_after, IsCaptured, AreCaptured, frames_of, new_seen}
use Rattle.replay_words.proofs.OneEach.{IsOnce, AreOwn, no_doubles, all_left}
use Rattle.replay_words.proofs.Runs.{of_frame}
use Rattle.replay_words.proofs.UpTo.{ends_up_to}

-- ---- one application

-- the laws of a run and its replay that are cited, of an application
pub record Rules {K C : Type 0} (base : ℕ) (octets : C → ℕ) (cmp : K → K → Ordering) (eq : C → C → Bool)
    (read : List (MrpEvent × K × C) → List (MrpEvent × K × C)) : Type 0 where
  pub passed_over : (tick : Tick K C) (pair : Pair K C) (replayed : Replayed K C) → is_quiet base octets cmp eq read tick pair ≡ true
      → Follows base octets cmp eq read tick.at pair replayed
      → Follows base octets cmp eq read (next_moment tick.at) (pair_after base octets cmp eq read pair tick) replayed
  pub gone_to : (tick : Tick K C) (pair : Pair K C) (replayed : Replayed K C) (moments : List Cs) (said : List (End × Messages K C))
      → AreMoments cmp tick.at replayed moments
      → IsSentByBoth base octets cmp eq read tick pair said
      → Follows base octets cmp eq read tick.at pair replayed
      → Follows base octets cmp eq read (next_moment tick.at) (pair_after base octets cmp eq read pair tick)
      (said_at cmp tick.at moments said replayed)
  pub unbroken : (next : Cs) (pair : Pair K C) (replayed : Replayed K C) → Follows base octets cmp eq read next pair replayed
      → broken_then cmp replayed ≡ 0

-- where both ends send nothing, both are silent
quiet_by : {M : Type 0} (one other : End) (a b : Bool) (m n : M)
    → ◌≡◌ {A = List (End × M)} [] (map (λ m. (one, m)) (if a then [] else m ∷ []) ++ map (λ m. (other, m)) (if b then [] else n ∷ []))
    → (a && b) ≡ true
quiet_by one other true true m n h = refl
quiet_by one other true false m n h = cc
quiet_by one other false true m n h = cc
quiet_by one other false false m n h = cc

turned : (a b : Bool) → (b && a) ≡ true → (a && b) ≡ true
turned true true h = refl
turned true false h = cc
turned false true h = cc
turned false false h = cc

module _ {K C : Type 0} (base : ℕ) (octets : C → ℕ) (cmp : K → K → Ordering) (eq : C → C → Bool)
    (read : List (MrpEvent × K × C) → List (MrpEvent × K × C)) where
  is_quiet_by : (t : Tick K C) (p : Pair K C) → IsSentByBoth base octets cmp eq read t p [] → is_quiet base octets cmp eq read t p ≡ true
  is_quiet_by t p (inl h) =
      let a = ready_a base octets cmp eq read t p in
      let b = ready_b base octets cmp eq read t p in
      quiet_by at_end.A at_end.B (not t.asks_a.sends || is_silent a) (not t.asks_b.sends || is_silent b)
      (sent_read base octets cmp eq read t.at a) (sent_read base octets cmp eq read t.at b) h
  is_quiet_by t p (inr h) =
      let a = ready_a base octets cmp eq read t p in
      let b = ready_b base octets cmp eq read t p in
      turned (not t.asks_a.sends || is_silent a) (not t.asks_b.sends || is_silent b)
      (quiet_by at_end.B at_end.A (not t.asks_b.sends || is_silent b) (not t.asks_a.sends || is_silent a)
      (sent_read base octets cmp eq read t.at b) (sent_read base octets cmp eq read t.at a) h)

say_on : {K C : Type 0} (cmp : K → K → Ordering) (at : Cs) (l : LinkState K C) (said more : List (End × Messages K C))
    → both_saying cmp at l (said ++ more) ≡ both_saying cmp at (both_saying cmp at l said) more
say_on cmp at l [] more = refl
say_on cmp at l (x ∷ said) more = say_on cmp at (link_saying cmp at x.0 x.1 l) said more

-- ---- a frame

module _ (at : Cs) (who : End) (w : Watched) where
  by_vlans : (r : Result MvrpPdu ℕ) → (after_vlans at who r w).vlans ≡ both_saying nat_cmp at w.vlans (vlans_read who r)
  unfolding after_vlans
  by_vlans (Ok pdu) = refl
  by_vlans (Err place) = refl

  vlans_kept : (r : Result MvrpPdu ℕ) → (after_vlans at who r w).streams ≡ w.streams
  unfolding after_vlans
  vlans_kept (Ok pdu) = refl
  vlans_kept (Err place) = refl

  vlans_kept_groups : (r : Result MvrpPdu ℕ) → (after_vlans at who r w).groups ≡ w.groups
  unfolding after_vlans
  vlans_kept_groups (Ok pdu) = refl
  vlans_kept_groups (Err place) = refl

  streams_kept : (r : Result MsrpPdu ℕ) → (after_streams at who r w).vlans ≡ w.vlans
  unfolding after_streams
  streams_kept (Ok pdu) = refl
  streams_kept (Err place) = refl

  streams_kept_groups : (r : Result MsrpPdu ℕ) → (after_streams at who r w).groups ≡ w.groups
  unfolding after_streams
  streams_kept_groups (Ok pdu) = refl
  streams_kept_groups (Err place) = refl

  by_groups : (r : Result GroupPdu ℕ) → (after_groups at who r w).groups ≡ both_saying nat_cmp at w.groups (groups_read who r)
  unfolding after_groups
  by_groups (Ok pdu) = refl
  by_groups (Err place) = refl

  groups_kept : (r : Result GroupPdu ℕ) → (after_groups at who r w).vlans ≡ w.vlans
  unfolding after_groups
  groups_kept (Ok pdu) = refl
  groups_kept (Err place) = refl

  groups_kept_streams : (r : Result GroupPdu ℕ) → (after_groups at who r w).streams ≡ w.streams
  unfolding after_groups
  groups_kept_streams (Ok pdu) = refl
  groups_kept_streams (Err place) = refl

  octets_vlans : (app : AppForm) (octets : List ℕ) → (after_octets at who app octets w).vlans ≡ both_saying nat_cmp at w.vlans (vlans_said who app octets)
  unfolding after_octets
  octets_vlans Mvrp octets = by_vlans (mvrp_reading octets)
  octets_vlans Msrp octets = streams_kept (msrp_reading octets)
  octets_vlans Mmrp octets = groups_kept (mmrp_reading octets)

  octets_groups : (app : AppForm) (octets : List ℕ) → (after_octets at who app octets w).groups ≡ both_saying nat_cmp at w.groups (groups_said who app octets)
  unfolding after_octets
  octets_groups Mvrp octets = vlans_kept_groups (mvrp_reading octets)
  octets_groups Msrp octets = streams_kept_groups (msrp_reading octets)
  octets_groups Mmrp octets = by_groups (mmrp_reading octets)

-- what an end says of streams has at most one event of a key
abbrev AreOnce : List StreamsSaid → Type 0
AreOnce said = AllByRecursion (λ x. IsOnce x.1.events) said

none_unread : (A : Type 0) {P : Type 0} (place : ℕ) → is_unread {A = A} (Err place) ≡ false → P
none_unread A place h = cc

module _ (all : (k : StreamId) (more streams : List StreamId)
    → is_awaiting stream_cmp k (all_marked stream_cmp more streams) ≡ (is_awaiting stream_cmp k more || is_awaiting stream_cmp k streams))
    (owned : (octets : List ℕ) (pdu : MsrpPdu) → msrp_reading octets ≡ Ok pdu → AreOwn pdu.events) where
  by_streams : (at : Cs) (who : End) (w : Watched) (octets : List ℕ) (r : Result MsrpPdu ℕ) → msrp_reading octets ≡ r → AreOnce (streams_read who r)
      → (after_streams at who r w).streams ≡ both_saying key_cmp at w.streams (streams_read who r)
  unfolding after_streams
  by_streams at who w octets (Ok pdu) reads once =
      ap (λ (events : List (MrpEvent × MsrpKey × MsrpContent)). link_saying key_cmp at who (record { leave_all = pdu.leave_all; events = events }) w.streams)
      (all_left all pdu.events once.0 (owned octets pdu reads))
  by_streams at who w octets (Err place) reads once = refl

  octets_streams : (at : Cs) (who : End) (w : Watched) (app : AppForm) (octets : List ℕ) → AreOnce (streams_said who app octets)
      → (after_octets at who app octets w).streams ≡ both_saying key_cmp at w.streams (streams_said who app octets)
  unfolding after_octets
  octets_streams at who w Mvrp octets once = vlans_kept at who w (mvrp_reading octets)
  octets_streams at who w Msrp octets once = by_streams at who w octets (msrp_reading octets) refl once
  octets_streams at who w Mmrp octets once = groups_kept_streams at who w (mmrp_reading octets)

  -- nothing of it is broken in itself
  vlans_whole : (r : Result MvrpPdu ℕ) → is_unread r ≡ false → vlans_broken r ≡ 0
  unfolding vlans_broken
  vlans_whole (Ok pdu) h = refl
  vlans_whole (Err place) h = none_unread MvrpPdu place h

  streams_whole : (who : End) (octets : List ℕ) (r : Result MsrpPdu ℕ) → msrp_reading octets ≡ r → AreOnce (streams_read who r) → is_unread r ≡ false
      → streams_broken r ≡ 0
  unfolding streams_broken
  streams_whole who octets (Ok pdu) reads once h = no_doubles all pdu.events once.0 (owned octets pdu reads)
  streams_whole who octets (Err place) reads once h = none_unread MsrpPdu place h

  groups_whole : (r : Result GroupPdu ℕ) → is_unread r ≡ false → groups_broken r ≡ 0
  unfolding groups_broken
  groups_whole (Ok pdu) h = refl
  groups_whole (Err place) h = none_unread GroupPdu place h

  octets_whole : (who : End) (app : AppForm) (octets : List ℕ) → AreOnce (streams_said who app octets) → is_malformed app octets ≡ false
      → octets_broken app octets ≡ 0
  unfolding octets_broken
  octets_whole who Mvrp octets once h = vlans_whole (mvrp_reading octets) h
  octets_whole who Msrp octets once h = streams_whole who octets (msrp_reading octets) refl once h
  octets_whole who Mmrp octets once h = groups_whole (mmrp_reading octets) h

  -- nothing is added to nothing
  none_risen : (count more : ℕ) → count ≡ 0 → more ≡ 0 → risen count more ≡ 0
  none_risen count more none nothing = rw (none, nothing) refl

  -- what frames at a moment make of what was seen by then, where this is what they say
  record Shown (at : Cs) (old new : LinkSeen) (vlans : List PlainSaid) (streams : List StreamsSaid) (groups : List PlainSaid) : Type 0 where
    pub same_at : new.at ≡ old.at
    pub vlans_are : new.watched.vlans ≡ both_saying nat_cmp at old.watched.vlans vlans
    pub streams_are : new.watched.streams ≡ both_saying key_cmp at old.watched.streams streams
    pub groups_are : new.watched.groups ≡ both_saying nat_cmp at old.watched.groups groups
    pub unbroken : old.counts.broken ≡ 0 → new.counts.broken ≡ 0

  shown_octets : (at : Cs) (p : Packet) (seen : Seen) (who : End) (s : LinkSeen) → nat_lt (length p.octets) p.whole ≡ false
      → is_malformed seen.app seen.pdu ≡ false → AreOnce (streams_said who seen.app seen.pdu)
      → Shown at s (record s {
        watched = after_octets at who seen.app seen.pdu s.watched;
        counts = record s.counts { frames = risen s.counts.frames 1; broken = risen s.counts.broken (octets_broken seen.app seen.pdu) };
      }) (vlans_said who seen.app seen.pdu) (streams_said who seen.app seen.pdu) (groups_said who seen.app seen.pdu)
  shown_octets at p seen who s whole formed once = record {
    same_at = refl;
    vlans_are = octets_vlans at who s.watched seen.app seen.pdu;
    streams_are = octets_streams at who s.watched seen.app seen.pdu once;
    groups_are = octets_groups at who s.watched seen.app seen.pdu;
    unbroken = λ none. none_risen s.counts.broken (octets_broken seen.app seen.pdu) none (octets_whole who seen.app seen.pdu once formed);
  }

  -- by whether the capture has cut it
  abbrev said_by_cut : Bool → Cs → End → Seen → LinkSeen → LinkSeen
  said_by_cut cut at who seen s =
      record s {
        watched = if cut then s.watched else after_octets at who seen.app seen.pdu s.watched;
        counts = record s.counts { frames = risen s.counts.frames 1; broken = risen s.counts.broken (if cut then 0 else octets_broken seen.app seen.pdu) };
      }

  shown_said : (at : Cs) (p : Packet) (seen : Seen) (who : End) (s : LinkSeen) → nat_lt (length p.octets) p.whole ≡ false
      → is_malformed seen.app seen.pdu ≡ false → AreOnce (streams_said who seen.app seen.pdu)
      → Shown at s (seen_said at who p seen s) (vlans_said who seen.app seen.pdu) (streams_said who seen.app seen.pdu) (groups_said who seen.app seen.pdu)
  unfolding seen_said after_said said_broken
  shown_said at p seen who s whole formed once =
      subst (λ (cut : Bool). Shown at s (said_by_cut cut at who seen s) (vlans_said who seen.app seen.pdu) (streams_said who seen.app seen.pdu) (groups_said who seen.app seen.pdu))
      (sym whole) (shown_octets at p seen who s whole formed once)

  shown_from : (at : Cs) (p : Packet) (seen : Seen) (who : Option End) (s : LinkSeen) → IsSoundFrom p seen who → AreOnce (said_from streams_said seen who)
      → Shown at s (seen_from at p seen who s) (said_from vlans_said seen who) (said_from streams_said seen who) (said_from groups_said seen who)
  unfolding seen_from
  shown_from at p seen None s sound once = record { same_at = refl; vlans_are = refl; streams_are = refl; groups_are = refl; unbroken = λ none. none }
  shown_from at p seen (Some who) s sound once = shown_said at p seen who s sound.0 sound.1 once

  shown_frame : (ends : Ends) (at : Cs) (p : Packet) (found : Option Seen) (s : LinkSeen) → IsSoundAs ends p found → AreOnce (said_in streams_said ends found)
      → Shown at s (seen_frame ends at p found s) (said_in vlans_said ends found) (said_in streams_said ends found) (said_in groups_said ends found)
  unfolding seen_frame
  shown_frame ends at p None s sound once = record { same_at = refl; vlans_are = refl; streams_are = refl; groups_are = refl; unbroken = λ none. none }
  shown_frame ends at p (Some seen) s sound once = shown_from at p seen (end_at ends seen.address) s sound once

  -- ---- frames of one moment

  abbrev all_shown : Ends → Cs → LinkSeen → List Packet → LinkSeen
  all_shown ends at s ps = fold (λ s p. seen_frame ends at p (frame_in p) s) s ps

  -- of two lists each has it
  first_once : (said more : List StreamsSaid) → AreOnce (said ++ more) → AreOnce said
  first_once [] more once = tt
  first_once (x ∷ said) more once = (once.0, first_once said more once.1)

  more_once : (said more : List StreamsSaid) → AreOnce (said ++ more) → AreOnce more
  more_once [] more once = once
  more_once (x ∷ said) more once = more_once said more once.1

  shown : (ends : Ends) (at : Cs) (ps : List Packet) (s : LinkSeen) → AllByRecursion (IsSound ends) ps → AreOnce (all_said streams_said ends ps)
      → Shown at s (all_shown ends at s ps) (all_said vlans_said ends ps) (all_said streams_said ends ps) (all_said groups_said ends ps)
  shown ends at [] s sound once = record { same_at = refl; vlans_are = refl; streams_are = refl; groups_are = refl; unbroken = λ none. none }
  shown ends at (p ∷ ps) s sound once =
      let found = frame_in p in
      let here = shown_frame ends at p found s sound.0 (first_once (said_in streams_said ends found) (all_said streams_said ends ps) once) in
      let there = shown ends at ps (seen_frame ends at p found s) sound.1 (more_once (said_in streams_said ends found) (all_said streams_said ends ps) once) in
      record {
        same_at = there.same_at ∙ here.same_at;
        vlans_are = there.vlans_are
            ∙ ap (λ (l : LinkState ℕ (Unit {0})). both_saying nat_cmp at l (all_said vlans_said ends ps)) here.vlans_are
            ∙ sym (say_on nat_cmp at s.watched.vlans (said_in vlans_said ends found) (all_said vlans_said ends ps));
        streams_are = there.streams_are
            ∙ ap (λ (l : LinkState MsrpKey MsrpContent). both_saying key_cmp at l (all_said streams_said ends ps)) here.streams_are
            ∙ sym (say_on key_cmp at s.watched.streams (said_in streams_said ends found) (all_said streams_said ends ps));
        groups_are = there.groups_are
            ∙ ap (λ (l : LinkState ℕ (Unit {0})). both_saying nat_cmp at l (all_said groups_said ends ps)) here.groups_are
            ∙ sym (say_on nat_cmp at s.watched.groups (said_in groups_said ends found) (all_said groups_said ends ps));
        unbroken = λ none. there.unbroken (here.unbroken none);
      }

-- ---- moments

abbrev cs_of : ℕ → Cs
cs_of n = record { 0 = n }

moment_by : (b : Bool) (before at : Cs) (n : ℕ) → nat_lt n before.0 ≡ b → n ≡ at.0 → before.0 ≤ at.0 → (if b then before else cs_of n) ≡ at
moment_by true before at n is equal low = let no : ⊥ = grind (arith, nat_tests) in absurd no
moment_by false before at n is equal low = ap cs_of equal

-- a frame of a moment that has come, or comes, is of that
moment_is : (before at : Cs) (p : Packet) → p.at_ns / 10000000 ≡ at.0 → before.0 ≤ at.0 → moment_after before p ≡ at
unfolding moment_after
moment_is before at p equal low = moment_by (nat_lt (p.at_ns / 10000000) before.0) before at (p.at_ns / 10000000) refl equal low

come_by : (b : Bool) (at : Cs) (s : LinkSeen) → nat_lt s.at.0 at.0 ≡ b → s.at ≡ at → (if b then seen_later at s else s) ≡ s
come_by true at s is equal = let no : ⊥ = let e : s.at.0 ≡ at.0 = ap (λ (c : Cs). c.0) equal in grind (arith, nat_tests) in absurd no
come_by false at s is equal = refl

has_come : (at : Cs) (s : LinkSeen) → s.at ≡ at → seen_at at s ≡ s
unfolding seen_at
has_come at s equal = come_by (nat_lt s.at.0 at.0) at s refl equal

later_by : (b : Bool) (at : Cs) (s : LinkSeen) → nat_lt s.at.0 at.0 ≡ b → s.at.0 < at.0 → (if b then seen_later at s else s) ≡ seen_later at s
later_by true at s is low = refl
later_by false at s is low = let no : ⊥ = grind (arith, nat_tests) in absurd no

comes_now : (at : Cs) (s : LinkSeen) → s.at.0 < at.0 → seen_at at s ≡ seen_later at s
unfolding seen_at
comes_now at s low = later_by (nat_lt s.at.0 at.0) at s refl low

abbrev AreAt : Cs → List Packet → Type 0
AreAt at ps = AllByRecursion (λ f. f.at_ns / 10000000 ≡ at.0) ps

one_packet : (ends : Ends) (at : Cs) (p : Packet) (s : LinkSeen) → p.at_ns / 10000000 ≡ at.0 → s.at ≡ at
    → after_packet ends s p ≡ seen_frame ends at p (frame_in p) s
unfolding after_packet
one_packet ends at p s is equal =
    let now : moment_after s.at p ≡ at = moment_is s.at at p is (let e : s.at.0 ≡ at.0 = ap (λ (c : Cs). c.0) equal in omega (arith, e)) in
    ap (λ (m : Cs). seen_frame ends m p (frame_in p) (seen_at m s)) now
    ∙ ap (seen_frame ends at p (frame_in p)) (has_come at s equal)

rest_packets : (ends : Ends) (at : Cs) (ps : List Packet) (s : LinkSeen) → AreAt at ps → s.at ≡ at
    → after_packets ends s ps ≡ fold (λ s p. seen_frame ends at p (frame_in p) s) s ps
rest_packets ends at [] s are equal = refl
rest_packets ends at (p ∷ ps) s are equal =
    ap (λ (t : LinkSeen). after_packets ends t ps) (one_packet ends at p s are.0 equal)
    ∙ rest_packets ends at ps (seen_frame ends at p (frame_in p) s) are.1 (of_frame ends at p (frame_in p) s ∙ equal)

-- the first frame of a moment lets time go on to it
first_packets : (ends : Ends) (at : Cs) (p : Packet) (ps : List Packet) (s : LinkSeen) → AreAt at (p ∷ ps) → s.at.0 < at.0 → (seen_later at s).at ≡ at
    → after_packets ends s (p ∷ ps) ≡ fold (λ s p. seen_frame ends at p (frame_in p) s) (seen_later at s) (p ∷ ps)
unfolding after_packet
first_packets ends at p ps s are low come =
    let now : moment_after s.at p ≡ at = moment_is s.at at p are.0 (omega (arith, low)) in
    let here : after_packet ends s p ≡ seen_frame ends at p (frame_in p) (seen_later at s) =
    ap (λ (m : Cs). seen_frame ends m p (frame_in p) (seen_at m s)) now
    ∙ ap (seen_frame ends at p (frame_in p)) (comes_now at s low) in
    ap (λ (t : LinkSeen). after_packets ends t ps) here
    ∙ rest_packets ends at ps (seen_frame ends at p (frame_in p) (seen_later at s)) are.1 (of_frame ends at p (frame_in p) (seen_later at s) ∙ come)

-- ---- time goes on

later_at : (at : Cs) (s : LinkSeen) → (seen_later at s).at ≡ at
unfolding seen_later
later_at at s = refl

passing_vlans : (moments : List Cs) (s : LinkSeen) → (all_passing s moments).watched.vlans ≡ link_all_passing nat_cmp s.watched.vlans moments
unfolding seen_passing watched_passing
passing_vlans [] s = refl
passing_vlans (u ∷ moments) s = passing_vlans moments (seen_passing s u)

passing_streams : (moments : List Cs) (s : LinkSeen) → (all_passing s moments).watched.streams ≡ link_all_passing key_cmp s.watched.streams moments
unfolding seen_passing watched_passing
passing_streams [] s = refl
passing_streams (u ∷ moments) s = passing_streams moments (seen_passing s u)

passing_groups : (moments : List Cs) (s : LinkSeen) → (all_passing s moments).watched.groups ≡ link_all_passing nat_cmp s.watched.groups moments
unfolding seen_passing watched_passing
passing_groups [] s = refl
passing_groups (u ∷ moments) s = passing_groups moments (seen_passing s u)

passing_broken : (moments : List Cs) (s : LinkSeen) → (all_passing s moments).counts.broken ≡ s.counts.broken
unfolding seen_passing
passing_broken [] s = refl
passing_broken (u ∷ moments) s = passing_broken moments (seen_passing s u)

-- what a replay has of each application
abbrev pub vlans_of : LinkSeen → Replayed ℕ (Unit {0})
vlans_of s = record { upto = s.at; link = s.watched.vlans }

abbrev pub streams_of : LinkSeen → Replayed MsrpKey MsrpContent
streams_of s = record { upto = s.at; link = s.watched.streams }

abbrev pub groups_of : LinkSeen → Replayed ℕ (Unit {0})
groups_of s = record { upto = s.at; link = s.watched.groups }

later_vlans : (at : Cs) (s : LinkSeen) → (seen_later at s).watched.vlans ≡ going_by nat_cmp (ending_by at s) (vlans_of s)
unfolding seen_later seen_arriving watched_judged watched_arriving
later_vlans at s = passing_vlans (ending_by at s) (seen_arriving s)

later_streams : (at : Cs) (s : LinkSeen) → (seen_later at s).watched.streams ≡ going_by key_cmp (ending_by at s) (streams_of s)
unfolding seen_later seen_arriving watched_judged watched_arriving
later_streams at s = passing_streams (ending_by at s) (seen_arriving s)

later_groups : (at : Cs) (s : LinkSeen) → (seen_later at s).watched.groups ≡ going_by nat_cmp (ending_by at s) (groups_of s)
unfolding seen_later seen_arriving watched_judged watched_arriving
later_groups at s = passing_groups (ending_by at s) (seen_arriving s)

no_sum : (a b c : ℕ) → a ≡ 0 → b ≡ 0 → c ≡ 0 → a + (b + c) ≡ 0
no_sum a b c one two three = omega (arith, one, two, three)

-- where no word of any application is broken, none is counted
arriving_broken : (s : LinkSeen) → broken_then nat_cmp (vlans_of s) ≡ 0 → broken_then key_cmp (streams_of s) ≡ 0 → broken_then nat_cmp (groups_of s) ≡ 0
    → s.counts.broken ≡ 0 → (seen_arriving s).counts.broken ≡ 0
unfolding seen_arriving watched_broken watched_arriving
arriving_broken s vlans streams groups none =
    let nothing = no_sum (broken_then nat_cmp (vlans_of s)) (broken_then key_cmp (streams_of s)) (broken_then nat_cmp (groups_of s)) vlans streams groups in
    rw (none, nothing) refl

later_broken : (at : Cs) (s : LinkSeen) → (seen_arriving s).counts.broken ≡ 0 → (seen_later at s).counts.broken ≡ 0
unfolding seen_later
later_broken at s none = passing_broken (ending_by at s) (seen_arriving s) ∙ none

-- ---- the moments to which it goes

or_first : (a b : Bool) → a ≡ true → (a || b) ≡ true
or_first true b h = refl
or_first false b h = cc

or_true : (a b : Bool) → b ≡ true → (a || b) ≡ true
or_true true b h = refl
or_true false b h = h

in_both : (u : Cs) (us vs : List Cs) → is_awaiting cs_cmp u (us ++ vs) ≡ (is_awaiting cs_cmp u us || is_awaiting cs_cmp u vs)
in_both u [] vs = refl
in_both u (x ∷ us) vs = ap (λ (b : Bool). is_eq (cs_cmp x u) || b) (in_both u us vs) ∙ grouped (is_eq (cs_cmp x u)) _ _
  where
    grouped : (a b c : Bool) → (a || (b || c)) ≡ ((a || b) || c)
    grouped true b c = refl
    grouped false b c = refl

module _ (each : (k : Cs) (more keys : List Cs) → is_awaiting cs_cmp k (all_marked cs_cmp more keys) ≡ (is_awaiting cs_cmp k more || is_awaiting cs_cmp k keys)) where
  in_watched : (at : Cs) (w : Watched) (u : Cs)
      → is_awaiting cs_cmp u (ways_ends_up_to at w.vlans.ways ++ (ways_ends_up_to at w.streams.ways ++ ways_ends_up_to at w.groups.ways)) ≡ true
      → is_awaiting cs_cmp u (watched_ends at w) ≡ true
  unfolding watched_ends
  in_watched at w u h =
      each u (ways_ends_up_to at w.vlans.ways ++ (ways_ends_up_to at w.streams.ways ++ ways_ends_up_to at w.groups.ways)) []
      ∙ or_first _ _ h

  vlans_moments : (at : Cs) (s : LinkSeen) → AreMoments nat_cmp at (vlans_of s) (ending_by at s)
  unfolding seen_arriving watched_judged watched_arriving
  vlans_moments at s =
      let w = (seen_arriving s).watched in
      record {
        low = ends_up_to at w;
        each = λ u here. in_watched at w u
            (in_both u (ways_ends_up_to at w.vlans.ways) (ways_ends_up_to at w.streams.ways ++ ways_ends_up_to at w.groups.ways) ∙ or_first _ _ here);
      }

  streams_moments : (at : Cs) (s : LinkSeen) → AreMoments key_cmp at (streams_of s) (ending_by at s)
  unfolding seen_arriving watched_judged watched_arriving
  streams_moments at s =
      let w = (seen_arriving s).watched in
      record {
        low = ends_up_to at w;
        each = λ u here. in_watched at w u
            (in_both u (ways_ends_up_to at w.vlans.ways) (ways_ends_up_to at w.streams.ways ++ ways_ends_up_to at w.groups.ways)
            ∙ or_true _ _ (in_both u (ways_ends_up_to at w.streams.ways) (ways_ends_up_to at w.groups.ways) ∙ or_first _ _ here));
      }

  groups_moments : (at : Cs) (s : LinkSeen) → AreMoments nat_cmp at (groups_of s) (ending_by at s)
  unfolding seen_arriving watched_judged watched_arriving
  groups_moments at s =
      let w = (seen_arriving s).watched in
      record {
        low = ends_up_to at w;
        each = λ u here. in_watched at w u
            (in_both u (ways_ends_up_to at w.vlans.ways) (ways_ends_up_to at w.streams.ways ++ ways_ends_up_to at w.groups.ways)
            ∙ or_true _ _ (in_both u (ways_ends_up_to at w.streams.ways) (ways_ends_up_to at w.groups.ways) ∙ or_true _ _ here));
      }

-- ---- ticks

-- a replay follows the nodes before a tick: of each application, and nothing was broken
pub record Keeps (next : Cs) (p : Pairs) (s : LinkSeen) : Type 0 where
  pub vlans : Follows vlan_base vlan_octets nat_cmp same_nothing as_written next p.vlans (vlans_of s)
  pub streams : Follows base_octets octets_of key_cmp same_content in_type_order next p.streams (streams_of s)
  pub groups : Follows group_base group_octets nat_cmp same_nothing as_written next p.groups (groups_of s)
  pub unbroken : s.counts.broken ≡ 0

-- the facts that are cited
pub record Facts : Type 0 where
  pub vlans : Rules vlan_base vlan_octets nat_cmp same_nothing as_written
  pub streams : Rules base_octets octets_of key_cmp same_content in_type_order
  pub groups : Rules group_base group_octets nat_cmp same_nothing as_written
  pub moments : (k : Cs) (more keys : List Cs) → is_awaiting cs_cmp k (all_marked cs_cmp more keys) ≡ (is_awaiting cs_cmp k more || is_awaiting cs_cmp k keys)
  pub stream_sets : (k : StreamId) (more keys : List StreamId)
      → is_awaiting stream_cmp k (all_marked stream_cmp more keys) ≡ (is_awaiting stream_cmp k more || is_awaiting stream_cmp k keys)
  pub owned : (octets : List ℕ) (pdu : MsrpPdu) → msrp_reading octets ≡ Ok pdu → AreOwn pdu.events
  pub once : (t : LinkTick) (p : Pairs) (s : LinkSeen)
      → Follows base_octets octets_of key_cmp same_content in_type_order t.at p.streams (streams_of s)
      → (said : List StreamsSaid) → AreStreamsSent t p said → AreOnce said

module _ (facts : Facts) where
  none_counted : (next : Cs) (p : Pairs) (s : LinkSeen) → Keeps next p s → (seen_arriving s).counts.broken ≡ 0
  none_counted next p s keeps =
      arriving_broken s (facts.vlans.unbroken next p.vlans (vlans_of s) keeps.vlans) (facts.streams.unbroken next p.streams (streams_of s) keeps.streams)
      (facts.groups.unbroken next p.groups (groups_of s) keeps.groups) keeps.unbroken

  -- nothing is captured in a tick
  passes_over : (ends : Ends) (t : LinkTick) (p : Pairs) (s : LinkSeen) → IsCaptured ends p t → t.frames ≡ [] → Keeps t.at p s
      → Keeps (next_moment t.at) (pairs_after p t) s
  passes_over ends t p s captured none keeps = record {
    vlans = facts.vlans.passed_over (tick_of t.at t.vlans) p.vlans (vlans_of s)
        (is_quiet_by vlan_base vlan_octets nat_cmp same_nothing as_written (tick_of t.at t.vlans) p.vlans
        (subst (λ (ps : List Packet). AreVlansSent t p (all_said vlans_said ends ps)) none captured.vlans)) keeps.vlans;
    streams = facts.streams.passed_over (tick_of t.at t.streams) p.streams (streams_of s)
        (is_quiet_by base_octets octets_of key_cmp same_content in_type_order (tick_of t.at t.streams) p.streams
        (subst (λ (ps : List Packet). AreStreamsSent t p (all_said streams_said ends ps)) none captured.streams)) keeps.streams;
    groups = facts.groups.passed_over (tick_of t.at t.groups) p.groups (groups_of s)
        (is_quiet_by group_base group_octets nat_cmp same_nothing as_written (tick_of t.at t.groups) p.groups
        (subst (λ (ps : List Packet). AreGroupsSent t p (all_said groups_said ends ps)) none captured.groups)) keeps.groups;
    unbroken = keeps.unbroken;
  }

  -- something is
  come_to : (ends : Ends) (t : LinkTick) (p : Pairs) (s new : LinkSeen) → IsCaptured ends p t → Keeps t.at p s
      → new ≡ fold (λ s p. seen_frame ends t.at p (frame_in p) s) (seen_later t.at s) t.frames → new.at ≡ t.at
  come_to ends t p s new captured keeps is =
      let once = facts.once t p s keeps.streams (all_said streams_said ends t.frames) captured.streams in
      let there = shown facts.stream_sets facts.owned ends t.at t.frames (seen_later t.at s) captured.sound once in
      ap (λ (x : LinkSeen). x.at) is ∙ there.same_at ∙ later_at t.at s

  goes_to : (ends : Ends) (t : LinkTick) (p : Pairs) (s new : LinkSeen) → IsCaptured ends p t → Keeps t.at p s
      → new ≡ fold (λ s p. seen_frame ends t.at p (frame_in p) s) (seen_later t.at s) t.frames
      → Keeps (next_moment t.at) (pairs_after p t) new
  goes_to ends t p s new captured keeps is =
      let at = t.at in
      let mid = seen_later at s in
      let moments = ending_by at s in
      let once = facts.once t p s keeps.streams (all_said streams_said ends t.frames) captured.streams in
      let there = shown facts.stream_sets facts.owned ends at t.frames mid captured.sound once in
      let come : new.at ≡ at = come_to ends t p s new captured keeps is in
      let of_vlans : new.watched.vlans ≡ (said_at nat_cmp at moments (all_said vlans_said ends t.frames) (vlans_of s)).link =
      ap (λ (x : LinkSeen). x.watched.vlans) is ∙ there.vlans_are
      ∙ ap (λ (l : LinkState ℕ (Unit {0})). both_saying nat_cmp at l (all_said vlans_said ends t.frames)) (later_vlans at s) in
      let of_streams : new.watched.streams ≡ (said_at key_cmp at moments (all_said streams_said ends t.frames) (streams_of s)).link =
      ap (λ (x : LinkSeen). x.watched.streams) is ∙ there.streams_are
      ∙ ap (λ (l : LinkState MsrpKey MsrpContent). both_saying key_cmp at l (all_said streams_said ends t.frames)) (later_streams at s) in
      let of_groups : new.watched.groups ≡ (said_at nat_cmp at moments (all_said groups_said ends t.frames) (groups_of s)).link =
      ap (λ (x : LinkSeen). x.watched.groups) is ∙ there.groups_are
      ∙ ap (λ (l : LinkState ℕ (Unit {0})). both_saying nat_cmp at l (all_said groups_said ends t.frames)) (later_groups at s) in
      record {
        vlans = followed (facts.vlans.gone_to (tick_of at t.vlans) p.vlans (vlans_of s) moments (all_said vlans_said ends t.frames)
            (vlans_moments facts.moments at s) captured.vlans keeps.vlans) come of_vlans;
        streams = followed (facts.streams.gone_to (tick_of at t.streams) p.streams (streams_of s) moments (all_said streams_said ends t.frames)
            (streams_moments facts.moments at s) captured.streams keeps.streams) come of_streams;
        groups = followed (facts.groups.gone_to (tick_of at t.groups) p.groups (groups_of s) moments (all_said groups_said ends t.frames)
            (groups_moments facts.moments at s) captured.groups keeps.groups) come of_groups;
        unbroken = ap (λ (x : LinkSeen). x.counts.broken) is ∙ there.unbroken (later_broken at s (none_counted at p s keeps));
      }
    where
      followed : {K C : Type 0} {base : ℕ} {octets : C → ℕ} {cmp : K → K → Ordering} {eq : C → C → Bool}
          {read : List (MrpEvent × K × C) → List (MrpEvent × K × C)} {next at upto : Cs} {pair : Pair K C} {link new : LinkState K C}
          → Follows base octets cmp eq read next pair (record { upto = at; link = link }) → upto ≡ at → new ≡ link
          → Follows base octets cmp eq read next pair (record { upto = upto; link = new })
      followed {base = base} {octets = octets} {cmp = cmp} {eq = eq} {read = read} {next = next} {at = at} {pair = pair} {new = new} h come is =
          subst (λ (u : Cs). Follows base octets cmp eq read next pair (record { upto = u; link = new })) (sym come)
          (subst (λ (l : LinkState _ _). Follows base octets cmp eq read next pair (record { upto = at; link = l })) (sym is) h)

  -- what the frames of a tick make of it, once time has gone on to the tick
  abbrev AreFrames : Ends → LinkTick → LinkSeen → List Packet → Type 0
  AreFrames ends t s frames =
      after_packets ends s frames ≡ fold (λ s p. seen_frame ends t.at p (frame_in p) s) (seen_later t.at s) frames

  by_frames : (ends : Ends) (t : LinkTick) (p : Pairs) (s : LinkSeen) (frames : List Packet) → t.frames ≡ frames → IsCaptured ends p t → Keeps t.at p s
      → s.at.0 ≤ t.at.0 → (frames ≢ [] → AreFrames ends t s frames)
      → Keeps (next_moment t.at) (pairs_after p t) (after_packets ends s frames) × ((after_packets ends s frames).at.0 < t.at.0 + 1)
  by_frames ends t p s [] is captured keeps low come = (passes_over ends t p s captured is keeps, omega (arith, low))
  by_frames ends t p s (f ∷ frames) is captured keeps low come =
      let new = come (λ e. cc)
      ∙ ap (fold (λ s p. seen_frame ends t.at p (frame_in p) s) (seen_later t.at s)) (sym is) in
      let e : (after_packets ends s (f ∷ frames)).at.0 ≡ t.at.0 =
      ap (λ (c : Cs). c.0) (come_to ends t p s (after_packets ends s (f ∷ frames)) captured keeps new) in
      (goes_to ends t p s (after_packets ends s (f ∷ frames)) captured keeps new, omega (arith, e))

  -- a later tick
  go_on : (ends : Ends) (t : LinkTick) (s : LinkSeen) (frames : List Packet) → AreAt t.at frames → s.at.0 < t.at.0 → frames ≢ []
      → AreFrames ends t s frames
  go_on ends t s [] are low some = absurd (some refl)
  go_on ends t s (f ∷ frames) are low some = first_packets ends t.at f frames s are low (later_at t.at s)

  -- one at moment 0, where nothing was seen before
  nothing_later : (leave_time : Cs) → seen_later (record { 0 = 0 }) (new_seen leave_time) ≡ new_seen leave_time
  unfolding seen_later seen_arriving watched_judged watched_arriving watched_broken watched_ends
  nothing_later leave_time = refl

  begin_with : (ends : Ends) (t : LinkTick) (leave_time : Cs) (frames : List Packet) → AreAt t.at frames → record { 0 = 0 } ≡ t.at
      → AreFrames ends t (new_seen leave_time) frames
  begin_with ends t leave_time frames are zero =
      rest_packets ends t.at frames (new_seen leave_time) are zero
      ∙ ap (λ (x : LinkSeen). fold (λ s p. seen_frame ends t.at p (frame_in p) s) x frames)
      (sym (subst (λ (at : Cs). seen_later at (new_seen leave_time) ≡ new_seen leave_time) zero (nothing_later leave_time)))

  packets_on : (ends : Ends) (ps more : List Packet) (s : LinkSeen) → after_packets ends (after_packets ends s ps) more ≡ after_packets ends s (ps ++ more)
  packets_on ends [] more s = refl
  packets_on ends (p ∷ ps) more s = packets_on ends ps more (after_packet ends s p)

  -- what a run and its capture come to
  pub record Ended (ends : Ends) (s : LinkSeen) : Type 0 where
    pub next : Cs
    pub pairs : Pairs
    pub keeps : Keeps next pairs s

  later_runs : (ends : Ends) (ticks : List LinkTick) (at : Cs) (p : Pairs) (s : LinkSeen) → AreCaptured ends at p ticks → Keeps at p s → s.at.0 < at.0
      → Ended ends (after_packets ends s (frames_of ticks))
  later_runs ends [] at p s are keeps low = record { next = at; pairs = p; keeps = keeps }
  later_runs ends (t ∷ ticks) at p s are keeps low =
      let now = subst (λ (m : Cs). Keeps m p s) (sym are.0) keeps in
      let before : s.at.0 < t.at.0 = subst (λ (m : Cs). s.at.0 < m.0) (sym are.0) low in
      let on = by_frames ends t p s t.frames refl are.1 now (omega (arith, before)) (go_on ends t s t.frames are.1.moments before) in
      subst (Ended ends) (packets_on ends t.frames (frames_of ticks) s)
      (later_runs ends ticks (next_moment at) (pairs_after p t) (after_packets ends s t.frames) are.2
      (subst (λ (m : Cs). Keeps (next_moment m) (pairs_after p t) (after_packets ends s t.frames)) are.0 on.0)
      (subst (λ (m : Cs). (after_packets ends s t.frames).at.0 < m.0 + 1) are.0 on.1))

  pub runs : (ends : Ends) (ticks : List LinkTick) (at : Cs) (p : Pairs) (leave_time : Cs) → AreCaptured ends at p ticks → Keeps at p (new_seen leave_time)
      → Ended ends (after_packets ends (new_seen leave_time) (frames_of ticks))
  runs ends [] at p leave_time are keeps = record { next = at; pairs = p; keeps = keeps }
  runs ends (t ∷ ticks) at p leave_time are keeps = by (nat_lt 0 t.at.0) refl
    where
      s : LinkSeen
      s = new_seen leave_time

      now : Keeps t.at p s
      now = subst (λ (m : Cs). Keeps m p s) (sym are.0) keeps

      come : (b : Bool) → nat_lt 0 t.at.0 ≡ b → t.frames ≢ [] → AreFrames ends t s t.frames
      come true is some = go_on ends t s t.frames are.1.moments (grind (arith, nat_tests)) some
      come false is some =
          let none : 0 ≡ t.at.0 = grind (arith, nat_tests) in
          begin_with ends t leave_time t.frames are.1.moments (ap (λ (n : ℕ). let c : Cs = record { 0 = n } in c) none)

      by : (b : Bool) → nat_lt 0 t.at.0 ≡ b → Ended ends (after_packets ends s (frames_of (t ∷ ticks)))
      by b is =
          let on = by_frames ends t p s t.frames refl are.1 now (omega arith) (come b is) in
          subst (Ended ends) (packets_on ends t.frames (frames_of ticks) s)
          (later_runs ends ticks (next_moment at) (pairs_after p t) (after_packets ends s t.frames) are.2
          (subst (λ (m : Cs). Keeps (next_moment m) (pairs_after p t) (after_packets ends s t.frames)) are.0 on.0)
          (subst (λ (m : Cs). (after_packets ends s t.frames).at.0 < m.0 + 1) are.0 on.1))

  pub none_broken : (ends : Ends) (s : LinkSeen) → Ended ends s → (seen_arriving s).counts.broken ≡ 0
  none_broken ends s ended = none_counted ended.next ended.pairs s ended.keeps

  unsaid : {K C : Type 0} (cmp : K → K → Ordering) (text_of : K → List ℕ) (at : Cs) (l : LinkState K C) → l.kept ≡ [] → judging_text cmp text_of at l ≡ []
  unsaid cmp text_of at l none = rw none refl

  -- nor is any printed
  pub none_printed : (ends : Ends) (s : LinkSeen) → Ended ends s → watched_judging_text s.at (arrived s) ≡ []
  unfolding watched_judging_text watched_arriving
  none_printed ends s ended =
      let vlans = unsaid nat_cmp vlan_text s.at (arrived s).vlans ended.keeps.vlans.none_kept in
      let streams = unsaid key_cmp key_text s.at (arrived s).streams ended.keeps.streams.none_kept in
      let groups = unsaid nat_cmp group_text s.at (arrived s).groups ended.keeps.groups.none_kept in
      rw (vlans, streams, groups) refl

-- ---- what is sent of streams

few_in : {X : Type 0} (o : Option X) → length (option_to_list o) ≤ 1
few_in None = omega arith
few_in (Some x) = omega arith

both_once : (one other : End) (a b : Bool) (m n : Messages MsrpKey MsrpContent) → IsOnce m.events → IsOnce n.events
    → AreOnce (map (λ m. (one, m)) (if a then [] else m ∷ []) ++ map (λ m. (other, m)) (if b then [] else n ∷ []))
both_once one other true true m n is too = tt
both_once one other true false m n is too = (too, tt)
both_once one other false true m n is too = (is, tt)
both_once one other false false m n is too = (is, (too, tt))

module _ (sent : (s : State MsrpKey MsrpContent) (now : Cs) → AreRows key_cmp s.rows → (k : MsrpKey)
    → filter (λ e. same key_cmp e.1 k) (sent_events base_octets octets_of key_cmp now s)
    ≡ option_to_list (option_and_then (λ r. event_sent base_octets octets_of key_cmp now s r) (find key_cmp k s.rows)))
    (kept : (events : List (MrpEvent × MsrpKey × MsrpContent)) (is_key : MsrpKey → Bool) → length (of_key is_key events) ≤ 1
    → of_key is_key (in_type_order events) ≡ of_key is_key events) where
  once_sent : (s : State MsrpKey MsrpContent) (now : Cs) → AreRows key_cmp s.rows
      → IsOnce (in_type_order (sent_events base_octets octets_of key_cmp now s))
  once_sent s now are k =
      let is = sent s now are k in
      let one = few_in (option_and_then (λ r. event_sent base_octets octets_of key_cmp now s r) (find key_cmp k s.rows)) in
      let few = subst (λ (l : List (MrpEvent × MsrpKey × MsrpContent)). length l ≤ 1) (sym is) one in
      let same_events = kept (sent_events base_octets octets_of key_cmp now s) (λ x. same key_cmp x k) few in
      subst (λ (l : List (MrpEvent × MsrpKey × MsrpContent)). length l ≤ 1) (sym (same_events ∙ is)) one

  pub once_in_tick : (t : LinkTick) (p : Pairs)
      → AreRows key_cmp (ready_a base_octets octets_of key_cmp same_content in_type_order (tick_of t.at t.streams) p.streams).rows
      → AreRows key_cmp (ready_b base_octets octets_of key_cmp same_content in_type_order (tick_of t.at t.streams) p.streams).rows
      → (said : List StreamsSaid) → AreStreamsSent t p said → AreOnce said
  once_in_tick t p a_rows b_rows said (inl is) =
      let a = ready_a base_octets octets_of key_cmp same_content in_type_order (tick_of t.at t.streams) p.streams in
      let b = ready_b base_octets octets_of key_cmp same_content in_type_order (tick_of t.at t.streams) p.streams in
      subst AreOnce (sym is)
      (both_once at_end.A at_end.B (not t.streams.0.sends || is_silent a) (not t.streams.1.sends || is_silent b)
      (sent_read base_octets octets_of key_cmp same_content in_type_order t.at a)
      (sent_read base_octets octets_of key_cmp same_content in_type_order t.at b) (once_sent a t.at a_rows) (once_sent b t.at b_rows))
  once_in_tick t p a_rows b_rows said (inr is) =
      let a = ready_a base_octets octets_of key_cmp same_content in_type_order (tick_of t.at t.streams) p.streams in
      let b = ready_b base_octets octets_of key_cmp same_content in_type_order (tick_of t.at t.streams) p.streams in
      subst AreOnce (sym is)
      (both_once at_end.B at_end.A (not t.streams.1.sends || is_silent b) (not t.streams.0.sends || is_silent a)
      (sent_read base_octets octets_of key_cmp same_content in_type_order t.at b)
      (sent_read base_octets octets_of key_cmp same_content in_type_order t.at a) (once_sent b t.at b_rows) (once_sent a t.at a_rows))
