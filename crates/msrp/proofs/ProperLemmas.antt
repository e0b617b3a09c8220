-- What a side keeps fits after each call.
use Rattle.std.proofs.Common.{◌≡◌, inr, ℕ, ◌^◌, ◌<◌, ◌≤◌, Bool, true, false, not, ◌==◌, if◌then◌else◌, List, [], ◌∷◌, map, refl, subst}
use Rattle.std.specs.Prelude.{slice_get, slice_set, Option, Some, None}
use Rattle.std.specs.List.{AllByRecursion}
use Rattle.srp_base.proofs.Lists.{each_filter as all_filtered, each-get, each-set, paired}
use Rattle.srp_base.specs.declared.{numbers.BridgeId.BridgeId, numbers.Cs.Cs, numbers.StreamId.StreamId, ports.PortSetup.PortSetup, streams.Talker.Talker}
use Rattle.stream_importance.specs.declared.slope.Caps.{Caps}
use Rattle.port_ledger.specs.Book.{Book, empty_book, IsKept as IsKeptBook}
use Rattle.attribute_propagation.specs.Ports.{marked_elsewhere}
use Rattle.mrp_participant.specs.State.{AreRows, registered_at}
use Rattle.msrp_codec.specs.declared.pdu.MsrpKey.{MsrpKey}
use Rattle.msrp_codec.specs.FirstValue.{IsTalker}
use Rattle.msrp.specs.{DomainSet, SrpRequest, Talk, Hush, Listen, Unlisten, key_cmp, HasOwnContents, is_listened, stated_at, talk_of, known_keys, moved_streams, next_book, settling_keys, talker_keys, Streams, clocked_port, clocked_streams, has_listen, has_talk, is_talk, listens_without, moved_keys, new_port, new_streams, with_asks, with_port_at, requested_streams, with_told_port, seen_by, settled_at, settled_streams, talks_without, with_part, with_port, SameDeclared, TellsEach, AreOfRange, HasRanges, IsProper, IsRequestInRange}
use Rattle.msrp.specs.PortState.{PortState}
use Rattle.msrp.specs.Part.{Part}
use Rattle.msrp.proofs.{Telling.Awaits, Telling.none_told, Talkers.HasRows, Domains.new_each, Keeping.KnowsTalkers, Keeping.kept-asked, Keeping.kept-retold, Keeping.knows_none, Keeping.knows_talkers, Keeping.port_kept, NewSide.kept-new, NewSide.shares, OtherStreams.talks_other, OtherStreams.talks_more, OtherStreams.listens_more, OtherStreams.listens_other, Clocked.Laws, Clocked.kept-clocked, Participants.PartLaws, Participants.each-settled, Ledgers.BookLaws, Rules.AwaitsStreams, Settled.MoveLaws, Settled.kept-settled, Ranges.IsWithin, Ranges.range_from, Ranges.range_row, Ranges.rule_in, Ranges.value_in}

-- ---- one port

-- the BridgeID of a port fits
abbrev HasBridge : PortState → Type 0
HasBridge p = p.config.bridge.0 < 2 ^ 64

-- the port at a place is another one, which has its BridgeID and whose contents fit
ranges-set : (side : Streams) → AreOfRange side → (at : ℕ) (p : PortState) → slice_get side.ports at ≡ Some p → (t : Part) (book : Book) (sets : List (List MsrpKey)) → HasRanges t
    → AreOfRange (record side { ports = slice_set side.ports at (record p { part = t; ledger = book }); awaiting = sets })
ranges-set side fit at p here t book sets own =
    record {
      parts = each-set (λ (q : PortState). HasRanges q.part) side.ports at (record p { part = t; ledger = book }) own fit.parts;
      talks = fit.talks;
      configs = each-set HasBridge side.ports at (record p { part = t; ledger = book }) (each-get HasBridge side.ports at p fit.configs here) fit.configs;
    }

pub ranges_at : (side : Streams) → IsProper side → (at : ℕ) (p : PortState) → slice_get side.ports at ≡ Some p → HasRanges p.part
ranges_at side proper at p here = each-get (λ (q : PortState). HasRanges q.part) side.ports at p proper.ranges.parts here

module _ (awaits : Awaits) (side : Streams) (proper : IsProper side) (at : ℕ) (p : PortState) (here : slice_get side.ports at ≡ Some p) where
  -- a participant takes the place of another, and tells keys
  known-retold : (t : Part) (told : List MsrpKey) → KnowsTalkers side p.domain told → AreRows key_cmp t.rows → HasOwnContents t → HasRanges t → SameDeclared p.part t → TellsEach told p.part t
      → IsProper (with_told_port at (with_part t p) told side)
  known-retold t told knows rows own fit same tells =
      let after : Streams = with_told_port at (with_part t p) told side in
      record {
        kept = kept-retold awaits side proper.kept at p here t told same tells knows rows own;
        ranges = ranges-set side proper.ranges at p here t p.ledger after.awaiting fit;
      }

  pub proper-retold : HasRows → (t : Part) (told : List MsrpKey) → AreRows key_cmp t.rows → HasOwnContents t → HasRanges t → SameDeclared p.part t → TellsEach told p.part t
      → IsProper (with_told_port at (with_part t p) told side)
  proper-retold has_rows t told rows own fit same tells = known-retold t told (knows_talkers has_rows side p.domain told) rows own fit same tells

  -- or tells none
  pub proper-replaced : (t : Part) → AreRows key_cmp t.rows → HasOwnContents t → HasRanges t → SameDeclared p.part t
      → ((key : MsrpKey) → registered_at key_cmp key t ≡ registered_at key_cmp key p.part)
      → IsProper (with_port_at at (with_part t p) side)
  proper-replaced t rows own fit same stays =
      let P : List (List MsrpKey) → Type 0 = λ sets. IsProper (record (with_port_at at (with_part t p) side) { awaiting = sets }) in
      subst P (none_told awaits at p.domain (known_keys side.talks side.listens side.ports) side.awaiting) (known-retold t [] (knows_none side p.domain) rows own fit same (λ key. inr (stays key)))

pub proper-at : (side : Streams) (make : PortState → Streams) (o : Option PortState) → IsProper side → ((p : PortState) → o ≡ Some p → IsProper (make p)) → IsProper (with_port o make side)
proper-at side make None proper h = proper
proper-at side make (Some p) proper h = h p refl

-- ---- a new side

new_ranges : (bridge : BridgeId) (leave_time : Cs) (periodic : Bool) (domain : DomainSet) (ports : List PortSetup)
    → AllByRecursion (λ (p : PortState). HasRanges p.part) (map (new_port bridge leave_time periodic domain) ports)
new_ranges bridge leave_time periodic domain [] = tt
new_ranges bridge leave_time periodic domain (p ∷ ports) =
    (range_from (new_port bridge leave_time periodic domain p).part (new_each p.period leave_time periodic IsWithin value_in domain), new_ranges bridge leave_time periodic domain ports)

new_bridges : (bridge : BridgeId) (leave_time : Cs) (periodic : Bool) (domain : DomainSet) (ports : List PortSetup) → bridge.0 < 2 ^ 64
    → AllByRecursion HasBridge (map (new_port bridge leave_time periodic domain) ports)
new_bridges bridge leave_time periodic domain [] fit = tt
new_bridges bridge leave_time periodic domain (p ∷ ports) fit = (fit, new_bridges bridge leave_time periodic domain ports fit)

pub proper-new : ((caps : Caps) → caps.class_a ≤ caps.both → IsKeptBook (empty_book caps))
    → (bridge : BridgeId) (leave_time : Cs) (periodic : Bool) (domain : DomainSet) (ports : List PortSetup) → bridge.0 < 2 ^ 64
    → IsProper (new_streams bridge leave_time periodic domain ports)
proper-new empty bridge leave_time periodic domain ports fit =
    record {
      kept = kept-new bridge leave_time periodic domain empty shares ports;
      ranges = record { parts = new_ranges bridge leave_time periodic domain ports; talks = tt; configs = new_bridges bridge leave_time periodic domain ports fit };
    }

-- ---- settling

module _ (parts : PartLaws) (books : BookLaws) (moves : MoveLaws) (awaits : Awaits) (awaiting : AwaitsStreams) (has_rows : HasRows) (side : Streams) (proper : IsProper side) (at : ℕ) where
  settled_with : (p : PortState) → slice_get side.ports at ≡ Some p → (ks : List MsrpKey) × (slice_get side.awaiting at ≡ Some ks)
      → IsProper (record side { ports = slice_set side.ports at (settled_at at side p); awaiting = slice_set (marked_elsewhere key_cmp at (moved_keys at side p) side.awaiting) at [] })
  settled_with p here (ks, set) =
      let book : Book = next_book at (seen_by side) ks p in
      let tried : List MsrpKey = settling_keys (moved_streams p.ledger book) (talker_keys side.talks side.ports) ks in
      let port = port_kept side proper.kept at p here in
      let bridge = each-get HasBridge side.ports at p proper.ranges.configs here in
      let kept = kept-settled parts books moves awaits awaiting has_rows side proper.kept at p here ks set in
      let fit = range_from _
      (each-settled parts (stated_at at (record p { ledger = book }) (seen_by side)) IsWithin
      (rule_in side proper.kept.ports proper.ranges at (record p { ledger = book }) bridge) tried p.part port.rows
      (range_row p.part (ranges_at side proper at p here))) in
      rw set (record { kept = kept; ranges = ranges-set side proper.ranges at p here _ book _ fit })

  pub proper-settled : IsProper (settled_streams at side)
  proper-settled =
      proper-at side
      (λ (p : PortState). record side { ports = slice_set side.ports at (settled_at at side p); awaiting = slice_set (marked_elsewhere key_cmp at (moved_keys at side p) side.awaiting) at [] })
      (slice_get side.ports at) proper (λ p here. settled_with p here (paired side.awaiting side.ports at p proper.kept.sets here))

-- ---- requests

chosen : (b : Bool) (x y : Streams) → IsProper x → IsProper y → IsProper (if b then x else y)
chosen true x y h k = h
chosen false x y h k = k

module _ (awaits : Awaits) (side : Streams) (proper : IsProper side) where
  asked : (x : StreamId) (talks : List Talker) (listens : List StreamId) → AllByRecursion IsTalker talks
      → ((s : StreamId) → (s.0 == x.0) ≡ false → talk_of s talks ≡ talk_of s side.talks)
      → ((s : StreamId) → (s.0 == x.0) ≡ false → is_listened s listens ≡ is_listened s side.listens)
      → IsProper (with_asks x talks listens side)
  asked x talks listens fit talk_same listen_same =
      record {
        kept = kept-asked awaits side proper.kept x talks listens talk_same listen_same;
        ranges = record { parts = proper.ranges.parts; talks = fit; configs = proper.ranges.configs };
      }

  pub proper-requested : (request : SrpRequest) → IsRequestInRange request → IsProper (requested_streams request side)
  proper-requested (Talk t) fit =
      chosen (is_talk (talk_of t.stream side.talks) t) _ _ proper
      (asked t.stream (t ∷ talks_without t.stream side.talks) side.listens (fit, all_filtered IsTalker (λ (u : Talker). not (u.stream.0 == t.stream.0)) side.talks proper.ranges.talks)
      (λ s e. talks_more t s side.talks e) (λ s e. refl))
  proper-requested (Hush x) fit =
      chosen (has_talk x side) _ _
      (asked x (talks_without x side.talks) side.listens (all_filtered IsTalker (λ (u : Talker). not (u.stream.0 == x.0)) side.talks proper.ranges.talks)
      (λ s e. talks_other x s side.talks e) (λ s e. refl))
      proper
  proper-requested (Listen x) fit =
      chosen (has_listen x side) _ _ proper (asked x side.talks (x ∷ side.listens) proper.ranges.talks (λ s e. refl) (λ s e. listens_more x s side.listens e))
  proper-requested (Unlisten x) fit =
      chosen (has_listen x side) _ _ (asked x side.talks (listens_without x side.listens) proper.ranges.talks (λ s e. refl) (λ s e. listens_other x s side.listens e)) proper

-- ---- the clock

clocked_ranges : (now : ℕ) (ports : List PortState) → AllByRecursion (λ (p : PortState). HasRanges p.part) ports → AllByRecursion (λ (p : PortState). HasRanges p.part) (map (clocked_port now) ports)
clocked_ranges now [] all = tt
clocked_ranges now (p ∷ ports) all = (all.0, clocked_ranges now ports all.1)

clocked_bridges : (now : ℕ) (ports : List PortState) → AllByRecursion HasBridge ports → AllByRecursion HasBridge (map (clocked_port now) ports)
clocked_bridges now [] all = tt
clocked_bridges now (p ∷ ports) all = (all.0, clocked_bridges now ports all.1)

pub proper-clocked : Laws → Awaits → HasRows → (side : Streams) → IsProper side → (now : ℕ) → side.moment ≤ now → IsProper (clocked_streams now side)
proper-clocked laws awaits rows side proper now up =
    record {
      kept = kept-clocked laws awaits rows side proper.kept now up;
      ranges = record {
        parts = clocked_ranges now side.ports proper.ranges.parts;
        talks = proper.ranges.talks;
        configs = clocked_bridges now side.ports proper.ranges.configs;
      };
    }
