-- A node at rest: at an earlier moment it is so too, and it stays so while the clock goes on.
use Rattle.std.proofs.Common.{◌≡◌, ℕ, ◌+◌, ◌<◌, ◌≤◌, Bool, true, false, List, [], ◌∷◌, length, map, Option, Some, None, inl, inr, refl, sym, ◌∙◌, ap, arith}
use Rattle.std.specs.Prelude.{not, nat_le, nat_lt, ◌==◌, ◌||◌}
use Rattle.std.specs.List.{AllByRecursion, list_any}
use Rattle.std.proofs.lemmas.Bool.{false≢true, and_cases, and_from, and_left, and_parts, and_right, lt-leb, ne_eqb, not_from_false, or_from, or_parts, cases_lt, le-leb}
use Rattle.srp_base.proofs.Bools.{held_from as not-true}
use Rattle.srp_base.specs.declared.numbers.Cs.{Cs}
use Rattle.leaveall.specs.declared.Periodic.{Periodic}
use Rattle.leaveall.specs.Table.{is_due}
use Rattle.mrp_participant.specs.declared.row.Row.{Row}
use Rattle.registrar.specs.Table.{is_leaving}
use Rattle.mrp_participant.specs.{Row.leave_is_due, State.State, State.is_any_due, State.is_leave_all_due, State.is_periodic_due}
use Rattle.stream_importance.specs.declared.entry.Entry.{Entry}
use Rattle.stream_importance.specs.Importance.{moment_or}
use Rattle.port_ledger.specs.Book.{clocked_book, has_new_booking, is_since}
use Rattle.msrp_codec.specs.declared.pdu.MsrpKey.{MsrpKey}
use Rattle.msrp.specs.{PortState.PortState, Settling.talker_keys, Side.Streams, Side.IsPort, Side.clocked_port, Side.clocked_sets, Side.shows_at, Side.is_busy as streams_are_busy}
use Rattle.msrp.proofs.Clocked.{none_shown}
use Rattle.flat_side.specs.Side.{is_busy as vlans_are_busy}
use Rattle.mvrp.specs.Side.{Vlans}
use Rattle.node_core.specs.{IsKeptNode, NodeState, are_empty, is_at_rest, is_busy_at, is_busy_node, clocked_node}

-- ---- sooner

none-sooner : {X : Type 0} (soon late : X → Bool) → ((x : X) → late x ≡ false → soon x ≡ false) → (xs : List X) → list_any late xs ≡ false → list_any soon xs ≡ false
none-sooner soon late each [] h = refl
none-sooner soon late each (x ∷ xs) h =
    let parts = or_parts (late x) (list_any late xs) h in
    or_from (soon x) (list_any soon xs) (each x parts.0) (none-sooner soon late each xs parts.1)

not-sooner : (at soon late : ℕ) → soon ≤ late → nat_le at late ≡ false → nat_le at soon ≡ false
not-sooner at soon late le nay =
    elim (cases_lt soon at) [
      | inl below ↦ lt-leb at soon below
      | inr upto ↦ absurd (false≢true (sym nay ∙ le-leb at late (omega (arith, upto, le))))
    ]

row-sooner : {K C : Type 0} (soon late : ℕ) → soon ≤ late → (r : Row K C) → leave_is_due late r ≡ false → leave_is_due soon r ≡ false
row-sooner soon late le r nay =
    elim (and_cases (is_leaving r.registrar) (nat_le r.leave.0 late) nay) [
      | inl still ↦ and_left (is_leaving r.registrar) (nat_le r.leave.0 soon) still
      | inr later ↦ and_right (is_leaving r.registrar) (nat_le r.leave.0 soon) (not-sooner r.leave.0 soon late le later)
    ]

periodic-sooner : (soon late : ℕ) → soon ≤ late → (p : Periodic) → is_due late p ≡ false → is_due soon p ≡ false
periodic-sooner soon late le p nay =
    elim (and_cases p.on (nat_le p.next.0 late) nay) [
      | inl off ↦ and_left p.on (nat_le p.next.0 soon) off
      | inr later ↦ and_right p.on (nat_le p.next.0 soon) (not-sooner p.next.0 soon late le later)
    ]

part-sooner : {K C : Type 0} (soon late : Cs) → soon.0 ≤ late.0 → (s : State K C) → is_any_due late s ≡ false → is_any_due soon s ≡ false
part-sooner soon late le s nay =
    let rows = or_parts (list_any (leave_is_due late.0) s.rows) (is_leave_all_due late s || is_periodic_due late s) nay in
    let others = or_parts (is_leave_all_due late s) (is_periodic_due late s) rows.1 in
    or_from (list_any (leave_is_due soon.0) s.rows) (is_leave_all_due soon s || is_periodic_due soon s)
    (none-sooner (leave_is_due soon.0) (leave_is_due late.0) (row-sooner soon.0 late.0 le) s.rows rows.0)
    (or_from (is_leave_all_due soon s) (is_periodic_due soon s) (not-sooner s.next_leave_all.0 soon.0 late.0 le others.0)
    (periodic-sooner soon.0 late.0 le s.periodic others.1))

vlans-sooner : (soon late : Cs) → soon.0 ≤ late.0 → (side : Vlans) → vlans_are_busy late side ≡ false → vlans_are_busy soon side ≡ false
vlans-sooner soon late le side nay =
    let awaits = list_any (λ vids. not (length vids == 0)) side.awaiting in
    let parts = or_parts (list_any (is_any_due late) side.parts) awaits nay in
    or_from (list_any (is_any_due soon) side.parts) awaits
    (none-sooner (is_any_due soon) (is_any_due late) (part-sooner soon late le) side.parts parts.0) parts.1

streams-sooner : (soon late : Cs) → soon.0 ≤ late.0 → (side : Streams) → streams_are_busy late side ≡ false → streams_are_busy soon side ≡ false
streams-sooner soon late le side nay =
    let due : Cs → PortState → Bool = λ now p. is_any_due now p.part in
    let awaits = list_any (λ keys. not (length keys == 0)) side.awaiting in
    let parts = or_parts (list_any (due late) side.ports) awaits nay in
    or_from (list_any (due soon) side.ports) awaits
    (none-sooner (due soon) (due late) (λ p h. part-sooner soon late le p.part h) side.ports parts.0) parts.1

-- ---- a rest, part by part

pub record HasRest (until : Cs) (s : NodeState) : Type 0 where
  pub inboxes : not (are_empty s.inboxes) ≡ false
  pub vlans : vlans_are_busy until s.vlans ≡ false
  pub streams : streams_are_busy until s.streams ≡ false
  pub shows : list_any (shows_at (s.clock.0 + 1)) s.streams.ports ≡ false

rest-parts : (until : Cs) (s : NodeState) → is_at_rest until s ≡ true → HasRest until s
rest-parts until s h =
    let two = and_parts (not (is_busy_at until s)) (not (list_any (shows_at (s.clock.0 + 1)) s.streams.ports)) h in
    let busy = or_parts (not (are_empty s.inboxes) || vlans_are_busy until s.vlans) (streams_are_busy until s.streams) (not-true (is_busy_at until s) two.0) in
    let first = or_parts (not (are_empty s.inboxes)) (vlans_are_busy until s.vlans) busy.0 in
    record {
      inboxes = first.0;
      vlans = first.1;
      streams = busy.1;
      shows = not-true (list_any (shows_at (s.clock.0 + 1)) s.streams.ports) two.1;
    }

rest-from : (until : Cs) (s : NodeState) → HasRest until s → is_at_rest until s ≡ true
rest-from until s h =
    let busy = or_from (not (are_empty s.inboxes) || vlans_are_busy until s.vlans) (streams_are_busy until s.streams)
    (or_from (not (are_empty s.inboxes)) (vlans_are_busy until s.vlans) h.inboxes h.vlans) h.streams in
    and_from (not (is_busy_at until s)) (not (list_any (shows_at (s.clock.0 + 1)) s.streams.ports))
    (not_from_false (is_busy_at until s) busy) (not_from_false (list_any (shows_at (s.clock.0 + 1)) s.streams.ports) h.shows)

pub rest-idle : (s : NodeState) → is_at_rest s.clock s ≡ true → is_busy_node s ≡ false
rest-idle s h =
    not-true (is_busy_at s.clock s) (and_parts (not (is_busy_at s.clock s)) (not (list_any (shows_at (s.clock.0 + 1)) s.streams.ports)) h).0

pub rest-sooner : (soon late : Cs) (s : NodeState) → soon.0 ≤ late.0 → is_at_rest late s ≡ true → is_at_rest soon s ≡ true
rest-sooner soon late s le h =
    let parts = rest-parts late s h in
    rest-from soon s (record {
      inboxes = parts.inboxes;
      vlans = vlans-sooner soon late le s.vlans parts.vlans;
      streams = streams-sooner soon late le s.streams parts.streams;
      shows = parts.shows;
    })

-- ---- once the clock has gone on

due-clocked : (until : Cs) (now : ℕ) (ports : List PortState)
    → list_any (λ (p : PortState). is_any_due until p.part) (map (clocked_port now) ports) ≡ list_any (λ (p : PortState). is_any_due until p.part) ports
due-clocked until now [] = refl
due-clocked until now (p ∷ ports) = ap (λ b. is_any_due until p.part || b) (due-clocked until now ports)

-- no booking is as new as a later moment
not-since : (moment now : ℕ) → moment < now → (since : Option Cs) → moment_or moment since ≤ moment → is_since now since ≡ false
not-since moment now lt None le = refl
not-since moment now lt (Some m) le = ne_eqb m.0 now (λ e. omega (arith, lt, le, e))

none-since : (moment now : ℕ) → moment < now → (entries : List Entry) → AllByRecursion (λ x. moment_or moment x.since ≤ moment) entries
    → list_any (λ x. is_since now x.since) entries ≡ false
none-since moment now lt [] all = refl
none-since moment now lt (x ∷ entries) all =
    or_from (is_since now x.since) (list_any (λ y. is_since now y.since) entries) (not-since moment now lt x.since all.0) (none-since moment now lt entries all.1)

shows-none : (moment now : ℕ) → moment < now → (ports : List PortState) → AllByRecursion (IsPort moment) ports → list_any (shows_at (now + 1)) (map (clocked_port now) ports) ≡ false
shows-none moment now lt [] all = refl
shows-none moment now lt (p ∷ ports) all =
    let later : p.ledger.moment < now = omega (arith, all.0.moment, lt) in
    or_from (shows_at (now + 1) (clocked_port now p)) (list_any (shows_at (now + 1)) (map (clocked_port now) ports))
    (and_right (nat_lt now (now + 1)) (has_new_booking (clocked_book now p.ledger)) (none-since p.ledger.moment now later p.ledger.entries all.0.ledger.moments))
    (shows-none moment now lt ports all.1)

pub rest-clocked : (until : Cs) (s : NodeState) → IsKeptNode s → is_at_rest until s ≡ true → is_at_rest until (clocked_node s) ≡ true
rest-clocked until s kept h =
    let parts = rest-parts until s h in
    let side = s.streams in
    let now = s.clock.0 + 1 in
    let keys = talker_keys side.talks side.ports in
    let some : List (List MsrpKey) → Bool = λ sets. list_any (λ ks. not (length ks == 0)) sets in
    let two = or_parts (list_any (λ (p : PortState). is_any_due until p.part) side.ports) (some side.awaiting) parts.streams in
    rest-from until (clocked_node s) (record {
      inboxes = parts.inboxes;
      vlans = parts.vlans;
      streams = or_from (list_any (λ (p : PortState). is_any_due until p.part) (map (clocked_port now) side.ports)) (some (clocked_sets now keys side.ports side.awaiting))
          (due-clocked until now side.ports ∙ two.0) (ap some (none_shown now keys side.ports side.awaiting kept.streams.sets parts.shows) ∙ two.1);
      shows = shows-none side.moment now (omega (arith, kept.moment)) side.ports kept.streams.ports;
    })
