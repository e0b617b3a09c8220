use Rattle.std.proofs.Common.{◌≡◌, ◌+◌, drop, take, None}
use Rattle.srp_base.specs.declared.numbers.StreamId.{StreamId}
use Rattle.port_ledger.specs.Book.{Book, want_of}
use Rattle.toml_rules.specs.Rules.{first_fall}
use Rattle.srpnet.specs.{want_ticks, Leads, last_want}
use Rattle.srpnet.proofs.ledger.bookings.bookings.Given as goal

abbrev pub invariant-loop-want : goal.invariant-loop-want
invariant-loop-want l = record {
  caps : l.ledger.book.caps ≡ l.initial.ledger.book.caps;
  moment : l.now.0 ≡ l.ledger.book.moment;
  ticks : first_fall (l.want-index + 1) l.now.0 (want_ticks (drop l.want-index l.wants)) ≡ None;
  kept : (s : StreamId) → want_of l.ledger.book.entries s ≡ last_want (take l.want-index l.wants) s;
  leads : (end : Book) → Leads l.ledger.book (drop l.want-index l.wants) end → Leads l.initial.ledger.book l.wants end;
}
