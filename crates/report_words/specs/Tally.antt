-- What a port sent and discarded, as the answers of its steps tell. Which PDU an answer says was
-- sent, and whether it says that one was discarded, those who know the answers give as two
-- functions.
use Rattle.std.specs.Prelude.{ℕ, ◌+◌, ◌-◌, ◌^◌, min, Bool, true, false, List, length, filter, filter_map, sum, Option, Some, None}
use Rattle.report_words.specs.declared.tally.Tally.{Tally}

-- a count, which stands still at the end of its type, 64 bits
abbrev pub count_of : ℕ → ℕ
count_of n = min n (2 ^ 64 - 1)

-- the number of PDUs that the answers say were sent, the sum of their octets, and the number of
-- those that were discarded
abbrev pub tally_by : {X : Type 0} → (X → Option ℕ) → (X → Bool) → List X → Tally
tally_by octets_sent is_discarded answers =
    record {
      sent = count_of (length (filter_map octets_sent answers));
      octets = count_of (sum (filter_map octets_sent answers));
      discarded = count_of (length (filter is_discarded answers));
    }

-- ---- one answer after the other

-- nothing was sent or discarded
abbrev pub zero_tally : Tally
zero_tally = record { sent = 0; octets = 0; discarded = 0 }

-- the tally with a PDU more that was sent, of so many octets
abbrev pub with_sent : Tally → ℕ → Tally
with_sent t octets = record t { sent = count_of (t.sent + 1); octets = count_of (t.octets + octets) }

-- with a PDU more that was discarded
abbrev pub with_discarded : Tally → Tally
with_discarded t = record t { discarded = count_of (t.discarded + 1) }

-- with what an answer says
abbrev pub with_both : Option ℕ → Bool → Tally → Tally
with_both None false t = t
with_both None true t = with_discarded t
with_both (Some octets) false t = with_sent t octets
with_both (Some octets) true t = with_discarded (with_sent t octets)

-- with one answer more
abbrev pub with_answer : {X : Type 0} → (X → Option ℕ) → (X → Bool) → Tally → X → Tally
with_answer octets_sent is_discarded t answer = with_both (octets_sent answer) (is_discarded answer) t

-- two tallies together
abbrev pub with_tally : Tally → Tally → Tally
with_tally t more =
    record {
      sent = count_of (t.sent + more.sent);
      octets = count_of (t.octets + more.octets);
      discarded = count_of (t.discarded + more.discarded);
    }
