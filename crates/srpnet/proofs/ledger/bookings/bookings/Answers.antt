use Rattle.std.proofs.Common.{◌+◌, ◌<◌, ◌≤◌, length, arith, rules}
use Rattle.srpnet.proofs.LedgerLemmas.{kept_step, leads_on, lines_at_end, none_falls_next}
use Rattle.srpnet.proofs.ledger.bookings.bookings.Goals as goal

pub returns-clause-lines : goal.returns-clause-lines
returns-clause-lines c =
    let end : length c.as_slice-wants.result.now ≤ c.loop-want.want-index = omega (arith, c.loop-want-test.false) in
    lines_at_end c.loop-want.ledger.book c.as_slice-wants.result.now _ c.loop-want.want-index c.as_slice-wants.ensures
    end c.stands.ensures.kept c.loop-want.invariant.kept

pub loop-want-preserved : goal.loop-want-preserved
loop-want-preserved c =
    let more : c.loop-want.want-index < length c.as_slice-wants.result.now = c.loop-want-test.true in
    record {
      caps = search rules;
      moment = search rules;
      ticks = none_falls_next (c.loop-want.want-index + 1) c.loop-want.now.0 c.as_slice-wants.result.now c.loop-want.want-index _ more c.loop-want.invariant.ticks;
      kept = kept_step c.loop-want.ledger.book.entries c.want.new.self.book.entries c.as_slice-wants.result.now c.loop-want.want-index _ more
          c.in_ok-want.ensures.kept c.loop-want.invariant.kept;
      leads = leads_on c.new-ledger.result.book c.loop-want.ledger.book c.want.new.self.book c.as_slice-wants.result.now c.loop-want.want-index _ more
          (record { caps = search rules; moment = search rules; decided = c.in_ok-want.ensures.decided }) c.loop-want.invariant.leads;
    }
