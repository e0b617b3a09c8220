use Rattle.std.proofs.Common.{refl}
use Rattle.replay_words.specs.{bookings_of}
use Rattle.replay_words.proofs.Ledgers.{lines, on_packets, on_run}
use Rattle.replay_words.proofs.Printing.{on_frames, on_capture}
use Rattle.replay_words.proofs.laws.the_lines_tell_the_bookings.Goals as goal

pub returns-clause-lines : goal.returns-clause-lines
returns-clause-lines c = lines

pub returns-clause-ledger : goal.returns-clause-ledger
returns-clause-ledger c = λ who ends s packets booking.
    on_packets c.each_key_awaits.ensures.marked c.each_key_awaits.ensures.cleared who booking ends packets s
    (bookings_of who s.watched.streams.ways) refl

pub returns-clause-ledger_at_the_end : goal.returns-clause-ledger_at_the_end
returns-clause-ledger_at_the_end c = λ who ends s packets booking.
    on_run c.each_key_awaits.ensures.marked c.each_key_awaits.ensures.cleared who booking ends packets s
    (bookings_of who s.watched.streams.ways) refl

pub returns-clause-frames : goal.returns-clause-frames
returns-clause-frames c = λ caps ends s packets. on_frames caps ends packets s

pub returns-clause-print : goal.returns-clause-print
returns-clause-print c = on_capture
