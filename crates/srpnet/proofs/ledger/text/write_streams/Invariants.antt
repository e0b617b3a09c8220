use Rattle.std.proofs.Common.{◌≡◌, ◌++◌, drop, string_bytes}
use Rattle.srpnet.specs.{stream_lines}
use Rattle.srpnet.proofs.ledger.text.write_streams.Given as goal

abbrev pub invariant-loop-stream : goal.invariant-loop-stream
invariant-loop-stream l =
    string_bytes l.out ++ stream_lines l.ledger.book l.wants (drop l.stream-index l.streams)
    ≡ string_bytes l.initial.out ++ stream_lines l.ledger.book l.wants l.streams
