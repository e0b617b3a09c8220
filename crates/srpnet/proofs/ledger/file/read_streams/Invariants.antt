use Rattle.std.proofs.Common.{◌≡◌, drop, take, []}
use Rattle.srpnet.specs.{first_crowd, different, streams_of}
use Rattle.srpnet.proofs.ledger.file.read_streams.Given as goal

abbrev pub invariant-loop-i : goal.invariant-loop-i
invariant-loop-i l = record {
  streams : l.streams.keys ≡ different (streams_of (take l.i l.wants));
  crowd : first_crowd (streams_of (take l.i l.wants)) (streams_of (drop l.i l.wants)) ≡ first_crowd [] (streams_of l.wants);
}
