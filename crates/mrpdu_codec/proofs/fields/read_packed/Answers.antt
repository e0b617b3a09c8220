use Rattle.std.proofs.Common.{◌≡◌, arith}
use Rattle.mrpdu_codec.proofs.Loops.{packed_ends, packed_above, packed_whole}
use Rattle.mrpdu_codec.proofs.fields.read_packed.Goals as goal

pub returns-then-i-octets : goal.returns-then-i-octets
returns-then-i-octets c = packed_ends c.args.limit c.args.n c.loop-i.i c.args.octets.now c.loop-i-test.true c.if-i-octets.true c.loop-i.invariant.1

pub returns-then-octets-i : goal.returns-then-octets-i
returns-then-octets-i c =
    let f = c.if-i-octets.false in
    packed_above c.args.limit c.args.n c.loop-i.i c.args.octets.now c.loop-i-test.true (omega (arith, c.loop-i.invariant.0)) c.loop-i.invariant.1 c.if-octets-i.true

pub returns : goal.returns
returns c =
    let i-is : c.loop-i.i ≡ c.args.n = omega (arith, c.loop-i-test.false, c.loop-i.auto.i-end) in
    rw (c.split_at.ensures.front, c.split_at.ensures.back) (packed_whole c.args.limit c.args.n c.args.octets.now (rw i-is at c.loop-i.invariant.0) (rw i-is at c.loop-i.invariant.1))
