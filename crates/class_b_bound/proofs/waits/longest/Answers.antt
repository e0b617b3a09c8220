-- The waits start with none, and go on from piece to piece.
use Rattle.std.proofs.Common.{refl, arith}
use Rattle.class_b_bound.specs.{IsWaits}
use Rattle.class_b_bound.proofs.{PieceLemmas.waits_first, PieceLemmas.piece_at, PieceLemmas.short_at, PieceLemmas.pieces_on, PieceLemmas.tiles_end, PieceLemmas.worst_of, WaitLemmas.waited_most}
use Rattle.class_b_bound.proofs.waits.longest.Goals as goal

pub loop-piece-init : goal.loop-piece-init
loop-piece-init c =
    record { waits = waits_first c.args.input.now _ refl refl refl; pieces = c.requires.pieces; now = omega arith }

pub after-waits-requires-clause-short : goal.after-waits-requires-clause-short
after-waits-requires-clause-short c =
    short_at c.args.input.now c.loop-piece.waits.bit c.args.input.now.end _ c.args.pieces.now c.loop-piece.piece-index _
    c.loop-piece-test.true c.loop-piece.invariant.pieces c.requires.short

pub loop-piece-preserved : goal.loop-piece-preserved
loop-piece-preserved c =
    let input = c.args.input.now in
    let is : IsWaits input c.after-waits.result =
    c.after-waits.ensures.waits input
    (piece_at input c.loop-piece.waits.bit input.end c.args.pieces.now c.loop-piece.piece-index _ c.loop-piece-test.true c.loop-piece.invariant.pieces)
    c.loop-piece.invariant.waits in
    let most = waited_most input c.after-waits.result.bit in
    record {
      waits = is;
      pieces = pieces_on input c.loop-piece.waits.bit input.end c.after-waits.result.bit c.args.pieces.now c.loop-piece.piece-index _
          c.loop-piece-test.true c.loop-piece.invariant.pieces c.after-waits.ensures.bit;
      now = omega (arith, most, is.now);
    }

pub returns : goal.returns
returns c =
    let end = tiles_end c.args.input.now c.loop-piece.waits.bit c.args.input.now.end c.args.pieces.now c.loop-piece.piece-index
    (omega arith) c.loop-piece.invariant.pieces in
    worst_of c.args.input.now c.loop-piece.waits end c.loop-piece.invariant.waits
