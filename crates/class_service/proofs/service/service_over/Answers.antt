-- Each piece adds what it has in common with the window.
use Rattle.std.proofs.Common.{◌+◌, ◌≤◌, get_or, arith}
use Rattle.credit_shaper.specs.declared.piece.Piece.{Piece}
use Rattle.class_service.proofs.ServiceLemmas.{piece_short, piece_slope, served_on, few_bits, small_area}
use Rattle.class_service.proofs.service.service_over.Goals as goal

pub overflow_add-piece : goal.overflow_add-piece
overflow_add-piece c =
    let short : (d : Piece) → (get_or c.args.pieces.now c.loop-piece.piece-index d).bit + (get_or c.args.pieces.now c.loop-piece.piece-index d).bits ≤ c.args.input.now.end =
    piece_short c.args.input.now c.args.class c.args.from c.args.to c.loop-piece.at c.loop-piece.service c.args.pieces.now c.loop-piece.piece-index
    c.loop-piece-test.true c.loop-piece.invariant.served in
    omega (arith, short, c.requires.short)

pub loop-piece-preserved : goal.loop-piece-preserved
loop-piece-preserved c =
    record {
      served = served_on c.args.input.now c.args.class c.args.from c.args.to c.loop-piece.at c.clamp-next.result c.loop-piece.service c.with-service.result c.args.pieces.now c.loop-piece.piece-index _
          c.loop-piece-test.true c.requires.class c.requires.order c.clamp-next.ensures c.with-service.ensures c.loop-piece.invariant.served;
      within = omega arith;
      bits = few_bits c.args.class c.loop-piece.at c.clamp-next.result c.loop-piece.service c.with-service.result c.args.pieces.now c.loop-piece.piece-index _
          c.with-service.ensures (omega arith) c.loop-piece.invariant.bits;
      area = small_area c.args.class c.loop-piece.at c.clamp-next.result c.loop-piece.service c.with-service.result c.args.pieces.now c.loop-piece.piece-index _
          c.with-service.ensures (omega arith)
          (piece_slope c.args.input.now c.args.class c.args.from c.args.to c.loop-piece.at c.loop-piece.service c.args.pieces.now c.loop-piece.piece-index _
          c.loop-piece-test.true c.loop-piece.invariant.served)
          c.loop-piece.invariant.area;
    }
