use Rattle.std.proofs.Common.{ℕ, ◌<◌, List, ◌++◌, length, sym, ap, subst, ◌∙◌}
use Rattle.std.specs.Prelude.{Err, IfSome}
use Rattle.srp_report.specs.Printout.{IsFront}
use Rattle.srpnet.proofs.PrintLemmas.{stopped_out, stopped_short, memory_out, piece_out}
use Rattle.srpnet.proofs.top.print.Goals as goal

pub returns-in-Err-print_piece-clause-part : goal.returns-in-Err-print_piece-clause-part
returns-in-Err-print_piece-clause-part g c = λ written is.
    let front = subst (λ o. IfSome o (λ p. IsFront p.items c.loop-piece.rest c.next_piece.new.self)) c.in-Ok-Some.field-0-is c.in-Ok-Some.ensures.piece in
    stopped_out _ _ c.args.text _ _ c.loop-piece.invariant.0 _ c.as_slice.result.now c.next_piece.new.self
    (front.front ∙ ap (λ (p : List ℕ). p ++ c.next_piece.new.self) (sym c.as_slice.ensures.value)) written
    (c.in-Err-print_piece.ensures.part written (ap Err is))

pub returns-in-Err-print_piece-clause-short : goal.returns-in-Err-print_piece-clause-short
returns-in-Err-print_piece-clause-short g c = λ written is.
    let front = subst (λ o. IfSome o (λ p. IsFront p.items c.loop-piece.rest c.next_piece.new.self)) c.in-Ok-Some.field-0-is c.in-Ok-Some.ensures.piece in
    stopped_short _ _ c.args.text _ _ c.loop-piece.invariant.0 _ c.as_slice.result.now c.next_piece.new.self
    (front.front ∙ ap (λ (p : List ℕ). p ++ c.next_piece.new.self) (sym c.as_slice.ensures.value)) written
    (c.in-Err-print_piece.ensures.part written (ap Err is))

pub returns-in-Err-print_piece-clause-memory : goal.returns-in-Err-print_piece-clause-memory
returns-in-Err-print_piece-clause-memory g c = λ is.
    let front = subst (λ o. IfSome o (λ p. IsFront p.items c.loop-piece.rest c.next_piece.new.self)) c.in-Ok-Some.field-0-is c.in-Ok-Some.ensures.piece in
    memory_out _ _ c.args.text _ _ c.loop-piece.invariant.0 _ c.as_slice.result.now c.next_piece.new.self
    (front.front ∙ ap (λ (p : List ℕ). p ++ c.next_piece.new.self) (sym c.as_slice.ensures.value))
    (c.in-Err-print_piece.ensures.memory (ap Err is))

pub loop-piece-preserved : goal.loop-piece-preserved
loop-piece-preserved g c =
    let front = subst (λ o. IfSome o (λ p. IsFront p.items c.loop-piece.rest c.next_piece.new.self)) c.in-Ok-Some.field-0-is c.in-Ok-Some.ensures.piece in (
      piece_out _ _ c.args.text _ _ c.loop-piece.invariant.0 _ c.as_slice.result.now c.next_piece.new.self
          (front.front ∙ ap (λ (p : List ℕ). p ++ c.next_piece.new.self) (sym c.as_slice.ensures.value))
          (subst (λ (p : List ℕ). 0 < length p) (sym c.as_slice.ensures.value) front.some)
          c.in-Ok.ensures.whole c.in-Ok.now c.in-Ok.ensures.written,
      c.in-Ok.ensures.counts ∙ c.loop-piece.invariant.1,
    )
