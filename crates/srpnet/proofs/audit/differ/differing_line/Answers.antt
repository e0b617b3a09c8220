use Rattle.std.proofs.Common.{◌≡◌, ◌<◌, ◌≤◌, ◌++◌, ℕ, List, length, sym, ap, subst, ◌∙◌, arith}
use Rattle.std.specs.Prelude.{IfSome}
use Rattle.srp_report.specs.Printout.{IsFront}
use Rattle.srpnet.proofs.AuditLemmas.{more_given, nothing, piece_differs, piece_same}
use Rattle.srpnet.proofs.audit.differ.differing_line.Goals as goal

pub returns-then-common-len-clause-some : goal.returns-then-common-len-clause-some
returns-then-common-len-clause-some c =
    let front = subst (λ o. IfSome o (λ p. IsFront p.items c.loop-rest.rest c.next_piece.new.self)) c.in-Some.is c.in_ok-piece.ensures.piece in
    let common = c.common_from-common.ensures in
    let short = c.if-common-len.true in
    let size = c.len.ensures in
    let value = c.as_slice.ensures.value in
    let sizes = ap length value in
    piece_differs c.args.given.now c.args.wanted c.loop-rest.rest c.loop-rest.at c.loop-rest.lines c.loop-rest.invariant
    c.as_slice.result.now c.next_piece.new.self (front.front ∙ ap (λ (p : List ℕ). p ++ c.next_piece.new.self) (sym value))
    c.common_from-common.result.octets c.common_from-common.result.lines common.within.0 common.within.1 common.same common.lines common.few
    (omega (arith, short, size, sizes)) common.no_more

pub loop-rest-preserved : goal.loop-rest-preserved
loop-rest-preserved c =
    let front = subst (λ o. IfSome o (λ p. IsFront p.items c.loop-rest.rest c.next_piece.new.self)) c.in-Some.is c.in_ok-piece.ensures.piece in
    let common = c.common_from-common.ensures in
    let whole = c.if-common-len.false in
    let size = c.len.ensures in
    let value = c.as_slice.ensures.value in
    let sizes = ap length value in
    piece_same c.args.given.now c.args.wanted c.loop-rest.rest c.loop-rest.at c.loop-rest.lines c.loop-rest.invariant
    c.as_slice.result.now c.next_piece.new.self (front.front ∙ ap (λ (p : List ℕ). p ++ c.next_piece.new.self) (sym value))
    c.common_from-common.result.octets c.common_from-common.result.lines common.within.0 common.within.1 common.same common.lines common.few
    (omega (arith, whole, size, sizes))

pub returns-then-at-given-clause-some : goal.returns-then-at-given-clause-some
returns-then-at-given-clause-some c =
    more_given c.args.given.now c.args.wanted c.loop-rest.rest c.loop-rest.at c.loop-rest.lines c.loop-rest.invariant
    (c.in_ok-piece.ensures.end (nothing c.in_ok-piece.field-0 c.in_default.not-Some)) c.if-at-given.true
