use Rattle.std.proofs.Common.{◌≡◌, length, sym, arith}
use Rattle.std.proofs.lemmas.{List.length-drop, List.nil_from_length, Result.err_from_is_err_and}
use Rattle.capture_file.specs.{packets_in, meant_in}
use Rattle.capture_file.proofs.PieceLoops.{begins, goes_on, stops, ends, fails}
use Rattle.capture_file.proofs.reading.read_pieces.Goals as goal

pub returns-in-None : goal.returns-in-None
returns-in-None c =
    stops _ (packets_in c.more.records.items) c.more.now c.more.rest.now c.more.invariant (let e = c.is_empty.ensures in let t = c.more-test.true in grind arith) (sym c.in-None.ensures)

pub returns-in_err-take-in-Some : goal.returns-in_err-take-in-Some
returns-in_err-take-in-Some c =
    let p = err_from_is_err_and c.from_residual.result c.from_residual.ensures.1 in
    rw (p.1, p.2) (fails _ (packets_in c.more.records.items) c.more.now c.more.rest.now c.more.invariant (meant_in c.in-Some.said) c.in-Some.size
    (sym c.in-Some.ensures) c.in_err-take-in-Some.field-0.0 c.in_err-take-in-Some.ensures.err)

pub more-smaller : goal.more-smaller
more-smaller c =
    let b = begins c.more.now c.more.rest.now (meant_in c.in-Some.said) c.in-Some.size (sym c.in-Some.ensures) in
    rw c.behind-rest.ensures (omega (arith, b.within, b.some, length-drop c.in-Some.size c.more.rest.now))

pub more-preserved : goal.more-preserved
more-preserved c =
    rw (c.behind-rest.ensures, c.in_ok-take-in-Some.ensures.setting, c.in_ok-take-in-Some.ensures.records)
    (goes_on _ (packets_in c.more.records.items) c.more.now c.more.rest.now c.more.invariant (meant_in c.in-Some.said) c.in-Some.size (sym c.in-Some.ensures) c.in_ok-take-in-Some.ensures.on)

pub returns : goal.returns
returns c =
    let none : length c.more.rest.now ≡ 0 = (let e = c.is_empty.ensures in let t = c.more-test.false in grind arith) in
    ends _ (packets_in c.more.records.items) c.more.now c.more.rest.now c.more.invariant (nil_from_length c.more.rest.now none)
