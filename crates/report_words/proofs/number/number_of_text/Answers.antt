use Rattle.std.proofs.Common.{◌≡◌, sym, ap, ◌∙◌, arith}
use Rattle.std.specs.{Cmp.Lexicographic.bytes_decides, Fmt.decimal}
use Rattle.std.proofs.lemmas.{Bool.false≢true, Fmt.parse-decimal}
use Rattle.srp_base.proofs.Arithmetic.{ok-same}
use Rattle.report_words.proofs.NumberWords.{writes-none, writes-number}
use Rattle.report_words.proofs.number.number_of_text.Goals as goal

pub returns-in_default-clause-none : goal.returns-in_default-clause-none
returns-in_default-clause-none c n small is =
    c.in_default.not-Ok n (parse-decimal 32 n c.args.text.now c.parse.result small (omega (arith, small)) is c.parse.ensures.value.0)

pub returns-in_default-clause-number : goal.returns-in_default-clause-number
returns-in_default-clause-number c =
    sym (writes-none c.args.text.now
    (λ n small is. c.in_default.not-Ok n (parse-decimal 32 n c.args.text.now c.parse.result small (omega (arith, small)) is c.parse.ensures.value.0)))

pub returns-then-eq-clause-number : goal.returns-then-eq-clause-number
returns-then-eq-clause-number c =
    let word = c.args.text.now in
    let number = c.in-Ok.number in
    let value = c.in-Ok.ensures.value.0 in
    sym (writes-number word number (omega (arith, value.0.1, value.1))
    ((bytes_decides word c.format.result.now).0 (sym c.eq.ensures ∙ c.if-eq.true) ∙ c.format.ensures.text))

pub returns-else-eq-clause-none : goal.returns-else-eq-clause-none
returns-else-eq-clause-none c n small is =
    let text = c.args.text.now in
    let found = parse-decimal 32 n text c.parse.result small (omega (arith, small)) is c.parse.ensures.value.0 in
    let same : c.in-Ok.number ≡ n = ok-same c.parse.result c.in-Ok.number n c.in-Ok.is found in
    false≢true (sym c.if-eq.false ∙ (c.eq.ensures ∙ (bytes_decides text c.format.result.now).1 (is ∙ ap decimal (sym same) ∙ sym c.format.ensures.text)))

pub returns-else-eq-clause-number : goal.returns-else-eq-clause-number
returns-else-eq-clause-number c = sym (writes-none c.args.text.now (λ n small is. returns-else-eq-clause-none c n small is))
