use Rattle.std.proofs.Common.{sym, subst, arith}
use Rattle.std.specs.{Fmt.decimal, Str.IsUtf8}
use Rattle.std.proofs.lemmas.{Fmt.IsAscii-decimal, Str.IsUtf8-from_ascii}
use Rattle.report_words.proofs.NumberWords.{writes-none}
use Rattle.report_words.proofs.number.number_of_word.Goals as goal

pub returns-in-Err-clause-none : goal.returns-in-Err-clause-none
returns-in-Err-clause-none c n small is =
    c.in-Err.ensures.cases.0 (subst IsUtf8 (sym is) (IsUtf8-from_ascii (decimal n) (IsAscii-decimal n (omega (arith, small)))))

pub returns-in-Err-clause-number : goal.returns-in-Err-clause-number
returns-in-Err-clause-number c =
    sym (writes-none c.args.word.now
    (λ n small is. c.in-Err.ensures.cases.0 (subst IsUtf8 (sym is) (IsUtf8-from_ascii (decimal n) (IsAscii-decimal n (omega (arith, small)))))))
