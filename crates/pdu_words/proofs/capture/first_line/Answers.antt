use Rattle.std.proofs.Common.{◌+◌, ◌∷◌, ℕ, List, take, ap, sym, ◌∙◌}
use Rattle.pdu_words.specs.{lines_of}
use Rattle.pdu_words.proofs.CaptureLemmas.{first_at, one_line, rest_is}
use Rattle.pdu_words.proofs.capture.first_line.Goals as goal

pub returns-in-Some-clause-lines : goal.returns-in-Some-clause-lines
returns-in-Some-clause-lines c =
    let text = c.args.text.now in
    let end = c.in-Some.end in
    first_at text end c.in-Some.ensures.0.high c.in-Some.ensures.0.before c.in-Some.ensures.1
    ∙ ap (λ (rest : List ℕ). take end text ∷ lines_of rest) (sym (rest_is text (end + 1)))

pub returns-in-None-clause-lines : goal.returns-in-None-clause-lines
returns-in-None-clause-lines c =
    one_line c.args.text.now c.requires c.in-None.ensures
    ∙ ap (λ (rest : List ℕ). c.args.text.now ∷ lines_of rest) (sym c.as_slice.ensures)
