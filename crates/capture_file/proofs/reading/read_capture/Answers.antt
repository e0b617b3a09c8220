use Rattle.std.proofs.Common.{length}
use Rattle.capture_file.proofs.{WithinLemmas.frames_small, WithinLemmas.records_small, AnswerLemmas.placed_ok, AnswerLemmas.placed_err, AnswerLemmas.reads, AnswerLemmas.breaks, AnswerLemmas.no_capture, AnswerLemmas.other_link, AnswerLemmas.capture_read}
use Rattle.std.proofs.lemmas.Result.{err_from_is_err_and}
use Rattle.capture_file.specs.{packets_in}
use Rattle.capture_file.proofs.reading.read_capture.Goals as goal

pub returns-in_err-records-clause-not_capture : goal.returns-in_err-records-clause-not_capture
returns-in_err-records-clause-not_capture c = λ is.
    let p = err_from_is_err_and c.from_residual.result c.from_residual.ensures.1 in
    no_capture c.args.octets.now c.in_err-records.field-0.0 (placed_err c.args.octets.now c.in_err-records.field-0.0 c.in_err-records.ensures) (cc (p.1, p.2, is))

pub returns-in_err-records-clause-other_link : goal.returns-in_err-records-clause-other_link
returns-in_err-records-clause-other_link c = λ number is.
    let p = err_from_is_err_and c.from_residual.result c.from_residual.ensures.1 in
    other_link c.args.octets.now c.in_err-records.field-0.0 number (placed_err c.args.octets.now c.in_err-records.field-0.0 c.in_err-records.ensures) (cc (p.1, p.2, is))

pub returns-in_err-records-clause-exact : goal.returns-in_err-records-clause-exact
returns-in_err-records-clause-exact c =
    let p = err_from_is_err_and c.from_residual.result c.from_residual.ensures.1 in
    rw (p.1, p.2) (placed_err c.args.octets.now c.in_err-records.field-0.0 c.in_err-records.ensures)

pub returns-clause-reads : goal.returns-clause-reads
returns-clause-reads c = λ capture is.
    reads c.args.octets.now capture (capture_read c.args.octets.now c.in_ok-records.records c.in_ok-records.left c.placed-broken.result capture c.in_ok-records.ensures c.placed-broken.ensures is)

pub returns-clause-broken : goal.returns-clause-broken
returns-clause-broken c = λ capture place is.
    breaks c.args.octets.now capture place
    (capture_read c.args.octets.now c.in_ok-records.records c.in_ok-records.left c.placed-broken.result capture c.in_ok-records.ensures c.placed-broken.ensures is)

pub returns-clause-exact : goal.returns-clause-exact
returns-clause-exact c =
    rw c.placed-broken.ensures (placed_ok c.args.octets.now (packets_in c.in_ok-records.records.items) c.in_ok-records.left c.in_ok-records.ensures)

pub returns-clause-within : goal.returns-clause-within
returns-clause-within c =
    records_small (length c.args.octets.now) c.in_ok-records.records.items
    (frames_small c.args.octets.now (packets_in c.in_ok-records.records.items) _ (placed_ok c.args.octets.now (packets_in c.in_ok-records.records.items) c.in_ok-records.left c.in_ok-records.ensures))
