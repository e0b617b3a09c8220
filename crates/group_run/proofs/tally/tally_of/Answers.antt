use Rattle.std.proofs.Common.{◌≤◌, List, length, sym, ap, ◌∙◌, arith}
use Rattle.std.specs.Prelude.{fold}
use Rattle.std.proofs.lemmas.List.{drop_all}
use Rattle.srp_base.specs.declared.numbers.EgressPort.{EgressPort}
use Rattle.report_words.proofs.Counting.{all-counted}
use Rattle.mmrp.specs.declared.events.GroupReply.{GroupReply}
use Rattle.group_run.specs.{is_discarded, octets_sent, replies_of, with_reply}
use Rattle.group_run.proofs.tally.tally_of.Goals as goal

pub returns : goal.returns
returns c =
    let replies = c.args.replies.now in
    let i = c.loop-made.made-index in
    let test = c.loop-made-test.false in
    let past : length replies ≤ i = omega (arith, test) in
    ap (λ (rs : List (EgressPort × GroupReply)). fold with_reply c.loop-made.tally (replies_of c.args.at rs)) (sym (drop_all i replies past))
    ∙ (sym c.loop-made.invariant ∙ all-counted octets_sent is_discarded (replies_of c.args.at replies))
