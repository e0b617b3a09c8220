use Rattle.std.proofs.Common.{rules, ℕ, ◌≤◌, List, length, subst}
use Rattle.srpnet.specs.{ReadFault, TooLong, IsEndingOf, EndsBy}
use Rattle.srpnet.proofs.{Inputs.answered, Inputs.ends_read, Judged.command_judges, Judged.judged_err, Judged.lacks_output, Judged.not_reading, Judged.threads_read}
use Rattle.srpnet.proofs.top.read_output_by_threads.Goals as goal

pub returns : goal.returns
returns g c =
    let command = c.args.command in
    let octets = c.as_slice.result.now in
    let made = c.output_by_threads in
    let whole = c.in_ok-whole.whole.items in
    let few = subst (λ (most : ℕ). length whole ≤ most) c.most_octets.ensures.most c.in_ok-whole.ensures.within in
    let judged = judged_err (IsEndingOf command octets) made.result (command_judges command octets) made.ensures.ends in
    let reads = threads_read command c.requires in
    record {
      answer = answered command made.result whole octets _ _ c.as_slice.ensures.value c.in_ok-whole.ensures.whole few made.ensures.output made.ensures.verdict
          made.ensures.no_journal;
      only = lacks_output made.result judged made.ensures.not_done;
      given = search rules;
      read_fault = λ is. absurd (not_reading ReadFault made.result judged is);
      in_time = λ is. absurd (not_reading ReadFault made.result judged is);
      counts = search rules;
      too_long = λ is. absurd (not_reading TooLong made.result judged is);
      refused = search rules;
      ends = λ told is no_fault.
          ends_read command whole made.result _ _ reads c.in_ok-whole.ensures.whole few
          (subst (λ (os : List ℕ). EndsBy (IsEndingOf command os) made.result) c.as_slice.ensures.value made.ensures.ends) told is;
      unread = search (rules, reads);
      unread_ends = search (rules, reads);
    }
