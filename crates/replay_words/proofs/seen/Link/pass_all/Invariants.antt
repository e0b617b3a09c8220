use Rattle.std.proofs.Common.{◌≡◌, ◌≤◌, ◌++◌, drop, string_bytes}
use Rattle.std.specs.List.{AllByRecursion}
use Rattle.replay_words.specs.{all_passing, all_passed_text}
use Rattle.replay_words.proofs.seen.Link.pass_all.Given as goal

-- what is left passes from where the link is now, and is said behind the text so far
abbrev pub invariant-loop-moment : goal.invariant-loop-moment
invariant-loop-moment l = record {
  said : string_bytes l.out ++ all_passed_text l.caps l.self (drop l.moment-index l.moments)
      ≡ string_bytes l.initial.out ++ all_passed_text l.caps l.initial.self l.moments;
  seen : all_passing l.self (drop l.moment-index l.moments) ≡ all_passing l.initial.self l.moments;
  up_to : AllByRecursion (λ u. u.0 ≤ l.fn.at.0) (drop l.moment-index l.moments);
}
