use Rattle.rule_words.specs.{walk_word}
use Rattle.rule_words.proofs.JoinedLemmas.{words-step}
use Rattle.rule_words.proofs.joined.put_walk_numbers.Goals as goal

pub loop-i-preserved : goal.loop-i-preserved
loop-i-preserved c =
    words-step (walk_word c.args.links.now c.args.ends.a c.args.ends.b) c.loop-i.i c.args.out.now.items _ _ c.loop-i.invariant c.in_ok-put_walk_number.ensures
