use Rattle.std.proofs.Common.{◌∙◌}
use Rattle.replay_words.proofs.Declaring.{kept_by}
use Rattle.replay_words.proofs.replaced.without_replaced.Goals as goal

pub returns : goal.returns
returns c =
    c.from_vec.ensures
    ∙ kept_by c.in_ok-declared.declared c.args.events.now c.new-kept.result.items _ c.in_ok-declared.ensures c.new-kept.ensures.items c.in_ok-keep.ensures
