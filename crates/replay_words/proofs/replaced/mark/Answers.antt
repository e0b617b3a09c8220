use Rattle.replay_words.proofs.Declaring.{marked}
use Rattle.replay_words.proofs.replaced.mark.Goals as goal

pub returns : goal.returns
returns c =
    marked c.args.map.now c.insert.new.self c.args.event.now c.with_content-next.result c.kept_of.result
    (search) c.kept_of.ensures c.in_ok-insert.ensures.updates c.with_content-next.ensures
