use Rattle.srp_base.proofs.Lists.{three_pieces}
use Rattle.rule_words.specs.{walk_words}
use Rattle.rule_words.proofs.joined.put_walk.Goals as goal

pub returns : goal.returns
returns c =
    let words = walk_words c.args.links.now c.args.ends.a c.args.ends.b in
    three_pieces c.args.out.now.items _ _ _ _ words _ c.in_ok-put.ensures c.in_ok-put_walk_numbers.ensures c.in_ok-put-2.ensures
