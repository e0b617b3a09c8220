use Rattle.std.proofs.Common.{◌≡◌, ℕ, ◌∙◌, [], ◌++◌, length, arith}
use Rattle.rule_words.specs.{labels_of}
use Rattle.rule_words.proofs.JoinedLemmas.{own-labels, same-label}
use Rattle.rule_words.proofs.joined.are_joined_from.Goals as goal

pub returns : goal.returns
returns c =
    let n : ℕ = length c.args.labels.now in
    let behind : c.join_all.new.labels ≡ labels_of n (c.args.back.now ++ []) = c.join_all.ensures n [] (c.requires.own ∙ own-labels n) in
    let all : c.join_all-2.new.labels ≡ labels_of n (c.args.front.now ++ (c.args.back.now ++ [])) = c.join_all-2.ensures n (c.args.back.now ++ []) behind in
    same-label n c.args.front.now c.args.back.now c.join_all-2.new.labels c.args.ends.a c.args.ends.b 0 all
    (omega (arith, c.join_all.auto.labels, c.join_all-2.auto.labels, c.requires.ends.0)) (omega (arith, c.join_all.auto.labels, c.join_all-2.auto.labels, c.requires.ends.1))
