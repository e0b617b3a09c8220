use Rattle.std.proofs.Common.{◌-◌, length, drop, arith}
use Rattle.std.proofs.lemmas.List.{length-drop, take_all}
use Rattle.srpnet.proofs.audit.differ.behind.Goals as goal

pub returns : goal.returns
returns c =
    let text = c.args.text.now in
    let size = length-drop c.args.at text in
    take_all (length text - c.args.at) (drop c.args.at text) (omega (arith, size))
