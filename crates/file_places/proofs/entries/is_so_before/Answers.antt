use Rattle.std.proofs.Common.{◌≡◌, ℕ, ◌-◌, List, IfOk, subst, arith}
use Rattle.file_places.specs.{is_so_far}
use Rattle.file_places.proofs.LineLemmas.{end_front, lines_within}
use Rattle.file_places.proofs.entries.is_so_before.Goals as goal

pub is_so_until-requires : goal.is_so_until-requires
is_so_until-requires c = omega (arith, c.requires, lines_within (c.args.line.number - 1) c.args.octets.now)

pub returns : goal.returns
returns c =
    subst (λ (t : List ℕ). IfOk c.is_so_until.result (λ is. is ≡ is_so_far c.args.sought c.args.word.now t))
    (end_front (c.args.line.number - 1) c.args.line.start c.args.octets.now c.requires) c.is_so_until.ensures
