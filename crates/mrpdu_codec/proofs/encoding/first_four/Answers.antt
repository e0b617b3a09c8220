use Rattle.std.proofs.Common.{◌≡◌, ◌≤◌, true, nat_le, length, min, sym, ap, subst, arith}
use Rattle.std.proofs.lemmas.List.{length-drop}
use Rattle.std.specs.List.{list_all}
use Rattle.mrpdu_codec.proofs.Packed.{first-params, rest-after, small-at, small-after}
use Rattle.mrpdu_codec.proofs.encoding.first_four.Goals as goal

pub four-octet-requires-clause-first : goal.four-octet-requires-clause-first
four-octet-requires-clause-first c = subst (λ p. p ≤ 3) (sym c.param_at.ensures) (small-at c.args.params.now 0 c.requires.small)

pub four-octet-requires-clause-second : goal.four-octet-requires-clause-second
four-octet-requires-clause-second c = subst (λ p. p ≤ 3) (sym c.param_at-2.ensures) (small-at c.args.params.now 1 c.requires.small)

pub four-octet-requires-clause-third : goal.four-octet-requires-clause-third
four-octet-requires-clause-third c = subst (λ p. p ≤ 3) (sym c.param_at-3.ensures) (small-at c.args.params.now 2 c.requires.small)

pub four-octet-requires-clause-last : goal.four-octet-requires-clause-last
four-octet-requires-clause-last c = subst (λ p. p ≤ 3) (sym c.param_at-4.ensures) (small-at c.args.params.now 3 c.requires.small)

pub returns-clause-packed : goal.returns-clause-packed
returns-clause-packed c =
    first-params c.args.params.now _ _ _ _ _ _ c.requires.some c.param_at.ensures c.param_at-2.ensures c.param_at-3.ensures c.param_at-4.ensures c.four-octet.ensures c.min.ensures

pub returns-clause-fewer : goal.returns-clause-fewer
returns-clause-fewer c =
    let ps = c.args.params.now in
    let some = c.requires.some in
    omega (arith, ap length (rest-after ps 4 _ c.min.ensures), length-drop (min (length ps) 4) ps)

pub returns-clause-small : goal.returns-clause-small
returns-clause-small c =
    let ps = c.args.params.now in
    subst (λ rest. list_all (λ p. nat_le p 3) rest ≡ true) (sym (rest-after ps 4 _ c.min.ensures)) (small-after ps (min (length ps) 4) c.requires.small)
