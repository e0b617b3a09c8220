use Rattle.std.proofs.Common.{rules, ◌≡◌, ◌<◌, ◌^◌, [], ◌∷◌, List, sym, subst}
use Rattle.atomic_table.specs.Table.{opening}
use Rattle.turn_lock.specs.{Kept, IsInTurn, first_view}
use Rattle.turn_lock.proofs.DealLemmas.{opens}
use Rattle.turn_lock.proofs.begin.lay.Goals as goal

pub new-requires : goal.new-requires
new-requires g c =
    let terms = c.args.terms.now in
    let kept : Kept g.row.S.Denot g.row.S-Ask.Denot g.row.S-Answer.Denot = record { state = c.args.state; history = c.new-history.result } in
    let items : c.push_reserved.new.self.items ≡ kept ∷ [] = search rules in
    let few : terms.passes < 2 ^ 32 = search rules in
    let some_passes : 0 < terms.passes = search rules in
    let state : c.args.state ≡ terms.start.value = search rules in
    let empty : c.new-history.result.items ≡ [] = search rules in
    subst (λ (xs : List (Kept g.row.S.Denot g.row.S-Ask.Denot g.row.S-Answer.Denot)). IsInTurn g.S.Sequential.does terms.start.value terms.passes
    (opening (0 ∷ 0 ∷ []) xs (first_view terms.start.value terms.passes))) (sym items)
    (opens g.S.Sequential.does terms.start.value terms.passes kept state empty some_passes few)
