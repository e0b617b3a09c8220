use Rattle.std.proofs.Common.{◌≡◌, ◌∷◌, List, ℕ, ap, sym, subst, ◌∙◌, get_or}
use Rattle.atomic_table.specs.Table.{rest}
use Rattle.turn_lock.specs.{Kept, Makes}
use Rattle.turn_lock.proofs.turn.make_in_slot.Goals as goal

pub slot_mut-kept-requires : goal.slot_mut-kept-requires
slot_mut-kept-requires g c = let t = c.requires.1 in (c.requires.0, (t.0, t.1 ∙ ap (λ l. (0, t.0) ∷ rest l) (sym t.1)))

pub returns-clause-makes : goal.returns-clause-makes
returns-clause-makes g c = λ kept lends.
    let left = c.make.new.kept in
    let same : c.slot_mut-kept.result.now ≡ kept
    = ap (λ (l : List (ℕ × Kept g.row.S.Denot g.row.S-Ask.Denot g.row.S-Answer.Denot)). (get_or l 0 (0, kept)).1) (sym c.slot_mut-kept.ensures.value ∙ lends) in (
      left,
      ap (λ l. (0, left) ∷ l) (ap rest lends),
      subst
          (λ (k : Kept g.row.S.Denot g.row.S-Ask.Denot g.row.S-Answer.Denot). Makes g.S.Sequential.does c.args.number c.args.ask k c.make.result left) same c.make.ensures,
    )
