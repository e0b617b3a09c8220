use Rattle.std.proofs.Common.{◌≡◌, length, sym, ap, ◌∙◌, arith}
use Rattle.mrpdu_codec.specs.{behind_body}
use Rattle.mrpdu_codec.proofs.PlacesLemmas.{message_here, message_later, message_none, kind_falls, behind_body_falls}
use Rattle.mrpdu_codec.proofs.places.place_from.Goals as goal

pub returns-in-None-clause-place : goal.returns-in-None-clause-place
returns-in-None-clause-place c =
    sym (message_none c.args.form c.args.end c.more.rest.now c.more.before c.args.vector (sym c.in-None.ensures)) ∙ c.more.invariant.0

pub returns-then-is_here-clause-place : goal.returns-then-is_here-clause-place
returns-then-is_here-clause-place c =
    rw (c.body_place.ensures.place, c.known-row.ensures) (
    sym (message_here c.args.form c.args.end c.in-Some.kind c.more.rest.now c.in-Some.after.now (sym c.in-Some.ensures) c.more.before c.args.vector
    (rw c.known-row.ensures at (sym c.is_here.ensures ∙ c.if-is_here.true)))
    ∙ c.more.invariant.0)

pub more-smaller : goal.more-smaller
more-smaller c =
    let falls = behind_body_falls c.args.form c.known-row.result c.in-Some.after.now in
    let rest : length c.behind_body-rest.result.now ≡ length (behind_body c.args.form c.known-row.result c.in-Some.after.now) = ap length c.behind_body-rest.ensures in
    omega (arith, rest, falls, kind_falls c.in-Some.kind c.more.rest.now c.in-Some.after.now (sym c.in-Some.ensures))

pub more-preserved : goal.more-preserved
more-preserved c =
    let falls = behind_body_falls c.args.form c.known-row.result c.in-Some.after.now in
    let rest : length c.behind_body-rest.result.now ≡ length (behind_body c.args.form c.known-row.result c.in-Some.after.now) = ap length c.behind_body-rest.ensures in (
      message_later c.args.form c.args.end c.in-Some.kind c.more.rest.now c.in-Some.after.now (sym c.in-Some.ensures) c.more.before c.args.vector
          c.behind_body-rest.result.now c.still_before-before.result
          (rw c.known-row.ensures at (sym c.is_here.ensures ∙ c.if-is_here.false))
          (rw c.known-row.ensures at c.behind_body-rest.ensures)
          (rw c.known-row.ensures at c.still_before-before.ensures)
          ∙ c.more.invariant.0,
      omega (arith, rest, falls, kind_falls c.in-Some.kind c.more.rest.now c.in-Some.after.now (sym c.in-Some.ensures), c.more.invariant.1),
    )
