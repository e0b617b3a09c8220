use Rattle.std.proofs.Common.{sym, ap, ◌∙◌, arith}
use Rattle.std.specs.Prelude.{ℕ, slice_get}
use Rattle.mrpdu_codec.specs.{places_in}
use Rattle.mrpdu_codec.proofs.PlacesLemmas.{place_here, place_later, place_none, header_falls, drop_falls}
use Rattle.mrpdu_codec.proofs.places.place_in.Goals as goal

pub returns-in-None-clause-place : goal.returns-in-None-clause-place
returns-in-None-clause-place c =
    sym (place_none c.args.row c.args.len c.args.end c.more.before c.more.rest.now (sym c.in-None.ensures)) ∙ c.more.invariant.0

pub returns-then-before-eq0-clause-place : goal.returns-then-before-eq0-clause-place
returns-then-before-eq0-clause-place c =
    sym (place_here c.args.row c.args.len c.args.end c.in-Some.header c.more.rest.now c.in-Some.after.now (sym c.in-Some.ensures))
    ∙ ap (λ (n : ℕ). slice_get (places_in c.args.row c.args.len c.args.end 0 c.more.rest.now) n) (sym c.if-before-eq0.true)
    ∙ c.more.invariant.0

pub more-preserved : goal.more-preserved
more-preserved c =
    let h = sym c.in-Some.ensures in
    rw c.behind-rest.ensures (
      rw c.span_of.ensures (place_later c.args.row c.args.len c.args.end c.in-Some.header c.more.rest.now c.in-Some.after.now c.more.before h (omega arith) ∙ c.more.invariant.0),
      omega (arith, header_falls c.in-Some.header c.more.rest.now c.in-Some.after.now h, drop_falls c.span_of.result c.in-Some.after.now, c.more.invariant.1),
    )
