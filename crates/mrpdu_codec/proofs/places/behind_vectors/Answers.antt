use Rattle.std.proofs.Common.{sym, ◌∙◌}
use Rattle.mrpdu_codec.proofs.PlacesLemmas.{behind_step, behind_end}
use Rattle.mrpdu_codec.proofs.places.behind_vectors.Goals as goal

pub returns-in-None : goal.returns-in-None
returns-in-None c = sym (behind_end c.args.row c.args.len c.more.rest.now (sym c.in-None.ensures)) ∙ c.more.invariant

pub more-preserved : goal.more-preserved
more-preserved c =
    rw (c.behind-rest.ensures, c.span_of.ensures) (sym (behind_step c.args.row c.args.len c.in-Some.header c.more.rest.now c.in-Some.after.now (sym c.in-Some.ensures)) ∙ c.more.invariant)
