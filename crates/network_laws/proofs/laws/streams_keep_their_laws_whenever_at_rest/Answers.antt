use Rattle.network_laws.proofs.Refusals.{talked-once}
use Rattle.network_laws.proofs.laws.streams_keep_their_laws_whenever_at_rest.Goals as goal

pub returns : goal.returns
returns c plan ticks end w stream rules legal moment rest =
    c.streams_keep_their_laws.ensures.law w stream (c.every_moment_keeps_it.ensures plan ticks end w rules legal moment) rest
    (talked-once w stream (c.every_moment_talks_by_the_plan.ensures.one plan ticks end w rules legal moment))
