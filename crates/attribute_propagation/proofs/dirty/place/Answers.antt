use Rattle.attribute_propagation.proofs.DirtyLemmas.{place_is}
use Rattle.attribute_propagation.proofs.dirty.place.Goals as goal

pub returns : goal.returns
returns g c = place_is g.met.K.Ord.total _ _ _ c.requires c.binary_search.ensures.bound c.binary_search.ensures.position
