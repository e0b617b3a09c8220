use Rattle.wishes.proofs.GrantLemmas.{granted_where_ready}
use Rattle.wishes.proofs.laws.at_rest_a_wish_is_granted_where_ready_is_heard.Goals as goal

pub returns : goal.returns
returns c w e l kept rest once node listens mute =
    granted_where_ready w e l (c.streams_keep_their_laws.ensures.sides w e.id l kept rest once node listens mute)
