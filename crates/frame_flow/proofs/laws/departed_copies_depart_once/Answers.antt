use Rattle.frame_flow.proofs.LawLemmas.{outcomes}
use Rattle.frame_flow.proofs.laws.departed_copies_depart_once.Goals as goal

pub returns : goal.returns
returns c s flows given sound is = outcomes s given (c.ports.ensures s.tree sound) c.frames_depart_in_order.ensures flows is
