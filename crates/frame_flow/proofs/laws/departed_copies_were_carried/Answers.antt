use Rattle.frame_flow.proofs.OriginLemmas.{departed}
use Rattle.frame_flow.proofs.laws.departed_copies_were_carried.Goals as goal

pub returns : goal.returns
returns c s flows place number start end given there fate = departed s given c.frames_depart_in_order.ensures flows place there number start end fate
