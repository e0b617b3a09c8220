use Rattle.mrp_frames.proofs.Framed.{frame_holds, frame_is_read}
use Rattle.mrp_frames.proofs.laws.frames_are_the_grammar.Goals as goal

pub returns : goal.returns
returns c = λ packet seen. (frame_holds packet seen, frame_is_read packet seen)
