use Rattle.wishes.proofs.CopyLemmas.{vid_of_frame}
use Rattle.wishes.proofs.copy_laws.the_frames_of_a_stream_have_its_vid.Goals as goal

pub returns : goal.returns
returns c = vid_of_frame
