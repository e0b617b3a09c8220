use Rattle.frame_flow.specs.{Frame}
use Rattle.frame_flow.proofs.NumberLemmas.{rises}
use Rattle.frame_flow.proofs.copies.frame_of.Goals as goal

pub find_first-requires : goal.find_first-requires
find_first-requires c = rises (λ (f : Frame). f.number) c.args.frames.now c.requires
