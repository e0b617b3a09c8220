use Rattle.scenario_frames.proofs.FrameLemmas.{numbers-of-plan}
use Rattle.scenario_frames.proofs.laws.frames_are_numbered_from_one.Goals as goal

pub returns : goal.returns
returns c plan kept = numbers-of-plan plan kept
