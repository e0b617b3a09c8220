use Rattle.frame_flow.proofs.OnceLemmas.{side-copies}
use Rattle.frame_flow.proofs.laws.no_copy_goes_back.Goals as goal

pub returns : goal.returns
returns c s flows place given sound is port = side-copies s given (c.ports.ensures s.tree sound) flows is place port
