use Rattle.mrp_participant.proofs.MarkedLinks.{fewer-marked}
use Rattle.mrp_participant.proofs.marked_link_laws.fewer_marks_keep_marked_duties.Goals as goal

pub returns : goal.returns
returns g c = λ l near far nears fars met. fewer-marked g.A.Key.Ord.cmp l near far nears fars met
