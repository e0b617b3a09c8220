use Rattle.std.proofs.lemmas.List.{set_split}
use Rattle.mrp_participant.proofs.lookup.replace_at.Goals as goal

pub returns-in-Some-clause-rows : goal.returns-in-Some-clause-rows
returns-in-Some-clause-rows g c = rw c.in-Some.is (set_split _ _ _ c.requires)
