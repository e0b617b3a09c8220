use Rattle.class_b_bound.proofs.WaitLemmas.{ends_with_start}
use Rattle.class_b_bound.proofs.laws.a_wait_ends_with_a_start.Goals as goal

pub returns : goal.returns
returns c = ends_with_start c.bit_laws.ensures c.what_waits_goes_on_waiting.ensures
