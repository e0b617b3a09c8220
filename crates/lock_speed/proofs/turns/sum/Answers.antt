use Rattle.lock_speed.proofs.PassLemmas.{are_of_lock}
use Rattle.lock_speed.proofs.turns.sum.Goals as goal

pub in_threads-requires-after_bounds : goal.in_threads-requires-after_bounds
in_threads-requires-after_bounds g c κs within =
    are_of_lock c.in_ok-lock.lock c.args.threads c.in_ok-lock.passes.items c.in_ok-lock.ensures
