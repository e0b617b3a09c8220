use Rattle.scenario_delays.proofs.TimeLemmas.{bounds-there, sound-tree}
use Rattle.scenario_delays.proofs.StreamLemmas.{talkers-are}
use Rattle.scenario_delays.specs.Facts.{bounds_of, class_setting}
use Rattle.scenario_delays.proofs.laws.a_class_with_bounds_is_reckoned.Goals as goal

pub returns : goal.returns
returns c plan changes facts class kept are has =
    let a = class_setting plan changes class in
    bounds-there plan changes facts class are (λ e is. c.a_class_with_bounds_has_no_cause.ensures a e (sound-tree plan kept) (talkers-are plan class kept) has is)
