use Rattle.world_core.proofs.{Changes.within_caps_a, Changes.within_caps, Places.below_rates}
use Rattle.world_core.proofs.timeline_laws.slopes_stay_within_limits.Goals as goal

pub returns-clause-class_a : goal.returns-clause-class_a
returns-clause-class_a c =
    λ plan ticks end changes rules legal timeline. within_caps_a plan ticks changes timeline (λ w moment. c.every_moment_is_within_limits.ensures plan ticks end w rules legal moment)

pub returns-clause-both : goal.returns-clause-both
returns-clause-both c =
    λ plan ticks end changes rules legal timeline. within_caps plan ticks changes timeline (λ w moment. c.every_moment_is_within_limits.ensures plan ticks end w rules legal moment)

pub returns-clause-rates : goal.returns-clause-rates
returns-clause-rates c =
    λ plan ticks end changes rules legal timeline. below_rates plan rules changes
    (within_caps plan ticks changes timeline (λ w moment. c.every_moment_is_within_limits.ensures plan ticks end w rules legal moment))
