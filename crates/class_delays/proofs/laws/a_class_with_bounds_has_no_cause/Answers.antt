use Rattle.class_delays.proofs.Fixed.{no-cause}
use Rattle.class_delays.proofs.laws.a_class_with_bounds_has_no_cause.Goals as goal

pub returns : goal.returns
returns c a e sound nodes bounds is = no-cause a (c.ports.ensures a.setting.tree sound) nodes bounds e is
