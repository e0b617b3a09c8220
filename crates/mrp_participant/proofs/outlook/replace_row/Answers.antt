use Rattle.std.proofs.Common.{sym, subst}
use Rattle.mrp_participant.specs.{Tells}
use Rattle.mrp_participant.proofs.outlook.replace_row.Goals as goal

pub or_anew-requires : goal.or_anew-requires
or_anew-requires g c = subst (Tells c.exchange_row.new.outlook) (sym c.as_slice.ensures.value) c.exchange_row.ensures.tells
