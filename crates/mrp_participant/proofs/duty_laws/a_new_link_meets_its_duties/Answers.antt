use Rattle.std.proofs.Common.{refl}
use Rattle.mrp_participant.proofs.duty_laws.a_new_link_meets_its_duties.Goals as goal

pub returns : goal.returns
returns g c = λ period leave_time periodic period' leave_time' periodic'. record { of_key = λ sound k. refl }
