use Rattle.std.proofs.Common.{refl}
use Rattle.mrp_participant.proofs.Links.{turned-met}
use Rattle.mrp_participant.proofs.link_laws.a_new_link_meets_both_duties.Goals as goal

pub returns-clause-new : goal.returns-clause-new
returns-clause-new g c = λ near far.
    record {
      near_rows = (tt, tt);
      far_rows = (tt, tt);
      near_duty = record { of_key = λ sound k. refl };
      far_duty = record { of_key = λ sound k. refl };
    }

pub returns-clause-turned : goal.returns-clause-turned
returns-clause-turned g c = λ l met. turned-met g.A.Key.Ord.cmp l met
