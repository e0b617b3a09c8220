use Rattle.std.proofs.Common.{refl}
use Rattle.mrp_participant.proofs.MarkedLinks.{turned-marked, unclear}
use Rattle.mrp_participant.proofs.marked_link_laws.a_new_marked_link_meets_both_duties.Goals as goal

pub returns-clause-new : goal.returns-clause-new
returns-clause-new g c = λ near far.
    record {
      duties = record {
        near_rows = (tt, tt);
        far_rows = (tt, tt);
        near_duty = record { of_key = λ sound k. refl };
        far_duty = record { of_key = λ sound k. refl };
      };
      near_clear = unclear g.A.Key.Ord.cmp _ _ _ refl;
      far_clear = unclear g.A.Key.Ord.cmp _ _ _ refl;
    }

pub returns-clause-turned : goal.returns-clause-turned
returns-clause-turned g c = λ l met. turned-marked g.A.Key.Ord.cmp l met
