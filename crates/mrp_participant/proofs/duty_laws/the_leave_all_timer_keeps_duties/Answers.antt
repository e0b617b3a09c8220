use Rattle.std.proofs.Common.{refl}
use Rattle.mrp_participant.specs.{leave_all_state}
use Rattle.mrp_participant.proofs.Duties.{own-same, far-kept}
use Rattle.mrp_participant.proofs.duty_laws.the_leave_all_timer_keeps_duties.Goals as goal

pub returns-clause-own : goal.returns-clause-own
returns-clause-own g c = λ near far sent coming now met. own-same g.A.Key.Ord.cmp near (leave_all_state now near) far sent coming (λ h. h) refl met

pub returns-clause-far : goal.returns-clause-far
returns-clause-far g c = λ near far sent coming now met. far-kept g.A.Key.Ord.cmp near (leave_all_state now near) far sent coming (λ k. refl) met
