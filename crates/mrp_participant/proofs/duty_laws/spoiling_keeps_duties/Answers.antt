use Rattle.std.proofs.Common.{refl, false}
use Rattle.mrp_participant.proofs.Duties.{unsound-met, far-kept}
use Rattle.mrp_participant.proofs.duty_laws.spoiling_keeps_duties.Goals as goal

pub returns-clause-own : goal.returns-clause-own
returns-clause-own g c = λ near far sent coming off. unsound-met g.A.Key.Ord.cmp near far sent coming off

pub returns-clause-far : goal.returns-clause-far
returns-clause-far g c = λ near far sent coming met. far-kept g.A.Key.Ord.cmp near (record near { sound = false }) far sent coming (λ k. refl) met
