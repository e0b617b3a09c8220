use Rattle.std.proofs.Common.{◌≡◌, ◌≤◌, Option, Some, None, refl, arith}
use Rattle.frame_flow.specs.declared.result.PortFlow.{PortFlow}
use Rattle.frame_flow.specs.Copies.{flow_at}
use Rattle.scenario_frames.specs.PlanFrames.{plan_frames}
use Rattle.delay_report.specs.Seen.{longest_of, taken_at}
use Rattle.delay_report.proofs.SeenLemmas.{longest_upto}
use Rattle.delay_report.proofs.laws.what_was_seen_is_within.Goals as goal

pub returns : goal.returns
returns c plan changes facts class ports flows p x fed bounded flow port found = by (flow_at flows p) refl
  where
    by : (o : Option PortFlow) → flow_at flows p ≡ o → longest_of (taken_at x.id (plan_frames plan) o) ≤ fed.spent
    by None is = omega arith
    by (Some at) is =
        longest_upto x.id (plan_frames plan) at.input.rate fed.spent at.fates
        (λ number start end f there known route.
        c.a_frame_took_no_longer.ensures plan changes facts class ports flows p x fed at number start end f bounded flow port found is there known route)
