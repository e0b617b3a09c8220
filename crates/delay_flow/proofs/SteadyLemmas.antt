-- From the last tick in which something changes on all stays as at the end.
use Rattle.std.proofs.Common.{◌≡◌, ℕ, zero, suc, ◌+◌, ◌-◌, ◌*◌, ◌<◌, ◌≤◌, true, refl, sym, ◌∙◌, subst, arith}
use Rattle.std.specs.Prelude.{All}
use Rattle.srp_base.specs.declared.{numbers.EgressPort.EgressPort}
use Rattle.credit_shaper.specs.declared.shaper.Traffic.{Traffic}
use Rattle.tree_topology.specs.Topology.{HasPort}
use Rattle.frame_flow.specs.{Force.changes_at, Force.in_force, Flow.Setting}
use Rattle.delay_flow.specs.{is_in_class, last_force, IsAsIn, ChangesNothing, IsSteady}

-- so many ticks before the last
same-back : (s : Setting) (p : EgressPort) (tick : ℕ) → ((t : ℕ) → tick < t → t < s.ticks → ChangesNothing s p t) → (k t : ℕ) → t + k ≡ s.ticks - 1 → tick ≤ t → t < s.ticks
    → IsAsIn (last_force s p) (in_force t (changes_at s.changes p))
same-back s p tick still zero t at from upto =
    let same : t ≡ s.ticks - 1 = omega (arith, at) in
    subst (λ (u : ℕ). IsAsIn (last_force s p) (in_force u (changes_at s.changes p))) (sym same) (record { booked = λ stream. refl; slope_a = refl; slope_b = refl })
same-back s p tick still (suc k) t at from upto =
    let next = same-back s p tick still k (suc t) (omega (arith, at)) (omega (arith, from)) (omega (arith, at, upto)) in
    let before : suc t - 1 ≡ t = omega arith in
    let one : IsAsIn (in_force t (changes_at s.changes p)) (in_force (suc t) (changes_at s.changes p)) =
    subst (λ (u : ℕ). IsAsIn (in_force u (changes_at s.changes p)) (in_force (suc t) (changes_at s.changes p))) before (still (suc t) (omega (arith, from)) (omega (arith, at, upto))) in
    record {
      booked = λ stream. sym (one.booked stream) ∙ next.booked stream;
      slope_a = sym one.slope_a ∙ next.slope_a;
      slope_b = sym one.slope_b ∙ next.slope_b;
    }

pub steady-from : (s : Setting) (traffic : Traffic) (tick : ℕ) → tick < s.ticks → ((p : EgressPort) (t : ℕ) → HasPort s.tree p → tick < t → t < s.ticks → ChangesNothing s p t)
    → All (λ f. is_in_class traffic f ≡ true → tick * 10000000000 ≤ f.at.0) s.frames → IsSteady s traffic tick
steady-from s traffic tick few still frames = record {
  before = few;
  same = λ p t port from upto. same-back s p tick (λ u after below. still p u port after below) (s.ticks - 1 - t) t (omega (arith, upto)) from upto;
  frames = frames;
}
