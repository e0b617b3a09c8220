-- The shares and the rate that suffice.
use Rattle.std.proofs.Common.{◌≡◌, ℕ, ◌+◌, ◌-◌, ◌*◌, ◌/◌, ◌<◌, ◌≤◌, Bool, true, false, if◌then◌else◌, Option, Some, None, refl, arith}
use Rattle.std.specs.Prelude.{nat_le, find, IfSome, IfNone}
use Rattle.std.proofs.lemmas.Bool.{and_from, and_parts, false_from_ne_true, leb-true, leb-false, le-leb}
use Rattle.srp_base.specs.declared.bandwidth.Rate.{Rate}
use Rattle.srp_base.specs.declared.bandwidth.Rate.TheVariants.{M100, G1, G10}
use Rattle.srp_base.specs.Bandwidth.{bits_of}
use Rattle.stream_importance.specs.declared.slope.Caps.{Caps}
use Rattle.stream_importance.specs.Bandwidth.{caps_of}
use Rattle.port_needs.specs.declared.shares.Shares.{Shares}
use Rattle.port_needs.specs.{all_rates, is_enough, share_for, shares_for, AreLeastShares}

-- a share comes to so many bit/s exactly where it is no less than the least
pub share_up : (r : Rate) (x s : ℕ) → s ≤ x * bits_of r / 100 → share_for r s ≤ x
share_up M100 x s h = omega (arith, h)
share_up G1 x s h = omega (arith, h)
share_up G10 x s h = omega (arith, h)

pub share_down : (r : Rate) (x s : ℕ) → share_for r s ≤ x → s ≤ x * bits_of r / 100
share_down M100 x s h = omega (arith, h)
share_down G1 x s h = omega (arith, h)
share_down G10 x s h = omega (arith, h)

-- more asks no less
pub share_grows : (r : Rate) (s t : ℕ) → s ≤ t → share_for r s ≤ share_for r t
share_grows M100 s t h = omega (arith, h)
share_grows G1 s t h = omega (arith, h)
share_grows G10 s t h = omega (arith, h)

-- what is enough, in numbers
pub enough_parts : (caps : Caps) (a b : ℕ) → is_enough caps a b ≡ true → (a ≤ caps.class_a) × (b ≤ caps.both)
enough_parts caps a b h =
    let p = and_parts (nat_le a caps.class_a) (nat_le b caps.both) h in
    (leb-true a caps.class_a p.0, leb-true b caps.both p.1)

pub enough_from : (caps : Caps) (a b : ℕ) → a ≤ caps.class_a → b ≤ caps.both → is_enough caps a b ≡ true
enough_from caps a b h k = and_from (nat_le a caps.class_a) (nat_le b caps.both) (le-leb a caps.class_a h) (le-leb b caps.both k)

module _ (r : Rate) (a b : ℕ) (order : a ≤ b) where
  abbrev x : ℕ
  x = share_for r a

  abbrev all : ℕ
  all = share_for r b

  abbrev named : Bool → Option Shares
  named t = if t then Some (record { delta_a = x; delta_b = all - x }) else None

  least-all : all ≤ 90 → AreLeastShares r a b (record { delta_a = x; delta_b = all - x })
  least-all few =
      let up : x ≤ all = share_grows r a b order in
      let whole : x + (all - x) ≡ all = omega arith in
      record {
        enough = enough_from (caps_of r x (all - x)) a b (share_down r x a (omega arith)) (share_down r (x + (all - x)) b (omega arith));
        within = omega arith;
        least = λ y z h.
            let p = enough_parts (caps_of r y z) a b h in
            (share_up r y a p.0, (let le : all ≤ y + z = share_up r (y + z) b p.1 in omega arith));
      }

  pub shares_some : IfSome (shares_for r a b) (AreLeastShares r a b)
  shares_some = by (nat_le all 90) refl
    where
      by : (t : Bool) → nat_le all 90 ≡ t → IfSome (named t) (AreLeastShares r a b)
      by true is = least-all (leb-true all 90 is)
      by false is = tt

  pub shares_none : (y z : ℕ) → y + z ≤ 90 → IfNone (shares_for r a b) (is_enough (caps_of r y z) a b ≡ false)
  shares_none y z few = by (nat_le all 90) refl
    where
      by : (t : Bool) → nat_le all 90 ≡ t → IfNone (named t) (is_enough (caps_of r y z) a b ≡ false)
      by true is = tt
      by false is =
          false_from_ne_true (is_enough (caps_of r y z) a b)
          (λ h. let le : all ≤ y + z = share_up r (y + z) b (enough_parts (caps_of r y z) a b h).1 in omega (arith, le, leb-false all 90 is))

-- the first of the rates that passes a test
module _ (test : Rate → Bool) where
  abbrev first : Bool → Bool → Bool → Option Rate
  first p q r = if p then Some M100 else if q then Some G1 else if r then Some G10 else None

  pub rate_passes : IfSome (find test all_rates) (λ r. test r ≡ true)
  rate_passes = by (test M100) (test G1) (test G10) refl refl refl
    where
      by : (p q r : Bool) → test M100 ≡ p → test G1 ≡ q → test G10 ≡ r → IfSome (first p q r) (λ r. test r ≡ true)
      by true q r e f g = e
      by false true r e f g = f
      by false false true e f g = g
      by false false false e f g = tt

  pub rate_least : (other : Rate) → IfSome (find test all_rates) (λ r. bits_of other < bits_of r → test other ≡ false)
  rate_least other = by (test M100) (test G1) (test G10) refl refl refl other
    where
      by : (p q r : Bool) → test M100 ≡ p → test G1 ≡ q → test G10 ≡ r → (other : Rate)
          → IfSome (first p q r) (λ r. bits_of other < bits_of r → test other ≡ false)
      by true q r e f g M100 = λ h. absurd (omega (arith, h))
      by true q r e f g G1 = λ h. absurd (omega (arith, h))
      by true q r e f g G10 = λ h. absurd (omega (arith, h))
      by false true r e f g M100 = λ h. e
      by false true r e f g G1 = λ h. absurd (omega (arith, h))
      by false true r e f g G10 = λ h. absurd (omega (arith, h))
      by false false true e f g M100 = λ h. e
      by false false true e f g G1 = λ h. f
      by false false true e f g G10 = λ h. absurd (omega (arith, h))
      by false false false e f g other = tt

  pub rate_none : (other : Rate) → IfNone (find test all_rates) (test other ≡ false)
  rate_none other = by (test M100) (test G1) (test G10) refl refl refl other
    where
      by : (p q r : Bool) → test M100 ≡ p → test G1 ≡ q → test G10 ≡ r → (other : Rate) → IfNone (first p q r) (test other ≡ false)
      by true q r e f g other = tt
      by false true r e f g other = tt
      by false false true e f g other = tt
      by false false false e f g M100 = e
      by false false false e f g G1 = f
      by false false false e f g G10 = g
