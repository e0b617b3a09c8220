-- How many PDUs of an application a list has, and what they say.
use Rattle.std.proofs.Common.{◌≡◌, ℕ, zero, suc, ◌+◌, Bool, true, false, if◌then◌else◌, List, [], ◌∷◌, ◌++◌, refl, sym, ap, ◌∙◌, arith}
use Rattle.std.specs.Prelude.{Option, Some, None, slice_get, filter_map}
use Rattle.std.specs.List.{cons_option}
use Rattle.srp_base.specs.declared.{mrp.App.App, mrp.App.TheVariants.Mvrp, mrp.App.TheVariants.Msrp}
use Rattle.mrp_participant.specs.Link.{with_repeat as twice_in}
use Rattle.node_core.specs.declared.types.Wire.{Wire}
use Rattle.node_core.specs.Wires.{without, with_wire}
use Rattle.world_core.specs.{is_same_app, count_of}

-- one PDU counts, or not
abbrev pub one_of : Bool → ℕ
one_of b = if b then 1 else 0

pub app_is : (a b : App) → is_same_app a b ≡ true → a ≡ b
app_is Mvrp Mvrp h = refl
app_is Mvrp Msrp h = cc
app_is Msrp Mvrp h = cc
app_is Msrp Msrp h = refl

pub app_same : (a : App) → is_same_app a a ≡ true
app_same Mvrp = refl
app_same Msrp = refl

-- sums, on plain variables
sum_more : (a b c d : ℕ) → b ≡ c + d → a + b ≡ (a + c) + d
sum_more a b c d e = omega (arith, e)

sum_less : (a b c d : ℕ) → b + c ≡ d → (a + b) + c ≡ a + d
sum_less a b c d e = omega (arith, e)

none_more : (a : ℕ) → a ≡ 0 + a
none_more a = omega arith

pub none_fewer : (a : ℕ) → 0 + a ≡ 0 → a ≡ 0
none_fewer a e = omega (arith, e)

sum_turned : (a b : ℕ) → a + b ≡ b + a
sum_turned a b = omega arith

never_none : (a b : ℕ) → a + 1 ≡ b → b ≡ 0 → zero ≡ suc zero
never_none a b e f = omega (arith, e, f)

module _ (app : App) where
  pub count_append : (xs ys : List Wire) → count_of app (xs ++ ys) ≡ count_of app xs + count_of app ys
  count_append [] ys = none_more (count_of app ys)
  count_append (x ∷ xs) ys =
      sum_more (one_of (is_same_app app x.app)) (count_of app (xs ++ ys)) (count_of app xs) (count_of app ys) (count_append xs ys)

  pub count_without : (i : ℕ) (ws : List Wire) (wire : Wire) → slice_get ws i ≡ Some wire
      → count_of app (without i ws) + one_of (is_same_app app wire.app) ≡ count_of app ws
  count_without i [] wire get = cc
  count_without zero (w ∷ ws) wire get =
      let is : wire ≡ w = cc in
      ap (λ (x : Wire). count_of app ws + one_of (is_same_app app x.app)) is
      ∙ sum_turned (count_of app ws) (one_of (is_same_app app w.app))
  count_without (suc i) (w ∷ ws) wire get =
      sum_less (one_of (is_same_app app w.app)) (count_of app (without i ws)) (one_of (is_same_app app wire.app)) (count_of app ws)
      (count_without i ws wire get)

  pub count_twice : (i : ℕ) (ws : List Wire) (wire : Wire) → slice_get ws i ≡ Some wire
      → count_of app (twice_in i ws) ≡ count_of app ws + one_of (is_same_app app wire.app)
  count_twice i [] wire get = cc
  count_twice zero (w ∷ ws) wire get =
      let is : w ≡ wire = cc in
      sum_turned (one_of (is_same_app app w.app)) (one_of (is_same_app app w.app) + count_of app ws)
      ∙ ap (λ (x : Wire). (one_of (is_same_app app w.app) + count_of app ws) + one_of (is_same_app app x.app)) is
  count_twice (suc i) (w ∷ ws) wire get =
      sum_more (one_of (is_same_app app w.app)) (count_of app (twice_in i ws)) (count_of app ws) (one_of (is_same_app app wire.app))
      (count_twice i ws wire get)

  pub count_with : (i : ℕ) (wire : Wire) (ws : List Wire) → count_of app (with_wire i wire ws) ≡ count_of app ws + one_of (is_same_app app wire.app)
  count_with zero wire ws = sum_turned (one_of (is_same_app app wire.app)) (count_of app ws)
  count_with (suc i) wire [] = sum_turned (one_of (is_same_app app wire.app)) 0
  count_with (suc i) wire (w ∷ ws) =
      sum_more (one_of (is_same_app app w.app)) (count_of app (with_wire i wire ws)) (count_of app ws) (one_of (is_same_app app wire.app))
      (count_with i wire ws)

  -- a list that has a PDU of the application doesn't count none
  pub count_some : (i : ℕ) (ws : List Wire) (wire : Wire) → slice_get ws i ≡ Some wire → is_same_app app wire.app ≡ true → count_of app ws ≡ 0
      → zero ≡ suc zero
  count_some i ws wire get own none =
      never_none (count_of app (without i ws)) (count_of app ws)
      (ap (λ (b : Bool). count_of app (without i ws) + one_of b) (sym own) ∙ count_without i ws wire get) none

  -- PDUs of other applications alone say nothing
  pub none_said : {M : Type 0} (said : Wire → Option M) → ((wire : Wire) → is_same_app app wire.app ≡ false → said wire ≡ None)
      → (ws : List Wire) → count_of app ws ≡ 0 → filter_map said ws ≡ []
  none_said said others [] none = refl
  none_said {M = M} said others (w ∷ ws) none = by (is_same_app app w.app) refl none (λ h. none_said said others ws h)
    where
      by : (b : Bool) → is_same_app app w.app ≡ b → one_of b + count_of app ws ≡ 0 → (count_of app ws ≡ 0 → filter_map said ws ≡ []) → filter_map said (w ∷ ws) ≡ []
      by true e h rest = absurd (let never : zero ≡ suc zero = never_none (count_of app ws) (1 + count_of app ws) (sum_turned (count_of app ws) 1) h in cc)
      by false e h rest = ap (λ (o : Option M). cons_option o (filter_map said ws)) (others w e) ∙ rest (none_fewer (count_of app ws) h)
