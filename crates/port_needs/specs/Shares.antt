-- What suffices for what is wished at a port (IEEE Std 802.1Q-2018, 34.3).
use Rattle.std.specs.Prelude.{ℕ, ◌-◌, ◌/◌, ◌==◌, Bool, ◌&&◌, nat_le, if◌then◌else◌, List, [], ◌∷◌, filter, find, sum_by, Option, Some, None}
use Rattle.std.specs.Int.{div_ceil}
use Rattle.srp_base.specs.declared.bandwidth.Rate.{Rate}
use Rattle.srp_base.specs.declared.bandwidth.Rate.TheVariants.{M100, G1, G10}
use Rattle.srp_base.specs.Bandwidth.{bits_of}
use Rattle.stream_importance.specs.declared.{entry.Want.Want, slope.Caps.Caps}
use Rattle.stream_importance.specs.{Bandwidth.caps_of, Importance.class_number}
use Rattle.port_needs.specs.declared.shares.Shares.{Shares}

-- a want of class A
abbrev pub is_of_class_a : Want → Bool
is_of_class_a want = class_number want.class == 0

-- the slopes of wants together, in bit/s
abbrev pub slope_of_all : List Want → ℕ
slope_of_all wants = sum_by (λ want. want.slope) wants

-- those of class A
abbrev pub slope_of_a : List Want → ℕ
slope_of_a wants = slope_of_all (filter is_of_class_a wants)

-- the slope of a want of class A, and 0 for another
abbrev pub slope_in_a : Want → ℕ
slope_in_a want = if is_of_class_a want then want.slope else 0

-- caps are large enough for class A with these slopes, and both classes with those. Where no stream
-- of class B is wished the second follows from the first
abbrev pub is_enough : Caps → ℕ → ℕ → Bool
is_enough caps class_a both = nat_le class_a caps.class_a && nat_le both caps.both

-- the least share of a rate, in percent, that comes to so many bit/s
abbrev pub share_for : Rate → ℕ → ℕ
share_for rate slope = div_ceil slope (bits_of rate / 100)

-- the least shares of both classes that suffice at a rate; none where they pass the 90 percent that
-- a file may give away
abbrev pub shares_for : Rate → ℕ → ℕ → Option Shares
shares_for rate class_a both =
    if nat_le (share_for rate both) 90
    then Some (record { delta_a = share_for rate class_a; delta_b = share_for rate both - share_for rate class_a })
    else None

-- the rates that a link may have, ascending
abbrev pub all_rates : List Rate
all_rates = M100 ∷ G1 ∷ G10 ∷ []

-- the least rate of which these shares suffice
abbrev pub least_rate : ℕ → ℕ → ℕ → ℕ → Option Rate
least_rate delta_a delta_b class_a both =
    find (λ rate. is_enough (caps_of rate delta_a delta_b) class_a both) all_rates
