-- What is in force at a port in a tick: the streams that are booked there, their slopes (IEEE Std
-- 802.1Q-2018, 34.3) and the VIDs that are registered there (11.2).
use Rattle.std.specs.Prelude.{ℕ, Bool, false, not, ◌==◌, ◌&&◌, nat_le, nat_lt, List, [], ◌∷◌, filter, Option, Some, None, if◌then◌else◌}
use Rattle.std.specs.List.{list_any}
use Rattle.srp_base.specs.declared.{numbers.EgressPort.EgressPort, numbers.StreamId.StreamId, bandwidth.Rate.Rate, ports.PortChange.PortChange}
use Rattle.credit_shaper.specs.declared.port.SlopeChange.{SlopeChange}
use Rattle.frame_flow.specs.Moments.{bits_of_ticks}

-- whether two ports are one
abbrev pub is_port : EgressPort → EgressPort → Bool
is_port p q = (p.node.0 == q.node.0) && (p.port.0 == q.port.0)

-- the changes at a port
abbrev pub changes_at : List PortChange → EgressPort → List PortChange
changes_at changes p = filter (λ c. is_port c.at p) changes

-- the last change up to a tick, or else this one
abbrev pub last_upto : ℕ → Option PortChange → List PortChange → Option PortChange
last_upto tick newest [] = newest
last_upto tick newest (c ∷ cs) = last_upto tick (if nat_le c.tick tick then Some c else newest) cs

-- what is in force in a tick by a port's changes; nothing before the first of them
abbrev pub in_force : ℕ → List PortChange → Option PortChange
in_force tick changes = last_upto tick None changes

-- whether a stream is booked by what is in force
abbrev pub has_booked : StreamId → Option PortChange → Bool
has_booked stream None = false
has_booked stream (Some c) = list_any (λ s. s.0 == stream.0) c.booked

-- whether a VID is registered by what is in force
abbrev pub has_vid : ℕ → Option PortChange → Bool
has_vid vid None = false
has_vid vid (Some c) = list_any (λ v. v == vid) c.vids

-- the slopes of a change, from the first bit time of its tick on
abbrev pub slopes_of_change : Rate → PortChange → SlopeChange
slopes_of_change rate c =
    record { bit = bits_of_ticks rate c.tick; slope_a = c.slope_a; slope_b = c.slope_b }

-- the slopes in force in tick 0
abbrev pub first_slopes : Option PortChange → SlopeChange
first_slopes None = record { bit = 0; slope_a = 0; slope_b = 0 }
first_slopes (Some c) = record { bit = 0; slope_a = c.slope_a; slope_b = c.slope_b }

-- whether a change comes after tick 0 and before the run's end, with other slopes than these
abbrev pub does_change : ℕ → SlopeChange → PortChange → Bool
does_change ticks last c =
    (nat_lt 0 c.tick && nat_lt c.tick ticks)
    && not ((c.slope_a == last.slope_a) && (c.slope_b == last.slope_b))

-- an entry for each of a port's changes in which a slope changes
abbrev pub later_slopes : Rate → ℕ → SlopeChange → List PortChange → List SlopeChange
later_slopes rate ticks last [] = []
later_slopes rate ticks last (c ∷ cs) =
    if does_change ticks last c
    then slopes_of_change rate c ∷ later_slopes rate ticks (slopes_of_change rate c) cs
    else later_slopes rate ticks last cs

-- the slopes of a run by a port's changes: those of tick 0 from bit time 0 on, and then an entry
-- where a slope changes
abbrev pub slopes_over : Rate → ℕ → List PortChange → List SlopeChange
slopes_over rate ticks changes =
    let first = first_slopes (in_force 0 changes) in first ∷ later_slopes rate ticks first changes
