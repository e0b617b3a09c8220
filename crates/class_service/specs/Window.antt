-- What a class has of a window, and how it is summed up from piece to piece.
use Rattle.std.specs.Prelude.{ℕ, ◌+◌, ◌*◌, Bool, false, ◌||◌, ◌&&◌, ◌==◌, if◌then◌else◌}
use Rattle.std.specs.List.{list_all}
use Rattle.credit_shaper.specs.declared.{shaper.Traffic.Traffic, port.PortInput.PortInput, piece.Piece.Piece}
use Rattle.credit_shaper.specs.declared.shaper.Traffic.TheVariants.{A, B, Other}
use Rattle.credit_shaper.specs.{Credit.does_send, Bounds.bit_times}
use Rattle.class_service.specs.declared.service.Service.{Service}
use Rattle.class_service.specs.Class.{is_busy, bits_in, area_in}

-- the bits that it has of the line, the area of its idleSlope, and whether it is busy all along
abbrev pub service_of : PortInput → Traffic → ℕ → ℕ → Service
service_of input traffic from to =
    record {
      bits = bits_in input traffic from to;
      area = area_in input traffic from to;
      is_busy = list_all (is_busy input traffic) (bit_times from to);
    }

-- a class's idleSlope in a piece
abbrev pub slope_in : Piece → Traffic → ℕ
slope_in p A = p.shaper.slope_a
slope_in p B = p.shaper.slope_b
slope_in p Other = 0

-- whether a frame of a class waits in a piece
abbrev pub waits_in : Piece → Traffic → Bool
waits_in p A = p.waits_a
waits_in p B = p.waits_b
waits_in p Other = false

-- what it has with so many bit times of a piece more
abbrev pub service_with : Piece → Traffic → ℕ → Service → Service
service_with p traffic n s =
    record {
      bits = s.bits + (if does_send traffic p.line then n else 0);
      area = s.area + n * slope_in p traffic;
      is_busy = s.is_busy && ((n == 0) || (does_send traffic p.line || waits_in p traffic));
    }
