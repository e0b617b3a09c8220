-- What a stream takes of a port, and what a port may give away.
use Rattle.std.specs.Prelude.{ℕ, ◌+◌, ◌*◌, ◌/◌}
use Rattle.srp_base.specs.declared.{bandwidth.Rate.Rate, bandwidth.Class.Class, bandwidth.Class.TheVariants.A, bandwidth.Class.TheVariants.B}
use Rattle.srp_base.specs.Bandwidth.{bits_of}
use Rattle.stream_importance.specs.declared.slope.Caps.{Caps}

-- the class measurement intervals in a second: 8,000 for class A, 4,000 for class B
-- (IEEE Std 802.1Q-2018, 34.3, 34.4)
abbrev pub intervals_of : Class → ℕ
intervals_of A = 8000
intervals_of B = 4000

-- the slope in bit/s of a stream that sends MaxIntervalFrames frames in each class measurement
-- interval, each of MaxFrameSize octets (35.2.2.8.4), with 42 octets of preamble, header, tag,
-- check sequence and gap (34.4)
abbrev pub slope_of_frames : Class → ℕ → ℕ → ℕ
slope_of_frames class max_frame frames = frames * (max_frame + 42) * 8 * intervals_of class

-- the caps of a port of this rate with these shares in percent, in bit/s: of class A, and of both
-- classes together (34.3)
abbrev pub caps_of : Rate → ℕ → ℕ → Caps
caps_of rate delta_a delta_b =
    record { class_a = delta_a * bits_of rate / 100; both = (delta_a + delta_b) * bits_of rate / 100 }

-- the cap that a stream of this class has to keep: class B may take what class A leaves of the
-- whole
abbrev pub cap_of : Caps → Class → ℕ
cap_of caps A = caps.class_a
cap_of caps B = caps.both
