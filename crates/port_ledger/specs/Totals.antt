-- What a walk over the entries of a ledger finds, which the ledger keeps. No public contract names
-- it.
use Rattle.std.specs.Prelude.{ℕ, ◌+◌, Bool, ◌&&◌, ◌==◌, List, sum_by, if◌then◌else◌}
use Rattle.srp_base.specs.declared.{bandwidth.Class.Class, bandwidth.Class.TheVariants.A, bandwidth.Class.TheVariants.B}
use Rattle.stream_importance.specs.declared.entry.Entry.{Entry}
use Rattle.stream_importance.specs.Importance.{class_number}
use Rattle.port_ledger.specs.declared.totals.Totals.{Totals}
use Rattle.port_ledger.specs.{Decision.is_booked, Book.booked_slope, Book.is_since}

-- the slope of an entry that is booked in a class, else 0
abbrev pub slope_within : Entry → Class → ℕ
slope_within x class = if is_booked x && class_number x.want.class == class_number class then x.want.slope else 0

-- 1 where an entry is booked since this moment, else 0
abbrev pub new_within : ℕ → Entry → ℕ
new_within moment x = if is_since moment x.since then 1 else 0

-- the booked slopes of each class in bit/s, and how many bookings are of this moment
abbrev pub totals_of : ℕ → List Entry → Totals
totals_of moment entries =
    record {
      class_a = booked_slope entries A;
      class_b = booked_slope entries B;
      new_count = sum_by (new_within moment) entries;
    }

-- the slopes of one class
abbrev pub slope_of : Totals → Class → ℕ
slope_of t A = t.class_a
slope_of t B = t.class_b

-- at a later moment no booking is of the moment
abbrev pub later_totals : Bool → Totals → Totals
later_totals moved t = record t { new_count = if moved then 0 else t.new_count }

-- the totals of two lists together
abbrev pub together : Totals → Totals → Totals
together t more =
    record {
      class_a = t.class_a + more.class_a;
      class_b = t.class_b + more.class_b;
      new_count = t.new_count + more.new_count;
    }

-- what both classes take
abbrev pub both_of : Totals → ℕ
both_of t = t.class_a + t.class_b
