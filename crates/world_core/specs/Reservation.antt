-- What is in force at an egress port: the streams that are booked there and their slopes (IEEE Std
-- 802.1Q-2018, 34.3), and the VIDs that are registered there (11.2).
use Rattle.std.specs.Prelude.{ℕ, Bool, ◌&&◌, ◌==◌, List, [], map, filter, Option, Some, None}
use Rattle.std.specs.Cmp.Lexicographic.{pointwise}
use Rattle.srp_base.specs.declared.{numbers.EgressPort.EgressPort, numbers.StreamId.StreamId, ports.PortChange.PortChange, bandwidth.Class.TheVariants.A, bandwidth.Class.TheVariants.B}
use Rattle.stream_importance.specs.declared.entry.Entry.{Entry}
use Rattle.port_ledger.specs.{Decision.booked_of, Book.Book, Book.booked_slope}
use Rattle.registrar.specs.Table.{is_registered_in}
use Rattle.mrp_participant.specs.declared.row.Row.{Row}
use Rattle.mrp_participant.specs.Lookup.{key_of}
use Rattle.mvrp.specs.Part.{Part}

-- what is in force at a port: the booked streams ascending, their slopes of each class together in
-- bit/s, and the registered VIDs ascending
pub record Reservation : Type 0 where
  pub booked : List StreamId
  pub slope_a : ℕ
  pub slope_b : ℕ
  pub vids : List ℕ

-- nothing is
abbrev pub no_reservation : Reservation
no_reservation = record { booked = []; slope_a = 0; slope_b = 0; vids = [] }

-- what a change says, and what is said before the first
abbrev pub said_by : Option PortChange → Reservation
said_by None = no_reservation
said_by (Some c) =
    record { booked = c.booked; slope_a = c.slope_a; slope_b = c.slope_b; vids = c.vids }

-- the streams that a ledger has booked, in the order of its entries
abbrev pub booked_streams : List Entry → List StreamId
booked_streams entries = map (λ x. x.want.stream) (booked_of entries)

-- whether a row's VID is registered: its Registrar is IN or LV
abbrev pub is_registered_row : Row ℕ (Unit {0}) → Bool
is_registered_row r = is_registered_in r.registrar

-- the VIDs that a participant of MVRP has registered, in the order of its rows
abbrev pub registered_vids : List (Row ℕ (Unit {0})) → List ℕ
registered_vids rows = map key_of (filter is_registered_row rows)

-- what a port has in force, by its participant of MVRP and its ledger
abbrev pub reservation_of : Part → Book → Reservation
reservation_of part book =
    record {
      booked = booked_streams book.entries;
      slope_a = booked_slope book.entries A;
      slope_b = booked_slope book.entries B;
      vids = registered_vids part.rows;
    }

-- whether two lists have the same streams, in the same order
abbrev pub are_same_streams : List StreamId → List StreamId → Bool
are_same_streams xs ys = pointwise (λ x y. x.0 == y.0) xs ys

-- whether two lists have the same VIDs, in the same order
abbrev pub are_same_vids : List ℕ → List ℕ → Bool
are_same_vids xs ys = pointwise (λ x y. x == y) xs ys

-- whether the same is in force by both: booked streams, slopes and VIDs
abbrev pub is_same : Reservation → Reservation → Bool
is_same f g =
    are_same_streams f.booked g.booked && (f.slope_a == g.slope_a) && (f.slope_b == g.slope_b)
    && are_same_vids f.vids g.vids

-- the change in a tick that says what is in force at a port
abbrev pub change_of : ℕ → EgressPort → Reservation → PortChange
change_of tick p f =
    record {
      at = p;
      tick = tick;
      booked = f.booked;
      slope_a = f.slope_a;
      slope_b = f.slope_b;
      vids = f.vids;
    }
