-- A lock's table as it is laid, and as its passes are dealt.
use Rattle.std.specs.Prelude.{◌≡◌, ℕ, ◌≤◌, []}
use Rattle.atomic_table.specs.Seated.{TableId}
use Rattle.atomic_table.specs.declared.shared.Seat.{Seat}
use Rattle.turn_lock.specs.declared.{board.Kept.Kept, board.Terms.Terms, board.View.View, board.View.TheVariants.Living}
use Rattle.turn_lock.specs.{Passes.Lock, Rule.dealt_known, Turns.IsBoard}

module _ {S : Type 0} where
  -- the lock of a table
  abbrev pub lock_of : TableId → Terms S → Lock S
  lock_of table terms = record { table = table; start = terms.start.value; passes = terms.passes }

module _ {S Ask Answer : Type 0} where
  -- the seat is the one that was dealt last, with this number, at a table of these terms
  abbrev pub IsDealtFrom : Terms S → TableId → Terms S → Seat (Kept S Ask Answer) (View S Ask Answer) → ℕ → Type 0
  IsDealtFrom terms table key seat number = IsBoard table × (key ≡ terms) × (seat.table_id ≡ table)
      × (seat.me ≡ (Living (dealt_known terms.start.value terms.passes number), [])) × (1 ≤ number) × (number ≤ terms.passes)

  -- the table is laid, and the seat is its first
  abbrev pub IsLaid : Terms S → TableId → Terms S → Seat (Kept S Ask Answer) (View S Ask Answer) → Type 0
  IsLaid terms table key seat = IsDealtFrom terms table key seat 1
