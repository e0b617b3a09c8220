-- How long class B waits: bit times in a row in which a frame of it heads its queue with credit.
--
--     credit of class B      - - - + + + + + + + + + + +
--     class B waits            ^ ^ ^ ^ ^ ^ ^ ^ ^ ^ ^
--     it is on the line                             B B
--     it is kept waiting           1 2 3 4 5 6 7 8 9        a wait of 9 bit times
use Rattle.std.specs.Prelude.{◌≡◌, ℕ, zero, suc, ◌+◌, ◌<◌, ◌≤◌, ◌⊎◌, Bool, true, not, ◌&&◌, Some, pos, int_le, max, if◌then◌else◌}
use Rattle.credit_shaper.specs.declared.{shaper.Traffic.TheVariants.B, port.Arrival.Arrival, port.PortInput.PortInput}
use Rattle.credit_shaper.specs.{Bounds.credit_b_at, Bounds.is_on_line, Departures.DepartsAt, Steps.head_at, Steps.is_waiting}

-- whether class B is kept waiting in a bit time: a frame of it waits, its credit isn't negative,
-- and none of it is on the line
abbrev pub is_kept_waiting : PortInput → ℕ → Bool
is_kept_waiting input t =
    is_waiting input B t && (int_le (pos 0) (credit_b_at input t) && not (is_on_line input B t))

-- there are so many bit times in a row, before the end, in each of which class B is kept waiting
pub record HasWait (input : PortInput) (bits : ℕ) : Type 0 where
  pub from : ℕ
  pub in_time : from + bits ≤ input.end
  pub each : (t : ℕ) → from ≤ t → t < from + bits → is_kept_waiting input t ≡ true

-- the longest wait of an input; 0 where there is none
pub record IsWorstWait (input : PortInput) (bits : ℕ) : Type 0 where
  pub there : HasWait input bits
  pub most : (other : ℕ) → HasWait input other → other ≤ bits

-- how many bit times in a row, up to before this one, class B was kept waiting
unfoldable pub waited : PortInput → ℕ → ℕ
waited input zero = 0
waited input (suc t) = if is_kept_waiting input t then suc (waited input t) else 0

-- the most of these counts up to a bit time
unfoldable pub most_waited : PortInput → ℕ → ℕ
most_waited input zero = 0
most_waited input (suc t) = max (waited input (suc t)) (most_waited input t)

-- the longest wait of an input, as a number
abbrev pub worst_wait_of : PortInput → ℕ
worst_wait_of input = most_waited input input.end

-- class B is kept waiting in a bit time, with this frame at the head of its queue
abbrev pub IsKeptWaiting : PortInput → Arrival → ℕ → Type 0
IsKeptWaiting input x t = (head_at input B t ≡ Some x) × (is_kept_waiting input t ≡ true)

-- the wait of a frame: so many bit times from the first in which it heads class B's queue with
-- credit of at least 0 while no class B frame is on the line, up to its start or the end of the
-- input
pub record IsWaitOf (input : PortInput) (x : Arrival) (from bits : ℕ) : Type 0 where
  pub each : (t : ℕ) → from ≤ t → t < from + bits → IsKeptWaiting input x t
  pub first : (t : ℕ) → suc t ≡ from → IsKeptWaiting input x t → ⊥
  pub last : DepartsAt input x (from + bits) ⊎ (from + bits ≡ input.end)

-- the longest of all frames' waits; 0 where no frame waits
pub record IsLongestWait (input : PortInput) (bits : ℕ) : Type 0 where
  pub most : (x : Arrival) (from other : ℕ) → IsWaitOf input x from other → other ≤ bits
  pub there : 0 < bits → (x : Arrival) × (from : ℕ) × IsWaitOf input x from bits
