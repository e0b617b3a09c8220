-- The draws of a number: a sequence of states of 32 bits, each made of the one before it, of which
-- a draw takes the high half. What is drawn is named by its place in the order of the draws, from
-- 0.
use Rattle.std.specs.Prelude.{ℕ, zero, suc, ◌+◌, ◌*◌, ◌/◌, ◌%◌, ◌^◌}

-- the state after this one
abbrev pub next_state : ℕ → ℕ
next_state x = (x * 1664525 + 1013904223) % 2 ^ 32

-- the state after so many draws; before the first it is the number itself
unfoldable pub state_after : ℕ → ℕ → ℕ
state_after number zero = number
state_after number (suc k) = next_state (state_after number k)

-- what the draw at a place makes a draw of
abbrev pub drawn : ℕ → ℕ → ℕ
drawn number place = state_after number (place + 1) / 65536

-- the draw of m at a place: 0 to m - 1
abbrev pub draw : ℕ → ℕ → ℕ → ℕ
draw number place m = drawn number place % m

-- the most draws that a scenario is made of: 3 for its sizes, 1 for each of 16 links, 3 and 5 for
-- each of 16 streams, and 3 for each of 20 losses
abbrev pub most_draws : ℕ
most_draws = 207
