-- The shares of a port's rate that SR class A and class B may have (deltaBandwidth: IEEE Std
-- 802.1Q-2018, 34.3).
use Rattle.std.specs.Prelude.{ℕ, ◌+◌, nat_le, if◌then◌else◌, List, codes, Option, Some, None}
use Rattle.toml.specs.Data.{Members}
use Rattle.toml_rules.specs.Fields.{◌>>=◌, number_or, within}

-- the share at a key in percent, 90 at most
abbrev pub share_at : List ℕ → ℕ → Members → Option ℕ
share_at key default ms = within 0 90 (number_or key default ms)

-- the shares of class A and class B in percent, 75 and 0 where none are given, 90 together at most
abbrev pub shares_at : Members → Option (ℕ × ℕ)
shares_at ms = do
  a ← share_at (codes "delta_a") 75 ms
  b ← share_at (codes "delta_b") 0 ms
  if nat_le (a + b) 90 then Some (a, b) else None
