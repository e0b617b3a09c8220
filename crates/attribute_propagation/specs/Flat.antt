-- The flat rule of propagation (IEEE Std 802.1Q-2018, 10.3, 11.2): what is registered at one port
-- is declared at every other.
use Rattle.std.specs.Prelude.{◌≡◌, ◌≢◌, ℕ, Bool, true, ◌||◌, List, take, drop, slice_get, Some}
use Rattle.std.specs.List.{list_any}

-- whether any of these is true
abbrev pub is_any : List Bool → Bool
is_any places = list_any (λ b. b) places

-- whether a place other than this one is true: one before it, or one after it. Places count from 0.
abbrev pub elsewhere : ℕ → List Bool → Bool
elsewhere port places = is_any (take port places) || is_any (drop 1 (drop port places))

-- a place other than this one is true
abbrev pub IsElsewhere : ℕ → List Bool → Type 0
IsElsewhere port places = (place : ℕ) × (place ≢ port) × (slice_get places place ≡ Some true)
