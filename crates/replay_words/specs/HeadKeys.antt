-- What the keys of a head give: the ports at the ends of a link, and who speaks there.
use Rattle.std.specs.Prelude.{ℕ, ◌==◌, ◌&&◌, if◌then◌else◌, Bool, List, [], ◌∷◌, codes, Option, Some, None, is_none, option_and_then}
use Rattle.srp_base.specs.declared.bandwidth.Rate.{Rate}
use Rattle.srp_base.specs.{Bandwidth.rate_of_mbit, Hexadecimal.hex12}
use Rattle.stream_importance.specs.declared.slope.Caps.{Caps}
use Rattle.stream_importance.specs.Bandwidth.{caps_of}
use Rattle.toml.specs.Data.{Members, get_member}
use Rattle.toml_rules.specs.{Fields.◌>>=◌, Fields.number, Fields.number_or, Fields.within, Fields.text, Shares.shares_at}

-- the keys of a head: the rate of the ports at both ends, the shares of their SR classes
-- (deltaBandwidth), how long leave timers last, and the addresses of the ends
abbrev pub head_keys : List (List ℕ)
head_keys = codes "rate" ∷ codes "delta_a" ∷ codes "delta_b" ∷ codes "leave_time" ∷ codes "a" ∷ codes "b" ∷ []

-- the rate in Mb/s
abbrev pub rate_at : Members → Option Rate
rate_at ms = option_and_then rate_of_mbit (number (codes "rate") ms)

-- the caps of a port with this rate and these shares
abbrev pub caps_at : Members → Option Caps
caps_at ms = do
  rate ← rate_at ms
  shares ← shares_at ms
  Some (caps_of rate shares.0 shares.1)

-- how long leave timers last, in cs (LeaveTime, IEEE Std 802.1Q-2018, 10.7.11)
abbrev pub leave_time_at : Members → Option ℕ
leave_time_at ms = within 60 100 (number_or (codes "leave_time") 60 ms)

-- the address of twelve hexadecimal digits of either case at a key
abbrev pub address_at : List ℕ → Members → Option ℕ
address_at key ms = option_and_then hex12 (text key ms)

-- two addresses, which differ
abbrev pub two_addresses : Members → Option (Option (ℕ × ℕ))
two_addresses ms = do
  a ← address_at (codes "a") ms
  b ← address_at (codes "b") ms
  if a == b then None else Some (Some (a, b))

-- whether no address is given
abbrev pub has_no_address : Members → Bool
has_no_address ms = is_none (get_member (codes "a") ms) && is_none (get_member (codes "b") ms)

-- both addresses of the ends, or none of them
abbrev pub addresses_at : Members → Option (Option (ℕ × ℕ))
addresses_at ms = if has_no_address ms then Some None else two_addresses ms
