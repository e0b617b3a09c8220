-- What single octets of an MRPDU hold (IEEE Std 802.1Q-2018, 10.8.1.2, 10.8.2.10).
use Rattle.std.specs.Prelude.{ℕ, ◌+◌, ◌*◌, ◌/◌, ◌%◌, ◌<◌, List, [], ◌∷◌, ◌==◌, if◌then◌else◌}
use Rattle.std.specs.List.{AllByRecursion}
use Rattle.srp_base.specs.declared.mrp.MrpEvent.{MrpEvent}
use Rattle.srp_base.specs.declared.mrp.MrpEvent.TheVariants.{New, JoinIn, OnlyIn, JoinMt, OnlyMt, Lv}

-- each number is an octet
abbrev pub AreOctets : List ℕ → Type 0
AreOctets octets = AllByRecursion (λ o. o < 256) octets

-- the number in two octets, the high one first
abbrev pub number : ℕ → ℕ → ℕ
number high low = 256 * high + low

-- how many ThreePackedEvents n values take
abbrev pub thirds : ℕ → ℕ
thirds n = (n + 2) / 3

-- how many FourPackedEvents n values take
abbrev pub quarters : ℕ → ℕ
quarters n = (n + 3) / 4

-- the event of a number from 0 to 5
abbrev pub event_numbered : ℕ → MrpEvent
event_numbered n =
    if n == 0 then New
    else (if n == 1 then JoinIn
    else (if n == 2 then OnlyIn
    else (if n == 3 then JoinMt
    else (if n == 4 then OnlyMt
    else Lv))))

-- the number of an event
abbrev pub event_number : MrpEvent → ℕ
event_number New = 0
event_number JoinIn = 1
event_number OnlyIn = 2
event_number JoinMt = 3
event_number OnlyMt = 4
event_number Lv = 5

-- the events in an octet ((a * 6) + b) * 6 + c
abbrev pub three_events : ℕ → List MrpEvent
three_events octet = event_numbered (octet / 36) ∷ event_numbered (octet / 6 % 6) ∷ event_numbered (octet % 6) ∷ []

-- the parameters in an octet a * 64 + b * 16 + c * 4 + d
abbrev pub four_params : ℕ → List ℕ
four_params octet = octet / 64 ∷ octet / 16 % 4 ∷ octet / 4 % 4 ∷ octet % 4 ∷ []
