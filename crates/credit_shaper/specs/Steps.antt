-- What goes on in one bit time: who waits, what the line does, and with what credit a frame starts
-- (IEEE Std 802.1Q-2018, 8.6.8 and 8.6.8.2; whole bit times own).
--
--     as it begins         in it, once a frame has started or not
--     bits_left        --> bits_ahead
--     was_on_line      --> is_on_line      --> the next one, with one bit less
use Rattle.std.specs.Prelude.{◌≡◌, ℕ, ◌+◌, ◌-◌, ◌<◌, ◌≤◌, ◌⊎◌, Bool, true, false, Option, pos, ◌≤ℤ◌, ◌<ℤ◌}
use Rattle.credit_shaper.specs.declared.{shaper.Traffic.Traffic, shaper.Line.TheVariants.Free, shaper.Line.TheVariants.Sends, port.Arrival.Arrival, port.PortInput.PortInput}
use Rattle.credit_shaper.specs.declared.shaper.Traffic.TheVariants.{A, B, Other}
use Rattle.credit_shaper.specs.{Credit.does_send, Port.IsFrameSize, Trace.head_of, Trace.does_wait, Trace.port_at, Trace.port_in, Bounds.credit_a_at, Bounds.credit_b_at, Bounds.is_on_line}

-- whether a frame of a traffic waits in a bit time, after its start if one starts
abbrev pub is_waiting : PortInput → Traffic → ℕ → Bool
is_waiting input traffic t = does_wait traffic (port_in input t).waiting

-- the frame that heads a traffic's queue in a bit time, after its start if one starts
abbrev pub head_at : PortInput → Traffic → ℕ → Option Arrival
head_at input traffic t = head_of traffic (port_in input t).waiting

-- whether the frame that was on the line before a bit time, if any, is of a traffic
abbrev pub was_on_line : PortInput → Traffic → ℕ → Bool
was_on_line input traffic t = does_send traffic (port_at input t).line

-- how many bits of the frame on the line are left as a bit time begins; none where the line is free
abbrev pub bits_left : PortInput → ℕ → ℕ
bits_left input t = (port_at input t).free_from - t

-- how many are left in it, that of this bit time among them
abbrev pub bits_ahead : PortInput → ℕ → ℕ
bits_ahead input t = (port_in input t).free_from - t

-- class A has negative credit in a bit time if a frame of it waits
abbrev pub IsShortA : PortInput → ℕ → Type 0
IsShortA input t = is_waiting input A t ≡ true → credit_a_at input t <ℤ pos 0

-- class B has negative credit in a bit time if a frame of it waits
abbrev pub IsShortB : PortInput → ℕ → Type 0
IsShortB input t = is_waiting input B t ≡ true → credit_b_at input t <ℤ pos 0

-- what a start of each traffic asks of the credits: of its own class that its credit isn't
-- negative, and of each class before it that it is short
abbrev pub HasTurn : PortInput → Traffic → ℕ → Type 0
HasTurn input A t = pos 0 ≤ℤ credit_a_at input t
HasTurn input B t = (pos 0 ≤ℤ credit_b_at input t) × IsShortA input t
HasTurn input Other t = IsShortA input t × IsShortB input t

-- the frame on the line goes on
pub record GoesOn (input : PortInput) (t : ℕ) : Type 0 where
  pub left : 0 < bits_left input t
  pub same : bits_ahead input t ≡ bits_left input t
  pub line : (traffic : Traffic) → is_on_line input traffic t ≡ was_on_line input traffic t

-- a frame of a traffic starts on the free line
pub record Starts (input : PortInput) (traffic : Traffic) (t : ℕ) : Type 0 where
  pub free : bits_left input t ≡ 0
  pub size : IsFrameSize (bits_ahead input t)
  pub line : (port_in input t).line ≡ Sends traffic
  pub turn : HasTurn input traffic t

-- the line rests: no frame waits but those of classes that are short
pub record Rests (input : PortInput) (t : ℕ) : Type 0 where
  pub free : bits_left input t ≡ 0
  pub none : bits_ahead input t ≡ 0
  pub line : (port_in input t).line ≡ Free
  pub turn : HasTurn input Other t
  pub other : is_waiting input Other t ≡ false

-- a bit time is one of these three
abbrev pub IsOneOfThree : PortInput → ℕ → Type 0
IsOneOfThree input t =
    GoesOn input t ⊎ (((traffic : Traffic) × Starts input traffic t) ⊎ Rests input t)

-- in some bit times in a row a frame of class A waits that has credit, and none is on the line
abbrev pub WaitsWithCreditA : PortInput → ℕ → ℕ → Type 0
WaitsWithCreditA input from bits =
    (t : ℕ) → from ≤ t → t < from + bits
    → (is_waiting input A t ≡ true) × (pos 0 ≤ℤ credit_a_at input t) × (is_on_line input A t ≡ false)
