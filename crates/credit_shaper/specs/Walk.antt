-- How a run finds its way from one moment to the next. No public contract names these words.
use Rattle.std.specs.Prelude.{◌≡◌, ℕ, ◌+◌, ◌*◌, ◌<◌, ◌≤◌, ◌⊎◌, Bool, true, false, nat_le, nat_lt, ◌&&◌, List, [], ◌∷◌, take, length, HoldsAt, Option, None, ℤ, pos, ◌+ℤ◌, ◌<ℤ◌, int_le, if◌then◌else◌}
use Rattle.std.specs.List.{AllWithin}
use Rattle.credit_shaper.specs.declared.{shaper.Traffic.Traffic, shaper.Line.TheVariants.Free, port.SlopeChange.SlopeChange, port.Arrival.Arrival, port.PortInput.PortInput, port.Departure.Departure, trace.PortTrace.PortTrace, piece.Piece.Piece, queues.Heads.Heads}
use Rattle.credit_shaper.specs.declared.shaper.Traffic.TheVariants.{A, B, Other}
use Rattle.credit_shaper.specs.{Credit.after_bits, Port.is_of, Port.no_slopes, Trace.Port, Trace.head_of, Trace.turn_of}

-- the bit time of an arrival
abbrev pub arrival_bit : Arrival → ℕ
arrival_bit x = x.bit

-- the bit time from which a slope change is in force
abbrev pub change_bit : SlopeChange → ℕ
change_bit x = x.bit

-- the first n of a list are those before a bit time
pub record IsReached {X : Type 0} (bit_of : X → ℕ) (t n : ℕ) (xs : List X) : Type 0 where
  pub within : n ≤ length xs
  pub before : AllWithin (λ x. bit_of x < t) xs 0 n
  pub later : AllWithin (λ x. t ≤ bit_of x) xs n (length xs)

-- the last change of a list, or else this one
abbrev pub newest : SlopeChange → List SlopeChange → SlopeChange
newest current [] = current
newest current (x ∷ xs) = newest x xs

-- the index at which a traffic's queue begins
abbrev pub head_index : Heads → Traffic → ℕ
head_index h A = h.a
head_index h B = h.b
head_index h Other = h.other

-- with another index for one traffic
abbrev pub with_head_index : Traffic → ℕ → Heads → Heads
with_head_index A n h = record h { a = n }
with_head_index B n h = record h { b = n }
with_head_index Other n h = record h { other = n }

-- no queue begins after those that have come
abbrev pub AreWithin : ℕ → Heads → Type 0
AreWithin came h = (traffic : Traffic) → head_index h traffic ≤ came

-- an index is that of a frame of its traffic, or the number of those that have come
abbrev pub IsHead : List Arrival → ℕ → Traffic → ℕ → Type 0
IsHead arrivals came traffic i =
    (i ≤ came) × (i < came → HoldsAt (λ x. is_of traffic x ≡ true) arrivals i)

-- each index is that of a frame, or the number of those that have come
abbrev pub AreHeads : List Arrival → ℕ → Heads → Type 0
AreHeads arrivals came h = (traffic : Traffic) → IsHead arrivals came traffic (head_index h traffic)

-- of frames with indices from i on, those at or after their traffic's index
abbrev pub pending : Heads → ℕ → List Arrival → List Arrival
pending h i [] = []
pending h i (x ∷ xs) =
    if nat_le (head_index h x.traffic) i then x ∷ pending h (i + 1) xs else pending h (i + 1) xs

-- the frames that wait in a trace
abbrev pub waiting_of : List Arrival → PortTrace → List Arrival
waiting_of arrivals trace = pending trace.heads 0 (take trace.came arrivals)

-- the port that a trace stands for, with what it has sent
abbrev pub port_of : List Arrival → List Departure → PortTrace → Port
port_of arrivals sent trace =
    record {
      waiting = waiting_of arrivals trace;
      shaper = trace.shaper;
      line = trace.line;
      free_from = trace.free_from;
      sent = sent;
    }

-- what has come in a trace is what comes before a bit time
pub record HasReached (input : PortInput) (t : ℕ) (trace : PortTrace) : Type 0 where
  pub arrivals : IsReached arrival_bit t trace.came input.arrivals
  pub changes : IsReached change_bit t trace.changed input.slopes
  pub slope_a : trace.shaper.slope_a ≡ (newest no_slopes (take trace.changed input.slopes)).slope_a
  pub slope_b : trace.shaper.slope_b ≡ (newest no_slopes (take trace.changed input.slopes)).slope_b
  pub heads : AreWithin trace.came trace.heads

-- whether a traffic's queue has a frame
abbrev pub has_frame : PortTrace → Traffic → Bool
has_frame trace traffic = nat_lt (head_index trace.heads traffic) trace.came

-- the traffic whose turn it is on a free line
abbrev pub turn_in : PortTrace → Traffic
turn_in trace =
    if has_frame trace A && int_le (pos 0) trace.shaper.credit_a
    then A
    else if has_frame trace B && int_le (pos 0) trace.shaper.credit_b then B else Other

-- the frame that starts in a trace's bit time: on a free line the first of the queue whose turn it
-- is
abbrev pub frame_of : List Arrival → PortTrace → Option Arrival
frame_of arrivals trace =
    let waiting = waiting_of arrivals trace in
    if nat_le trace.free_from trace.bit then head_of (turn_of trace.shaper waiting) waiting else None

-- the frame is the first of its queue
pub record IsFirst (arrivals : List Arrival) (trace : PortTrace) (x : Arrival) : Type 0 where
  pub here : HoldsAt (λ y. y ≡ x) arrivals (head_index trace.heads x.traffic)
  pub came : head_index trace.heads x.traffic < trace.came

-- a class that waits has negative credit after some bit times
abbrev pub IsShort : Bool → ℤ → ℕ → ℕ → Type 0
IsShort waits credit slope bits = waits ≡ true → (credit +ℤ pos (bits * slope)) <ℤ pos 0

-- on a free line nothing can start after some bit times
pub record IsIdle (trace : PortTrace) (bits : ℕ) : Type 0 where
  pub line : trace.line ≡ Free
  pub other : has_frame trace Other ≡ false
  pub class_a : IsShort (has_frame trace A) trace.shaper.credit_a trace.shaper.slope_a bits
  pub class_b : IsShort (has_frame trace B) trace.shaper.credit_b trace.shaper.slope_b bits

-- in the bit times up to before this one no frame starts: the line isn't free, or none may start
abbrev pub IsQuiet : PortTrace → ℕ → Type 0
IsQuiet trace next =
    (next ≤ trace.free_from) ⊎ ((bits : ℕ) → trace.bit + bits < next → IsIdle trace bits)

-- a trace at a later bit time, where nothing but the credits' steps happens up to it
abbrev pub moved_to : ℕ → ℕ → PortTrace → PortTrace
moved_to next bits trace =
    record trace {
      bit = next;
      shaper = after_bits bits trace.line (has_frame trace A) (has_frame trace B) trace.shaper;
    }

-- the piece of so many bit times in which a trace goes on
abbrev pub piece_of : ℕ → PortTrace → Piece
piece_of bits trace =
    record {
      bit = trace.bit;
      bits = bits;
      shaper = trace.shaper;
      line = trace.line;
      waits_a = has_frame trace A;
      waits_b = has_frame trace B;
    }
