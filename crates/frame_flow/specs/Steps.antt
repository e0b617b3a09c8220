-- What the code keeps as it goes over a port's copies. No public contract names these words.
use Rattle.std.specs.Prelude.{◌≡◌, ℕ, ◌+◌, ◌-◌, ◌<◌, ◌≤◌, ◌==◌, nat_lt, List, [], length, map, filter, find, slice_get, slice_index_or, Option, None, if◌then◌else◌}
use Rattle.std.specs.{Borrow.Bor, List.AllWithin}
use Rattle.srp_base.specs.declared.{bandwidth.Rate.Rate, ports.PortChange.PortChange}
use Rattle.credit_shaper.specs.declared.{port.Arrival.Arrival, port.Departure.Departure}
use Rattle.frame_flow.specs.declared.{frame.Frame.Frame, frame.FrameCopy.FrameCopy, force.InForce.InForce, result.Fate.Fate, result.Fate.TheVariants.Unbooked, result.Fate.TheVariants.NoVlan, verdicts.Verdict.Verdict}
use Rattle.frame_flow.specs.declared.verdicts.Verdict.TheVariants.{NotBooked, NotInVlan, MaySend}
use Rattle.frame_flow.specs.{Moments.tick_at, Force.has_vid, Flow.is_unbooked, Flow.may_send, Flow.force_on, Flow.arrival_of, Flow.sent_fate}

-- the frames of each node of 0 to this number, in order
pub record AreByNode (last : ℕ) (frames : List Frame) (lists : List (List Frame)) : Type 0 where
  pub size : length lists ≡ last + 1
  pub each : (x : ℕ) → x ≤ last → slice_index_or lists x [] ≡ filter (λ f. f.from.0 == x) frames

-- of a port's changes just the first so many have come by a tick
pub record HaveCome (changes : List (Bor PortChange)) (tick come : ℕ) : Type 0 where
  pub few : come ≤ length changes
  pub before : AllWithin (λ c. c.now.tick ≤ tick) changes 0 come
  pub after : AllWithin (λ c. tick < c.now.tick) changes come (length changes)

-- they have in each bit time of a stretch
abbrev pub IsInForce : Rate → List (Bor PortChange) → InForce → Type 0
IsInForce rate changes s = (t : ℕ) → s.from ≤ t → t < s.until → HaveCome changes (tick_at rate t) s.come

-- whether a copy may be sent by what is in force, or why not
abbrev pub verdict_of : Option PortChange → FrameCopy → Verdict
verdict_of force c =
    if is_unbooked c.frame.route force then NotBooked else if has_vid c.frame.vid force then MaySend else NotInVlan

-- the verdicts on a port's copies, each with the frame's number
abbrev pub verdicts_of : Rate → List PortChange → List FrameCopy → List (ℕ × Verdict)
verdicts_of rate changes copies = map (λ c. (c.frame.number, verdict_of (force_on rate changes c) c)) copies

-- the copies that may be sent, as the shaper is given them
abbrev pub arrivals_of : Rate → List PortChange → List FrameCopy → List Arrival
arrivals_of rate changes copies = map arrival_of (filter (λ c. may_send c (force_on rate changes c)) copies)

-- the fate of a copy, by the verdict on it and its departure
abbrev pub fate_by : Verdict → Option Departure → Fate
fate_by NotBooked d = Unbooked
fate_by NotInVlan d = NoVlan
fate_by MaySend d = sent_fate d

-- the fates of a port's copies, by the verdicts on them and by what the port sends
abbrev pub fates_by : List Departure → List (ℕ × Verdict) → List (ℕ × Fate)
fates_by sent verdicts = map (λ e. (e.0, fate_by e.1 (find (λ d. d.frame == e.0) sent))) verdicts

-- the departure at the place that stands at a number's index from the least number on
abbrev pub sent_at : ℕ → List Departure → List ℕ → ℕ → Option Departure
sent_at least sent places number =
    if nat_lt number least then None else slice_get sent (slice_index_or places (number - least) (length sent))

-- at each number's index stands the place of its first departure
abbrev pub ArePlaces : ℕ → List Departure → List ℕ → Type 0
ArePlaces least sent places = (number : ℕ) → find (λ d. d.frame == number) sent ≡ sent_at least sent places number
