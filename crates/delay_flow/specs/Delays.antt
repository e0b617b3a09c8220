-- What holds of a class's frames at a port.
use Rattle.std.specs.Prelude.{◌≡◌, ℕ, ◌+◌, ◌*◌, ◌≤◌, true, false, List, filter, All}
use Rattle.std.specs.List.{Contains}
use Rattle.srp_base.specs.declared.{numbers.EgressPort.EgressPort, bandwidth.Rate.Rate}
use Rattle.credit_shaper.specs.declared.shaper.Traffic.{Traffic}
use Rattle.frame_flow.specs.declared.{frame.Frame.Frame, frame.FrameCopy.FrameCopy, result.PortFlow.PortFlow}
use Rattle.frame_flow.specs.declared.result.Fate.TheVariants.{Departed, Left, Unbooked}
use Rattle.frame_flow.specs.{Moments.moment_of, Force.changes_at, Flow.Setting, Flow.force_on, Flow.is_unbooked}
use Rattle.delay_bound.specs.{Bounds.second, Windows.IsBoundBy}
use Rattle.delay_bound.specs.declared.stream.ClassStream.{ClassStream}
use Rattle.delay_flow.specs.{Streams.is_frame_of, Places.copies_at, Places.flow_there, Places.sendable_at, Places.there_at, Rules.Numbers}

-- a copy of a stream's frame starts at most the stream's wait after its arrival, and a longer frame
-- earlier by what it is longer than the stream's least; and it has taken no more ps from its moment
-- than are spent on it up to there. Or the run ends before it has waited longer
pub record GoesInTime (s : Setting) (flows : List PortFlow) (n : Numbers) (p : EgressPort) (x : ClassStream) (c : FrameCopy) : Type 0 where
  pub starts : (start end : ℕ)
      → Contains (flow_there s flows n.rate p).fates (c.frame.number, Departed start end)
      → (end ≡ start + c.frame.bits) × (end ≤ c.bit + (n.wait p x + x.least))
  pub ends : Contains (flow_there s flows n.rate p).fates (c.frame.number, Left)
      → (flow_there s flows n.rate p).input.end + c.frame.bits ≤ c.bit + (n.wait p x + x.least)
  pub spent : (start end : ℕ)
      → Contains (flow_there s flows n.rate p).fates (c.frame.number, Departed start end)
      → moment_of (n.rate p) end ≤ c.frame.at.0 + n.spent p x

-- at a port each copy of a stream's frame that may be sent is of a stream that is fed there, is
-- there no earlier than its frame is sent, and goes in time; and each stream that is fed there
-- keeps its burst and slope there, with what its slope gives in the time by which its frames may
-- have moved
pub record HoldsAt (s : Setting) (flows : List PortFlow) (traffic : Traffic) (streams : List ClassStream) (n : Numbers) (p : EgressPort) : Type 0 where
  pub fed : All (λ x. All (λ c. is_frame_of traffic x c.frame ≡ true → n.fed p x ≡ true)
      (sendable_at s flows n.rate p)) streams
  pub since : All (λ x. All (λ c. is_frame_of traffic x c.frame ≡ true
      → c.frame.at.0 ≤ moment_of (n.rate p) c.bit) (sendable_at s flows n.rate p)) streams
  pub kept : All (λ x. n.fed p x ≡ true
      → IsBoundBy (λ f. f.bits) (there_at s flows n.rate p)
      (x.limits.burst * second + x.limits.slope * n.late p x) x.limits.slope
      (filter (is_frame_of traffic x) s.frames)) streams
  pub in_time : All (λ x. All (λ c. is_frame_of traffic x c.frame ≡ true → GoesInTime s flows n p x c)
      (sendable_at s flows n.rate p)) streams

-- at a port each copy of a stream's frame finds the stream booked as it arrives, and so no fate of
-- one of its frames there is that of an unbooked stream's
pub record AreBookedAt (s : Setting) (flows : List PortFlow) (rate : EgressPort → Rate) (traffic : Traffic) (p : EgressPort) (x : ClassStream) : Type 0 where
  pub copies : All (λ c. is_frame_of traffic x c.frame ≡ true
      → is_unbooked c.frame.route (force_on (rate p) (changes_at s.changes p) c) ≡ false)
      (copies_at s flows rate p)
  pub fates : (f : Frame) → Contains s.frames f → is_frame_of traffic x f ≡ true
      → Contains (flow_there s flows rate p).fates (f.number, Unbooked) → ⊥
