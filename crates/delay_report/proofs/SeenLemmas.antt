-- How long frames took: no longer than each of them.
use Rattle.std.proofs.Common.{◌≡◌, ℕ, zero, suc, ◌+◌, ◌-◌, ◌≤◌, ◌<◌, max, Bool, true, false, List, [], ◌∷◌, Option, Some, None, refl, sym, ◌∙◌, ap, arith, if◌then◌else◌}
use Rattle.std.specs.Prelude.{Contains, filter_map, option_and_then}
use Rattle.std.specs.List.{cons_option}
use Rattle.srp_base.specs.declared.{numbers.StreamId.StreamId, bandwidth.Rate.Rate}
use Rattle.frame_flow.specs.declared.{frame.Frame.Frame, result.Fate.Fate, result.PortFlow.PortFlow}
use Rattle.frame_flow.specs.declared.result.Fate.TheVariants.{Departed, Unbooked, NoVlan, Left}
use Rattle.frame_flow.specs.{Copies.frame_of, Moments.moment_of}
use Rattle.delay_flow.specs.Streams.{is_route_of}
use Rattle.delay_report.specs.Seen.{longest_of, taken_at, taken_by, taken_in}

module _ (stream : StreamId) (frames : List Frame) (rate : Rate) (most : ℕ) where
  -- each frame of the stream that departs takes no longer than this
  abbrev pub TakeAtMost : List (ℕ × Fate) → Type 0
  TakeAtMost fates =
      (number start end : ℕ) (f : Frame) → Contains fates (number, Departed start end) → frame_of frames number ≡ Some f
      → is_route_of stream f.route ≡ true
      → moment_of rate end ≤ f.at.0 + most

  abbrev IsAtMost : Option ℕ → Type 0
  IsAtMost None = Unit {0}
  IsAtMost (Some t) = t ≤ most

  taken_by-most : (end : ℕ) (f : Frame) → (is_route_of stream f.route ≡ true → moment_of rate end ≤ f.at.0 + most) → IsAtMost (taken_by stream (moment_of rate end) f)
  taken_by-most end f h = by (is_route_of stream f.route) h
    where
      by : (b : Bool) → (b ≡ true → moment_of rate end ≤ f.at.0 + most) → IsAtMost (if b then Some (moment_of rate end - f.at.0) else None)
      by true g = let le = g refl in omega (arith, le)
      by false g = tt

  taken_in-most : (number : ℕ) (fate : Fate)
      → ((start end : ℕ) (f : Frame) → fate ≡ Departed start end → frame_of frames number ≡ Some f → is_route_of stream f.route ≡ true → moment_of rate end ≤ f.at.0 + most)
      → IsAtMost (taken_in stream frames rate (number, fate))
  taken_in-most number (Departed start end) h = by (frame_of frames number) (λ f is. h start end f refl is)
    where
      by : (o : Option Frame) → ((f : Frame) → o ≡ Some f → is_route_of stream f.route ≡ true → moment_of rate end ≤ f.at.0 + most)
          → IsAtMost (option_and_then (taken_by stream (moment_of rate end)) o)
      by None g = tt
      by (Some f) g = taken_by-most end f (g f refl)
  taken_in-most number Unbooked h = tt
  taken_in-most number NoVlan h = tt
  taken_in-most number Left h = tt

  more : (o : Option ℕ) (rest : List ℕ) → IsAtMost o → longest_of rest ≤ most → longest_of (cons_option o rest) ≤ most
  more None rest here later = later
  more (Some t) rest here later = omega (arith, here, later)

  pub longest_upto : (fates : List (ℕ × Fate)) → TakeAtMost fates → longest_of (filter_map (taken_in stream frames rate) fates) ≤ most
  longest_upto [] h = omega arith
  longest_upto ((number, fate) ∷ fates) h =
      more (taken_in stream frames rate (number, fate)) (filter_map (taken_in stream frames rate) fates)
      (taken_in-most number fate (λ start end f is found route. h number start end f (0, omega arith, ap (λ x. (number, x)) is) found route))
      (longest_upto fates (λ n start end f there found route. h n start end f (suc there.0, omega (arith, there.1), there.2) found route))
