-- Whether a stream's frames conform to what its Talker may send.
use Rattle.std.specs.Prelude.{◌≡◌, ◌≢◌, ℕ, ◌↔◌, Bool, List, [], Option, None, Some, map, IsTrue}
use Rattle.std.specs.{List.Sorted.IsPermutation, List.Sorted.IsSortedByKey, List.Sorted.IsStableByKey, Ordering.nat_cmp}
use Rattle.frame_flow.specs.declared.frame.Frame.{Frame}
use Rattle.delay_bound.specs.declared.{stream.SentFrame.SentFrame, stream.StreamLimits.StreamLimits}
use Rattle.delay_bound.specs.Frames.{DoConform}
use Rattle.delay_flow.specs.Ways.{sent_frame}

-- frames in order of moment; those of one moment stand as they stood, by number
pub record AreInOrder (frames sent : List SentFrame) : Type 0 where
  pub same : IsPermutation frames sent
  pub order : IsSortedByKey (λ f. f.at.0) nat_cmp sent
  pub ties : IsStableByKey (λ f. f.at.0) nat_cmp frames sent

-- whether a stream's frames, which ascend by number, conform in order of moment, then number;
-- nothing is said where it has none
abbrev pub IsConformity : StreamLimits → List Frame → Option Bool → Type 0
IsConformity limits frames None = frames ≡ []
IsConformity limits frames (Some word) =
    (frames ≢ [])
    × ((sent : List SentFrame) × AreInOrder (map sent_frame frames) sent × (IsTrue word ↔ DoConform limits sent))
