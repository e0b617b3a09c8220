-- What the code keeps as it reads the fates of a port's copies. No public contract names these
-- words.
use Rattle.std.specs.Prelude.{ℕ, ◌+◌, List, [], ◌∷◌, codes, if◌then◌else◌}
use Rattle.std.specs.Fmt.{decimal}
use Rattle.srp_base.specs.Text.{whole_of}
use Rattle.frame_flow.specs.declared.result.Fate.{Fate}
use Rattle.srp_report.specs.declared.{departures.FateCounts.FateCounts, departures.SentFrame.SentFrame}
use Rattle.srp_report.specs.FrameLines.{is_departed, is_unbooked_fate, is_novlan, is_left, fates_count}

-- how many copies came to each fate
abbrev pub fate_counts : List (ℕ × Fate) → FateCounts
fate_counts fates =
    record {
      departed = fates_count is_departed fates;
      unbooked = fates_count is_unbooked_fate fates;
      novlan = fates_count is_novlan fates;
      left = fates_count is_left fates;
    }

-- the counts with a copy more, of this fate
abbrev pub one_more : FateCounts → Fate → FateCounts
one_more c fate =
    record {
      departed = c.departed + (if is_departed fate then 1 else 0);
      unbooked = c.unbooked + (if is_unbooked_fate fate then 1 else 0);
      novlan = c.novlan + (if is_novlan fate then 1 else 0);
      left = c.left + (if is_left fate then 1 else 0);
    }

-- how the line of a departure from a port begins
abbrev pub line_start : List ℕ → List ℕ
line_start port = whole_of (codes "depart " ∷ port ∷ codes " frame " ∷ [])

-- the line of a departure that begins so
abbrev pub line_from : List ℕ → SentFrame → List ℕ
line_from start d =
    whole_of (start ∷ decimal d.frame ∷ codes " start " ∷ decimal d.start ∷ codes " end " ∷ decimal d.end ∷ codes "\n" ∷ [])
