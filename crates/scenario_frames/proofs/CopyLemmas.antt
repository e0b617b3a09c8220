-- The copies of entries, one after another.
use Rattle.std.proofs.Common.{◌≡◌, ℕ, ◌+◌, List, [], ◌∷◌, ◌++◌, map, sym, ap, ◌∙◌, append_assoc, arith}
use Rattle.std.specs.List.{range_with_len}
use Rattle.std.proofs.lemmas.List.FromFn.{map-range_with_len_more}
use Rattle.frame_flow.specs.declared.frame.Frame.{Frame}
use Rattle.topology_file.specs.declared.entries.FrameEntry.{FrameEntry}
use Rattle.scenario_frames.specs.{Way, copy_of}

-- one copy more
pub copies-more : (e : FrameEntry) (way : Way) (first i : ℕ) (old : List Frame)
    → (old ++ map (copy_of e way first) (range_with_len 0 i)) ++ copy_of e way first i ∷ []
    ≡ old ++ map (copy_of e way first) (range_with_len 0 (i + 1))
copies-more e way first i old =
    append_assoc old (map (copy_of e way first) (range_with_len 0 i)) (copy_of e way first i ∷ [])
    ∙ ap (λ (t : List Frame). old ++ t) (sym (map-range_with_len_more (copy_of e way first) 0 i i (omega arith)))
