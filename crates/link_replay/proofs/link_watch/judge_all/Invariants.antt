use Rattle.std.proofs.Common.{◌≡◌, ◌+◌, ◌≤◌, ◌++◌, drop, length, string_bytes}
use Rattle.std.specs.Prelude.{flat_map, filter}
use Rattle.link_replay.specs.{kept_text, is_kept_broken}
use Rattle.link_replay.proofs.link_watch.judge_all.Given as goal

-- the text so far with what is said of the words that are left is the whole, and so it is with
-- their number
abbrev pub invariant-loop-word : goal.invariant-loop-word
invariant-loop-word g l = record {
  said : string_bytes l.out ++ flat_map (kept_text g.A.Key.Ord.cmp g.A.WatchedApp.key_text l.at l.ways) (drop l.word-index l.kept)
      ≡ string_bytes l.initial.out ++ flat_map (kept_text g.A.Key.Ord.cmp g.A.WatchedApp.key_text l.at l.ways) l.kept;
  counted : l.count + length (filter (is_kept_broken g.A.Key.Ord.cmp l.ways) (drop l.word-index l.kept))
      ≡ length (filter (is_kept_broken g.A.Key.Ord.cmp l.ways) l.kept);
  few : l.count ≤ l.word-index;
}
