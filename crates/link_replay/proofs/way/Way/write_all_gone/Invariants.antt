use Rattle.std.proofs.Common.{◌≡◌, ◌+◌, ◌≤◌, ◌++◌, not, drop, length, string_bytes}
use Rattle.std.specs.Prelude.{flat_map, filter}
use Rattle.attribute_propagation.specs.Dirty.{is_awaiting}
use Rattle.link_replay.specs.{gone_text}
use Rattle.link_replay.proofs.way.Way.write_all_gone.Given as goal

-- the text so far with what is said of the keys that are left is the whole, and so it is with
-- their number
abbrev pub invariant-loop-key : goal.invariant-loop-key
invariant-loop-key g l = record {
  said : string_bytes l.out ++ flat_map (gone_text g.A.Key.Ord.cmp g.A.WatchedApp.key_text l.at l.self) (drop l.key-index l.keys)
      ≡ string_bytes l.initial.out ++ flat_map (gone_text g.A.Key.Ord.cmp g.A.WatchedApp.key_text l.at l.self) l.keys;
  counted : l.count + length (filter (λ k. not (is_awaiting g.A.Key.Ord.cmp k l.self.withdrawn)) (drop l.key-index l.keys))
      ≡ length (filter (λ k. not (is_awaiting g.A.Key.Ord.cmp k l.self.withdrawn)) l.keys);
  few : l.count ≤ l.key-index;
}
