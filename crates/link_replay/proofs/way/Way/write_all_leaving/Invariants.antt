use Rattle.std.proofs.Common.{◌≡◌, ◌++◌, drop, string_bytes}
use Rattle.std.specs.Prelude.{flat_map}
use Rattle.link_replay.specs.{leaving_text}
use Rattle.link_replay.proofs.way.Way.write_all_leaving.Given as goal

-- the text so far with what is said of the rows that are left is the whole
abbrev pub invariant-loop-i : goal.invariant-loop-i
invariant-loop-i g l =
    string_bytes l.out ++ flat_map (leaving_text g.A.WatchedApp.key_text l.at l.self) (drop l.i l.self.observer.rows)
    ≡ string_bytes l.initial.out ++ flat_map (leaving_text g.A.WatchedApp.key_text l.at l.self) l.self.observer.rows
