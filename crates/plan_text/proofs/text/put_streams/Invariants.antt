use Rattle.std.proofs.Common.{◌≡◌, ◌++◌, drop}
use Rattle.std.specs.Prelude.{flat_map}
use Rattle.plan_text.specs.Text.{stream_table}
use Rattle.plan_text.proofs.text.put_streams.Given as goal

-- the text so far with the tables of the streams that are left is the whole
abbrev pub invariant-loop-stream : goal.invariant-loop-stream
invariant-loop-stream l = l.out.items ++ flat_map (stream_table l.nodes) (drop l.stream-index l.streams) ≡ l.initial.out.items ++ flat_map (stream_table l.nodes) l.streams
