use Rattle.std.proofs.Common.{◌≡◌, ◌++◌, drop}
use Rattle.std.specs.Prelude.{flat_map}
use Rattle.wishes.specs.{span_line}
use Rattle.wishes.proofs.moments.put_spans.Given as goal

-- the text so far with the lines of the stretches that are left is the whole
abbrev pub invariant-loop-span : goal.invariant-loop-span
invariant-loop-span l = l.out.items ++ flat_map span_line (drop l.span-index l.spans) ≡ l.fn.out.items ++ flat_map span_line l.spans
