use Rattle.std.proofs.Common.{◌≡◌, ◌++◌, drop}
use Rattle.std.specs.Prelude.{flat_map}
use Rattle.plan_text.specs.Text.{link_table}
use Rattle.plan_text.proofs.text.put_links.Given as goal

-- the text so far with the tables of the links that are left is the whole
abbrev pub invariant-loop-link : goal.invariant-loop-link
invariant-loop-link l = l.out.items ++ flat_map (link_table l.nodes) (drop l.link-index l.links) ≡ l.initial.out.items ++ flat_map (link_table l.nodes) l.links
