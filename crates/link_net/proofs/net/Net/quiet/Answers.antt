use Rattle.std.proofs.Common.{List, map, ap, sym, ◌∙◌}
use Rattle.std.specs.List.{list_all}
use Rattle.link_net.specs.{NetState}
use Rattle.link_net.proofs.Standing.{all_mapped}
use Rattle.link_net.proofs.net.Net.quiet.Goals as goal

pub returns : goal.returns
returns g c =
    c.are_still.ensures
    ∙ (ap (λ (xs : List g.row.N.Denot). list_all (λ n. g.N.LinkNode.meaning.is_still (g.N.LinkNode.state n)) xs) c.as_slice.ensures.value
    ∙ (sym (all_mapped g.N.LinkNode.meaning.is_still g.N.LinkNode.state c.self.inside.nodes.items)
    ∙ ap (λ (v : NetState g.row.N.Denot). list_all g.N.LinkNode.meaning.is_still (map g.N.LinkNode.state v.nodes)) c.self.view_is))
