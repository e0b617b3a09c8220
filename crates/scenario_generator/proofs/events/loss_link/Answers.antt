use Rattle.std.proofs.Common.{ℕ, List, length, get_or, ap, ◌∙◌, arith}
use Rattle.std.proofs.lemmas.List.{get_or_default}
use Rattle.topology_file.specs.declared.entries.LinkEntry.{LinkEntry}
use Rattle.scenario_generator.specs.{link_entry, drawn_links, loss_draw}
use Rattle.scenario_generator.proofs.NetworkLemmas.{links-counted}
use Rattle.scenario_generator.proofs.events.loss_link.Goals as goal

pub bounds-links-place : goal.bounds-links-place
bounds-links-place c =
    let n = links-counted c.args.draws.now in
    let size = ap (λ (xs : List LinkEntry). length xs) c.requires.links in
    let below = c.loss_draw-drawn.ensures.below in
    omega (arith, n, size, below, c.from.ensures, c.links.ensures.value)

pub returns : goal.returns
returns c =
    let place = c.loss_draw-drawn.result in
    let n = links-counted c.args.draws.now in
    let below = c.loss_draw-drawn.ensures.below in
    let all = c.from.ensures ∙ c.links.ensures.value in
    c.index-links-place.is ∙ ap (λ (xs : List LinkEntry). get_or xs place c.index-links-place.result) c.requires.links
    ∙ get_or_default (drawn_links c.args.draws.now) place c.index-links-place.result (link_entry 0 0) (omega (arith, n, below, all))
    ∙ ap (λ (i : ℕ). get_or (drawn_links c.args.draws.now) i (link_entry 0 0)) (c.loss_draw-drawn.ensures.value ∙ ap (λ (m : ℕ). loss_draw c.args.draws.now c.args.n 0 m) all)
