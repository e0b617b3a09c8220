use Rattle.std.proofs.Common.{◌≡◌, ℕ, List, [], ◌++◌, Option, OnOk, ap, subst, ◌∙◌}
use Rattle.std.specs.Option.{option_map_or}
use Rattle.stream_importance.specs.declared.entry.Want.{Want}
use Rattle.report_words.specs.Names.{port_name}
use Rattle.topology_file.specs.Plan.{Plan}
use Rattle.topology_file.specs.declared.entries.LinkEntry.{LinkEntry}
use Rattle.port_needs.specs.{needs_on_link, wants_among}
use Rattle.port_needs.proofs.ports.put_port.Goals as goal

pub returns-in-Some : goal.returns-in-Some
returns-in-Some c =
    let out = c.args.out.now.items in
    let plan = c.args.scenario.now in
    let name = port_name plan.nodes plan.tree.links c.args.at in
    let wants = wants_among plan.tree c.args.demands.now c.args.at in
    subst (λ (o : Option LinkEntry). OnOk c.put_on_link.result (c.put_on_link.new.out.items ≡ out ++ option_map_or (needs_on_link name wants) o []))
    c.in-Some.ensures.link
    (subst (λ (ws : List Want). OnOk c.put_on_link.result (c.put_on_link.new.out.items ≡ out ++ needs_on_link name ws c.in-Some.link))
    (c.deref-in-Some.ensures.value ∙ (c.in_ok-wants.ensures ∙ ap (λ (p : Plan). wants_among p.tree c.args.demands.now c.args.at) c.scenario.view_is))
    (subst
    (λ (port : List ℕ). OnOk c.put_on_link.result (c.put_on_link.new.out.items ≡ out ++ needs_on_link port c.deref-in-Some.result.now c.in-Some.link))
    (c.deref.ensures.value ∙ c.in_ok-port.ensures) c.put_on_link.ensures))
