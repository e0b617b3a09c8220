use Rattle.std.proofs.Common.{◌≡◌, List, ap, ◌∙◌}
use Rattle.std.specs.Prelude.{flat_map}
use Rattle.srp_base.specs.declared.ports.PortChange.{PortChange}
use Rattle.frame_flow.specs.Force.{changes_at}
use Rattle.world_core.specs.{force_at, lacking, tree_ports, changes_among}
use Rattle.world_core.proofs.Noting.{tree_merged}
use Rattle.world_core.proofs.world.World.note_tick.Goals as goal

pub returns-clause-ok : goal.returns-clause-ok
returns-clause-ok c =
    let w = c.args.self.now in
    let changes = c.args.timeline.now.changes in
    let fresh : c.in_ok-fresh.fresh.items ≡ flat_map (λ p. lacking c.args.tick p (force_at p w) (changes_at changes p)) (tree_ports w.tree) =
    c.in_ok-fresh.ensures ∙ ap (λ (cs : List PortChange). flat_map (λ p. lacking c.args.tick p (force_at p w) (changes_at cs p)) (tree_ports w.tree)) c.as_slice.ensures in
    c.in_ok-put_among.ensures.ok ∙ (ap (changes_among changes) fresh ∙ tree_merged w.tree c.args.tick (λ p. force_at p w) changes c.requires)
