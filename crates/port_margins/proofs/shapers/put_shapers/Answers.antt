use Rattle.std.proofs.Common.{◌++◌, ap, ◌∙◌}
use Rattle.std.specs.Prelude.{codes}
use Rattle.srp_base.proofs.Lists.{three_pieces}
use Rattle.class_b_bound.specs.declared.bound.BoundB.{BoundB}
use Rattle.port_margins.specs.{shaper_line, waits_line}
use Rattle.port_margins.proofs.shapers.put_shapers.Goals as goal

pub returns : goal.returns
returns c =
    let out = c.args.out.now.items in
    let port = c.args.port.now in
    let rate = c.args.rate in
    let class_a = shaper_line port (codes "A") rate 12336 c.args.class_a in
    three_pieces out _ _ _ class_a _ _ c.in_ok-put_shaper.ensures c.in_ok-put_shaper-2.ensures c.in_ok-put_bits.ensures
    ∙ ap
    (λ (bound : BoundB). out ++ (class_a ++ (shaper_line port (codes "B") rate bound.wait c.args.class_b ++ waits_line port rate bound.wait)))
    c.tight_bound_b-bound.ensures
