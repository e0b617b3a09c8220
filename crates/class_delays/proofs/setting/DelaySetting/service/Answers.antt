use Rattle.std.proofs.Common.{◌≡◌, ◌<◌, Option, sym, subst, ap, ◌∙◌, arith}
use Rattle.srp_base.specs.declared.{bandwidth.Rate.Rate, ports.PortChange.PortChange}
use Rattle.srp_base.specs.Bandwidth.{bits_of}
use Rattle.frame_flow.specs.Force.{first_slopes}
use Rattle.delay_flow.specs.Places.{last_force}
use Rattle.delay_flow.proofs.Slopes.{below-there}
use Rattle.class_delays.specs.{rate_at}
use Rattle.class_delays.proofs.Rates.{rates-are}
use Rattle.class_delays.proofs.setting.DelaySetting.service.Goals as goal

pub idle-requires : goal.idle-requires
idle-requires c =
    let s = c.args.self.now.setting in
    let k = c.keeps.ensures in
    let below = below-there s k.ports k.given.setting (rate_at s) (rates-are s k.ports k.sound) c.args.at c.requires.port in
    let same : c.slope_a.result ≡ (first_slopes (last_force s c.args.at)).slope_a =
    c.slope_a.ensures ∙ ap (λ (o : Option PortChange). (first_slopes o).slope_a) c.last_force-force.ensures in
    subst (λ (r : Rate). c.slope_a.result < bits_of r) (sym c.requires.rate) (omega (arith, same, below))
