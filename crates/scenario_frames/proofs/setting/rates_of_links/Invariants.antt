use Rattle.std.proofs.Common.{◌≡◌, map, take}
use Rattle.scenario_frames.proofs.setting.rates_of_links.Given as goal

abbrev pub invariant-loop-link : goal.invariant-loop-link
invariant-loop-link l = l.rates.items ≡ map (λ x. x.rate) (take l.link-index l.links)
