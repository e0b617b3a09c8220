use Rattle.std.proofs.Common.{sym, ap, ◌∙◌}
use Rattle.scenario_frames.specs.Setting.{setting_of}
use Rattle.class_delays.specs.Table.{numbers_of, spent_in}
use Rattle.scenario_delays.specs.{Facts.class_setting, Streams.streams_in, Streams.traffic_in}
use Rattle.scenario_delays.proofs.TimeLemmas.{is-fed, reckoned-for, rules-are, sound-tree, talker-node}
use Rattle.scenario_delays.proofs.laws.spent_is_what_the_way_takes.Goals as goal

pub returns : goal.returns
returns c plan changes facts class ports p x fed kept known is port found =
    let a = class_setting plan changes class in
    let reckoned = reckoned-for plan changes facts class ports known is in
    let h = is-fed a ports p x fed reckoned found in
    sym (ap spent_in found)
    ∙ c.what_is_spent_is_within.ensures (setting_of plan changes) (traffic_in class) (streams_in class plan) (numbers_of a ports) x p (sound-tree plan kept)
    (rules-are plan changes class ports reckoned) (λ q y here has feeds. feeds) h.0 (talker-node plan class kept x h.0) port h.1
