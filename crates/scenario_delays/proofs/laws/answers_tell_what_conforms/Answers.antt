use Rattle.scenario_frames.specs.Setting.{setting_of}
use Rattle.scenario_delays.proofs.StreamLemmas.{are-streams}
use Rattle.scenario_delays.proofs.laws.answers_tell_what_conforms.Goals as goal

pub returns : goal.returns
returns c plan changes answers class kept are conform =
    are-streams plan changes answers class kept are conform (λ traffic x xs is. c.what_conforms_keeps_each_window.ensures.windows (setting_of plan changes) traffic x xs is)
    (λ traffic x xs is. c.what_conforms_keeps_each_window.ensures.sizes (setting_of plan changes) traffic x xs is)
