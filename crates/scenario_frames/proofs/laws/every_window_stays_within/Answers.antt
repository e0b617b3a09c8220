use Rattle.scenario_frames.specs.{setting_of}
use Rattle.scenario_frames.proofs.WindowLemmas.{windows-of-cap}
use Rattle.scenario_frames.proofs.laws.every_window_stays_within.Goals as goal

pub returns-clause-slopes : goal.returns-clause-slopes
returns-clause-slopes c plan changes flows kept order slopes is =
    c.class_a_windows_stay_within.ensures (setting_of plan changes) flows
    (c.a_scenario_asks_a_valid_flow.ensures plan changes kept order slopes) is

pub returns-clause-caps : goal.returns-clause-caps
returns-clause-caps c plan changes cap flows kept order slopes keeps is =
    windows-of-cap flows cap (c.inputs_keep_the_caps_of_changes.ensures.class_a (setting_of plan changes) flows cap keeps is)
    (c.class_a_windows_stay_within.ensures (setting_of plan changes) flows
    (c.a_scenario_asks_a_valid_flow.ensures plan changes kept order slopes) is)
