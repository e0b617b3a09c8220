use Rattle.scenario_frames.specs.{setting_of}
use Rattle.scenario_frames.proofs.laws.every_input_keeps_its_caps.Goals as goal

pub returns-clause-valid : goal.returns-clause-valid
returns-clause-valid c plan changes flows kept order slopes is =
    c.each_input_is_valid.ensures (setting_of plan changes) flows
    (c.a_scenario_asks_a_valid_flow.ensures plan changes kept order slopes) is

pub returns-clause-caps : goal.returns-clause-caps
returns-clause-caps c plan changes cap_a cap_ab flows keeps is =
    c.inputs_keep_the_caps_of_changes.ensures.both (setting_of plan changes) flows cap_a cap_ab keeps is
