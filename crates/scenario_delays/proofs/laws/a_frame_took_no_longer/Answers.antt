use Rattle.scenario_frames.specs.Setting.{setting_of}
use Rattle.scenario_delays.proofs.TimeLemmas.{reckoned-for, took-no-longer}
use Rattle.scenario_delays.proofs.laws.a_frame_took_no_longer.Goals as goal

pub returns : goal.returns
returns c plan changes facts class ports flows p x fed flow number start end f is is_flow port found there fate known route =
    let s = setting_of plan changes in
    let given = c.a_scenario_asks_a_valid_flow.ensures plan changes is.rules is.earlier is.below in
    took-no-longer plan changes class ports flows p x fed flow number start end f is.rules given (reckoned-for plan changes facts class ports is.known is.reckoned) port
    (record {
      place = λ y at. c.a_flow_is_that_of_its_place.ensures s flows p y is_flow at;
      carried = λ place k from to listed has. c.departed_copies_were_carried.ensures s flows place k from to given listed has;
      source = λ place here. c.copies_come_from_departures.ensures s flows place here;
    })
    (c.frames_go_in_time.ensures plan changes facts class ports flows p is is_flow port) found there fate known route
