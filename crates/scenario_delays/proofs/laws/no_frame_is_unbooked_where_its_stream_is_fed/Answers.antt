use Rattle.scenario_frames.specs.Setting.{setting_of}
use Rattle.class_delays.specs.Table.{rate_at}
use Rattle.class_delays.proofs.Rates.{rates-are}
use Rattle.scenario_delays.specs.{Steady.last_booking_tick, Streams.traffic_in}
use Rattle.std.specs.Prelude.{None}
use Rattle.scenario_delays.proofs.TimeLemmas.{sound-tree, talker-node, never-unbooked}
use Rattle.scenario_delays.proofs.laws.no_frame_is_unbooked_where_its_stream_is_fed.Goals as goal

pub returns-clause-copies : goal.returns-clause-copies
returns-clause-copies c plan changes class flows p x kept earlier below within steady flow port has fed =
    let s = setting_of plan changes in
    let sound = sound-tree plan kept in
    c.no_frame_is_unbooked_where_its_stream_is_fed.ensures s flows (rate_at s) (traffic_in class) (last_booking_tick None changes) p x
    (c.a_scenario_asks_a_valid_flow.ensures plan changes kept earlier below) sound flow
    (rates-are s (c.ports.ensures plan.tree sound) sound)
    (c.a_steady_run_stays_as_it_is.ensures plan changes class kept earlier within steady) port (talker-node plan class kept x has) fed

pub returns-clause-fates : goal.returns-clause-fates
returns-clause-fates c plan changes class flows p x at f kept earlier below within steady flow port has fed there known route fate =
    let s = setting_of plan changes in
    let sound = sound-tree plan kept in
    let rates = rates-are s (c.ports.ensures plan.tree sound) sound in
    let booked = c.no_frame_is_unbooked_where_its_stream_is_fed.ensures s flows (rate_at s) (traffic_in class) (last_booking_tick None changes) p x
    (c.a_scenario_asks_a_valid_flow.ensures plan changes kept earlier below) sound flow rates
    (c.a_steady_run_stays_as_it_is.ensures plan changes class kept earlier within steady) port (talker-node plan class kept x has) fed in
    never-unbooked plan changes class flows p x at f kept has rates (c.a_flow_is_that_of_its_place.ensures s flows p at flow there) booked known route fate
