use Rattle.std.proofs.Common.{sym, ◌∙◌}
use Rattle.std.specs.Prelude.{None}
use Rattle.srp_base.specs.declared.{bandwidth.Class.TheVariants.A, bandwidth.Class.TheVariants.B}
use Rattle.scenario_frames.specs.Setting.{setting_of}
use Rattle.class_delays.specs.Table.{numbers_of}
use Rattle.scenario_delays.specs.{Facts.class_setting, Steady.last_booking_tick, Streams.streams_in, Streams.traffic_in}
use Rattle.scenario_delays.proofs.TimeLemmas.{reckoned-for, rules-are, sound-tree}
use Rattle.scenario_delays.proofs.laws.frames_go_in_time.Goals as goal

pub returns : goal.returns
returns c plan changes facts A ports flows p is flow port =
    c.each_frame_goes_in_time.ensures (setting_of plan changes) flows (traffic_in A) (streams_in A plan) (numbers_of (class_setting plan changes A) ports) (last_booking_tick None changes) p
    (c.a_scenario_asks_a_valid_flow.ensures plan changes is.rules is.earlier is.below) (sound-tree plan is.rules) flow tt
    (c.a_steady_run_stays_as_it_is.ensures plan changes A is.rules is.earlier is.within (sym is.known.steady ∙ is.steady))
    (c.answers_tell_what_conforms.ensures plan changes facts.answers A is.rules is.known.answers is.conform)
    (rules-are plan changes A ports (reckoned-for plan changes facts A ports is.known is.reckoned)) port
returns c plan changes facts B ports flows p is flow port =
    c.each_frame_goes_in_time.ensures (setting_of plan changes) flows (traffic_in B) (streams_in B plan) (numbers_of (class_setting plan changes B) ports) (last_booking_tick None changes) p
    (c.a_scenario_asks_a_valid_flow.ensures plan changes is.rules is.earlier is.below) (sound-tree plan is.rules) flow tt
    (c.a_steady_run_stays_as_it_is.ensures plan changes B is.rules is.earlier is.within (sym is.known.steady ∙ is.steady))
    (c.answers_tell_what_conforms.ensures plan changes facts.answers B is.rules is.known.answers is.conform)
    (rules-are plan changes B ports (reckoned-for plan changes facts B ports is.known is.reckoned)) port
