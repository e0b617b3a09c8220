use Rattle.delay_flow.proofs.Waits.{holds}
use Rattle.delay_flow.proofs.laws.each_frame_goes_in_time.Goals as goal

pub returns : goal.returns
returns c s flows traffic streams n tick p given sound flow class steady are rules port =
    holds s flows traffic streams n tick
    (record {
      net = record {
        given = given;
        laws = c.ports.ensures s.tree sound;
        flow = flow;
        rates = rules.rates;
        order = c.frames_depart_in_order.ensures;
      };
      class = class;
      steady = steady;
      are = are;
      rules = rules;
      laws = record {
        fresh = c.a_class_without_frames_is_fresh.ensures;
        start = c.each_frame_of_a_class_starts_in_time.ensures;
        in_time = c.departures_follow_one_another.ensures.in_time;
        apart = c.departures_follow_one_another.ensures.apart;
        line = c.the_line_carries_the_departures.ensures;
        takes = c.a_class_is_served_by_its_frames_and_slopes.ensures.takes;
      };
    })
    p port
