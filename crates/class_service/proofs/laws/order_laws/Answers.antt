use Rattle.std.proofs.Common.{arith}
use Rattle.class_service.proofs.laws.order_laws.Goals as goal

pub returns : goal.returns
returns c =
    record {
      order = c.frames_depart_in_order.ensures;
      apart = c.departures_follow_one_another.ensures.apart;
      sized = λ input valid k d l. omega (arith, c.departures_follow_one_another.ensures.sized input valid k d l);
      in_time = c.departures_follow_one_another.ensures.in_time;
      agree = c.nothing_depends_on_what_comes_later.ensures.arrivals;
      port = c.nothing_depends_on_what_comes_later.ensures.port;
      departures = c.nothing_depends_on_what_comes_later.ensures.departures;
    }
