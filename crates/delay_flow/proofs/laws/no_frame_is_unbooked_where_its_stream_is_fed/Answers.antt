use Rattle.delay_flow.proofs.Booked.{are-booked}
use Rattle.delay_flow.proofs.laws.no_frame_is_unbooked_where_its_stream_is_fed.Goals as goal

pub returns : goal.returns
returns c s flows rate traffic tick p x given sound flow rates steady port node fed =
    are-booked s flows rate traffic tick
    (record {
      given = given;
      laws = c.ports.ensures s.tree sound;
      flow = flow;
      rates = rates;
      order = c.frames_depart_in_order.ensures;
    })
    steady p x port node fed
