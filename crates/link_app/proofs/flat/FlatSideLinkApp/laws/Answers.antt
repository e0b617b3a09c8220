use Rattle.link_app.proofs.FlatLaws.{has_laws}
use Rattle.link_app.proofs.flat.FlatSideLinkApp.laws.Goals as goal

pub returns : goal.returns
returns g c =
    has_laws g.F.Key.Ord.cmp g.F.FlatApp.codec g.F.FlatApp.is_key g.F.MrpApp.base g.F.MrpApp.octets
    (record {
      event = c.every_event_keeps_both_duties.ensures.event;
      turned = c.a_new_link_meets_both_duties.ensures.turned;
      new = c.a_new_link_meets_both_duties.ensures.new;
      unsound = c.spoiling_keeps_duties.ensures.own;
      new_side = c.a_new_side_is_proper.ensures;
      receive = c.every_call_keeps_a_side_proper.ensures.receive;
      due = c.every_call_keeps_a_side_proper.ensures.due;
      leave_now = c.every_call_keeps_a_side_proper.ensures.leave_now;
      leaveall_now = c.every_call_keeps_a_side_proper.ensures.leaveall_now;
      periodic_now = c.every_call_keeps_a_side_proper.ensures.periodic_now;
      spoil = c.every_call_keeps_a_side_proper.ensures.spoil;
      send = c.every_call_keeps_a_side_proper.ensures.send;
      settle = c.settling_and_requests_keep_a_side_proper.ensures.settle;
      request = c.settling_and_requests_keep_a_side_proper.ensures.request;
      fitting = c.what_is_sent_can_be_written.ensures.fitting;
      of_keys = c.what_is_sent_can_be_written.ensures.keys;
      reads = c.octets_say_what_is_written.ensures.reads;
      written = c.octets_say_what_is_written.ensures.written;
      says = c.octets_say_what_is_written.ensures.says;
    })
