use Rattle.srpnet.proofs.run.what_holds_of_every_run.Goals as goal

pub returns : goal.returns
returns c = λ plan ticks end w rules legal moment. record {
  vlan_duties = c.duties_are_met_in_every_run.ensures plan ticks end w rules legal moment;
  stream_duties = c.stream_duties_are_met_in_every_run.ensures plan ticks end w rules legal moment;
  limits = c.every_moment_is_within_limits.ensures plan ticks end w rules legal moment;
  vlans = λ rest. c.vlans_match_whenever_at_rest.ensures plan ticks end w rules legal moment rest;
  streams = λ rest stream. c.streams_keep_their_laws_whenever_at_rest.ensures plan ticks end w stream rules legal moment rest;
}
