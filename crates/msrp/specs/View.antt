-- What a link port sees at its node (IEEE Std 802.1Q-2018, 35.2.4).
use Rattle.std.specs.Prelude.{List}
use Rattle.srp_base.specs.declared.{numbers.StreamId.StreamId, streams.TalkerReg.TalkerReg}
use Rattle.msrp.specs.declared.view.PortView.{PortView}
use Rattle.msrp.specs.{Holding.ports_in, Stream.Registrations, Stream.registrations_of, Stream.talkers_of}

-- what is registered of a stream's Talker at each port, the application first
abbrev pub talkers_from : PortView → StreamId → List TalkerReg
talkers_from view stream = talkers_of view.talks.now (ports_in view.ports.now) stream

-- what is registered of a stream
abbrev pub registrations_from : PortView → StreamId → Registrations
registrations_from view stream = registrations_of view.talks.now view.listens.now (ports_in view.ports.now) stream
