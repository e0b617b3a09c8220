use Rattle.std.proofs.Common.{◌∷◌, refl}
use Rattle.msrp.specs.{Streams, talks_without, streams_of}
use Rattle.msrp.proofs.{Keeping.kept-asked, OtherStreams.talks_more}
use Rattle.msrp.proofs.side.MsrpSide.put_talk.Goals as goal

pub invariant_of-self-2 : goal.invariant_of-self-2
invariant_of-self-2 c =
    let before : Streams = streams_of c.self.inside.ports.items c.self.inside.awaiting.items c.self.inside.talks.items c.self.inside.listens.items c.self.inside.moment.0 in (
      rw (c.in_ok-both_await.ensures.ok, c.put_talker.ensures, c.reserve.ensures.items)
          (kept-asked c.each_port_is_told.ensures before c.self.invariant.0 c.args.talker.stream (c.args.talker ∷ talks_without c.args.talker.stream before.talks) before.listens
          (λ s e. talks_more c.args.talker s before.talks e)
          (λ s e. refl)),
      tt,
    )
