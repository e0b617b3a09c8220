use Rattle.std.proofs.Common.{List, get_or, sym, subst}
use Rattle.std.proofs.lemmas.List.{take_all}
use Rattle.srp_base.specs.declared.bandwidth.Rate.TheVariants.{M100}
use Rattle.class_delays.specs.declared.{places.Ranked.Ranked, delays.PortDelays.PortDelays}
use Rattle.class_delays.specs.{IsReckoned, AreReckoned, AreBefore, AreThere}
use Rattle.class_delays.proofs.{Entries.all-reckoned, Orders.are-placed, Orders.before-there, Orders.there-more}
use Rattle.class_delays.proofs.setting.DelaySetting.along.Goals as goal

pub port_delays-requires-clause-port : goal.port_delays-requires-clause-port
port_delays-requires-clause-port c =
    (are-placed c.args.self.now c.keeps.ensures.ports c.keeps.ensures.sound c.args.places.now c.args.ranked.now c.requires.places c.requires.ranked c.loop-x.x-index _ c.loop-x-test.true).port

pub port_delays-requires-clause-rate : goal.port_delays-requires-clause-rate
port_delays-requires-clause-rate c =
    (are-placed c.args.self.now c.keeps.ensures.ports c.keeps.ensures.sound c.args.places.now c.args.ranked.now c.requires.places c.requires.ranked c.loop-x.x-index _ c.loop-x-test.true).rate

pub port_delays-requires-clause-reckoned : goal.port_delays-requires-clause-reckoned
port_delays-requires-clause-reckoned c = subst (λ (t : List PortDelays). AreReckoned c.args.self.now t) (sym c.deref.ensures.value) c.loop-x.invariant.reckoned

pub port_delays-requires-clause-before : goal.port_delays-requires-clause-before
port_delays-requires-clause-before c =
    let a = c.args.self.now in
    let d : Ranked = record { level = 0; place = record { at = record { node = record { 0 = 0 }; port = record { 0 = 0 } }; rate = M100 } } in
    subst (λ (t : List PortDelays). AreBefore a t (get_or c.args.ranked.now c.loop-x.x-index d).place.at) (sym c.deref.ensures.value)
    (before-there a c.keeps.ensures.ports c.keeps.ensures.sound c.args.places.now c.args.ranked.now c.requires.places c.requires.ranked c.requires.order c.loop-x.ports.items c.loop-x.x-index d
    c.loop-x-test.true c.loop-x.invariant.there)

pub loop-x-preserved : goal.loop-x-preserved
loop-x-preserved c =
    let a = c.args.self.now in
    let e = c.in_ok-e.e in
    let ports = c.loop-x.ports.items in
    let d : Ranked = record { level = 0; place = record { at = record { node = record { 0 = 0 }; port = record { 0 = 0 } }; rate = M100 } } in
    record {
      reckoned = all-reckoned a c.keeps.ensures.ports ports c.push.new.self.items e c.loop-x.invariant.reckoned
          (subst (λ (t : List PortDelays). IsReckoned a t e) c.deref.ensures.value c.in_ok-e.ensures.reckoned) c.in_ok-push.ensures.items;
      there = there-more c.args.ranked.now ports c.push.new.self.items c.loop-x.x-index d e c.loop-x-test.true c.in_ok-e.ensures.at c.in_ok-push.ensures.items c.loop-x.invariant.there;
    }

pub returns-clause-there : goal.returns-clause-there
returns-clause-there c =
    subst (λ (t : List Ranked). AreThere t c.loop-x.ports.items) (take_all c.loop-x.x-index c.args.ranked.now c.loop-x-test.false) c.loop-x.invariant.there
