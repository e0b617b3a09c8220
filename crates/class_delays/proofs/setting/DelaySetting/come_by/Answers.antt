use Rattle.std.proofs.Common.{◌≡◌, ◌≤◌, ◌^◌, ℕ, false, List, Option, Some, None, refl, sym, ap, subst, ◌∙◌, rules}
use Rattle.std.specs.Prelude.{find, option_map}
use Rattle.srp_base.specs.declared.{bandwidth.Rate.Rate}
use Rattle.tree_topology.specs.Ports.{peer_of}
use Rattle.frame_flow.specs.Force.{is_port}
use Rattle.delay_bound.specs.Waits.{late_behind}
use Rattle.delay_flow.specs.Rules.{IsBefore}
use Rattle.class_delays.specs.declared.delays.{FedStream.FedStream}
use Rattle.class_delays.specs.{ClassSetting, delays_at, is_same, stream_in, late_in, wait_in, rate_at}
use Rattle.class_delays.proofs.Comings.{by-comes, none-comes}
use Rattle.class_delays.proofs.Handing.{in-u128-is, in-u128-none, rate-there}
use Rattle.class_delays.proofs.setting.DelaySetting.come_by.Goals as goal

pub returns-in_default-stream_in-clause-ok : goal.returns-in_default-stream_in-clause-ok
returns-in_default-stream_in-clause-ok c =
    let a = c.args.self.now in
    let ports = c.args.ports.now in
    let p = c.args.place.at in
    let r = c.args.r in
    let x = c.args.x.now in
    let e = c.in-Some.e.now in
    let differ : is_port r p ≡ false = search rules in
    let other : IsBefore a.setting p r = record { port = c.requires.other; node = c.requires.node; other = differ } in
    let peer = c.peer.ensures ∙ ap (λ (t : ClassSetting). peer_of t.setting.tree.links r) c.self.view_is in
    let at : delays_at ports (peer_of a.setting.tree.links r) ≡ Some e = ap (delays_at ports) (sym peer) ∙ sym c.delays_at.ensures ∙ ap (option_map (λ b. b.now)) c.in-Some.is in
    let none : stream_in x (Some e) ≡ None =
    ap (λ (fs : List FedStream). find (λ f. is_same f.stream x) fs) (sym c.as_slice.ensures) ∙ sym c.stream_in.ensures ∙ c.in_default-stream_in.is in
    none-comes a c.keeps.ensures.given c.keeps.ensures.ports ports c.requires.reckoned p r x c.requires.port other c.requires.stream c.requires.behind e at none

pub returns-clause-ok : goal.returns-clause-ok
returns-clause-ok c =
    let a = c.args.self.now in
    let s = a.setting in
    let ports = c.args.ports.now in
    let p = c.args.place.at in
    let r = c.args.r in
    let x = c.args.x.now in
    let e = c.in-Some.e.now in
    let f = c.in-Some-stream_in.f in
    let q = peer_of s.tree.links r in
    let differ : is_port r p ≡ false = search rules in
    let other : IsBefore s p r = record { port = c.requires.other; node = c.requires.node; other = differ } in
    let peer = c.peer.ensures ∙ ap (λ (t : ClassSetting). peer_of t.setting.tree.links r) c.self.view_is in
    let at : delays_at ports q ≡ Some e = ap (delays_at ports) (sym peer) ∙ sym c.delays_at.ensures ∙ ap (option_map (λ b. b.now)) c.in-Some.is in
    let sent : stream_in x (Some e) ≡ Some f =
    ap (λ (fs : List FedStream). find (λ g. is_same g.stream x) fs) (sym c.as_slice.ensures) ∙ sym c.stream_in.ensures ∙ c.in-Some-stream_in.is in
    let number = in-u128-is (late_behind f.late f.wait e.rate c.args.place.rate) c.in-Some-late.late (sym c.late.ensures ∙ c.in-Some-late.is) in
    let late = number ∙ ap (λ (t : Rate). late_behind f.late f.wait t c.args.place.rate) (rate-there a ports c.requires.reckoned q e at)
    ∙ ap (λ (t : Rate). late_behind f.late f.wait (rate_at s q) t) c.requires.rate in (
      by-comes a c.keeps.ensures.given c.keeps.ensures.ports ports c.requires.reckoned p r x c.requires.port other c.requires.stream c.requires.booked e at f sent,
      refl,
      record { other = other; behind = c.requires.behind; sent = f; there = ap (stream_in x) at ∙ sent; late = late; before = refl },
    )

pub returns-in_default-late-clause-err : goal.returns-in_default-late-clause-err
returns-in_default-late-clause-err c =
    let a = c.args.self.now in
    let s = a.setting in
    let ports = c.args.ports.now in
    let p = c.args.place.at in
    let r = c.args.r in
    let x = c.args.x.now in
    let e = c.in-Some.e.now in
    let f = c.in-Some-stream_in.f in
    let q = peer_of s.tree.links r in
    let differ : is_port r p ≡ false = search rules in
    let other : IsBefore s p r = record { port = c.requires.other; node = c.requires.node; other = differ } in
    let peer = c.peer.ensures ∙ ap (λ (t : ClassSetting). peer_of t.setting.tree.links r) c.self.view_is in
    let at : delays_at ports q ≡ Some e = ap (delays_at ports) (sym peer) ∙ sym c.delays_at.ensures ∙ ap (option_map (λ b. b.now)) c.in-Some.is in
    let sent : stream_in x (Some e) ≡ Some f =
    ap (λ (fs : List FedStream). find (λ g. is_same g.stream x) fs) (sym c.as_slice.ensures) ∙ sym c.stream_in.ensures ∙ c.in-Some-stream_in.is in
    let there = ap (stream_in x) at ∙ sent in
    let big = in-u128-none (late_behind f.late f.wait e.rate c.args.place.rate) (sym c.late.ensures ∙ c.in_default-late.is) in
    let same = ap (λ (t : Rate). late_behind f.late f.wait t c.args.place.rate) (rate-there a ports c.requires.reckoned q e at)
    ∙ ap (λ (t : Rate). late_behind f.late f.wait (rate_at s q) t) c.requires.rate
    ∙ sym (ap (λ (o : Option FedStream). late_behind (late_in o) (wait_in o) (rate_at s q) (rate_at s p)) there) in (
      refl,
      record {
        stream = x;
        has = c.requires.stream;
        fed = by-comes a c.keeps.ensures.given c.keeps.ensures.ports ports c.requires.reckoned p r x c.requires.port other c.requires.stream c.requires.booked e at f sent;
        by = r;
        other = other;
        behind = c.requires.behind;
        late = subst (λ (v : ℕ). 2 ^ 128 ≤ v) same big;
      },
    )
