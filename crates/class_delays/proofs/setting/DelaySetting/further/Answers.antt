use Rattle.std.proofs.Common.{◌≤◌, ◌^◌, refl, subst, Option, List, [], ◌∷◌, sym, ap, ◌∙◌}
use Rattle.std.specs.Prelude.{option_map, map, sum_by}
use Rattle.tree_topology.specs.Ports.{peer_of}
use Rattle.delay_bound.specs.declared.bound.Bound.{Bound}
use Rattle.delay_flow.specs.Rules.{line_bound, class_bound}
use Rattle.class_delays.specs.declared.delays.FedStream.{FedStream}
use Rattle.class_delays.specs.{ClassSetting, IfBound, longest_of}
use Rattle.class_delays.proofs.Handing.{rate-there, longest-there, further-made, first-large, second-large}
use Rattle.class_delays.proofs.setting.DelaySetting.further.Goals as goal

pub service-service-requires-clause-rate : goal.service-service-requires-clause-rate
service-service-requires-clause-rate c =
    rate-there c.args.self.now c.args.ports.now c.requires.reckoned c.peer-q.result c.in-Some.e.now (sym c.delays_at.ensures ∙ ap (option_map (λ b. b.now)) c.in-Some.is)

pub returns-clause-ok : goal.returns-clause-ok
returns-clause-ok c =
    let a = c.args.self.now in
    let ports = c.args.ports.now in
    let q = c.peer-q.result in
    let e = c.in-Some.e.now in
    let at = sym c.delays_at.ensures ∙ ap (option_map (λ b. b.now)) c.in-Some.is in
    let peer = c.peer-q.ensures ∙ ap (λ (t : ClassSetting). peer_of t.setting.tree.links c.args.r) c.self.view_is in
    let most = c.longest-most.ensures ∙ ap (λ (fs : List FedStream). longest_of (map (λ f. f.stream) fs)) c.as_slice.ensures ∙ longest-there a ports c.requires.reckoned q e at in
    let made = further-made a c.args.place.at c.args.r q e.rate c.args.place.rate c.service-service.result.slope c.service-service.result.idle c.longest-most.result peer
    (rate-there a ports c.requires.reckoned q e at) c.requires.rate c.service-service.ensures.slope c.service-service.ensures.idle most in
    c.in_ok-bounds.ensures ∙ ap (λ (b : Bound). c.in-Some-class_bound.class ∷ b ∷ []) c.in-Some-line_bound.ensures
    ∙ ap (λ (b : Bound). b ∷ line_bound e.rate c.args.place.rate c.longest-most.result ∷ []) c.in-Some-class_bound.ensures ∙ made

pub returns-in_default-class_bound-clause-err : goal.returns-in_default-class_bound-clause-err
returns-in_default-class_bound-clause-err c =
    let a = c.args.self.now in
    let ports = c.args.ports.now in
    let q = c.peer-q.result in
    let e = c.in-Some.e.now in
    let at = sym c.delays_at.ensures ∙ ap (option_map (λ b. b.now)) c.in-Some.is in
    let peer = c.peer-q.ensures ∙ ap (λ (t : ClassSetting). peer_of t.setting.tree.links c.args.r) c.self.view_is in
    let most = c.longest-most.ensures ∙ ap (λ (fs : List FedStream). longest_of (map (λ f. f.stream) fs)) c.as_slice.ensures ∙ longest-there a ports c.requires.reckoned q e at in
    let made = further-made a c.args.place.at c.args.r q e.rate c.args.place.rate c.service-service.result.slope c.service-service.result.idle c.longest-most.result peer
    (rate-there a ports c.requires.reckoned q e at) c.requires.rate c.service-service.ensures.slope c.service-service.ensures.idle most in
    let credit = class_bound e.rate c.args.place.rate c.service-service.result.slope c.service-service.result.idle c.longest-most.result in
    let line = line_bound e.rate c.args.place.rate c.longest-most.result in
    let large = subst (λ (o : Option Bound). IfBound o credit) c.in_default-class_bound.is c.class_bound.ensures in
    (refl, subst (λ (bs : List Bound). 2 ^ 128 ≤ sum_by (λ b. b.base) bs) made (first-large credit line large))

pub returns-in_default-line_bound-clause-err : goal.returns-in_default-line_bound-clause-err
returns-in_default-line_bound-clause-err c =
    let a = c.args.self.now in
    let ports = c.args.ports.now in
    let q = c.peer-q.result in
    let e = c.in-Some.e.now in
    let at = sym c.delays_at.ensures ∙ ap (option_map (λ b. b.now)) c.in-Some.is in
    let peer = c.peer-q.ensures ∙ ap (λ (t : ClassSetting). peer_of t.setting.tree.links c.args.r) c.self.view_is in
    let most = c.longest-most.ensures ∙ ap (λ (fs : List FedStream). longest_of (map (λ f. f.stream) fs)) c.as_slice.ensures ∙ longest-there a ports c.requires.reckoned q e at in
    let made = further-made a c.args.place.at c.args.r q e.rate c.args.place.rate c.service-service.result.slope c.service-service.result.idle c.longest-most.result peer
    (rate-there a ports c.requires.reckoned q e at) c.requires.rate c.service-service.ensures.slope c.service-service.ensures.idle most in
    let credit = class_bound e.rate c.args.place.rate c.service-service.result.slope c.service-service.result.idle c.longest-most.result in
    let line = line_bound e.rate c.args.place.rate c.longest-most.result in
    let large = subst (λ (o : Option Bound). IfBound o line) c.in_default-line_bound.is c.line_bound.ensures in
    (refl, subst (λ (bs : List Bound). 2 ^ 128 ≤ sum_by (λ b. b.base) bs) made (second-large credit line large))
