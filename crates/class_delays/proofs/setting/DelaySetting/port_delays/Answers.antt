use Rattle.std.proofs.Common.{List, map, sym, subst, ap, ◌∙◌}
use Rattle.std.proofs.lemmas.Result.{err_from_is_err_and}
use Rattle.class_delays.specs.declared.coming.Coming.{Coming}
use Rattle.class_delays.specs.{fed_by, AreComing, HasPeak}
use Rattle.class_delays.proofs.Faults.{coming-fault, peak-fault, fed-fault}
use Rattle.class_delays.proofs.setting.DelaySetting.port_delays.Goals as goal

pub returns-in_err-coming-clause-err : goal.returns-in_err-coming-clause-err
returns-in_err-coming-clause-err c =
    let p = err_from_is_err_and c.from_residual.result c.from_residual.ensures.1 in
    let k = c.keeps.ensures in
    rw (p.1, p.2) (coming-fault c.args.self.now k.given k.ports c.args.ports.now c.requires.reckoned c.args.place.at c.requires.port c.requires.before c.in_err-coming.field-0.0 c.in_err-coming.ensures.err)

pub returns-in_err-peak-clause-err : goal.returns-in_err-peak-clause-err
returns-in_err-peak-clause-err c =
    let p = err_from_is_err_and c.from_residual-in_err-peak.result c.from_residual-in_err-peak.ensures.1 in
    let k = c.keeps.ensures in
    let a = c.args.self.now in
    let ports = c.args.ports.now in
    let at = c.args.place.at in
    let are = subst (λ (t : List Coming). AreComing a ports at t) (sym c.deref.ensures.value) c.in_ok-coming.ensures.ok in
    rw (p.1, p.2) (peak-fault a k.given k.ports ports c.requires.reckoned at c.requires.port c.requires.before c.deref.result.now are c.in_err-peak.field-0.0 c.in_err-peak.ensures.err)

pub returns-in_err-fed-clause-err : goal.returns-in_err-fed-clause-err
returns-in_err-fed-clause-err c =
    let p = err_from_is_err_and c.from_residual-in_err-fed.result c.from_residual-in_err-fed.ensures.1 in
    let k = c.keeps.ensures in
    let a = c.args.self.now in
    let ports = c.args.ports.now in
    let at = c.args.place.at in
    let are = subst (λ (t : List Coming). AreComing a ports at t) (sym c.deref-2.ensures.value) c.in_ok-coming.ensures.ok in
    let peak = subst (λ (t : List Coming). HasPeak a at t c.in_ok-peak.peak) (c.deref.ensures.value ∙ sym c.deref-2.ensures.value) c.in_ok-peak.ensures.ok in
    rw (p.1, p.2) (fed-fault a k.given k.ports ports c.requires.reckoned at c.requires.port c.requires.before c.in_ok-peak.peak c.deref-2.result.now are peak c.in_err-fed.field-0.0
    c.in_err-fed.ensures.err)

pub returns-clause-reckoned : goal.returns-clause-reckoned
returns-clause-reckoned c =
    let a = c.args.self.now in
    let at = c.args.place.at in
    record {
      entry = record {
        port = c.requires.port;
        rate = c.requires.rate;
        coming = c.in_ok-coming.coming.items;
        are = c.in_ok-coming.ensures.ok;
        fed = c.in_ok-fed.ensures.ok ∙ ap (map (fed_by a at c.in_ok-peak.peak)) c.deref-2.ensures.value;
      };
      peak = subst (λ (t : List Coming). HasPeak a at t c.in_ok-peak.peak) c.deref.ensures.value c.in_ok-peak.ensures.ok;
    }
