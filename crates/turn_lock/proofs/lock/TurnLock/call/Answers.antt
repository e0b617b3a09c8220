use Rattle.std.proofs.Common.{ℕ, ◌∙◌, ap, sym, subst, IfOk, OnErr}
use Rattle.turn_lock.specs.{Log, HasCalled, HasLooked, seen_by}
use Rattle.turn_lock.proofs.PassLemmas.{pass_after}
use Rattle.turn_lock.proofs.lock.TurnLock.call.Goals as goal

pub turn-requires-clause-seat : goal.turn-requires-clause-seat
turn-requires-clause-seat g c =
    let is = c.pass.invariant in
    (ap (λ p. p.lock.table) c.pass.view_is ∙ (ap (λ l. l.table) c.requires.pass ∙ sym (ap (λ l. l.table) c.self.view_is)), (is.known, is.me_is, is.at_rest))

pub invariant_of-pass : goal.invariant_of-pass
invariant_of-pass g c =
    let p = c.pass.inside in
    (pass_after g.S.Sequential.does p.terms.value.start.value p.terms.value.passes p.number c.args.ask p.seat.me c.turn.new.seat.me c.turn.result c.pass.invariant c.turn.ensures.turns).0

pub returns-clause-called : goal.returns-clause-called
returns-clause-called g c =
    let p = c.pass.inside in
    let all = pass_after g.S.Sequential.does p.terms.value.start.value p.terms.value.passes p.number c.args.ask p.seat.me c.turn.new.seat.me c.turn.result c.pass.invariant c.turn.ensures.turns in
    let start = ap (λ q. q.lock.start) c.pass.view_is ∙ ap (λ l. l.start) c.requires.pass in
    let number = ap (λ q. q.number) c.pass.view_is in
    let seen = ap (λ q. q.seen) c.pass.view_is in
    subst (λ (x : g.row.S.Denot × ℕ × Log g.row.S-Ask.Denot g.row.S-Answer.Denot). IfOk c.turn.result
    (λ answer. HasCalled g.S.Sequential.does x.0 x.1 x.2 c.args.ask answer (seen_by c.turn.new.seat.me.0)))
    (λ i. (start i, number i, seen i)) all.1

pub returns-clause-no_memory : goal.returns-clause-no_memory
returns-clause-no_memory g c =
    let p = c.pass.inside in
    let all = pass_after g.S.Sequential.does p.terms.value.start.value p.terms.value.passes p.number c.args.ask p.seat.me c.turn.new.seat.me c.turn.result c.pass.invariant c.turn.ensures.turns in
    let start = ap (λ q. q.lock.start) c.pass.view_is ∙ ap (λ l. l.start) c.requires.pass in
    let number = ap (λ q. q.number) c.pass.view_is in
    let seen = ap (λ q. q.seen) c.pass.view_is in
    subst (λ (x : g.row.S.Denot × ℕ × Log g.row.S-Ask.Denot g.row.S-Answer.Denot). OnErr c.turn.result (HasLooked g.S.Sequential.does x.0 x.1 x.2 (seen_by c.turn.new.seat.me.0)))
    (λ i. (start i, number i, seen i)) all.2
