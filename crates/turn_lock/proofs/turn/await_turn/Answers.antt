use Rattle.std.proofs.Common.{rules, arith, ◌≡◌, ◌∙◌, sym, subst}
use Rattle.turn_lock.specs.{Awaits, Takes}
use Rattle.turn_lock.proofs.{StepLemmas.looks, TurnLemmas.takes_it}
use Rattle.turn_lock.proofs.turn.await_turn.Goals as goal

pub load-served-requires : goal.load-served-requires
load-served-requires g c =
    let waits = c.requires.seat.1 in
    let words = c.requires.board.0 in
    let board = c.args.board.now in (
      c.loop.invariant.2 ∙ c.requires.seat.0,
      omega arith,
      looks g.S.Sequential.does board.key.start.value board.key.passes board.table_id.slots c.loop.seat.id
          c.loop.seat.me waits.0 waits.1 (c.loop.invariant.3 ∙ waits.2) waits.3,
    )

pub returns-then-served-ticket-clause-takes : goal.returns-then-served-ticket-clause-takes
returns-then-served-ticket-clause-takes g c =
    let waits : Awaits c.loop.seat.me c.args.ticket = subst (λ m. Awaits m c.args.ticket) (sym c.loop.invariant.3) c.requires.seat.1 in
    let same : c.load-served.result ≡ c.args.ticket = search rules in
    subst (λ m. Takes g.S.Sequential.does m c.load-served.new.seat.me) c.loop.invariant.3
    (takes_it g.S.Sequential.does c.loop.seat.me c.load-served.new.seat.me c.load-served.result c.args.ticket c.load-served.ensures.2 waits same)
