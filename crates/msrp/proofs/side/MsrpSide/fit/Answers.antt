use Rattle.std.proofs.Common.{◌≡◌, ◌∙◌, ◌≤◌, ◌<◌, ◌-◌, ℕ, zero, suc, List, [], ◌∷◌, length, ap, arith}
use Rattle.std.specs.Prelude.{slice_get, Option, Some, None, IfSome}
use Rattle.std.specs.List.{AllByRecursion}
use Rattle.srp_base.specs.declared.{streams.Talker.Talker, streams.TalkerReg.TalkerReg}
use Rattle.stream_importance.specs.declared.entry.Fit.{Fit}
use Rattle.port_ledger.specs.Book.{Book}
use Rattle.attribute_propagation.specs.Ports.{place_of}
use Rattle.msrp.specs.PortState.{PortState}
use Rattle.msrp.specs.{fit_at, talkers_of, talkers_from, ports_in, IsPort}
use Rattle.msrp.proofs.side.MsrpSide.fit.Goals as goal

-- the ledger of a port stands at the moment of its side
not_after : (moment now : ℕ) (ports : List PortState) (at : ℕ) (book : Book) → at < length ports → AllByRecursion (IsPort moment) ports
    → IfSome (slice_get ports at) (λ p. book ≡ p.ledger) → moment ≤ now → book.moment ≤ now
not_after moment now [] at book below all is up = absurd (omega arith)
not_after moment now (p ∷ ports) zero book below all is up = omega (arith, ap (λ (b : Book). b.moment) is, all.0.moment, up)
not_after moment now (p ∷ ports) (suc at) book below all is up = not_after moment now ports at book (omega (arith, below)) all.1 is up

-- what fits by it fits by the port's
by_ledger : (now at : ℕ) (talkers : List TalkerReg) (book : Book) (r : Option Fit) (o : Option PortState) → IfSome o (λ p. book ≡ p.ledger) → r ≡ fit_at now at book talkers
    → IfSome o (λ p. r ≡ fit_at now at p.ledger talkers)
by_ledger now at talkers book r None is e = tt
by_ledger now at talkers book r (Some p) is e = e ∙ ap (λ (b : Book). fit_at now at b talkers) is

pub fit_at-requires : goal.fit_at-requires
fit_at-requires c =
    not_after c.args.self.now.state.moment c.args.now.0 c.args.self.now.state.ports (place_of c.args.port) c.ledger-ledger.result.now.book
    (omega (arith, c.requires.port.some, c.requires.port.within)) c.keeps.ensures.ports c.ledger-ledger.ensures c.requires.now

pub returns : goal.returns
returns c =
    let talkers : talkers_from c.view.result c.args.stream ≡ talkers_of c.args.self.now.state.talks c.args.self.now.state.ports c.args.stream =
    ap (λ (ts : List Talker). talkers_of ts (ports_in c.view.result.ports.now) c.args.stream) c.view.ensures.talks
    ∙ ap (λ (ps : List PortState). talkers_of c.args.self.now.state.talks ps c.args.stream) c.view.ensures.ports in
    let place : c.view.result.at ≡ place_of c.args.port = c.view.ensures.at ∙ ap (λ n. n - 1) c.from.ensures in
    by_ledger c.args.now.0 (place_of c.args.port) (talkers_of c.args.self.now.state.talks c.args.self.now.state.ports c.args.stream) c.ledger-ledger.result.now.book c.fit_at.result
    (slice_get c.args.self.now.state.ports (place_of c.args.port)) c.ledger-ledger.ensures
    (c.fit_at.ensures
    ∙ (ap (λ (ts : List TalkerReg). fit_at c.args.now.0 c.view.result.at c.ledger-ledger.result.now.book ts) talkers
    ∙ ap (λ (n : ℕ). fit_at c.args.now.0 n c.ledger-ledger.result.now.book (talkers_of c.args.self.now.state.talks c.args.self.now.state.ports c.args.stream)) place))
