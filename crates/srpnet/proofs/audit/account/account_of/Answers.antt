use Rattle.std.proofs.Common.{ℕ, List, length, ap, subst, sym, arith}
use Rattle.journal_audit.specs.Audit.{IsVerdict, TellsLegal as TellsLegalLine, verdict_of}
use Rattle.srpnet.proofs.{AuditLemmas.refused_line, AccountLemmas.journal_refused, AccountLemmas.line_number, AccountLemmas.goes_on_there}
use Rattle.srpnet.proofs.audit.account.account_of.Goals as goal

pub overflow_add-result : goal.overflow_add-result
overflow_add-result c =
    let refusal = subst (λ f. IsVerdict c.args.scenario.now c.journal.result.now (verdict_of f)) c.in-Unformed.is c.in_ok-run.ensures.verdict in
    let line = refused_line c.args.scenario.now c.journal.result.now c.in-Unformed.line 2 refusal.0 in
    let few = c.marked-marked.ensures.few in
    let same = ap length c.journal.ensures in
    omega (arith, line, few, same)

pub overflow_add-result-in-Parted : goal.overflow_add-result-in-Parted
overflow_add-result-in-Parted c =
    let refusal = subst (λ f. IsVerdict c.args.scenario.now c.journal.result.now (verdict_of f)) c.in-Parted.is c.in_ok-run.ensures.verdict in
    let line = refused_line c.args.scenario.now c.journal.result.now c.in-Parted.line 3 refusal.0 in
    let few = c.marked-marked.ensures.few in
    let same = ap length c.journal.ensures in
    omega (arith, line, few, same)

pub returns-in-Unformed-clause-audited : goal.returns-in-Unformed-clause-audited
returns-in-Unformed-clause-audited c =
    let refusal = subst (λ f. IsVerdict c.args.scenario.now c.journal.result.now (verdict_of f)) c.in-Unformed.is c.in_ok-run.ensures.verdict in
    journal_refused c.args.scenario.now c.args.parts.now c.journal.result.now c.journal.ensures c.in-Unformed.line 2 refusal.0 refusal.1 c.marked-marked.result c.marked-marked.ensures.number

pub returns-in-Unformed-clause-line : goal.returns-in-Unformed-clause-line
returns-in-Unformed-clause-line c =
    let refusal = subst (λ f. IsVerdict c.args.scenario.now c.journal.result.now (verdict_of f)) c.in-Unformed.is c.in_ok-run.ensures.verdict in
    line_number c.args.scenario.now c.args.parts.now c.journal.result.now c.journal.ensures c.in-Unformed.line 2 refusal.0 c.marked-marked.result c.marked-marked.ensures.few

pub returns-in-Parted-clause-audited : goal.returns-in-Parted-clause-audited
returns-in-Parted-clause-audited c =
    let refusal = subst (λ f. IsVerdict c.args.scenario.now c.journal.result.now (verdict_of f)) c.in-Parted.is c.in_ok-run.ensures.verdict in
    journal_refused c.args.scenario.now c.args.parts.now c.journal.result.now c.journal.ensures c.in-Parted.line 3 refusal.0 refusal.1 c.marked-marked.result c.marked-marked.ensures.number

pub returns-in-Parted-clause-legal : goal.returns-in-Parted-clause-legal
returns-in-Parted-clause-legal c =
    let refusal = subst (λ f. IsVerdict c.args.scenario.now c.journal.result.now (verdict_of f)) c.in-Parted.is c.in_ok-run.ensures.verdict in
    goes_on_there c.args.scenario.now c.args.parts.now c.journal.result.now c.journal.ensures c.in-Parted.line 3 refusal.0 c.in-Parted.legal c.marked-marked.result c.marked-marked.ensures.number
    (subst (λ f. TellsLegalLine c.args.scenario.now c.journal.result.now f) c.in-Parted.is c.in_ok-run.ensures.legal)

pub returns-in-Parted-clause-line : goal.returns-in-Parted-clause-line
returns-in-Parted-clause-line c =
    let refusal = subst (λ f. IsVerdict c.args.scenario.now c.journal.result.now (verdict_of f)) c.in-Parted.is c.in_ok-run.ensures.verdict in
    line_number c.args.scenario.now c.args.parts.now c.journal.result.now c.journal.ensures c.in-Parted.line 3 refusal.0 c.marked-marked.result c.marked-marked.ensures.few
