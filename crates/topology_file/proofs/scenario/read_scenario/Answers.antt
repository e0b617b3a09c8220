use Rattle.std.proofs.Common.{◌≡◌, ◌∙◌, Result, Ok, ap, sym, subst, ℕ, Option, Bool}
use Rattle.toml.specs.View.{table_view}
use Rattle.toml_rules.specs.declared.rules.RuleErr.{RuleErr}
use Rattle.toml_rules.specs.{Rules.Reads, Rules.needs, Rules.holds, Fields.has_only}
use Rattle.topology_file.specs.Plan.{Plan}
use Rattle.topology_file.specs.{file_keys, ticks_at}
use Rattle.topology_file.proofs.Parts.{scenario-entries}
use Rattle.topology_file.proofs.scenario.read_scenario.Goals as goal

pub returns : goal.returns
returns c =
    let ms = table_view c.args.table.now in
    let F : Result Plan RuleErr → Type 0 = λ r. Reads (λ s. s) c.read_entries.result r in
    let read : Option ℕ → Result ℕ RuleErr = λ o. needs 1 o in
    let ticks : needs 1 (ticks_at ms) ≡ Ok c.in_ok-ticks.ticks = ap read (sym c.read_ticks.ensures) ∙ sym c.needs.ensures ∙ c.in_ok-ticks.was in
    let known : Bool → Result (Unit {0}) RuleErr = λ b. holds 2 b in
    let keys : holds 2 (has_only file_keys ms) ≡ Ok tt = ap known (sym c.has_only.ensures) ∙ sym c.holds.ensures ∙ c.in_ok-holds.was in
    subst F (scenario-entries c.in_ok-ticks.ticks ms ticks keys) c.read_entries.ensures
