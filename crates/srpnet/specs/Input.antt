-- What the octets of an input are: a TOML document, and then a file or the rule that it breaks.
use Rattle.std.specs.Prelude.{ℕ, List, Option, Some, None, Result, Ok, Err}
use Rattle.srp_base.specs.Results.{◌>>=◌, Gives}
use Rattle.toml.specs.Data.{Members}
use Rattle.toml_rules.specs.declared.{rules.RuleErr.RuleErr, rules.RuleErr.TheVariants.Rule, rules.RuleErr.TheVariants.NoMemory as no_memory}
use Rattle.srpnet.specs.Document.{document, or_not_toml}
use Rattle.srpnet.specs.declared.outcome.Cause.{Cause}
use Rattle.srpnet.specs.declared.outcome.Cause.TheVariants.{Done, BadScenario, NoMemory}

-- what the rules say, as a cause
abbrev pub by_rules : {A : Type 0} → Result A RuleErr → Result A Cause
by_rules (Ok x) = Ok x
by_rules (Err (Rule rule entry)) = Err (BadScenario rule entry)
by_rules (Err no_memory) = Err NoMemory

-- what a file's rules make of some octets
abbrev pub input_of : {A : Type 0} → (Members → Result A RuleErr) → List ℕ → Result A Cause
input_of rules octets = do
  ms ← or_not_toml (document octets)
  by_rules (rules ms)

-- how a reading ends
abbrev pub ending : {A : Type 0} → Result A Cause → Cause
ending (Ok x) = Done
ending (Err cause) = cause

-- the cause that a failure tells, which want of memory doesn't
abbrev pub told_cause : Cause → Option Cause
told_cause NoMemory = None
told_cause cause = Some cause

-- what is answered for an input, seen by view, is what is said of its octets, unless memory ran out
abbrev pub GivesInput : {X A : Type 0} → (X → A) → Result X Cause → Result A Cause → Type 0
GivesInput view result said = Gives view told_cause result said
