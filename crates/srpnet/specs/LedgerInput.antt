-- The ledger file of some octets, or the cause of their refusal.
use Rattle.std.specs.Prelude.{ℕ, List, Result}
use Rattle.srpnet.specs.declared.{outcome.Cause.Cause, ledger.file.LedgerFile.LedgerFile}
use Rattle.srpnet.specs.{LedgerFile.ledger_file, Input.input_of}

-- the ledger file of these octets by the rules 31 to 35
abbrev pub ledger_input : List ℕ → Result LedgerFile Cause
ledger_input octets = input_of ledger_file octets
