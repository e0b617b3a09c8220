-- The wants of a file, applied in file order at their ticks.
use Rattle.std.specs.Prelude.{◌≡◌, List, [], ◌∷◌}
use Rattle.stream_importance.specs.Bandwidth.{caps_of}
use Rattle.port_ledger.specs.{Book.Book, Book.with_want, Decision.Decides}
use Rattle.srpnet.specs.declared.{ledger.file.LedgerWant.LedgerWant, ledger.file.LedgerFile.LedgerFile}

-- a port that no stream wants yet
abbrev pub fresh : LedgerFile → Book
fresh file = record { caps = caps_of file.rate file.delta_a file.delta_b; moment = 0; entries = [] }

-- what one want makes of a port: with the want, at its tick, the entries are decided anew
pub record Applies (old : Book) (w : LedgerWant) (new : Book) : Type 0 where
  pub caps : new.caps ≡ old.caps
  pub moment : new.moment ≡ w.tick.0
  pub decided : Decides w.tick.0 old.caps (with_want old.entries w.want) new.entries

-- the wants in order lead from one state of the port to another
abbrev pub Leads : Book → List LedgerWant → Book → Type 0
Leads start [] end = end ≡ start
Leads start (w ∷ ws) end = (next : Book) × Applies start w next × Leads next ws end
