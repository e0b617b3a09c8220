use Rattle.std.specs.Prelude.{Ok, None}
use Rattle.capture_file.specs.{Outcome, file_text}
use Rattle.capture_file.proofs.{Written.spells, Spelled.is_read}
use Rattle.capture_file.proofs.laws.what_is_written_is_read.Goals as goal

pub returns-clause-spelled : goal.returns-clause-spelled
returns-clause-spelled c = λ order link packets fit. spells order link packets fit

pub returns-clause-read : goal.returns-clause-read
returns-clause-read c = λ order link packets fit. let outcome : Outcome = Ok (packets, None) in is_read (file_text order link packets) outcome (spells order link packets fit)
