use Rattle.std.proofs.Common.{◌≡◌, true}
use Rattle.std.specs.Prelude.{All}
use Rattle.file_places.specs.{is_printed}
use Rattle.file_places.proofs.place.printed_of.Given as goal

abbrev pub invariant-loop-octet : goal.invariant-loop-octet
invariant-loop-octet l = All (λ c. is_printed c ≡ true) l.printed.items
