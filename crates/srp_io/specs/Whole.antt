-- What reading and writing whole say of an error.
use Rattle.std.specs.Prelude.{◌≡◌, ℕ, ◌+◌, ◌≤◌, List, length, Option}
use Rattle.std.specs.Io.KnownBytes.{Consumes}
use Rattle.srp_io.specs.declared.{whole.WriteErr.WriteErr, whole.WriteErr.TheVariants.Fault, whole.WriteErr.TheVariants.NoMemory}

-- a source gave octets, at most so many
pub record TookAtMost (limit : ℕ) (before after : Option (List ℕ)) : Type 0 where
  pub octets : List ℕ
  pub consumed : Consumes before after octets
  pub within : length octets ≤ limit

-- a source gave octets, one past so many
pub record TookPast (limit : ℕ) (before after : Option (List ℕ)) : Type 0 where
  pub octets : List ℕ
  pub consumed : Consumes before after octets
  pub past : length octets ≡ limit + 1

-- how many octets went out before the error
abbrev pub written_of : WriteErr → ℕ
written_of (Fault written) = written
written_of (NoMemory written) = written

-- the error is a fault of the sink
abbrev pub IsFault : WriteErr → Type 0
IsFault (Fault written) = Unit {0}
IsFault (NoMemory written) = ⊥
