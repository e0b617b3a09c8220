-- Why a lock stays open.
use Rattle.std.specs.Prelude.{◌≡◌, List}
use Rattle.turn_lock.specs.declared.{close.CloseErr.CloseErr, close.CloseErr.TheVariants.MissingPass, close.CloseErr.TheVariants.NoMemory}
use Rattle.turn_lock.specs.Passes.{Lock, PassOf, IsLowestMissing}

module _ {S Ask Answer : Type 0} where
  -- what is handed back is what was given; a pass is said to be missing only where it is, and it is
  -- the lowest such one
  abbrev pub IsRefused : Lock S → List (PassOf S Ask Answer) → CloseErr S Ask Answer → Type 0
  IsRefused lock passes (MissingPass number lock' passes') = IsLowestMissing lock.passes passes number × (lock' ≡ lock) × (passes' ≡ passes)
  IsRefused lock passes (NoMemory lock' passes') = (lock' ≡ lock) × (passes' ≡ passes)
