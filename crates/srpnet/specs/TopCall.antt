-- What the top call does: how a source is read and a text written, and how a command ends.
use Rattle.std.specs.Prelude.{◌≡◌, ℕ, ◌<◌, ◌≤◌, ◌+◌, nat_le, Bool, true, false, not, ◌&&◌, List, [], length, take, Option}
use Rattle.std.specs.Io.KnownBytes.{Appends, Consumes, IsAtEnd}
use Rattle.srpnet.specs.declared.{words.Command.Command, outcome.Cause.Cause, outcome.Cause.TheVariants.Done, outcome.Cause.TheVariants.TooLong}
use Rattle.srpnet.specs.{Outcomes.EndsWriting, Commands.reads_input, Commands.most_octets, Commands.Output, Commands.IsVerdict, Commands.RunsNothing, Commands.IsEndingOf}
use Rattle.world_core.specs.declared.journal.Tick.{Tick}

-- ---- Reading

-- a source gave octets, and nothing else became of those that it had
pub record Gave (before after : Option (List ℕ)) : Type 0 where
  pub octets : List ℕ
  pub consumed : Consumes before after octets

-- a source gave these octets, which are all that it had, and no more than a command reads
pub record ReadWhole (command : Command) (before after : Option (List ℕ)) (octets : List ℕ) : Type 0 where
  pub consumed : Consumes before after octets
  pub at_end : IsAtEnd after
  pub within : length octets ≤ most_octets command

-- the octets that a source gave aren't what a command reads, for this cause
pub record Refuses (command : Command) (before after : Option (List ℕ)) (cause : Cause)
    : Type 0 where
  pub octets : List ℕ
  pub whole : ReadWhole command before after octets
  pub refused : IsEndingOf command octets cause

-- ---- Writing

-- a command's output: of the octets that the source gave, which are all that it had, for a command
-- that reads an input; with the ticks of its run, of which there are none for a command that runs
-- nothing
pub record IsOutput (command : Command) (before after : Option (List ℕ)) (ticks : List Tick) (text : List ℕ)
    : Type 0 where
  pub octets : List ℕ
  pub whole : reads_input command ≡ true → ReadWhole command before after octets
  pub output : Output command octets ticks text
  pub no_journal : RunsNothing command → ticks ≡ []

-- a command's output, and how the command ends where it is out
pub record IsAnswer (command : Command) (before after : Option (List ℕ)) (ticks : List Tick) (text : List ℕ) (cause : Cause)
    : Type 0 where
  pub output : IsOutput command before after ticks text
  pub verdict : IsVerdict command output.octets ticks cause

-- the whole output of a command went out, and it ends so behind it
pub record Wrote (command : Command) (before after held now : Option (List ℕ)) (ticks : List Tick) (cause : Cause) : Type 0 where
  pub text : List ℕ
  pub answer : IsAnswer command before after ticks text cause
  pub appended : Appends held now text

-- exactly the first octets of a command's output went out, fewer than all
pub record WrotePart (command : Command) (before after held now : Option (List ℕ)) (ticks : List Tick) (written : ℕ)
    : Type 0 where
  pub text : List ℕ
  pub output : IsOutput command before after ticks text
  pub appended : Appends held now (take written text)
  pub short : written < length text

-- the first octets of a text went out, fewer than all
pub record PartOf (held now : Option (List ℕ)) (text : List ℕ) : Type 0 where
  pub written : ℕ
  pub appended : Appends held now (take written text)
  pub short : written < length text

-- writing stopped in a piece of a text, before which so many octets of the text had gone out: some
-- octets of the piece went out, fewer than all, and with them so many of the text
pub record StoppedIn (held now : Option (List ℕ)) (piece : List ℕ) (before written : ℕ) : Type 0 where
  pub count : ℕ
  pub sum : written ≡ before + count
  pub short : count < length piece
  pub appended : Appends held now (take count piece)

-- the causes for which writing stops
abbrev pub StopsWriting : Cause → Type 0
StopsWriting cause = EndsWriting cause × (cause ≡ Done → ⊥)

-- memory ran out while a command's output went out
pub record WroteUntilNoMemory (command : Command) (before after held now : Option (List ℕ)) (ticks : List Tick)
    : Type 0 where
  pub text : List ℕ
  pub output : IsOutput command before after ticks text
  pub part : PartOf held now text

-- nothing went out, and there is no journal
pub record WroteNothing {O : Type 0} (out out' : O) (ticks : List Tick) : Type 0 where
  pub unwritten : out' ≡ out
  pub no_journal : ticks ≡ []

-- a sink gained a front of a text
pub record GainsFront (held now : Option (List ℕ)) (text : List ℕ) : Type 0 where
  pub count : ℕ
  pub appended : Appends held now (take count text)

-- ---- Endings

-- the commands that read no input
abbrev pub ReadsNothing : Command → Type 0
ReadsNothing command = reads_input command ≡ false

-- whether an input of these octets is too long for a command
abbrev pub is_too_long : Command → List ℕ → Bool
is_too_long command octets = reads_input command && not (nat_le (length octets) (most_octets command))

-- a command ends so where its input is too long, or isn't
abbrev pub IsEndingWhere : Bool → Command → List ℕ → Cause → Type 0
IsEndingWhere true command octets cause = cause ≡ TooLong
IsEndingWhere false command octets cause = IsEndingOf command octets cause

-- a command ends so where a source tells these octets, nothing fails and memory lasts
abbrev pub IsPlainEnding : Command → List ℕ → Cause → Type 0
IsPlainEnding command octets cause = IsEndingWhere (is_too_long command octets) command octets cause
