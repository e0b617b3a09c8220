-- What the top call does in two: a command's output is made of what a source gives, and goes out.
use Rattle.std.specs.Prelude.{◌≡◌, ◌<◌, ℕ, List, [], length, take, Option, Some, Result, Ok, Err, IfOk, IfErr}
use Rattle.std.specs.Io.KnownBytes.{Appends}
use Rattle.srp_io.specs.{Faults.Rose, Whole.TookAtMost, Whole.TookPast}
use Rattle.srpnet.specs.declared.{commands.Answer.Answer, outcome.Cause.Cause, words.Command.Command}
use Rattle.world_core.specs.declared.journal.Tick.{Tick}
use Rattle.srpnet.specs.declared.outcome.Cause.TheVariants.{Done, ReadFault, TooLong, WriteFault, NoMemory}
use Rattle.srpnet.specs.{Commands.most_octets, Outcomes.EndsAs, Outcomes.EndsBy, Outcomes.ended, Outcomes.EndsWriting, Outcomes.IsRefusedInput, Outcomes.IsWriteFault, Outcomes.LacksOutput, TopCall.IsPlainEnding, TopCall.IsAnswer, TopCall.Gave, TopCall.Refuses, TopCall.ReadsNothing, TopCall.PartOf}

-- A command's output was made of what a source gave, or why there is none.
pub record IsMade {I : Type 0} (left : I → Option (List ℕ)) (faults : I → ℕ) (command : Command) (source source' : I)
    (made : Result Answer Cause) : Type 0 where
  pub answer : IfOk made (λ a. IsAnswer command (left source) (left source') a.journal.ticks a.text a.cause)
  pub only : IfErr made LacksOutput
  pub given : Gave (left source) (left source')
  pub read_fault : made ≡ Err ReadFault → Rose (faults source) (faults source')
  pub in_time : made ≡ Err ReadFault → TookAtMost (most_octets command) (left source) (left source')
  pub counts : (made ≡ Err ReadFault → ⊥) → faults source' ≡ faults source
  pub too_long : made ≡ Err TooLong → TookPast (most_octets command) (left source) (left source')
  pub refused : IfErr made (λ c. IsRefusedInput c → Refuses command (left source) (left source') c)
  pub ends : (octets : List ℕ) → left source ≡ Some octets → (Rose (faults source) (faults source') → ⊥)
      → EndsBy (IsPlainEnding command octets) made
  pub unread : ReadsNothing command → source' ≡ source
  pub unread_ends : ReadsNothing command → EndsAs Done made

-- A text was let out to a sink, and writing ended for this cause.
pub record IsPrinted {O : Type 0} (held : O → Option (List ℕ)) (faults : O → ℕ) (out out' : O) (text : List ℕ) (cause : Cause)
    : Type 0 where
  pub done : cause ≡ Done → Appends (held out) (held out') text
  pub part : (written : ℕ) → cause ≡ WriteFault written → Appends (held out) (held out') (take written text)
  pub short : (written : ℕ) → cause ≡ WriteFault written → written < length text
  pub fault : (written : ℕ) → cause ≡ WriteFault written → Rose (faults out) (faults out')
  pub counts : (IsWriteFault cause → ⊥) → faults out' ≡ faults out
  pub memory : cause ≡ NoMemory → PartOf (held out) (held out') text
  pub only : EndsWriting cause

-- An answer was let out, with the ticks of its run: its text, and where that is out the call ends as
-- the answer says.
pub record IsSaid {O : Type 0} (held : O → Option (List ℕ)) (faults : O → ℕ) (out out' : O) (made : Answer) (cause : Cause) (ticks : List Tick)
    : Type 0 where
  pub written : Cause
  pub printed : IsPrinted held faults out out' made.text written
  pub cause_is : cause ≡ ended written made.cause
  pub ticks_are : ticks ≡ made.journal.ticks

-- What was made was let out; or nothing was, for the cause for which there is none.
abbrev pub IsLetOut : {O : Type 0} → (O → Option (List ℕ)) → (O → ℕ) → O → O → Result Answer Cause → Cause → List Tick → Type 0
IsLetOut held faults out out' (Ok made) cause ticks = IsSaid held faults out out' made cause ticks
IsLetOut held faults out out' (Err why) cause ticks = (cause ≡ why) × (ticks ≡ []) × (out' ≡ out)
