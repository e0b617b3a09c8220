-- The top clause: everything that the top call promises of its ending.
use Rattle.std.specs.Prelude.{◌≡◌, ℕ, ◌⊎◌, List, [], Option, Some, None}
use Rattle.srp_io.specs.{Faults.Rose, Whole.TookAtMost, Whole.TookPast}
use Rattle.srpnet.specs.declared.{words.Command.Command, outcome.Cause.Cause}
use Rattle.srpnet.specs.declared.outcome.Cause.TheVariants.{Done, BadWords, ReadFault, TooLong, WriteFault, NoMemory}
use Rattle.srpnet.specs.{Commands.most_octets, Outcomes.IsRefusedInput, Outcomes.IsWriteFault, Outcomes.WritesNothing, Outcomes.WentOut, Outcomes.but_verdict, TopCall.Wrote, TopCall.WrotePart, TopCall.WroteUntilNoMemory, TopCall.WroteNothing, TopCall.Gave, TopCall.Refuses, TopCall.ReadsNothing, TopCall.IsPlainEnding}
use Rattle.world_core.specs.declared.journal.Tick.{Tick}

-- A command is carried out on a source of the type I and an out sink of the type O, before the call
-- and after it. What they tell of their octets and how many faults they count is `left`, `held` and
-- the two `faults`. The ticks are those of the journal that the call hands back.
pub record CarriedOut {I O : Type 0} (left : I → Option (List ℕ)) (in_faults : I → ℕ)
    (held : O → Option (List ℕ)) (out_faults : O → ℕ)
    (command : Command) (source source' : I) (out out' : O) (cause : Cause) (ticks : List Tick) : Type 0 where
  -- done, or the output says no: the input was read to its end, and the output that belongs to it
  -- went out whole
  pub done : WentOut cause → Wrote command (left source) (left source') (held out) (held out') ticks cause
  -- a write fault: exactly the first octets of that output went out, as many as the cause says
  pub part : (written : ℕ) → cause ≡ WriteFault written
      → WrotePart command (left source) (left source') (held out) (held out') ticks written
  -- want of memory: nothing was written, or a front of that output
  pub memory : cause ≡ NoMemory
      → WroteNothing out out' ticks ⊎ WroteUntilNoMemory command (left source) (left source') (held out) (held out') ticks
  -- with the causes of bad input nothing is written, and there is no journal
  pub nothing_written : WritesNothing cause → out' ≡ out
  pub no_journal : WritesNothing cause → ticks ≡ []
  -- however it ends, also for want of memory, the source has given what was read
  pub given : Gave (left source) (left source')
  -- a fault of reading or writing comes only where the count of that object rose in this call
  pub read_fault : cause ≡ ReadFault → Rose (in_faults source) (in_faults source')
  pub write_fault : (written : ℕ) → cause ≡ WriteFault written → Rose (out_faults out) (out_faults out')
  -- and nothing else makes a count rise
  pub read_counts : (cause ≡ ReadFault → ⊥) → in_faults source' ≡ in_faults source
  pub write_counts : (IsWriteFault cause → ⊥) → out_faults out' ≡ out_faults out
  -- the input is too long exactly where one octet past the command's most was taken with no fault
  -- before: a read fault comes while at most the most was taken
  pub in_time : cause ≡ ReadFault → TookAtMost (most_octets command) (left source) (left source')
  pub too_long : cause ≡ TooLong → TookPast (most_octets command) (left source) (left source')
  -- the input is refused only where its octets, read to the end, are refused for this cause
  pub refused : IsRefusedInput cause → Refuses command (left source) (left source') cause
  -- the words were good
  pub good_words : cause ≡ BadWords → ⊥
  -- where neither the source nor the out sink fails in this call, the ending is the expected one
  -- for the octets that the source tells, or want of memory; whether the output says no is told
  -- where it went out
  pub ends : (octets : List ℕ) → left source ≡ Some octets
      → (Rose (in_faults source) (in_faults source') → ⊥) → (Rose (out_faults out) (out_faults out') → ⊥)
      → IsPlainEnding command octets (but_verdict cause) ⊎ (cause ≡ NoMemory)
  -- a command that reads no input leaves the source as it was, and goes out whatever the source is:
  -- no cause of bad input comes, so that it ends as its output says, by a write fault, or for want of
  -- memory
  pub unread : ReadsNothing command → source' ≡ source
  pub unread_ends : ReadsNothing command → (Rose (out_faults out) (out_faults out') → ⊥)
      → (but_verdict cause ≡ Done) ⊎ (cause ≡ NoMemory)
  pub unread_unrefused : ReadsNothing command → WritesNothing cause → ⊥

-- the words match no row: nothing is read and nothing written
pub record WordsRefused {I O : Type 0} (source source' : I) (out out' : O) (cause : Cause) (ticks : List Tick) : Type 0 where
  pub bad_words : cause ≡ BadWords
  pub no_journal : ticks ≡ []
  pub unread : source' ≡ source
  pub unwritten : out' ≡ out

-- how the call ends for the command that its words were found to be, if any
abbrev pub IsEnding : {I O : Type 0}
    → (I → Option (List ℕ)) → (I → ℕ) → (O → Option (List ℕ)) → (O → ℕ)
    → Option Command → I → I → O → O → Cause → List Tick → Type 0
IsEnding left in_faults held out_faults (Some command) source source' out out' cause ticks =
    CarriedOut left in_faults held out_faults command source source' out out' cause ticks
IsEnding left in_faults held out_faults None source source' out out' cause ticks =
    WordsRefused source source' out out' cause ticks
