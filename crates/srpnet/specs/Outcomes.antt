-- What the program ends with: the place of each cause in the call, its status, and its text for the
-- error stream. A new cause has a line in each of these three, and none elsewhere.
use Rattle.std.specs.Prelude.{◌≡◌, ◌⊎◌, ℕ, List, [], ◌∷◌, codes, Result, Ok, Err}
use Rattle.std.specs.Fmt.{decimal}
use Rattle.srp_base.specs.Text.{whole_of}
use Rattle.srp_io.specs.declared.whole.ReadErr.{ReadErr}
use Rattle.srp_io.specs.declared.whole.ReadErr.TheVariants.{Fault as fault, TooLong as too_long, NoMemory as no_memory_to_read}
use Rattle.toml_rules.specs.declared.{rules.RuleErr.RuleErr, rules.RuleErr.TheVariants.Rule, rules.RuleErr.TheVariants.NoMemory as no_memory}
use Rattle.srpnet.specs.declared.outcome.Cause.{Cause}
use Rattle.srpnet.specs.declared.outcome.Cause.TheVariants.{Done, BadWords, ReadFault, TooLong, NotToml, BadScenario, WriteFault, AuditNo, NoMemory, NotGranted, NoLink, NoWords}

-- where in the call a cause comes up
pub data Place : Type 0 where
  -- at its end: all was done
  finish : Place
  -- at the words, before anything is read
  words : Place
  -- while the source is read
  reading : Place
  -- when the octets are read to their end: they are judged, and refused
  judging : Place
  -- while the output goes out
  writing : Place
  -- behind the output: it went out whole, and says no
  verdict : Place
  -- anywhere after the words: memory runs out
  anywhere : Place

-- the place of each cause
abbrev pub place_of_cause : Cause → Place
place_of_cause Done = finish
place_of_cause BadWords = words
place_of_cause ReadFault = reading
place_of_cause TooLong = reading
place_of_cause NotToml = judging
place_of_cause (BadScenario rule entry) = judging
place_of_cause (WriteFault written) = writing
place_of_cause (AuditNo line why) = judging
place_of_cause (NotGranted wishes) = verdict
place_of_cause NoLink = judging
place_of_cause NoWords = verdict
place_of_cause NoMemory = anywhere

-- the exit status
abbrev pub status_of : Cause → ℕ
status_of Done = 0
status_of BadWords = 2
status_of NoWords = 2
status_of ReadFault = 3
status_of TooLong = 4
status_of NotToml = 5
status_of (BadScenario rule entry) = 6
status_of (WriteFault written) = 7
status_of (AuditNo line why) = 8
status_of NoMemory = 9
status_of (NotGranted wishes) = 10
status_of NoLink = 11

-- the text of a cause that is the same at each time
abbrev pub fixed_text : Cause → List ℕ
fixed_text Done = []
fixed_text BadWords = codes "srpnet: bad words\n"
fixed_text NoWords = codes "srpnet: bad words: there is none, and the page of help has them\n"
fixed_text ReadFault = codes "srpnet: read fault\n"
fixed_text TooLong = codes "srpnet: input too long\n"
fixed_text NotToml = codes "srpnet: not TOML\n"
fixed_text (BadScenario rule entry) = []
fixed_text (WriteFault written) = codes "srpnet: write fault\n"
fixed_text (AuditNo line why) = []
fixed_text (NotGranted wishes) = []
fixed_text NoLink = codes "srpnet: no such link\n"
fixed_text NoMemory = codes "srpnet: no memory\n"

-- the text of a cause; a broken rule is named by its number and its first failing entry, what an
-- audit refuses by its line and by why, and wishes that aren't granted by how many they are
abbrev pub err_text : Cause → List ℕ
err_text (BadScenario rule entry) = whole_of (
    codes "srpnet: rule " ∷ decimal rule ∷ codes " entry " ∷ decimal entry ∷ codes "\n" ∷ [])
err_text (AuditNo line why) = whole_of (
    codes "srpnet: audit line " ∷ decimal line ∷ codes " why " ∷ decimal why ∷ codes "\n" ∷ [])
err_text (NotGranted wishes) = whole_of (codes "srpnet: " ∷ decimal wishes ∷ codes " wishes aren't granted\n" ∷ [])
err_text cause = fixed_text cause

-- ---- Facts of causes, by their places

-- the octets of the input are refused
abbrev pub IsRefusedInput : Cause → Type 0
IsRefusedInput cause = place_of_cause cause ≡ judging

-- a fault of the out sink
abbrev pub IsWriteFault : Cause → Type 0
IsWriteFault cause = place_of_cause cause ≡ writing

-- the places before anything is written; memory may run out on either side
abbrev pub IsBeforeWriting : Place → Type 0
IsBeforeWriting finish = ⊥
IsBeforeWriting words = Unit {0}
IsBeforeWriting reading = Unit {0}
IsBeforeWriting judging = Unit {0}
IsBeforeWriting writing = ⊥
IsBeforeWriting verdict = ⊥
IsBeforeWriting anywhere = ⊥

-- nothing is written
abbrev pub WritesNothing : Cause → Type 0
WritesNothing cause = IsBeforeWriting (place_of_cause cause)

-- the places at which making an output ends without one
abbrev pub IsBeforeOutput : Place → Type 0
IsBeforeOutput finish = ⊥
IsBeforeOutput words = ⊥
IsBeforeOutput reading = Unit {0}
IsBeforeOutput judging = Unit {0}
IsBeforeOutput writing = ⊥
IsBeforeOutput verdict = ⊥
IsBeforeOutput anywhere = Unit {0}

-- why a command has no output
abbrev pub LacksOutput : Cause → Type 0
LacksOutput cause = IsBeforeOutput (place_of_cause cause)

-- the places at which writing ends
abbrev pub IsOfWriting : Place → Type 0
IsOfWriting finish = Unit {0}
IsOfWriting words = ⊥
IsOfWriting reading = ⊥
IsOfWriting judging = ⊥
IsOfWriting writing = Unit {0}
IsOfWriting verdict = ⊥
IsOfWriting anywhere = Unit {0}

-- the causes with which writing ends
abbrev pub EndsWriting : Cause → Type 0
EndsWriting cause = IsOfWriting (place_of_cause cause)

-- the places at which the whole output has gone out
abbrev pub IsBehindOutput : Place → Type 0
IsBehindOutput finish = Unit {0}
IsBehindOutput words = ⊥
IsBehindOutput reading = ⊥
IsBehindOutput judging = ⊥
IsBehindOutput writing = ⊥
IsBehindOutput verdict = Unit {0}
IsBehindOutput anywhere = ⊥

-- the whole output went out
abbrev pub WentOut : Cause → Type 0
WentOut cause = IsBehindOutput (place_of_cause cause)

-- how a call ends that has written for the one cause, where its output says the other: as the output
-- says, where it is out
abbrev pub ended : Cause → Cause → Cause
ended Done found = found
ended written found = written

-- a cause, but that an output that says no is an output
abbrev pub but_verdict : Cause → Cause
but_verdict (NotGranted wishes) = Done
but_verdict NoWords = Done
but_verdict cause = cause

-- an answer ends by a cause that is right, or memory ran out
abbrev pub EndsBy : {X : Type 0} → (Cause → Type 0) → Result X Cause → Type 0
EndsBy IsRight (Ok x) = IsRight Done
EndsBy IsRight (Err cause) = IsRight cause ⊎ (cause ≡ NoMemory)

-- an answer ends so, or memory ran out
abbrev pub EndsAs : {X : Type 0} → Cause → Result X Cause → Type 0
EndsAs cause (Ok x) = cause ≡ Done
EndsAs cause (Err other) = (other ≡ cause) ⊎ (other ≡ NoMemory)

-- ---- Causes of errors

-- a broken rule
abbrev pub cause_of_rules : RuleErr → Cause
cause_of_rules (Rule rule entry) = BadScenario rule entry
cause_of_rules no_memory = NoMemory

-- a source that wasn't read to its end
abbrev pub cause_of_reading : ReadErr → Cause
cause_of_reading fault = ReadFault
cause_of_reading too_long = TooLong
cause_of_reading no_memory_to_read = NoMemory
