-- The table of the program's words.
use Rattle.std.specs.Prelude.{◌≡◌, ℕ, nat_eq, ◌&&◌, Bool, true, false, List, [], ◌∷◌, codes, if◌then◌else◌, Option, Some, None, option_map}
use Rattle.std.specs.Cmp.Lexicographic.{pointwise}
use Rattle.mrpdu_codec.specs.declared.form.AppForm.{AppForm}
use Rattle.mrpdu_codec.specs.declared.form.AppForm.TheVariants.{Mvrp, Msrp, Mmrp}
use Rattle.report_words.specs.Number.{number_of_word}
use Rattle.srpnet.specs.declared.words.Command.{Command}
use Rattle.srpnet.specs.declared.words.Command.TheVariants.{Ledger, Check, Explain, ExplainLedger, ExplainAudit, Run, RunJournal, RunBounds, Ports, PortsJournal, Margins, Audit, AuditLong, Groups, Decode, Capture, Generate, GeneratePlan, Help, Version, Delays, Wishes, StrictWishes, Expand, RunCapture, Replay, ExplainGroups, ExplainPlan, Bare}

-- the rows of one word
abbrev pub command_of_word : List ℕ → Option Command
command_of_word word =
    if pointwise nat_eq word (codes "ledger") then Some Ledger
    else if pointwise nat_eq word (codes "check") then Some Check
    else if pointwise nat_eq word (codes "explain") then Some Explain
    else if pointwise nat_eq word (codes "run") then Some Run
    else if pointwise nat_eq word (codes "ports") then Some Ports
    else if pointwise nat_eq word (codes "margins") then Some Margins
    else if pointwise nat_eq word (codes "delays") then Some Delays
    else if pointwise nat_eq word (codes "audit") then Some Audit
    else if pointwise nat_eq word (codes "groups") then Some Groups
    else if pointwise nat_eq word (codes "capture") then Some Capture
    else if pointwise nat_eq word (codes "replay") then Some Replay
    else if pointwise nat_eq word (codes "plan") then Some Wishes
    else if pointwise nat_eq word (codes "expand") then Some Expand
    else if pointwise nat_eq word (codes "--help") then Some Help
    else if pointwise nat_eq word (codes "-h") then Some Help
    else if pointwise nat_eq word (codes "help") then Some Help
    else if pointwise nat_eq word (codes "--version") then Some Version
    else None

-- an application of MRP, by its word
abbrev pub form_of_word : List ℕ → Option AppForm
form_of_word word =
    if pointwise nat_eq word (codes "mvrp") then Some Mvrp
    else if pointwise nat_eq word (codes "msrp") then Some Msrp
    else if pointwise nat_eq word (codes "mmrp") then Some Mmrp
    else None

-- the reading of PDUs of an application, by its word
abbrev pub decoding_of_word : List ℕ → Option Command
decoding_of_word word = option_map Decode (form_of_word word)

-- the making of a scenario, by its number
abbrev pub generation_of_word : List ℕ → Option Command
generation_of_word word = option_map Generate (number_of_word word)

-- the printing of one as a file, by its number
abbrev pub generated_plan_of_word : List ℕ → Option Command
generated_plan_of_word word = option_map GeneratePlan (number_of_word word)

-- the capture of a link, by its number
abbrev pub capture_of_word : List ℕ → Option Command
capture_of_word word = option_map RunCapture (number_of_word word)

-- the rows of two words
abbrev pub command_of_pair : List ℕ → List ℕ → Option Command
command_of_pair first second =
    if pointwise nat_eq first (codes "run") && pointwise nat_eq second (codes "journal")
    then Some RunJournal
    else if pointwise nat_eq first (codes "run") && pointwise nat_eq second (codes "bounds")
    then Some RunBounds
    else if pointwise nat_eq first (codes "ports") && pointwise nat_eq second (codes "journal")
    then Some PortsJournal
    else if pointwise nat_eq first (codes "explain") && pointwise nat_eq second (codes "ledger")
    then Some ExplainLedger
    else if pointwise nat_eq first (codes "explain") && pointwise nat_eq second (codes "audit")
    then Some ExplainAudit
    else if pointwise nat_eq first (codes "explain") && pointwise nat_eq second (codes "groups")
    then Some ExplainGroups
    else if pointwise nat_eq first (codes "explain") && pointwise nat_eq second (codes "plan")
    then Some ExplainPlan
    else if pointwise nat_eq first (codes "audit") && pointwise nat_eq second (codes "long")
    then Some AuditLong
    else if pointwise nat_eq first (codes "plan") && pointwise nat_eq second (codes "strict")
    then Some StrictWishes
    else if pointwise nat_eq first (codes "decode") then decoding_of_word second
    else if pointwise nat_eq first (codes "gen") then generation_of_word second
    else None

-- the rows of three words
abbrev pub command_of_triple : List ℕ → List ℕ → List ℕ → Option Command
command_of_triple first second third =
    if pointwise nat_eq first (codes "gen") && pointwise nat_eq third (codes "plan")
    then generated_plan_of_word second
    else if pointwise nat_eq first (codes "run") && pointwise nat_eq second (codes "capture")
    then capture_of_word third
    else None

-- the command of some words, where they match a row; that of no word at all is one of its own
abbrev pub command_of : List (List ℕ) → Option Command
command_of [] = Some Bare
command_of (word ∷ []) = command_of_word word
command_of (first ∷ second ∷ []) = command_of_pair first second
command_of (first ∷ second ∷ third ∷ []) = command_of_triple first second third
command_of _ = None

-- whether a command starts threads, a thread for each port that has something to do
abbrev pub starts_threads : Command → Bool
starts_threads Ledger = false
starts_threads Check = false
starts_threads Explain = false
starts_threads ExplainLedger = false
starts_threads ExplainAudit = false
starts_threads ExplainGroups = false
starts_threads ExplainPlan = false
starts_threads Run = false
starts_threads RunJournal = false
starts_threads RunBounds = false
starts_threads (RunCapture link) = false
starts_threads Ports = true
starts_threads PortsJournal = true
starts_threads Margins = false
starts_threads Delays = false
starts_threads Wishes = false
starts_threads StrictWishes = false
starts_threads Expand = false
starts_threads Audit = false
starts_threads AuditLong = false
starts_threads Groups = false
starts_threads (Decode form) = false
starts_threads Capture = false
starts_threads Replay = false
starts_threads (Generate number) = false
starts_threads (GeneratePlan number) = false
starts_threads Help = false
starts_threads Bare = false
starts_threads Version = false

-- a command that starts no thread
abbrev pub IsPlain : Command → Type 0
IsPlain command = starts_threads command ≡ false

-- what is left of a command for whoever has one thread alone
abbrev pub plain_of : Option Command → Option Command
plain_of None = None
plain_of (Some command) = if starts_threads command then None else Some command

-- the command of some words on one thread: the words of a command that starts threads match no row
abbrev pub plain_command_of : List (List ℕ) → Option Command
plain_command_of words = plain_of (command_of words)
