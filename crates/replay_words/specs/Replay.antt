-- A file to be replayed to what is printed of it.
use Rattle.std.specs.Prelude.{ℕ, List, [], ◌∷◌, ◌++◌, Option, Some, None, Result, Ok, Err}
use Rattle.srp_base.specs.{Results.◌>>=◌, Text.whole_of}
use Rattle.capture_file.specs.{Grammar.Outcome, Packets.Packet, Reading.reading}
use Rattle.pdu_words.specs.Captured.{broken_line, cause_line}
use Rattle.stream_importance.specs.declared.slope.Caps.{Caps}
use Rattle.toml_rules.specs.declared.rules.RuleErr.{RuleErr}
use Rattle.toml_rules.specs.declared.rules.RuleErr.TheVariants as rules
use Rattle.replay_words.specs.declared.{ends.Ends.Ends, head.Head.Head, error.ReplayErr.ReplayErr, error.ReplayErr.TheVariants.NoLine, error.ReplayErr.TheVariants.Rule, error.ReplayErr.TheVariants.NoMemory}
use Rattle.replay_words.specs.{Cut.parts_of, Document.document, Document.or_not_toml, Head.head_of, Ends.ends_of, Seen.LinkSeen, Seen.new_seen, Seen.after_packets, Seen.packets_text, Seen.seen_arriving, Seen.arrived_text, Seen.counts_text}

-- ---- a capture

-- what is printed of some frames: of each, and of what is on its way behind the last; no timer fires
-- any more
unfoldable pub run_text : Caps → Ends → LinkSeen → List Packet → List ℕ
run_text caps ends s ps = packets_text caps ends s ps ++ arrived_text caps (after_packets ends s ps)

-- what was seen after them
unfoldable pub after_run : Ends → LinkSeen → List Packet → LinkSeen
after_run ends s ps = seen_arriving (after_packets ends s ps)

-- what is printed of some frames, of the place where the file breaks off, and at the end
abbrev pub frames_text : Caps → Ends → LinkSeen → List Packet × Option ℕ → List ℕ
frames_text caps ends s x = whole_of (run_text caps ends s x.0 ∷ broken_line x.1 ∷ counts_text (after_run ends s x.0).counts ∷ [])

-- what is printed of a capture, or why it is none
unfoldable pub capture_text : Head → Outcome → List ℕ
capture_text head (Ok x) = frames_text head.caps (ends_of head.ends x.0) (new_seen head.leave_time) x
capture_text head (Err cause) = cause_line cause

-- ---- a file

-- the parts, or the cause without them
abbrev pub or_no_line : Option (List ℕ × List ℕ) → Result (List ℕ × List ℕ) ReplayErr
or_no_line (Some parts) = Ok parts
or_no_line None = Err NoLine

-- a failure of the rules
abbrev pub cause_of_rules : RuleErr → ReplayErr
cause_of_rules (rules.Rule rule entry) = Rule rule entry
cause_of_rules rules.NoMemory = NoMemory

-- what the rules say
abbrev pub by_rules : Result Head RuleErr → Result Head ReplayErr
by_rules (Ok head) = Ok head
by_rules (Err e) = Err (cause_of_rules e)

-- the head of some octets, or the cause without one
abbrev pub head_in : List ℕ → Result Head ReplayErr
head_in octets = do
  ms ← or_not_toml (document octets)
  by_rules (head_of ms)

-- what is printed of the octets of a file, or why nothing is
abbrev pub replayed : List ℕ → Result (List ℕ) ReplayErr
replayed octets = do
  parts ← or_no_line (parts_of octets)
  head ← head_in parts.0
  Ok (capture_text head (reading parts.1))

-- ---- what the calls answer

-- the cause that a failure tells, which want of memory doesn't
abbrev pub cause_told : ReplayErr → Option ReplayErr
cause_told NoMemory = None
cause_told cause = Some cause
