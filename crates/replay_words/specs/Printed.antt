-- What a replay prints as a list of lines, each by what it tells; and what those of a port's bookings
-- tell, in order.
use Rattle.std.specs.Prelude.{◌≡◌, ℕ, Bool, List, [], ◌∷◌, ◌++◌, flat_map, Option, Some, None}
use Rattle.srp_base.specs.declared.{mrp.MrpEvent.MrpEvent, numbers.Cs.Cs}
use Rattle.capture_file.specs.Packets.{Packet}
use Rattle.link_replay.specs.declared.lines.End.{End}
use Rattle.link_replay.specs.declared.lines.End.TheVariants.{A, B}
use Rattle.link_replay.specs.Lines.{stands_line, leaves_line, gone_line, owes_line, let_go_line, word_line}
use Rattle.mrpdu_codec.specs.declared.form.AppForm.{AppForm}
use Rattle.msrp_codec.specs.declared.pdu.{MsrpKey.MsrpKey, MsrpContent.MsrpContent}
use Rattle.pdu_words.specs.{Captured.broken_line, Events.key_text, Events.content_text}
use Rattle.replay_words.specs.declared.{counts.Counts.Counts, ends.Ends.Ends}
use Rattle.replay_words.specs.{Apps.vlan_text, Apps.group_text, Bookings.passes_line, Changes.Change, Changes.change_line, Changes.arrived_changes, Changes.packets_changes, Lines.other_line, Lines.malformed_line, Lines.cut_line, Lines.double_line, Seen.LinkSeen, Seen.after_packets, Seen.counts_text}

-- ---- lines

-- an attribute of one of the applications
pub data Attribute : Type 0 where
  Vlan : ℕ → Attribute
  Stream : MsrpKey → Attribute
  Group : ℕ → Attribute

-- in words
abbrev pub attribute_text : Attribute → List ℕ
attribute_text (Vlan vid) = vlan_text vid
attribute_text (Stream key) = key_text key
attribute_text (Group mac) = group_text mac

-- the content that it may have
abbrev pub content_or_none : Option MsrpContent → List ℕ
content_or_none (Some content) = content_text content
content_or_none None = []

-- a line, by what it tells; its moment is the first, where it has one
pub data Line : Type 0 where
  -- of the bookings of the port at an end: one is gone or new, or all together pass a cap
  Changed : Cs → End → Change → Line
  Passes : Cs → End → ℕ → ℕ → Line
  -- of what an end declares: it stands at the other end, its leave timer runs, or it stands no more
  Stands : Cs → End → Attribute → Option MsrpContent → Line
  Leaves : Cs → End → Attribute → Cs → Line
  Gone : Cs → End → Attribute → Line
  -- of what an end owes, and of what it hasn't said
  Owes : Cs → End → Attribute → Cs → Line
  LetsGo : Cs → End → Attribute → Line
  -- of what an end says: of a registrar that its observer denies, of one Talker twice, and as a PDU that
  -- breaks or is cut
  Denied : Cs → End → MrpEvent → Attribute → Bool → Line
  Twice : Cs → End → MsrpKey → Line
  Malformed : Cs → End → AppForm → ℕ → Line
  CutOff : Cs → End → AppForm → ℕ → ℕ → Line
  -- of a frame of neither end
  Other : Cs → ℕ → Line
  -- at the end: where the capture breaks off, and the counts
  BreaksOff : ℕ → Line
  Counted : Counts → Line

-- in words
abbrev pub line_text : Line → List ℕ
line_text (Changed at who change) = change_line at who change
line_text (Passes at who cap over) = passes_line at who cap over
line_text (Stands at who key content) = stands_line at who (attribute_text key) (content_or_none content)
line_text (Leaves at who key until) = leaves_line at who (attribute_text key) until
line_text (Gone at who key) = gone_line at who (attribute_text key)
line_text (Owes at who key until) = owes_line at who (attribute_text key) until
line_text (LetsGo at who key) = let_go_line at who (attribute_text key)
line_text (Denied at who event key held) = word_line at who event (attribute_text key) held
line_text (Twice at who key) = double_line at who key
line_text (Malformed at who app place) = malformed_line at who app place
line_text (CutOff at who app got all) = cut_line at who app got all
line_text (Other at address) = other_line at address
line_text (BreaksOff place) = broken_line (Some place)
line_text (Counted counts) = counts_text counts

-- ---- what the lines tell of the bookings of the port at an end

-- a change at an end, by whose port is asked for
abbrev pub change_at : End → End → Change → List Change
change_at A A change = change ∷ []
change_at B B change = change ∷ []
change_at A B change = []
change_at B A change = []

-- of a line
abbrev pub told_by : End → Line → List Change
told_by who (Changed at port change) = change_at who port change
told_by who (Passes at port cap over) = []
told_by who (Stands at speaker key content) = []
told_by who (Leaves at speaker key until) = []
told_by who (Gone at speaker key) = []
told_by who (Owes at speaker key until) = []
told_by who (LetsGo at speaker key) = []
told_by who (Denied at speaker event key held) = []
told_by who (Twice at speaker key) = []
told_by who (Malformed at speaker app place) = []
told_by who (CutOff at speaker app got all) = []
told_by who (Other at address) = []
told_by who (BreaksOff place) = []
told_by who (Counted counts) = []

-- of some lines, in order
abbrev pub told_of : End → List Line → List Change
told_of who lines = flat_map (told_by who) lines

-- a text is a list of lines, which tell just these changes of the port at each end, in order
pub record PrintsChanges (text : List ℕ) (changes : End → List Change) : Type 0 where
  pub lines : List Line
  pub text_is : text ≡ flat_map line_text lines
  pub told : (who : End) → told_of who lines ≡ changes who

-- ---- a whole replay

-- what changes in the bookings of the port at an end along some frames, and with what is on its way
-- behind the last
abbrev pub run_changes : Ends → LinkSeen → List Packet → End → List Change
run_changes ends s ps who = packets_changes who ends s ps ++ arrived_changes who (after_packets ends s ps)
