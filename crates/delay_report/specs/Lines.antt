-- The lines of what is known of delays, each by what it tells. A line ends with a line feed.
use Rattle.std.specs.Prelude.{ℕ, Bool, true, false, List, [], ◌∷◌, codes, Option, Some, None}
use Rattle.std.specs.Fmt.{decimal}
use Rattle.srp_base.specs.{Hexadecimal.hex16_text, Text.whole_of}
use Rattle.srp_base.specs.declared.{numbers.StreamId.StreamId, bandwidth.Class.Class}
use Rattle.report_words.specs.Words.{class_name, yes_or_no}

-- what a test says, or that there is nothing to test
abbrev pub word_or_none : Option Bool → List ℕ
word_or_none None = codes "none"
word_or_none (Some word) = yes_or_no word

-- `steady yes` or `steady no`
abbrev pub steady_line : Bool → List ℕ
steady_line steady = whole_of (codes "steady " ∷ yes_or_no steady ∷ codes "\n" ∷ [])

-- `unbounded A P`: a class has no bounds, by what comes to this port
abbrev pub unbounded_line : Class → List ℕ → List ℕ
unbounded_line class port = whole_of (codes "unbounded " ∷ class_name class ∷ codes " " ∷ port ∷ codes "\n" ∷ [])

-- `hop P ID A wait W late J`: bit times of the port, and ps
abbrev pub hop_line : List ℕ → StreamId → Class → ℕ → ℕ → List ℕ
hop_line port stream class wait late = whole_of (
    codes "hop " ∷ port ∷ codes " " ∷ hex16_text stream.0 ∷ codes " " ∷ class_name class
    ∷ codes " wait " ∷ decimal wait ∷ codes " late " ∷ decimal late ∷ codes "\n" ∷ [])

-- `conforms ID yes`, `conforms ID no` or `conforms ID none`
abbrev pub conforms_line : StreamId → Option Bool → List ℕ
conforms_line stream conforms = whole_of (
    codes "conforms " ∷ hex16_text stream.0 ∷ codes " " ∷ word_or_none conforms ∷ codes "\n" ∷ [])

-- `delay ID STATION hops N within T seen M frames K`: ns
abbrev pub delay_line : StreamId → List ℕ → ℕ → ℕ → ℕ → ℕ → List ℕ
delay_line stream station hops within seen frames = whole_of (
    codes "delay " ∷ hex16_text stream.0 ∷ codes " " ∷ station ∷ codes " hops " ∷ decimal hops
    ∷ codes " within " ∷ decimal within ∷ codes " seen " ∷ decimal seen
    ∷ codes " frames " ∷ decimal frames ∷ codes "\n" ∷ [])

-- `quiet yes` or `quiet no`
abbrev pub quiet_line : Bool → List ℕ
quiet_line quiet = whole_of (codes "quiet " ∷ yes_or_no quiet ∷ codes "\n" ∷ [])
