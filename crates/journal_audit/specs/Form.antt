-- The form of a journal's lines, without a run: which words may stand where.
use Rattle.std.specs.Prelude.{◌≡◌, ◌<◌, ◌≤◌, ◌⊎◌, ℕ, suc, List, [], ◌∷◌, ◌++◌, codes, length, take, slice_index}
use Rattle.std.specs.{List.AllByRecursion, List.Any, Fmt.decimal}
use Rattle.journal_audit.specs.declared.form.Known.{Known}
use Rattle.journal_audit.specs.Texts.{lines_of}

-- a word, a space, and then what is of a kind
pub record IsWordThen (IsRest : List ℕ → Type 0) (word text : List ℕ) : Type 0 where
  pub rest : List ℕ
  pub is : text ≡ word ++ 32 ∷ rest
  pub then : IsRest rest

-- ---- the line of an event

-- the digits of a number of an entry that there is
pub record IsNumeralOf (events : ℕ) (digits : List ℕ) : Type 0 where
  pub entry : ℕ
  pub from : 1 ≤ entry
  pub upto : entry ≤ events
  pub is : digits ≡ decimal entry

-- they stand before this end
pub record IsEntryBefore (events : ℕ) (end text : List ℕ) : Type 0 where
  pub digits : List ℕ
  pub entry : IsNumeralOf events digits
  pub is : text ≡ digits ++ end

-- the number of an entry, and what became of it
abbrev pub IsEntryText : ℕ → List ℕ → Type 0
IsEntryText events text = IsEntryBefore events (codes " done\n") text ⊎ IsEntryBefore events (codes " missed\n") text

-- ---- the line of a step

-- a decimal digit
abbrev pub IsDigit : ℕ → Type 0
IsDigit c = (48 ≤ c) × (c ≤ 57)

-- there is a digit, and it is 0 only where it is the only one
abbrev pub IsLed : List ℕ → Type 0
IsLed digits = (1 ≤ length digits) × (slice_index digits 0 ≡ 48 → length digits ≡ 1)

-- the digits of a number, which has no leading zero
abbrev pub IsNumber : List ℕ → Type 0
IsNumber digits = IsLed digits × AllByRecursion IsDigit digits

-- a number ends the line
pub record IsNumberText (text : List ℕ) : Type 0 where
  pub digits : List ℕ
  pub number : IsNumber digits
  pub is : text ≡ digits ++ codes "\n"

-- an answer that tells a number ends the line
abbrev pub IsCountText : List ℕ → Type 0
IsCountText text =
    IsWordThen IsNumberText (codes "discarded") text
    ⊎ IsWordThen IsNumberText (codes "received") text
    ⊎ IsWordThen IsNumberText (codes "fired") text
    ⊎ IsWordThen IsNumberText (codes "settled") text
    ⊎ IsWordThen IsNumberText (codes "sent") text

-- an answer ends the line
abbrev pub IsReplyText : List ℕ → Type 0
IsReplyText text = (text ≡ codes "nothing\n") ⊎ (text ≡ codes "silent\n") ⊎ IsCountText text

-- one of the steps that a tick may have, and its answer
abbrev pub IsMadeText : List ℕ → Type 0
IsMadeText text =
    IsWordThen IsReplyText (codes "work") text
    ⊎ IsWordThen IsReplyText (codes "due") text
    ⊎ IsWordThen IsReplyText (codes "settle") text
    ⊎ IsWordThen IsReplyText (codes "send mvrp") text
    ⊎ IsWordThen IsReplyText (codes "send msrp") text

-- ---- lines

-- behind the tick: an event, or a port with a step
abbrev pub IsHappeningText : Known → List ℕ → Type 0
IsHappeningText known text =
    IsWordThen (IsEntryText known.events) (codes "event") text ⊎ Any (λ port. IsWordThen IsMadeText port text) known.ports

-- a line of a tick
abbrev pub IsFormed : Known → ℕ → List ℕ → Type 0
IsFormed known t line = IsWordThen (IsHappeningText known) (decimal t) line

-- each of these lines is of a tick that there is, and the ticks don't fall, from tick t on
abbrev pub AreFormed : Known → ℕ → List (List ℕ) → Type 0
AreFormed known t [] = Unit {0}
AreFormed known t (line ∷ lines) = (s : ℕ) × (t ≤ s) × (s < known.ticks) × IsFormed known s line × AreFormed known s lines

-- the first so many lines of a text are formed so, and no line more
pub record IsFirstUnformed (known : Known) (text : List ℕ) (count : ℕ) : Type 0 where
  pub before : AreFormed known 0 (take count (lines_of text))
  pub here : AreFormed known 0 (take (suc count) (lines_of text)) → ⊥
