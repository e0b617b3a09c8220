-- What `srpnet ledger` prints: a line for each stream in the order of first mention, and two lines
-- of sums. It is judged at the moment of the last want.
use Rattle.std.specs.Prelude.{◌≡◌, ◌≢◌, ℕ, ◌+◌, ◌==◌, List, [], ◌∷◌, ◌++◌, codes, find, reverse, Option, Some, None, IsSome, option_map, Ok}
use Rattle.std.specs.{Option.option_map_or, Fmt.decimal}
use Rattle.srp_base.specs.declared.{numbers.Cs.Cs, numbers.StreamId.StreamId, bandwidth.Class.TheVariants.A, bandwidth.Class.TheVariants.B}
use Rattle.srp_base.specs.{Hexadecimal.hex16_text, Text.whole_of}
use Rattle.stream_importance.specs.declared.{entry.Want.Want, entry.Fit.Fit, entry.Fit.TheVariants.Fits, entry.Fit.TheVariants.TooLittle}
use Rattle.port_ledger.specs.Book.{Book, booked_slope, fit_for, since_of}
use Rattle.srpnet.specs.declared.{ledger.file.LedgerWant.LedgerWant, ledger.file.LedgerFile.LedgerFile}
use Rattle.srpnet.specs.{LedgerRun.fresh, LedgerRun.Leads, LedgerInput.ledger_input}

-- `ID booked slope S since T`
abbrev pub booked_line : Want → Cs → List ℕ
booked_line want since = whole_of (
    hex16_text want.stream.0 ∷ codes " booked slope " ∷ decimal want.slope
    ∷ codes " since " ∷ decimal since.0 ∷ codes "\n" ∷ [])

-- `ID refused slope S more M cap C code K`
abbrev pub refused_line : Want → ℕ → ℕ → ℕ → List ℕ
refused_line want more cap code = whole_of (
    hex16_text want.stream.0 ∷ codes " refused slope " ∷ decimal want.slope ∷ codes " more " ∷ decimal more
    ∷ codes " cap " ∷ decimal cap ∷ codes " code " ∷ decimal code ∷ codes "\n" ∷ [])

-- `slope A S cap C`, and `slope A+B S cap C` for both classes
abbrev pub sum_line : List ℕ → ℕ → ℕ → List ℕ
sum_line classes sum cap = whole_of (
    codes "slope " ∷ classes ∷ codes " " ∷ decimal sum ∷ codes " cap " ∷ decimal cap ∷ codes "\n" ∷ [])

-- the line of a want by its booking; a want that is kept and isn't booked doesn't fit, so that the
-- last case doesn't occur (`HasLines`)
abbrev pub line_by : Want → Fit → Option Cs → List ℕ
line_by want fit (Some since) = booked_line want since
line_by want (TooLittle more cap code) None = refused_line want more cap code
line_by want Fits None = []

-- the line of a stream's want
abbrev pub want_line : Book → Want → List ℕ
want_line book want = line_by want (fit_for book.moment book want) (since_of book.entries want.stream)

-- the last want of a stream
abbrev pub last_want : List LedgerWant → StreamId → Option Want
last_want wants stream = option_map (λ w. w.want) (find (λ w. w.want.stream.0 == stream.0) (reverse wants))

-- the line of a stream
abbrev pub stream_line : Book → List LedgerWant → StreamId → List ℕ
stream_line book wants stream = option_map_or (want_line book) (last_want wants stream) []

-- each stream that these wants mention has its line
abbrev pub HasLines : Book → List LedgerWant → Type 0
HasLines book wants = (stream : StreamId) → IsSome (last_want wants stream) → stream_line book wants stream ≢ []

-- the lines of some streams
abbrev pub stream_lines : Book → List LedgerWant → List StreamId → List ℕ
stream_lines book wants [] = []
stream_lines book wants (stream ∷ streams) = stream_line book wants stream ++ stream_lines book wants streams

-- the two lines of sums
abbrev pub sum_lines : Book → List ℕ
sum_lines book =
    sum_line (codes "A") (booked_slope book.entries A) book.caps.class_a
    ++ sum_line (codes "A+B") (booked_slope book.entries A + booked_slope book.entries B) book.caps.both

-- what is printed of a file whose wants led to this state of the port
abbrev pub ledger_text : LedgerFile → Book → List ℕ
ledger_text file book = stream_lines book file.wants file.streams ++ sum_lines book

-- The output of the command `ledger` for an input of these octets: they are a ledger file, its
-- wants lead from a port that no stream wants to some state, the text is that of this state, and
-- each stream that the file mentions has its line there.
pub record LedgerOutput (octets text : List ℕ) : Type 0 where
  pub file : LedgerFile
  pub book : Book
  pub read : ledger_input octets ≡ Ok file
  pub applied : Leads (fresh file) file.wants book
  pub printed : text ≡ ledger_text file book
  pub lines : HasLines book file.wants
