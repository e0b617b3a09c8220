-- A want of the ledger file: the stream that wants the port, and its moment.
use Rattle.std.specs.Prelude.{ℕ, ◌==◌, ◌&&◌, nat_le, nat_eq, if◌then◌else◌, List, [], ◌∷◌, codes, Option, Some, None}
use Rattle.std.specs.{Option.option_and_then, Cmp.Lexicographic.pointwise}
use Rattle.srp_base.specs.declared.{bandwidth.Class.Class, bandwidth.Class.TheVariants.A, bandwidth.Class.TheVariants.B, bandwidth.Rank.Rank, bandwidth.Rank.TheVariants.Emergency, bandwidth.Rank.TheVariants.Normal}
use Rattle.srp_base.specs.Hexadecimal.{hex16}
use Rattle.toml.specs.Data.{Members}
use Rattle.toml_rules.specs.Fields.{◌>>=◌, number, number_or, within, text, has_only}
use Rattle.stream_importance.specs.Bandwidth.{slope_of_frames}
use Rattle.srpnet.specs.declared.ledger.file.LedgerWant.{LedgerWant}

-- the keys of a want
abbrev pub want_keys : List (List ℕ)
want_keys = codes "stream" ∷ codes "class" ∷ codes "rank" ∷ codes "frames" ∷ codes "octets" ∷ codes "tick" ∷ []

-- the SR class of its letter
abbrev pub class_of_text : List ℕ → Option Class
class_of_text word =
    if pointwise nat_eq word (codes "A") then Some A
    else if pointwise nat_eq word (codes "B") then Some B
    else None

-- the rank of its number: 0 is emergency, 1 isn't
abbrev pub rank_of_number : ℕ → Option Rank
rank_of_number n = if n == 0 then Some Emergency else if n == 1 then Some Normal else None

-- the StreamID of sixteen hexadecimal digits
abbrev pub stream_at : Members → Option ℕ
stream_at ms = option_and_then hex16 (text (codes "stream") ms)

-- class A or B
abbrev pub class_at : Members → Option Class
class_at ms = option_and_then class_of_text (text (codes "class") ms)

-- rank 0 or 1, 1 where none is given
abbrev pub rank_at : Members → Option Rank
rank_at ms = option_and_then rank_of_number (number_or (codes "rank") 1 ms)

-- the frames in each class measurement interval
abbrev pub frames_at : Members → Option ℕ
frames_at ms = within 0 65535 (number (codes "frames") ms)

-- the most octets of a frame
abbrev pub octets_at : Members → Option ℕ
octets_at ms = within 0 1500 (number (codes "octets") ms)

-- the moment in cs, 0 where none is given
abbrev pub tick_at : Members → Option ℕ
tick_at ms = within 0 11999 (number_or (codes "tick") 0 ms)

-- the want of these six
abbrev pub ledger_want : ℕ → Class → Rank → ℕ → ℕ → ℕ → LedgerWant
ledger_want stream class rank frames octets tick = record {
  tick = record { 0 = tick };
  want = record { stream = record { 0 = stream }; class = class; rank = rank; slope = slope_of_frames class octets frames };
}

-- the want of a table whose keys are all known
abbrev pub known_want : Members → Option LedgerWant
known_want ms = do
  stream ← stream_at ms
  class ← class_at ms
  rank ← rank_at ms
  frames ← frames_at ms
  octets ← octets_at ms
  tick ← tick_at ms
  Some (ledger_want stream class rank frames octets tick)

-- the want of entry n: the entries are at most 10,000
abbrev pub want_entry : ℕ → Members → Option LedgerWant
want_entry n ms = if nat_le n 10000 && has_only want_keys ms then known_want ms else None
