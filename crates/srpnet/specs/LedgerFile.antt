-- The ledger file: one port and the streams that want it, or the first rule that the table breaks.
use Rattle.std.specs.Prelude.{ℕ, ◌+◌, ◌==◌, not, nat_le, if◌then◌else◌, List, [], ◌∷◌, ◌++◌, length, map, filter, codes, Option, Some, None, Result, Ok}
use Rattle.std.specs.Option.{option_and_then}
use Rattle.srp_base.specs.declared.{bandwidth.Rate.Rate, numbers.StreamId.StreamId}
use Rattle.srp_base.specs.{Bandwidth.rate_of_mbit, Results.◌>>=◌}
use Rattle.toml.specs.Data.{Members}
use Rattle.toml_rules.specs.declared.rules.RuleErr.{RuleErr}
use Rattle.toml_rules.specs.{Fields.number, Fields.tables, Fields.has_only, Shares.shares_at, Rules.needs, Rules.holds, Rules.no_entry, Rules.each_entry, Rules.first_fall}
use Rattle.srpnet.specs.declared.{ledger.file.LedgerWant.LedgerWant, ledger.file.LedgerFile.LedgerFile}
use Rattle.srpnet.specs.LedgerWant.{want_entry}

-- the keys of a ledger file: the port's rate, the shares of its SR classes (deltaBandwidth), the
-- wants
abbrev pub file_keys : List (List ℕ)
file_keys = codes "rate" ∷ codes "delta_a" ∷ codes "delta_b" ∷ codes "want" ∷ []

-- the port's rate in Mb/s
abbrev pub rate_at : Members → Option Rate
rate_at ms = option_and_then rate_of_mbit (number (codes "rate") ms)

-- the ticks of the wants
abbrev pub want_ticks : List LedgerWant → List ℕ
want_ticks wants = map (λ w. w.tick.0) wants

-- the different numbers of a list, in the order of their first mention
abbrev pub different : List ℕ → List ℕ
different [] = []
different (k ∷ ks) = k ∷ filter (λ j. not (j == k)) (different ks)

-- the StreamIDs of the wants
abbrev pub streams_of : List LedgerWant → List ℕ
streams_of wants = map (λ w. w.want.stream.0) wants

-- the number of the first want with which the different streams are more than 128, where these
-- StreamIDs stand in front
abbrev pub first_crowd : List ℕ → List ℕ → Option ℕ
first_crowd front [] = None
first_crowd front (k ∷ ks) =
    if nat_le (length (different (front ++ k ∷ []))) 128
    then first_crowd (front ++ k ∷ []) ks
    else Some (length front + 1)

-- the different streams, where there are at most 128
abbrev pub streams_mentioned : List LedgerWant → Result (List ℕ) RuleErr
streams_mentioned wants = do
  _ ← no_entry 35 (first_crowd [] (streams_of wants))
  Ok (different (streams_of wants))

-- the wants of the entries, with the different streams in the order of their first mention
abbrev pub wants_of : List Members → Result (List LedgerWant × List StreamId) RuleErr
wants_of entries = do
  wants ← each_entry 33 want_entry 1 entries
  _ ← no_entry 34 (first_fall 1 0 (want_ticks wants))
  streams ← streams_mentioned wants
  Ok (wants, map (λ k. record { 0 = k }) streams)

-- The file of a table, or the first rule that fails, with its first failing entry:
-- 31  the keys are known, and there is a rate
-- 32  the shares are percentages, and 90 together at most
-- 33  the wants are an array of at most 10,000 tables, each with its form
-- 34  ticks don't fall
-- 35  there are at most 128 different streams
abbrev pub ledger_file : Members → Result LedgerFile RuleErr
ledger_file ms = do
  _ ← holds 31 (has_only file_keys ms)
  rate ← needs 31 (rate_at ms)
  shares ← needs 32 (shares_at ms)
  entries ← needs 33 (tables (codes "want") ms)
  wants ← wants_of entries
  Ok (record { rate = rate; delta_a = shares.0; delta_b = shares.1; wants = wants.0; streams = wants.1 })
