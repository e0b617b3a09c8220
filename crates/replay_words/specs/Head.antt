-- The head of a file to be replayed, or the first rule that its table breaks.
use Rattle.std.specs.Prelude.{Result, Ok}
use Rattle.srp_base.specs.Results.{◌>>=◌}
use Rattle.toml.specs.Data.{Members}
use Rattle.toml_rules.specs.declared.rules.RuleErr.{RuleErr}
use Rattle.toml_rules.specs.{Fields.has_only, Rules.needs, Rules.holds}
use Rattle.replay_words.specs.declared.head.Head.{Head}
use Rattle.replay_words.specs.HeadKeys.{head_keys, caps_at, leave_time_at, addresses_at}

-- The head of a table, or the first rule that fails:
-- 61  the keys are known
-- 62  there is a rate, and the shares are percentages, 90 together at most
-- 63  leave timers last 60 to 100 cs, 60 where it isn't said
-- 64  both addresses are given, which differ, or none
abbrev pub head_of : Members → Result Head RuleErr
head_of ms = do
  _ ← holds 61 (has_only head_keys ms)
  caps ← needs 62 (caps_at ms)
  time ← needs 63 (leave_time_at ms)
  ends ← needs 64 (addresses_at ms)
  Ok (record { caps = caps; leave_time = record { 0 = time }; ends = ends })
