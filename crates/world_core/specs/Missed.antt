-- What became of a scripted event, in short.
use Rattle.std.specs.Prelude.{Bool, true, false}
use Rattle.world_core.specs.declared.events.WorldReply.{WorldReply}
use Rattle.world_core.specs.declared.events.WorldReply.TheVariants.{Step, Done, Missed}

-- whether an answer says that there was nothing to act on
abbrev pub is_missed : WorldReply → Bool
is_missed (Step reply) = false
is_missed Done = false
is_missed Missed = true
