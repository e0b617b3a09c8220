use Rattle.std.proofs.Common.{◌≡◌, drop}
use Rattle.std.specs.Prelude.{◌||◌}
use Rattle.std.specs.BTreeMap.{get}
use Rattle.std.specs.List.{list_any}
use Rattle.msrp.specs.Part.{key_cmp}
use Rattle.msrp_codec.specs.declared.pdu.{MsrpKey.MsrpKey, MsrpContent.MsrpContent}
use Rattle.replay_words.specs.{declares_other, is_other}
use Rattle.replay_words.proofs.replaced.declared.Given as goal

-- what is kept, with what the events that are left declare, is what all declare
abbrev pub invariant-loop-event : goal.invariant-loop-event
invariant-loop-event l =
    (key : MsrpKey) (content : MsrpContent)
    → (is_other (get key_cmp l.map key) content || list_any (declares_other key content) (drop l.event-index l.events))
    ≡ list_any (declares_other key content) l.events
