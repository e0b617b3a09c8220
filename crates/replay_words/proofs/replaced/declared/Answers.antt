use Rattle.std.proofs.Common.{◌∙◌, ◌+◌, List, sym, ap, drop}
use Rattle.std.proofs.lemmas.List.{at_drop_more}
use Rattle.std.specs.Prelude.{◌||◌}
use Rattle.std.specs.BTreeMap.{get}
use Rattle.std.specs.List.{list_any}
use Rattle.msrp.specs.Part.{key_cmp}
use Rattle.replay_words.specs.{StreamEvent, declares_other, is_other}
use Rattle.replay_words.proofs.Declaring.{one_more}
use Rattle.replay_words.proofs.replaced.declared.Goals as goal

pub loop-event-preserved : goal.loop-event-preserved
loop-event-preserved c = λ key content.
    let i = c.loop-event.event-index in
    let events = c.args.events.now in
    let before = is_other (get key_cmp c.loop-event.map key) content in
    one_more before (is_other (get key_cmp c.mark.new.map key) content) _
    (list_any (declares_other key content) (drop (i + 1) events)) (list_any (declares_other key content) events)
    (c.in_ok-mark.ensures key content ∙ ap (λ (e : StreamEvent). before || declares_other key content e) c.event-item.is)
    (sym (at_drop_more (λ (es : List StreamEvent). before || list_any (declares_other key content) es) events i c.event-item.result c.loop-event-test.true)
    ∙ c.loop-event.invariant key content)
