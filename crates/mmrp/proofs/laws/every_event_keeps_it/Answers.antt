use Rattle.std.proofs.Common.{List, [], ◌∷◌, sym, subst}
use Rattle.std.specs.List.{AllByRecursion}
use Rattle.mmrp.specs.{GroupEvent, NetGroups, Happened, CanAllHappen, CanHappen, IsEventInRange, IsKeptNet, group_step, groups_after, net_event}
use Rattle.mmrp.proofs.NetEvents.{step_is}
use Rattle.mmrp.proofs.laws.every_event_keeps_it.Goals as goal

pub returns-clause-event : goal.returns-clause-event
returns-clause-event c = λ e w can small kept.
    subst (λ (h : Happened). IsKeptNet h.0) (sym (step_is e w)) (c.every_event_keeps_it.ensures.event (net_event e) w can small kept)

each : ((e : GroupEvent) (w : NetGroups) → CanHappen e w → IsEventInRange e → IsKeptNet w → IsKeptNet (group_step e w).0)
    → (es : List GroupEvent) (w : NetGroups) → CanAllHappen es w → AllByRecursion IsEventInRange es → IsKeptNet w → IsKeptNet (groups_after es w)
each one [] w can small kept = kept
each one (e ∷ es) w can small kept = each one es (group_step e w).0 can.1 small.1 (one e w can.0 small.0 kept)

pub returns-clause-events : goal.returns-clause-events
returns-clause-events c = λ es w can small kept.
    each (λ e w can small kept. subst (λ (h : Happened). IsKeptNet h.0) (sym (step_is e w)) (c.every_event_keeps_it.ensures.event (net_event e) w can small kept)) es w can small kept
