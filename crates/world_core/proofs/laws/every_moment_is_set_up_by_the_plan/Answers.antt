use Rattle.world_core.specs.{events_from}
use Rattle.world_core.proofs.{Limits.HasCapsOfLinks, Limits.HasDomainsOfWord, Limits.AreSetUp, Limits.set_up_sides, Limits.set_up_own, Limits.set_up_start, Limits.domains_start, Runs.at_moment, Runs.each_event}
use Rattle.world_core.proofs.laws.every_moment_is_set_up_by_the_plan.Goals as goal

pub returns-clause-caps : goal.returns-clause-caps
returns-clause-caps c = λ plan ticks w x s moment is.
    at_moment (AreSetUp (HasCapsOfLinks plan)) (set_up_sides (HasCapsOfLinks plan)) _
    (λ e v ok. set_up_own c.a_port_stays_set_up.ensures.ports (HasCapsOfLinks plan) e v) plan ticks w
    (each_event (events_from plan 0 ticks)) (set_up_start plan) moment x s is

pub returns-clause-domains : goal.returns-clause-domains
returns-clause-domains c = λ plan ticks w x s entry moment is there.
    at_moment (AreSetUp (HasDomainsOfWord plan)) (set_up_sides (HasDomainsOfWord plan)) _
    (λ e v ok. set_up_own c.a_port_stays_set_up.ensures.ports (HasDomainsOfWord plan) e v) plan ticks w
    (each_event (events_from plan 0 ticks)) (domains_start plan) moment x s is entry there
