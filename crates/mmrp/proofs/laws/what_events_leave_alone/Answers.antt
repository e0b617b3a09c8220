use Rattle.std.proofs.Common.{◌≡◌, refl, ap, ◌∙◌}
use Rattle.link_net.specs.declared.events.NetEvent.TheVariants as net_events
use Rattle.mmrp.specs.{GroupEvent, Join, Port, Lose, Repeat, Carry, Clock, Happened, net_event, port_step}
use Rattle.mmrp.specs.declared.events.GroupEvent.TheVariants.{Part as Parted}
use Rattle.mmrp.proofs.NetEvents.{step_is}
use Rattle.mmrp.proofs.laws.what_events_leave_alone.Goals as goal

pub returns-clause-tree : goal.returns-clause-tree
returns-clause-tree c = λ e w. ap (λ (h : Happened). h.0.tree) (step_is e w) ∙ c.what_events_leave_alone.ensures.tree (net_event e) w

no_clock : (e : GroupEvent) → (e ≡ Clock → ⊥) → net_event e ≡ net_events.Clock → ⊥
no_clock (Join n mac) other is = cc
no_clock (Parted n mac) other is = cc
no_clock (Port p step) other is = cc
no_clock (Lose p index) other is = cc
no_clock (Repeat p index) other is = cc
no_clock (Carry p) other is = cc
no_clock Clock other is = other refl

pub returns-clause-clock : goal.returns-clause-clock
returns-clause-clock c = λ e w other. ap (λ (h : Happened). h.0.clock) (step_is e w) ∙ c.what_events_leave_alone.ensures.clock (net_event e) w (no_clock e other)

pub returns-clause-nodes : goal.returns-clause-nodes
returns-clause-nodes c = λ p step n w other. c.what_events_leave_alone.ensures.nodes p (port_step step) n w other
