use Rattle.node_core.proofs.ProperSteps.{proper-given, proper-repeated, proper-forged, proper-spoilt}
use Rattle.node_core.proofs.laws.links_keep_a_node_proper.Goals as goal

pub returns-clause-given : goal.returns-clause-given
returns-clause-given c = λ at wires s short proper h. proper-given at wires s short proper h

pub returns-clause-repeated : goal.returns-clause-repeated
returns-clause-repeated c = λ at index s h. proper-repeated at index s h

pub returns-clause-forged : goal.returns-clause-forged
returns-clause-forged c = λ at index wire s short proper h. proper-forged at index wire s short proper h

pub returns-clause-spoilt : goal.returns-clause-spoilt
returns-clause-spoilt c = λ app at s h.
    proper-spoilt c.every_call_keeps_a_side_proper.ensures.spoil
    (λ at side h. record { proper = c.every_call_keeps_a_side_proper-2.ensures.spoil at side h; setups = c.calls_keep_the_ports.ensures.spoil at side })
    c.calls_keep_the_ports.ensures.count app at s h
