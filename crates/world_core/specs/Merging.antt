-- Changes that are put among others.
use Rattle.std.specs.Prelude.{Bool, ◌&&◌, ◌||◌, ◌==◌, nat_lt, List, [], ◌∷◌, ◌++◌, if◌then◌else◌}
use Rattle.srp_base.specs.declared.{numbers.EgressPort.EgressPort, ports.PortChange.PortChange}

-- whether a port comes before another: by node, then by port
abbrev pub precedes : EgressPort → EgressPort → Bool
precedes p q = nat_lt p.node.0 q.node.0 || (p.node.0 == q.node.0) && nat_lt p.port.0 q.port.0

-- the changes in front whose ports come before a port
abbrev pub front_before : EgressPort → List PortChange → List PortChange
front_before p [] = []
front_before p (c ∷ cs) = if precedes c.at p then c ∷ front_before p cs else []

-- the changes behind those: from the first on whose port doesn't come before the port
abbrev pub rest_from : EgressPort → List PortChange → List PortChange
rest_from p [] = []
rest_from p (c ∷ cs) = if precedes c.at p then rest_from p cs else c ∷ cs

-- changes among others, both by port: each behind those of its port
abbrev pub changes_among : List PortChange → List PortChange → List PortChange
changes_among [] more = more
changes_among (c ∷ cs) more = front_before c.at more ++ c ∷ changes_among cs (rest_from c.at more)
