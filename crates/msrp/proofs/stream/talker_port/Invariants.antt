use Rattle.std.proofs.Common.{◌≡◌, drop, map}
use Rattle.std.specs.Prelude.{find}
use Rattle.std.specs.List.{position_from}
use Rattle.msrp.specs.PortState.{PortState}
use Rattle.msrp.specs.{registered_talker, ports_in, is_present}
use Rattle.msrp.proofs.stream.talker_port.Given as goal

-- the first of the ports that are left is the first of all
abbrev pub invariant-loop-place : goal.invariant-loop-place
invariant-loop-place l =
    record {
      place : position_from is_present l.place (map (λ (p : PortState). registered_talker l.stream p.part) (ports_in (drop l.place l.ports)))
          ≡ position_from is_present 0 (map (λ (p : PortState). registered_talker l.stream p.part) (ports_in l.ports));
      reg : find is_present (map (λ (p : PortState). registered_talker l.stream p.part) (ports_in (drop l.place l.ports)))
          ≡ find is_present (map (λ (p : PortState). registered_talker l.stream p.part) (ports_in l.ports));
    }
