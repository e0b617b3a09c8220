use Rattle.std.proofs.Common.{◌≤◌}
use Rattle.msrp.specs.{PortHolding}
use Rattle.msrp.proofs.{Carried.set_holds, InPlace.same_states, Places.on_ok}
use Rattle.msrp.proofs.settling.port_room.Goals as goal

pub returns-clause-ports : goal.returns-clause-ports
returns-clause-ports c = same_states c.args.ports.now.items c.args.at c.index_mut.result.now c.room.new.self c.index_mut.ensures.value c.room.ensures.state

pub returns-clause-rows : goal.returns-clause-rows
returns-clause-rows c =
    on_ok c.room.result c.room.ensures.rows (λ le. set_holds (λ (p : PortHolding). c.args.rows ≤ p.rows) c.args.ports.now.items c.args.at c.room.new.self c.requires le)

pub returns-clause-wants : goal.returns-clause-wants
returns-clause-wants c =
    on_ok c.room.result c.room.ensures.wants (λ le. set_holds (λ (p : PortHolding). c.args.wants ≤ p.wants) c.args.ports.now.items c.args.at c.room.new.self c.requires le)
