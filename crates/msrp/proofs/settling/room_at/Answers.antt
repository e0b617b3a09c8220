use Rattle.std.proofs.Common.{rules, ◌≡◌, ◌≤◌, ◌+◌, ◌∙◌, ℕ, length, subst, arith}
use Rattle.std.specs.Prelude.{slice_get, vec_capacity, vec_len, IfSome}
use Rattle.attribute_propagation.specs.{Dirty.KeySet, Ports.HasRoom}
use Rattle.msrp_codec.specs.declared.pdu.MsrpKey.{MsrpKey}
use Rattle.msrp.specs.{PortHolding}
use Rattle.msrp.proofs.Places.{on_ok}
use Rattle.msrp.proofs.settling.room_at.Goals as goal

pub returns-clause-room : goal.returns-clause-room
returns-clause-room c =
    let asked : vec_len c.args.plan.now.asked ≡ length c.args.plan.now.asked.items = search rules in
    let own : c.in_ok-own.own ≡ vec_capacity c.args.plan.now.stated + vec_capacity c.args.plan.now.moved = omega (arith, c.in_ok-own.ensures, c.capacity.ensures, c.capacity-2.ensures) in
    on_ok c.set_room.result c.set_room.ensures.room (λ has. record {
      rows = c.in_ok-port_room.ensures.rows;
      wants = subst (λ (n : ℕ). IfSome (slice_get c.port_room.new.ports.items c.args.at) (λ (p : PortHolding). n ≤ p.wants)) (c.len.ensures ∙ asked) c.in_ok-port_room.ensures.wants;
      own = subst (λ (n : ℕ). IfSome (slice_get c.set_room.new.sets.items c.args.at) (λ (set : KeySet MsrpKey). n ≤ set.spare)) own has;
      others = c.set_room.ensures.others (vec_capacity c.args.plan.now.moved) (subst (λ (n : ℕ). HasRoom n c.room_everywhere.new.sets.items) c.capacity-3.ensures c.in_ok-room_everywhere.ensures.room);
    })
