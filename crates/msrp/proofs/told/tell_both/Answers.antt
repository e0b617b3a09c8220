use Rattle.std.proofs.Common.{◌+◌, List, length, sym, subst}
use Rattle.attribute_propagation.specs.Ports.{HasRoom}
use Rattle.msrp_codec.specs.declared.pdu.MsrpKey.{MsrpKey}
use Rattle.msrp.proofs.told.tell_both.Goals as goal

pub returns-clause-room : goal.returns-clause-room
returns-clause-room c = λ n room. c.tell_everywhere.ensures.room n (subst (λ (ks : List MsrpKey). HasRoom (length ks + n) c.args.sets.now.items) (sym c.as_slice.ensures) room)
