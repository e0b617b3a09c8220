use Rattle.std.proofs.Common.{refl}
use Rattle.msrp.proofs.side.MsrpSide.receive.Goals as goal

pub take-requires-clause-belong : goal.take-requires-clause-belong
take-requires-clause-belong c =
    c.what_is_read_belongs_to_its_keys.ensures c.args.octets.now c.in_ok-pdu.pdu (c.in_ok-pdu.ensures.reads c.in_ok-pdu.pdu refl)
