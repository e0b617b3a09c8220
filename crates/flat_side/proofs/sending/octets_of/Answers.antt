use Rattle.flat_side.proofs.SendingLemmas.{fitting}
use Rattle.flat_side.proofs.sending.octets_of.Goals as goal

pub encode-requires : goal.encode-requires
encode-requires g c =
    rw (c.from_vec.ensures, c.in_ok-events.ensures, c.as_slice.ensures)
    (fitting g.A.MrpApp.base g.A.MrpApp.octets c.args.msgs.now.leave_all c.args.msgs.now.events c.requires.fits c.requires.says)
