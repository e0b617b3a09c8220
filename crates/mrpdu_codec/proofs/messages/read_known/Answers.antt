use Rattle.std.proofs.Common.{Some}
use Rattle.mrpdu_codec.proofs.ErrorLemmas.{region_within}
use Rattle.mrpdu_codec.proofs.messages.read_known.Goals as goal

pub behind-requires-clause-within : goal.behind-requires-clause-within
behind-requires-clause-within c =
    rw c.cut.ensures.front (region_within c.in-Err.error (Some c.args.row) c.args.len c.args.size c.args.octets.now (rw c.cut.ensures.front at c.in-Err.ensures))
