use Rattle.mrpdu_codec.proofs.RoundTrip.{message_can_put}
use Rattle.mrpdu_codec.proofs.encoding.put_message.Goals as goal

pub put_vectors-requires : goal.put_vectors-requires
put_vectors-requires c = rw c.as_slice-2.ensures (message_can_put c.args.form c.args.message.now c.requires)
