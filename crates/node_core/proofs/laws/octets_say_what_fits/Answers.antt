use Rattle.std.specs.Prelude.{List, ℕ}
use Rattle.srp_base.specs.declared.{mrp.App.App, mrp.App.TheVariants.Mvrp, mrp.App.TheVariants.Msrp}
use Rattle.mrpdu_codec.specs.Octets.{AreOctets}
use Rattle.node_core.specs.{SayWhatFits}
use Rattle.node_core.proofs.laws.octets_say_what_fits.Goals as goal

pub returns : goal.returns
returns c = λ wire octets. by wire.app wire.octets octets
  where
    by : (app : App) (octets : List ℕ) → AreOctets octets → SayWhatFits app octets
    by Mvrp octets are = tt
    by Msrp octets are = λ pdu read. c.what_is_read_is_in_range.ensures octets pdu are read
