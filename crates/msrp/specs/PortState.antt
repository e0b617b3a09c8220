-- A link port of a node as contracts see it (IEEE Std 802.1Q-2018, 35.2).
use Rattle.msrp_talker.specs.declared.port_config.PortConfig.{PortConfig}
use Rattle.port_ledger.specs.Book.{Book}
use Rattle.msrp.specs.declared.domain.DomainSet.{DomainSet}
use Rattle.msrp.specs.Part.{Part}

-- the node's bridge with the latency that the port adds to a Talker's, the Domain values that the
-- node declares at each of its link ports, what the port and its neighbour have declared, and the
-- streams that want the port
pub record PortState : Type 0 where
  pub config : PortConfig
  pub domain : DomainSet
  pub part : Part
  pub ledger : Book
