-- What bounds are asked of: what a flow is asked of, without its frames, a class and its streams.
use Rattle.std.specs.Prelude.{ℕ, List, [], All}
use Rattle.srp_base.specs.declared.{bandwidth.Class.Class, bandwidth.Rate.Rate, ports.PortChange.PortChange}
use Rattle.srp_base.specs.declared.bandwidth.Class.TheVariants.{A, B}
use Rattle.credit_shaper.specs.declared.shaper.Traffic.{Traffic}
use Rattle.credit_shaper.specs.declared.shaper.Traffic.TheVariants as traffics
use Rattle.tree_topology.specs.Topology.{Topology, HasNode}
use Rattle.frame_flow.specs.declared.frame.Frame.{Frame}
use Rattle.frame_flow.specs.{Flow.Setting, Given.IsSetting}
use Rattle.delay_bound.specs.declared.stream.ClassStream.{ClassStream}

-- the traffic of a class
abbrev pub class_traffic : Class → Traffic
class_traffic A = traffics.A
class_traffic B = traffics.B

-- what is asked, of a class and its streams
pub record ClassSetting : Type 0 where
  pub setting : Setting
  pub class : Class
  pub streams : List ClassStream

-- a setting in which no frame is sent yet
abbrev pub without_frames : Topology → List Rate → List PortChange → ℕ → Setting
without_frames tree rates changes ticks =
    record { tree = tree; rates = rates; changes = changes; frames = []; ticks = ticks }

-- a setting with these frames
abbrev pub with_frames : List Frame → Setting → Setting
with_frames frames s =
    record { tree = s.tree; rates = s.rates; changes = s.changes; frames = frames; ticks = s.ticks }

-- the setting is one of a flow, and the streams' Talkers are nodes of its tree
pub record IsClassSetting (a : ClassSetting) : Type 0 where
  pub setting : IsSetting a.setting
  pub talkers : All (λ x. HasNode a.setting.tree x.talker.0) a.streams
