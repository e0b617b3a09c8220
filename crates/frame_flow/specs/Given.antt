-- What a flow asks for.
use Rattle.std.specs.Prelude.{◌≡◌, ℕ, ◌+◌, ◌*◌, ◌<◌, ◌≤◌, ◌⊎◌, true, List, length, All, AllPairs}
use Rattle.srp_base.specs.Bandwidth.{bits_of}
use Rattle.srp_base.specs.declared.ports.PortChange.{PortChange}
use Rattle.credit_shaper.specs.Port.{IsFrameSize}
use Rattle.tree_topology.specs.Topology.{Topology, HasNode}
use Rattle.frame_flow.specs.declared.{frame.Frame.Frame, frame.Route.Route, frame.Route.TheVariants.Stream, frame.Route.TheVariants.To, frame.FrameCopy.FrameCopy, place.Place.Place}
use Rattle.frame_flow.specs.{Copies.all_places, Copies.is_not_after, Flow.Setting}

-- a frame to a node goes to one of the tree
abbrev pub IsRoute : Topology → Route → Type 0
IsRoute tree (Stream stream traffic) = Unit {0}
IsRoute tree (To station) = HasNode tree station.0

-- a frame is of a frame's size, stands before the end of so many ticks of 10^10 ps, and names nodes
-- of the tree, which are stations in use
pub record IsFrame (tree : Topology) (ticks : ℕ) (f : Frame) : Type 0 where
  pub size : IsFrameSize f.bits
  pub in_time : f.at.0 < ticks * 10000000000
  pub from : HasNode tree f.from.0
  pub route : IsRoute tree f.route

-- copies are in order of bit time, ties by number
abbrev pub IsInOrder : List FrameCopy → Type 0
IsInOrder copies = AllPairs (λ x y. is_not_after x y ≡ true) copies

-- one change is before another: by node, then by port, then by tick
abbrev pub IsEarlier : PortChange → PortChange → Type 0
IsEarlier c d =
    (c.at.node.0 < d.at.node.0)
    ⊎ ((c.at.node.0 ≡ d.at.node.0)
    × ((c.at.port.0 < d.at.port.0) ⊎ ((c.at.port.0 ≡ d.at.port.0) × (c.tick < d.tick))))

-- at a port both slopes together are always less than the rate
abbrev pub HasSlopesBelow : List PortChange → Place → Type 0
HasSlopesBelow changes place =
    All (λ c. c.at ≡ place.at → c.slope_a + c.slope_b < bits_of place.rate) changes

-- 1 to 12,000 ticks; frames that ascend by number; and changes that ascend by port and tick
pub record IsInRange (tree : Topology) (cs : List PortChange) (fs : List Frame) (n : ℕ) : Type 0 where
  pub ticks : (1 ≤ n) × (n ≤ 12000)
  pub numbers : AllPairs (λ f g. f.number < g.number) fs
  pub frames : All (IsFrame tree n) fs
  pub changes : AllPairs IsEarlier cs

-- and one rate a link, with slopes below the rates
pub record IsSetting (s : Setting) : Type 0 where
  pub rates : length s.rates ≡ length s.tree.links
  pub range : IsInRange s.tree s.changes s.frames s.ticks
  pub slopes : All (HasSlopesBelow s.changes) (all_places s.tree.links s.rates)
