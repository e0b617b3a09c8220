-- How a port's numbers come of those of the ports that send into its node. No public contract names
-- these words.
use Rattle.std.specs.Prelude.{◌≡◌, ℕ, ◌+◌, ◌*◌, ◌^◌, ◌<◌, ◌≤◌, ◌⊎◌, Result, Ok, Err, Bool, true, false, List, [], ◌∷◌, map, sum_by, All, Option, Some, None, if◌then◌else◌}
use Rattle.srp_base.specs.declared.{numbers.EgressPort.EgressPort, bandwidth.Rate.Rate}
use Rattle.srp_base.specs.Bandwidth.{bits_of, bit_ps_of}
use Rattle.tree_topology.specs.{Topology.HasPort, Ports.peer_of, Walk.is_behind}
use Rattle.frame_flow.specs.Force.{is_port}
use Rattle.delay_bound.specs.declared.{bound.Bound.Bound, bound.Group.Group, stream.ClassStream.ClassStream}
use Rattle.delay_bound.specs.declared.heights.NoPeak.{NoPeak}
use Rattle.delay_bound.specs.declared.heights.NoPeak.TheVariants.{Steep, Large}
use Rattle.delay_bound.specs.{Bounds.second, Bounds.IsPeak, Waits.wait_of, Waits.late_behind}
use Rattle.delay_flow.specs.{Rules.IsBefore, Rules.other_ports, Ways.is_fed}
use Rattle.class_delays.specs.declared.{coming.Coming.Coming, delays.FedStream.FedStream, delays.PortDelays.PortDelays}
use Rattle.class_delays.specs.Given.{ClassSetting}
use Rattle.class_delays.specs.Table.{delays_at, stream_in, rate_at, fed_streams, slope_at, idle_at, further_of}

-- a stream comes to a port from the station itself
pub record ComesFirst (a : ClassSetting) (p : EgressPort) (c : Coming) : Type 0 where
  pub own : c.stream.talker.0 ≡ p.node.0
  pub late : c.late ≡ bit_ps_of (rate_at a.setting p)
  pub before : c.before ≡ 0

-- or by another port of the node, with what is reckoned for it at the port that sends there
pub record ComesBy (a : ClassSetting) (ports : List PortDelays) (p r : EgressPort) (c : Coming) : Type 0 where
  pub other : IsBefore a.setting p r
  pub behind : is_behind a.setting.tree.links r c.stream.talker.0 ≡ true
  pub sent : FedStream
  pub there : stream_in c.stream (delays_at ports (peer_of a.setting.tree.links r)) ≡ Some sent
  pub late : c.late
      ≡ late_behind sent.late sent.wait (rate_at a.setting (peer_of a.setting.tree.links r))
      (rate_at a.setting p)
  pub before : c.before ≡ sent.spent

abbrev pub ComesSo : ClassSetting → List PortDelays → EgressPort → Option EgressPort → Coming → Type 0
ComesSo a ports p None c = ComesFirst a p c
ComesSo a ports p (Some r) c = ComesBy a ports p r c

abbrev pub IsComing : ClassSetting → List PortDelays → EgressPort → Coming → Type 0
IsComing a ports p c = ComesSo a ports p c.by c

-- what comes to a port are the streams that are fed there, in their order
pub record AreComing (a : ClassSetting) (ports : List PortDelays) (p : EgressPort) (cs : List Coming) : Type 0 where
  pub streams : map (λ c. c.stream) cs ≡ fed_streams a p
  pub each : All (IsComing a ports p) cs

-- how a stream comes to a port, where it is fed there
abbrev pub IsCome : ClassSetting → List PortDelays → EgressPort → ClassStream → Option Coming → Type 0
IsCome a ports p x None = is_fed a.setting p x ≡ false
IsCome a ports p x (Some c) =
    (is_fed a.setting p x ≡ true) × (c.stream ≡ x) × IsComing a ports p c

-- whether two ways to come are one: from the station itself, or by a port
abbrev pub comes_from : Option EgressPort → Option EgressPort → Bool
comes_from None None = true
comes_from None (Some q) = false
comes_from (Some r) None = false
comes_from (Some r) (Some q) = is_port q r

-- what comes so brings, by what the Talkers may send
abbrev pub base_of : Coming → ℕ
base_of c = c.stream.limits.burst * second + c.stream.limits.slope * c.late

abbrev pub base_from : Option EgressPort → Coming → ℕ
base_from by c = if comes_from by c.by then base_of c else 0

abbrev pub slope_from : Option EgressPort → Coming → ℕ
slope_from by c = if comes_from by c.by then c.stream.limits.slope else 0

abbrev pub bound_from : Option EgressPort → List Coming → Bound
bound_from by cs = record { base = sum_by (base_from by) cs; slope = sum_by (slope_from by) cs }

-- a bound, or its base is too large
abbrev pub IfBound : Option Bound → Bound → Type 0
IfBound None b = 2 ^ 128 ≤ b.base
IfBound (Some found) b = found ≡ b

-- a bound, or what of it is too large
abbrev pub IsBoundOr : Result Bound NoPeak → Bound → Type 0
IsBoundOr (Ok found) b = found ≡ b
IsBoundOr (Err Steep) b = 2 ^ 64 ≤ b.slope
IsBoundOr (Err Large) b = 2 ^ 128 ≤ b.base

-- the groups of it
abbrev pub own_of : List Coming → Group
own_of cs = record { first = bound_from None cs; more = [] }

abbrev pub group_of : ClassSetting → EgressPort → List Coming → EgressPort → Group
group_of a p cs r = record { first = bound_from (Some r) cs; more = further_of a p r }

abbrev pub groups_of : ClassSetting → EgressPort → List Coming → List Group
groups_of a p cs = own_of cs ∷ map (group_of a p cs) (other_ports a.setting p)

-- the numbers of a stream at a port of a rate, by the class's slope and idle there, what comes and
-- the peak
abbrev pub fed_with : Rate → ℕ → ℕ → ℕ → Coming → FedStream
fed_with rate slope idle peak c =
    let wait = wait_of (bits_of rate) slope idle peak c.stream.least in
    record {
      stream = c.stream;
      late = c.late;
      wait = wait;
      spent = c.before + (bit_ps_of rate + (wait + c.stream.least) * bit_ps_of rate);
    }

abbrev pub fed_by : ClassSetting → EgressPort → ℕ → Coming → FedStream
fed_by a p peak c = fed_with (rate_at a.setting p) (slope_at a p) (idle_at a p) peak c

-- nothing comes to a port, or the class has a slope there, and what comes has the peak
abbrev pub HasPeak : ClassSetting → EgressPort → List Coming → ℕ → Type 0
HasPeak a p cs peak =
    (cs ≡ []) ⊎ ((0 < slope_at a p) × IsPeak (groups_of a p cs) (slope_at a p) peak)

-- the numbers of a port's streams, by some peak, are those of what comes there
pub record IsEntry (a : ClassSetting) (ports : List PortDelays) (e : PortDelays) : Type 0 where
  pub port : HasPort a.setting.tree e.at
  pub rate : e.rate ≡ rate_at a.setting e.at
  pub coming : List Coming
  pub are : AreComing a ports e.at coming
  pub fed : e.fed ≡ map (fed_by a e.at e.peak) coming

-- what is reckoned for a port comes of what is reckoned for those that send into its node: its peak
-- is that of what comes
pub record IsReckoned (a : ClassSetting) (ports : List PortDelays) (e : PortDelays) : Type 0 where
  pub entry : IsEntry a ports e
  pub peak : HasPeak a e.at entry.coming e.peak
