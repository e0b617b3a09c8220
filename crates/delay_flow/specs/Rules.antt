-- The numbers of each port and stream, by the rules that they keep with those of the ports before.
--
--     q = peer of r               p
--     late, wait of x  ------>  late of x  ---> groups of p ---> peak ---> wait of x
--     spent on x       ------------------------------------------------->  spent on x
use Rattle.std.specs.Prelude.{◌≡◌, ℕ, ◌+◌, ◌-◌, ◌*◌, ◌<◌, ◌≤◌, ◌⊎◌, Bool, true, false, not, ◌==◌, ◌&&◌, List, [], ◌∷◌, filter, map, sum_by, All}
use Rattle.std.specs.List.{Contains}
use Rattle.srp_base.specs.declared.{numbers.EgressPort.EgressPort, bandwidth.Rate.Rate}
use Rattle.srp_base.specs.Bandwidth.{bits_of, bit_ps_of}
use Rattle.credit_shaper.specs.declared.shaper.Traffic.{Traffic}
use Rattle.class_service.specs.Range.{idle_of}
use Rattle.tree_topology.specs.{Topology.HasPort, Ports.peer_of, Walk.is_behind}
use Rattle.frame_flow.specs.{Force.is_port, Force.first_slopes, Copies.all_places, Copies.ports_at, Flow.Setting}
use Rattle.delay_bound.specs.declared.bound.{Bound.Bound, Group.Group}
use Rattle.delay_bound.specs.{Bounds.second, Bounds.IsPeak, Waits.wait_of, Waits.late_behind}
use Rattle.delay_bound.specs.declared.stream.ClassStream.{ClassStream}
use Rattle.delay_flow.specs.{Places.class_slope, Places.is_booked, Places.last_force}

-- for each port its rate, which streams are fed there, by how many ps two of a stream's frames may
-- have moved towards each other up to there, how many bit times a stream's frame waits there at
-- most, and how many ps it has taken then from its moment to the bit time after its last bit; the
-- peak of what comes there; and the further bounds of what comes by another port of its node
pub record Numbers : Type 0 where
  pub rate : EgressPort → Rate
  pub fed : EgressPort → ClassStream → Bool
  pub late : EgressPort → ClassStream → ℕ
  pub wait : EgressPort → ClassStream → ℕ
  pub spent : EgressPort → ClassStream → ℕ
  pub peak : EgressPort → ℕ
  pub more : EgressPort → EgressPort → List Bound

-- what streams bring to a port together, by what their Talkers may send
abbrev pub bound_of : Numbers → EgressPort → List ClassStream → Bound
bound_of n p xs =
    record {
      base = sum_by (λ x. x.limits.burst * second + x.limits.slope * n.late p x) xs;
      slope = sum_by (λ x. x.limits.slope) xs;
    }

-- the streams that are fed at a port whose Talker is its own station
abbrev pub own_streams : Numbers → List ClassStream → EgressPort → List ClassStream
own_streams n streams p = filter (λ x. n.fed p x && (x.talker.0 == p.node.0)) streams

-- those that come by another port of its node: their Talker lies behind that
abbrev pub streams_by : Setting → Numbers → List ClassStream → EgressPort → EgressPort → List ClassStream
streams_by s n streams p r = filter (λ x. n.fed p x && is_behind s.tree.links r x.talker.0) streams

-- the other ports of a port's node
abbrev pub other_ports : Setting → EgressPort → List EgressPort
other_ports s p = filter (λ r. not (is_port r p)) (ports_at s.tree.links p.node.0)

-- what comes from the station itself, and what comes by another port
abbrev pub own_group : Numbers → List ClassStream → EgressPort → Group
own_group n streams p = record { first = bound_of n p (own_streams n streams p); more = [] }

abbrev pub group_by : Setting → Numbers → List ClassStream → EgressPort → EgressPort → Group
group_by s n streams p r = record { first = bound_of n p (streams_by s n streams p r); more = n.more p r }

-- the groups of what comes to a port
abbrev pub groups_at : Setting → Numbers → List ClassStream → EgressPort → List Group
groups_at s n streams p =
    own_group n streams p ∷ map (group_by s n streams p) (other_ports s p)

-- one port sends into the node of another: it is the peer of this one of the node's other ports
pub record IsBefore (s : Setting) (p r : EgressPort) : Type 0 where
  pub port : HasPort s.tree r
  pub node : r.node.0 ≡ p.node.0
  pub other : is_port r p ≡ false

-- so many bits, that no stream of those that are fed at a port may send a longer frame
abbrev pub AreNoLonger : Numbers → List ClassStream → EgressPort → ℕ → Type 0
AreNoLonger n streams q most = All (λ x. n.fed q x ≡ true → x.limits.most ≤ most) streams

-- what comes of a class over a port's line: a frame, and then what the line carries
abbrev pub line_bound : Rate → Rate → ℕ → Bound
line_bound behind here most =
    record { base = most * second + bits_of behind * bit_ps_of here; slope = bits_of behind }

-- and by the class's credit there: a frame, what the credit may be between, and then its slope
abbrev pub class_bound : Rate → Rate → ℕ → ℕ → ℕ → Bound
class_bound behind here slope idle most =
    record {
      base = (idle * slope + (bits_of behind - slope) * most) * bit_ps_of behind + most * second
          + slope * bit_ps_of here;
      slope = slope;
    }

-- a further bound of what comes to a port by another of its node is one of these two, of the port
-- that sends there
pub record IsFurther (s : Setting) (traffic : Traffic) (streams : List ClassStream) (n : Numbers) (p r : EgressPort) (b : Bound) : Type 0 where
  pub most : ℕ
  pub longest : AreNoLonger n streams (peer_of s.tree.links r) most
  pub bound : (b ≡ line_bound (n.rate (peer_of s.tree.links r)) (n.rate p) most)
      ⊎ (b ≡ class_bound (n.rate (peer_of s.tree.links r)) (n.rate p)
      (class_slope traffic (last_force s (peer_of s.tree.links r)))
      (idle_of (bits_of (n.rate (peer_of s.tree.links r)))
      (first_slopes (last_force s (peer_of s.tree.links r))).slope_a traffic) most)

-- the numbers of a class keep the rules at a port, for its streams
pub record KeepRulesAt (s : Setting) (traffic : Traffic) (streams : List ClassStream) (n : Numbers) (p : EgressPort) : Type 0 where
  -- a stream is fed where it is booked and the station is its Talker's, or it is fed at a port that
  -- sends into the node
  pub fed_first : (x : ClassStream) → Contains streams x → is_booked s p x.id ≡ true → x.talker.0 ≡ p.node.0
      → n.fed p x ≡ true
  pub fed_on : (r : EgressPort) (x : ClassStream) → IsBefore s p r → Contains streams x
      → is_booked s p x.id ≡ true → n.fed (peer_of s.tree.links r) x ≡ true → n.fed p x ≡ true
  -- two frames of a stream that is fed there move towards each other by a bit time of the first
  -- port, and further on by the wait and a bit time of each
  pub late_first : (x : ClassStream) → Contains streams x → n.fed p x ≡ true → x.talker.0 ≡ p.node.0
      → n.late p x ≡ bit_ps_of (n.rate p)
  pub late_on : (r : EgressPort) (x : ClassStream) → IsBefore s p r → Contains streams x → n.fed p x ≡ true
      → is_behind s.tree.links r x.talker.0 ≡ true
      → n.late p x ≡ late_behind (n.late (peer_of s.tree.links r) x) (n.wait (peer_of s.tree.links r) x)
      (n.rate (peer_of s.tree.links r)) (n.rate p)
  -- what comes by another port has further bounds, or none
  pub more : (r : EgressPort) → IsBefore s p r → All (IsFurther s traffic streams n p r) (n.more p r)
  -- where a stream is fed the class has a slope, and what comes has a peak, by which it waits
  pub slope : (x : ClassStream) → Contains streams x → n.fed p x ≡ true → 0 < class_slope traffic (last_force s p)
  pub peak : (x : ClassStream) → Contains streams x → n.fed p x ≡ true
      → IsPeak (groups_at s n streams p) (class_slope traffic (last_force s p)) (n.peak p)
  pub wait : (x : ClassStream) → Contains streams x → n.fed p x ≡ true
      → n.wait p x
      ≡ wait_of (bits_of (n.rate p)) (class_slope traffic (last_force s p))
      (idle_of (bits_of (n.rate p)) (first_slopes (last_force s p)).slope_a traffic)
      (n.peak p) x.least
  -- a frame takes to the next bit time, its wait and its bits at each port
  pub spent_first : (x : ClassStream) → Contains streams x → n.fed p x ≡ true → x.talker.0 ≡ p.node.0
      → n.spent p x ≡ bit_ps_of (n.rate p) + (n.wait p x + x.least) * bit_ps_of (n.rate p)
  pub spent_on : (r : EgressPort) (x : ClassStream) → IsBefore s p r → Contains streams x → n.fed p x ≡ true
      → is_behind s.tree.links r x.talker.0 ≡ true
      → n.spent p x
      ≡ n.spent (peer_of s.tree.links r) x
      + (bit_ps_of (n.rate p) + (n.wait p x + x.least) * bit_ps_of (n.rate p))

-- they have the ports' rates, and keep the rules at each port
pub record KeepRules (s : Setting) (traffic : Traffic) (streams : List ClassStream) (n : Numbers) : Type 0 where
  pub rates : All (λ x. x.rate ≡ n.rate x.at) (all_places s.tree.links s.rates)
  pub at : (p : EgressPort) → HasPort s.tree p → KeepRulesAt s traffic streams n p
