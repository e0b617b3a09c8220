-- When a class has numbers, and why it has none, by the numbers of the ports before one.
use Rattle.std.specs.Prelude.{◌≡◌, ℕ, ◌^◌, ◌<◌, ◌≤◌, ◌⊎◌, true, List, [], sum_by}
use Rattle.std.specs.List.{Contains}
use Rattle.srp_base.specs.declared.numbers.EgressPort.{EgressPort}
use Rattle.srp_base.specs.Bandwidth.{bit_ps_of}
use Rattle.tree_topology.specs.{Topology.HasPort, Ports.peer_of, Walk.is_behind}
use Rattle.frame_flow.specs.Levels.{level_at}
use Rattle.delay_bound.specs.declared.{bound.Bound.Bound, bound.Group.Group, stream.ClassStream.ClassStream}
use Rattle.delay_bound.specs.{Bounds.first_slopes, Bounds.bases_of, Bounds.bases_with, Waits.late_behind}
use Rattle.delay_flow.specs.{Rules.IsBefore, Rules.Numbers, Rules.groups_at, Rules.KeepRules, Rules.KeepRulesAt, Ways.is_fed}
use Rattle.class_delays.specs.declared.{coming.Coming.Coming, delays.PortDelays.PortDelays}
use Rattle.class_delays.specs.declared.delays.Unbounded.{Unbounded}
use Rattle.class_delays.specs.declared.delays.Unbounded.TheVariants.{Steep, Large, NoMemory}
use Rattle.class_delays.specs.Given.{ClassSetting, class_traffic}
use Rattle.class_delays.specs.Table.{slope_at, numbers_of, fed_streams}
use Rattle.class_delays.specs.Reckoned.{groups_of, fed_by}

-- numbers keep the rules at each port that frames pass on their way to one: at each of a lower
-- level, as fewer nodes lie behind its peer
abbrev pub KeepRulesBelow : ClassSetting → EgressPort → Numbers → Type 0
KeepRulesBelow a p n =
    (q : EgressPort) → HasPort a.setting.tree q → level_at a.setting.tree q < level_at a.setting.tree p
    → KeepRulesAt a.setting (class_traffic a.class) a.streams n q

-- by these a stream that is fed at a port may be 2^128 ps late there, or more
pub record IsTooLate (a : ClassSetting) (p : EgressPort) (n : Numbers) : Type 0 where
  pub stream : ClassStream
  pub has : Contains a.streams stream
  pub fed : is_fed a.setting p stream ≡ true
  pub by : EgressPort
  pub other : IsBefore a.setting p by
  pub behind : is_behind a.setting.tree.links by stream.talker.0 ≡ true
  pub late : 2 ^ 128
      ≤ late_behind (n.late (peer_of a.setting.tree.links by) stream) (n.wait (peer_of a.setting.tree.links by) stream)
      (n.rate (peer_of a.setting.tree.links by)) (n.rate p)

-- the rules of how late streams are at a port
pub record HasLate (a : ClassSetting) (p : EgressPort) (n : Numbers) : Type 0 where
  pub first : (x : ClassStream) → Contains a.streams x → is_fed a.setting p x ≡ true → x.talker.0 ≡ p.node.0
      → n.late p x ≡ bit_ps_of (n.rate p)
  pub on : (r : EgressPort) (x : ClassStream) → IsBefore a.setting p r → Contains a.streams x
      → is_fed a.setting p x ≡ true → is_behind a.setting.tree.links r x.talker.0 ≡ true
      → n.late p x ≡ late_behind (n.late (peer_of a.setting.tree.links r) x) (n.wait (peer_of a.setting.tree.links r) x)
      (n.rate (peer_of a.setting.tree.links r)) (n.rate p)

-- the bounds of what comes to a port where streams are fed have bases of 2^126 or more together
abbrev pub HasLargeBases : ClassSetting → EgressPort → Numbers → Type 0
HasLargeBases a p n =
    HasLate a p n
    × (2 ^ 126 ≤ bases_of (groups_at a.setting n a.streams p))
    × (x : ClassStream) × Contains a.streams x × (is_fed a.setting p x ≡ true)

-- or a frame of a stream may take 2^128 ps or more up to there
abbrev pub TakesTooLong : ClassSetting → EgressPort → Numbers → Type 0
TakesTooLong a p n =
    KeepRulesAt a.setting (class_traffic a.class) a.streams n p
    × (x : ClassStream) × Contains a.streams x × (is_fed a.setting p x ≡ true) × (2 ^ 128 ≤ n.spent p x)

-- at a port where streams are fed the class has no slope, or the groups of these have more
-- together
abbrev pub IsSteepAt : ClassSetting → EgressPort → Type 0
IsSteepAt a p =
    ((slope_at a p ≡ 0) ⊎ (slope_at a p < first_slopes (groups_at a.setting (numbers_of a []) a.streams p)))
    × (x : ClassStream) × Contains a.streams x × (is_fed a.setting p x ≡ true)

-- the numbers of the ports before one keep the rules, and by these a number of the port itself is
-- larger than its type holds
abbrev pub IsLargeAt : ClassSetting → EgressPort → Numbers → Type 0
IsLargeAt a p n =
    KeepRulesBelow a p n × (IsTooLate a p n ⊎ (HasLargeBases a p n ⊎ TakesTooLong a p n))

-- at a port the class's slope is at least those of the streams that are fed there together, and
-- above 0 where there is one
pub record IsCoveredAt (a : ClassSetting) (p : EgressPort) : Type 0 where
  pub some : (x : ClassStream) → Contains a.streams x → is_fed a.setting p x ≡ true → 0 < slope_at a p
  pub slopes : sum_by (λ x. x.limits.slope) (fed_streams a p) ≤ slope_at a p

-- why there are none: a slope is too small, or a number is too large, as it is found in what is
-- reckoned port by port
abbrev pub IsUnbounded : ClassSetting → Unbounded → Type 0
IsUnbounded a (Steep p) = HasPort a.setting.tree p × IsSteepAt a p
IsUnbounded a (Large p) =
    HasPort a.setting.tree p × (ports : List PortDelays) × IsLargeAt a p (numbers_of a ports)
IsUnbounded a NoMemory = Unit {0}

-- the numbers of a port, where streams are fed there, are such as their types hold: each stream is
-- below 2^128 ps late, the bases of the bounds of what comes are below 2^126 together, and a frame
-- takes below 2^128 ps up to there
pub record IsSmallAt (a : ClassSetting) (p : EgressPort) (n : Numbers) : Type 0 where
  pub late : (x : ClassStream) → Contains a.streams x → is_fed a.setting p x ≡ true → n.late p x < 2 ^ 128
  pub bases : (x : ClassStream) → Contains a.streams x → is_fed a.setting p x ≡ true
      → bases_of (groups_at a.setting n a.streams p) < 2 ^ 126
  pub spent : (x : ClassStream) → Contains a.streams x → is_fed a.setting p x ≡ true → n.spent p x < 2 ^ 128

-- a class has bounds: at each port where streams are fed its slope is above 0 and at least those of
-- the groups together, and there are numbers that keep the rules of all ports, such as their types
-- hold
pub record HasBounds (a : ClassSetting) : Type 0 where
  pub slopes : (p : EgressPort) → HasPort a.setting.tree p → IsSteepAt a p → ⊥
  pub ports : List PortDelays
  pub rules : KeepRules a.setting (class_traffic a.class) a.streams (numbers_of a ports)
  pub small : (p : EgressPort) → HasPort a.setting.tree p → IsSmallAt a p (numbers_of a ports)

-- by two tables the numbers of a port are the same: those of each stream that is fed there, and the
-- peak of what comes there where one is
pub record AreSameAt (a : ClassSetting) (one other : Numbers) (p : EgressPort) : Type 0 where
  pub late : (x : ClassStream) → Contains a.streams x → is_fed a.setting p x ≡ true → one.late p x ≡ other.late p x
  pub peak : (x : ClassStream) → Contains a.streams x → is_fed a.setting p x ≡ true → one.peak p ≡ other.peak p
  pub wait : (x : ClassStream) → Contains a.streams x → is_fed a.setting p x ≡ true → one.wait p x ≡ other.wait p x
  pub spent : (x : ClassStream) → Contains a.streams x → is_fed a.setting p x ≡ true → one.spent p x ≡ other.spent p x

-- why the code finds none, at a port. No public contract names these words
abbrev pub IsFaultOfComing : ClassSetting → List PortDelays → EgressPort → Unbounded → Type 0
IsFaultOfComing a ports p (Steep q) = ⊥
IsFaultOfComing a ports p (Large q) = (q ≡ p) × IsTooLate a p (numbers_of a ports)
IsFaultOfComing a ports p NoMemory = Unit {0}

abbrev pub IsFaultOfBound : EgressPort → Bound → Unbounded → Type 0
IsFaultOfBound p b (Steep q) = (q ≡ p) × (2 ^ 64 ≤ b.slope)
IsFaultOfBound p b (Large q) = (q ≡ p) × (2 ^ 128 ≤ b.base)
IsFaultOfBound p b NoMemory = Unit {0}

abbrev pub IsFaultOfFurther : EgressPort → List Bound → Unbounded → Type 0
IsFaultOfFurther p bs (Steep q) = ⊥
IsFaultOfFurther p bs (Large q) = (q ≡ p) × (2 ^ 128 ≤ sum_by (λ b. b.base) bs)
IsFaultOfFurther p bs NoMemory = Unit {0}

abbrev pub IsFaultOfGroup : EgressPort → Group → Unbounded → Type 0
IsFaultOfGroup p g (Steep q) = (q ≡ p) × (2 ^ 64 ≤ g.first.slope)
IsFaultOfGroup p g (Large q) = (q ≡ p) × (2 ^ 128 ≤ bases_with g.first g.more)
IsFaultOfGroup p g NoMemory = Unit {0}

abbrev pub IsFaultOfGroups : ClassSetting → EgressPort → List Coming → Unbounded → Type 0
IsFaultOfGroups a p cs (Steep q) = (q ≡ p) × (2 ^ 64 ≤ first_slopes (groups_of a p cs))
IsFaultOfGroups a p cs (Large q) = (q ≡ p) × (2 ^ 128 ≤ bases_of (groups_of a p cs))
IsFaultOfGroups a p cs NoMemory = Unit {0}

abbrev pub IsFaultOfPeak : ClassSetting → EgressPort → List Coming → Unbounded → Type 0
IsFaultOfPeak a p cs (Steep q) =
    (q ≡ p) × (cs ≡ [] → ⊥) × ((slope_at a p ≡ 0) ⊎ (slope_at a p < first_slopes (groups_of a p cs)))
IsFaultOfPeak a p cs (Large q) =
    (q ≡ p) × (cs ≡ [] → ⊥) × (2 ^ 126 ≤ bases_of (groups_of a p cs))
IsFaultOfPeak a p cs NoMemory = Unit {0}

abbrev pub IsFaultOfFed : ClassSetting → EgressPort → ℕ → List Coming → Unbounded → Type 0
IsFaultOfFed a p peak cs (Steep q) = ⊥
IsFaultOfFed a p peak cs (Large q) =
    (q ≡ p) × (c : Coming) × Contains cs c × (2 ^ 128 ≤ (fed_by a p peak c).spent)
IsFaultOfFed a p peak cs NoMemory = Unit {0}
