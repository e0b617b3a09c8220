-- The laws of a node, from which those of its network follow: what happens at one place leaves the
-- others, keeps the duties of the place's link, and keeps what every node keeps.
use Rattle.std.specs.Prelude.{◌≡◌, ◌≢◌, ◌<◌, ◌^◌, ◌+◌, ℕ, List, [], ◌++◌, Some, option_map, slice_get}
use Rattle.srp_base.specs.declared.numbers.Cs.{Cs}
use Rattle.tree_topology.specs.declared.graph.NodeKind.{NodeKind}
use Rattle.tree_topology.specs.declared.graph.NodeKind.TheVariants.{Station}
use Rattle.mrp_participant.specs.Link.{with_repeat}
use Rattle.link_net.specs.Meaning.{NodeMeaning, without, with_one, carried_at, lost_at, repeated_at, forged_at}

-- the next moment
abbrev pub next_of : Cs → Cs
next_of now = record { 0 = now.0 + 1 }

module _ {Name Step Reply Request Pdu : Type 0} (node : NodeMeaning Name Step Reply Request Pdu) where
  -- ---- other places

  -- two states of a node have the same at a place: participants, and PDUs that wait
  pub record IsSameAt (at : ℕ) (s t : node.State) : Type 0 where
    pub part : (n : Name) → node.part_at n at t ≡ node.part_at n at s
    pub inbox : node.inbox at t ≡ node.inbox at s
    pub outbox : node.outbox at t ≡ node.outbox at s

  -- a change of a node leaves the number of its ports, and what there is at all its places
  pub record LeavesAll (change : node.State → node.State) : Type 0 where
    pub ports : (s : node.State) → node.ports_of (change s) ≡ node.ports_of s
    pub places : (k : ℕ) (s : node.State) → IsSameAt k s (change s)

  -- or at all but one
  pub record LeavesOthers (at : ℕ) (change : node.State → node.State) : Type 0 where
    pub ports : (s : node.State) → node.ports_of (change s) ≡ node.ports_of s
    pub places : (k : ℕ) (s : node.State) → at ≢ k → IsSameAt k s (change s)

  -- What happens at one place of a node leaves all others; a request and the clock leave all.
  pub record HasPlaceLaws : Type 0 where
    pub step : (now : Cs) (step : Step) (at : ℕ) → LeavesOthers at (λ s. (node.stepped now step at s).0)
    pub spoils : (n : Name) (at : ℕ) → LeavesOthers at (node.spoilt n at)
    pub inbox : (at : ℕ) (pdus : List Pdu) → LeavesOthers at (node.with_inbox at pdus)
    pub outbox : (at : ℕ) (pdus : List Pdu) → LeavesOthers at (node.with_outbox at pdus)
    pub request : (request : Request) → LeavesAll (λ s. (node.asked request s).0)
    pub tick : (now : Cs) → LeavesAll (node.ticked now)

  -- ---- the PDUs that wait

  -- Setting the PDUs of a box at a place leaves the participants and the other box, and spoiling
  -- leaves both boxes. A box that is set to what it holds changes nothing, and an outbox that is
  -- set twice is as if it were set once.
  pub record HasBoxLaws : Type 0 where
    pub in_part : (n : Name) (at : ℕ) (pdus : List Pdu) (s : node.State)
        → node.part_at n at (node.with_inbox at pdus s) ≡ node.part_at n at s
    pub in_out : (at : ℕ) (pdus : List Pdu) (s : node.State)
        → node.outbox at (node.with_inbox at pdus s) ≡ node.outbox at s
    pub in_same : (at : ℕ) (s : node.State) → node.with_inbox at (node.inbox at s) s ≡ s
    pub out_part : (n : Name) (at : ℕ) (pdus : List Pdu) (s : node.State)
        → node.part_at n at (node.with_outbox at pdus s) ≡ node.part_at n at s
    pub out_in : (at : ℕ) (pdus : List Pdu) (s : node.State)
        → node.inbox at (node.with_outbox at pdus s) ≡ node.inbox at s
    pub out_none : (at : ℕ) (s : node.State) → node.outbox at (node.with_outbox at [] s) ≡ []
    pub out_same : (at : ℕ) (s : node.State) → node.with_outbox at (node.outbox at s) s ≡ s
    pub out_twice : (at : ℕ) (pdus more : List Pdu) (s : node.State)
        → node.with_outbox at more (node.with_outbox at pdus s) ≡ node.with_outbox at more s
    pub spoilt_in : (n : Name) (at : ℕ) (s : node.State)
        → node.inbox at (node.spoilt n at s) ≡ node.inbox at s
    pub spoilt_out : (n : Name) (at : ℕ) (s : node.State)
        → node.outbox at (node.spoilt n at s) ≡ node.outbox at s

  -- ---- the duties of a link

  -- What happens at a link keeps the duties of its ends in each application. The near end is at the
  -- place `at` of state s; what is in flight from either end came in at the other, or is to go out.
  pub record HasDutyLaws : Type 0 where
    -- either end is the near one
    pub turns : (n : Name) (near far : node.Part n) (sent coming : List Pdu)
        → node.duties n near far sent coming → node.duties n far near coming sent
    -- the near port makes a step
    pub step : (kind : NodeKind) (now : Cs) (step : Step) (at : ℕ) (s : node.State)
        (n : Name) (x y far : node.Part n) (far_in far_out : List Pdu)
        → let t = (node.stepped now step at s).0 in
        node.IsKept kind now s → node.part_at n at s ≡ Some x → node.part_at n at t ≡ Some y
        → node.duties n x far (far_in ++ node.outbox at s) (node.inbox at s ++ far_out)
        → node.duties n y far (far_in ++ node.outbox at t) (node.inbox at t ++ far_out)
    -- a PDU is there twice, the copy right behind its original
    pub repeats : (n : Name) (near far : node.Part n) (sent came far_out : List Pdu) (index : ℕ)
        → node.duties n near far sent (came ++ far_out)
        → node.duties n near far sent (with_repeat index came ++ far_out)
    -- a PDU is lost, and in its application neither end is sound any more
    pub loses : (n lost : Name) (at k : ℕ) (s t : node.State) (x y far other : node.Part n)
        (sent came far_out : List Pdu) (index : ℕ)
        → node.part_at n at s ≡ Some x → node.part_at n at (node.spoilt lost at s) ≡ Some y
        → node.part_at n k t ≡ Some far → node.part_at n k (node.spoilt lost k t) ≡ Some other
        → option_map node.name_of (slice_get came index) ≡ Some lost
        → node.duties n x far sent (came ++ far_out)
        → node.duties n y other sent (without index came ++ far_out)
    -- a PDU is forged, and in its application neither end is sound any more
    pub forges : (n forged : Name) (at k : ℕ) (s t : node.State) (x y far other : node.Part n)
        (sent came far_out : List Pdu) (index : ℕ) (pdu : Pdu)
        → node.part_at n at s ≡ Some x → node.part_at n at (node.spoilt forged at s) ≡ Some y
        → node.part_at n k t ≡ Some far → node.part_at n k (node.spoilt forged k t) ≡ Some other
        → node.name_of pdu ≡ forged
        → node.duties n x far sent (came ++ far_out)
        → node.duties n y other sent (with_one index pdu came ++ far_out)

  -- ---- what every node keeps

  -- a change keeps what a node of its kind keeps at a moment
  abbrev pub KeepsAt : Cs → (node.State → node.State) → Type 0
  KeepsAt now change =
      (kind : NodeKind) (s : node.State) → node.IsKept kind now s → node.IsKept kind now (change s)

  -- A node that keeps it has a participant in each application and both boxes at each of its
  -- places, may be asked where it is a station, and its clock may go on; and what happens keeps it.
  pub record HasKeepingLaws : Type 0 where
    pub part : (kind : NodeKind) (now : Cs) (n : Name) (at : ℕ) (s : node.State)
        → node.IsKept kind now s → at < node.ports_of s
        → (x : node.Part n) × (node.part_at n at s ≡ Some x)
    pub inbox : (kind : NodeKind) (now : Cs) (at : ℕ) (pdus : List Pdu) (s : node.State)
        → node.IsKept kind now s → at < node.ports_of s
        → node.inbox at (node.with_inbox at pdus s) ≡ pdus
    pub outbox : (kind : NodeKind) (now : Cs) (at : ℕ) (pdus : List Pdu) (s : node.State)
        → node.IsKept kind now s → at < node.ports_of s
        → node.outbox at (node.with_outbox at pdus s) ≡ pdus
    pub can_ask : (now : Cs) (request : Request) (s : node.State)
        → node.IsKept Station now s → node.CanAsk request s
    pub can_tick : (kind : NodeKind) (now : Cs) (s : node.State) → now.0 < 2 ^ 61
        → node.IsKept kind now s → node.CanTick (next_of now) s
    pub step : (now : Cs) (step : Step) (at : ℕ) → KeepsAt now (λ s. (node.stepped now step at s).0)
    pub request : (now : Cs) (request : Request) (s : node.State) → node.IsRequest request
        → node.IsKept Station now s → node.IsKept Station now (node.asked request s).0
    pub spoils : (now : Cs) (n : Name) (at : ℕ) → KeepsAt now (node.spoilt n at)
    pub loses : (now : Cs) (at index : ℕ) → KeepsAt now (lost_at node at index)
    pub repeats : (now : Cs) (at index : ℕ) → KeepsAt now (repeated_at node at index)
    pub forges : (now : Cs) (at index : ℕ) (pdu : Pdu) → node.IsPdu pdu → node.IsShort pdu
        → KeepsAt now (forged_at node at index pdu)
    pub empties : (now : Cs) (at : ℕ) → KeepsAt now (node.with_outbox at [])
    -- what is to go out from a node may come in at another
    pub carries : (kind : NodeKind) (now : Cs) (at k : ℕ) (s : node.State) → node.IsKept kind now s
        → KeepsAt now (carried_at node k (node.outbox at s))
    pub tick : (kind : NodeKind) (now : Cs) (s : node.State) → now.0 < 2 ^ 61
        → node.IsKept kind now s → node.IsKept kind (next_of now) (node.ticked (next_of now) s)

  -- ---- new nodes

  -- A new node keeps it at moment 0, has no PDUs, and two new nodes meet the duties of a link.
  pub record HasStartLaws : Type 0 where
    pub keeps : (kind : NodeKind) (s : node.State) → node.IsNew kind s → node.IsKept kind (record { 0 = 0 }) s
    pub inbox : (kind : NodeKind) (at : ℕ) (s : node.State) → node.IsNew kind s → node.inbox at s ≡ []
    pub outbox : (kind : NodeKind) (at : ℕ) (s : node.State) → node.IsNew kind s → node.outbox at s ≡ []
    pub duties : (kind other : NodeKind) (n : Name) (at k : ℕ) (s t : node.State) (near far : node.Part n)
        → node.IsNew kind s → node.IsNew other t → node.part_at n at s ≡ Some near
        → node.part_at n k t ≡ Some far → node.duties n near far [] []

  -- all laws of a node
  pub record HasNodeLaws : Type 0 where
    pub places : HasPlaceLaws
    pub boxes : HasBoxLaws
    pub duties : HasDutyLaws
    pub keeps : HasKeepingLaws
    pub starts : HasStartLaws
