-- What holds of every application at link ports.
use Rattle.std.specs.Prelude.{◌≡◌, ◌≢◌, ◌<◌, ℕ, ◌+◌, ◌^◌, [], ◌∷◌, ◌++◌, List, Some}
use Rattle.srp_base.specs.declared.numbers.Cs.{Cs}
use Rattle.mrp_participant.specs.Link.{with_repeat}
use Rattle.link_app.specs.Wires.{NamedOctets, of_app}
use Rattle.link_app.specs.Words.{AppWords}

module _ {Name Key Request : Type 0} (w : AppWords Name Key Request) where
  -- ---- a state and the state after a call

  -- the participants at each place but one are as they were
  abbrev pub IsSameElsewhere : ℕ → w.State → w.State → Type 0
  IsSameElsewhere at s t = (n : Name) (k : ℕ) → at ≢ k → w.part_at n k t ≡ w.part_at n k s

  -- all participants are as they were
  abbrev pub HasSameParts : w.State → w.State → Type 0
  HasSameParts s t = (n : Name) (k : ℕ) → w.part_at n k t ≡ w.part_at n k s

  -- there are as many ports; what every state keeps is kept, where what came in is such as it
  -- needs; and the moment stays
  pub record Stays (Needs : Type 0) (s t : w.State) : Type 0 where
    pub ports : w.ports_of t ≡ w.ports_of s
    pub kept : Needs → w.IsKept s → w.IsKept t
    pub moment : (now : Cs) → w.IsAt now s → w.IsAt now t

  -- what a call at a place makes of a participant there keeps the duties of its link, whoever
  -- stands at the far end, while the PDUs on their way there and from there become others
  abbrev pub KeepsDuties :
      ℕ → w.State → w.State → (there from there' from' : List (NamedOctets Name)) → Type 0
  KeepsDuties at s t there from there' from' =
      (n : Name) (x y z : w.Part n) → w.IsKept s
      → w.part_at n at s ≡ Some x → w.part_at n at t ≡ Some y
      → w.AreDutiesMet n x z there from → w.AreDutiesMet n y z there' from'

  -- a call at a place leaves what is at other places, and asks for nothing
  pub record StaysAt (Needs : Type 0) (at : ℕ) (s t : w.State) : Type 0 where
    pub stays : Stays Needs s t
    pub idle : w.IsIdle s → w.IsIdle t
    pub elsewhere : IsSameElsewhere at s t

  -- a call at a place that says nothing
  pub record IsCallAt (at : ℕ) (s t : w.State) : Type 0 where
    pub stays : StaysAt (Unit {0}) at s t
    pub duties : (there from : List (NamedOctets Name)) → KeepsDuties at s t there from there from

  -- the clock went on to a moment
  pub record IsClocked (now : Cs) (s t : w.State) : Type 0 where
    pub kept : w.IsKept s → w.IsKept t
    pub moment : w.IsAt now t
    pub idle : w.IsIdle s → w.IsIdle t

  -- a state at the start
  pub record Begins (s : w.State) : Type 0 where
    pub kept : w.IsKept s
    pub idle : w.IsIdle s
    pub moment : w.IsAt (record { 0 = 0 }) s

  -- ---- the laws

  pub record AppLaws : Type 0 where
    -- each application has a participant at each place that there is, and at no other
    pub part_within :
        (n : Name) (at : ℕ) (s : w.State) (x : w.Part n)
        → w.IsKept s → w.part_at n at s ≡ Some x → at < w.ports_of s
    pub part_there :
        (n : Name) (at : ℕ) (s : w.State)
        → w.IsKept s → at < w.ports_of s → (x : w.Part n) × (w.part_at n at s ≡ Some x)
    -- a new state keeps what every state keeps, and between two of them the duties are met
    pub begins : (s : w.State) → w.IsNew s → Begins s
    pub begins_met :
        (n : Name) (at at' : ℕ) (s s' : w.State) (x z : w.Part n) → w.IsNew s → w.IsNew s'
        → w.part_at n at s ≡ Some x → w.part_at n at' s' ≡ Some z → w.AreDutiesMet n x z [] []
    -- the other end of a link sees the same
    pub turns :
        (n : Name) (x z : w.Part n) (there from : List (NamedOctets Name))
        → w.AreDutiesMet n x z there from → w.AreDutiesMet n z x from there
    -- a copy right behind its original says nothing more
    pub repeats :
        (n : Name) (x z : w.Part n) (index : ℕ) (front back from : List (NamedOctets Name))
        → w.AreDutiesMet n x z (front ++ back) from
        → w.AreDutiesMet n x z (with_repeat index front ++ back) from
    -- what came in, the front of what was on its way from the far end
    pub receipt :
        (m : Name) (now : Cs) (at : ℕ) (octets : List ℕ) (s : w.State)
        → StaysAt (w.IsFit m octets) at s (w.after_receipt m now at octets s)
    pub receipt_met :
        (m : Name) (now : Cs) (at : ℕ) (octets : List ℕ) (s : w.State)
        (there from : List (NamedOctets Name))
        → KeepsDuties at s (w.after_receipt m now at octets s)
        there (record { app = m; octets = octets } ∷ from) there from
    -- what is said, the last of what is on its way to the far end
    pub sending :
        (m : Name) (now : Cs) (at : ℕ) (s : w.State)
        → StaysAt (Unit {0}) at s (w.after_sending m now at s)
    pub sending_fit :
        (m : Name) (now : Cs) (at : ℕ) (octets : List ℕ) (s : w.State)
        → w.IsKept s → w.octets_to_say m now at s ≡ Some octets → w.IsFit m octets
    pub sending_met :
        (m : Name) (now : Cs) (at : ℕ) (octets : List ℕ) (s : w.State)
        (there from : List (NamedOctets Name))
        → w.octets_to_say m now at s ≡ Some octets
        → KeepsDuties at s (w.after_sending m now at s)
        there from (there ++ (record { app = m; octets = octets } ∷ [])) from
    -- calls that say nothing
    pub due : (now : Cs) (at : ℕ) (s : w.State) → IsCallAt at s (w.after_due now at s)
    pub settling : (at : ℕ) (s : w.State) → IsCallAt at s (w.after_settling at s)
    pub leave : (key : Key) (at : ℕ) (s : w.State) → IsCallAt at s (w.after_leave key at s)
    pub leave_all :
        (m : Name) (now : Cs) (at : ℕ) (s : w.State)
        → IsCallAt at s (w.after_leave_all m now at s)
    pub periodic : (m : Name) (at : ℕ) (s : w.State) → IsCallAt at s (w.after_periodic m at s)
    -- calls at no place
    pub request : (r : Request) (s : w.State) → Stays (w.IsAskable r) s (w.after_request r s)
    pub request_parts : (r : Request) (s : w.State) → HasSameParts s (w.after_request r s)
    pub clock_ports : (now : Cs) (s : w.State) → w.ports_of (w.after_clock now s) ≡ w.ports_of s
    pub clock_parts : (now : Cs) (s : w.State) → HasSameParts s (w.after_clock now s)
    pub clock : (now : Cs) (s : w.State) → w.CanClock now s → IsClocked now s (w.after_clock now s)
    -- below 2^61 cs it may go on to the next moment
    pub can_clock :
        (now : Cs) (s : w.State) → now.0 < 2 ^ 61
        → w.IsAt now s → w.CanClock (record { 0 = now.0 + 1 }) s
    -- where an application's participants at both ends are spoilt, its PDUs on the way may become
    -- others: one is lost, or there is one that nobody sent
    pub spoiling :
        (m : Name) (at : ℕ) (s : w.State) → StaysAt (Unit {0}) at s (w.after_spoiling m at s)
    pub spoiling_met :
        (n m : Name) (at at' : ℕ) (s s' : w.State) (x y z u : w.Part n)
        (front back from : List (NamedOctets Name)) (old new : List (List ℕ))
        → w.part_at n at s ≡ Some x → w.part_at n at (w.after_spoiling m at s) ≡ Some y
        → w.part_at n at' s' ≡ Some z → w.part_at n at' (w.after_spoiling m at' s') ≡ Some u
        → w.AreDutiesMet n x z (front ++ (of_app m old ++ back)) from
        → w.AreDutiesMet n y u (front ++ (of_app m new ++ back)) from
