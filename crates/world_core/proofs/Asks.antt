-- What the application of a node asks for stays at each step of a port.
use Rattle.std.proofs.Common.{◌≡◌, ℕ, List, [], ◌∷◌, refl}
use Rattle.std.specs.Prelude.{slice_get, slice_set, Option, Some, None, Result, Ok, Err}
use Rattle.srp_base.specs.declared.{mrp.App.App, mrp.App.TheVariants.Mvrp, mrp.App.TheVariants.Msrp}
use Rattle.mvrp_codec.specs.declared.pdu.MvrpPdu.{MvrpPdu}
use Rattle.mvrp_codec.specs.Meaning.{mvrp_reading}
use Rattle.msrp_codec.specs.declared.pdu.MsrpPdu.{MsrpPdu}
use Rattle.msrp_codec.specs.Meaning.{msrp_reading}
use Rattle.mvrp.specs.{Part.Part, Side.Vlans}
use Rattle.flat_side.specs.Side.{with_part}
use Rattle.msrp.specs.{PortState.PortState, Side.Streams, Side.with_port}
use Rattle.node_core.specs.declared.{types.Wire.Wire, types.NodeKey.TheVariants.Vlan, types.NodeKey.TheVariants.Srp, types.PortStep.PortStep}
use Rattle.node_core.specs.declared.types.PortStep.TheVariants.{Work, LeaveNow, LeaveAllNow, PeriodicNow, Due, Settle, Send}
use Rattle.node_core.specs.{State.NodeState, State.box_at, Step.port_step, Step.after_work, Step.worked_mvrp, Step.worked_msrp, Step.worked_app, Step.octets_to_say, Step.sent_octets, Links.spoilt_at}

-- the kind stays, and so does what the application asks for
pub record SameKindAndAsks (s t : NodeState) : Type 0 where
  pub kind : t.kind ≡ s.kind
  pub own : t.vlans.own ≡ s.vlans.own
  pub talks : t.streams.talks ≡ s.streams.talks
  pub listens : t.streams.listens ≡ s.streams.listens

-- MVRP's and MSRP's part of it, where a participant becomes another
own_part : (o : Option Part) (make : Part → Vlans) (v : Vlans) → ((s : Part) → (make s).own ≡ v.own) → (with_part o make v).own ≡ v.own
own_part None make v h = refl
own_part (Some s) make v h = h s

record SameAsks (v u : Streams) : Type 0 where
  talks : u.talks ≡ v.talks
  listens : u.listens ≡ v.listens

asks_port : (o : Option PortState) (make : PortState → Streams) (v : Streams) → ((p : PortState) → SameAsks v (make p)) → SameAsks v (with_port o make v)
asks_port None make v h = record { talks = refl; listens = refl }
asks_port (Some p) make v h = h p

-- a step of one application, or of the other, or of both
of_vlans : (s : NodeState) (u : Vlans) → u.own ≡ s.vlans.own → SameKindAndAsks s (record s { vlans = u })
of_vlans s u own = record { kind = refl; own = own; talks = refl; listens = refl }

of_streams : (s : NodeState) (u : Streams) → SameAsks s.streams u → SameKindAndAsks s (record s { streams = u })
of_streams s u asks = record { kind = refl; own = refl; talks = asks.talks; listens = asks.listens }

of_both : (s : NodeState) (u : Vlans) (v : Streams) → u.own ≡ s.vlans.own → SameAsks s.streams v → SameKindAndAsks s (record s { vlans = u; streams = v })
of_both s u v own asks = record { kind = refl; own = own; talks = asks.talks; listens = asks.listens }

own_at : (at : ℕ) (make : Part → Vlans) (v : Vlans) → ((s : Part) → (make s).own ≡ v.own) → (with_part (slice_get v.parts at) make v).own ≡ v.own
own_at at make v h = own_part (slice_get v.parts at) make v h

asks_at : (at : ℕ) (make : PortState → Streams) (v : Streams) → ((p : PortState) → SameAsks v (make p)) → SameAsks v (with_port (slice_get v.ports at) make v)
asks_at at make v h = asks_port (slice_get v.ports at) make v h

stays_app : (app : App) (at : ℕ) (octets : List ℕ) (s : NodeState) → SameKindAndAsks s (worked_app app at octets s).0
stays_app Mvrp at octets s = by (mvrp_reading octets)
  where
    by : (r : Result MvrpPdu ℕ) → SameKindAndAsks s (record s { vlans = (worked_mvrp s.clock at r s.vlans).0 })
    by (Ok pdu) = of_vlans s _ (own_at at _ s.vlans (λ p. refl))
    by (Err place) = of_vlans s s.vlans refl
stays_app Msrp at octets s = by (msrp_reading octets)
  where
    by : (r : Result MsrpPdu ℕ) → SameKindAndAsks s (record s { streams = (worked_msrp s.clock at r s.streams).0 })
    by (Ok pdu) = of_streams s _ (asks_at at _ s.streams (λ p. record { talks = refl; listens = refl }))
    by (Err place) = of_streams s s.streams (record { talks = refl; listens = refl })

stays_worked : (at : ℕ) (wires : List Wire) (s : NodeState) → SameKindAndAsks s (after_work at wires s).0
stays_worked at [] s = record { kind = refl; own = refl; talks = refl; listens = refl }
stays_worked at (wire ∷ wires) s =
    let h = stays_app wire.app at wire.octets (record s { inboxes = slice_set s.inboxes at wires }) in
    record { kind = h.kind; own = h.own; talks = h.talks; listens = h.listens }

stays_sent : (app : App) (at : ℕ) (o : Option (List ℕ)) (s : NodeState) → SameKindAndAsks s (sent_octets app at o s).0
stays_sent app at None s = record { kind = refl; own = refl; talks = refl; listens = refl }
stays_sent Mvrp at (Some octets) s = record { kind = refl; own = own_at at _ s.vlans (λ p. refl); talks = refl; listens = refl }
stays_sent Msrp at (Some octets) s =
    let h = asks_at at _ s.streams (λ p. record { talks = refl; listens = refl }) in
    record { kind = refl; own = refl; talks = h.talks; listens = h.listens }

pub stays_step : (step : PortStep) (at : ℕ) (s : NodeState) → SameKindAndAsks s (port_step step at s).0
stays_step Work at s = stays_worked at (box_at at s.inboxes) s
stays_step (LeaveNow (Vlan vid)) at s = of_vlans s _ (own_at at _ s.vlans (λ p. refl))
stays_step (LeaveNow (Srp key)) at s = of_streams s _ (asks_at at _ s.streams (λ p. record { talks = refl; listens = refl }))
stays_step (LeaveAllNow Mvrp) at s = of_vlans s _ (own_at at _ s.vlans (λ p. refl))
stays_step (LeaveAllNow Msrp) at s = of_streams s _ (asks_at at _ s.streams (λ p. record { talks = refl; listens = refl }))
stays_step (PeriodicNow Mvrp) at s = of_vlans s _ (own_at at _ s.vlans (λ p. refl))
stays_step (PeriodicNow Msrp) at s = of_streams s _ (asks_at at _ s.streams (λ p. record { talks = refl; listens = refl }))
stays_step Due at s = of_both s _ _ (own_at at _ s.vlans (λ p. refl)) (asks_at at _ s.streams (λ p. record { talks = refl; listens = refl }))
stays_step Settle at s = of_both s _ _ (own_at at _ s.vlans (λ p. refl)) (asks_at at _ s.streams (λ p. record { talks = refl; listens = refl }))
stays_step (Send app) at s = stays_sent app at (octets_to_say app at s) s

pub stays_spoilt : (app : App) (at : ℕ) (s : NodeState) → SameKindAndAsks s (spoilt_at app at s)
stays_spoilt Mvrp at s = of_vlans s _ (own_at at _ s.vlans (λ p. refl))
stays_spoilt Msrp at s = of_streams s _ (asks_at at _ s.streams (λ p. record { talks = refl; listens = refl }))
