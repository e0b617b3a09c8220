-- What stays of an application at a node at each of its calls: of MVRP how many ports it has and what the application
-- declares, of MSRP the moment and what the application talks and listens to.
use Rattle.std.proofs.Common.{◌≡◌, ℕ, Bool, true, false, if◌then◌else◌, length, refl}
use Rattle.std.specs.Prelude.{slice_get, Option, Some, None}
use Rattle.std.proofs.Math.ListN.{length-set}
use Rattle.std.specs.Ordering.{nat_cmp}
use Rattle.srp_base.specs.declared.numbers.Cs.{Cs}
use Rattle.mvrp_codec.specs.declared.pdu.MvrpPdu.{MvrpPdu}
use Rattle.mrp_participant.specs.State.{due_state, left_state, leave_all_state, periodic_state}
use Rattle.mvrp.specs.{Part.Part, Part.received_part, Part.sent_part, Part.settled_part, Side.Vlans, Side.has_own, Side.is_flat, Side.received_vlans, Side.due_vlans, Side.left_vlans, Side.leave_all_vlans, Side.periodic_vlans, Side.sent_vlans, Side.spoilt_vlans, Side.settled_vlans, Side.requested_vlans}
use Rattle.flat_side.specs.Side.{with_part, awaiting_at}
use Rattle.msrp_codec.specs.declared.{pdu.MsrpKey.MsrpKey, pdu.MsrpPdu.MsrpPdu}
use Rattle.msrp.specs.declared.asking.SrpRequest.{SrpRequest}
use Rattle.msrp.specs.declared.asking.SrpRequest.TheVariants.{Talk, Hush, Listen, Unlisten}
use Rattle.msrp.specs.{PortState.PortState, Stream.talk_of, Side.Streams, Side.with_port, Side.is_talk, Side.has_talk, Side.has_listen, Side.received_streams, Side.due_streams, Side.left_streams, Side.leave_all_streams, Side.periodic_streams, Side.sent_streams, Side.spoilt_streams, Side.settled_streams, Side.requested_streams}

-- ---- MVRP

pub record StaysVlans (v u : Vlans) : Type 0 where
  pub count : length u.parts ≡ length v.parts
  pub own : u.own ≡ v.own

part : (o : Option Part) (make : Part → Vlans) (v : Vlans) → ((s : Part) → StaysVlans v (make s)) → StaysVlans v (with_part o make v)
part None make v h = record { count = refl; own = refl }
part (Some s) make v h = h s

vlans_at : (at : ℕ) (make : Part → Vlans) (v : Vlans) → ((s : Part) → StaysVlans v (make s)) → StaysVlans v (with_part (slice_get v.parts at) make v)
vlans_at at make v h = part (slice_get v.parts at) make v h

pub vlans_received : (now : Cs) (at : ℕ) (pdu : MvrpPdu) (v : Vlans) → StaysVlans v (received_vlans now at pdu v)
vlans_received now at pdu v = vlans_at at _ v (λ s. record { count = length-set v.parts at (received_part now pdu s); own = refl })

pub vlans_due : (now : Cs) (at : ℕ) (v : Vlans) → StaysVlans v (due_vlans now at v)
vlans_due now at v = vlans_at at _ v (λ s. record { count = length-set v.parts at (due_state now s); own = refl })

pub vlans_left : (at vid : ℕ) (v : Vlans) → StaysVlans v (left_vlans at vid v)
vlans_left at vid v = vlans_at at _ v (λ s. record { count = length-set v.parts at (left_state nat_cmp vid s); own = refl })

pub vlans_leave_all : (now : Cs) (at : ℕ) (v : Vlans) → StaysVlans v (leave_all_vlans now at v)
vlans_leave_all now at v = vlans_at at _ v (λ s. record { count = length-set v.parts at (leave_all_state now s); own = refl })

pub vlans_periodic : (at : ℕ) (v : Vlans) → StaysVlans v (periodic_vlans at v)
vlans_periodic at v = vlans_at at _ v (λ s. record { count = length-set v.parts at (periodic_state s); own = refl })

pub vlans_sent : (now : Cs) (at : ℕ) (v : Vlans) → StaysVlans v (sent_vlans now at v)
vlans_sent now at v = vlans_at at _ v (λ s. record { count = length-set v.parts at (sent_part now s); own = refl })

pub vlans_spoilt : (at : ℕ) (v : Vlans) → StaysVlans v (spoilt_vlans at v)
vlans_spoilt at v = vlans_at at _ v (λ (s : Part). record { count = length-set v.parts at (record s { sound = false }); own = refl })

pub vlans_settled : (at : ℕ) (v : Vlans) → StaysVlans v (settled_vlans at v)
vlans_settled at v =
    vlans_at at _ v (λ s. record { count = length-set v.parts at (settled_part (is_flat v at) (awaiting_at at v) s); own = refl })

either : (b : Bool) (x y v : Vlans) → length x.parts ≡ length v.parts → length y.parts ≡ length v.parts → length (if b then x else y).parts ≡ length v.parts
either true x y v h k = h
either false x y v h k = k

-- a request keeps how many ports there are
pub count_requested : (vid : ℕ) (declared : Bool) (v : Vlans) → length (requested_vlans vid declared v).parts ≡ length v.parts
count_requested vid true v = either (has_own vid v) _ _ v refl refl
count_requested vid false v = either (has_own vid v) _ _ v refl refl

-- ---- MSRP

pub record StaysStreams (v u : Streams) : Type 0 where
  pub moment : u.moment ≡ v.moment
  pub talks : u.talks ≡ v.talks
  pub listens : u.listens ≡ v.listens

port : (o : Option PortState) (make : PortState → Streams) (v : Streams) → ((p : PortState) → StaysStreams v (make p)) → StaysStreams v (with_port o make v)
port None make v h = record { moment = refl; talks = refl; listens = refl }
port (Some p) make v h = h p

streams_at : (at : ℕ) (make : PortState → Streams) (v : Streams) → ((p : PortState) → StaysStreams v (make p)) → StaysStreams v (with_port (slice_get v.ports at) make v)
streams_at at make v h = port (slice_get v.ports at) make v h

pub streams_received : (now : Cs) (at : ℕ) (pdu : MsrpPdu) (v : Streams) → StaysStreams v (received_streams now at pdu v)
streams_received now at pdu v = streams_at at _ v (λ p. record { moment = refl; talks = refl; listens = refl })

pub streams_due : (now : Cs) (at : ℕ) (v : Streams) → StaysStreams v (due_streams now at v)
streams_due now at v = streams_at at _ v (λ p. record { moment = refl; talks = refl; listens = refl })

pub streams_left : (at : ℕ) (key : MsrpKey) (v : Streams) → StaysStreams v (left_streams at key v)
streams_left at key v = streams_at at _ v (λ p. record { moment = refl; talks = refl; listens = refl })

pub streams_leave_all : (now : Cs) (at : ℕ) (v : Streams) → StaysStreams v (leave_all_streams now at v)
streams_leave_all now at v = streams_at at _ v (λ p. record { moment = refl; talks = refl; listens = refl })

pub streams_periodic : (at : ℕ) (v : Streams) → StaysStreams v (periodic_streams at v)
streams_periodic at v = streams_at at _ v (λ p. record { moment = refl; talks = refl; listens = refl })

pub streams_sent : (now : Cs) (at : ℕ) (v : Streams) → StaysStreams v (sent_streams now at v)
streams_sent now at v = streams_at at _ v (λ p. record { moment = refl; talks = refl; listens = refl })

pub streams_spoilt : (at : ℕ) (v : Streams) → StaysStreams v (spoilt_streams at v)
streams_spoilt at v = streams_at at _ v (λ p. record { moment = refl; talks = refl; listens = refl })

pub streams_settled : (at : ℕ) (v : Streams) → StaysStreams v (settled_streams at v)
streams_settled at v = streams_at at _ v (λ p. record { moment = refl; talks = refl; listens = refl })

of_either : (b : Bool) (x y v : Streams) → x.moment ≡ v.moment → y.moment ≡ v.moment → (if b then x else y).moment ≡ v.moment
of_either true x y v h k = h
of_either false x y v h k = k

-- a request keeps the moment
pub moment_requested : (request : SrpRequest) (v : Streams) → (requested_streams request v).moment ≡ v.moment
moment_requested (Talk talker) v = of_either (is_talk (talk_of talker.stream v.talks) talker) _ _ v refl refl
moment_requested (Hush stream) v = of_either (has_talk stream v) _ _ v refl refl
moment_requested (Listen stream) v = of_either (has_listen stream v) _ _ v refl refl
moment_requested (Unlisten stream) v = of_either (has_listen stream v) _ _ v refl refl
