-- Contents are one where each part is.
use Rattle.std.proofs.Common.{◌≡◌, ◌∙◌, Bool, true, ◌&&◌, ◌==◌, refl, ap}
use Rattle.std.proofs.lemmas.Bool.{and_parts, eqb-true}
use Rattle.srp_base.specs.declared.{bandwidth.Rank.Rank, bandwidth.Rank.TheVariants.Emergency, bandwidth.Rank.TheVariants.Normal, streams.Talker.Talker, streams.Failure.Failure, streams.ListenerKind.ListenerKind}
use Rattle.srp_base.specs.declared.streams.ListenerKind.TheVariants.{AskingFailed, Ready, ReadyFailed}
use Rattle.msrp_codec.specs.declared.pdu.MsrpContent.{MsrpContent}
use Rattle.msrp_codec.specs.declared.pdu.MsrpContent.TheVariants.{Advertise, Failed, Listener, Domain}
use Rattle.srp_base.specs.{contracts.streams.TalkerPartialEq.TheImpl.ghosts as talker_equality, contracts.streams.FailurePartialEq.TheImpl.ghosts as failure_equality, contracts.streams.ListenerKindPartialEq.TheImpl.ghosts as kind_equality, contracts.bandwidth.RankPartialEq.TheImpl.ghosts as rank_equality}
use Rattle.msrp.specs.Part.{same_content}

-- whether two ranks are one
abbrev same_rank : Rank → Rank → Bool
same_rank = rank_equality.eq

-- whether two Talkers state the same, field by field
abbrev equal_talkers : Talker → Talker → Bool
equal_talkers = talker_equality.eq

-- whether two failures name one bridge and one code
abbrev same_failure : Failure → Failure → Bool
same_failure = failure_equality.eq

-- whether two Listeners declare the same
abbrev same_kind : ListenerKind → ListenerKind → Bool
same_kind = kind_equality.eq

rank_is : (a b : Rank) → same_rank a b ≡ true → a ≡ b
rank_is Emergency Emergency e = refl
rank_is Emergency Normal e = cc
rank_is Normal Emergency e = cc
rank_is Normal Normal e = refl

talker_is : (s t : Talker) → equal_talkers s t ≡ true → s ≡ t
talker_is s t h =
    let vids : Bool = s.vid == t.vid in
    let sizes : Bool = s.max_frame == t.max_frame in
    let counts : Bool = s.frames == t.frames in
    let priorities : Bool = s.priority == t.priority in
    let ranks : Bool = same_rank s.rank t.rank in
    let latencies : Bool = s.latency == t.latency in
    let a = and_parts (s.stream.0 == t.stream.0) ((s.dest == t.dest) && (vids && (sizes && (counts && (priorities && (ranks && latencies)))))) h in
    let b = and_parts (s.dest == t.dest) (vids && (sizes && (counts && (priorities && (ranks && latencies))))) a.1 in
    let c = and_parts vids (sizes && (counts && (priorities && (ranks && latencies)))) b.1 in
    let d = and_parts sizes (counts && (priorities && (ranks && latencies))) c.1 in
    let e = and_parts counts (priorities && (ranks && latencies)) d.1 in
    let f = and_parts priorities (ranks && latencies) e.1 in
    let g = and_parts ranks latencies f.1 in
    ap (λ n. record s { stream = record { 0 = n } }) (eqb-true s.stream.0 t.stream.0 a.0)
    ∙ (ap (λ n. record s { stream = t.stream; dest = n }) (eqb-true s.dest t.dest b.0)
    ∙ (ap (λ n. record s { stream = t.stream; dest = t.dest; vid = n }) (eqb-true s.vid t.vid c.0)
    ∙ (ap (λ n. record t { max_frame = n; frames = s.frames; priority = s.priority; rank = s.rank; latency = s.latency }) (eqb-true s.max_frame t.max_frame d.0)
    ∙ (ap (λ n. record t { frames = n; priority = s.priority; rank = s.rank; latency = s.latency }) (eqb-true s.frames t.frames e.0)
    ∙ (ap (λ n. record t { priority = n; rank = s.rank; latency = s.latency }) (eqb-true s.priority t.priority f.0)
    ∙ (ap (λ r. record t { rank = r; latency = s.latency }) (rank_is s.rank t.rank g.0)
    ∙ ap (λ n. record t { latency = n }) (eqb-true s.latency t.latency g.1)))))))

failure_is : (f g : Failure) → same_failure f g ≡ true → f ≡ g
failure_is f g h =
    let a = and_parts (f.bridge.0 == g.bridge.0) (f.code == g.code) h in
    ap (λ n. record f { bridge = record { 0 = n } }) (eqb-true f.bridge.0 g.bridge.0 a.0)
    ∙ ap (λ n. record g { code = n }) (eqb-true f.code g.code a.1)

kind_is : (a b : ListenerKind) → same_kind a b ≡ true → a ≡ b
kind_is AskingFailed AskingFailed h = refl
kind_is Ready Ready h = refl
kind_is ReadyFailed ReadyFailed h = refl
kind_is _ _ h = cc

-- contents that compare as the same are one
pub content_one : (a b : MsrpContent) → same_content a b ≡ true → a ≡ b
content_one (Advertise s) (Advertise t) h = ap (λ x. Advertise x) (talker_is s t h)
content_one (Failed s f) (Failed t g) h = let a = and_parts _ _ h in ap (λ x. Failed x f) (talker_is s t a.0) ∙ ap (λ g. Failed t g) (failure_is f g a.1)
content_one (Listener k) (Listener l) h = ap (λ x. Listener x) (kind_is k l h)
content_one (Domain p v) (Domain q w) h = let a = and_parts (p == q) (v == w) h in ap (λ x. Domain x v) (eqb-true p q a.0) ∙ ap (λ x. Domain q x) (eqb-true v w a.1)
content_one a b h = cc
