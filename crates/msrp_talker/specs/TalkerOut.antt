-- What a port declares of a Talker that is registered at another port (IEEE Std 802.1Q-2018,
-- 35.2.4.3). The order in which reasons to refuse are checked is this project's own.
use Rattle.std.specs.Prelude.{◌≡◌, ℕ, ◌+◌, ◌-◌, ◌^◌, min, ◌==◌, Bool, nat_lt, if◌then◌else◌, is_none, Option, Some, None, option_map}
use Rattle.std.specs.Option.{option_or}
use Rattle.srp_base.specs.declared.{bandwidth.Class.Class, bandwidth.Class.TheVariants.A, bandwidth.Class.TheVariants.B, streams.Failure.Failure, streams.Talker.Talker, streams.TalkerReg.TalkerReg}
use Rattle.srp_base.specs.declared.streams.TalkerReg.TheVariants.{Absent, Advertise, Failed}
use Rattle.stream_importance.specs.declared.{entry.Fit.Fit, entry.Fit.TheVariants.Fits, entry.Fit.TheVariants.TooLittle}
use Rattle.msrp_talker.specs.declared.port_config.PortConfig.{PortConfig}

-- the SR class of a priority: 3 is class A, 2 is class B, and no other has one (34.5, the default
-- of two classes)
abbrev pub class_of_priority : ℕ → Option Class
class_of_priority priority = if priority == 3 then Some A else if priority == 2 then Some B else None

-- why no port can serve a Talker: code 13 where its priority has no SR class, else 14 where its
-- MaxFrameSize is too large for the medium (35.2.2.8.7)
abbrev pub check_of : Talker → Option ℕ
check_of talker =
    if is_none (class_of_priority talker.priority)
    then Some 13
    else if nat_lt 1500 talker.max_frame then Some 14 else None

-- the failure code of what doesn't fit
abbrev pub fit_code : Fit → Option ℕ
fit_code Fits = None
fit_code (TooLittle more_important cap code) = Some code

-- the failure code of a port at the boundary of an SRP domain (35.1.4): 8, "egress port is not AVB
-- capable"
abbrev pub boundary_code : Bool → Option ℕ
boundary_code boundary = if boundary then Some 8 else None

-- the code for which a port refuses an advertised Talker: what no port can serve comes before the
-- domain's boundary, and that before what doesn't fit
abbrev pub refusal_of : Talker → Bool → Fit → Option ℕ
refusal_of talker boundary fit =
    option_or (check_of talker) (option_or (boundary_code boundary) (fit_code fit))

-- a Talker whose accumulated latency has grown, in ns; it stands still at the greatest number of 32
-- bits
abbrev pub delayed_by : ℕ → Talker → Talker
delayed_by latency talker = record talker { latency = min (talker.latency + latency) (2 ^ 32 - 1) }

-- a Talker that is advertised, or that failed at the port's bridge with a code
abbrev pub declared_of : PortConfig → Talker → Option ℕ → TalkerReg
declared_of config talker None = Advertise talker
declared_of config talker (Some code) = Failed talker (record { bridge = config.bridge; code = code })

-- what a port declares of what is registered; `boundary` is whether the port is one for the
-- Talker's class
abbrev pub talker_out : TalkerReg → PortConfig → Bool → Fit → TalkerReg
talker_out Absent config boundary fit = Absent
talker_out (Failed talker failure) config boundary fit = Failed (delayed_by config.latency talker) failure
talker_out (Advertise talker) config boundary fit =
    declared_of config (delayed_by config.latency talker) (refusal_of talker boundary fit)

-- the Talker of what is registered or declared
abbrev pub talker_in : TalkerReg → Option Talker
talker_in Absent = None
talker_in (Advertise talker) = Some talker
talker_in (Failed talker failure) = Some talker

-- what a Talker states of its stream: all but the latency so far
abbrev pub statement_of : Option Talker → Option Talker
statement_of talker = option_map (λ (t : Talker). record t { latency = 0 }) talker

-- a declared failure is the one that was registered
abbrev pub IsCarriedOn : TalkerReg → Failure → Type 0
IsCarriedOn reg failure = (before : Talker) × (reg ≡ Failed before failure)

-- a declared failure is this port's refusal of an advertised Talker
abbrev pub IsOfPort : PortConfig → Bool → Fit → TalkerReg → Failure → Type 0
IsOfPort config boundary fit reg failure =
    (before : Talker) × (reg ≡ Advertise before)
    × (refusal_of before boundary fit ≡ Some failure.code)
    × (failure.bridge ≡ config.bridge)
