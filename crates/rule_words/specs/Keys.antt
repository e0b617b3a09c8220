-- The keys of the files: the word of each, what its value has to be, and whether it has to be
-- there.
use Rattle.std.specs.Prelude.{ℕ, Bool, true, false, List, codes}
use Rattle.rule_words.specs.declared.{forms.ValueForm.ValueForm, keys.Key.Key}
use Rattle.rule_words.specs.declared.forms.ValueForm.TheVariants as forms
use Rattle.rule_words.specs.declared.keys.Key.TheVariants.{Ticks, LeaveTime, Periodic, Domains, Nodes, Links, Streams, Events, Frames, Wants, Name, NodeKind, NodeId, NodeDomain, A, B, LinkRate, PortRate, DeltaA, DeltaB, Latency, StreamId, Talker, Dest, StreamOctets, IntervalFrames, StreamVid, Priority, Rank, Tick, EventKind, Station, EventVid, StreamName, From, To, Index, App, PduOctets, FrameOctets, At, Count, Every, WantStream, WantClass, WantTick, GroupEventKind, Mac, Listeners, Channels, RateKhz, Bits, PlanFrames, PlanClass, PlanDest}

-- the word of a key, as it stands in a file
abbrev pub word_of : Key → List ℕ
word_of Ticks = codes "ticks"
word_of LeaveTime = codes "leave_time"
word_of Periodic = codes "periodic"
word_of Domains = codes "domains"
word_of Nodes = codes "node"
word_of Links = codes "link"
word_of Streams = codes "stream"
word_of Events = codes "event"
word_of Frames = codes "frame"
word_of Wants = codes "want"
word_of Name = codes "name"
word_of NodeKind = codes "kind"
word_of NodeId = codes "id"
word_of NodeDomain = codes "domain"
word_of A = codes "a"
word_of B = codes "b"
word_of LinkRate = codes "rate"
word_of PortRate = codes "rate"
word_of DeltaA = codes "delta_a"
word_of DeltaB = codes "delta_b"
word_of Latency = codes "latency"
word_of StreamId = codes "id"
word_of Talker = codes "talker"
word_of Dest = codes "dest"
word_of StreamOctets = codes "octets"
word_of IntervalFrames = codes "frames"
word_of StreamVid = codes "vid"
word_of Priority = codes "priority"
word_of Rank = codes "rank"
word_of Tick = codes "tick"
word_of EventKind = codes "kind"
word_of Station = codes "station"
word_of EventVid = codes "vid"
word_of StreamName = codes "stream"
word_of From = codes "from"
word_of To = codes "to"
word_of Index = codes "index"
word_of App = codes "app"
word_of PduOctets = codes "octets"
word_of FrameOctets = codes "octets"
word_of At = codes "at"
word_of Count = codes "count"
word_of Every = codes "every"
word_of WantStream = codes "stream"
word_of WantClass = codes "class"
word_of WantTick = codes "tick"
word_of GroupEventKind = codes "kind"
word_of Mac = codes "mac"
word_of Listeners = codes "listeners"
word_of Channels = codes "channels"
word_of RateKhz = codes "rate_khz"
word_of Bits = codes "bits"
word_of PlanFrames = codes "frames"
word_of PlanClass = codes "class"
word_of PlanDest = codes "dest"

-- what the value at a key has to be
abbrev pub form_of : Key → ValueForm
form_of Ticks = forms.Within 1 12000
form_of LeaveTime = forms.Within 60 100
form_of Periodic = forms.Truth
form_of Domains = forms.Truth
form_of Nodes = forms.Tables
form_of Links = forms.Tables
form_of Streams = forms.Tables
form_of Events = forms.Tables
form_of Frames = forms.Tables
form_of Wants = forms.Tables
form_of Name = forms.Name
form_of NodeKind = forms.NodeKind
form_of NodeId = forms.Digits16
form_of NodeDomain = forms.Domain
form_of A = forms.Name
form_of B = forms.Name
form_of LinkRate = forms.Rate
form_of PortRate = forms.Rate
form_of DeltaA = forms.Within 0 90
form_of DeltaB = forms.Within 0 90
form_of Latency = forms.Within 0 4294967295
form_of StreamId = forms.Digits16
form_of Talker = forms.Name
form_of Dest = forms.Digits12
form_of StreamOctets = forms.Within 0 65535
form_of IntervalFrames = forms.Within 0 65535
form_of StreamVid = forms.Within 1 4094
form_of Priority = forms.Within 0 7
form_of Rank = forms.Within 0 1
form_of Tick = forms.Number
form_of EventKind = forms.EventKind
form_of Station = forms.Name
form_of EventVid = forms.Within 1 4094
form_of StreamName = forms.Name
form_of From = forms.Name
form_of To = forms.Name
form_of Index = forms.Within 0 65535
form_of App = forms.App
form_of PduOctets = forms.PduDigits
form_of FrameOctets = forms.Within 0 1500
form_of At = forms.Number
form_of Count = forms.Within 1 100000
form_of Every = forms.Number
form_of WantStream = forms.Digits16
form_of WantClass = forms.Class
form_of WantTick = forms.Within 0 11999
form_of GroupEventKind = forms.GroupKind
form_of Mac = forms.Digits12
form_of Listeners = forms.Names
form_of Channels = forms.Within 1 120
form_of RateKhz = forms.Khz
form_of Bits = forms.Bits
form_of PlanFrames = forms.Within 1 64
form_of PlanClass = forms.Class
form_of PlanDest = forms.Digits12

-- whether a key has to be there; the others have a default
abbrev pub is_needed : Key → Bool
is_needed LeaveTime = false
is_needed Periodic = false
is_needed Domains = false
is_needed Nodes = false
is_needed Links = false
is_needed Streams = false
is_needed Events = false
is_needed Frames = false
is_needed Wants = false
is_needed NodeId = false
is_needed NodeDomain = false
is_needed LinkRate = false
is_needed DeltaA = false
is_needed DeltaB = false
is_needed Latency = false
is_needed StreamVid = false
is_needed Priority = false
is_needed Rank = false
is_needed Count = false
is_needed Every = false
is_needed WantTick = false
is_needed Bits = false
is_needed PlanFrames = false
is_needed PlanClass = false
is_needed PlanDest = false
is_needed _ = true
