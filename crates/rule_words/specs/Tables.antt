-- The tables of the files: which keys each may have.
use Rattle.std.specs.Prelude.{Bool, true, false, List, [], ◌∷◌}
use Rattle.rule_words.specs.declared.{keys.Key.Key, tables.TableForm.TableForm}
use Rattle.rule_words.specs.declared.keys.Key.TheVariants.{Ticks, LeaveTime, Periodic, Domains, Nodes, Links, Streams, Events, Frames, Wants, Name, NodeKind, NodeId, NodeDomain, A, B, LinkRate, PortRate, DeltaA, DeltaB, Latency, StreamId, Talker, Dest, StreamOctets, IntervalFrames, StreamVid, Priority, Rank, Tick, EventKind, Station, EventVid, StreamName, From, To, Index, App, PduOctets, FrameOctets, At, Count, Every, WantStream, WantClass, WantTick, GroupEventKind, Mac, Listeners, Channels, RateKhz, Bits, PlanFrames, PlanClass, PlanDest}
use Rattle.rule_words.specs.declared.tables.TableForm.TheVariants as tables

-- the keys that a table of this form may have, in the order in which they are read
abbrev pub keys_of : TableForm → List Key
keys_of tables.Times = Ticks ∷ []
keys_of tables.Scenario = Nodes ∷ Links ∷ Streams ∷ Events ∷ Frames ∷ Ticks ∷ LeaveTime ∷ Periodic ∷ Domains ∷ []
keys_of tables.Timers = LeaveTime ∷ Periodic ∷ Domains ∷ []
keys_of tables.Node = Name ∷ NodeKind ∷ NodeId ∷ []
keys_of tables.DomainNode = Name ∷ NodeKind ∷ NodeId ∷ NodeDomain ∷ []
keys_of tables.Link = A ∷ B ∷ LinkRate ∷ DeltaA ∷ DeltaB ∷ Latency ∷ []
keys_of tables.Stream = Name ∷ Talker ∷ StreamId ∷ Dest ∷ StreamOctets ∷ IntervalFrames ∷ StreamVid ∷ Priority ∷ Rank ∷ []
keys_of tables.AnyEvent = Tick ∷ EventKind ∷ []
keys_of tables.VlanEvent = Tick ∷ EventKind ∷ Station ∷ EventVid ∷ []
keys_of tables.TalkerEvent = Tick ∷ EventKind ∷ StreamName ∷ []
keys_of tables.ListenerEvent = Tick ∷ EventKind ∷ Station ∷ StreamName ∷ []
keys_of tables.PduEvent = Tick ∷ EventKind ∷ From ∷ To ∷ Index ∷ []
keys_of tables.ForgeryEvent = Tick ∷ EventKind ∷ From ∷ To ∷ Index ∷ App ∷ PduOctets ∷ []
keys_of tables.StreamFrame = StreamName ∷ FrameOctets ∷ At ∷ Count ∷ Every ∷ []
keys_of tables.PairFrame = From ∷ To ∷ StreamVid ∷ FrameOctets ∷ At ∷ Count ∷ Every ∷ []
keys_of tables.Port = PortRate ∷ DeltaA ∷ DeltaB ∷ Wants ∷ []
keys_of tables.Shares = DeltaA ∷ DeltaB ∷ []
keys_of tables.WantArray = Wants ∷ []
keys_of tables.Want = WantStream ∷ WantClass ∷ Rank ∷ IntervalFrames ∷ FrameOctets ∷ WantTick ∷ []
keys_of tables.Groups = Nodes ∷ Links ∷ Events ∷ Ticks ∷ LeaveTime ∷ Periodic ∷ []
keys_of tables.Network = Nodes ∷ Links ∷ []
keys_of tables.GroupTimers = LeaveTime ∷ Periodic ∷ []
keys_of tables.AnyGroupEvent = Tick ∷ GroupEventKind ∷ []
keys_of tables.MemberEvent = Tick ∷ GroupEventKind ∷ Station ∷ Mac ∷ []
keys_of tables.Plan = Nodes ∷ Links ∷ Streams ∷ Domains ∷ []
keys_of tables.PlanDomains = Domains ∷ []
keys_of tables.SizedStream = Name ∷ Talker ∷ Listeners ∷ FrameOctets ∷ PlanFrames ∷ PlanClass ∷ StreamVid ∷ Rank ∷ NodeId ∷ PlanDest ∷ []
keys_of tables.AudioStream = Name ∷ Talker ∷ Listeners ∷ Channels ∷ RateKhz ∷ Bits ∷ PlanFrames ∷ PlanClass ∷ StreamVid ∷ Rank ∷ NodeId ∷ PlanDest ∷ []

-- the keys that go with the other form of a plan's stream
abbrev pub keys_apart : TableForm → List Key
keys_apart tables.SizedStream = RateKhz ∷ Bits ∷ []
keys_apart tables.AudioStream = FrameOctets ∷ []
keys_apart _ = []

-- whether a table of this form has no other keys; of the others only a part is looked at
abbrev pub is_closed : TableForm → Bool
is_closed tables.Times = false
is_closed tables.Timers = false
is_closed tables.AnyEvent = false
is_closed tables.Shares = false
is_closed tables.WantArray = false
is_closed tables.Network = false
is_closed tables.GroupTimers = false
is_closed tables.AnyGroupEvent = false
is_closed tables.PlanDomains = false
is_closed _ = true

-- the keys whose values, each right by itself, may be wrong together or beside the file's times
abbrev pub keys_together : TableForm → List Key
keys_together tables.Link = DeltaA ∷ DeltaB ∷ []
keys_together tables.AnyEvent = Tick ∷ []
keys_together tables.VlanEvent = Tick ∷ []
keys_together tables.TalkerEvent = Tick ∷ []
keys_together tables.ListenerEvent = Tick ∷ []
keys_together tables.PduEvent = Tick ∷ []
keys_together tables.ForgeryEvent = Tick ∷ []
keys_together tables.AnyGroupEvent = Tick ∷ []
keys_together tables.MemberEvent = Tick ∷ []
keys_together tables.Plan = Streams ∷ []
keys_together tables.AudioStream = Channels ∷ RateKhz ∷ Bits ∷ PlanClass ∷ []
keys_together tables.StreamFrame = At ∷ Count ∷ Every ∷ []
keys_together tables.PairFrame = At ∷ Count ∷ Every ∷ []
keys_together tables.Shares = DeltaA ∷ DeltaB ∷ []
keys_together _ = []
