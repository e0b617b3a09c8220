-- What a rule is about in its table: the form of the table, or the values at some keys.
use Rattle.std.specs.Prelude.{ℕ, Bool, true, false, not, nat_eq, ◌==◌, ◌&&◌, ◌||◌, nat_le, if◌then◌else◌, List, [], ◌∷◌, codes, Option, Some, None}
use Rattle.std.specs.{Cmp.Lexicographic.pointwise, Option.is_some}
use Rattle.toml.specs.Data.{Members, get_member}
use Rattle.toml_rules.specs.Fields.{text, truth_or}
use Rattle.rule_words.specs.declared.kinds.FileKind.{FileKind}
use Rattle.rule_words.specs.declared.kinds.FileKind.TheVariants as files
use Rattle.rule_words.specs.declared.{keys.Key.Key, tables.TableForm.TableForm}
use Rattle.rule_words.specs.declared.keys.Key.TheVariants.{Name, NodeId, A, B, StreamId, Talker, Tick, Station, StreamName, From, To, Nodes, Streams, Ticks, WantTick, WantStream, Listeners}
use Rattle.rule_words.specs.declared.tables.TableForm.TheVariants as tables

-- the form of an event, by the word of its kind
abbrev pub form_of_kind : List ℕ → TableForm
form_of_kind word =
    if pointwise nat_eq word (codes "declare") then tables.VlanEvent
    else if pointwise nat_eq word (codes "withdraw") then tables.VlanEvent
    else if pointwise nat_eq word (codes "talk") then tables.TalkerEvent
    else if pointwise nat_eq word (codes "hush") then tables.TalkerEvent
    else if pointwise nat_eq word (codes "listen") then tables.ListenerEvent
    else if pointwise nat_eq word (codes "unlisten") then tables.ListenerEvent
    else if pointwise nat_eq word (codes "lose") then tables.PduEvent
    else if pointwise nat_eq word (codes "repeat") then tables.PduEvent
    else if pointwise nat_eq word (codes "forge") then tables.ForgeryEvent
    else tables.AnyEvent

-- that of an event with this word for its kind, or none
abbrev pub form_by_kind : Option (List ℕ) → TableForm
form_by_kind None = tables.AnyEvent
form_by_kind (Some word) = form_of_kind word

-- the form of an event
abbrev pub event_form : Members → TableForm
event_form ms = form_by_kind (text (codes "kind") ms)

-- the form of an event of groups, by the word of its kind
abbrev pub group_form_of_kind : List ℕ → TableForm
group_form_of_kind word =
    if pointwise nat_eq word (codes "join") then tables.MemberEvent
    else if pointwise nat_eq word (codes "part") then tables.MemberEvent
    else if pointwise nat_eq word (codes "lose") then tables.PduEvent
    else if pointwise nat_eq word (codes "repeat") then tables.PduEvent
    else tables.AnyGroupEvent

-- that of an event of groups with this word for its kind, or none
abbrev pub group_form_by_kind : Option (List ℕ) → TableForm
group_form_by_kind None = tables.AnyGroupEvent
group_form_by_kind (Some word) = group_form_of_kind word

-- the form of an event of groups
abbrev pub group_event_form : Members → TableForm
group_event_form ms = group_form_by_kind (text (codes "kind") ms)

-- a table has a key
abbrev pub has : List ℕ → Members → Bool
has word ms = is_some (get_member word ms)

-- a plan's stream says what its audio is: by its channels, or in place of its octets by what goes with
-- channels
abbrev pub is_audio : Members → Bool
is_audio ms =
    has (codes "channels") ms || not (has (codes "octets") ms) && (has (codes "rate_khz") ms || has (codes "bits") ms)

-- the form of a plan's stream
abbrev pub plan_stream_form : Members → TableForm
plan_stream_form ms = if is_audio ms then tables.AudioStream else tables.SizedStream

-- the form of a file, as far as its arrays go
abbrev pub arrays_form : FileKind → TableForm
arrays_form files.Groups = tables.Network
arrays_form files.Plan = tables.Network
arrays_form _ = tables.Scenario

-- the form of a file, as far as its times of MRP and its domains go
abbrev pub timers_form : FileKind → TableForm
timers_form files.Groups = tables.GroupTimers
timers_form files.Plan = tables.PlanDomains
timers_form _ = tables.Timers

-- the form of a frame: in a stream where it names one
abbrev pub frame_form : Members → TableForm
frame_form ms = if is_some (get_member (codes "stream") ms) then tables.StreamFrame else tables.PairFrame

-- the form of a want, and of the array of wants for the entry 0
abbrev pub want_form : ℕ → TableForm
want_form entry = if entry == 0 then tables.WantArray else tables.Want

-- what is given, or no
abbrev pub is_so : Option Bool → Bool
is_so None = false
is_so (Some b) = b

-- a file has SRP domains
abbrev pub has_domains : Members → Bool
has_domains ms = is_so (truth_or (codes "domains") false ms)

-- the form of a node, of a file with or without domains
abbrev pub node_form : Bool → TableForm
node_form true = tables.DomainNode
node_form false = tables.Node

-- the form that a rule of a kind of file asks of its table, if it asks one, in a file with or
-- without domains
abbrev pub form_asked : FileKind → Bool → ℕ → ℕ → Members → Option TableForm
form_asked kind domains rule entry ms =
    if rule == 1 then Some tables.Times
    else if rule == 2 then Some (arrays_form kind)
    else if rule == 3 then Some (timers_form kind)
    else if rule == 4 then Some (node_form domains)
    else if rule == 8 then Some tables.Link
    else if rule == 16 then Some tables.Stream
    else if rule == 20 then Some (event_form ms)
    else if rule == 23 then Some (frame_form ms)
    else if rule == 31 then Some tables.Port
    else if rule == 32 then Some tables.Shares
    else if rule == 33 then Some (want_form entry)
    else if rule == 40 then Some tables.Groups
    else if rule == 41 then Some (group_event_form ms)
    else if rule == 50 then Some tables.Plan
    else if rule == 51 then Some (plan_stream_form ms)
    else None

-- what an event of this form, or a frame, names
abbrev pub names_in : TableForm → List Key
names_in tables.VlanEvent = Station ∷ []
names_in tables.MemberEvent = Station ∷ []
names_in tables.TalkerEvent = StreamName ∷ []
names_in tables.ListenerEvent = Station ∷ StreamName ∷ []
names_in tables.PduEvent = From ∷ To ∷ []
names_in tables.ForgeryEvent = From ∷ To ∷ []
names_in tables.StreamFrame = StreamName ∷ []
names_in tables.PairFrame = From ∷ To ∷ []
names_in _ = []

-- the keys of how large a network is: a plan has no ticks
abbrev pub size_keys : FileKind → List Key
size_keys files.Plan = Nodes ∷ []
size_keys _ = Nodes ∷ Ticks ∷ []

-- the keys whose values break a rule of a kind of file that asks no form
abbrev pub keys_asked : FileKind → ℕ → Members → List Key
keys_asked kind rule ms =
    if rule == 5 then size_keys kind
    else if rule == 6 || rule == 13 || rule == 14 || rule == 17 then Name ∷ []
    else if rule == 7 then NodeId ∷ []
    else if nat_le 9 rule && nat_le rule 12 then A ∷ B ∷ []
    else if rule == 18 then StreamId ∷ []
    else if rule == 19 then Talker ∷ []
    else if rule == 21 || rule == 42 then Tick ∷ []
    else if rule == 22 then names_in (event_form ms)
    else if rule == 24 then names_in (frame_form ms)
    else if rule == 34 then WantTick ∷ []
    else if rule == 35 then WantStream ∷ []
    else if rule == 43 then names_in (group_event_form ms)
    else if rule == 52 then Name ∷ NodeId ∷ []
    else if rule == 53 then Talker ∷ Listeners ∷ []
    else if rule == 54 then Nodes ∷ Streams ∷ []
    else []
