-- What each rule of a file asks, and of which array it names an entry.
use Rattle.std.specs.Prelude.{ℕ, ◌==◌, ◌&&◌, ◌||◌, nat_le, if◌then◌else◌, List, [], codes, Option, Some, None}
use Rattle.rule_words.specs.declared.keys.Key.{Key}
use Rattle.rule_words.specs.declared.kinds.FileKind.{FileKind}
use Rattle.rule_words.specs.declared.kinds.FileKind.TheVariants as files
use Rattle.rule_words.specs.declared.keys.Key.TheVariants.{Nodes, Links, Streams, Events, Frames, Wants}

-- what the rules on a scenario's file as a whole ask
abbrev pub scenario_asks : ℕ → List ℕ
scenario_asks rule =
    if rule == 1 then codes "ticks, of 10 ms each, is a whole number from 1 to 12000"
    else if rule == 2 then codes "the keys of the file are known, and node, link, stream, event and frame are arrays of tables"
    else if rule == 3 then codes "leave_time is a whole number from 60 to 100, and periodic and domains are true or false"
    else if rule == 5 then codes "there are 2 to 64 nodes, and nodes times ticks are at most 400000"
    else []

-- what those on a file of groups as a whole ask
abbrev pub groups_asks : ℕ → List ℕ
groups_asks rule =
    if rule == 1 || rule == 5 then scenario_asks rule
    else if rule == 2 then codes "node and link are arrays of tables"
    else if rule == 3 then codes "leave_time is a whole number from 60 to 100, and periodic is true or false"
    else if rule == 40 then codes "the keys of the file are known, and event is an array of tables"
    else []

-- what those on a plan as a whole ask
abbrev pub plan_asks : ℕ → List ℕ
plan_asks rule =
    if rule == 2 then codes "node and link are arrays of tables"
    else if rule == 3 then codes "domains is true or false"
    else if rule == 5 then codes "there are 2 to 64 nodes"
    else if rule == 50 then codes "the keys of the file are known, and stream is an array of at most 128 tables"
    else if rule == 54 then codes "at most 10000 events come of the plan: one for each stream, one for each of its listeners, and one for each VID that a station declares"
    else []

-- what the rule on the form of nodes asks: a file of groups has no domains
abbrev pub node_form_asks : FileKind → List ℕ
node_form_asks files.Groups = codes "each node has its form: known keys alone, none missing that has no default, each in its range"
node_form_asks _ = codes "each node has its form: known keys alone, domain only where the file has domains = true, none missing that has no default, each in its range"

-- what those on nodes ask
abbrev pub node_asks : FileKind → ℕ → List ℕ
node_asks kind rule =
    if rule == 4 then node_form_asks kind
    else if rule == 6 then codes "node names differ"
    else if rule == 7 then codes "node ids differ, defaults included"
    else if rule == 13 then codes "every node is reached from the first one"
    else if rule == 14 then codes "each station has exactly one link"
    else if rule == 15 then codes "each node has at most 16 links"
    else []

-- what those on links ask
abbrev pub link_asks : ℕ → List ℕ
link_asks rule =
    if rule == 8 then codes "each link has its form: known keys alone, none missing that has no default, each in its range, delta_a and delta_b together at most 90"
    else if rule == 9 then codes "the ends of each link are names of nodes"
    else if rule == 10 then codes "no link joins a node with itself"
    else if rule == 11 then codes "no two links join the same nodes"
    else if rule == 12 then codes "no link joins nodes that earlier links already join"
    else []

-- what those on streams ask
abbrev pub stream_asks : ℕ → List ℕ
stream_asks rule =
    if rule == 16 then codes "each stream has its form: known keys alone, none missing that has no default, each in its range; and there are at most 128"
    else if rule == 17 then codes "stream names differ"
    else if rule == 18 then codes "stream ids differ"
    else if rule == 19 then codes "the talker of each stream is a station"
    else if rule == 51 then codes "each stream has its form: known keys alone, octets or else channels with rate_khz, none missing that has no default, each in its range; and the octets of audio, 24 + channels x bits / 8 x samples, are at most 1500"
    else if rule == 52 then codes "stream names differ, and so do the stream ids that are given"
    else if rule == 53 then codes "the talker and the listeners of each stream are stations, each once"
    else []

-- what those on events ask
abbrev pub event_asks : ℕ → List ℕ
event_asks rule =
    if rule == 20 then codes "each event has its form: the keys of its kind alone, each in its range, its tick below the ticks of the file; and there are at most 10000"
    else if rule == 21 then codes "the ticks of events do not fall"
    else if rule == 22 then codes "what events name is known: stations are stations, streams are streams, from and to are joined by a link, and who listens to a stream does not talk in it"
    else if rule == 41 then codes "each event has its form: the keys of its kind alone, each in its range, its tick below the ticks of the file; and there are at most 10000"
    else if rule == 42 then codes "the ticks of events do not fall"
    else if rule == 43 then codes "what events name is known: stations are stations, and from and to are joined by a link"
    else []

-- what those on frames ask
abbrev pub frame_asks : ℕ → List ℕ
frame_asks rule =
    if rule == 23 then codes "each frame has its form: known keys alone, none missing that has no default, each in its range, its last copy before the end of the run; and the copies so far are at most 100000"
    else if rule == 24 then codes "the stream of each frame is known, or from and to are two different stations"
    else []

-- what the rules of a ledger file ask
abbrev pub ledger_asks : ℕ → List ℕ
ledger_asks rule =
    if rule == 31 then codes "the keys of the file are known, and rate is there and is 100, 1000 or 10000"
    else if rule == 32 then codes "delta_a and delta_b are 0 to 90, and together at most 90"
    else if rule == 33 then codes "want is an array of at most 10000 tables, each with its form: known keys alone, none missing that has no default, each in its range"
    else if rule == 34 then codes "the ticks of wants do not fall"
    else if rule == 35 then codes "there are at most 128 different streams"
    else []

-- the array of the entries that a rule speaks of; the others speak of the file as a whole
abbrev pub array_of : ℕ → Option Key
array_of rule =
    if rule == 4 || rule == 6 || rule == 7 then Some Nodes
    else if nat_le 8 rule && nat_le rule 12 then Some Links
    else if nat_le 13 rule && nat_le rule 15 then Some Nodes
    else if nat_le 16 rule && nat_le rule 19 then Some Streams
    else if nat_le 20 rule && nat_le rule 22 then Some Events
    else if nat_le 23 rule && nat_le rule 24 then Some Frames
    else if nat_le 33 rule && nat_le rule 35 then Some Wants
    else if nat_le 41 rule && nat_le rule 43 then Some Events
    else if nat_le 51 rule && nat_le rule 53 then Some Streams
    else None

-- what a rule on a file as a whole asks
abbrev pub asks_of_file : FileKind → ℕ → List ℕ
asks_of_file files.Scenario rule = scenario_asks rule
asks_of_file files.Ledger rule = ledger_asks rule
asks_of_file files.Groups rule = groups_asks rule
asks_of_file files.Plan rule = plan_asks rule

-- what those on the entries of an array ask
abbrev pub asks_of_array : FileKind → ℕ → Option Key → List ℕ
asks_of_array kind rule (Some Nodes) = node_asks kind rule
asks_of_array kind rule (Some Links) = link_asks rule
asks_of_array kind rule (Some Streams) = stream_asks rule
asks_of_array kind rule (Some Events) = event_asks rule
asks_of_array kind rule (Some Frames) = frame_asks rule
asks_of_array kind rule (Some Wants) = ledger_asks rule
asks_of_array kind rule _ = asks_of_file kind rule

-- what a rule of a kind of file asks
abbrev pub what_rule_asks : FileKind → ℕ → List ℕ
what_rule_asks kind rule = asks_of_array kind rule (array_of rule)
