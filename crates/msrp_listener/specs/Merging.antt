-- How the Listeners behind a bridge's ports become one declaration towards the Talker (IEEE Std
-- 802.1Q-2018, 35.2.4.4).
use Rattle.std.specs.Prelude.{◌≡◌, true, List, map, Option, if◌then◌else◌}
use Rattle.std.specs.List.{AllByRecursion, reduce}
use Rattle.srp_base.specs.declared.streams.ListenerKind.{ListenerKind}
use Rattle.srp_base.specs.declared.streams.ListenerKind.TheVariants.{AskingFailed, Ready, ReadyFailed}
use Rattle.msrp_listener.specs.declared.port_listener.PortListener.{PortListener}

-- what the Listeners behind two ports come to: all can have the stream, none can, or some can and
-- some can't
abbrev pub merge_of : ListenerKind → ListenerKind → ListenerKind
merge_of Ready Ready = Ready
merge_of AskingFailed AskingFailed = AskingFailed
merge_of _ _ = ReadyFailed

-- what a port's Listener counts as: behind a port that hasn't booked the stream no Listener can
-- have it
abbrev pub counted_kind : PortListener → ListenerKind
counted_kind row = if row.booked then row.kind else AskingFailed

-- what the Talker's port declares: the counted kinds of the other ports, merged; nothing where
-- there are none
abbrev pub listener_out : List PortListener → Option ListenerKind
listener_out rows = reduce merge_of (map counted_kind rows)

-- each port has Ready registered and the stream booked
abbrev pub AreReady : List PortListener → Type 0
AreReady rows = AllByRecursion (λ row. (row.kind ≡ Ready) × (row.booked ≡ true)) rows

-- no port's Listener can have the stream
abbrev pub AreAskingFailed : List PortListener → Type 0
AreAskingFailed rows = AllByRecursion (λ row. counted_kind row ≡ AskingFailed) rows
