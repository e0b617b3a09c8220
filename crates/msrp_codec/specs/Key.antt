-- The order of keys (own): Talkers, Listeners, Domains, and each by number.
use Rattle.std.specs.Prelude.{ℕ}
use Rattle.std.specs.{declared.cmp.Ordering.Ordering, Ordering.nat_cmp, Ordering.ordering_then}
use Rattle.msrp_codec.specs.declared.pdu.MsrpKey.{MsrpKey}
use Rattle.msrp_codec.specs.declared.pdu.MsrpKey.TheVariants.{Talker, Listener, Domain}

-- a number for each kind of key
abbrev pub kind_of_key : MsrpKey → ℕ
kind_of_key (Talker stream) = 0
kind_of_key (Listener stream) = 1
kind_of_key (Domain class) = 2

-- the number of a key among those of its kind: the StreamID, or the SRclassID
abbrev pub number_of_key : MsrpKey → ℕ
number_of_key (Talker stream) = stream.0
number_of_key (Listener stream) = stream.0
number_of_key (Domain class) = class

-- keys compare by kind, then by number
abbrev pub compare_keys : MsrpKey → MsrpKey → Ordering
compare_keys x y =
    ordering_then (nat_cmp (kind_of_key x) (kind_of_key y)) (nat_cmp (number_of_key x) (number_of_key y))
