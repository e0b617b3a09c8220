-- Keys and streams are one where they compare equal.
use Rattle.std.proofs.Common.{◌≡◌, true, ap, arith}
use Rattle.std.specs.Ordering.{is_eq}
use Rattle.std.proofs.lemmas.Bool.Decides.{nat_tests}
use Rattle.srp_base.specs.declared.numbers.StreamId.{StreamId}
use Rattle.msrp_codec.specs.declared.pdu.MsrpKey.{MsrpKey}
use Rattle.msrp_codec.specs.declared.pdu.MsrpKey.TheVariants as keys
use Rattle.msrp.specs.{key_cmp, stream_cmp}

-- equal keys are one
pub key_is : (a b : MsrpKey) → is_eq (key_cmp a b) ≡ true → a ≡ b
key_is (keys.Talker s) (keys.Talker t) h = let e : s.0 ≡ t.0 = grind (arith, nat_tests, h) in ap (λ n. keys.Talker (record { 0 = n })) e
key_is (keys.Listener s) (keys.Listener t) h = let e : s.0 ≡ t.0 = grind (arith, nat_tests, h) in ap (λ n. keys.Listener (record { 0 = n })) e
key_is (keys.Domain s) (keys.Domain t) h = let e : s ≡ t = grind (arith, nat_tests, h) in ap (λ n. keys.Domain n) e
key_is a b h = cc

pub key_self : (a : MsrpKey) → is_eq (key_cmp a a) ≡ true
key_self (keys.Talker s) = grind (arith, nat_tests)
key_self (keys.Listener s) = grind (arith, nat_tests)
key_self (keys.Domain c) = grind (arith, nat_tests)

pub stream_is : (s t : StreamId) → is_eq (stream_cmp s t) ≡ true → s ≡ t
stream_is s t h = let e : s.0 ≡ t.0 = grind (arith, nat_tests, h) in ap (λ n. record { 0 = n }) e
