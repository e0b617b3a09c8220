-- What is sent is of its keys.
use Rattle.std.proofs.Common.{◌≡◌, ◌≤◌, List, [], length, refl, subst, arith}
use Rattle.std.specs.Prelude.{Option, Some, None, Contains, option_map, option_to_list}
use Rattle.std.specs.List.{AllByRecursion}
use Rattle.srp_base.proofs.Lists.{each-contained as of_each, each_filter as all_filtered, each_append as all_joined}
use Rattle.mrp_participant.specs.Lookup.{find}
use Rattle.msrp_codec.specs.declared.{pdu.MsrpKey.MsrpKey, pdu.MsrpContent.MsrpContent}
use Rattle.msrp_codec.specs.declared.attribute_type.AttributeType.TheVariants.{Advertise, Failed, Listener, Domain}
use Rattle.msrp_codec.specs.{Meaning.KeyEvent, Writing.has_type, Writing.in_type_order, Writing.of_type}
use Rattle.msrp.specs.Part.{Part}
use Rattle.msrp.specs.{key_cmp}
use Rattle.msrp.proofs.Contents.{HoldsOfEach, MsrpRow}

-- what holds of both contents of each key that has a row holds of the content of a key's row
pub stated_holds : (P : MsrpKey → MsrpContent → Type 0) (s : Part) → HoldsOfEach P s → (key : MsrpKey) (c : MsrpContent)
    → option_map (λ (r : MsrpRow). r.content) (find key_cmp key s.rows) ≡ Some c → P key c
stated_holds P s own key c h = by (find key_cmp key s.rows) refl h
  where
    by : (o : Option MsrpRow) → find key_cmp key s.rows ≡ o → option_map (λ (r : MsrpRow). r.content) o ≡ Some c → P key c
    by None e k = cc
    by (Some r) e k = let is : r.content ≡ c = cc in subst (λ (x : MsrpContent). P key x) is (own key r e).content

-- ---- the events that are sent

-- what holds of the contents of each key that has a row holds of each event with the content of its key's row
pub all_said : (P : MsrpKey → MsrpContent → Type 0) (s : Part) → HoldsOfEach P s → (es : List KeyEvent)
    → ((e : KeyEvent) → Contains es e → option_map (λ (r : MsrpRow). r.content) (find key_cmp e.1 s.rows) ≡ Some e.2) → AllByRecursion (λ e. P e.1 e.2) es
all_said P s own es law = of_each (λ e. P e.1 e.2) es (λ e inside. stated_holds P s own e.1 e.2 (law e inside))

-- in the order of types it holds of them, too
pub in_order : (P : KeyEvent → Type 0) (es : List KeyEvent) → AllByRecursion P es → AllByRecursion P (in_type_order es)
in_order P es all =
    all_joined P (of_type Advertise es) _ (all_filtered P (has_type Advertise) es all)
    (all_joined P (of_type Failed es) _ (all_filtered P (has_type Failed) es all)
    (all_joined P (of_type Listener es) _ (all_filtered P (has_type Listener) es all)
    (all_joined P (of_type Domain es) [] (all_filtered P (has_type Domain) es all) tt)))

pub one_at_most : {X : Type 0} (xs : List X) (o : Option X) → xs ≡ option_to_list o → length xs ≤ 1
one_at_most xs None e = rw e (omega arith)
one_at_most xs (Some x) e = rw e (omega arith)
