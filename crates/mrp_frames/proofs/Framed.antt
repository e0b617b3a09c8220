-- A frame that is read is what its octets spell.
use Rattle.std.proofs.Common.{◌≡◌, ℕ, ◌+◌, ◌*◌, ◌≤◌, nat_le, Bool, true, false, cond, List, [], ◌∷◌, ◌++◌, length, take, drop, Option, Some, None, refl, ap, sym, subst, ◌∙◌, length-append, arith}
use Rattle.std.specs.Prelude.{IfSome, option_map}
use Rattle.std.proofs.lemmas.{Bool.leb-true, Bool.le-leb, List.drop-append-le, List.take-append-drop, List.length-drop, List.length-take-le}
use Rattle.std.proofs.Math.Seq.{drop-append_seam}
use Rattle.srp_base.specs.Text.{whole_of}
use Rattle.capture_file.specs.Packets.{Packet}
use Rattle.capture_file.specs.declared.setting.LinkType.{LinkType}
use Rattle.capture_file.specs.declared.setting.LinkType.TheVariants.{Ethernet, Cooked, CookedV2}
use Rattle.mrp_frames.specs.{AppForm, head_size, type_at, address_at, app_of, is_tag, first_two, first_six, told, pdu_behind, framed, frame_in, MrpFrame, Seen, seen_in, LeadsTo, IsFrame}
use Rattle.mrp_frames.proofs.Behind.{tag_of_none, no_tag}

-- ---- tags

-- what tags lead to, with the octets behind them
pub record IsLed (number : ℕ) (octets : List ℕ) (x : AppForm × List ℕ) : Type 0 where
  pub tags : List (List ℕ)
  pub last : ℕ
  pub tagged : LeadsTo number tags last
  pub carries : app_of last ≡ Some x.0
  pub spelled : octets ≡ whole_of tags ++ x.1

-- no tag is left
led_at_once : (number : ℕ) (octets : List ℕ) (o : Option AppForm) (x : AppForm × List ℕ) → app_of number ≡ o → told o octets ≡ Some x → IsLed number octets x
led_at_once number octets None x known e = cc
led_at_once number octets (Some app) x known e =
    let same : (app, octets) ≡ x = cc in
    subst (λ (y : AppForm × List ℕ). IsLed number octets y) same
    (record { tags = []; last = number; tagged = refl; carries = known; spelled = refl })

-- one tag, and what it leads to
led_on : (number a b c d : ℕ) (octets : List ℕ) (x : AppForm × List ℕ) → is_tag number ≡ true → IsLed (c * 256 + d) octets x
    → IsLed number (a ∷ b ∷ c ∷ d ∷ octets) x
unfolding first_two
led_on number a b c d octets x is led = record {
  tags = (a ∷ b ∷ c ∷ d ∷ []) ∷ led.tags;
  last = led.last;
  tagged = (is, refl, led.tagged);
  carries = led.carries;
  spelled = ap (λ (l : List ℕ). a ∷ b ∷ c ∷ d ∷ l) led.spelled;
}

led_by : (t : Bool) (number a b c d : ℕ) (octets : List ℕ) (x : AppForm × List ℕ) → is_tag number ≡ t
    → cond t (pdu_behind (c * 256 + d) octets) (told (app_of number) (a ∷ b ∷ c ∷ d ∷ octets)) ≡ Some x
    → (pdu_behind (c * 256 + d) octets ≡ Some x → IsLed (c * 256 + d) octets x) → IsLed number (a ∷ b ∷ c ∷ d ∷ octets) x
led_by true number a b c d octets x is e on = led_on number a b c d octets x is (on e)
led_by false number a b c d octets x is e on = led_at_once number (a ∷ b ∷ c ∷ d ∷ octets) (app_of number) x refl e

led_short : (t : Bool) (number : ℕ) (octets : List ℕ) (x : AppForm × List ℕ) → cond t None (told (app_of number) octets) ≡ Some x → IsLed number octets x
led_short true number octets x e = cc
led_short false number octets x e = led_at_once number octets (app_of number) x refl e

-- what is read behind an EtherType is what its tags lead to
pub read_is_led : (number : ℕ) (octets : List ℕ) (x : AppForm × List ℕ) → pdu_behind number octets ≡ Some x → IsLed number octets x
unfolding pdu_behind
read_is_led number (a ∷ b ∷ c ∷ d ∷ octets) x e =
    led_by (is_tag number) number a b c d octets x refl e (λ k. read_is_led (c * 256 + d) octets x k)
read_is_led number [] x e = led_short (is_tag number) number [] x e
read_is_led number (a ∷ []) x e = led_short (is_tag number) number (a ∷ []) x e
read_is_led number (a ∷ b ∷ []) x e = led_short (is_tag number) number (a ∷ b ∷ []) x e
read_is_led number (a ∷ b ∷ c ∷ []) x e = led_short (is_tag number) number (a ∷ b ∷ c ∷ []) x e

-- an EtherType of an application is no tag's
untagged : (t : Bool) (number : ℕ) (app : AppForm) → is_tag number ≡ t → app_of number ≡ Some app → is_tag number ≡ false
untagged false number app is known = is
untagged true number app is known = let none = tag_of_none number is in cc

-- what tags lead to is what is read
pub led_is_read : (tags : List (List ℕ)) (number last : ℕ) (app : AppForm) (pdu : List ℕ) → LeadsTo number tags last → app_of last ≡ Some app
    → pdu_behind number (whole_of tags ++ pdu) ≡ Some (app, pdu)
unfolding first_two pdu_behind
led_is_read [] number last app pdu h known =
    let here : app_of number ≡ Some app = ap app_of (sym h) ∙ known in
    no_tag number pdu (untagged (is_tag number) number app refl here) ∙ ap (λ (o : Option AppForm). told o pdu) here
led_is_read ((a ∷ b ∷ c ∷ d ∷ []) ∷ tags) number last app pdu h known = rw h.0 (led_is_read tags (c * 256 + d) last app pdu h.2 known)
led_is_read ([] ∷ tags) number last app pdu h known = absurd (omega (arith, h.1))
led_is_read ((a ∷ []) ∷ tags) number last app pdu h known = absurd (omega (arith, h.1))
led_is_read ((a ∷ b ∷ []) ∷ tags) number last app pdu h known = absurd (omega (arith, h.1))
led_is_read ((a ∷ b ∷ c ∷ []) ∷ tags) number last app pdu h known = absurd (omega (arith, h.1))
led_is_read ((a ∷ b ∷ c ∷ d ∷ e ∷ more) ∷ tags) number last app pdu h known = absurd (omega (arith, h.1))

-- the PDU has no more octets than what it stands in
pub led_within : (number : ℕ) (octets : List ℕ) (x : AppForm × List ℕ) → pdu_behind number octets ≡ Some x → length x.1 ≤ length octets
led_within number octets x e =
    let led = read_is_led number octets x e in
    let size = ap (λ (l : List ℕ). length l) led.spelled ∙ length-append (whole_of led.tags) x.1 in
    omega (arith, size)

-- ---- heads

type_within : (link : LinkType) → type_at link + 2 ≤ head_size link
type_within Ethernet = omega arith
type_within Cooked = omega arith
type_within CookedV2 = omega arith

source_within : (link : LinkType) → address_at link + 6 ≤ head_size link
source_within Ethernet = omega arith
source_within Cooked = omega arith
source_within CookedV2 = omega arith

two_front : (octets more : List ℕ) → 2 ≤ length octets → first_two (octets ++ more) ≡ first_two octets
unfolding first_two
two_front [] more le = absurd (omega (arith, le))
two_front (a ∷ []) more le = absurd (omega (arith, le))
two_front (a ∷ b ∷ octets) more le = refl

six_front : (octets more : List ℕ) → 6 ≤ length octets → first_six (octets ++ more) ≡ first_six octets
unfolding first_six
six_front [] more le = absurd (omega (arith, le))
six_front (a ∷ []) more le = absurd (omega (arith, le))
six_front (a ∷ b ∷ []) more le = absurd (omega (arith, le))
six_front (a ∷ b ∷ c ∷ []) more le = absurd (omega (arith, le))
six_front (a ∷ b ∷ c ∷ d ∷ []) more le = absurd (omega (arith, le))
six_front (a ∷ b ∷ c ∷ d ∷ e ∷ []) more le = absurd (omega (arith, le))
six_front (a ∷ b ∷ c ∷ d ∷ e ∷ f ∷ octets) more le = refl

-- the EtherType of a head is that of what begins with the head
type_front : (link : LinkType) (head more : List ℕ) → length head ≡ head_size link
    → first_two (drop (type_at link) (head ++ more)) ≡ first_two (drop (type_at link) head)
type_front link head more size =
    let within : type_at link + 2 ≤ length head = rw size (type_within link) in
    let front : drop (type_at link) (head ++ more) ≡ drop (type_at link) head ++ more = drop-append-le (type_at link) head more (omega (arith, within)) in
    rw front (two_front (drop (type_at link) head) more (omega (arith, within, length-drop (type_at link) head)))

-- so is its source address
source_front : (link : LinkType) (head more : List ℕ) → length head ≡ head_size link
    → first_six (drop (address_at link) (head ++ more)) ≡ first_six (drop (address_at link) head)
source_front link head more size =
    let within : address_at link + 6 ≤ length head = rw size (source_within link) in
    let front : drop (address_at link) (head ++ more) ≡ drop (address_at link) head ++ more = drop-append-le (address_at link) head more (omega (arith, within)) in
    rw front (six_front (drop (address_at link) head) more (omega (arith, within, length-drop (address_at link) head)))

-- ---- frames

if_some : {X : Type 0} (t : Bool) (o : Option X) (x : X) → cond t o None ≡ Some x → (t ≡ true) × (o ≡ Some x)
if_some true o x e = (refl, e)
if_some false o x e = cc

framed_parts : (source : Option ℕ) (behind : Option (AppForm × List ℕ)) (seen : Seen) → framed source behind ≡ Some seen
    → (source ≡ Some seen.address) × (behind ≡ Some (seen.app, seen.pdu))
framed_parts None behind seen e = cc
framed_parts (Some address) None seen e = cc
framed_parts (Some address) (Some x) seen e =
    let same : record { address = address; app = x.0; pdu = x.1 } ≡ seen = cc in
    subst (λ (y : Seen). (Some address ≡ Some y.address) × (Some x ≡ Some (y.app, y.pdu))) same (refl, refl)

-- a head with what stands behind it
split_frame : (link : LinkType) (head behind : List ℕ) (seen : Seen) → length head ≡ head_size link
    → first_six (drop (address_at link) (head ++ behind)) ≡ Some seen.address
    → pdu_behind (first_two (drop (type_at link) (head ++ behind))) behind ≡ Some (seen.app, seen.pdu)
    → IsFrame link (head ++ behind) seen
split_frame link head behind seen size source read =
    let type = type_front link head behind size in
    let led = read_is_led (first_two (drop (type_at link) head)) behind (seen.app, seen.pdu) (ap (λ (n : ℕ). pdu_behind n behind) (sym type) ∙ read) in
    record {
      head = head;
      size = size;
      source = sym (source_front link head behind size) ∙ source;
      tags = led.tags;
      last = led.last;
      tagged = led.tagged;
      carries = led.carries;
      spelled = ap (λ (l : List ℕ). head ++ l) led.spelled;
    }

pub frame_holds : (p : Packet) (seen : Seen) → frame_in p ≡ Some seen → IsFrame p.link p.octets seen
unfolding frame_in
frame_holds p seen e =
    let n = head_size p.link in
    let c = if_some (nat_le n (length p.octets)) (framed (first_six (drop (address_at p.link) p.octets)) (pdu_behind (first_two (drop (type_at p.link) p.octets)) (drop n p.octets))) seen e in
    let within = leb-true n (length p.octets) c.0 in
    let parts = framed_parts (first_six (drop (address_at p.link) p.octets)) (pdu_behind (first_two (drop (type_at p.link) p.octets)) (drop n p.octets)) seen c.1 in
    let whole : take n p.octets ++ drop n p.octets ≡ p.octets = take-append-drop n p.octets in
    subst (λ (l : List ℕ). IsFrame p.link l seen) whole
    (split_frame p.link (take n p.octets) (drop n p.octets) seen (length-take-le n p.octets within)
    (ap (λ (l : List ℕ). first_six (drop (address_at p.link) l)) whole ∙ parts.0)
    (ap (λ (l : List ℕ). pdu_behind (first_two (drop (type_at p.link) l)) (drop n p.octets)) whole ∙ parts.1))

frame_again : (link : LinkType) (octets : List ℕ) (seen : Seen) (is : IsFrame link octets seen)
    → cond (nat_le (head_size link) (length octets))
    (framed (first_six (drop (address_at link) octets)) (pdu_behind (first_two (drop (type_at link) octets)) (drop (head_size link) octets))) None ≡ Some seen
frame_again link octets seen is =
    let behind = whole_of is.tags ++ seen.pdu in
    let size : length octets ≡ length is.head + length behind = ap (λ (l : List ℕ). length l) is.spelled ∙ length-append is.head behind in
    let within : nat_le (head_size link) (length octets) ≡ true = le-leb (head_size link) (length octets) (omega (arith, size, is.size)) in
    let source : first_six (drop (address_at link) octets) ≡ Some seen.address =
    ap (λ (l : List ℕ). first_six (drop (address_at link) l)) is.spelled ∙ source_front link is.head behind is.size ∙ is.source in
    let type : first_two (drop (type_at link) octets) ≡ first_two (drop (type_at link) is.head) =
    ap (λ (l : List ℕ). first_two (drop (type_at link) l)) is.spelled ∙ type_front link is.head behind is.size in
    let rest : drop (head_size link) octets ≡ behind =
    ap (λ (l : List ℕ). drop (head_size link) l) is.spelled ∙ ap (λ (n : ℕ). drop n (is.head ++ behind)) (sym is.size) ∙ drop-append_seam is.head behind in
    let read = led_is_read is.tags (first_two (drop (type_at link) is.head)) is.last seen.app seen.pdu is.tagged is.carries in
    rw (within, source, type, rest, read) refl

pub frame_is_read : (p : Packet) (seen : Seen) → IsFrame p.link p.octets seen → frame_in p ≡ Some seen
unfolding frame_in
frame_is_read p seen is = frame_again p.link p.octets seen is

-- the PDU of a frame in place has no more octets than what stands behind its head
pub framed_within : (o : Option MrpFrame) (source : Option ℕ) (behind : Option (AppForm × List ℕ)) (n : ℕ) → option_map seen_in o ≡ framed source behind
    → ((x : AppForm × List ℕ) → behind ≡ Some x → length x.1 ≤ n) → IfSome o (λ f. length f.pdu.now ≤ n)
framed_within None source behind n e within = tt
framed_within (Some f) source behind n e within =
    let parts = framed_parts source behind (seen_in f) (sym e) in within (f.app, f.pdu.now) parts.1
