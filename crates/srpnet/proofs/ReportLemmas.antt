-- Each line of a report that is printed ends with its line feed, and none is the line `journal`.
use Rattle.std.proofs.Common.{◌≡◌, ◌≢◌, ℕ, zero, suc, ◌+◌, ◌-◌, ◌/◌, ◌%◌, Bool, true, false, List, [], ◌∷◌, ◌++◌, length, get_or, replicate, flat_map, refl, sym, ap, subst, ◌∙◌, inl, inr, arith, eqb, Option, Some, None, append_assoc}
use Rattle.std.specs.Prelude.{codes, nat_eq, not, slice_get, ◌==◌, ◌&&◌, if◌then◌else◌}
use Rattle.std.specs.{Cmp.Lexicographic.pointwise, Cmp.Lexicographic.bytes_decides, Fmt.decimal, Fmt.digits, Fmt.digits_onto, Fmt.digit_glyph, List.AllByRecursion, List.list_all, Option.option_map_or}
use Rattle.std.proofs.lemmas.{Bool.cases_Bool, Bool.eqb-true, Bool.Decides.nat_tests, Option.slice_get_cases}
use Rattle.srp_base.proofs.Arithmetic.{glyph_plain}
use Rattle.srp_base.specs.{Hexadecimal.hex16_text, Text.whole_of}
use Rattle.srp_base.specs.declared.{bandwidth.Class.Class, bandwidth.Class.TheVariants.A, bandwidth.Class.TheVariants.B, numbers.Cs.Cs, numbers.EgressPort.EgressPort, numbers.NodeNo.NodeNo, numbers.StreamId.StreamId, streams.Failure.Failure, streams.ListenerKind.ListenerKind}
use Rattle.srp_base.specs.declared.streams.ListenerKind.TheVariants.{AskingFailed, Ready, ReadyFailed}
use Rattle.tree_topology.specs.declared.{graph.Link.Link, graph.NodeKind.NodeKind, graph.NodeKind.TheVariants.Station, graph.NodeKind.TheVariants.Bridge}
use Rattle.tree_topology.specs.{Ports.peer_of, Topology.link_ports}
use Rattle.registrar.specs.declared.Registrar.{Registrar}
use Rattle.registrar.specs.declared.Registrar.TheVariants.{Held, Leaving, Empty}
use Rattle.stream_importance.specs.declared.{entry.Entry.Entry, entry.Want.Want}
use Rattle.msrp_codec.specs.declared.{pdu.MsrpKey.MsrpKey, pdu.MsrpContent.MsrpContent}
use Rattle.msrp_codec.specs.declared.pdu.MsrpKey.TheVariants as keys
use Rattle.msrp_codec.specs.declared.pdu.MsrpContent.TheVariants.{Advertise, Failed, Listener, Domain}
use Rattle.attribute_propagation.specs.Ports.{place_of}
use Rattle.frame_flow.specs.declared.{result.Fate.Fate, result.PortFlow.PortFlow}
use Rattle.msrp.specs.Side.{has_listen, heard_of}
use Rattle.node_core.specs.State.{NodeState, bookings_at, content_at, registered_keys, registrar_at}
use Rattle.node_core.specs.declared.{types.NodeKey.NodeKey, types.NodeKey.TheVariants.Vlan, types.NodeKey.TheVariants.Srp}
use Rattle.topology_file.specs.declared.{entries.NodeEntry.NodeEntry, entries.StreamEntry.StreamEntry}
use Rattle.topology_file.specs.{Entries.is_name_char, Plan.Plan, Scenario.KeepsRules}
use Rattle.world_core.specs.declared.journal.Tick.{Tick}
use Rattle.world_core.specs.World.{WorldState, is_in_step, is_quiet, node_at}
use Rattle.report_words.specs.declared.tally.Tally.{Tally}
use Rattle.report_words.specs.{Lines.end_lines, Lines.port_line, Lines.ticks_line, Names.name_of, Names.port_name, Words.class_name, Words.state_name}
use Rattle.srp_report.specs.declared.departures.SentFrame.{SentFrame}
use Rattle.srp_report.specs.{Counts.replies_of, Counts.tally_of, FrameLines.by_start, FrameLines.depart_line, FrameLines.fates_count, FrameLines.fates_lines, FrameLines.flow_part, FrameLines.flow_parts, FrameLines.frames_line, FrameLines.is_departed, FrameLines.is_left, FrameLines.is_novlan, FrameLines.is_unbooked_fate, FrameLines.sent_frames, Lines.booked_line, Lines.domain_line, Lines.failure_text, Lines.heard_line, Lines.heard_name, Lines.kind_name, Lines.listener_line, Lines.srp_line, Lines.talker_end, Lines.talker_line, Lines.talker_start, Lines.vlan_line, Lines.want_line, Report.before_frames, Report.booked_lines, Report.heard_by_kind, Report.key_line, Report.node_heard, Report.nodes_heard, Report.place_lines, Report.port_part, Report.port_parts, Report.registered_lines, Report.report_text, Report.stream_heard}
use Rattle.journal_audit.specs.Texts.{lines_of, with_octet}
use Rattle.srpnet.specs.{EndsItsLines, LacksLine, is_line}
use Rattle.srpnet.proofs.PartingLemmas.{lines_append}

-- ---- texts without a line feed

abbrev IsPlain : List ℕ → Type 0
IsPlain text = AllByRecursion (λ c. c ≢ 10) text

plain_word : (text : List ℕ) → list_all (λ c. not (c == 10)) text ≡ true → IsPlain text
plain_word [] h = tt
plain_word (c ∷ text) h =
    let both = and_true (not (c == 10)) (list_all (λ d. not (d == 10)) text) h in
    let test = both.0 in
    ((λ e. grind (arith, nat_tests, test, e)), plain_word text both.1)
  where
    and_true : (a b : Bool) → (a && b) ≡ true → (a ≡ true) × (b ≡ true)
    and_true true b is = (refl, is)
    and_true false b is = cc

plain_append : (xs ys : List ℕ) → IsPlain xs → IsPlain ys → IsPlain (xs ++ ys)
plain_append [] ys h k = k
plain_append (x ∷ xs) ys h k = (h.0, plain_append xs ys h.1 k)

plain_whole : (pieces : List (List ℕ)) → AllByRecursion IsPlain pieces → IsPlain (whole_of pieces)
plain_whole [] h = tt
plain_whole (p ∷ pieces) h = plain_append p (whole_of pieces) h.0 (plain_whole pieces h.1)

-- ---- numbers

digits_plain : (k base n : ℕ) (acc : List ℕ) → IsPlain acc → IsPlain (digits_onto k base false n acc)
digits_plain zero base n acc h = h
digits_plain (suc k) base n acc h = by (n / base == 0) (digits_plain k base (n / base) (digit_glyph false (n % base) ∷ acc) (glyph_plain (n % base), h))
  where
    by : (b : Bool) → IsPlain (digits_onto k base false (n / base) (digit_glyph false (n % base) ∷ acc))
        → IsPlain (if b then digit_glyph false (n % base) ∷ acc else digits_onto k base false (n / base) (digit_glyph false (n % base) ∷ acc))
    by true later = (glyph_plain (n % base), h)
    by false later = later

no_digits : IsPlain []
no_digits = tt

number_plain : (n : ℕ) → IsPlain (decimal n)
unfolding digits
number_plain n = digits_plain 64 10 n [] no_digits

zeros_plain : (n : ℕ) → IsPlain (replicate n 48)
zeros_plain zero = tt
zeros_plain (suc n) = ((λ e. absurd (omega (arith, e))), zeros_plain n)

hex_plain : (n : ℕ) → IsPlain (hex16_text n)
unfolding digits hex16_text
hex_plain n = plain_append (replicate (16 - length (digits 16 false n)) 48) (digits 16 false n) (zeros_plain (16 - length (digits 16 false n))) (digits_plain 64 16 n [] no_digits)

-- ---- names

char_plain : (c : ℕ) → is_name_char c ≡ true → c ≢ 10
char_plain c h = λ e. grind (arith, nat_tests, h, e)

chars_plain : (xs : List ℕ) → list_all is_name_char xs ≡ true → IsPlain xs
chars_plain [] h = tt
chars_plain (x ∷ xs) h = let both = and_true (is_name_char x) (list_all is_name_char xs) h in (char_plain x both.0, chars_plain xs both.1)
  where
    and_true : (a b : Bool) → (a && b) ≡ true → (a ≡ true) × (b ≡ true)
    and_true true b is = (refl, is)
    and_true false b is = cc

-- ---- lines

-- a text that ends with its only line feed
record IsTail (text : List ℕ) : Type 0 where
  front : List ℕ
  is : text ≡ front ++ 10 ∷ []
  plain : IsPlain front

tail_behind : (xs text : List ℕ) → IsPlain xs → IsTail text → IsTail (xs ++ text)
tail_behind xs text h t = record {
  front = xs ++ t.front;
  is = ap (λ (l : List ℕ). xs ++ l) t.is ∙ sym (append_assoc xs t.front (10 ∷ []));
  plain = plain_append xs t.front h t.plain;
}

tail_whole : (pieces : List (List ℕ)) → AllByRecursion IsPlain pieces → IsTail (whole_of (pieces ++ codes "\n" ∷ []))
tail_whole [] h = record { front = []; is = refl; plain = tt }
tail_whole (p ∷ pieces) h = tail_behind p (whole_of (pieces ++ codes "\n" ∷ [])) h.0 (tail_whole pieces h.1)

-- the first octet isn't that of the word `journal`
abbrev StartsOther : List ℕ → Type 0
StartsOther [] = ⊥
StartsOther (c ∷ text) = c ≢ 106

-- lines that end, of which none is `journal`
abbrev IsBlock : List ℕ → Type 0
IsBlock text = EndsItsLines text × LacksLine (codes "journal") text

one_line : (front : List ℕ) → IsPlain front → lines_of (front ++ 10 ∷ []) ≡ (front ++ 10 ∷ []) ∷ []
one_line [] h = refl
one_line (c ∷ front) h = elim (cases_Bool (eqb c 10)) [
  | inl is ↦ absurd (h.0 (eqb-true c 10 is))
  | inr off ↦ rw off (ap (with_octet c) (one_line front h.1))
]

ends_with : (front : List ℕ) → EndsItsLines (front ++ 10 ∷ [])
ends_with [] = refl
ends_with (c ∷ []) = refl
ends_with (c ∷ d ∷ front) = ends_with (d ∷ front)

abbrev starts_so : List ℕ → Bool
starts_so [] = false
starts_so (c ∷ word) = eqb c 106

other_line : (line : List ℕ) → StartsOther line → is_line (codes "journal") line ≡ false
other_line [] h = absurd h
other_line (c ∷ line) h = rw (differs (codes "journal\n") refl, differs (codes "journal") refl) refl
  where
    differs : (word : List ℕ) → starts_so word ≡ true → pointwise nat_eq (c ∷ line) word ≡ false
    differs word first = elim (cases_Bool (pointwise nat_eq (c ∷ line) word)) [
      | inl is ↦ absurd (never word first ((bytes_decides (c ∷ line) word).0 is))
      | inr off ↦ off
    ]
      where
        never : (w : List ℕ) → starts_so w ≡ true → c ∷ line ≡ w → ⊥
        never [] t e = cc
        never (d ∷ w) t e = let head : c ≡ d = cc in h (head ∙ eqb-true d 106 t)

block_line : (text : List ℕ) → StartsOther text → IsTail text → IsBlock text
block_line text starts t = (
  subst EndsItsLines (sym t.is) (ends_with t.front),
  subst (λ (ls : List (List ℕ)). AllByRecursion (λ l. is_line (codes "journal") l ≡ false) ls) (sym lines) (other_line text starts, tt),
)
  where
    lines : lines_of text ≡ text ∷ []
    lines = ap lines_of t.is ∙ one_line t.front t.plain ∙ ap (λ (l : List ℕ). l ∷ []) (sym t.is)

-- ---- one block behind the other

no_block : IsBlock []
no_block = (tt, tt)

block_append : (xs ys : List ℕ) → IsBlock xs → IsBlock ys → IsBlock (xs ++ ys)
block_append xs ys h k = (
  ends xs ys h.0 k.0,
  subst (λ (ls : List (List ℕ)). AllByRecursion (λ l. is_line (codes "journal") l ≡ false) ls) (sym (lines_append xs ys h.0)) (all (lines_of xs) (lines_of ys) h.1 k.1),
)
  where
    ends : (a b : List ℕ) → EndsItsLines a → EndsItsLines b → EndsItsLines (a ++ b)
    ends [] b p q = q
    ends (c ∷ []) [] p q = p
    ends (c ∷ []) (d ∷ b) p q = q
    ends (c ∷ d ∷ a) b p q = ends (d ∷ a) b p q

    all : (a b : List (List ℕ)) → AllByRecursion (λ l. is_line (codes "journal") l ≡ false) a → AllByRecursion (λ l. is_line (codes "journal") l ≡ false) b
        → AllByRecursion (λ l. is_line (codes "journal") l ≡ false) (a ++ b)
    all [] b p q = q
    all (l ∷ a) b p q = (p.0, all a b p.1 q)

block_whole : (pieces : List (List ℕ)) → AllByRecursion IsBlock pieces → IsBlock (whole_of pieces)
block_whole [] h = no_block
block_whole (p ∷ pieces) h = block_append p (whole_of pieces) h.0 (block_whole pieces h.1)

block_flat : {X : Type 0} (f : X → List ℕ) (xs : List X) → ((x : X) → IsBlock (f x)) → IsBlock (flat_map f xs)
block_flat f [] h = no_block
block_flat f (x ∷ xs) h = block_append (f x) (flat_map f xs) (h x) (block_flat f xs h)

block_option : {X : Type 0} (f : X → List ℕ) (o : Option X) → ((x : X) → IsBlock (f x)) → IsBlock (option_map_or f o [])
block_option f None h = no_block
block_option f (Some x) h = h x

block_if : (b : Bool) (text : List ℕ) → IsBlock text → IsBlock (if b then text else [])
block_if true text h = h
block_if false text h = no_block

-- ---- the lines of a report

state_plain : (state : Registrar) → IsPlain (state_name state)
state_plain Held = plain_word (codes "IN") refl
state_plain Leaving = plain_word (codes "LV") refl
state_plain Empty = plain_word (codes "MT") refl

class_plain : (class : Class) → IsPlain (class_name class)
class_plain A = plain_word (codes "A") refl
class_plain B = plain_word (codes "B") refl

kind_plain : (kind : ListenerKind) → IsPlain (kind_name kind)
kind_plain AskingFailed = plain_word (codes "asking-failed") refl
kind_plain Ready = plain_word (codes "ready") refl
kind_plain ReadyFailed = plain_word (codes "ready-failed") refl

heard_plain : (heard : Option ListenerKind) → IsPlain (heard_name heard)
heard_plain None = plain_word (codes "nothing") refl
heard_plain (Some kind) = kind_plain kind

space : IsPlain (codes " ")
space = plain_word (codes " ") refl

ends_block : (quiet in_step : Bool) → IsBlock (end_lines quiet in_step)
ends_block true true = (refl, (refl, (refl, tt)))
ends_block true false = (refl, (refl, (refl, tt)))
ends_block false true = (refl, (refl, (refl, tt)))
ends_block false false = (refl, (refl, (refl, tt)))

ticks_block : (ticks : ℕ) → IsBlock (ticks_line ticks)
ticks_block ticks = block_line (ticks_line ticks) (λ e. absurd (omega (arith, e)))
    (tail_whole (codes "ticks " ∷ decimal ticks ∷ []) (plain_word (codes "ticks ") refl, (number_plain ticks, tt)))

heard_block : (name : List ℕ) (stream : StreamId) (heard : Option ListenerKind) → IsPlain name → IsBlock (heard_line name stream heard)
heard_block name stream heard plain = block_line (heard_line name stream heard) (λ e. absurd (omega (arith, e)))
    (tail_whole (codes "heard " ∷ name ∷ codes " " ∷ hex16_text stream.0 ∷ codes " " ∷ heard_name heard ∷ [])
    (plain_word (codes "heard ") refl, (plain, (space, (hex_plain stream.0, (space, (heard_plain heard, tt)))))))

-- those of a port
module _ (port : List ℕ) (plain : IsPlain port) where
  port_block : (tally : Tally) → IsBlock (port_line port tally)
  port_block tally = block_line (port_line port tally) (λ e. absurd (omega (arith, e)))
      (tail_whole (codes "port " ∷ port ∷ codes " sent " ∷ decimal tally.sent ∷ codes " octets " ∷ decimal tally.octets ∷ codes " discarded " ∷ decimal tally.discarded ∷ []) (
        plain_word (codes "port ") refl,
        (
          plain,
          (
            plain_word (codes " sent ") refl,
            (
              number_plain tally.sent,
              (
                plain_word (codes " octets ") refl,
                (
                  number_plain tally.octets,
                  (plain_word (codes " discarded ") refl, (number_plain tally.discarded, tt)),
                ),
              ),
            ),
          ),
        ),
      ))

  vlan_block : (vid : ℕ) (state : Registrar) → IsBlock (vlan_line port vid state)
  vlan_block vid state = block_line (vlan_line port vid state) (λ e. absurd (omega (arith, e)))
      (tail_whole (codes "vlan " ∷ port ∷ codes " " ∷ decimal vid ∷ codes " " ∷ state_name state ∷ [])
      (plain_word (codes "vlan ") refl, (plain, (space, (number_plain vid, (space, (state_plain state, tt)))))))

  start_plain : (stream : StreamId) → IsPlain (talker_start port stream)
  start_plain stream = plain_append (codes "talker " ++ port ++ codes " ") (hex16_text stream.0)
      (plain_append (codes "talker " ++ port) (codes " ") (plain_append (codes "talker ") port (plain_word (codes "talker ") refl) plain) space) (hex_plain stream.0)

  end_tail : (latency : ℕ) (state : Registrar) → IsTail (talker_end latency state)
  end_tail latency state = tail_whole (decimal latency ∷ codes " " ∷ state_name state ∷ []) (number_plain latency, (space, (state_plain state, tt)))

  failure_plain : (failure : Failure) → IsPlain (failure_text failure)
  failure_plain failure = plain_whole (codes " failed bridge " ∷ hex16_text failure.bridge.0 ∷ codes " code " ∷ decimal failure.code ∷ codes " latency " ∷ [])
      (plain_word (codes " failed bridge ") refl, (hex_plain failure.bridge.0, (plain_word (codes " code ") refl, (number_plain failure.code, (plain_word (codes " latency ") refl, tt)))))

  talker_block : (stream : StreamId) (content : Option MsrpContent) (state : Registrar) → IsBlock (talker_line port stream content state)
  talker_block stream None state = no_block
  talker_block stream (Some (Advertise talker)) state =
      block_line (talker_line port stream (Some (Advertise talker)) state) (λ e. absurd (omega (arith, e)))
      (tail_behind (talker_start port stream ++ codes " advertise latency ") (talker_end talker.latency state)
      (plain_append (talker_start port stream) (codes " advertise latency ") (start_plain stream) (plain_word (codes " advertise latency ") refl)) (end_tail talker.latency state))
  talker_block stream (Some (Failed talker failure)) state =
      block_line (talker_line port stream (Some (Failed talker failure)) state) (λ e. absurd (omega (arith, e)))
      (tail_behind (talker_start port stream ++ failure_text failure) (talker_end talker.latency state)
      (plain_append (talker_start port stream) (failure_text failure) (start_plain stream) (failure_plain failure)) (end_tail talker.latency state))
  talker_block stream (Some (Listener kind)) state = no_block
  talker_block stream (Some (Domain priority vid)) state = no_block

  listener_block : (stream : StreamId) (content : Option MsrpContent) (state : Registrar) → IsBlock (listener_line port stream content state)
  listener_block stream None state = no_block
  listener_block stream (Some (Advertise talker)) state = no_block
  listener_block stream (Some (Failed talker failure)) state = no_block
  listener_block stream (Some (Listener kind)) state =
      block_line (listener_line port stream (Some (Listener kind)) state) (λ e. absurd (omega (arith, e)))
      (tail_whole (codes "listener " ∷ port ∷ codes " " ∷ hex16_text stream.0 ∷ codes " " ∷ kind_name kind ∷ codes " " ∷ state_name state ∷ [])
      (plain_word (codes "listener ") refl, (plain, (space, (hex_plain stream.0, (space, (kind_plain kind, (space, (state_plain state, tt)))))))))
  listener_block stream (Some (Domain priority vid)) state = no_block

  domain_block : (class : ℕ) (content : Option MsrpContent) (state : Registrar) → IsBlock (domain_line port class content state)
  domain_block class None state = no_block
  domain_block class (Some (Advertise talker)) state = no_block
  domain_block class (Some (Failed talker failure)) state = no_block
  domain_block class (Some (Listener kind)) state = no_block
  domain_block class (Some (Domain priority vid)) state =
      block_line (domain_line port class (Some (Domain priority vid)) state) (λ e. absurd (omega (arith, e)))
      (tail_whole (codes "domain " ∷ port ∷ codes " " ∷ decimal class ∷ codes " priority " ∷ decimal priority ∷ codes " vid " ∷ decimal vid ∷ codes " " ∷ state_name state ∷ []) (
        plain_word (codes "domain ") refl,
        (
          plain,
          (
            space,
            (
              number_plain class,
              (
                plain_word (codes " priority ") refl,
                (
                  number_plain priority,
                  (
                    plain_word (codes " vid ") refl,
                    (number_plain vid, (space, (state_plain state, tt))),
                  ),
                ),
              ),
            ),
          ),
        ),
      ))

  srp_block : (domains : Bool) (key : MsrpKey) (content : Option MsrpContent) (state : Registrar) → IsBlock (srp_line domains port key content state)
  srp_block domains (keys.Talker stream) content state = talker_block stream content state
  srp_block domains (keys.Listener stream) content state = listener_block stream content state
  srp_block domains (keys.Domain class) content state = block_if domains (domain_line port class content state) (domain_block class content state)

  want_block : (want : Want) (since : Option Cs) → IsBlock (want_line port want since)
  want_block want None = no_block
  want_block want (Some since) =
      block_line (want_line port want (Some since)) (λ e. absurd (omega (arith, e)))
      (tail_whole (codes "booked " ∷ port ∷ codes " " ∷ hex16_text want.stream.0 ∷ codes " " ∷ class_name want.class ∷ codes " slope " ∷ decimal want.slope ∷ codes " since " ∷ decimal since.0 ∷ []) (
        plain_word (codes "booked ") refl,
        (
          plain,
          (
            space,
            (
              hex_plain want.stream.0,
              (
                space,
                (
                  class_plain want.class,
                  (
                    plain_word (codes " slope ") refl,
                    (
                      number_plain want.slope,
                      (plain_word (codes " since ") refl, (number_plain since.0, tt)),
                    ),
                  ),
                ),
              ),
            ),
          ),
        ),
      ))

  frames_block : (fates : List (ℕ × Fate)) → IsBlock (frames_line port fates)
  frames_block fates =
      let departed = fates_count is_departed fates in
      let unbooked = fates_count is_unbooked_fate fates in
      let novlan = fates_count is_novlan fates in
      let left = fates_count is_left fates in
      block_line (frames_line port fates) (λ e. absurd (omega (arith, e)))
      (tail_whole (codes "frames " ∷ port ∷ codes " departed " ∷ decimal departed ∷ codes " unbooked " ∷ decimal unbooked ∷ codes " novlan " ∷ decimal novlan ∷ codes " left " ∷ decimal left ∷ []) (
        plain_word (codes "frames ") refl,
        (
          plain,
          (
            plain_word (codes " departed ") refl,
            (
              number_plain departed,
              (
                plain_word (codes " unbooked ") refl,
                (
                  number_plain unbooked,
                  (plain_word (codes " novlan ") refl, (number_plain novlan, (plain_word (codes " left ") refl, (number_plain left, tt)))),
                ),
              ),
            ),
          ),
        ),
      ))

  depart_block : (d : SentFrame) → IsBlock (depart_line port d)
  depart_block d =
      block_line (depart_line port d) (λ e. absurd (omega (arith, e)))
      (tail_whole (codes "depart " ∷ port ∷ codes " frame " ∷ decimal d.frame ∷ codes " start " ∷ decimal d.start ∷ codes " end " ∷ decimal d.end ∷ []) (
        plain_word (codes "depart ") refl,
        (
          plain,
          (
            plain_word (codes " frame ") refl,
            (
              number_plain d.frame,
              (
                plain_word (codes " start ") refl,
                (
                  number_plain d.start,
                  (plain_word (codes " end ") refl, (number_plain d.end, tt)),
                ),
              ),
            ),
          ),
        ),
      ))

  fates_block : (fates : List (ℕ × Fate)) → IsBlock (fates_lines port fates)
  fates_block fates =
      block_append (frames_line port fates) (flat_map (depart_line port) (by_start (sent_frames fates))) (frames_block fates)
      (block_flat (depart_line port) (by_start (sent_frames fates)) depart_block)

  key_block : (domains : Bool) (at : ℕ) (s : NodeState) (key : NodeKey) → IsBlock (key_line domains port at s key)
  key_block domains at s (Vlan vid) = vlan_block vid (registrar_at (Vlan vid) at s)
  key_block domains at s (Srp key) = srp_block domains key (content_at key at s) (registrar_at (Srp key) at s)

  place_block : (domains : Bool) (at : ℕ) (s : NodeState) → IsBlock (place_lines domains port at s)
  place_block domains at s =
      block_append (registered_lines domains port at s) (booked_lines port at s) (block_flat (key_line domains port at s) (registered_keys at s) (key_block domains at s))
      (block_flat (booked_line port) (bookings_at at s) (λ (x : Entry). want_block x.want x.since))

-- ---- the report

module _ (plan : Plan) (rules : KeepsRules plan) where
  name_plain : (x : NodeNo) → IsPlain (name_of plan.nodes x)
  name_plain x = by (x.0 == 0)
    where
      entry : IsPlain (option_map_or (λ (node : NodeEntry). node.name) (slice_get plan.nodes (x.0 - 1)) [])
      entry = elim (slice_get_cases plan.nodes (x.0 - 1)).1 [
        | inl is ↦
            let node = is.0 in
            let form = rules.node_forms (x.0 - 1) node is.1 in
            let own = subst (λ (n : NodeEntry). IsPlain n.name) is.3 (chars_plain (get_or plan.nodes (x.0 - 1) node).name (second _ _ form)) in
            subst (λ (o : Option NodeEntry). IsPlain (option_map_or (λ (n : NodeEntry). n.name) o [])) (sym is.2) own
        | inr past ↦ subst (λ (o : Option NodeEntry). IsPlain (option_map_or (λ (n : NodeEntry). n.name) o [])) (sym past.1) no_digits
      ]
        where
          second : (a b : Bool) → (a && b) ≡ true → b ≡ true
          second true b h = h
          second false b h = cc

      by : (b : Bool) → IsPlain (if b then [] else option_map_or (λ (node : NodeEntry). node.name) (slice_get plan.nodes (x.0 - 1)) [])
      by true = tt
      by false = entry

  port_plain : (links : List Link) (p : EgressPort) → IsPlain (port_name plan.nodes links p)
  port_plain links p =
      plain_whole (name_of plan.nodes p.node ∷ codes ">" ∷ name_of plan.nodes (peer_of links p).node ∷ [])
      (name_plain p.node, (plain_word (codes ">") refl, (name_plain (peer_of links p).node, tt)))

  part_block : (w : WorldState) (ticks : List Tick) (p : EgressPort) → IsBlock (port_part plan w ticks p)
  part_block w ticks p =
      let port = port_name plan.nodes w.tree.links p in
      let plain = port_plain w.tree.links p in
      block_append (port_line port (tally_of (replies_of p ticks))) (option_map_or (place_lines plan.domains port (place_of p.port)) (node_at p.node w) [])
      (port_block port plain (tally_of (replies_of p ticks)))
      (block_option (place_lines plan.domains port (place_of p.port)) (node_at p.node w) (place_block port plain plan.domains (place_of p.port)))

  kind_block : (kind : NodeKind) (x : NodeNo) (s : NodeState) → IsBlock (heard_by_kind kind (name_of plan.nodes x) s plan.streams)
  kind_block Bridge x s = no_block
  kind_block Station x s =
      let name = name_of plan.nodes x in
      block_flat (stream_heard name s) plan.streams
      (λ (e : StreamEntry). block_if (has_listen e.id s.streams) (heard_line name e.id (heard_of e.id s.streams)) (heard_block name e.id (heard_of e.id s.streams) (name_plain x)))

  nodes_block : (n : ℕ) (nodes : List NodeState) → IsBlock (nodes_heard plan n nodes)
  nodes_block n [] = no_block
  nodes_block n (s ∷ nodes) =
      block_append (node_heard plan (record { 0 = n }) s) (nodes_heard plan (n + 1) nodes) (kind_block s.kind (record { 0 = n }) s) (nodes_block (n + 1) nodes)

  flows_block : (links : List Link) (flows : List PortFlow) → IsBlock (flow_parts plan links flows)
  flows_block links flows = by (length plan.frames == 0)
    where
      by : (b : Bool) → IsBlock (if b then [] else flat_map (flow_part plan links) flows)
      by true = no_block
      by false = block_flat (flow_part plan links) flows (λ (flow : PortFlow). fates_block (port_name plan.nodes links flow.at) (port_plain links flow.at) flow.fates)

  pub report_block : (w : WorldState) (ticks : List Tick) (flows : List PortFlow)
      → EndsItsLines (report_text plan w ticks flows) × LacksLine (codes "journal") (report_text plan w ticks flows)
  report_block w ticks flows =
      block_whole (before_frames plan w ticks ∷ flow_parts plan w.tree.links flows ∷ end_lines (is_quiet w) (is_in_step w) ∷ []) (
        block_whole (ticks_line plan.ticks ∷ port_parts plan w ticks ∷ nodes_heard plan 1 w.nodes ∷ [])
            (ticks_block plan.ticks, (block_flat (port_part plan w ticks) (link_ports w.tree) (part_block w ticks), (nodes_block 1 w.nodes, tt))),
        (flows_block w.tree.links flows, (ends_block (is_quiet w) (is_in_step w), tt)),
      )
