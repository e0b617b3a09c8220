-- What is read of a file is what the grammar says of it.
use Rattle.std.specs.Prelude.{nat_lt}
use Rattle.std.proofs.Common.{◌≡◌, ℕ, zero, suc, ◌-◌, ◌<◌, ◌≤◌, Bool, true, false, cond, List, [], ◌∷◌, ◌++◌, length, take, drop, Option, Some, None, option_map, Result, Ok, Err, refl, sym, ap, subst, ◌∙◌, append_assoc, append-nil, length-append, arith}
use Rattle.std.proofs.lemmas.{Bool.Decides.nat_tests, List.take-append-drop, List.length-drop, List.length-take-le}
use Rattle.capture_file.specs.{CaptureErr, FileForm, Pcap, Pcapng, LinkType, Magic, Setting, Packet, IsPiece, Meant, meaning, after, packets_meant, is_read_on, link_numbered, field, magic_of, head_size, head_link, pcap_setting, setting_of, setting_in, Piece, IsWhole, AreWhole, setting_after, pieces_octets, pieces_packets, Reaches, Spells, NoneBegins, BreaksAt, Outcome, IsReading, piece_at, with_meant, pieces_in, behind_head, read_as, placed_in, reading}
use Rattle.capture_file.specs.declared.error.CaptureErr.TheVariants as errors
use Rattle.capture_file.specs.Pieces.Meant.{Frame, Section, Described, OtherLink, PassedOver}
use Rattle.capture_file.specs.Grammar.BreaksAt.{in_head, in_piece}
use Rattle.capture_file.specs.Grammar.HasOtherLink.{in_head as link_in_head, in_piece as link_in_piece}
use Rattle.capture_file.proofs.PieceLoops.{Begins, begins, sized, piece_reads, pieces_step, pieces_stop, pieces_end}

-- ---- pieces from a setting on

-- whole pieces, and what stands behind them
record Runs (s : Setting) (octets : List ℕ) (packets : List Packet) (rest : List ℕ) : Type 0 where
  pieces : List Piece
  rules : AreWhole s pieces
  whole : octets ≡ pieces_octets pieces ++ rest
  meaning : packets ≡ pieces_packets pieces

record Breaks (s : Setting) (octets : List ℕ) (packets : List Packet) (left : ℕ) : Type 0 where
  rest : List ℕ
  run : Runs s octets packets rest
  none : NoneBegins (setting_after s run.pieces) rest
  left_is : left ≡ length rest

record Links (s : Setting) (octets : List ℕ) (number : ℕ) : Type 0 where
  packets : List Packet
  text : List ℕ
  more : List ℕ
  run : Runs s octets packets (text ++ more)
  piece : IsPiece (setting_after s run.pieces) text
  means : meaning (setting_after s run.pieces) text ≡ Some (OtherLink number)

abbrev StopsTo : Setting → List ℕ → List Packet → Option ℕ → Type 0
StopsTo s octets packets None = Runs s octets packets []
StopsTo s octets packets (Some left) = Breaks s octets packets left

abbrev Stops : Setting → List ℕ → Outcome → Type 0
Stops s octets (Ok x) = StopsTo s octets x.0 x.1
Stops s octets (Err errors.NotCapture) = ⊥
Stops s octets (Err (errors.OtherLink number)) = Links s octets number
Stops s octets (Err errors.NoMemory) = ⊥

with_ok : (meant : Meant) (packets : List Packet) (end : Option ℕ) → is_read_on meant ≡ true → with_meant meant (Ok (packets, end)) ≡ Ok (packets_meant meant ++ packets, end)
with_ok (OtherLink number) packets end on = absurd cc
with_ok (Frame packet) packets end on = refl
with_ok (Section order) packets end on = refl
with_ok (Described i) packets end on = refl
with_ok PassedOver packets end on = refl

with_err : (meant : Meant) (e : CaptureErr) → is_read_on meant ≡ true → with_meant meant (Err e) ≡ Err e
with_err (OtherLink number) e on = absurd cc
with_err (Frame packet) e on = refl
with_err (Section order) e on = refl
with_err (Described i) e on = refl
with_err PassedOver e on = refl

-- one piece more in front
module _ (s : Setting) (p : Piece) (is : IsWhole s p) (behind : List ℕ) where
  run_more : (packets : List Packet) (rest : List ℕ) → Runs (after s p.meant) behind packets rest → Runs s (p.text ++ behind) (packets_meant p.meant ++ packets) rest
  run_more packets rest run = record {
    pieces = p ∷ run.pieces;
    rules = (is, run.rules);
    whole = ap (λ (o : List ℕ). p.text ++ o) run.whole ∙ sym (append_assoc p.text (pieces_octets run.pieces) rest);
    meaning = ap (λ (ps : List Packet). packets_meant p.meant ++ ps) run.meaning;
  }

  to_more : (packets : List Packet) (end : Option ℕ) → StopsTo (after s p.meant) behind packets end → StopsTo s (p.text ++ behind) (packets_meant p.meant ++ packets) end
  unfolding run_more
  to_more packets None run = run_more packets [] run
  to_more packets (Some left) b = record { rest = b.rest; run = run_more packets b.rest b.run; none = b.none; left_is = b.left_is }

  stops_more : (outcome : Outcome) → Stops (after s p.meant) behind outcome → Stops s (p.text ++ behind) (with_meant p.meant outcome)
  unfolding run_more
  stops_more (Ok x) h = subst (λ (o : Outcome). Stops s (p.text ++ behind) o) (sym (with_ok p.meant x.0 x.1 is.on)) (to_more x.0 x.1 h)
  stops_more (Err errors.NotCapture) h = absurd h
  stops_more (Err errors.NoMemory) h = absurd h
  stops_more (Err (errors.OtherLink number)) h =
      subst (λ (o : Outcome). Stops s (p.text ++ behind) o) (sym (with_err p.meant (errors.OtherLink number) is.on))
      (record { packets = packets_meant p.meant ++ h.packets; text = h.text; more = h.more; run = run_more h.packets (h.text ++ h.more) h.run; piece = h.piece; means = h.means })

no_pieces : (s : Setting) (octets : List ℕ) → Runs s octets [] octets
no_pieces s octets = record { pieces = []; rules = tt; whole = refl; meaning = refl }

no_meaning : (m : Option Meant) (n : ℕ) → option_map (sized n) m ≡ None → m ≡ None
no_meaning None n e = refl
no_meaning (Some x) n e = absurd cc

-- none begins where none is read
none_begins : (s : Setting) (octets : List ℕ) → 0 < length octets → piece_at s octets ≡ None → NoneBegins s octets
none_begins s octets some e = record {
  some = some;
  none = λ text more is piece. no_meaning (meaning s text) (length text) (sym (piece_reads s text more piece) ∙ ap (λ (o : List ℕ). piece_at s o) (sym is) ∙ e);
}

-- a piece behind which nothing is read
link_stops : (s : Setting) (octets : List ℕ) (n number : ℕ) → Begins s octets (OtherLink number) n → Links s octets number
link_stops s octets n number b = record {
  packets = [];
  text = take n octets;
  more = drop n octets;
  run = record { pieces = []; rules = tt; whole = sym (take-append-drop n octets); meaning = refl };
  piece = b.piece;
  means = b.means;
}

module _ (s : Setting) (octets : List ℕ) (n : ℕ) (rest_stops : (meant : Meant) → Begins s octets meant n → Stops (after s meant) (drop n octets) (pieces_in 0 (after s meant) (drop n octets))) where
  on_stops : (meant : Meant) → Begins s octets meant n → is_read_on meant ≡ true → Stops s octets (with_meant meant (pieces_in 0 (after s meant) (drop n octets)))
  on_stops meant b on =
      let p : Piece = record { text = take n octets; meant = meant } in
      let whole : IsWhole s p = record { piece = b.piece; means = b.means; on = on } in
      subst (λ (o : List ℕ). Stops s o (with_meant meant (pieces_in 0 (after s meant) (drop n octets)))) (take-append-drop n octets)
      (stops_more s p whole (drop n octets) (pieces_in 0 (after s meant) (drop n octets)) (rest_stops meant b))

  step_stops : (meant : Meant) → Begins s octets meant n → Stops s octets (with_meant meant (pieces_in 0 (after s meant) (drop n octets)))
  step_stops (OtherLink number) b = link_stops s octets n number b
  step_stops (Frame packet) b = on_stops (Frame packet) b refl
  step_stops (Section order) b = on_stops (Section order) b refl
  step_stops (Described i) b = on_stops (Described i) b refl
  step_stops PassedOver b = on_stops PassedOver b refl

-- what holds of the pieces behind each piece holds of all
found_stops : (s : Setting) (octets : List ℕ) → 0 < length octets
    → ((meant : Meant) (n : ℕ) → Begins s octets meant n → Stops (after s meant) (drop n octets) (pieces_in 0 (after s meant) (drop n octets)))
    → (r : Option (Meant × ℕ)) → piece_at s octets ≡ r → Stops s octets (pieces_in 0 s octets)
unfolding no_pieces
found_stops s octets some behind None e =
    subst (λ (x : Outcome). Stops s octets x) (sym (pieces_stop s octets some e))
    (record { rest = octets; run = no_pieces s octets; none = none_begins s octets some e; left_is = refl })
found_stops s octets some behind (Some x) e =
    subst (λ (y : Outcome). Stops s octets y) (sym (pieces_step s octets x.0 x.1 e))
    (step_stops s octets x.1 (λ meant b. behind meant x.1 b) x.0 (begins s octets x.0 x.1 e))

pieces_stops : (fuel : ℕ) (s : Setting) (octets : List ℕ) → length octets ≤ fuel → Stops s octets (pieces_in 0 s octets)
pieces_stops fuel s [] enough = subst (λ (o : Outcome). Stops s [] o) (sym (pieces_end 0 s [] refl)) (no_pieces s [])
pieces_stops zero s (o ∷ octets) enough = absurd (omega (arith, enough))
pieces_stops (suc fuel) s (o ∷ octets) enough =
    found_stops s (o ∷ octets) (omega arith)
    (λ meant n b. pieces_stops fuel (after s meant) (drop n (o ∷ octets)) (omega (arith, enough, b.some, b.within, length-drop n (o ∷ octets))))
    (piece_at s (o ∷ octets)) refl

-- ---- a file

-- a head fails for its link type alone
abbrev IsOther : CaptureErr → Type 0
IsOther errors.NotCapture = ⊥
IsOther (errors.OtherLink number) = Unit {0}
IsOther errors.NoMemory = ⊥

pcap_err : (magic : Magic) (snap : ℕ) (link : Option LinkType) (number : ℕ) (e : CaptureErr) → pcap_setting magic snap link number ≡ Err e → IsOther e
pcap_err magic snap None number e h = subst IsOther (let same : errors.OtherLink number ≡ e = cc in same) tt
pcap_err magic snap (Some link) number e h = absurd cc

form_err : (form : FileForm) (magic : Magic) (octets : List ℕ) (e : CaptureErr) → setting_of form magic octets ≡ Err e → IsOther e
form_err Pcap magic octets e h = pcap_err magic (field magic.order 16 octets) (link_numbered (head_link magic octets)) (head_link magic octets) e h
form_err Pcapng magic octets e h = absurd cc

setting_err : (magic : Magic) (octets : List ℕ) (e : CaptureErr) → setting_in magic octets ≡ Err e → IsOther e
unfolding setting_in
setting_err magic octets e h = form_err magic.form magic octets e h

module _ (octets : List ℕ) (magic : Magic) (known : magic_of octets ≡ Some magic) (fits : head_size magic.form ≤ length octets) where
  module _ (start : Setting) (starts : setting_in magic octets ≡ Ok start) where
    reaches : (packets : List Packet) (rest : List ℕ) (run : Runs start (drop (head_size magic.form) octets) packets rest)
        → Reaches octets packets (setting_after start run.pieces) (take (head_size magic.form) octets ++ pieces_octets run.pieces) rest
    reaches packets rest run = record {
      magic = magic;
      known = known;
      head = take (head_size magic.form) octets;
      size = length-take-le (head_size magic.form) octets fits;
      start = start;
      starts = starts;
      pieces = run.pieces;
      rules = run.rules;
      spelled = refl;
      whole = sym (take-append-drop (head_size magic.form) octets) ∙ ap (λ (o : List ℕ). take (head_size magic.form) octets ++ o) run.whole
          ∙ sym (append_assoc (take (head_size magic.form) octets) (pieces_octets run.pieces) rest);
      meaning = run.meaning;
      leaves = refl;
    }

    whole_file : (packets : List Packet) → Runs start (drop (head_size magic.form) octets) packets [] → Spells octets packets
    whole_file packets run =
        let front = take (head_size magic.form) octets ++ pieces_octets run.pieces in
        let r = reaches packets [] run in
        let all : front ≡ octets = sym (append-nil front) ∙ sym r.whole in
        record { setting = setting_after start run.pieces; reaches = subst (λ (f : List ℕ). Reaches octets packets (setting_after start run.pieces) f []) all r }

    broken_file : (packets : List Packet) (left : ℕ) → Breaks start (drop (head_size magic.form) octets) packets left → BreaksAt octets packets (length octets - left)
    broken_file packets left b =
        let front = take (head_size magic.form) octets ++ pieces_octets b.run.pieces in
        let r = reaches packets b.rest b.run in
        in_piece (setting_after start b.run.pieces) front b.rest r b.none (omega (arith, b.left_is, ap length r.whole, length-append front b.rest))

    file_holds : (outcome : Outcome) → Stops start (drop (head_size magic.form) octets) outcome → IsReading octets (placed_in (length octets) outcome)
    file_holds (Ok x) h = go x.1 h where
      go : (end : Option ℕ) → StopsTo start (drop (head_size magic.form) octets) x.0 end → IsReading octets (placed_in (length octets) (Ok (x.0, end)))
      go None run = whole_file x.0 run
      go (Some left) b = broken_file x.0 left b
    file_holds (Err errors.NotCapture) h = absurd h
    file_holds (Err errors.NoMemory) h = absurd h
    file_holds (Err (errors.OtherLink number)) h =
        link_in_piece h.packets (setting_after start h.run.pieces) (take (head_size magic.form) octets ++ pieces_octets h.run.pieces) h.text h.more
        (reaches h.packets (h.text ++ h.more) h.run) h.piece h.means

  head_holds : (s : Result Setting CaptureErr) → setting_in magic octets ≡ s → IsReading octets (placed_in (length octets) (behind_head s (drop (head_size magic.form) octets)))
  head_holds (Ok start) is =
      file_holds start is (pieces_in 0 start (drop (head_size magic.form) octets))
      (pieces_stops (length octets) start (drop (head_size magic.form) octets) (omega (arith, length-drop (head_size magic.form) octets)))
  head_holds (Err (errors.OtherLink number)) is = link_in_head magic known fits is
  head_holds (Err errors.NotCapture) is = absurd (setting_err magic octets errors.NotCapture is)
  head_holds (Err errors.NoMemory) is = absurd (setting_err magic octets errors.NoMemory is)

magic_holds : (octets : List ℕ) (m : Option Magic) → magic_of octets ≡ m → IsReading octets (placed_in (length octets) (read_as m octets))
magic_holds octets None is = is
magic_holds octets (Some magic) is = go (nat_lt (length octets) (head_size magic.form)) refl where
  go : (b : Bool) → nat_lt (length octets) (head_size magic.form) ≡ b
      → IsReading octets (placed_in (length octets) (cond b (Ok ([], Some (length octets))) (behind_head (setting_in magic octets) (drop (head_size magic.form) octets))))
  go true short = in_head magic is (grind (arith, nat_tests)) refl (omega arith)
  go false fits = head_holds octets magic is (grind (arith, nat_tests)) (setting_in magic octets) refl

pub reading_holds : (octets : List ℕ) → IsReading octets (reading octets)
unfolding reading
reading_holds octets = magic_holds octets (magic_of octets) refl
