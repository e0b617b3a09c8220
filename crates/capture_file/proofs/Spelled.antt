-- What the grammar says of a file is what is read of it.
use Rattle.std.specs.Prelude.{nat_lt}
use Rattle.std.proofs.Common.{◌≡◌, ℕ, ◌-◌, ◌≤◌, true, false, List, [], ◌∷◌, ◌++◌, length, take, drop, Option, Some, None, option_map, Result, Ok, Err, refl, sym, ap, ◌∙◌, append_assoc, append-nil, length-append, arith}
use Rattle.std.proofs.lemmas.{Bool.Decides.nat_tests, List.drop_at, List.take-append-drop}
use Rattle.capture_file.specs.{CaptureErr, Magic, Setting, Packet, IsPiece, Meant, meaning, after, packets_meant, is_read_on, magic_of, head_size, setting_in, Piece, AreWhole, setting_after, pieces_octets, pieces_packets, Reaches, Spells, NoneBegins, BreaksAt, HasOtherLink, Outcome, IsReading, piece_at, with_meant, pieces_in, behind_head, read_as, placed_in, reading}
use Rattle.capture_file.specs.declared.error.CaptureErr.TheVariants as errors
use Rattle.capture_file.specs.Pieces.Meant.{Frame, Section, Described, OtherLink, PassedOver}
use Rattle.capture_file.specs.Grammar.BreaksAt.{in_head, in_piece}
use Rattle.capture_file.specs.Grammar.HasOtherLink.{in_head as link_in_head, in_piece as link_in_piece}
use Rattle.capture_file.proofs.PieceLoops.{begins, sized, piece_reads, pieces_step, pieces_stop, pieces_end, with_front}

-- ---- pieces

front_none : (outcome : Outcome) → with_front [] outcome ≡ outcome
front_none (Ok x) = refl
front_none (Err e) = refl

front_more : (meant : Meant) (front : List Packet) (outcome : Outcome) → is_read_on meant ≡ true → with_meant meant (with_front front outcome) ≡ with_front (packets_meant meant ++ front) outcome
front_more (OtherLink number) front outcome on = absurd cc
front_more (Frame packet) front (Ok x) on = refl
front_more (Section order) front (Ok x) on = refl
front_more (Described i) front (Ok x) on = refl
front_more PassedOver front (Ok x) on = refl
front_more (Frame packet) front (Err e) on = refl
front_more (Section order) front (Err e) on = refl
front_more (Described i) front (Err e) on = refl
front_more PassedOver front (Err e) on = refl

-- a piece that means this is read as it
piece_says : (s : Setting) (text more : List ℕ) (meant : Meant) → IsPiece s text → meaning s text ≡ Some meant → piece_at s (text ++ more) ≡ Some (meant, length text)
piece_says s text more meant is means = piece_reads s text more is ∙ ap (option_map (sized (length text))) means

-- whole pieces, and what is read behind them
past : (ps : List Piece) (s : Setting) (rest : List ℕ) → AreWhole s ps → pieces_in 0 s (pieces_octets ps ++ rest) ≡ with_front (pieces_packets ps) (pieces_in 0 (setting_after s ps) rest)
past [] s rest all = sym (front_none (pieces_in 0 s rest))
past (p ∷ ps) s rest all =
    let others = pieces_octets ps ++ rest in
    let behind : drop (length p.text) (p.text ++ others) ≡ others = drop_at p.text others (length p.text) refl in
    ap (λ (o : List ℕ). pieces_in 0 s o) (append_assoc p.text (pieces_octets ps) rest)
    ∙ pieces_step s (p.text ++ others) p.meant (length p.text) (piece_says s p.text others p.meant all.0.piece all.0.means)
    ∙ ap (λ (o : List ℕ). with_meant p.meant (pieces_in 0 (after s p.meant) o)) behind
    ∙ ap (with_meant p.meant) (past ps (after s p.meant) rest all.1)
    ∙ front_more p.meant (pieces_packets ps) (pieces_in 0 (setting_after (after s p.meant) ps) rest) all.0.on

-- where none begins, none is read
none_read : (s : Setting) (rest : List ℕ) → NoneBegins s rest → piece_at s rest ≡ None
none_read s rest none = go (piece_at s rest) refl where
  go : (r : Option (Meant × ℕ)) → piece_at s rest ≡ r → piece_at s rest ≡ None
  go None is = is
  go (Some x) is =
      let b = begins s rest x.0 x.1 is in
      let n = none.none (take x.1 rest) (drop x.1 rest) (sym (take-append-drop x.1 rest)) b.piece in
      let both : ◌≡◌ {A = Option Meant} (Some x.0) None = sym b.means ∙ n in
      absurd (cc both)

-- ---- a file

-- behind a head that is whole
behind_is : (octets : List ℕ) (magic : Magic) → magic_of octets ≡ Some magic → head_size magic.form ≤ length octets
    → read_as (magic_of octets) octets ≡ behind_head (setting_in magic octets) (drop (head_size magic.form) octets)
behind_is octets magic known le = rw (known, not_short) refl where
  not_short : nat_lt (length octets) (head_size magic.form) ≡ false
  not_short = grind (arith, nat_tests)

-- what is read of a file is its frames up to a place, and what is read from there on
reaches_read : (octets : List ℕ) (packets : List Packet) (setting : Setting) (front rest : List ℕ) → Reaches octets packets setting front rest
    → read_as (magic_of octets) octets ≡ with_front packets (pieces_in 0 setting rest)
reaches_read octets packets setting front rest r =
    let text : octets ≡ r.head ++ (pieces_octets r.pieces ++ rest) = r.whole ∙ ap (λ (o : List ℕ). o ++ rest) r.spelled ∙ append_assoc r.head (pieces_octets r.pieces) rest in
    let fits : head_size r.magic.form ≤ length octets = omega (arith, ap length text, length-append r.head (pieces_octets r.pieces ++ rest), r.size) in
    let behind : drop (head_size r.magic.form) octets ≡ pieces_octets r.pieces ++ rest
    = ap (λ (o : List ℕ). drop (head_size r.magic.form) o) text ∙ drop_at r.head (pieces_octets r.pieces ++ rest) (head_size r.magic.form) r.size in
    behind_is octets r.magic r.known fits
    ∙ ap (λ (o : List ℕ). behind_head (setting_in r.magic octets) o) behind
    ∙ ap (λ (s : Result Setting CaptureErr). behind_head s (pieces_octets r.pieces ++ rest)) r.starts
    ∙ past r.pieces r.start rest r.rules
    ∙ ap (λ (ps : List Packet). with_front ps (pieces_in 0 (setting_after r.start r.pieces) rest)) (sym r.meaning)
    ∙ ap (λ (s : Setting). with_front packets (pieces_in 0 s rest)) (sym r.leaves)

whole_read : (octets : List ℕ) (packets : List Packet) → Spells octets packets → reading octets ≡ Ok (packets, None)
unfolding reading
whole_read octets packets s =
    ap (placed_in (length octets)) (reaches_read octets packets s.setting octets [] s.reaches ∙ ap (with_front packets) (pieces_end 0 s.setting [] refl))
    ∙ ap (λ (ps : List Packet). let r : Outcome = Ok (ps, None) in r) (append-nil packets)

broken_read : (octets : List ℕ) (packets : List Packet) (place : ℕ) → BreaksAt octets packets place → reading octets ≡ Ok (packets, Some place)
unfolding reading
broken_read octets packets place (in_head magic known short none at_start) = rw (known, is_short, none, at_start, same) refl where
  is_short : nat_lt (length octets) (head_size magic.form) ≡ true
  is_short = grind (arith, nat_tests)

  same : length octets - length octets ≡ 0
  same = omega arith
broken_read octets packets place (in_piece setting front rest r none at_place) =
    let left : length octets - length rest ≡ place = omega (arith, at_place, ap length r.whole, length-append front rest) in
    ap (placed_in (length octets)) (reaches_read octets packets setting front rest r ∙ ap (with_front packets) (pieces_stop setting rest none.some (none_read setting rest none)))
    ∙ ap (λ (ps : List Packet). let o : Outcome = Ok (ps, Some (length octets - length rest)) in o) (append-nil packets)
    ∙ ap (λ (n : ℕ). let o : Outcome = Ok (packets, Some n) in o) left

link_read : (octets : List ℕ) (number : ℕ) → HasOtherLink octets number → reading octets ≡ Err (errors.OtherLink number)
unfolding reading
link_read octets number (link_in_head magic known fits other) =
    ap (placed_in (length octets)) (behind_is octets magic known fits ∙ ap (λ (s : Result Setting CaptureErr). behind_head s (drop (head_size magic.form) octets)) other)
link_read octets number (link_in_piece packets setting front text more r is means) =
    ap (placed_in (length octets)) (
    reaches_read octets packets setting front (text ++ more) r
    ∙ ap (with_front packets) (pieces_step setting (text ++ more) (OtherLink number) (length text) (piece_says setting text more (OtherLink number) is means)))

-- the reading of octets is the outcome that they have
pub is_read : (octets : List ℕ) (outcome : Outcome) → IsReading octets outcome → reading octets ≡ outcome
unfolding reading
is_read octets (Ok x) h = go x.1 h where
  go : (place : Option ℕ) → IsReading octets (Ok (x.0, place)) → reading octets ≡ Ok (x.0, place)
  go None s = whole_read octets x.0 s
  go (Some place) b = broken_read octets x.0 place b
is_read octets (Err errors.NotCapture) h = rw h refl
is_read octets (Err (errors.OtherLink number)) h = link_read octets number h
is_read octets (Err errors.NoMemory) h = absurd h
