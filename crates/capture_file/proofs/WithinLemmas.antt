-- The octets of each frame that is read stand in the file.
use Rattle.std.specs.List.{AllByRecursion}
use Rattle.std.specs.Prelude.{nat_lt, nat_le, ◌==◌, ◌*◌, ◌&&◌}
use Rattle.std.proofs.Common.{◌≡◌, ℕ, zero, suc, ◌+◌, ◌-◌, ◌≤◌, Bool, true, false, cond, List, [], ◌∷◌, length, take, drop, slice_get, Option, Some, None, Result, Ok, Err, refl, subst, arith}
use Rattle.std.proofs.lemmas.List.{length-take, length-drop, length-take-le}
use Rattle.capture_file.specs.{Record, CaptureErr, ByteOrder, FileForm, Pcap, Pcapng, Interface, LinkType, Magic, Setting, field, half, link_numbered, resolution_in, Packet, packets_in, order_in, Meant, frame_of, section_meant, described, interface_options, interface_meant, enhanced_fits, enhanced_meant, kept, simple_frame, simple_meant, block_meant, meaning_of, meaning, after, magic_of, head_size, setting_in, Outcome, piece_at, with_meant, told, pieces_in, behind_head, read_as, placed_in, reading}
use Rattle.capture_file.specs.Pieces.Meant.{Frame, Section, Described, OtherLink, PassedOver}
use Rattle.capture_file.proofs.PieceLoops.{begins}

-- what a piece says is no frame, or one of at most so many octets
abbrev Small : ℕ → Meant → Type 0
Small n (Frame packet) = length packet.octets ≤ n
Small n (Section order) = Unit {0}
Small n (Described i) = Unit {0}
Small n (OtherLink number) = Unit {0}
Small n PassedOver = Unit {0}

abbrev SmallIf : ℕ → Option Meant → Type 0
SmallIf n None = Unit {0}
SmallIf n (Some meant) = Small n meant

small_choice : (n : ℕ) (b : Bool) (x y : Option Meant) → SmallIf n x → SmallIf n y → SmallIf n (cond b x y)
small_choice n true x y h k = h
small_choice n false x y h k = k

small_frame : (n : ℕ) (i : Option Interface) (seconds ticks whole : ℕ) (octets : List ℕ) → length octets ≤ n → SmallIf n (frame_of i seconds ticks whole octets)
small_frame n None seconds ticks whole octets le = tt
small_frame n (Some i) seconds ticks whole octets le = le

small_described : (n : ℕ) (link : Option LinkType) (number snap : ℕ) (resolution : Option ℕ) → SmallIf n (described link number snap resolution)
small_described n None number snap resolution = tt
small_described n (Some link) number snap None = tt
small_described n (Some link) number snap (Some resolution) = tt

part_within : (size at : ℕ) (text : List ℕ) → length (take size (drop at text)) ≤ length text
part_within size at text = omega (arith, length-take size (drop at text), length-drop at text)

small_simple : (i : Option Interface) (whole : ℕ) (text : List ℕ) → SmallIf (length text) (simple_frame i whole text)
small_simple None whole text = tt
small_simple (Some i) whole text =
    let octets = take (kept i.snap whole) (drop 12 text) in
    small_choice (length text) (nat_le (kept i.snap whole + 16) (length text)) (frame_of (Some i) 0 0 whole octets) None
    (small_frame (length text) (Some i) 0 0 whole octets (part_within (kept i.snap whole) 12 text)) tt

small_section : (order : ByteOrder) (text : List ℕ) → SmallIf (length text) (section_meant order text)
small_section order text =
    small_choice (length text) (nat_le 28 (length text) && field order 8 text == 0x1a2b3c4d) (Some (Section order)) None tt tt

small_interface : (order : ByteOrder) (text : List ℕ) → SmallIf (length text) (interface_meant order text)
small_interface order text =
    let link = link_numbered (half order 8 text) in
    let resolution = resolution_in order 0 (interface_options text) in
    small_choice (length text) (nat_le 20 (length text)) (described link (half order 8 text) (field order 12 text) resolution) None
    (small_described (length text) link (half order 8 text) (field order 12 text) resolution) tt

small_enhanced : (order : ByteOrder) (s : Setting) (text : List ℕ) → SmallIf (length text) (enhanced_meant order s text)
small_enhanced order s text =
    let i = slice_get s.interfaces (field order 8 text) in
    let ticks = field order 12 text * 0x1_0000_0000 + field order 16 text in
    let octets = take (field order 20 text) (drop 28 text) in
    small_choice (length text) (enhanced_fits order text) (frame_of i 0 ticks (field order 24 text) octets) None
    (small_frame (length text) i 0 ticks (field order 24 text) octets (part_within (field order 20 text) 28 text)) tt

small_block : (order : ByteOrder) (s : Setting) (text : List ℕ) → SmallIf (length text) (block_meant order s text)
small_block order s text =
    let kind = field order 0 text in
    let none : Option Meant = Some PassedOver in
    let simple = cond (kind == 3) (simple_meant order s text) none in
    let enhanced = cond (kind == 6) (enhanced_meant order s text) simple in
    let interface = cond (kind == 1) (interface_meant order text) enhanced in
    small_choice (length text) (kind == 0x0a0d0d0a) (section_meant order text) interface (small_section order text)
    (small_choice (length text) (kind == 1) (interface_meant order text) enhanced (small_interface order text)
    (small_choice (length text) (kind == 6) (enhanced_meant order s text) simple (small_enhanced order s text)
    (small_choice (length text) (kind == 3) (simple_meant order s text) none (small_simple (slice_get s.interfaces 0) (field order 8 text) text) tt)))

small_meaning : (form : FileForm) (s : Setting) (text : List ℕ) → SmallIf (length text) (meaning_of form s text)
unfolding meaning_of
small_meaning Pcap s text = small_frame (length text) (slice_get s.interfaces 0) (field s.order 0 text) (field s.order 4 text) (field s.order 12 text) (drop 16 text)
    (omega (arith, length-drop 16 text))
small_meaning Pcapng s text = small_block (order_in s text) s text

-- ---- what is read

abbrev pub AreSmall : ℕ → List Packet → Type 0
AreSmall n packets = AllByRecursion (λ p. length p.octets ≤ n) packets

abbrev SmallOutcome : ℕ → Outcome → Type 0
SmallOutcome n (Ok x) = AreSmall n x.0
SmallOutcome n (Err e) = Unit {0}

small_with : (n : ℕ) (meant : Meant) (outcome : Outcome) → Small n meant → SmallOutcome n outcome → SmallOutcome n (with_meant meant outcome)
small_with n (OtherLink number) outcome h k = tt
small_with n (Frame packet) (Ok x) h k = (h, k)
small_with n (Section order) (Ok x) h k = k
small_with n (Described i) (Ok x) h k = k
small_with n PassedOver (Ok x) h k = k
small_with n (Frame packet) (Err e) h k = tt
small_with n (Section order) (Err e) h k = tt
small_with n (Described i) (Err e) h k = tt
small_with n PassedOver (Err e) h k = tt

small_some : (n : ℕ) (m : Option Meant) (meant : Meant) → m ≡ Some meant → SmallIf n m → Small n meant
small_some n m meant e h = subst (SmallIf n) e h

larger : (m n : ℕ) (meant : Meant) → m ≤ n → Small m meant → Small n meant
larger m n (Frame packet) le h = omega (arith, le, h)
larger m n (Section order) le h = tt
larger m n (Described i) le h = tt
larger m n (OtherLink number) le h = tt
larger m n PassedOver le h = tt

-- what a piece says that begins here
small_piece : (s : Setting) (octets : List ℕ) (meant : Meant) (n bound : ℕ) → piece_at s octets ≡ Some (meant, n) → length octets ≤ bound → Small bound meant
small_piece s octets meant n bound e le =
    let b = begins s octets meant n e in
    larger (length (take n octets)) bound meant (omega (arith, le, b.within, length-take-le n octets b.within))
    (small_some (length (take n octets)) (meaning s (take n octets)) meant b.means (small_meaning s.form s (take n octets)))

small_told : (bound : ℕ) (s : Setting) (octets : List ℕ) (left : ℕ) (behind : Meant × ℕ → Outcome) → length octets ≤ bound → ((x : Meant × ℕ) → SmallOutcome bound (behind x))
    → (r : Option (Meant × ℕ)) → piece_at s octets ≡ r → SmallOutcome bound (told left r (λ x. with_meant x.0 (behind x)))
small_told bound s octets left behind le h None e = tt
small_told bound s octets left behind le h (Some x) e = small_with bound x.0 (behind x) (small_piece s octets x.0 x.1 bound e le) (h x)

small_pieces : (bound n : ℕ) (s : Setting) (octets : List ℕ) → length octets ≤ bound → SmallOutcome bound (pieces_in n s octets)
unfolding pieces_in
small_pieces bound zero s [] le = tt
small_pieces bound (suc n) s [] le = tt
small_pieces bound (suc n) s (o ∷ octets) le = small_pieces bound n s octets (omega (arith, le))
small_pieces bound zero s (o ∷ octets) le =
    small_told bound s (o ∷ octets) (suc (length octets)) (λ x. pieces_in (x.1 - 1) (after s x.0) octets) le
    (λ x. small_pieces bound (x.1 - 1) (after s x.0) octets (omega (arith, le)))
    (piece_at s (o ∷ octets)) refl

small_behind : (bound : ℕ) (s : Result Setting CaptureErr) (octets : List ℕ) → length octets ≤ bound → SmallOutcome bound (behind_head s octets)
small_behind bound (Ok s) octets le = small_pieces bound 0 s octets le
small_behind bound (Err e) octets le = tt

small_file : (bound : ℕ) (magic : Option Magic) (octets : List ℕ) → length octets ≤ bound → SmallOutcome bound (read_as magic octets)
small_file bound None octets le = tt
small_file bound (Some magic) octets le =
    choice (nat_lt (length octets) (head_size magic.form)) (Ok ([], Some (length octets))) (behind_head (setting_in magic octets) (drop (head_size magic.form) octets)) tt
    (small_behind bound (setting_in magic octets) (drop (head_size magic.form) octets) (omega (arith, le, length-drop (head_size magic.form) octets))) where
      choice : (b : Bool) (x y : Outcome) → SmallOutcome bound x → SmallOutcome bound y → SmallOutcome bound (cond b x y)
      choice true x y h k = h
      choice false x y h k = k

small_placed : (bound all : ℕ) (outcome : Outcome) → SmallOutcome bound outcome → SmallOutcome bound (placed_in all outcome)
small_placed bound all (Ok x) h = h
small_placed bound all (Err e) h = tt

small_reading : (octets : List ℕ) → SmallOutcome (length octets) (reading octets)
unfolding reading
small_reading octets = small_placed (length octets) (length octets) (read_as (magic_of octets) octets) (small_file (length octets) (magic_of octets) octets (omega arith))

pub frames_small : (octets : List ℕ) (packets : List Packet) (broken : Option ℕ) → reading octets ≡ Ok (packets, broken) → AreSmall (length octets) packets
frames_small octets packets broken e = subst (SmallOutcome (length octets)) e (small_reading octets)

-- the same of records in place
pub records_small : (n : ℕ) (records : List Record) → AreSmall n (packets_in records) → AllByRecursion (λ r. length r.octets.now ≤ n) records
records_small n [] all = tt
records_small n (r ∷ records) all = (all.0, records_small n records all.1)
