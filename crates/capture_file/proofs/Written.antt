-- What is written of frames spells them.
use Rattle.std.proofs.Common.{◌≡◌, ℕ, ◌+◌, ◌*◌, ◌/◌, ◌%◌, ◌<◌, ◌^◌, List, [], ◌∷◌, ◌++◌, length, map, drop, Some, Ok, refl, sym, ap, append-nil, arith}
use Rattle.std.specs.List.{AllByRecursion, flat_map}
use Rattle.std.specs.Int.{byte_at}
use Rattle.capture_file.specs.declared.setting.ByteOrder.TheVariants.{Big, Little}
use Rattle.capture_file.specs.declared.setting.FileForm.TheVariants.{Pcap}
use Rattle.capture_file.specs.declared.setting.LinkType.TheVariants.{Ethernet, Cooked, CookedV2}
use Rattle.capture_file.specs.{ByteOrder, LinkType, Magic, Setting, four, first_four, field, units_of, moment, Packet, IsPiece, meaning, meaning_of, magic_of, setting_in, Piece, AreWhole, pieces_octets, pieces_packets, setting_after, Spells, head_text, record_text, file_text, Fits}
use Rattle.capture_file.specs.Pieces.Meant.{Frame}

-- ---- numbers

back_big : (n : ℕ) → n < 2 ^ 32 → four Big (byte_at 3 n) (byte_at 2 n) (byte_at 1 n) (byte_at 0 n) ≡ n
back_big n lt = omega arith

back_little : (n : ℕ) → n < 2 ^ 32 → four Little (byte_at 0 n) (byte_at 1 n) (byte_at 2 n) (byte_at 3 n) ≡ n
back_little n lt = omega arith

-- ---- records

seconds_back : (order : ByteOrder) (p : Packet) → p.at_ns / 1000000000 < 2 ^ 32 → field order 0 (record_text order p) ≡ p.at_ns / 1000000000
unfolding record_text first_four
seconds_back Big p lt = back_big (p.at_ns / 1000000000) lt
seconds_back Little p lt = back_little (p.at_ns / 1000000000) lt

fraction_back : (order : ByteOrder) (p : Packet) → p.at_ns % 1000000000 < 2 ^ 32 → field order 4 (record_text order p) ≡ p.at_ns % 1000000000
unfolding record_text first_four
fraction_back Big p lt = back_big (p.at_ns % 1000000000) lt
fraction_back Little p lt = back_little (p.at_ns % 1000000000) lt

captured_back : (order : ByteOrder) (p : Packet) → length p.octets < 2 ^ 32 → field order 8 (record_text order p) ≡ length p.octets
unfolding record_text first_four
captured_back Big p lt = back_big (length p.octets) lt
captured_back Little p lt = back_little (length p.octets) lt

original_back : (order : ByteOrder) (p : Packet) → p.whole < 2 ^ 32 → field order 12 (record_text order p) ≡ p.whole
unfolding record_text first_four
original_back Big p lt = back_big p.whole lt
original_back Little p lt = back_little p.whole lt

octets_back : (order : ByteOrder) (p : Packet) → drop 16 (record_text order p) ≡ p.octets
unfolding record_text
octets_back Big p = refl
octets_back Little p = refl

record_length : (order : ByteOrder) (p : Packet) → length (record_text order p) ≡ 16 + length p.octets
unfolding record_text
record_length Big p = omega arith
record_length Little p = omega arith

-- a record's clock counts ns
moment_back : (n : ℕ) → n < 2 ^ 32 * 1000000000 → moment (units_of 9) (n / 1000000000) (n % 1000000000) ≡ n
moment_back n lt = omega arith

-- the setting behind the head
abbrev start : ByteOrder → LinkType → Setting
start order link = record {
  form = Pcap;
  order = order;
  interfaces = record { link = link; units = units_of 9; snap = 262144 } ∷ [];
}

record_means : (order : ByteOrder) (link : LinkType) (p : Packet) → Fits link p → meaning (start order link) (record_text order p) ≡ Some (Frame p)
unfolding meaning_of
record_means order link p fits =
    let seconds : p.at_ns / 1000000000 < 2 ^ 32 = omega (arith, fits.moment) in
    let fraction : p.at_ns % 1000000000 < 2 ^ 32 = omega arith in
    rw (seconds_back order p seconds, fraction_back order p fraction, original_back order p fits.whole, octets_back order p, moment_back p.at_ns fits.moment, sym fits.link_is) refl

is_record : (order : ByteOrder) (link : LinkType) (p : Packet) → Fits link p → IsPiece (start order link) (record_text order p)
is_record order link p fits =
    let small : length p.octets < 2 ^ 32 = omega (arith, fits.within, fits.whole) in
    let captured = captured_back order p small in
    let original = original_back order p fits.whole in
    let size = record_length order p in
    record { head = omega (arith, size); octets = omega (arith, size, captured); within = omega (arith, captured, original, fits.within) }

-- ---- files

abbrev piece_of : ByteOrder → Packet → Piece
piece_of order p = record { text = record_text order p; meant = Frame p }

all_whole : (order : ByteOrder) (link : LinkType) (packets : List Packet) → AllByRecursion (Fits link) packets → AreWhole (start order link) (map (piece_of order) packets)
all_whole order link [] fit = tt
all_whole order link (p ∷ packets) fit =
    (record { piece = is_record order link p fit.0; means = record_means order link p fit.0; on = refl }, all_whole order link packets fit.1)

octets_are : (order : ByteOrder) (packets : List Packet) → pieces_octets (map (piece_of order) packets) ≡ flat_map (record_text order) packets
octets_are order [] = refl
octets_are order (p ∷ packets) = ap (λ (o : List ℕ). record_text order p ++ o) (octets_are order packets)

packets_are : (order : ByteOrder) (packets : List Packet) → pieces_packets (map (piece_of order) packets) ≡ packets
packets_are order [] = refl
packets_are order (p ∷ packets) = ap (λ (ps : List Packet). p ∷ ps) (packets_are order packets)

stays : (order : ByteOrder) (link : LinkType) (packets : List Packet) → setting_after (start order link) (map (piece_of order) packets) ≡ start order link
stays order link [] = refl
stays order link (p ∷ packets) = stays order link packets

abbrev magic : ByteOrder → Magic
magic order = record { form = Pcap; order = order; resolution = 9 }

known : (order : ByteOrder) (link : LinkType) (more : List ℕ) → magic_of (head_text order link ++ more) ≡ Some (magic order)
unfolding magic_of head_text first_four
known Big link more = refl
known Little link more = refl

starts : (order : ByteOrder) (link : LinkType) (more : List ℕ) → setting_in (magic order) (head_text order link ++ more) ≡ Ok (start order link)
unfolding setting_in head_text first_four
starts Big Ethernet more = refl
starts Big Cooked more = refl
starts Big CookedV2 more = refl
starts Little Ethernet more = refl
starts Little Cooked more = refl
starts Little CookedV2 more = refl

head_length : (order : ByteOrder) (link : LinkType) → length (head_text order link) ≡ 24
unfolding head_text
head_length Big link = refl
head_length Little link = refl

pub spells : (order : ByteOrder) (link : LinkType) (packets : List Packet) → AllByRecursion (Fits link) packets → Spells (file_text order link packets) packets
spells order link packets fit =
    let more = flat_map (record_text order) packets in
    let pieces = map (piece_of order) packets in
    record {
      setting = start order link;
      reaches = record {
        magic = magic order;
        known = known order link more;
        head = head_text order link;
        size = head_length order link;
        start = start order link;
        starts = starts order link more;
        pieces = pieces;
        rules = all_whole order link packets fit;
        spelled = ap (λ (o : List ℕ). head_text order link ++ o) (sym (octets_are order packets));
        whole = sym (append-nil (file_text order link packets));
        meaning = sym (packets_are order packets);
        leaves = sym (stays order link packets);
      };
    }
