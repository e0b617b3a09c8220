-- How many octets a piece takes: what the size says is a piece, and a piece has its size.
use Rattle.std.proofs.Common.{◌≡◌, ℕ, ◌+◌, ◌-◌, ◌%◌, ◌<◌, ◌≤◌, ◌&&◌, nat_le, ◌==◌, cond, List, ◌++◌, length, take, Option, Some, None, refl, sym, ap, subst, ◌∙◌, eq-eqb, length-append, arith}
use Rattle.std.proofs.lemmas.{Bool.and_parts, Bool.leb-true, Bool.le-leb, Bool.eqb-true, List.length-take-le, Option.cond_some}
use Rattle.capture_file.specs.{ByteOrder, Little, Big, FileForm, Pcap, Pcapng, Setting, field, IsRecord, IsBlock, IsPieceOf, order_in, record_size, block_size, size_of}
use Rattle.capture_file.proofs.FieldLemmas.{field_front, field_take}

-- ---- records

record_parts : (captured whole size n : ℕ) → cond (nat_le captured whole && nat_le (16 + captured) size) (Some (16 + captured)) None ≡ Some n
    → (captured ≤ whole) × (n ≡ 16 + captured) × (n ≤ size)
record_parts captured whole size n e =
    let c = cond_some (nat_le captured whole && nat_le (16 + captured) size) (16 + captured) n e in
    let p = and_parts (nat_le captured whole) (nat_le (16 + captured) size) c.0 in
    let fits = leb-true (16 + captured) size p.1 in
    (leb-true captured whole p.0, sym c.1, omega (arith, c.1, fits))

record_takes : (order : ByteOrder) (octets : List ℕ) (n : ℕ) → record_size order octets ≡ Some n → (n ≤ length octets) × (16 ≤ n) × IsRecord order (take n octets)
unfolding record_size
record_takes order octets n e =
    let p = record_parts (field order 8 octets) (field order 12 octets) (length octets) n e in
    let size = length-take-le n octets p.2 in
    let captured = field_take order 8 n octets p.2 (omega (arith, p.1)) in
    let whole = field_take order 12 n octets p.2 (omega (arith, p.1)) in
    (p.2, omega (arith, p.1), record { head = omega (arith, p.1, size); octets = omega (arith, p.1, size, captured); within = omega (arith, p.0, captured, whole) })

record_again : (order : ByteOrder) (text more : List ℕ) → IsRecord order text → record_size order (text ++ more) ≡ Some (length text)
unfolding record_size
record_again order text more is =
    let captured = field_front order 8 text more (omega (arith, is.head)) in
    let whole = field_front order 12 text more (omega (arith, is.head)) in
    let size = length-append text more in
    rw (captured, whole, le-leb (field order 8 text) (field order 12 text) is.within, le-leb (16 + field order 8 text) (length (text ++ more)) (omega (arith, size, is.octets)))
    (ap (λ (n : ℕ). let r : Option ℕ = Some n in r) (sym is.octets))

-- ---- blocks

block_parts : (size all : ℕ) (last n : ℕ) → cond (nat_le 12 size && size % 4 == 0 && nat_le size all && last == size) (Some size) None ≡ Some n
    → (n ≡ size) × (12 ≤ size) × (size % 4 ≡ 0) × (size ≤ all) × (last ≡ size)
block_parts size all last n e =
    let c = cond_some (nat_le 12 size && size % 4 == 0 && nat_le size all && last == size) size n e in
    let p = and_parts (nat_le 12 size && size % 4 == 0 && nat_le size all) (last == size) c.0 in
    let q = and_parts (nat_le 12 size && size % 4 == 0) (nat_le size all) p.0 in
    let r = and_parts (nat_le 12 size) (size % 4 == 0) q.0 in
    (sym c.1, leb-true 12 size r.0, eqb-true (size % 4) 0 r.1, leb-true size all q.1, eqb-true last size p.1)

block_takes : (order : ByteOrder) (octets : List ℕ) (n : ℕ) → block_size order octets ≡ Some n → (n ≤ length octets) × (12 ≤ n) × IsBlock order (take n octets)
unfolding block_size
block_takes order octets n e =
    let p = block_parts (field order 4 octets) (length octets) (field order (field order 4 octets - 4) octets) n e in
    let within : n ≤ length octets = omega (arith, p.0, p.3) in
    let twelve : 12 ≤ n = omega (arith, p.0, p.1) in
    let size = length-take-le n octets within in
    let first = field_take order 4 n octets within (omega (arith, twelve)) in
    let last = field_take order (n - 4) n octets within (omega (arith, twelve)) in
    let at_end : field order (n - 4) octets ≡ n = ap (λ (k : ℕ). field order (k - 4) octets) p.0 ∙ p.4 ∙ sym p.0 in (
      within,
      twelve,
      record {
        fixed = rw size twelve;
        fourths = rw (size, p.0) p.2;
        first = rw size (first ∙ sym p.0);
        last = rw size (last ∙ at_end);
      },
    )

block_again : (order : ByteOrder) (text more : List ℕ) → IsBlock order text → block_size order (text ++ more) ≡ Some (length text)
unfolding block_size
block_again order text more is =
    let size = length-append text more in
    let first : field order 4 (text ++ more) ≡ length text = field_front order 4 text more (omega (arith, is.fixed)) ∙ is.first in
    let last : field order (length text - 4) (text ++ more) ≡ length text = field_front order (length text - 4) text more (omega (arith, is.fixed)) ∙ is.last in
    rw (first, le-leb 12 (length text) is.fixed, is.fourths, le-leb (length text) (length (text ++ more)) (omega (arith, size)), last, eq-eqb (length text) (length text) refl) refl

-- ---- pieces

order_front : (s : Setting) (text more : List ℕ) → 12 ≤ length text → order_in s (text ++ more) ≡ order_in s text
order_front s text more le =
    let kind = field_front Big 0 text more (omega (arith, le)) in
    let magic = field_front Little 8 text more (omega (arith, le)) in
    rw (kind, magic) refl

order_take : (s : Setting) (n : ℕ) (octets : List ℕ) → n ≤ length octets → 12 ≤ n → order_in s (take n octets) ≡ order_in s octets
order_take s n octets within le =
    let kind = field_take Big 0 n octets within (omega (arith, le)) in
    let magic = field_take Little 8 n octets within (omega (arith, le)) in
    rw (kind, magic) refl

-- so many octets are a piece, which takes at least one
pub piece_takes : (form : FileForm) (s : Setting) (octets : List ℕ) (n : ℕ) → size_of form s octets ≡ Some n → (n ≤ length octets) × (0 < n) × IsPieceOf form s (take n octets)
piece_takes Pcap s octets n e =
    let r = record_takes s.order octets n e in
    (r.0, omega (arith, r.1), r.2)
piece_takes Pcapng s octets n e =
    let r = block_takes (order_in s octets) octets n e in
    (r.0, omega (arith, r.1), subst (λ (order : ByteOrder). IsBlock order (take n octets)) (sym (order_take s n octets r.0 r.1)) r.2)

-- a piece has its size, whatever follows it
pub piece_again : (form : FileForm) (s : Setting) (text more : List ℕ) → IsPieceOf form s text → size_of form s (text ++ more) ≡ Some (length text)
piece_again Pcap s text more is = record_again s.order text more is
piece_again Pcapng s text more is =
    ap (λ (order : ByteOrder). block_size order (text ++ more)) (order_front s text more is.fixed) ∙ block_again (order_in s text) text more is
