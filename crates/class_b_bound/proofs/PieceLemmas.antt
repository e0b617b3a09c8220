-- What a piece adds to the waits.
use Rattle.std.proofs.Common.{◌≡◌, ℕ, zero, suc, ◌+◌, ◌-◌, ◌*◌, ◌<◌, ◌≤◌, Bool, true, false, cond, List, [], ◌∷◌, length, get_or, drop, refl, sym, ◌∙◌, ap, subst, inl, inr, arith}
use Rattle.std.specs.Prelude.{ℤ, pos, negsuc, ◌+ℤ◌, ◌≤ℤ◌, ◌<ℤ◌, int_le, nat_le, not, ◌&&◌, max, min, unsigned_abs}
use Rattle.std.proofs.Math.Nat.{mul-le-mul_right}
use Rattle.std.proofs.lemmas.{Bool.cases_lt, Bool.le-leb, Bool.lt-leb, Bool.cond-false, Int.ints}
use Rattle.srp_base.proofs.Arithmetic.{not_zero as below_is, above_is}
use Rattle.srp_base.specs.Bandwidth.{bits_of}
use Rattle.credit_shaper.specs.declared.{shaper.Traffic.TheVariants.B, port.PortInput.PortInput, piece.Piece.Piece}
use Rattle.credit_shaper.specs.{Credit.credit_after_bits, Credit.does_send, Pieces.IsPiece, Pieces.IsAlike, Pieces.ArePieces, Bounds.credit_b_at, Trace.port_in}
use Rattle.credit_shaper.proofs.CreditLemmas.{credit-waits}
use Rattle.class_b_bound.specs.declared.waits.Waits.{Waits}
use Rattle.class_b_bound.specs.{is_kept_waiting, IsWorstWait, HasWait, waited, IsWaits, keeps_b}
use Rattle.class_b_bound.proofs.{BeginLemmas.waited-yes, BeginLemmas.waited-no, BoundLemmas.run_waited, WaitLemmas.wait_of_count, BeginLemmas.waited-first}

-- so whether class B is kept waiting is seen at the piece
keeps_is : (rate n slope : ℕ) (c : ℤ) (waits sends : Bool)
    → (waits && (int_le (pos 0) (credit_after_bits n rate slope sends waits c) && not sends)) ≡ (waits && (int_le (pos 0) (c +ℤ pos (n * slope)) && not sends))
keeps_is rate n slope c false sends = refl
keeps_is rate n slope c true false = ap (λ k. int_le (pos 0) k && true) (credit-waits n rate slope c)
keeps_is rate n slope c true true = grind arith

kept_is : (input : PortInput) (p : Piece) (n : ℕ) → IsPiece input p → n < p.bits → is_kept_waiting input (p.bit + n) ≡ keeps_b p n
kept_is input p n is l = grind (arith, keeps_is)

-- ---- the count in a piece

-- all kept: it goes on
all_kept : (input : PortInput) (t n : ℕ) → ((j : ℕ) → j < n → is_kept_waiting input (t + j) ≡ true) → waited input (t + n) ≡ waited input t + n
all_kept input t zero each = grind arith
all_kept input t (suc n) each =
    let at : t + suc n ≡ suc (t + n) = omega arith in
    let same : waited input (t + suc n) ≡ waited input (suc (t + n)) = ap (waited input) at in
    let more = waited-yes input (t + n) (each n (omega arith)) in
    let before : waited input (t + n) ≡ waited input t + n = all_kept input t n (λ j l. each j (omega (arith, l))) in
    omega (arith, same, more, before)

-- none kept for some bit times, and then all
then_kept : (input : PortInput) (t some n : ℕ) → 0 < some → ((j : ℕ) → j < n → is_kept_waiting input (t + j) ≡ nat_le some j)
    → 0 < n → waited input (t + n) ≡ n - some
then_kept input t some zero s each l = absurd (omega (arith, l))
then_kept input t some (suc n) s each l =
    let at : t + suc n ≡ suc (t + n) = omega arith in
    let same : waited input (t + suc n) ≡ waited input (suc (t + n)) = ap (waited input) at in
    let here = each n (omega arith) in
    elim (cases_lt n some) [
      | inl short ↦
          let none = waited-no input (t + n) (here ∙ lt-leb some n short) in
          omega (arith, same, none, short)
      | inr past ↦
          let more = waited-yes input (t + n) (here ∙ le-leb some n past) in
          let before : waited input (t + n) ≡ n - some = then_kept input t some n s (λ j k. each j (omega (arith, k))) (omega (arith, s, past)) in
          omega (arith, same, more, before, past)
    ]

-- ---- the waits after a piece

-- each count in the piece, by how many bit times go by before class B is kept waiting
counts : (input : PortInput) (t without n : ℕ) → ((j : ℕ) → j < n → is_kept_waiting input (t + j) ≡ nat_le without j) → 0 < n
    → waited input (t + n) ≡ cond (nat_le without 0) (waited input t + n) (n - without)
counts input t without n h1 h2 = grind (arith, all_kept, le-leb, lt-leb, then_kept, cond-false)

least_more : (w without m n : ℕ) → m ≤ n → cond (nat_le without 0) (w + m) (m - without) ≤ cond (nat_le without 0) (w + n) (n - without)
least_more w without m n h1 = grind (arith, lt-leb, cond-false)

pub waits_after : (input : PortInput) (p : Piece) (w next : Waits) (without : ℕ) → IsPiece input p → IsWaits input w → p.bit ≡ w.bit
    → ((n : ℕ) → n < p.bits → keeps_b p n ≡ nat_le without n) → next.bit ≡ w.bit + p.bits
    → next.now ≡ cond (nat_le without 0) (w.now + p.bits) (p.bits - without) → next.worst ≡ max w.worst next.now → IsWaits input next
waits_after input p w next without is waits at kept bit now worst =
    let each : (j : ℕ) → j < p.bits → is_kept_waiting input (w.bit + j) ≡ nat_le without j =
    λ j l. ap (λ k. is_kept_waiting input (k + j)) (sym at) ∙ (kept_is input p j is l ∙ kept j l) in
    let last : waited input (w.bit + p.bits) ≡ cond (nat_le without 0) (waited input w.bit + p.bits) (p.bits - without) =
    counts input w.bit without p.bits each is.some in
    let new : next.now ≡ waited input next.bit =
    now ∙ (ap (λ k. cond (nat_le without 0) (k + p.bits) (p.bits - without)) waits.now ∙ (sym last ∙ ap (waited input) (sym bit))) in
    record {
      now = new;
      there = elim (cases_lt next.now w.worst) [
        | inl l ↦ (waits.there.0, omega (arith, waits.there.1, bit), omega (arith, waits.there.2, worst, l))
        | inr l ↦ (next.bit, omega arith, omega (arith, new, worst, l))
      ];
      most = λ t up. elim (cases_lt w.bit t) [
        | inl l ↦
            let j : ℕ = t - w.bit in
            let is_t : w.bit + j ≡ t = omega (arith, l) in
            let inside : j ≤ p.bits = omega (arith, up, bit) in
            let count : waited input (w.bit + j) ≡ cond (nat_le without 0) (waited input w.bit + j) (j - without) =
            counts input w.bit without j (λ i k. each i (omega (arith, k, inside))) (omega (arith, l)) in
            let less = least_more (waited input w.bit) without j p.bits inside in
            let here : waited input (w.bit + j) ≡ waited input t = ap (waited input) is_t in
            let end : waited input (w.bit + p.bits) ≡ waited input next.bit = ap (waited input) (sym bit) in
            omega (arith, count, less, here, last, end, new, worst)
        | inr l ↦ let before : waited input t ≤ w.worst = waits.most t l in omega (arith, before, worst)
      ];
    }

pub waits_first : (input : PortInput) (w : Waits) → w.bit ≡ 0 → w.now ≡ 0 → w.worst ≡ 0 → IsWaits input w
waits_first input w bit now worst =
    let first : waited input w.bit ≡ 0 = ap (waited input) bit ∙ waited-first input in
    record {
      now = now ∙ sym first;
      there = (w.bit, omega arith, first ∙ sym worst);
      most = λ t up. let at : t ≡ 0 = omega (arith, up, bit) in
          let none : waited input t ≡ 0 = ap (waited input) at ∙ waited-first input in omega (arith, none);
    }

-- at the end the most is the longest wait
pub worst_of : (input : PortInput) (w : Waits) → w.bit ≡ input.end → IsWaits input w → IsWorstWait input w.worst
worst_of input w end waits =
    record {
      there = subst (HasWait input) waits.there.2 (wait_of_count input waits.there.0 (omega (arith, waits.there.1, end)));
      most = λ other wait.
          let least : other ≤ waited input (wait.from + other) = run_waited input wait.from other wait.each in
          let within : wait.from + other ≤ input.end = wait.in_time in
          let most : waited input (wait.from + other) ≤ w.worst = waits.most (wait.from + other) (omega (arith, within, end)) in
          omega (arith, least, most);
    }

-- ---- the code's steps

-- before the number of bit times in which a credit rises to 0 it is negative, and from then on it isn't
pub short_is : (c : ℤ) (slope bits needed n : ℕ) → c <ℤ pos 0 → unsigned_abs c ≤ needed * slope → needed * slope < unsigned_abs c + slope → n < bits
    → int_le (pos 0) (c +ℤ pos (n * slope)) ≡ nat_le (min needed bits) n
short_is (pos m) slope bits needed n below up tight l = absurd (omega (arith, ints, below))
short_is (negsuc m) slope bits needed n below up tight l =
    elim (cases_lt n needed) [
      | inl short ↦
          let fewer : suc n * slope ≤ needed * slope = mul-le-mul_right slope short in
          let under : (negsuc m +ℤ pos (n * slope)) <ℤ pos 0 = omega (arith, ints, tight, fewer) in
          below_is (negsuc m +ℤ pos (n * slope)) under ∙ sym (lt-leb (min needed bits) n (omega (arith, short, l)))
      | inr past ↦
          let more : needed * slope ≤ n * slope = mul-le-mul_right slope past in
          let over : pos 0 ≤ℤ (negsuc m +ℤ pos (n * slope)) = omega (arith, ints, up, more) in
          above_is (negsuc m +ℤ pos (n * slope)) over ∙ sym (le-leb (min needed bits) n (omega (arith, past)))
    ]

-- the piece of an index, and the pieces after it
pub pieces_at : (input : PortInput) (t to : ℕ) (ps : List Piece) (i : ℕ) (d : Piece) → i < length ps → ArePieces input t to (drop i ps)
    → ((get_or ps i d).bit ≡ t) × IsPiece input (get_or ps i d) × ArePieces input (t + (get_or ps i d).bits) to (drop (suc i) ps)
pieces_at input t to [] i d l are = absurd (omega (arith, l))
pieces_at input t to (p ∷ ps) zero d l are = are
pieces_at input t to (p ∷ ps) (suc i) d l are = pieces_at input t to ps i d (omega (arith, l)) are

-- pieces tile what lies between
pub tiles_upto : (input : PortInput) (t to : ℕ) (ps : List Piece) → ArePieces input t to ps → t ≤ to
tiles_upto input t to [] are = omega (arith, are)
tiles_upto input t to (p ∷ ps) are = let rest : t + p.bits ≤ to = tiles_upto input (t + p.bits) to ps are.2 in omega (arith, rest)

-- behind the last piece is the end
pub tiles_end : (input : PortInput) (t to : ℕ) (ps : List Piece) (i : ℕ) → length ps ≤ i → ArePieces input t to (drop i ps) → t ≡ to
tiles_end input t to [] zero l are = are
tiles_end input t to [] (suc i) l are = are
tiles_end input t to (p ∷ ps) zero l are = absurd (omega (arith, l))
tiles_end input t to (p ∷ ps) (suc i) l are = tiles_end input t to ps i (omega (arith, l)) are

pub piece_at : (input : PortInput) (t to : ℕ) (ps : List Piece) (i : ℕ) (d : Piece) → i < length ps → ArePieces input t to (drop i ps)
    → IsPiece input (get_or ps i d)
piece_at input t to ps i d l are = (pieces_at input t to ps i d l are).1

pub short_at : (input : PortInput) (t to most : ℕ) (ps : List Piece) (i : ℕ) (d : Piece) → i < length ps → ArePieces input t to (drop i ps)
    → to ≤ most → t + (get_or ps i d).bits ≤ most
short_at input t to most ps i d l are short =
    let rest : t + (get_or ps i d).bits ≤ to = tiles_upto input (t + (get_or ps i d).bits) to (drop (suc i) ps) (pieces_at input t to ps i d l are).2 in
    omega (arith, rest, short)

pub pieces_on : (input : PortInput) (t to next : ℕ) (ps : List Piece) (i : ℕ) (d : Piece) → i < length ps → ArePieces input t to (drop i ps)
    → next ≡ t + (get_or ps i d).bits → ArePieces input next to (drop (i + 1) ps)
pieces_on input t to next ps i d l are e =
    let one : suc i ≡ i + 1 = omega arith in
    subst (λ (k : ℕ). ArePieces input next to (drop k ps)) one
    (subst (λ (k : ℕ). ArePieces input k to (drop (suc i) ps)) (sym e) (pieces_at input t to ps i d l are).2)
