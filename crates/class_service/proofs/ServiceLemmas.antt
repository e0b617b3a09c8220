-- What a class has of a window, from piece to piece.
use Rattle.std.proofs.Common.{◌≡◌, ℕ, zero, suc, ◌+◌, ◌-◌, ◌*◌, ◌^◌, ◌<◌, ◌≤◌, Bool, true, false, cond, List, [], ◌∷◌, length, drop, get_or, refl, sym, ◌∙◌, ap, subst, arith}
use Rattle.std.specs.Prelude.{◌==◌, ◌||◌, ◌&&◌, min, max, sum_by}
use Rattle.std.specs.List.{list_all}
use Rattle.std.proofs.Math.Nat.{mul-le-mul_left}
use Rattle.std.proofs.Math.Seq.{drop-cons}
use Rattle.std.proofs.lemmas.{Bool.ne_eqb, List.Folds.list_all-append, List.FromFn.length-range_with_len, List.FromFn.get_or-range_with_len, List.Elements.All-from_get_or, List.Sums.AllPass-from_list_all, List.Sums.list_all-from_AllPass}
use Rattle.srp_base.specs.declared.bandwidth.Rate.{Rate}
use Rattle.srp_base.specs.declared.bandwidth.Rate.TheVariants.{M100, G1, G10}
use Rattle.srp_base.specs.Bandwidth.{bits_of}
use Rattle.credit_shaper.specs.declared.{shaper.Traffic.Traffic, port.PortInput.PortInput, piece.Piece.Piece}
use Rattle.credit_shaper.specs.declared.shaper.Traffic.TheVariants.{A, B, Other}
use Rattle.credit_shaper.specs.{Credit.does_send, Credit.IsInRange, Bounds.is_on_line, Bounds.bit_times, Pieces.IsAlike, Pieces.IsPiece, Pieces.ArePieces}
use Rattle.class_b_bound.proofs.PieceLemmas.{tiles_upto}
use Rattle.class_service.specs.declared.service.Service.{Service}
use Rattle.class_service.specs.{IsClass, slope_at, is_busy, IsBusy, bits_in, area_in, service_of, service_with, slope_in, waits_in}
use Rattle.class_service.proofs.CreditLemmas.{bit_of, times_more, sum_more}

-- ---- bit times that are alike

sum_alike : (f : ℕ → ℕ) (value from at n : ℕ) → from ≤ at → ((t : ℕ) → at ≤ t → t < at + n → f t ≡ value)
    → sum_by f (bit_times from (at + n)) ≡ sum_by f (bit_times from at) + n * value
sum_alike f value from at zero up alike = let same : at + 0 ≡ at = omega arith in ap (λ t. sum_by f (bit_times from t)) same ∙ omega arith
sum_alike f value from at (suc n) up alike =
    let next : at + suc n ≡ suc (at + n) = omega arith in
    let before = sum_alike f value from at n up (λ t low high. alike t low (omega (arith, high))) in
    let here : f (at + n) ≡ value = alike (at + n) (omega arith) (omega arith) in
    let more = sum_more f from (at + n) (omega (arith, up)) in
    ap (λ t. sum_by f (bit_times from t)) next ∙ omega (arith, before, here, more)

all_more : (p : ℕ → Bool) (from t : ℕ) → from ≤ t → list_all p (bit_times from (suc t)) ≡ (list_all p (bit_times from t) && p t)
all_more p from t up = ap (list_all p) (times_more from t up) ∙ (list_all-append p (bit_times from t) (t ∷ []) ∙ ap (λ b. list_all p (bit_times from t) && b) (one (p t)))
  where
    one : (b : Bool) → (b && true) ≡ b
    one true = refl
    one false = refl

all_alike : (p : ℕ → Bool) (value : Bool) (from at n : ℕ) → from ≤ at → ((t : ℕ) → at ≤ t → t < at + n → p t ≡ value)
    → list_all p (bit_times from (at + n)) ≡ (list_all p (bit_times from at) && ((n == 0) || value))
all_alike p value from at zero up alike = let same : at + 0 ≡ at = omega arith in ap (λ t. list_all p (bit_times from t)) same ∙ sym (and_true (list_all p (bit_times from at)))
  where
    and_true : (b : Bool) → (b && true) ≡ b
    and_true true = refl
    and_true false = refl
all_alike p value from at (suc n) up alike =
    let next : at + suc n ≡ suc (at + n) = omega arith in
    let before = all_alike p value from at n up (λ t low high. alike t low (omega (arith, high))) in
    let here : p (at + n) ≡ value = alike (at + n) (omega arith) (omega arith) in
    ap (λ t. list_all p (bit_times from t)) next
    ∙ (all_more p from (at + n) (omega (arith, up)) ∙ (ap (λ b. b && p (at + n)) before ∙ (ap (λ b. (list_all p (bit_times from at) && ((n == 0) || value)) && b) here
    ∙ (once (list_all p (bit_times from at)) (n == 0) value ∙ ap (λ b. list_all p (bit_times from at) && (b || value)) (sym (ne_eqb (suc n) 0 (λ e. omega (arith, e))))))))
  where
    once : (a b c : Bool) → ((a && (b || c)) && c) ≡ (a && c)
    once true true true = refl
    once true true false = refl
    once true false true = refl
    once true false false = refl
    once false b c = refl

bits_times : (b : Bool) (n : ℕ) → n * cond b 1 0 ≡ cond b n 0
bits_times true n = omega arith
bits_times false n = omega arith

-- ---- a piece

-- a class is in a bit time as a piece says
record IsClassAlike (input : PortInput) (class : Traffic) (p : Piece) (t : ℕ) : Type 0 where
  line : is_on_line input class t ≡ does_send class p.line
  slope : slope_at input class t ≡ slope_in p class
  busy : is_busy input class t ≡ (does_send class p.line || waits_in p class)

class_alike : (input : PortInput) (class : Traffic) (p : Piece) (n : ℕ) → IsClass class → IsAlike input p n → IsClassAlike input class p (p.bit + n)
class_alike input A p n is alike = record { line = ap (does_send A) alike.line; slope = alike.slope_a; busy = rw (ap (does_send A) alike.line, alike.waits_a) refl }
class_alike input B p n is alike = record { line = ap (does_send B) alike.line; slope = alike.slope_b; busy = rw (ap (does_send B) alike.line, alike.waits_b) refl }
class_alike input Other p n is alike = absurd is

piece_alike : (input : PortInput) (class : Traffic) (p : Piece) (t : ℕ) → IsClass class → IsPiece input p → p.bit ≤ t → t < p.bit + p.bits → IsClassAlike input class p t
piece_alike input class p t is piece low high =
    let at : p.bit + (t - p.bit) ≡ t = omega (arith, low) in
    subst (IsClassAlike input class p) at (class_alike input class p (t - p.bit) is (piece.alike (t - p.bit) (omega (arith, low, high))))

-- what a class has up to a bit time, with some bit times of a piece more
service_next : (input : PortInput) (class : Traffic) (p : Piece) (from at n : ℕ) → from ≤ at → ((t : ℕ) → at ≤ t → t < at + n → IsClassAlike input class p t)
    → service_with p class n (service_of input class from at) ≡ service_of input class from (at + n)
service_next input class p from at n up alike =
    let f : Bool → ℕ = λ b. cond b 1 0 in
    let bits : bits_in input class from (at + n) ≡ bits_in input class from at + cond (does_send class p.line) n 0 =
    sum_alike (bit_of input class) (cond (does_send class p.line) 1 0) from at n up (λ t low high. ap f (alike t low high).line)
    ∙ ap (λ k. bits_in input class from at + k) (bits_times (does_send class p.line) n) in
    let area : area_in input class from (at + n) ≡ area_in input class from at + n * slope_in p class =
    sum_alike (slope_at input class) (slope_in p class) from at n up (λ t low high. (alike t low high).slope) in
    let busy = all_alike (is_busy input class) (does_send class p.line || waits_in p class) from at n up (λ t low high. (alike t low high).busy) in
    rw (bits, area, busy) refl

-- ---- the pieces of a run

-- what a class has of a window up to where the pieces so far end, and the pieces that tile the rest
pub record IsServedTo (input : PortInput) (class : Traffic) (from to at : ℕ) (s : Service) (rest : List Piece) : Type 0 where
  pub bit : ℕ
  pub pieces : ArePieces input bit input.end rest
  pub place : at ≡ max from (min bit to)
  pub service : s ≡ service_of input class from at

-- the place after a piece, and how far that is from the place before it
record IsPlace (from to bit bits at next : ℕ) : Type 0 where
  place : next ≡ max from (min (bit + bits) to)
  sum : at + (next - at) ≡ next
  within : (t : ℕ) → at ≤ t → t < next → (bit ≤ t) × (t < bit + bits)

is_place : (from to bit bits at next : ℕ) → from ≤ to → at ≡ max from (min bit to) → next ≡ max at (min (bit + bits) to) → IsPlace from to bit bits at next
is_place from to bit bits at next up e f =
    record {
      place = omega (arith, up, e, f);
      sum = omega (arith, e, f);
      within = λ t low high. (omega (arith, up, e, f, low, high), omega (arith, up, e, f, low, high));
    }

pub served_next : (input : PortInput) (class : Traffic) (from to at next : ℕ) (s : Service) (p : Piece) (ps : List Piece) → IsClass class → from ≤ to
    → next ≡ max at (min (p.bit + p.bits) to) → IsServedTo input class from to at s (p ∷ ps)
    → IsServedTo input class from to next (service_with p class (next - at) s) ps
served_next input class from to at next s p ps is up after served =
    let first : p.bit ≡ served.bit = served.pieces.0 in
    let place : IsPlace from to p.bit p.bits at next = is_place from to p.bit p.bits at next up (served.place ∙ ap (λ k. max from (min k to)) (sym first)) after in
    let alike : (t : ℕ) → at ≤ t → t < at + (next - at) → IsClassAlike input class p t =
    λ t low high. let inside = place.within t low (omega (arith, high, place.sum)) in piece_alike input class p t is served.pieces.1 inside.0 inside.1 in
    let grown = service_next input class p from at (next - at) (omega (arith, served.place)) alike in
    record {
      bit = served.bit + p.bits;
      pieces = served.pieces.2;
      place = place.place ∙ ap (λ k. max from (min (k + p.bits) to)) first;
      service = ap (service_with p class (next - at)) served.service ∙ (grown ∙ ap (service_of input class from) place.sum);
    }

rate_small : (rate : Rate) → bits_of rate < 2 ^ 34
rate_small M100 = omega arith
rate_small G1 = omega arith
rate_small G10 = omega arith

-- a piece's slopes are below a rate
pub slope_small : (p : Piece) (class : Traffic) → IsInRange p.shaper → slope_in p class ≤ 2 ^ 34
slope_small p A range = omega (arith, range.slope_a, rate_small p.shaper.rate)
slope_small p B range = omega (arith, range.slope_b, rate_small p.shaper.rate)
slope_small p Other range = omega arith

-- by the index of a piece
pub served_at : (input : PortInput) (class : Traffic) (from to at : ℕ) (s : Service) (ps : List Piece) (i : ℕ) (d : Piece) → i < length ps
    → IsServedTo input class from to at s (drop i ps) → IsServedTo input class from to at s (get_or ps i d ∷ drop (i + 1) ps)
served_at input class from to at s ps i d l served =
    let one : suc i ≡ i + 1 = omega arith in
    subst (IsServedTo input class from to at s) (drop-cons ps i d l ∙ ap (λ k. get_or ps i d ∷ drop k ps) one) served

-- which ends with the input at the latest, and whose slopes are below a rate
pub piece_short : (input : PortInput) (class : Traffic) (from to at : ℕ) (s : Service) (ps : List Piece) (i : ℕ) → i < length ps
    → IsServedTo input class from to at s (drop i ps) → (d : Piece) → (get_or ps i d).bit + (get_or ps i d).bits ≤ input.end
piece_short input class from to at s ps i l served d =
    let here = served_at input class from to at s ps i d l served in
    let rest = tiles_upto input (here.bit + (get_or ps i d).bits) input.end (drop (i + 1) ps) here.pieces.2 in
    omega (arith, rest, here.pieces.0)

pub piece_slope : (input : PortInput) (class : Traffic) (from to at : ℕ) (s : Service) (ps : List Piece) (i : ℕ) (d : Piece) → i < length ps
    → IsServedTo input class from to at s (drop i ps) → slope_in (get_or ps i d) class ≤ 2 ^ 34
piece_slope input class from to at s ps i d l served =
    slope_small (get_or ps i d) class (served_at input class from to at s ps i d l served).pieces.1.range

pub served_on : (input : PortInput) (class : Traffic) (from to at next : ℕ) (s more : Service) (ps : List Piece) (i : ℕ) (d : Piece) → i < length ps → IsClass class → from ≤ to
    → next ≡ max at (min ((get_or ps i d).bit + (get_or ps i d).bits) to) → more ≡ service_with (get_or ps i d) class (next - at) s
    → IsServedTo input class from to at s (drop i ps) → IsServedTo input class from to next more (drop (i + 1) ps)
served_on input class from to at next s more ps i d l is up after with served =
    subst (λ (other : Service). IsServedTo input class from to next other (drop (i + 1) ps)) (sym with)
    (served_next input class from to at next s (get_or ps i d) (drop (i + 1) ps) is up after (served_at input class from to at s ps i d l served))

-- neither count passes its range
pub few_bits : (class : Traffic) (at next : ℕ) (s more : Service) (ps : List Piece) (i : ℕ) (d : Piece) → more ≡ service_with (get_or ps i d) class (next - at) s → at ≤ next
    → s.bits ≤ at → more.bits ≤ next
few_bits class at next s more ps i d with up few =
    let same : more.bits ≡ s.bits + cond (does_send class (get_or ps i d).line) (next - at) 0 = ap (λ (other : Service). other.bits) with in
    let part = at_most (does_send class (get_or ps i d).line) (next - at) in
    omega (arith, same, part, up, few)
  where
    at_most : (b : Bool) (n : ℕ) → cond b n 0 ≤ n
    at_most true n = omega arith
    at_most false n = omega arith

pub small_area : (class : Traffic) (at next : ℕ) (s more : Service) (ps : List Piece) (i : ℕ) (d : Piece) → more ≡ service_with (get_or ps i d) class (next - at) s → at ≤ next
    → slope_in (get_or ps i d) class ≤ 2 ^ 34 → s.area ≤ at * 2 ^ 34 → more.area ≤ next * 2 ^ 34
small_area class at next s more ps i d with up slope small =
    let same : more.area ≡ s.area + (next - at) * slope_in (get_or ps i d) class = ap (λ (other : Service). other.area) with in
    let part : (next - at) * slope_in (get_or ps i d) class ≤ (next - at) * 2 ^ 34 = mul-le-mul_left (next - at) slope in
    omega (arith, same, part, up, small)

-- ---- busy

-- each bit time of a window passes where all do
pub all_busy : (input : PortInput) (class : Traffic) (from to : ℕ) → list_all (is_busy input class) (bit_times from to) ≡ true → IsBusy input class from to
all_busy input class from to all t low high =
    let long : t - from < length (bit_times from to) = omega (arith, length-range_with_len from (to - from), low, high) in
    let at : get_or (bit_times from to) (t - from) 0 ≡ t = get_or-range_with_len from (to - from) (t - from) 0 (omega (arith, low, high)) ∙ omega (arith, low) in
    subst (λ (k : ℕ). is_busy input class k ≡ true) at (AllPass-from_list_all (is_busy input class) (bit_times from to) all (t - from) 0 long)

pub busy_all : (input : PortInput) (class : Traffic) (from to : ℕ) → IsBusy input class from to → list_all (is_busy input class) (bit_times from to) ≡ true
busy_all input class from to busy =
    list_all-from_AllPass (is_busy input class) (bit_times from to)
    (All-from_get_or (λ t. is_busy input class t ≡ true) (bit_times from to) 0
    (λ k l. let inside : k < to - from = omega (arith, l, length-range_with_len from (to - from)) in
    let at : get_or (bit_times from to) k 0 ≡ from + k = get_or-range_with_len from (to - from) k 0 inside in
    subst (λ (t : ℕ). is_busy input class t ≡ true) (sym at) (busy (from + k) (omega arith) (omega (arith, inside)))))
