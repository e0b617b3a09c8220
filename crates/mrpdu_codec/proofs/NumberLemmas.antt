-- Numbers in octets, the high one first.
use Rattle.std.proofs.Common.{◌≡◌, ℕ, zero, suc, ◌+◌, ◌-◌, ◌*◌, ◌/◌, ◌%◌, ◌^◌, ◌<◌, ◌≤◌, List, [], ◌∷◌, length, get_or, take, drop, refl, sym, ap, ◌∙◌, add_assoc, arith}
use Rattle.std.specs.{List.fold, Int.byte_at, Int.bytes_high_first}
use Rattle.std.proofs.Math.Nat.{add-mul, div-add-mod', div-one, mod-eq_of_lt, mod-lt, mul-add-mod_self_right, mul-le-mul_right, mul_assoc, one-le-pow, pow-suc, pow-succ'}
use Rattle.std.proofs.lemmas.List.Sums.{fold_more}
use Rattle.srp_base.specs.Hexadecimal.{number_high_first}
use Rattle.mrpdu_codec.specs.{two_octets}

-- ---- reading

-- one octet more
pub number_more : (octets : List ℕ) (i number octet : ℕ) → i < length octets → number ≡ number_high_first (take i octets) → octet ≡ get_or octets i 0
    → number * 256 + octet ≡ number_high_first (take (i + 1) octets)
number_more octets i number octet lt e is = grind (arith, fold_more)

pub below_more : (i number octet : ℕ) → number < 256 ^ i → octet < 256 → number * 256 + octet < 256 ^ (i + 1)
below_more i number octet h o =
    let e : i + 1 ≡ suc i = omega arith in
    rw (e, pow-suc) (omega arith)

-- a number of fewer than 8 octets has room for one more
pub room_for_one : (i number : ℕ) → number < 256 ^ i → i < 8 → number * 256 + 256 ≤ 2 ^ 64
room_for_one zero number h lt = omega arith
room_for_one (suc zero) number h lt = omega arith
room_for_one (suc (suc zero)) number h lt = omega arith
room_for_one (suc (suc (suc zero))) number h lt = omega arith
room_for_one (suc (suc (suc (suc zero)))) number h lt = omega arith
room_for_one (suc (suc (suc (suc (suc zero))))) number h lt = omega arith
room_for_one (suc (suc (suc (suc (suc (suc zero)))))) number h lt = omega arith
room_for_one (suc (suc (suc (suc (suc (suc (suc zero))))))) number h lt = omega arith
room_for_one (suc (suc (suc (suc (suc (suc (suc (suc i)))))))) number h lt = absurd (omega arith)

-- ---- what is written

pub bytes_length : (n number : ℕ) → length (bytes_high_first n number) ≡ n
bytes_length zero number = refl
bytes_length (suc n) number = let e = bytes_length n number in omega (arith, e)

-- the last octets of some are those of fewer
pub last_bytes : (k n number : ℕ) → drop k (bytes_high_first (k + n) number) ≡ bytes_high_first n number
last_bytes zero n number = grind arith
last_bytes (suc k) n number =
    let e : suc k + n ≡ suc (k + n) = omega arith in
    ap (λ (i : ℕ). drop (suc k) (bytes_high_first i number)) e ∙ last_bytes k n number

pub bytes_behind : (m n number : ℕ) → n ≤ m → drop (m - n) (bytes_high_first m number) ≡ bytes_high_first n number
bytes_behind m n number le = grind (arith, last_bytes)

-- ---- what is read of it

-- the two low digits of a number, to the bases c and then m
digits_split : (n m c : ℕ) → 0 < m → 0 < c → n % (m * c) ≡ (n / c % m) * c + n % c
digits_split n m c hm hc =
    let a = mod-lt (n / c) hm in
    let b = mod-lt n hc in
    let top : (n / c % m + 1) * c ≤ m * c = mul-le-mul_right c (omega arith) in
    let expand : (n / c % m + 1) * c ≡ n / c % m * c + 1 * c = add-mul (n / c % m) 1 c in
    let split : n ≡ n / c / m * (m * c) + (n / c % m * c + n % c) =
    sym (div-add-mod' n c)
    ∙ ap (λ (x : ℕ). x * c + n % c) (sym (div-add-mod' (n / c) m))
    ∙ ap (λ (x : ℕ). x + n % c) (add-mul (n / c / m * m) (n / c % m) c ∙ ap (λ (x : ℕ). x + n / c % m * c) (mul_assoc (n / c / m) m c))
    ∙ add_assoc (n / c / m * (m * c)) (n / c % m * c) (n % c) in
    ap (λ (x : ℕ). x % (m * c)) split ∙ mul-add-mod_self_right (n / c / m) (m * c) (n / c % m * c + n % c) ∙ mod-eq_of_lt (omega arith)

byte_at-pow : (k number : ℕ) → byte_at k number ≡ number / 256 ^ k % 256
byte_at-pow k number = grind (arith, div-one)

-- read on behind a number
behind : (front n number : ℕ) → fold (λ (m o : ℕ). m * 256 + o) front (bytes_high_first n number) ≡ front * 256 ^ n + number % 256 ^ n
behind front zero number = omega arith
behind front (suc n) number = grind (arith, behind (front * 256 + byte_at n number) n number, one-le-pow, byte_at-pow, add-mul, mul_assoc, add_assoc, digits_split, pow-succ')

pub read_back : (n number : ℕ) → number < 256 ^ n → number_high_first (bytes_high_first n number) ≡ number
read_back n number fits = behind 0 n number ∙ omega (arith, mod-eq_of_lt fits)

pub two_bytes : (number : ℕ) → number < 65536 → bytes_high_first 2 number ≡ two_octets number
two_bytes number fits = grind arith
