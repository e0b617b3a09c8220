-- How the code puts the entries into the order of importance.
use Rattle.std.proofs.Common.{◌≡◌, ℕ, zero, suc, ◌+◌, ◌-◌, ◌<◌, ◌≤◌, true, false, cond, List, [], ◌∷◌, ◌++◌, length, get_or, take, drop, refl, sym, ◌∙◌, ap, arith, append-nil, take_all}
use Rattle.std.specs.List.{swap}
use Rattle.std.proofs.lemmas.List.{drop_all, get_or_default}
use borrow.Rule.Slice.PartMut.{mid_of, put_mid}
use Rattle.stream_importance.specs.declared.entry.Entry.{Entry}
use Rattle.port_ledger.specs.{comes_after, place, place_first, importance_order}

-- an exchange behind the first entry
swap_cons : (e : Entry) (xs : List Entry) (i j : ℕ) → i < length xs → j < length xs
    → swap (e ∷ xs) (suc i) (suc j) ≡ e ∷ swap xs i j
swap_cons e xs i j h1 h2 = grind (arith, get_or_default)

-- the first entry, moved on by one
pub sink_step : (now : ℕ) (xs : List Entry) (i : ℕ) (d : Entry) → suc i < length xs
    → comes_after now (get_or xs (suc i) d) (get_or xs i d) ≡ false
    → take i xs ++ place_first now (drop i xs) ≡ take (suc i) (swap xs i (suc i)) ++ place_first now (drop (suc i) (swap xs i (suc i)))
sink_step now [] i d l h = absurd (omega (arith, l))
sink_step now (x ∷ []) i d l h = absurd (omega (arith, l))
sink_step now (x ∷ y ∷ ys) zero d l h = ap (λ v. cond v (x ∷ y ∷ ys) (y ∷ place now x ys)) h
sink_step now (x ∷ y ∷ ys) (suc i) d l h =
    ap (λ zs. x ∷ zs) (sink_step now (y ∷ ys) i d (omega (arith, l)) h)
    ∙ ap (λ zs. take (suc (suc i)) zs ++ place_first now (drop (suc (suc i)) zs)) (sym (swap_cons x (y ∷ ys) i (suc i) (omega (arith, l)) (omega (arith, l))))

pub sink_done : (now : ℕ) (xs : List Entry) (i : ℕ) (d : Entry) → suc i < length xs
    → comes_after now (get_or xs (suc i) d) (get_or xs i d) ≡ true
    → take i xs ++ place_first now (drop i xs) ≡ xs
sink_done now [] i d l h = absurd (omega (arith, l))
sink_done now (x ∷ []) i d l h = absurd (omega (arith, l))
sink_done now (x ∷ y ∷ ys) zero d l h = ap (λ v. cond v (x ∷ y ∷ ys) (y ∷ place now x ys)) h
sink_done now (x ∷ y ∷ ys) (suc i) d l h = ap (λ zs. x ∷ zs) (sink_done now (y ∷ ys) i d (omega (arith, l)) h)

pub sink_end : (now : ℕ) (xs : List Entry) (i : ℕ) → length xs ≤ suc i → take i xs ++ place_first now (drop i xs) ≡ xs
sink_end now [] zero l = refl
sink_end now [] (suc i) l = refl
sink_end now (x ∷ []) zero l = refl
sink_end now (x ∷ y ∷ ys) zero l = absurd (omega (arith, l))
sink_end now (x ∷ xs) (suc i) l = ap (λ zs. x ∷ zs) (sink_end now xs i (omega (arith, l)))

-- one more entry goes to its place among those after it
rank_more : (now n k : ℕ) (xs ys : List Entry) → n < length xs
    → length (take (suc n) xs ++ importance_order now (drop (suc n) xs)) ≤ n + k
    → ys ≡ place_first now (take k (drop n (take (suc n) xs ++ importance_order now (drop (suc n) xs))))
    → take n (take (suc n) xs ++ importance_order now (drop (suc n) xs)) ++ (ys ++ drop k (drop n (take (suc n) xs ++ importance_order now (drop (suc n) xs))))
    ≡ take n xs ++ importance_order now (drop n xs)
rank_more now n k [] ys l long e = absurd (omega (arith, l))
rank_more now zero k (x ∷ xs) ys l long e = grind (arith, drop_all, append-nil, take_all)
rank_more now (suc n) k (x ∷ xs) ys l long e = ap (λ zs. x ∷ zs) (rank_more now n k xs ys (omega (arith, l)) (omega (arith, long)) e)

pub rank_step : (now n : ℕ) (xs es ys : List Entry) → n < length xs
    → es ≡ take (suc n) xs ++ importance_order now (drop (suc n) xs)
    → ys ≡ place_first now (mid_of n (length es - n) es)
    → put_mid n (length es - n) es ys ≡ take n xs ++ importance_order now (drop n xs)
rank_step now n xs es ys l e h = grind (arith, rank_more)
