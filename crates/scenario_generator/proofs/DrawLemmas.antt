-- How large what is drawn is.
use Rattle.std.proofs.Common.{◌≡◌, ℕ, suc, ◌+◌, ◌/◌, ◌<◌, ◌≤◌, List, [], ◌∷◌, ◌++◌, get_or, map, refl, sym, ap, ◌∙◌, arith}
use Rattle.std.specs.List.{range_with_len}
use Rattle.std.proofs.Math.Nat.{mod-lt}
use Rattle.std.proofs.lemmas.List.FromFn.{get_or-map-range_with_len, map-range_with_len_more}
use Rattle.scenario_generator.specs.{next_state, state_after, drawn, draw, most_draws, bridge_count, station_count, stream_count}

pub draw-below : (number place m : ℕ) → 0 < m → draw number place m < m
draw-below number place m some = mod-lt (drawn number place) some

pub bridges-between : (number : ℕ) → (2 ≤ bridge_count number) × (bridge_count number ≤ 8)
bridges-between number = let h = draw-below number 0 7 (omega arith) in (omega arith, omega (arith, h))

pub stations-between : (number : ℕ) → (4 ≤ station_count number) × (station_count number ≤ 9)
stations-between number = let h = draw-below number 1 6 (omega arith) in (omega arith, omega (arith, h))

pub streams-between : (number : ℕ) → (2 ≤ stream_count number) × (stream_count number ≤ 16)
streams-between number = let h = draw-below number 2 15 (omega arith) in (omega arith, omega (arith, h))

-- ---- the draws in memory

-- the state after one draw more
state-more : (number k : ℕ) → next_state (state_after number k) ≡ state_after number (k + 1)
unfolding state_after
state-more number k =
    let e : suc k ≡ k + 1 = omega arith in
    ap (state_after number) e

-- none so far
pub none-drawn : (number : ℕ) → number ≡ state_after number 0
unfolding state_after
none-drawn number = refl

-- one draw more
pub drawn-more : (number k state next : ℕ) (halves after : List ℕ) → state ≡ state_after number k → next ≡ next_state state → halves ≡ map (drawn number) (range_with_len 0 k)
    → after ≡ halves ++ (next / 65536 ∷ []) → (next ≡ state_after number (k + 1)) × (after ≡ map (drawn number) (range_with_len 0 (k + 1)))
drawn-more number k state next halves after is steps all pushed =
    let e : next ≡ state_after number (k + 1) = steps ∙ ap next_state is ∙ state-more number k in
    let here : 0 + k ≡ k = omega arith in (
      e,
      pushed ∙ ap (λ (x : ℕ). halves ++ (x / 65536 ∷ [])) e ∙ ap (λ (xs : List ℕ). xs ++ (drawn number k ∷ [])) all
          ∙ sym (map-range_with_len_more (drawn number) 0 k k here),
    )

-- the draw at a place
pub drawn-at : (number place x : ℕ) (halves : List ℕ) → halves ≡ map (drawn number) (range_with_len 0 most_draws) → place < most_draws → x ≡ get_or halves place x → x ≡ drawn number place
drawn-at number place x halves all lt is =
    let here : 0 + place ≡ place = omega arith in
    is ∙ ap (λ (xs : List ℕ). get_or xs place x) all ∙ get_or-map-range_with_len (drawn number) 0 most_draws place place x lt here
