-- What one pass over entries of different streams lets in runs beside the running sum.
use Rattle.std.proofs.Common.{◌≡◌, ◌≢◌, ℕ, ◌+◌, Bool, true, false, ◌||◌, ◌==◌, cond, List, [], ◌∷◌, refl, sym, ◌∙◌, ap, arith}
use Rattle.std.specs.Prelude.{nat_le}
use Rattle.std.specs.List.{AllByRecursion, list_any}
use Rattle.std.proofs.lemmas.Bool.{ne_eqb, eq-eqb, or_from, or_left}
use Rattle.stream_importance.specs.declared.{entry.Entry.Entry, slope.Caps.Caps}
use Rattle.stream_importance.specs.Bandwidth.{cap_of}
use Rattle.port_ledger.specs.{stream_of, entry_slope, AreOfDifferentStreams}
use Rattle.port_ledger.proofs.Running.{Runs, runs_like, all_with}

-- whether a stream is one of these
abbrev pub is_among : List ℕ → ℕ → Bool
is_among streams stream = list_any (λ s. s == stream) streams

-- the StreamIDs of the entries that are let in, beside a sum that is taken already
abbrev pub streams_let_in : Caps → ℕ → List Entry → List ℕ
streams_let_in caps sum [] = []
streams_let_in caps sum (x ∷ xs) =
    cond (nat_le (sum + entry_slope x) (cap_of caps x.want.class)) (stream_of x ∷ streams_let_in caps (sum + entry_slope x) xs)
    (streams_let_in caps sum xs)

-- a stream that no entry is of isn't let in
taken_not : (caps : Caps) (sum stream : ℕ) (xs : List Entry) → AllByRecursion (λ y. stream ≢ stream_of y) xs
    → is_among (streams_let_in caps sum xs) stream ≡ false
taken_not caps sum stream [] h = refl
taken_not caps sum stream (x ∷ xs) h = grind (arith, taken_not caps (sum + entry_slope x) stream xs h.1, taken_not caps sum stream xs h.1, or_from, ne_eqb)

pub taken_runs : (caps : Caps) (sum : ℕ) (xs : List Entry) → AreOfDifferentStreams xs
    → Runs caps sum (λ e. is_among (streams_let_in caps sum xs) (stream_of e)) xs
taken_runs caps sum [] different = tt
taken_runs caps sum (x ∷ xs) different =
    elim (nat_le (sum + entry_slope x) (cap_of caps x.want.class))
    as (λ v. (is_among (cond v (stream_of x ∷ streams_let_in caps (sum + entry_slope x) xs) (streams_let_in caps sum xs)) (stream_of x) ≡ v)
    × Runs caps (sum + cond (is_among (cond v (stream_of x ∷ streams_let_in caps (sum + entry_slope x) xs) (streams_let_in caps sum xs)) (stream_of x)) (entry_slope x) 0)
    (λ e. is_among (cond v (stream_of x ∷ streams_let_in caps (sum + entry_slope x) xs) (streams_let_in caps sum xs)) (stream_of e)) xs) [
      | true ↦
          (let in_it : is_among (stream_of x ∷ streams_let_in caps (sum + entry_slope x) xs) (stream_of x) ≡ true =
          or_left (stream_of x == stream_of x) (is_among (streams_let_in caps (sum + entry_slope x) xs) (stream_of x)) (eq-eqb (stream_of x) (stream_of x) refl) in (
            in_it,
            runs_like caps (sum + entry_slope x) (sum + cond (is_among (stream_of x ∷ streams_let_in caps (sum + entry_slope x) xs) (stream_of x)) (entry_slope x) 0)
                (λ e. is_among (streams_let_in caps (sum + entry_slope x) xs) (stream_of e)) (λ e. is_among (stream_of x ∷ streams_let_in caps (sum + entry_slope x) xs) (stream_of e)) xs
                (ap (λ v. sum + cond v (entry_slope x) 0) (sym in_it))
                (all_with xs different.0 different.0 (λ e ne _. ap (λ w. w || is_among (streams_let_in caps (sum + entry_slope x) xs) (stream_of e)) (sym (ne_eqb (stream_of x) (stream_of e) ne))))
                (taken_runs caps (sum + entry_slope x) xs different.1),
          ))
      | false ↦
          (let out_of_it : is_among (streams_let_in caps sum xs) (stream_of x) ≡ false = taken_not caps sum (stream_of x) xs different.0 in
          let same : sum ≡ sum + 0 = omega arith in (
            out_of_it,
            runs_like caps sum (sum + cond (is_among (streams_let_in caps sum xs) (stream_of x)) (entry_slope x) 0)
                (λ e. is_among (streams_let_in caps sum xs) (stream_of e)) (λ e. is_among (streams_let_in caps sum xs) (stream_of e)) xs
                (same ∙ ap (λ v. sum + cond v (entry_slope x) 0) (sym out_of_it))
                (all_with xs different.0 different.0 (λ e ne _. refl))
                (taken_runs caps sum xs different.1),
          ))
    ]
