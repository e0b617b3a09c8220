-- Walks along entries: one entry more, of what is still to come.
use Rattle.std.proofs.Common.{◌≡◌, ℕ, ◌+◌, ◌<◌, ◌≤◌, Bool, true, false, if◌then◌else◌, List, [], ◌∷◌, ◌++◌, length, get_or, drop, refl, sym, ap, ◌∙◌, append_assoc}
use Rattle.std.proofs.lemmas.{Bool.lt-ltb, Bool.le-ltb, List.append-nil, List.at_drop_more, List.drop_all}
use Rattle.srp_base.specs.declared.numbers.StreamId.{StreamId}
use Rattle.stream_importance.specs.declared.entry.Entry.{Entry}
use Rattle.port_ledger.specs.{stream_of, is_booked, booked_of, booked_only_in, booked_stream, booked_streams_below}

module _ (entries : List Entry) (i : ℕ) (d : Entry) (below : i < length entries) where
  abbrev rest : List Entry
  rest = drop (i + 1) entries

  -- ---- the booked ones

  booked-front : (x : Entry) (b : Bool) → is_booked x ≡ b → booked_of (x ∷ rest) ≡ (if b then x ∷ booked_of rest else booked_of rest)
  booked-front x b e = rw (← e) refl

  pub booked-more : (whole done new : List Entry) → whole ≡ done ++ booked_of (drop i entries) → is_booked (get_or entries i d) ≡ true
      → new ≡ done ++ get_or entries i d ∷ [] → whole ≡ new ++ booked_of (drop (i + 1) entries)
  booked-more whole done new so_far booked pushed =
      so_far
      ∙ ap (λ l. done ++ l) (at_drop_more booked_of entries i d below ∙ booked-front (get_or entries i d) true booked)
      ∙ sym (append_assoc done (get_or entries i d ∷ []) (booked_of rest))
      ∙ ap (λ l. l ++ booked_of rest) (sym pushed)

  pub booked-over : (whole done : List Entry) → whole ≡ done ++ booked_of (drop i entries) → is_booked (get_or entries i d) ≡ false → whole ≡ done ++ booked_of (drop (i + 1) entries)
  booked-over whole done so_far unbooked =
      so_far ∙ ap (λ l. done ++ l) (at_drop_more booked_of entries i d below ∙ booked-front (get_or entries i d) false unbooked)

  -- ---- their streams

  all-front : (x : Entry) (b : Bool) → is_booked x ≡ b → booked_only_in (x ∷ rest) [] ≡ booked_stream x ++ booked_only_in rest []
  all-front x true e = rw e refl
  all-front x false e = rw e refl

  pub all-more : (whole done new : List StreamId) → whole ≡ done ++ booked_only_in (drop i entries) [] → new ≡ done ++ booked_stream (get_or entries i d)
      → whole ≡ new ++ booked_only_in (drop (i + 1) entries) []
  all-more whole done new so_far more =
      so_far
      ∙ ap (λ l. done ++ l) (at_drop_more (λ l. booked_only_in l []) entries i d below ∙ all-front (get_or entries i d) (is_booked (get_or entries i d)) refl)
      ∙ sym (append_assoc done (booked_stream (get_or entries i d)) (booked_only_in rest []))
      ∙ ap (λ l. l ++ booked_only_in rest []) (sym more)

  below-front : (x : Entry) (stream : StreamId) → stream_of x < stream.0 → booked_streams_below (x ∷ rest) stream ≡ booked_stream x ++ booked_streams_below rest stream
  below-front x stream less = rw (lt-ltb (stream_of x) stream.0 less) refl

  below-end : (x : Entry) (stream : StreamId) → stream.0 ≤ stream_of x → booked_streams_below (x ∷ rest) stream ≡ []
  below-end x stream past = rw (le-ltb (stream_of x) stream.0 past) refl

  pub below-more : (stream : StreamId) (whole done new : List StreamId) → whole ≡ done ++ booked_streams_below (drop i entries) stream
      → stream_of (get_or entries i d) < stream.0 → new ≡ done ++ booked_stream (get_or entries i d) → whole ≡ new ++ booked_streams_below (drop (i + 1) entries) stream
  below-more stream whole done new so_far less more =
      so_far
      ∙ ap (λ l. done ++ l) (at_drop_more (λ l. booked_streams_below l stream) entries i d below ∙ below-front (get_or entries i d) stream less)
      ∙ sym (append_assoc done (booked_stream (get_or entries i d)) (booked_streams_below rest stream))
      ∙ ap (λ l. l ++ booked_streams_below rest stream) (sym more)

  pub below-ends : (stream : StreamId) (whole done : List StreamId) → whole ≡ done ++ booked_streams_below (drop i entries) stream → stream.0 ≤ stream_of (get_or entries i d) → done ≡ whole
  below-ends stream whole done so_far past =
      sym (so_far ∙ ap (λ l. done ++ l) (at_drop_more (λ l. booked_streams_below l stream) entries i d below ∙ below-end (get_or entries i d) stream past) ∙ append-nil done)

-- behind the last one
pub booked-ends : (entries : List Entry) (i : ℕ) → length entries ≤ i → (whole done : List Entry) → whole ≡ done ++ booked_of (drop i entries) → done ≡ whole
booked-ends entries i le whole done so_far = sym (so_far ∙ ap (λ l. done ++ booked_of l) (drop_all i entries le) ∙ append-nil done)
