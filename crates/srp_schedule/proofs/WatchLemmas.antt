-- One who watches has seen the end of one tick more.
use Rattle.std.proofs.Common.{◌≡◌, ℕ, suc, ◌+◌, List, [], ◌∷◌, ◌++◌, length, refl, sym, ap, ◌∙◌, append-nil, arith}
use Rattle.std.proofs.lemmas.List.Sums.{fold-append}
use Rattle.topology_file.specs.Plan.{Plan}
use Rattle.world_core.specs.declared.journal.Tick.{Tick}
use Rattle.world_core.specs.declared.events.WorldEvent.{WorldEvent}
use Rattle.world_core.specs.{World.WorldState, World.world_after, Start.world_of, Ticks.tick_events, Moments.events_from, Timeline.world_after_ticks}
use Rattle.world_core.proofs.Timelines.{after_both}
use Rattle.srp_schedule.specs.{ends_from, ends_of, having_seen}

end_more : (plan : Plan) (t : ℕ) (w : WorldState) (ticks : List Tick) (tick : Tick)
    → ends_from plan t w (ticks ++ tick ∷ []) ≡ ends_from plan t w ticks ++ (t + length ticks, world_after (events_from plan t (ticks ++ tick ∷ [])) w) ∷ []
end_more plan t w [] tick =
    let number : t ≡ t + 0 = omega arith in
    let all : tick_events plan t tick ≡ tick_events plan t tick ++ [] = sym (append-nil (tick_events plan t tick)) in
    ap (λ (k : ℕ). (k, world_after (tick_events plan t tick) w) ∷ []) number
    ∙ ap (λ (es : List WorldEvent). (t + 0, world_after es w) ∷ []) all
end_more plan t w (x ∷ ticks) tick =
    let v : WorldState = world_after (tick_events plan t x) w in
    let number : suc t + length ticks ≡ t + suc (length ticks) = omega arith in
    let later : world_after (events_from plan (suc t) (ticks ++ tick ∷ [])) v ≡ world_after (tick_events plan t x ++ events_from plan (suc t) (ticks ++ tick ∷ [])) w
    = sym (after_both (tick_events plan t x) (events_from plan (suc t) (ticks ++ tick ∷ [])) w) in
    ap (λ (es : List (ℕ × WorldState)). (t, v) ∷ es) (end_more plan (suc t) v ticks tick)
    ∙ (ap (λ (k : ℕ). (t, v) ∷ (ends_from plan (suc t) v ticks ++ (k, world_after (events_from plan (suc t) (ticks ++ tick ∷ [])) v) ∷ [])) number
    ∙ ap (λ (u : WorldState). (t, v) ∷ (ends_from plan (suc t) v ticks ++ (t + suc (length ticks), u) ∷ [])) later)

-- one who has seen the ends of some ticks has seen those of one more once it has seen the network at its end
pub seen_more : {S : Type 0} (after : S → ℕ → WorldState → S) (start before now : S) (plan : Plan) (t : ℕ) (ticks : List Tick) (tick : Tick) (v : WorldState)
    → length ticks ≡ t → v ≡ world_after_ticks plan (ticks ++ tick ∷ []) → before ≡ having_seen after start (ends_of plan ticks) → now ≡ after before t v
    → now ≡ having_seen after start (ends_of plan (ticks ++ tick ∷ []))
seen_more {S = S} after start before now plan t ticks tick v many reached seen sees =
    let see : S → ℕ × WorldState → S = λ s end. after s end.0 end.1 in
    let ends : List (ℕ × WorldState) = ends_of plan ticks in
    let end : WorldState = world_after_ticks plan (ticks ++ tick ∷ []) in
    let number : length ticks ≡ 0 + length ticks = omega arith in
    sees
    ∙ (ap (λ (s : S). after s t v) seen
    ∙ (ap (λ (k : ℕ). after (having_seen after start ends) k v) (sym many)
    ∙ (ap (λ (w : WorldState). after (having_seen after start ends) (length ticks) w) reached
    ∙ (sym (fold-append see start ends ((length ticks, end) ∷ []))
    ∙ (ap (λ (k : ℕ). having_seen after start (ends ++ (k, end) ∷ [])) number
    ∙ ap (λ (es : List (ℕ × WorldState)). having_seen after start es) (sym (end_more plan 0 (world_of plan) ticks tick)))))))
