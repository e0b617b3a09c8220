-- A list of events, one after the other: what has happened so far, and one more.
use Rattle.std.proofs.Common.{◌≡◌, ℕ, zero, suc, List, [], ◌∷◌, ◌++◌, take, drop, refl, ap}
use Rattle.world_core.specs.{WorldEvent, WorldReply, WorldState, world_step, world_after, replies_to, CanAllHappen}

-- the first i events have led from a network to another, with these answers
pub record IsSoFar (events : List WorldEvent) (i : ℕ) (w start : WorldState) (done : List WorldReply) : Type 0 where
  pub can : CanAllHappen (drop i events) w
  pub replies : done ++ replies_to (drop i events) w ≡ replies_to events start
  pub after : world_after (drop i events) w ≡ world_after events start
  pub so_far : w ≡ world_after (take i events) start

-- ---- a list of events in two parts

pub rest_can : (done : ℕ) (es : List WorldEvent) (w : WorldState) → CanAllHappen es w → CanAllHappen (drop done es) (world_after (take done es) w)
rest_can zero es w can = can
rest_can (suc done) [] w can = can
rest_can (suc done) (e ∷ es) w can = rest_can done es (world_step e w).0 can.1

pub rest_after : (done : ℕ) (es : List WorldEvent) (w : WorldState) → world_after (drop done es) (world_after (take done es) w) ≡ world_after es w
rest_after zero es w = refl
rest_after (suc done) [] w = refl
rest_after (suc done) (e ∷ es) w = rest_after done es (world_step e w).0

pub rest_replies : (done : ℕ) (es : List WorldEvent) (w : WorldState) → replies_to (take done es) w ++ replies_to (drop done es) (world_after (take done es) w) ≡ replies_to es w
rest_replies zero es w = refl
rest_replies (suc done) [] w = refl
rest_replies (suc done) (e ∷ es) w = ap (λ (rs : List WorldReply). (world_step e w).1 ∷ rs) (rest_replies done es (world_step e w).0)
