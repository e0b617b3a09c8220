-- A link, of one application, from its PDUs: the ways over it, what is on its way there, and the words
-- on registrars that disagree. What is said at one moment is with the other end at the next, and may
-- cross what is said there: so a word is broken only where it disagrees behind that too.
use Rattle.std.specs.Prelude.{ℕ, Bool, List, [], ◌∷◌, ◌++◌, length, map, filter, flat_map, fold}
use Rattle.std.specs.declared.cmp.Ordering.{Ordering}
use Rattle.srp_base.specs.declared.{numbers.Cs.Cs, mrp.MrpEvent.MrpEvent}
use Rattle.mrp_participant.specs.State.{Messages}
use Rattle.link_replay.specs.declared.lines.End.{End}
use Rattle.link_replay.specs.{Lines.other_end, Way.word_text, BothWays.Ways, BothWays.new_ways, BothWays.way_of, BothWays.ways_passing, BothWays.ways_saying, BothWays.ways_arriving, BothWays.is_word_broken, BothWays.said_text}

-- the ways; the lists of messages that are on their way, in the order in which they were said, each
-- with the end that said it; and the words that disagreed when they were said, each with its end
pub record LinkState (K C : Type 0) : Type 0 where
  pub ways : Ways K C
  pub on_way : List (End × Messages K C)
  pub kept : List (End × (MrpEvent × K × C))

-- a link of which nothing was seen yet
abbrev pub unseen_link : {K C : Type 0} → Cs → LinkState K C
unseen_link leave_time = record { ways = new_ways leave_time; on_way = []; kept = [] }

module _ {K C : Type 0} where
  -- after a moment
  abbrev pub link_passing : Cs → LinkState K C → LinkState K C
  link_passing at l = record l { ways = ways_passing at l.ways }

  -- once the words are judged
  abbrev pub link_judged : LinkState K C → LinkState K C
  link_judged l = record l { kept = [] }

-- ---- what is said, what arrives, and which words are broken

module _ {K C : Type 0} (cmp : K → K → Ordering) where
  -- the events of an end that disagree with its observer
  abbrev pub doubted : Ways K C → End → List (MrpEvent × K × C) → List (End × (MrpEvent × K × C))
  doubted w who events = map (λ e. (who, e)) (filter (is_word_broken cmp w who) events)

  -- after an end says a list of messages: its own LeaveAll acts at once, then its words are looked at,
  -- and all of it is on its way
  abbrev pub link_saying : Cs → End → Messages K C → LinkState K C → LinkState K C
  link_saying at who m l =
      let ways = ways_saying cmp at who m l.ways in
      record { ways = ways; on_way = l.on_way ++ ((who, m) ∷ []); kept = l.kept ++ doubted ways who m.events }

  -- the ways after a list of messages of an end has arrived
  abbrev pub said_arriving : Cs → Ways K C → End × Messages K C → Ways K C
  said_arriving at w x = ways_arriving cmp at x.0 x.1 w

  -- after some, in order
  abbrev pub all_arriving : Cs → Ways K C → List (End × Messages K C) → Ways K C
  all_arriving at w on_way = fold (said_arriving at) w on_way

  -- once all that is on its way has arrived
  abbrev pub link_arriving : Cs → LinkState K C → LinkState K C
  link_arriving at l = record l { ways = all_arriving at l.ways l.on_way; on_way = [] }

  -- whether a word that an end said disagrees
  unfoldable pub is_kept_broken : Ways K C → End × (MrpEvent × K × C) → Bool
  is_kept_broken w x = is_word_broken cmp w x.0 x.1

  -- how many of the words are broken
  abbrev pub link_broken : LinkState K C → ℕ
  link_broken l = length (filter (is_kept_broken l.ways) l.kept)

-- ---- what is printed of the words, which were said at a moment

module _ {K C : Type 0} (cmp : K → K → Ordering) (key_text : K → List ℕ) where
  -- of a word that an end said
  unfoldable pub kept_text : Cs → Ways K C → End × (MrpEvent × K × C) → List ℕ
  kept_text at w x = word_text cmp key_text at (way_of (other_end x.0) w) x.1

  -- of all of them
  abbrev pub judging_text : Cs → LinkState K C → List ℕ
  judging_text at l = flat_map (kept_text at l.ways) l.kept

-- ---- what is printed of what arrives

module _ {K C : Type 0} (cmp : K → K → Ordering) (eq : C → C → Bool) (key_text : K → List ℕ) (content_text : C → List ℕ) where
  -- of lists of messages, in order
  abbrev pub all_arriving_text : Cs → Ways K C → List (End × Messages K C) → List ℕ
  all_arriving_text at w [] = []
  all_arriving_text at w (x ∷ on_way) =
      said_text cmp eq key_text content_text at x.1 (way_of x.0 w) ++ all_arriving_text at (said_arriving cmp at w x) on_way

  -- of all that is on its way
  abbrev pub arriving_text : Cs → LinkState K C → List ℕ
  arriving_text at l = all_arriving_text at l.ways l.on_way
