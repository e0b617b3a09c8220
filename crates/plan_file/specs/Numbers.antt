-- The StreamIDs and the addresses of streams that a plan doesn't number: the lowest that are free.
use Rattle.std.specs.Prelude.{ℕ, ◌==◌, Bool, false, not, List, [], ◌∷◌, map, filter, Option, Some, None, option_map}
use Rattle.std.specs.List.{list_any}
use Rattle.plan_file.specs.declared.entries.PlanStream.{PlanStream}
use Rattle.plan_file.specs.Events.{numbers_from}

-- this number is given
abbrev pub is_number : ℕ → Option ℕ → Bool
is_number n None = false
is_number n (Some m) = m == n

-- one of those that are given is this number
abbrev pub is_given : List (Option ℕ) → ℕ → Bool
is_given given n = list_any (is_number n) given

-- the lowest numbers from one on that aren't given: of 256 numbers, since a plan has 128 streams
abbrev pub free_numbers : ℕ → List (Option ℕ) → List ℕ
free_numbers from given = filter (λ n. not (is_given given n)) (numbers_from from 256)

-- each number that is given, and in place of one that is missing the next of those that are free,
-- of which there are always more
abbrev pub filled : List ℕ → List (Option ℕ) → List ℕ
filled free [] = []
filled free (Some n ∷ rest) = n ∷ filled free rest
filled [] (None ∷ rest) = 0 ∷ filled [] rest
filled (n ∷ free) (None ∷ rest) = n ∷ filled free rest

-- each number that is given, and the lowest free ones from one on
abbrev pub numbered : ℕ → List (Option ℕ) → List ℕ
numbered from given = filled (free_numbers from given) given

-- the StreamIDs that the plan gives, and the addresses
abbrev pub given_ids : List PlanStream → List (Option ℕ)
given_ids streams = map (λ s. option_map (λ id. id.0) s.values.id) streams

abbrev pub given_dests : List PlanStream → List (Option ℕ)
given_dests streams = map (λ s. s.values.dest) streams

-- the StreamIDs of all streams: the lowest free ones from 02-00-00-00-00-01:0001 on
abbrev pub ids_of : List PlanStream → List ℕ
ids_of streams = numbered 144115188075921409 (given_ids streams)

-- their destination addresses: the lowest free ones from 91-E0-F0-00-00-01 on
abbrev pub dests_of : List PlanStream → List ℕ
dests_of streams = numbered 160395285233665 (given_dests streams)
