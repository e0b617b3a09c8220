-- How the code knows from which place of the order of importance on a call decides anew: the
-- entries before that place, the front, stay as they are, and what they take is known. No public
-- contract names it.
use Rattle.std.specs.Prelude.{ℕ, suc, ◌+◌, ◌≡◌, ◌≤◌, ◌<◌, ◌^◌, ◌++◌, Bool, true, false, not, ◌&&◌, ◌||◌, ◌==◌, nat_le, List, [], ◌∷◌, Option, Some, None, IsPermutation, length, take, drop, if◌then◌else◌}
use Rattle.std.specs.List.{AllByRecursion}
use Rattle.stream_importance.specs.declared.{entry.Entry.Entry, slope.Caps.Caps}
use Rattle.stream_importance.specs.{Bandwidth.cap_of, Importance.class_number, Importance.rank_number, Importance.is_more_important, Importance.moment_or}
use Rattle.port_ledger.specs.declared.{front.Level.Level, front.Standing.Standing, totals.Totals.Totals}
use Rattle.port_ledger.specs.{Decision.comes_after, Decision.entry_slope, Decision.is_booked, Decision.IsAscending, Book.IsKept, Pass.entries_passed, Pass.importance_order, Totals.later_totals, Totals.totals_of}

-- each entry goes before all later ones
abbrev pub IsRanked : ℕ → List Entry → Type 0
IsRanked now [] = Unit {0}
IsRanked now (x ∷ xs) = AllByRecursion (λ y. comes_after now y x ≡ true) xs × IsRanked now xs

-- the chosen ones are those that a running sum lets in
abbrev pub Runs : Caps → ℕ → (Entry → Bool) → List Entry → Type 0
Runs caps sum b [] = Unit {0}
Runs caps sum b (x ∷ xs) =
    (b x ≡ nat_le (sum + entry_slope x) (cap_of caps x.want.class)) × Runs caps (sum + (if b x then entry_slope x else 0)) b xs

-- of the same class and rank
abbrev pub same_level : Entry → Entry → Bool
same_level x y = (class_number x.want.class == class_number y.want.class) && (rank_number x.want.rank == rank_number y.want.rank)

-- y comes after x at a moment, and so at every later one: an entry that isn't booked counts with
-- the moment, so that one of its level that is booked comes before it in the end
abbrev pub stays_after : ℕ → Entry → Entry → Bool
stays_after now y x = comes_after now y x && (is_booked x || not (is_booked y && same_level x y))

-- the same, however y is decided at this moment
abbrev pub stays_behind : ℕ → Entry → Entry → Bool
stays_behind now y x = comes_after now y x && (is_booked x || not (same_level x y))

-- each entry goes before all later ones, at this moment and at every later one
abbrev pub AreLasting : ℕ → List Entry → Type 0
AreLasting now [] = Unit {0}
AreLasting now (x ∷ xs) = AllByRecursion (λ y. stays_after now y x ≡ true) xs × AreLasting now xs

-- an entry comes after each of a front, however it is decided
abbrev pub IsBehind : ℕ → List Entry → Entry → Type 0
IsBehind now front y = AllByRecursion (λ x. stays_behind now y x ≡ true) front

-- a front and what is behind it
pub record IsAhead (now : ℕ) (front rest : List Entry) : Type 0 where
  pub lasting : AreLasting now front
  pub behind : AllByRecursion (IsBehind now front) rest

-- the first entries, as many as a number says, stand before all behind them and in their order, at
-- this moment and at every later one, however what is behind them is decided
pub record IsSettled (now n : ℕ) (order : List Entry) : Type 0 where
  pub within : n ≤ length order
  pub ahead : IsAhead now (take n order) (drop n order)

-- the first entry that is booked
abbrev pub first_booked : List Entry → Option Entry
first_booked [] = None
first_booked (x ∷ xs) = if is_booked x then Some x else first_booked xs

-- whether an entry is of the level of another, where there is one
abbrev pub has_level : Entry → Option Entry → Bool
has_level x None = false
has_level x (Some y) = same_level x y

-- the number of entries before the first that isn't booked and has one behind it that is booked, of
-- its level
abbrev pub settled_front : List Entry → ℕ
settled_front [] = 0
settled_front (x ∷ xs) = if not (is_booked x) && has_level x (first_booked xs) then 0 else suc (settled_front xs)

-- the class and the rank of an entry
abbrev pub level_of : Entry → Level
level_of x = record { class = x.want.class; rank = x.want.rank }

-- whether an entry is of a level, where there is one
abbrev pub is_of_level : Entry → Option Level → Bool
is_of_level x None = false
is_of_level x (Some l) = (class_number x.want.class == class_number l.class) && (rank_number x.want.rank == rank_number l.rank)

-- the level of the first entry that is booked
abbrev pub first_level : List Entry → Option Level
first_level [] = None
first_level (x ∷ xs) = if is_booked x then Some (level_of x) else first_level xs

-- the same number by the levels alone
abbrev pub settled_levels : List Entry → ℕ
settled_levels [] = 0
settled_levels (x ∷ xs) = if not (is_booked x) && is_of_level x (first_level xs) then 0 else suc (settled_levels xs)

-- y is more important than x, and stays so when x is booked anew
abbrev pub is_prior : ℕ → Entry → Entry → Bool
is_prior now x y = is_more_important now y x && (is_booked y || not (same_level y x))

-- the same of x, where there is one
abbrev pub is_prior_to : ℕ → Option Entry → Entry → Bool
is_prior_to now None y = true
is_prior_to now (Some x) y = is_prior now x y

-- each of these is more important than an entry, where there is one, and stays so
abbrev pub ArePriorTo : ℕ → Option Entry → List Entry → Type 0
ArePriorTo now x ys = AllByRecursion (λ y. is_prior_to now x y ≡ true) ys

-- the entries behind a front that takes so much, once they are decided, in the order of importance
abbrev pub decided_behind : ℕ → Caps → ℕ → List Entry → List Entry
decided_behind now caps taken behind = importance_order now (entries_passed now caps taken (importance_order now behind))

-- the same at a later moment
abbrev pub later_standing : Bool → Standing → Standing
later_standing moved s = record s { totals = later_totals moved s.totals }

-- ascending entries are those of a front and these behind it
pub record AreBehind (front behind entries : List Entry) : Type 0 where
  pub ascending : IsAscending entries
  pub same : IsPermutation entries (front ++ behind)

-- what a ledger keeps beside its entries
pub record IsOrdered (moment : ℕ) (standing : Standing) (entries order : List Entry) : Type 0 where
  pub same : IsPermutation entries order
  pub settled : IsSettled moment standing.settled order
  pub totals : standing.totals ≡ totals_of moment entries

-- what holds of all that a ledger keeps, at a moment
pub record IsOrderedBook (now : ℕ) (caps : Caps) (standing : Standing) (entries order : List Entry) : Type 0 where
  pub kept : IsKept (record { caps = caps; moment = now; entries = entries })
  pub range : caps.both < 2 ^ 64
  pub ordered : IsOrdered now standing entries order

-- entries that may be decided from a place of their order on: the front before that place is as it
-- stays
pub record IsFront (now : ℕ) (caps : Caps) (place : ℕ) (front : Totals) (entries order : List Entry) : Type 0 where
  pub ascending : IsAscending entries
  pub shares : caps.class_a ≤ caps.both
  pub range : caps.both < 2 ^ 64
  pub moments : AllByRecursion (λ x. moment_or now x.since ≤ now) entries
  pub same : IsPermutation entries order
  pub settled : IsSettled now place order
  pub stays : Runs caps 0 is_booked (take place order)
  pub totals : front ≡ totals_of now (take place order)
