-- The lines of what is needed, each by what it tells. A line ends with a line feed.
use Rattle.std.specs.Prelude.{ℕ, List, [], ◌∷◌, codes, Option, Some, None}
use Rattle.std.specs.Fmt.{decimal}
use Rattle.srp_base.specs.Text.{whole_of}
use Rattle.srp_base.specs.declared.bandwidth.Rate.{Rate}
use Rattle.srp_base.specs.declared.bandwidth.Rate.TheVariants.{M100, G1, G10}
use Rattle.stream_importance.specs.declared.slope.Caps.{Caps}
use Rattle.port_needs.specs.declared.shares.Shares.{Shares}

-- `needs P A a of c A+B b of d`, in bit/s
abbrev pub needs_start : List ℕ → Caps → ℕ → ℕ → List ℕ
needs_start port caps class_a both = whole_of (
    codes "needs " ∷ port ∷ codes " A " ∷ decimal class_a ∷ codes " of " ∷ decimal caps.class_a ∷ codes " A+B "
    ∷ decimal both ∷ codes " of " ∷ decimal caps.both ∷ [])

-- ` delta_a x delta_b y`, in percent
abbrev pub shares_words : Option Shares → List ℕ
shares_words None = codes " delta_a none delta_b none"
shares_words (Some shares) = whole_of (
    codes " delta_a " ∷ decimal shares.delta_a ∷ codes " delta_b " ∷ decimal shares.delta_b ∷ [])

-- ` rate r`, in Mb/s
abbrev pub rate_words : Option Rate → List ℕ
rate_words None = codes " rate none\n"
rate_words (Some M100) = codes " rate 100\n"
rate_words (Some G1) = codes " rate 1000\n"
rate_words (Some G10) = codes " rate 10000\n"

-- `never NAME code K at P`
abbrev pub never_line : List ℕ → ℕ → List ℕ → List ℕ
never_line name code port = whole_of (
    codes "never " ∷ name ∷ codes " code " ∷ decimal code ∷ codes " at " ∷ port ∷ codes "\n" ∷ [])
