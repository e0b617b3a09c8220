-- The PDUs on their way over a link, as contracts see them.
use Rattle.std.specs.Prelude.{ℕ, List, map}

-- the octets of a PDU, and which application's it is
pub record NamedOctets (Name : Type 0) : Type 0 where
  pub app : Name
  pub octets : List ℕ

-- octets of one application, as PDUs
abbrev pub of_app : {Name : Type 0} → Name → List (List ℕ) → List (NamedOctets Name)
of_app name pdus = map (λ octets. record { app = name; octets = octets }) pdus
