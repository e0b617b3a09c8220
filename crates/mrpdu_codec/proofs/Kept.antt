-- Of what was read, what is kept.
use Rattle.std.proofs.Common.{◌≡◌, ℕ, List, [], Option, Some, None, Result, Ok, Err, refl, arith}
use Rattle.mrpdu_codec.specs.{AppForm, TypeForm, VectorAttr, Message, row_of, messages_from, vectors_of, mark_at, list_at, length_at, body_at, message_at, list_kept}
use Rattle.srp_base.specs.Results.{◌>>=◌}

-- all of a known type
pub kept_some : (t : TypeForm) (read : Result (List VectorAttr × List ℕ) ℕ) → list_kept (Some t) read ≡ read
kept_some t read = grind arith

none_done : (attrs : List VectorAttr) (read : Result (List ℕ) ℕ) → list_kept None (read >>= λ rest. Ok (attrs, rest)) ≡ (read >>= λ rest. Ok ([], rest))
none_done attrs read = grind arith

-- what is kept of a list is what is kept of its vectors
kept_then : (row : Option TypeForm) (read : Result (List VectorAttr × List ℕ) ℕ) (f : List ℕ → Result (List ℕ) ℕ)
    → list_kept row (read >>= λ x. f x.1 >>= λ rest. Ok (x.0, rest)) ≡ (list_kept row read >>= λ x. f x.1 >>= λ rest. Ok (x.0, rest))
kept_then row read f = grind (arith, none_done, kept_some)

pub kept_list : (row : Option TypeForm) (len : ℕ) (octets : List ℕ)
    → list_kept row (list_at row len octets) ≡ (list_kept row (vectors_of row len octets) >>= λ x. mark_at x.1 >>= λ rest. Ok (x.0, rest))
unfolding list_at
kept_list row len octets = kept_then row (vectors_of row len octets) mark_at

-- a Message says what is kept of its vectors
abbrev pub said : Option TypeForm → ℕ → List VectorAttr × List ℕ → Result (List Message × List ℕ) ℕ
said row kind x = Ok (messages_from row kind x.0, x.1)

said_kept : (row : Option TypeForm) (kind : ℕ) (read : Result (List VectorAttr × List ℕ) ℕ) → (read >>= said row kind) ≡ (list_kept row read >>= said row kind)
said_kept row kind read = grind arith

pub message_kept : (form : AppForm) (kind : ℕ) (octets : List ℕ)
    → message_at form kind octets ≡ (length_at (row_of form kind) octets >>= λ len. list_kept (row_of form kind) (body_at form (row_of form kind) len.0 len.1) >>= said (row_of form kind) kind)
unfolding message_at
message_kept form kind octets = go (length_at (row_of form kind) octets) where
  go : (read : Result (ℕ × List ℕ) ℕ)
      → (read >>= λ len. body_at form (row_of form kind) len.0 len.1 >>= said (row_of form kind) kind)
      ≡ (read >>= λ len. list_kept (row_of form kind) (body_at form (row_of form kind) len.0 len.1) >>= said (row_of form kind) kind)
  go read = grind (arith, said_kept)
