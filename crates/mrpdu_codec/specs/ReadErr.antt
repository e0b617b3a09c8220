-- What the private readers answer: a value as the reading has it, or how many octets were left.
use Rattle.std.specs.Prelude.{◌≡◌, ℕ, ◌+◌, ◌-◌, ◌≤◌, List, [], ◌∷◌, Option, Some, None, Result, Ok, Err, IfSome}
use Rattle.mrpdu_codec.specs.declared.{error.DecodeErr.DecodeErr, error.ReadErr.ReadErr, form.TypeForm.TypeForm, pdu.VectorAttr.VectorAttr}
use Rattle.mrpdu_codec.specs.declared.error.DecodeErr.TheVariants as decode_errors
use Rattle.mrpdu_codec.specs.declared.error.ReadErr.TheVariants as errors

-- how many octets a reading says were left, which want of memory doesn't
abbrev pub left_of : ReadErr → Option ℕ
left_of errors.NoMemory = None
left_of (errors.Left left) = Some left

-- an error is the reading's, unless memory ran out
abbrev pub Fails : {Y : Type 0} → ReadErr → Result Y ℕ → Type 0
Fails e read = IfSome (left_of e) (λ left. read ≡ Err left)

-- no more octets are left than there are
abbrev pub IsWithin : ReadErr → ℕ → Type 0
IsWithin (errors.Left left) all = left ≤ all
IsWithin errors.NoMemory all = Unit {0}

-- where n octets stand behind those that were read
abbrev pub behind : ReadErr → ℕ → ReadErr
behind (errors.Left left) n = errors.Left (left + n)
behind errors.NoMemory n = errors.NoMemory

-- the place of the field that breaks, in all octets
abbrev pub decode_err_of : ReadErr → ℕ → DecodeErr
decode_err_of (errors.Left left) all = decode_errors.Malformed (all - left)
decode_err_of errors.NoMemory all = decode_errors.NoMemory

-- ---- What is kept of lists of vectors

-- of what was read, what is kept: nothing of a type that its application doesn't know
abbrev pub list_kept : Option TypeForm → Result (List VectorAttr × List ℕ) ℕ → Result (List VectorAttr × List ℕ) ℕ
list_kept row (Err left) = Err left
list_kept None (Ok x) = Ok ([], x.1)
list_kept (Some t) (Ok x) = Ok x

-- of a vector's attribute, what is kept
abbrev pub kept_attr : Option TypeForm → VectorAttr → List VectorAttr
kept_attr None attr = []
kept_attr (Some t) attr = attr ∷ []
