-- What is wrong at a table: a key that it may not have, or one whose value isn't what it has to be.
use Rattle.std.specs.Prelude.{ℕ, Bool, not, nat_eq, ◌&&◌, if◌then◌else◌, List, find, Option, Some, None}
use Rattle.std.specs.{Cmp.Lexicographic.pointwise, List.list_any, Option.is_none}
use Rattle.toml.specs.Data.{Data, Members, get_member}
use Rattle.toml_rules.specs.Fields.{member_keys}
use Rattle.rule_words.specs.declared.{keys.Key.Key, tables.TableForm.TableForm}
use Rattle.rule_words.specs.{Forms.has_form, Keys.word_of, Keys.form_of, Keys.is_needed, Tables.keys_apart, Tables.keys_of, Tables.is_closed}

-- the word is that of one of these keys
abbrev pub is_key_of : List Key → List ℕ → Bool
is_key_of keys word = list_any (λ key. pointwise nat_eq word (word_of key)) keys

-- the first key of a table that is none of these
abbrev pub unknown_key : List Key → Members → Option (List ℕ)
unknown_key known ms = find (λ word. not (is_key_of known word)) (member_keys ms)

-- a value that is there has its form, and a missing one has a default
abbrev pub right_with : Key → Members → Option Data → Bool
right_with key ms (Some d) = has_form (form_of key) (word_of key) ms
right_with key ms None = not (is_needed key)

-- there is what has to be at a key
abbrev pub is_right : Key → Members → Bool
is_right key ms = right_with key ms (get_member (word_of key) ms)

-- the first of these keys at which there isn't what has to be
abbrev pub wrong_key : List Key → Members → Option Key
wrong_key keys ms = find (λ key. not (is_right key ms)) keys

-- the first key of a table that it may not have
abbrev pub stray_key : TableForm → Members → Option (List ℕ)
stray_key form ms = if is_closed form then unknown_key (keys_of form) ms else None

-- the key of this word that goes with the other form of a plan's stream
abbrev pub apart_key : TableForm → List ℕ → Option Key
apart_key form word = find (λ key. pointwise nat_eq word (word_of key)) (keys_apart form)

-- a table has no other keys than those of its form, and there is what has to be at each
abbrev pub is_faultless : TableForm → Members → Bool
is_faultless form ms = is_none (stray_key form ms) && is_none (wrong_key (keys_of form) ms)
