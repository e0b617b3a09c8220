-- A value put into a map at a key, and the members that the map is seen as.
use Rattle.std.proofs.Common.{◌≡◌, ◌∙◌, ℕ, List, [], ◌∷◌, ◌++◌, map, refl, ap, sym, String, string_bytes, Ordering, Less, Equal, Greater, nat_cmp, string_cmp, rules}
use Rattle.std.specs.{Cmp.Lexicographic.slice_cmp, Ordering.match_ordering, declared.alloc.Global.Global, BTreeMap.insert_entry}
use Rattle.toml.specs.Data.{Data, table, Members, member}
use Rattle.toml.specs.View.{view, members_view, items_view, table_view, items_of}
use Rattle.toml.specs.declared.value.Value.{Value}
use Rattle.plan_file.specs.Tables.{with_member}

abbrev Entry : Type 0
Entry = String Global × Value

match_members : (o : Ordering) (a b c : List Entry) → members_view (match_ordering o a b c) ≡ match_ordering o (members_view a) (members_view b) (members_view c)
match_members Less a b c = refl
match_members Equal a b c = refl
match_members Greater a b c = refl

-- what a map is seen as once a value stands at a key
pub members_view-insert : (es : List Entry) (k : String Global) (v : Value)
    → members_view (insert_entry string_cmp es k v) ≡ with_member (string_bytes k) (view v) (members_view es)
members_view-insert [] k v = refl
members_view-insert (e ∷ es) k v = match_members (string_cmp k e.0) _ _ _ ∙ rw (members_view-insert es k v)
