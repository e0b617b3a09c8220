-- What was read in place has LeaveAll where it says so.
use Rattle.std.proofs.Common.{◌≡◌, List, [], ◌∷◌, map, refl}
use Rattle.std.specs.List.{list_any}
use Rattle.mrpdu_codec.specs.{RawVector, RawMessage, attr_in, message_in, leaves_in_place, message_leaves}

vectors_leave : (raws : List RawVector) → list_any (λ v. v.leave_all) (map attr_in raws) ≡ list_any leaves_in_place raws
vectors_leave [] = refl
vectors_leave (v ∷ raws) = rw (vectors_leave raws) refl

pub leaves_meant : (raws : List RawMessage) → list_any message_leaves (map message_in raws) ≡ list_any (λ m. list_any leaves_in_place m.vectors.items) raws
leaves_meant [] = refl
leaves_meant (m ∷ raws) = rw (vectors_leave m.vectors.items, leaves_meant raws) refl
