-- What a PDU that was read in place says of its vectors, and the loops over values, vectors and Messages.
use Rattle.std.proofs.Common.{◌≡◌, ℕ, Bool, true, false, eqb, List, map, refl, sym, ◌∙◌}
use Rattle.std.specs.Prelude.{if◌then◌else◌}
use Rattle.std.specs.List.{list_all, flat_map}
use Rattle.std.proofs.lemmas.{List.Folds.list_all-map, List.Folds.flat_map-map}
use Rattle.mrpdu_codec.specs.declared.{form.AppForm.TheVariants.Mmrp, pdu.VectorAttr.VectorAttr, raw.RawVector.RawVector, raw.RawMessage.RawMessage}
use Rattle.mrpdu_codec.specs.{Raw.attr_in, Raw.attrs_in, Raw.message_in, Shape.vector_fits, Shape.vectors_fit, Shape.has_form, Types.row_of}
use Rattle.mmrp_codec.specs.{mac_form, fits_in_place, events_in_place, vector_events, message_events}

-- ---- in place

-- vectors of MAC addresses in place have their form
pub macs_in_place : (kind : ℕ) (raws : List RawVector) → vectors_fit (row_of Mmrp kind) (attrs_in raws) ≡ true → kind ≡ 2 → list_all fits_in_place raws ≡ true
macs_in_place kind raws fits is = sym (list_all-map (vector_fits mac_form) attr_in raws) ∙ (rw is at fits)

-- their events are those of the Message
pub events_meant : (raws : List RawVector) → flat_map vector_events (attrs_in raws) ≡ flat_map events_in_place raws
events_meant raws = flat_map-map vector_events attr_in raws

-- the same of Messages
pub forms_in_place : (raws : List RawMessage) → list_all (has_form Mmrp) (map message_in raws) ≡ true → list_all (λ m. has_form Mmrp (message_in m)) raws ≡ true
forms_in_place raws h = sym (list_all-map (has_form Mmrp) message_in raws) ∙ h

pub messages_meant : (raws : List RawMessage) → flat_map message_events (map message_in raws) ≡ flat_map (λ m. message_events (message_in m)) raws
messages_meant raws = flat_map-map message_events message_in raws
