-- Records of PDUs, one after the other.
use Rattle.std.proofs.Common.{◌≡◌, ℕ, List, [], ◌∷◌, ◌++◌, refl, sym, ap, ◌∙◌, append_assoc}
use Rattle.capture_file.specs.declared.setting.ByteOrder.TheVariants.{Big}
use Rattle.capture_file.specs.Writing.{record_text}
use Rattle.link_capture.specs.{Crossing, packet_of, records_of}

-- the records of crossings behind others
pub records_both : (cs ds : List Crossing) → records_of (cs ++ ds) ≡ records_of cs ++ records_of ds
records_both [] ds = refl
records_both (c ∷ cs) ds =
    ap (λ (o : List ℕ). record_text Big (packet_of c) ++ o) (records_both cs ds)
    ∙ sym (append_assoc (record_text Big (packet_of c)) (records_of cs) (records_of ds))
