-- Runs of frames.
use Rattle.std.proofs.Common.{◌≡◌, ◌∙◌, ℕ, ◌≤◌, Bool, true, false, if◌then◌else◌, List, [], ◌∷◌, ◌++◌, refl, ap, sym, append_assoc, arith}
use Rattle.std.specs.Prelude.{Option, Some, None, nat_lt}
use Rattle.std.proofs.lemmas.Bool.Decides.{nat_tests}
use Rattle.std.proofs.lemmas.List.Sums.{fold-append}
use Rattle.capture_file.specs.Packets.{Packet}
use Rattle.link_replay.specs.declared.lines.End.{End}
use Rattle.mrp_frames.specs.Frames.{Seen, frame_in}
use Rattle.srp_base.specs.declared.numbers.Cs.{Cs}
use Rattle.stream_importance.specs.declared.slope.Caps.{Caps}
use Rattle.replay_words.specs.declared.ends.Ends.{Ends}
use Rattle.replay_words.specs.{LinkSeen, end_at, moment_after, seen_later, seen_at, seen_said, seen_from, seen_frame, packet_text, after_packet, after_packets, packets_text}

pub goes_on : (caps : Caps) (ends : Ends) (s : LinkSeen) (ps more : List Packet)
    → packets_text caps ends s (ps ++ more) ≡ packets_text caps ends s ps ++ packets_text caps ends (after_packets ends s ps) more
goes_on caps ends s [] more = refl
goes_on caps ends s (p ∷ ps) more =
    ap (λ (text : List ℕ). packet_text caps ends s p ++ text) (goes_on caps ends (after_packet ends s p) ps more)
    ∙ sym (append_assoc (packet_text caps ends s p) (packets_text caps ends (after_packet ends s p) ps)
    (packets_text caps ends (after_packets ends (after_packet ends s p) ps) more))

pub seen_on : (ends : Ends) (s : LinkSeen) (ps more : List Packet)
    → after_packets ends s (ps ++ more) ≡ after_packets ends (after_packets ends s ps) more
seen_on ends s ps more = fold-append (after_packet ends) s ps more

-- a frame of an end or of another is of the moment that has come
of_end : (at : Cs) (p : Packet) (seen : Seen) (who : Option End) (s : LinkSeen) → (seen_from at p seen who s).at ≡ s.at
unfolding seen_from seen_said
of_end at p seen None s = refl
of_end at p seen (Some who) s = refl

pub of_frame : (ends : Ends) (at : Cs) (p : Packet) (found : Option Seen) (s : LinkSeen) → (seen_frame ends at p found s).at ≡ s.at
unfolding seen_frame
of_frame ends at p None s = refl
of_frame ends at p (Some seen) s = of_end at p seen (end_at ends seen.address) s

-- time doesn't go back
goes_by : (b : Bool) (at : Cs) (s : LinkSeen) → nat_lt s.at.0 at.0 ≡ b → s.at.0 ≤ (if b then seen_later at s else s).at.0
unfolding seen_later
goes_by true at s later = grind (arith, nat_tests)
goes_by false at s later = omega arith

not_back : (at : Cs) (s : LinkSeen) → s.at.0 ≤ (seen_at at s).at.0
unfolding seen_at
not_back at s = goes_by (nat_lt s.at.0 at.0) at s refl

pub never_falls : (ends : Ends) (s : LinkSeen) (p : Packet) → s.at.0 ≤ (after_packet ends s p).at.0
unfolding after_packet
never_falls ends s p =
    let at = moment_after s.at p in
    let here : (after_packet ends s p).at ≡ (seen_at at s).at = of_frame ends at p (frame_in p) (seen_at at s) in
    let later : s.at.0 ≤ (seen_at at s).at.0 = not_back at s in
    rw here later
