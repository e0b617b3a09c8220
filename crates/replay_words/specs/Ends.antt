-- The ends of a link by their addresses.
use Rattle.std.specs.Prelude.{ℕ, Bool, false, ◌==◌, if◌then◌else◌, List, [], ◌∷◌, Option, Some, None, option_map}
use Rattle.capture_file.specs.Packets.{Packet}
use Rattle.link_replay.specs.declared.lines.End.{End}
use Rattle.link_replay.specs.declared.lines.End.TheVariants.{A, B}
use Rattle.mrp_frames.specs.Frames.{frame_in}
use Rattle.replay_words.specs.declared.ends.Ends.{Ends}

-- whether an address is this one, where it is known
abbrev pub is_address : ℕ → Option ℕ → Bool
is_address address None = false
is_address address (Some known) = address == known

-- the end of which an address is
abbrev pub end_at : Ends → ℕ → Option End
end_at ends address = if is_address address ends.a then Some A else (if is_address address ends.b then Some B else None)

-- the source address of a frame of MRP
abbrev pub address_of : Packet → Option ℕ
address_of p = option_map (λ seen. seen.address) (frame_in p)

-- an address, where it isn't a known one
abbrev pub unless_known : Option ℕ → Option ℕ → Option ℕ
unless_known known None = None
unless_known known (Some address) = if is_address address known then None else Some address

-- the first of two that is there
abbrev pub first_of : Option ℕ → Option ℕ → Option ℕ
first_of None other = other
first_of (Some address) other = Some address

-- the first source address of some frames of MRP that isn't a known one
abbrev pub first_but : Option ℕ → List Packet → Option ℕ
first_but known [] = None
first_but known (p ∷ ps) = first_of (unless_known known (address_of p)) (first_but known ps)

-- the first two source addresses that differ
abbrev pub first_ends : List Packet → Ends
first_ends ps = record { a = first_but None ps; b = first_but (first_but None ps) ps }

-- the ends that the head gives, or else those that speak first
abbrev pub ends_of : Option (ℕ × ℕ) → List Packet → Ends
ends_of (Some x) ps = record { a = Some x.0; b = Some x.1 }
ends_of None ps = first_ends ps
