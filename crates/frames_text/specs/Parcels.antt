-- Packets that are to be sent, as the lines of a text.
use Rattle.std.specs.Prelude.{◌≤◌, ℕ, ◌+◌, ◌==◌, ◌&&◌, not, nat_le, if◌then◌else◌, List, [], ◌∷◌, length, Option, Some, None, option_map, Result}
use Rattle.text_rows.specs.Rows.{rows_read}
use Rattle.wire_format.specs.Packets.{reading}
use Rattle.wire_format.specs.declared.packet.Packet.{Packet}
use Rattle.wire_fragments.specs.Runs.{Cut}
use Rattle.frames_text.specs.Digits.{bytes_from}
use Rattle.frames_text.specs.declared.parcel.Parcel.{Parcel}

-- the packet's bytes and its two ends, where these are different kernels of the first so many
abbrev pub parcel_between : ℕ → List ℕ → ℕ → ℕ → Option Parcel
parcel_between kernels bytes from to =
    if not (from == to) && (nat_le from kernels && nat_le to kernels) then Some (record { from = from; to = to; bytes = bytes }) else None

abbrev pub parcel_by : ℕ → List ℕ → Option (ℕ × ℕ) → Option Parcel
parcel_by kernels bytes (Some ends) = parcel_between kernels bytes ends.0 ends.1
parcel_by kernels bytes None = None

-- the ends of the packet that these bytes spell
abbrev pub ends_of : Option Packet → Option (ℕ × ℕ)
ends_of packet = option_map (λ (p : Packet). (p.from, p.to)) packet

abbrev pub parcel_in : ℕ → Option (List ℕ) → Option Parcel
parcel_in kernels (Some bytes) = parcel_by kernels bytes (ends_of (reading bytes))
parcel_in kernels None = None

-- the packet that a line spells in hexadecimal
abbrev pub parcel_of : ℕ → List ℕ → Option Parcel
parcel_of kernels line = parcel_in kernels (bytes_from None line)

-- the packet of the line of that number, of which there may be so many as a message may have frames
abbrev pub parcel_at : ℕ → ℕ → List ℕ → Option Parcel
parcel_at kernels number line = if nat_le number 65535 then parcel_of kernels line else None

-- the packets of the lines, of which the first has that number; or the number of the first that is none
abbrev pub parcels_read : ℕ → ℕ → List (List ℕ) → Result (List Parcel) ℕ
parcels_read kernels number lines = rows_read (parcel_at kernels) number lines

-- its ends are kernels, and its bytes can be cut
pub record IsParcel (p : Parcel) : Type 0 where
  pub from_is : (1 ≤ p.from) × (p.from ≤ 16)
  pub to_is : (1 ≤ p.to) × (p.to ≤ 16)
  pub short : length p.bytes ≤ 97516080

-- the packet as a message of that number
abbrev pub cut_of : ℕ → Parcel → Cut
cut_of id p = record { name = record { from = p.from; to = p.to; id = id }; message = p.bytes }

-- the packets as messages, with the numbers from that one on
abbrev pub cuts_from : ℕ → List Parcel → List Cut
cuts_from id [] = []
cuts_from id (p ∷ ps) = cut_of id p ∷ cuts_from (id + 1) ps
