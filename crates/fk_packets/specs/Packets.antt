-- The one spelling of each packet, and what bytes say from left to right. A tag comes first; numbers are little-endian.
use Rattle.std.specs.Prelude.{◌≡◌, ℕ, ◌^◌, ◌==◌, ◌&&◌, Bool, true, nat_lt, not, List, [], ◌∷◌, ◌++◌, length, take, drop, Result, Ok, if◌then◌else◌}
use Rattle.std.specs.Int.{w16, w64, to_le_bytes}
use Rattle.fk_finish.specs.declared.place.Place.{Place}
use Rattle.fk_image.specs.declared.format.reasons.reason.TheConstants as reasons
use Rattle.fk_image.specs.declared.format.stop.Stop.{Stop}
use Rattle.fk_image.specs.Format.Fields.{◌>>=◌, refuse_field, expect, read_byte, read_number}
use Rattle.fk_packets.specs.declared.packet.TheConstants.{PIECE_BYTES}
use Rattle.fk_packets.specs.declared.packet.Why.{Why}
use Rattle.fk_packets.specs.declared.packet.Why.TheVariants.{Dead, Foreign, Occupied, NoPort, GaveUp}
use Rattle.fk_packets.specs.declared.packet.Packet.{Packet}
use Rattle.fk_packets.specs.declared.packet.Packet.TheVariants.{Piece, Ready, Refused, Gone, Cancel}

-- ---- spelling

-- a path goes up to the end
abbrev pub why_bytes : Why → List ℕ
why_bytes Dead = 1 ∷ []
why_bytes (Foreign place) = 2 ∷ place.field ∷ place.path
why_bytes Occupied = 3 ∷ []
why_bytes (NoPort port) = 4 ∷ port ∷ []
why_bytes GaveUp = 5 ∷ []

-- the bytes of a packet
abbrev pub packet_bytes : Packet → List ℕ
packet_bytes (Piece number total bytes len) = 1 ∷ (to_le_bytes w64 number ++ (to_le_bytes w64 total ++ (to_le_bytes w16 len ++ bytes)))
packet_bytes Ready = 2 ∷ []
packet_bytes (Refused why) = 3 ∷ why_bytes why
packet_bytes Gone = 4 ∷ []
packet_bytes Cancel = 5 ∷ []

-- the numbers of a piece are words, and no more of its bytes count than there are
abbrev pub fits_packet : Packet → Bool
fits_packet (Piece number total bytes len) = nat_lt number (2 ^ 64) && (nat_lt total (2 ^ 64) && (not (nat_lt PIECE_BYTES len) && length bytes == PIECE_BYTES))
fits_packet other = true

-- bytes are those of a packet whose numbers are in range
pub record SpellsPacket (bytes : List ℕ) (p : Packet) : Type 0 where
  pub fits : fits_packet p ≡ true
  pub spelled : bytes ≡ packet_bytes p

-- ---- reading: a part and the bytes behind it, or the fault of the first bad field

abbrev pub read_block : List ℕ → Result (List ℕ × List ℕ) Stop
read_block bytes = if nat_lt (length bytes) PIECE_BYTES then refuse_field bytes reasons.CUT else Ok (take PIECE_BYTES bytes, drop PIECE_BYTES bytes)

unfoldable pub read_piece : List ℕ → Result (Packet × List ℕ) Stop
read_piece bytes = do
  number ← read_number w64 bytes
  total ← read_number w64 number.1
  len ← read_number w16 total.1
  _ ← expect (not (nat_lt PIECE_BYTES len.0)) total.1 reasons.RANGE
  block ← read_block len.1
  Ok (Piece number.0 total.0 block.0 len.0, block.1)

unfoldable pub read_place : List ℕ → Result Place Stop
read_place bytes = do
  field ← read_byte bytes
  Ok (record { path = field.1; field = field.0 })

unfoldable pub read_why : List ℕ → Result (Why × List ℕ) Stop
read_why bytes = do
  tag ← read_byte bytes
  if tag.0 == 1 then Ok (Dead, tag.1)
      else if tag.0 == 2 then (do
        place ← read_place tag.1
        Ok (Foreign place, []))
      else if tag.0 == 3 then Ok (Occupied, tag.1)
      else if tag.0 == 4 then (do
        port ← read_byte tag.1
        Ok (NoPort port.0, port.1))
      else if tag.0 == 5 then Ok (GaveUp, tag.1)
      else refuse_field bytes reasons.RANGE

unfoldable pub read_front : List ℕ → Result (Packet × List ℕ) Stop
read_front bytes = do
  tag ← read_byte bytes
  if tag.0 == 1 then read_piece tag.1
      else if tag.0 == 2 then Ok (Ready, tag.1)
      else if tag.0 == 3 then (do
        why ← read_why tag.1
        Ok (Refused why.0, why.1))
      else if tag.0 == 4 then Ok (Gone, tag.1)
      else if tag.0 == 5 then Ok (Cancel, tag.1)
      else refuse_field bytes reasons.RANGE

abbrev pub all_of : Packet → List ℕ → Result Packet Stop
all_of p [] = Ok p
all_of p (b ∷ rest) = refuse_field (b ∷ rest) reasons.LEFT_OVER

-- what bytes are read as: a packet, or their first bad field
unfoldable pub read_packet : List ℕ → Result Packet Stop
read_packet bytes = read_front bytes >>= λ x. all_of x.0 x.1
