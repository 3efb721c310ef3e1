-- A packet is read from its bytes, and bytes that are read are its bytes.
use Rattle.std.proofs.Common.{◌≡◌, ℕ, zero, suc, ◌^◌, Bool, true, false, cond, eqb, ltb, not, List, [], ◌∷◌, ◌++◌, length, take, drop, Result, Ok}
use Rattle.std.proofs.Common.{refl, sym, ap, subst, ◌∙◌, append_assoc, arith}
use Rattle.std.specs.Int.{w16, w64, to_le_bytes}
use Rattle.std.proofs.lemmas.Bool.{ltb-false, lt-ltb, le-ltb, eqb-true, eq-eqb, ne_eqb}
use Rattle.std.proofs.lemmas.List.{append-nil, take_at, drop_at, take-append-drop, length-take}
use Rattle.fk_finish.specs.declared.place.Place.{Place}
use Rattle.fk_image.specs.declared.format.stop.Stop.{Stop}
use Rattle.fk_image.specs.Format.Fields.{◌>>=◌, refuse_field, read_byte, read_number}
use Rattle.fk_image.proofs.InFormat.Basics.{both, and2, not_true, IsBytes, bind_ok, expect_ok, never, ok_is, wide16, wide64, number_takes, number_again}
use Rattle.fk_packets.specs.declared.packet.TheConstants.{PIECE_BYTES}
use Rattle.fk_packets.specs.declared.packet.Why.{Why}
use Rattle.fk_packets.specs.declared.packet.Why.TheVariants.{Dead, Foreign, Occupied, NoPort, GaveUp}
use Rattle.fk_packets.specs.declared.packet.Packet.{Packet}
use Rattle.fk_packets.specs.declared.packet.Packet.TheVariants.{Piece, Ready, Refused, Gone, Cancel}
use Rattle.fk_packets.specs.Packets.{why_bytes, packet_bytes, fits_packet, SpellsPacket, read_block, read_piece, read_place, read_why, read_front, all_of}
use Rattle.fk_packets.specs.Packets.{read_packet}

-- ---- what is spelled is read

block_again : (block : List ℕ) → length block ≡ PIECE_BYTES → read_block block ≡ Ok (block, [])
block_again block len =
    let long : ltb (length block) PIECE_BYTES ≡ false = le-ltb _ _ (omega (arith, len)) in
    let whole : (block ++ []) ≡ block = append-nil block in
    let front : take PIECE_BYTES block ≡ block = ap (take PIECE_BYTES) (sym whole) ∙ take_at block [] PIECE_BYTES len in
    let back : drop PIECE_BYTES block ≡ [] = ap (drop PIECE_BYTES) (sym whole) ∙ drop_at block [] PIECE_BYTES len in
    rw (long, front, back) refl

piece_again : (number total len : ℕ) (block : List ℕ) → fits_packet (Piece number total block len) ≡ true →
    read_piece (to_le_bytes w64 number ++ (to_le_bytes w64 total ++ (to_le_bytes w16 len ++ block))) ≡ Ok (Piece number total block len, [])
unfolding read_piece
piece_again number total len block fits =
    let a = and2 (ltb number (2 ^ 64)) _ fits in
    let b = and2 (ltb total (2 ^ 64)) _ a.1 in
    let c = and2 (not (ltb PIECE_BYTES len)) (eqb (length block) PIECE_BYTES) b.1 in
    let most = ltb-false PIECE_BYTES len (not_true _ c.0) in
    let half : ltb len (2 ^ 16) ≡ true = lt-ltb len (2 ^ 16) (omega (arith, most)) in
    rw (
      number_again w64 (2 ^ 64) wide64 number (to_le_bytes w64 total ++ (to_le_bytes w16 len ++ block)) a.0,
      number_again w64 (2 ^ 64) wide64 total (to_le_bytes w16 len ++ block) b.0,
      number_again w16 (2 ^ 16) wide16 len block half,
      c.0,
      block_again block (eqb-true _ _ c.1),
    ) refl

why_again : (why : Why) → read_why (why_bytes why) ≡ Ok (why, [])
unfolding read_why read_place
why_again Dead = refl
why_again (Foreign place) = refl
why_again Occupied = refl
why_again (NoPort port) = refl
why_again GaveUp = refl

front_again : (p : Packet) → fits_packet p ≡ true → read_front (packet_bytes p) ≡ Ok (p, [])
unfolding read_front
front_again (Piece number total bytes len) fits = piece_again number total len bytes fits
front_again Ready fits = refl
front_again (Refused why) fits = rw (why_again why) refl
front_again Gone fits = refl
front_again Cancel fits = refl

pub packet_again : (p : Packet) → fits_packet p ≡ true → read_packet (packet_bytes p) ≡ Ok p
unfolding read_packet
packet_again p fits = rw (front_again p fits) refl

-- ---- what is read is spelled so

abbrev done : {A : Type 0} → A → Result A Stop
done x = Ok x

-- a part that was read, with the bytes behind it
record Spelled {X : Type 0} (spell : X → List ℕ) (bytes : List ℕ) (x : X × List ℕ) : Type 0 where
  pub parts : bytes ≡ spell x.0 ++ x.1

spelled_as : {X : Type 0} (spell : X → List ℕ) (bytes : List ℕ) (x y : X × List ℕ) → done x ≡ done y → bytes ≡ spell x.0 ++ x.1 → Spelled spell bytes y
spelled_as spell bytes x y e parts = subst (λ z. Spelled spell bytes z) (ok_is x y e) (record { parts = parts })

kept_block : (bytes : List ℕ) (x : List ℕ × List ℕ) → read_block bytes ≡ Ok x → (bytes ≡ x.0 ++ x.1) × (length x.0 ≡ PIECE_BYTES)
kept_block bytes x e = by (ltb (length bytes) PIECE_BYTES) refl e
  where
    by : (t : Bool) → ltb (length bytes) PIECE_BYTES ≡ t
        → cond {A = Result (List ℕ × List ℕ) Stop} t (refuse_field bytes 3) (Ok (take PIECE_BYTES bytes, drop PIECE_BYTES bytes)) ≡ Ok x
        → (bytes ≡ x.0 ++ x.1) × (length x.0 ≡ PIECE_BYTES)
    by true h e = absurd (never bytes 3 x e)
    by false h e =
        let long = ltb-false (length bytes) PIECE_BYTES h in
        let len : length (take PIECE_BYTES bytes) ≡ PIECE_BYTES = omega (arith, long, length-take PIECE_BYTES bytes) in
        subst (λ (z : List ℕ × List ℕ). (bytes ≡ z.0 ++ z.1) × (length z.0 ≡ PIECE_BYTES)) (ok_is (take PIECE_BYTES bytes, drop PIECE_BYTES bytes) x e)
        (sym (take-append-drop PIECE_BYTES bytes), len)

record SpelledPacket (bytes : List ℕ) (x : Packet × List ℕ) : Type 0 where
  pub fits : fits_packet x.0 ≡ true
  pub parts : bytes ≡ packet_bytes x.0 ++ x.1

as_packet : (bytes : List ℕ) (x y : Packet × List ℕ) → done x ≡ done y → fits_packet x.0 ≡ true → bytes ≡ packet_bytes x.0 ++ x.1 → SpelledPacket bytes y
as_packet bytes x y e fits parts = subst (λ z. SpelledPacket bytes z) (ok_is x y e) (record { fits = fits; parts = parts })

piece_takes : (rest : List ℕ) (x : Packet × List ℕ) → IsBytes rest → read_piece rest ≡ Ok x → SpelledPacket (1 ∷ rest) x
unfolding read_piece
piece_takes rest x fits e =
    let a = bind_ok (read_number w64 rest) _ x e in
    let ta = number_takes w64 (2 ^ 64) wide64 rest a.0 fits a.1 in
    let b = bind_ok (read_number w64 a.0.1) _ x a.2 in
    let tb = number_takes w64 (2 ^ 64) wide64 a.0.1 b.0 ta.0.rest_fits b.1 in
    let c = bind_ok (read_number w16 b.0.1) _ x b.2 in
    let tc = number_takes w16 (2 ^ 16) wide16 b.0.1 c.0 tb.0.rest_fits c.1 in
    let d = expect_ok (not (ltb PIECE_BYTES c.0.0)) b.0.1 5 _ x c.2 in
    let f = bind_ok (read_block c.0.1) _ x d.1 in
    let tf = kept_block c.0.1 f.0 f.1 in
    let all : rest ≡ (to_le_bytes w64 a.0.0 ++ (to_le_bytes w64 b.0.0 ++ (to_le_bytes w16 c.0.0 ++ f.0.0))) ++ f.0.1 =
    ta.0.parts ∙ ap (λ (t : List ℕ). to_le_bytes w64 a.0.0 ++ t) (tb.0.parts ∙ ap (λ (t : List ℕ). to_le_bytes w64 b.0.0 ++ t)
    (tc.0.parts ∙ ap (λ (t : List ℕ). to_le_bytes w16 c.0.0 ++ t) tf.0 ∙ sym (append_assoc (to_le_bytes w16 c.0.0) f.0.0 f.0.1))
    ∙ sym (append_assoc (to_le_bytes w64 b.0.0) (to_le_bytes w16 c.0.0 ++ f.0.0) f.0.1))
    ∙ sym (append_assoc (to_le_bytes w64 a.0.0) (to_le_bytes w64 b.0.0 ++ (to_le_bytes w16 c.0.0 ++ f.0.0)) f.0.1) in
    as_packet (1 ∷ rest) (Piece a.0.0 b.0.0 f.0.0 c.0.0, f.0.1) x f.2
    (both _ _ ta.1 (both _ _ tb.1 (both _ _ d.0 (eq-eqb _ _ tf.1)))) (ap (λ (t : List ℕ). 1 ∷ t) all)

place_takes : (rest : List ℕ) (place : Place) → read_place rest ≡ Ok place → rest ≡ place.field ∷ place.path
unfolding read_place
place_takes [] place e = cc
place_takes (b ∷ rest) place e = subst (λ (z : Place). (b ∷ rest) ≡ z.field ∷ z.path) (ok_is (record { path = rest; field = b }) place e) refl

why_takes : (bytes : List ℕ) (x : Why × List ℕ) → read_why bytes ≡ Ok x → Spelled why_bytes bytes x
unfolding read_why
why_takes [] x e = cc
why_takes (tag ∷ rest) x e = by tag e
  where
    by : (tag : ℕ)
        → cond (eqb tag 1) (Ok (Dead, rest)) (cond (eqb tag 2) (read_place rest >>= λ place. Ok (Foreign place, []))
        (cond (eqb tag 3) (Ok (Occupied, rest)) (cond (eqb tag 4) (read_byte rest >>= λ port. Ok (NoPort port.0, port.1))
        (cond (eqb tag 5) (Ok (GaveUp, rest)) (refuse_field (tag ∷ rest) 5))))) ≡ Ok x
        → Spelled why_bytes (tag ∷ rest) x
    by (suc zero) e = spelled_as why_bytes (1 ∷ rest) (Dead, rest) x e refl
    by (suc (suc zero)) e =
        let a = bind_ok (read_place rest) _ x e in
        spelled_as why_bytes (2 ∷ rest) (Foreign a.0, []) x a.2
        (ap (λ (t : List ℕ). 2 ∷ t) (place_takes rest a.0 a.1 ∙ sym (append-nil (a.0.field ∷ a.0.path))))
    by (suc (suc (suc zero))) e = spelled_as why_bytes (3 ∷ rest) (Occupied, rest) x e refl
    by (suc (suc (suc (suc zero)))) e = port rest e
      where
        port : (rest : List ℕ) → (read_byte rest >>= λ port. Ok (NoPort port.0, port.1)) ≡ Ok x → Spelled why_bytes (4 ∷ rest) x
        port [] e = cc
        port (b ∷ rest) e = spelled_as why_bytes (4 ∷ b ∷ rest) (NoPort b, rest) x e refl
    by (suc (suc (suc (suc (suc zero))))) e = spelled_as why_bytes (5 ∷ rest) (GaveUp, rest) x e refl
    by zero e = absurd (never (0 ∷ rest) 5 x e)
    by (suc (suc (suc (suc (suc (suc k)))))) e =
        let n = suc (suc (suc (suc (suc (suc k))))) in
        absurd (never (n ∷ rest) 5 x (rw (
          ne_eqb n 1 (λ h. omega arith),
          ne_eqb n 2 (λ h. omega arith),
          ne_eqb n 3 (λ h. omega arith),
          ne_eqb n 4 (λ h. omega arith),
          ne_eqb n 5 (λ h. omega arith),
        ) at e))

front_takes : (bytes : List ℕ) (x : Packet × List ℕ) → IsBytes bytes → read_front bytes ≡ Ok x → SpelledPacket bytes x
unfolding read_front
front_takes [] x fits e = cc
front_takes (tag ∷ rest) x fits e = by tag e
  where
    by : (tag : ℕ)
        → cond (eqb tag 1) (read_piece rest) (cond (eqb tag 2) (Ok (Ready, rest))
        (cond (eqb tag 3) (read_why rest >>= λ why. Ok (Refused why.0, why.1)) (cond (eqb tag 4) (Ok (Gone, rest))
        (cond (eqb tag 5) (Ok (Cancel, rest)) (refuse_field (tag ∷ rest) 5))))) ≡ Ok x
        → SpelledPacket (tag ∷ rest) x
    by (suc zero) e = piece_takes rest x (λ i. fits (suc i)) e
    by (suc (suc zero)) e = as_packet (2 ∷ rest) (Ready, rest) x e refl refl
    by (suc (suc (suc zero))) e =
        let a = bind_ok (read_why rest) _ x e in
        let t = why_takes rest a.0 a.1 in
        as_packet (3 ∷ rest) (Refused a.0.0, a.0.1) x a.2 refl (ap (λ (t : List ℕ). 3 ∷ t) t.parts)
    by (suc (suc (suc (suc zero)))) e = as_packet (4 ∷ rest) (Gone, rest) x e refl refl
    by (suc (suc (suc (suc (suc zero))))) e = as_packet (5 ∷ rest) (Cancel, rest) x e refl refl
    by zero e = absurd (never (0 ∷ rest) 5 x e)
    by (suc (suc (suc (suc (suc (suc k)))))) e =
        let n = suc (suc (suc (suc (suc (suc k))))) in
        absurd (never (n ∷ rest) 5 x (rw (
          ne_eqb n 1 (λ h. omega arith),
          ne_eqb n 2 (λ h. omega arith),
          ne_eqb n 3 (λ h. omega arith),
          ne_eqb n 4 (λ h. omega arith),
          ne_eqb n 5 (λ h. omega arith),
        ) at e))

pub packet_takes : (bytes : List ℕ) (p : Packet) → IsBytes bytes → read_packet bytes ≡ Ok p → SpellsPacket bytes p
unfolding read_packet
packet_takes bytes p fits e =
    let a = bind_ok (read_front bytes) _ p e in
    let t = front_takes bytes a.0 fits a.1 in
    by a.0.0 a.0.1 a.2 t.fits t.parts
  where
    by : (q : Packet) (rest : List ℕ) → all_of q rest ≡ Ok p → fits_packet q ≡ true → bytes ≡ packet_bytes q ++ rest → SpellsPacket bytes p
    by q [] e fits parts = subst (λ (z : Packet). SpellsPacket bytes z) (ok_is q p e) (record { fits = fits; spelled = parts ∙ append-nil (packet_bytes q) })
    by q (b ∷ rest) e fits parts = absurd (never (b ∷ rest) 7 p e)

pub packet_from : (bytes : List ℕ) (p : Packet) → SpellsPacket bytes p → read_packet bytes ≡ Ok p
packet_from bytes p spells = ap read_packet spells.spelled ∙ packet_again p spells.fits

pub one_packet : (bytes : List ℕ) (p q : Packet) → SpellsPacket bytes p → SpellsPacket bytes q → p ≡ q
one_packet bytes p q first second = ok_is p q (sym (packet_from bytes p first) ∙ packet_from bytes q second)
