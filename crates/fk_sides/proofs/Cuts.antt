-- The pieces of bytes, by their numbers.
use Rattle.std.proofs.Common.{◌≡◌, ℕ, zero, suc, ◌+◌, ◌-◌, ◌*◌, ◌<◌, ◌≤◌, List, [], ◌∷◌, ◌++◌, length, length-drop, take, drop, map, min}
use Rattle.std.proofs.Common.{Option, Some, None, option_map, refl, sym, ap, ◌∙◌, arith}
use Rattle.std.specs.List.{slice_get}
use Rattle.std.proofs.Common.{replicate}
use Rattle.std.proofs.lemmas.List.{take_min, take_all, length-take, drop-replicate}
use Rattle.std.proofs.lemmas.Option.{slice_get_past}
use Rattle.laws_handover.specs.Packets.{Packet}
use Rattle.laws_handover.specs.Packets.Packet.{Piece as PieceOf}
use Rattle.laws_migrate.specs.Migration.{Why}
use Rattle.laws_handover.specs.Pieces.{Piece, SIZE, blocks_by, blocks, piece, numbered, pieces}

abbrev a_piece : Piece → Option Piece
a_piece p = Some p

abbrev a_block : List ℕ → Option (List ℕ)
a_block b = Some b

numbered_at : (number total : ℕ) (bs : List (List ℕ)) (n : ℕ)
    → slice_get (numbered number total bs) n ≡ option_map (piece (number + n) total) (slice_get bs n)
numbered_at number total [] n = refl
numbered_at number total (b ∷ bs) zero = ap (λ (k : ℕ). a_piece (piece k total b)) (let same : number ≡ number + 0 = omega arith in same)
numbered_at number total (b ∷ bs) (suc n) =
    numbered_at (suc number) total bs n
    ∙ ap (λ (k : ℕ). option_map (piece k total) (slice_get bs n)) (let same : suc number + n ≡ number + suc n = omega arith in same)

numbered_long : (number total : ℕ) (bs : List (List ℕ)) → length (numbered number total bs) ≡ length bs
numbered_long number total [] = refl
numbered_long number total (b ∷ bs) = ap suc (numbered_long (suc number) total bs)

drop_none : (n : ℕ) → drop {A = ℕ} n [] ≡ []
drop_none zero = refl
drop_none (suc n) = refl

drop_more : (a b : ℕ) (xs : List ℕ) → drop a (drop b xs) ≡ drop (b + a) xs
drop_more a zero xs = ap (λ (n : ℕ). drop n xs) (let same : a ≡ zero + a = omega arith in same)
drop_more a (suc b) [] = drop_none a ∙ sym (drop_none (suc b + a))
drop_more a (suc b) (x ∷ xs) = drop_more a b xs ∙ ap (λ (n : ℕ). drop n (x ∷ xs)) (let same : suc (b + a) ≡ suc b + a = omega arith in same)

block_at : (fuel : ℕ) (bytes : List ℕ) (n : ℕ) → length bytes ≤ fuel → SIZE * n < length bytes
    → slice_get (blocks_by fuel bytes) n ≡ Some (take SIZE (drop (SIZE * n) bytes))
unfolding blocks_by
block_at zero bytes n few lt = absurd (omega (arith, few, lt))
block_at (suc fuel) [] n few lt = absurd (omega (arith, lt))
block_at (suc fuel) (b ∷ bytes) zero few lt =
    ap (λ (k : ℕ). a_block (take SIZE (drop k (b ∷ bytes)))) (let none : 0 ≡ SIZE * 0 = omega arith in none)
block_at (suc fuel) (b ∷ bytes) (suc n) few lt =
    let long : length (drop SIZE (b ∷ bytes)) ≡ length (b ∷ bytes) - SIZE = length-drop SIZE (b ∷ bytes) in
    let on : SIZE + SIZE * n ≡ SIZE * suc n = omega arith in
    block_at fuel (drop SIZE (b ∷ bytes)) n (omega (arith, long, few)) (omega (arith, long, lt))
    ∙ ap (λ (zs : List ℕ). a_block (take SIZE zs)) (drop_more (SIZE * n) SIZE (b ∷ bytes) ∙ ap (λ (k : ℕ). drop k (b ∷ bytes)) on)

blocks_long : (fuel : ℕ) (bytes : List ℕ) (t : ℕ) → length bytes ≤ fuel → length bytes ≤ SIZE * t → SIZE * t < length bytes + SIZE
    → length (blocks_by fuel bytes) ≡ t
unfolding blocks_by
blocks_long zero [] t few enough least = let none : 0 ≡ t = omega (arith, least) in none
blocks_long zero (b ∷ bytes) t few enough least = absurd (omega (arith, few))
blocks_long (suc fuel) [] t few enough least = let none : 0 ≡ t = omega (arith, least) in none
blocks_long (suc fuel) (b ∷ bytes) zero few enough least = absurd (omega (arith, enough))
blocks_long (suc fuel) (b ∷ bytes) (suc t) few enough least =
    let long : length (drop SIZE (b ∷ bytes)) ≡ length (b ∷ bytes) - SIZE = length-drop SIZE (b ∷ bytes) in
    ap suc (blocks_long fuel (drop SIZE (b ∷ bytes)) t (omega (arith, long, few)) (omega (arith, long, enough)) (omega (arith, long, least)))

pub pieces_long : (bytes : List ℕ) (t : ℕ) → length bytes ≤ SIZE * t → SIZE * t < length bytes + SIZE → t ≡ length (pieces bytes)
pieces_long bytes t enough least =
    sym (numbered_long 0 (length (blocks bytes)) (blocks bytes) ∙ blocks_long (length bytes) bytes t (omega arith) enough least)

pub piece_at : (bytes : List ℕ) (t n : ℕ) → t ≡ length (pieces bytes) → SIZE * n < length bytes
    → slice_get (pieces bytes) n ≡ Some (piece n t (take SIZE (drop (SIZE * n) bytes)))
piece_at bytes t n total lt =
    let same : length (blocks bytes) ≡ t = sym (total ∙ numbered_long 0 (length (blocks bytes)) (blocks bytes)) in
    let here : 0 + n ≡ n = omega arith in
    numbered_at 0 (length (blocks bytes)) (blocks bytes) n
    ∙ ap (option_map (piece (0 + n) (length (blocks bytes)))) (block_at (length bytes) bytes n (omega arith) lt)
    ∙ (λ i. a_piece (piece (here i) (same i) (take SIZE (drop (SIZE * n) bytes))))

in_blocks : (fuel : ℕ) (bytes : List ℕ) (n : ℕ) → n < length (blocks_by fuel bytes) → SIZE * n < length bytes
unfolding blocks_by
in_blocks zero bytes n lt = absurd (omega (arith, lt))
in_blocks (suc fuel) [] n lt = absurd (omega (arith, lt))
in_blocks (suc fuel) (b ∷ bytes) zero lt = omega arith
in_blocks (suc fuel) (b ∷ bytes) (suc n) lt =
    let long : length (drop SIZE (b ∷ bytes)) ≡ length (b ∷ bytes) - SIZE = length-drop SIZE (b ∷ bytes) in
    let rest = in_blocks fuel (drop SIZE (b ∷ bytes)) n (omega (arith, lt)) in
    omega (arith, long, rest)

-- a piece lies within
pub within_bytes : (bytes : List ℕ) (n : ℕ) → n < length (pieces bytes) → SIZE * n < length bytes
within_bytes bytes n lt =
    let long = numbered_long 0 (length (blocks bytes)) (blocks bytes) in
    in_blocks (length bytes) bytes n (omega (arith, long, lt))

abbrev pub packet_is : Piece → Packet Piece Why
packet_is p = PieceOf p

abbrev some_packet : Packet Piece Why → Option (Packet Piece Why)
some_packet p = Some p

-- a packet that is made of the bytes from its place on is that of its number
pub piece_told : (bytes : List ℕ) (t n k : ℕ) (p : Packet Piece Why) → t ≡ length (pieces bytes) → n < t → k ≡ n * 512
    → p ≡ packet_is (piece n t (take 512 (drop k bytes))) → some_packet p ≡ option_map packet_is (slice_get (pieces bytes) n)
piece_told bytes t n k p total lt place is =
    let here : k ≡ SIZE * n = omega (arith, place) in
    ap some_packet (is ∙ ap (λ (j : ℕ). packet_is (piece n t (take 512 (drop j bytes)))) here)
    ∙ sym (ap (option_map packet_is) (piece_at bytes t n total (within_bytes bytes n (omega (arith, total, lt)))))

-- all that is left behind a place
pub rest_is : (bytes : List ℕ) (k : ℕ) → take (length bytes - k) (drop k bytes) ≡ drop k bytes
rest_is bytes k = let long : length (drop k bytes) ≡ length bytes - k = length-drop k bytes in take_all (length bytes - k) (drop k bytes) (omega (arith, long))

-- so many of them as count, of no more than there are
pub counted_so : (n k m : ℕ) (xs : List ℕ) → n ≡ m → length xs ≡ k → take (min n k) xs ≡ take m xs
counted_so n k m xs is long = ap (λ (j : ℕ). take (min j k) xs) is ∙ ap (λ (j : ℕ). take (min m j) xs) (sym long) ∙ take_min m xs

pub taken : (n : ℕ) (xs : List ℕ) → take (min (length xs) n) xs ≡ take n xs
taken n xs = let back : min (length xs) n ≡ min n (length xs) = omega arith in rw back (take_min n xs)

-- a piece as it is made: its bytes over zeros
pub piece_made : (number total n : ℕ) (rest : List ℕ) → n ≡ min (length rest) 512
    → packet_is (record { number = number; total = total; bytes = take n rest ++ drop n (replicate 512 0); len = n })
    ≡ packet_is (piece number total (take 512 rest))
piece_made number total n rest is =
    let block : take n rest ≡ take 512 rest = ap (λ (k : ℕ). take k rest) is ∙ taken 512 rest in
    let long : n ≡ length (take 512 rest) = (let many = length-take 512 rest in omega (arith, many, is)) in
    let zeros : drop n (replicate 512 0) ≡ replicate (512 - n) 0 = drop-replicate n 512 0 in
    (λ i. packet_is (record {
      number = number;
      total = total;
      bytes = block i ++ zeros i;
      len = n;
    })) ∙ ap (λ (k : ℕ). packet_is (record {
      number = number;
      total = total;
      bytes = take 512 rest ++ replicate (512 - k) 0;
      len = k;
    })) long

pub no_piece : (bytes : List ℕ) (n : ℕ) → length (pieces bytes) ≤ n → slice_get (pieces bytes) n ≡ None
no_piece bytes n past = slice_get_past (pieces bytes) n past

-- ---- places in a list with another behind it

module _ {A B : Type 0} (f : A → B) where
  pub before : (xs : List A) (ys : List B) (n : ℕ) → n < length xs → slice_get (map f xs ++ ys) n ≡ option_map f (slice_get xs n)
  before [] ys n lt = absurd (omega (arith, lt))
  before (x ∷ xs) ys zero lt = refl
  before (x ∷ xs) ys (suc n) lt = before xs ys n (omega (arith, lt))

  pub behind : (xs : List A) (ys : List B) (n : ℕ) → length xs ≤ n → slice_get (map f xs ++ ys) n ≡ slice_get ys (n - length xs)
  behind [] ys n le = ap (slice_get ys) (let same : n ≡ n - 0 = omega arith in same)
  behind (x ∷ xs) ys zero le = absurd (omega (arith, le))
  behind (x ∷ xs) ys (suc n) le =
      behind xs ys n (omega (arith, le)) ∙ ap (slice_get ys) (let same : n - length xs ≡ suc n - suc (length xs) = omega arith in same)
