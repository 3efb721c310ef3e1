-- Repeats: what their moves are when one is put behind them, and when they are written out.
use Rattle.std.proofs.Common.{◌≡◌, ℕ, suc, zero, ◌+◌, ◌-◌, ◌≤◌, List, [], ◌∷◌, ◌++◌, length, append-nil, append_assoc, replicate, refl, sym, ap, ◌∙◌, arith}
use Rattle.fk_model.specs.declared.moves.Move.{Move}
use Rattle.fk_history.specs.declared.repeats.Repeat.{Repeat}
use Rattle.fk_history.specs.Repeats.{moves_in}

-- one more behind them
pub moves_more : (rs : List Repeat) (r : Repeat) → moves_in (rs ++ r ∷ []) ≡ moves_in rs ++ replicate r.times r.m
moves_more [] r = append-nil (replicate r.times r.m)
moves_more (s ∷ rs) r = ap (λ l. replicate s.times s.m ++ l) (moves_more rs r) ∙ sym (append_assoc (replicate s.times s.m) (moves_in rs) (replicate r.times r.m))

pub long_replicate : {X : Type 0} (n : ℕ) (x : X) → length (replicate n x) ≡ n
long_replicate zero x = refl
long_replicate (suc n) x = ap suc (long_replicate n x)

-- so many and then so many of the same
pub replicate_more : {X : Type 0} (n k : ℕ) (x : X) → replicate (n + k) x ≡ replicate n x ++ replicate k x
replicate_more zero k x =
    let none : zero + k ≡ k = omega arith in
    ap (λ m. replicate m x) none
replicate_more (suc n) k x =
    let more : suc n + k ≡ suc (n + k) = omega arith in
    ap (λ m. replicate m x) more ∙ ap (λ l. x ∷ l) (replicate_more n k x)

-- some are put, and the others are left
pub some_more : (rs new : List Repeat) (n left : ℕ) (m : Move) → new ≡ rs ++ record { m = m; times = n } ∷ [] → n ≤ left →
    moves_in new ++ replicate (left - n) m ≡ moves_in rs ++ replicate left m
some_more rs new n left m is few =
    let all : n + (left - n) ≡ left = omega (arith, few) in
    ap (λ l. moves_in l ++ replicate (left - n) m) is ∙ ap (λ l. l ++ replicate (left - n) m) (moves_more rs (record { m = m; times = n }))
    ∙ append_assoc (moves_in rs) (replicate n m) (replicate (left - n) m)
    ∙ ap (λ l. moves_in rs ++ l) (sym (replicate_more n (left - n) m) ∙ ap (λ k. replicate k m) all)

snoc-replicate : {X : Type 0} (n : ℕ) (x : X) → replicate n x ++ x ∷ [] ≡ replicate (suc n) x
snoc-replicate zero x = refl
snoc-replicate (suc n) x = ap (λ l. x ∷ l) (snoc-replicate n x)

-- one after the other is pushed
pub pushed_more : {X : Type 0} (old now new : List X) (n : ℕ) (x : X) → now ≡ old ++ replicate n x → new ≡ now ++ x ∷ [] → new ≡ old ++ replicate (n + 1) x
pushed_more old now new n x so_far is =
    let more : suc n ≡ n + 1 = omega arith in
    is ∙ ap (λ l. l ++ x ∷ []) so_far ∙ append_assoc old (replicate n x) (x ∷ []) ∙ ap (λ l. old ++ l) (snoc-replicate n x)
    ∙ ap (λ k. old ++ replicate k x) more

-- of the last move there are more
pub same_more : (rs : List Repeat) (n k : ℕ) (last m : Move) (moves : List Move) → last ≡ m → moves_in rs ++ replicate n last ≡ moves →
    moves_in rs ++ replicate (n + k) last ≡ moves ++ replicate k m
same_more rs n k last m moves same is = ap (λ l. moves_in rs ++ l) (replicate_more n k last) ∙ sym (append_assoc (moves_in rs) (replicate n last) (replicate k last))
    ∙ ap (λ l. l ++ replicate k last) is ∙ ap (λ x. moves ++ replicate k x) same

-- the last one is put behind the others, and then there is another
pub other_more : (rs more : List Repeat) (n k : ℕ) (last m : Move) (moves : List Move) → moves_in more ≡ moves_in rs ++ replicate n last →
    moves_in rs ++ replicate n last ≡ moves → moves_in more ++ replicate k m ≡ moves ++ replicate k m
other_more rs more n k last m moves put is = ap (λ l. l ++ replicate k m) (put ∙ is)
