-- FrozenLaws: a mark comes or goes.
use Rattle.std.proofs.Common.{◌≡◌, ◌≢◌, ℕ, zero, suc, ◌+◌, ◌-◌, ◌<◌, ◌≤◌, ◌==◌, ltb, Bool, true, false, cond, List, [], ◌∷◌, ◌++◌, length, get_or, set, refl, sym, ap, ◌∙◌, arith, length-append}
use Rattle.std.proofs.lemmas.Bool.Decides.{nat_tests}
use Rattle.std.proofs.lemmas.List.{get_or_past, get_or_default, get_or_append_left, get_or-set_same, get_or-set_other}
use Rattle.std.proofs.Math.Seq.{get_or-append_seam}
use Rattle.fk_store.specs.Holds.Frozen.{mark_at, marked, unmarked}

pub mark_root : (marks : List Bool) (n : ℕ) → n ≡ 0 → false ≡ mark_at marks n
unfolding mark_at
mark_root marks n is = let root : (n == 0) ≡ true = grind (arith, nat_tests) in rw root refl

off_root : (n : ℕ) → n ≢ 0 → (n == 0) ≡ false
off_root n apart = grind (arith, nat_tests)

pub mark_read : (marks : List Bool) (n : ℕ) (b : Bool) → n ≢ 0 → n - 1 < length marks → b ≡ get_or marks (n - 1) b → b ≡ mark_at marks n
unfolding mark_at
mark_read marks n b apart low is = is ∙ get_or_default marks (n - 1) b true low ∙ sym (rw (off_root n apart) refl)

pub mark_past : (marks : List Bool) (n : ℕ) → n ≢ 0 → length marks ≤ n - 1 → true ≡ mark_at marks n
unfolding mark_at
mark_past marks n apart past = sym (rw (off_root n apart) (get_or_past marks (n - 1) true past))

more : (marks : List Bool) (i : ℕ) → get_or (marks ++ true ∷ []) i true ≡ get_or marks i true
more marks i = by (ltb i (length marks)) refl (i == length marks) refl
  where
    by : (b : Bool) → ltb i (length marks) ≡ b → (c : Bool) → (i == length marks) ≡ c → get_or (marks ++ true ∷ []) i true ≡ get_or marks i true
    by true e c f = let low : i < length marks = grind (arith, nat_tests) in get_or_append_left marks (true ∷ []) true i low
    by false e true f = let same : i ≡ length marks = grind (arith, nat_tests) in
        rw (same, get_or-append_seam marks true [] true, get_or_past marks (length marks) true (omega arith)) refl
    by false e false f =
        let low : length marks ≤ i = grind (arith, nat_tests) in
        let past : length (marks ++ true ∷ []) ≤ i = simp length-append (grind (arith, nat_tests)) in
        rw (get_or_past (marks ++ true ∷ []) i true past, get_or_past marks i true low) refl

pub mark_more : (marks : List Bool) (n : ℕ) → mark_at (marks ++ true ∷ []) n ≡ mark_at marks n
unfolding mark_at
mark_more marks n = ap (λ b. cond (n == 0) false b) (more marks (n - 1))

-- whether there was room for it or not
pub mark_pushed : (marks : List Bool) (is : Bool) (n : ℕ) → mark_at (cond is (marks ++ true ∷ []) marks) n ≡ mark_at marks n
mark_pushed marks true n = mark_more marks n
mark_pushed marks false n = refl

-- one mark is written
module _ (marks : List Bool) (space : ℕ) (b : Bool) (apart : space ≢ 0) (low : space - 1 < length marks) where
  pub mark_set : (n : ℕ) → mark_at (set marks (space - 1) b) n ≡ cond (n == space) b (mark_at marks n)
  unfolding mark_at
  mark_set n = by (n == 0) refl (n == space) refl
    where
      by : (z : Bool) → (n == 0) ≡ z → (c : Bool) → (n == space) ≡ c →
          cond z false (get_or (set marks (space - 1) b) (n - 1) true) ≡ cond c b (cond z false (get_or marks (n - 1) true))
      by true e true f = absurd (grind (arith, nat_tests))
      by true e false f = refl
      by false e true f = let same : n ≡ space = grind (arith, nat_tests) in rw same (get_or-set_same marks (space - 1) b true low)
      by false e false f =
          let off : n - 1 ≢ space - 1 = grind (arith, nat_tests) in
          get_or-set_other marks (space - 1) (n - 1) b true off

-- ---- how many

pub fewer_marked : (marks : List Bool) (i : ℕ) → get_or marks i false ≡ true → marked (set marks i false) < marked marks
unfolding marked
fewer_marked [] i h = absurd (cc)
fewer_marked (true ∷ marks) zero h = omega arith
fewer_marked (false ∷ marks) zero h = absurd (cc)
fewer_marked (true ∷ marks) (suc i) h = let less = fewer_marked marks i h in omega (arith, less)
fewer_marked (false ∷ marks) (suc i) h = fewer_marked marks i h

pub fewer_unmarked : (marks : List Bool) (i : ℕ) → get_or marks i true ≡ false → unmarked (set marks i true) < unmarked marks
unfolding unmarked
fewer_unmarked [] i h = absurd (cc)
fewer_unmarked (false ∷ marks) zero h = omega arith
fewer_unmarked (true ∷ marks) zero h = absurd (cc)
fewer_unmarked (false ∷ marks) (suc i) h = let less = fewer_unmarked marks i h in omega (arith, less)
fewer_unmarked (true ∷ marks) (suc i) h = fewer_unmarked marks i h

-- what isn't marked has room
pub room_of : (marks : List Bool) (n : ℕ) → mark_at marks n ≡ false → n ≢ 0 → n - 1 < length marks
unfolding mark_at
room_of marks n off apart = by (ltb (n - 1) (length marks)) refl
  where
    by : (b : Bool) → ltb (n - 1) (length marks) ≡ b → n - 1 < length marks
    by true e = grind (arith, nat_tests)
    by false e =
        let past : length marks ≤ n - 1 = grind (arith, nat_tests) in
        let on = mark_past marks n apart past in
        let both = on ∙ off in absurd (cc)

-- what is marked is, whoever asks
pub marked_already : (marks : List Bool) (space n : ℕ) → mark_at marks space ≡ true → mark_at marks n ≡ cond (n == space) true (mark_at marks n)
marked_already marks space n on = by (n == space) refl
  where
    by : (b : Bool) → (n == space) ≡ b → mark_at marks n ≡ cond b true (mark_at marks n)
    by false e = refl
    by true e = let is : n ≡ space = grind (arith, nat_tests) in ap (mark_at marks) is ∙ on

pub off_below : (marks : List Bool) (n : ℕ) → mark_at marks n ≡ false → n ≢ 0 → get_or marks (n - 1) true ≡ false
unfolding mark_at
off_below marks n off apart = sym (ap (λ b. cond b false (get_or marks (n - 1) true)) (off_root n apart)) ∙ off

-- all other marks stay where one is written
pub set_others : (marks : List Bool) (space : ℕ) (b : Bool) → space ≢ 0 → space - 1 < length marks → (n : ℕ) → n ≢ space → mark_at (set marks (space - 1) b) n ≡ mark_at marks n
set_others marks space b apart low n off = mark_set marks space b apart low n ∙ (let other : (n == space) ≡ false = grind (arith, nat_tests) in ap (λ t. cond t b (mark_at marks n)) other)

-- one that is taken away isn't there
pub cleared_less : (marks : List Bool) (space : ℕ) → space ≢ 0 → space - 1 < length marks → mark_at (set marks (space - 1) false) space ≡ true → mark_at marks space ≡ true
cleared_less marks space apart low on =
    let here : (space == space) ≡ true = grind (arith, nat_tests) in
    let off = mark_set marks space false apart low space ∙ ap (λ t. cond t false (mark_at marks space)) here in
    let both = sym on ∙ off in absurd (cc)

-- what is read as a mark
pub read_on : (marks : List Bool) (i : ℕ) (b : Bool) → i < length marks → b ≡ get_or marks i b → b ≡ true → get_or marks i false ≡ true
read_on marks i b low is on = sym (is ∙ get_or_default marks i b false low) ∙ on
