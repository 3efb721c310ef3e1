-- LinkLaws: what a write of a link is for the neighbours of all nodes.
use Rattle.std.proofs.Common.{◌≡◌, ◌≢◌, ℕ, ◌<◌, ◌≤◌, Bool, true, false, cond, ◌==◌, ltb, List, [], ◌∷◌, ◌++◌, length, get_or, set, refl, ap, ◌∙◌}
use Rattle.std.proofs.Common.{arith, length-append}
use Rattle.std.proofs.lemmas.Bool.Decides.{nat_tests}
use Rattle.std.proofs.lemmas.List.{get_or_past, get_or_default, get_or_append_left, get_or-set_same, get_or-set_other}
use Rattle.std.proofs.Math.Seq.{get_or-append_seam}
use Rattle.fk_store_graph.specs.declared.links.links.Link.{Link}
use Rattle.fk_store_graph.specs.Links.Rings.{put_at}
use Rattle.fk_store_graph.specs.Links.Links.{alone, next_at, prev_at}

-- a link that is written is at its node, all others are as they were
module _ (links : List Link) (n : ℕ) (l : Link) (within : n < length links) where
  link-set : (m : ℕ) → get_or (set links n l) m (alone m) ≡ cond (m == n) l (get_or links m (alone m))
  link-set m = by (m == n) refl
    where
      by : (b : Bool) → (m == n) ≡ b → get_or (set links n l) m (alone m) ≡ cond b l (get_or links m (alone m))
      by true e = let same : m ≡ n = grind (arith, nat_tests) in rw same (get_or-set_same links n l (alone n) within)
      by false e = let apart : m ≢ n = grind (arith, nat_tests) in get_or-set_other links n m l (alone m) apart

  pub next-set : (m : ℕ) → next_at (set links n l) m ≡ put_at (next_at links) n l.next m
  unfolding next_at
  next-set m = ap (λ (x : Link). x.next) (link-set m) ∙ by (m == n)
    where
      by : (b : Bool) → (cond b l (get_or links m (alone m))).next ≡ cond b l.next (get_or links m (alone m)).next
      by true = refl
      by false = refl

  pub prev-set : (m : ℕ) → prev_at (set links n l) m ≡ put_at (prev_at links) n l.prev m
  unfolding prev_at
  prev-set m = ap (λ (x : Link). x.prev) (link-set m) ∙ by (m == n)
    where
      by : (b : Bool) → (cond b l (get_or links m (alone m))).prev ≡ cond b l.prev (get_or links m (alone m)).prev
      by true = refl
      by false = refl

-- the link that code reads at a node
pub next-read : (links : List Link) (n : ℕ) (l : Link) → n < length links → l ≡ get_or links n l → l.next ≡ next_at links n
unfolding next_at
next-read links n l within e = ap (λ (x : Link). x.next) (e ∙ get_or_default links n l (alone n) within)

pub prev-read : (links : List Link) (n : ℕ) (l : Link) → n < length links → l ≡ get_or links n l → l.prev ≡ prev_at links n
unfolding prev_at
prev-read links n l within e = ap (λ (x : Link). x.prev) (e ∙ get_or_default links n l (alone n) within)

put_same : (f : ℕ → ℕ) (n m : ℕ) → put_at f n (f n) m ≡ f m
put_same f n m = by (m == n) refl
  where
    by : (b : Bool) → (m == n) ≡ b → cond b (f n) (f m) ≡ f m
    by true e = let same : m ≡ n = grind (arith, nat_tests) in rw same refl
    by false e = refl

-- a node that comes to the end alone
push-link : (links : List Link) (n m : ℕ) → n ≡ length links → get_or (links ++ alone n ∷ []) m (alone m) ≡ get_or links m (alone m)
push-link links n m e = by (ltb m (length links)) refl (m == length links) refl
  where
    by : (b : Bool) → ltb m (length links) ≡ b → (c : Bool) → (m == length links) ≡ c → get_or (links ++ alone n ∷ []) m (alone m) ≡ get_or links m (alone m)
    by true f c g = let low : m < length links = grind (arith, nat_tests) in get_or_append_left links (alone n ∷ []) (alone m) m low
    by false f true g =
        let same : m ≡ length links = grind (arith, nat_tests) in
        rw (
          same,
          e,
          get_or-append_seam links (alone (length links)) [] (alone (length links)),
          get_or_past links (length links) (alone (length links))
              (omega arith),
        ) refl
    by false f false g =
        let low : length links ≤ m = grind (arith, nat_tests) in
        let past : length (links ++ alone n ∷ []) ≤ m = simp length-append (grind (arith, nat_tests)) in
        rw (get_or_past (links ++ alone n ∷ []) m (alone m) past, get_or_past links m (alone m) low) refl

pub next-push : (links : List Link) (n m : ℕ) → n ≡ length links → next_at (links ++ alone n ∷ []) m ≡ next_at links m
unfolding next_at
next-push links n m e = ap (λ (x : Link). x.next) (push-link links n m e)

pub prev-push : (links : List Link) (n m : ℕ) → n ≡ length links → prev_at (links ++ alone n ∷ []) m ≡ prev_at links m
unfolding prev_at
prev-push links n m e = ap (λ (x : Link). x.prev) (push-link links n m e)

-- a write of one side of the link that is there
pub prev-kept : (links : List Link) (n to : ℕ) (l : Link) → n < length links → l ≡ get_or links n l →
    (m : ℕ) → prev_at (set links n (record { next = to; prev = l.prev })) m ≡ prev_at links m
prev-kept links n to l within e m = prev-set links n _ within m ∙ rw (prev-read links n l within e) (put_same (prev_at links) n m)

pub next-kept : (links : List Link) (n to : ℕ) (l : Link) → n < length links → l ≡ get_or links n l →
    (m : ℕ) → next_at (set links n (record { next = l.next; prev = to })) m ≡ next_at links m
next-kept links n to l within e m = next-set links n _ within m ∙ rw (next-read links n l within e) (put_same (next_at links) n m)
