-- The clients of all talks at a port are found alike in a likeness, those outside left out.
use Rattle.std.proofs.Common.{◌≡◌, ℕ, zero, suc, ◌+◌, ◌<◌, ◌≤◌, Bool, true, false, cond, List, [], ◌∷◌, ◌++◌, length, filter, flat_map, Option, Some, None}
use Rattle.std.proofs.Common.{is_some, ◌⊎◌, inl, inr, refl, sym, ap, subst, ◌∙◌, arith, append_assoc, append-nil, length-append}
use Rattle.std.proofs.lemmas.Bool.{cases_lt}
use Rattle.std.proofs.lemmas.Grind.{flat_map-append}
use Rattle.std.proofs.lemmas.List.Elements.{filter-append}
use Rattle.fk_model.specs.declared.limits.TheConstants.{SLOTS}
use Rattle.fk_model.specs.Places.{Path, strip, is_within, Ptr, leads_to}
use Rattle.fk_model.specs.Objects.{Talk, holds}
use Rattle.fk_model.specs.World.{World}
use Rattle.fk_model.specs.Searches.{slots, residents, depth, beneath_by, beneath, talk_at, clients_at}
use Rattle.fk_model.specs.Valid.{IsConsistent, IsRooted}
use Rattle.laws_subtrees.specs.Cut.Likeness.{IsLikeness, AlikeOptions, IsSeenTalk}
use Rattle.fk_model.proofs.walks.PlaceLaws.{strip_some}
use Rattle.fk_model.proofs.walks.WalkLaws.{live_above, short}
use Rattle.laws_subtrees.proofs.InCut.likeness.Memory.{root_space}
use Rattle.laws_subtrees.proofs.InCut.likeness.Holds.{leads_to-like}
use Rattle.laws_subtrees.proofs.InCut.likeness.Talks.{talk_at-like}
use Rattle.laws_subtrees.proofs.InCut.likeness.Walks.{residents-like, is_taken-like}

-- ---- paths

-- two ways up to one space come through one slot of it
one_slot : (p c s : Path) (k i : ℕ) → p ++ k ∷ s ≡ c ++ i ∷ s → k ≡ i
one_slot [] [] s k i e = cc
one_slot [] (j ∷ c) s k i e = absurd (omega (arith, ap length e, length-append c (i ∷ s)))
one_slot (h ∷ p) [] s k i e = absurd (omega (arith, ap length e, length-append p (k ∷ s)))
one_slot (h ∷ p) (j ∷ c) s k i e = let rest : p ++ k ∷ s ≡ c ++ i ∷ s = cc e in one_slot p c s k i rest

-- the outermost slot of a path
outer_slot : (k : ℕ) (q s : Path) → (a : Path) × (i : ℕ) × (k ∷ (q ++ s) ≡ a ++ i ∷ s)
outer_slot k [] s = ([], k, refl)
outer_slot k (j ∷ q) s = let below = outer_slot j q s in (k ∷ below.0, below.1, ap (λ (x : Path). k ∷ x) below.2)

-- what lies through another slot of a space lies outside
other_slot : (root a s : Path) (k i : ℕ) → root ≡ a ++ i ∷ s → (k ≡ i → ⊥) → (p : Path) → is_within root (p ++ k ∷ s) ≡ false
other_slot root a s k i is other p = by (strip root (p ++ k ∷ s)) refl
  where
    by : (o : Option Path) → strip root (p ++ k ∷ s) ≡ o → is_some o ≡ false
    by None e = refl
    by (Some b) e =
        absurd (other (one_slot p (b ++ a) s k i (strip_some root (p ++ k ∷ s) b e ∙ ap (λ (y : Path). b ++ y) is ∙ sym (append_assoc b a (i ∷ s)))))

-- and so does what lies above
above_out : (root a x : Path) (j : ℕ) → root ≡ j ∷ (a ++ x) → is_within root x ≡ false
above_out root a x j is = by (strip root x) refl
  where
    by : (o : Option Path) → strip root x ≡ o → is_some o ≡ false
    by None e = refl
    by (Some b) e = absurd (omega (arith, ap length is, length-append a x, ap length (strip_some root x b e), length-append b root))

split_sum : (a b : ℕ) → a ≤ b → (c : ℕ) × (b ≡ c + a)
split_sum zero b h = (b, omega arith)
split_sum (suc a) zero h = absurd (omega (arith, h))
split_sum (suc a) (suc b) h = let rest = split_sum a b (omega (arith, h)) in (rest.0, omega (arith, rest.1))

-- ---- a walk that has come to everything comes no further

filter_none : {A : Type 0} (test : A → Bool) (xs : List A) → ((x : A) → test x ≡ false) → filter test xs ≡ []
filter_none test [] off = refl
filter_none test (x ∷ xs) off = rw (off x) (filter_none test xs off)

no_residents : (w : World) (s : Path) → ((k : ℕ) → is_some (w.body (k ∷ s)) ≡ false) → residents w s ≡ []
unfolding residents
no_residents w s off = filter_none (λ k. is_some (w.body (k ∷ s))) (slots SLOTS) off

walk_ends : (n : ℕ) (w : World) (s : Path) →
    ((p : Path) (k : ℕ) → is_some (w.body (k ∷ (p ++ s))) ≡ true → length p < n) → (m : ℕ) → n ≤ m → beneath_by m w s ≡ beneath_by n w s
unfolding beneath_by
walk_ends zero w s few zero h = refl
walk_ends zero w s few (suc m) h = rw (no_residents w s (λ k. off k (is_some (w.body (k ∷ s))) refl)) refl
  where
    off : (k : ℕ) (b : Bool) → is_some (w.body (k ∷ s)) ≡ b → b ≡ false
    off k false e = refl
    off k true e = absurd (omega (arith, few [] k e))
walk_ends (suc n) w s few zero h = absurd (omega (arith, h))
walk_ends (suc n) w s few (suc m) h =
    ap (λ (go : ℕ → List Path). flat_map (λ k. (k ∷ s) ∷ go k) (residents w s))
    (λ i k. walk_ends n w (k ∷ s) (λ p j live. inner k p j live) m (omega (arith, h)) i)
  where
    inner : (k : ℕ) (p : Path) (j : ℕ) → is_some (w.body (j ∷ (p ++ k ∷ s))) ≡ true → length p < n
    inner k p j live =
        omega (arith, few (p ++ k ∷ []) j (ap (λ (y : Path). is_some (w.body (j ∷ y))) (append_assoc p (k ∷ []) s) ∙ live), length-append p (k ∷ []))

-- ---- lists of the same paths, those outside left out

pub data Thinned (root : Path) : List Path → List Path → Type 0 where
  Nobody : Thinned root [] []
  Inner : (k : ℕ) (q : Path) {xs ys : List Path} → Thinned root xs ys → Thinned root ((k ∷ q) ∷ xs) ((k ∷ (q ++ root)) ∷ ys)
  Outer : (x : Path) {xs ys : List Path} → is_within root x ≡ false → Thinned root xs ys → Thinned root xs (x ∷ ys)

thin_append : {root : Path} {xs ys us vs : List Path} → Thinned root xs ys → Thinned root us vs → Thinned root (xs ++ us) (ys ++ vs)
thin_append Nobody h = h
thin_append (Inner k q rest) h = Inner k q (thin_append rest h)
thin_append (Outer x out rest) h = Outer x out (thin_append rest h)

-- of what passes a test
module _ (root : Path) (far : Path → Bool) where
  thin_out : (x : Path) (us ys : List Path) → is_within root x ≡ false → Thinned root us (filter far ys) → Thinned root us (filter far (x ∷ ys))
  thin_out x us ys out h = by (far x)
    where
      by : (b : Bool) → Thinned root us (cond b (x ∷ filter far ys) (filter far ys))
      by true = Outer x out h
      by false = h

  thin_both : (us vs ys zs : List Path) → Thinned root us (filter far ys) → Thinned root vs (filter far zs) → Thinned root (us ++ vs) (filter far (ys ++ zs))
  thin_both us vs ys zs h g = rw (filter-append far ys zs) (thin_append h g)

  -- all of these lie outside but those through one slot
  module _ (go : ℕ → List Path) (live : ℕ → Bool) (i : ℕ) (xs : List Path)
      (on : live i ≡ true) (others : (k : ℕ) → (k ≡ i → ⊥) → Thinned root [] (filter far (go k))) (here : Thinned root xs (filter far (go i))) where
    slot_list : List ℕ → List Path
    slot_list ks = filter far (flat_map go (filter live ks))

    last_other : (n : ℕ) → (n ≡ i → ⊥) → Thinned root [] (filter far (flat_map go (filter live (n ∷ []))))
    last_other n other = by (live n)
      where
        by : (b : Bool) → Thinned root [] (filter far (flat_map go (cond b (n ∷ []) [])))
        by true = rw (append-nil (go n)) (others n other)
        by false = Nobody

    last_same : (n : ℕ) → i ≡ n → Thinned root xs (filter far (flat_map go (filter live (n ∷ []))))
    last_same n same = rw (← same, on, append-nil (go i)) here

    joined : (us vs : List Path) (n : ℕ) → Thinned root us (filter far (flat_map go (filter live (slots n)))) →
        Thinned root vs (filter far (flat_map go (filter live (n ∷ [])))) → Thinned root (us ++ vs) (filter far (flat_map go (filter live (slots n ++ n ∷ []))))
    joined us vs n h g = rw (filter-append live (slots n) (n ∷ []), flat_map-append go (filter live (slots n)) (filter live (n ∷ []))) (thin_both us vs _ _ h g)

    no_slot : (n : ℕ) → n ≤ i → Thinned root [] (filter far (flat_map go (filter live (slots n))))
    unfolding slots
    no_slot zero h = Nobody
    no_slot (suc n) h = joined [] [] n (no_slot n (omega (arith, h))) (last_other n (λ e. omega (arith, h, e)))

    in_slot : (n : ℕ) → i < n → Thinned root xs (filter far (flat_map go (filter live (slots n))))
    unfolding slots
    in_slot zero h = absurd (omega (arith, h))
    in_slot (suc n) h = by (in_slot n) (cases_lt i n)
      where
        by : (i < n → Thinned root xs (filter far (flat_map go (filter live (slots n))))) →
            (i < n) ⊎ (n ≤ i) → Thinned root xs (filter far (flat_map go (filter live (slots n ++ n ∷ []))))
        by rest (inl below) = subst (λ (us : List Path). Thinned root us (filter far (flat_map go (filter live (slots n ++ n ∷ [])))))
            (append-nil xs) (joined xs [] n (rest below) (last_other n (λ e. omega (arith, below, e))))
        by rest (inr top) = joined [] xs n (no_slot n top) (last_same n (omega (arith, h, top)))

-- ---- two tests that agree inside, of which the second fails at the root

module _ {root : Path} {see : Ptr → Ptr} {small big : World}
    (like : IsLikeness root see small big) (near far : Path → Bool) (same : (k : ℕ) (q : Path) → near (k ∷ q) ≡ far (k ∷ (q ++ root))) where
  thin_in : (k : ℕ) (q : Path) (us vs ys zs : List Path) → Thinned root (filter near us) (filter far ys) →
      Thinned root (filter near vs) (filter far zs) → Thinned root (filter near ((k ∷ q) ∷ (us ++ vs))) (filter far ((k ∷ (q ++ root)) ∷ (ys ++ zs)))
  thin_in k q us vs ys zs h g = rw (same k q) (by (far (k ∷ (q ++ root))) (rw (filter-append near us vs, filter-append far ys zs) (thin_append h g)))
    where
      by : (b : Bool) → Thinned root (filter near (us ++ vs)) (filter far (ys ++ zs)) → Thinned root
          (cond b ((k ∷ q) ∷ filter near (us ++ vs)) (filter near (us ++ vs))) (cond b ((k ∷ (q ++ root)) ∷ filter far (ys ++ zs)) (filter far (ys ++ zs)))
      by true rest = Inner k q rest
      by false rest = rest

  -- beneath a space inside
  pub thin_beneath : (n : ℕ) (q : Path) → Thinned root (filter near (beneath_by n small q)) (filter far (beneath_by n big (q ++ root)))
  unfolding beneath_by
  thin_beneath zero q = Nobody
  thin_beneath (suc n) q = rw (← residents-like like q) (by (λ k. thin_beneath n (k ∷ q)) (residents small q))
    where
      by : ((k : ℕ) → Thinned root (filter near (beneath_by n small (k ∷ q))) (filter far (beneath_by n big (k ∷ (q ++ root))))) → (ks : List ℕ) →
          Thinned root (filter near (flat_map (λ k. (k ∷ q) ∷ beneath_by n small (k ∷ q)) ks))
          (filter far (flat_map (λ k. (k ∷ (q ++ root)) ∷ beneath_by n big (k ∷ (q ++ root))) ks))
      by below [] = Nobody
      by below (k ∷ ks) = thin_in k q (beneath_by n small (k ∷ q)) _ (beneath_by n big (k ∷ (q ++ root))) _ (below k) (by below ks)

  -- at and beneath an object outside that isn't above the root
  thin_outside : (n : ℕ) (s : Path) (k : ℕ) →
      ((p : Path) → is_within root (p ++ k ∷ s) ≡ false) → Thinned root [] (filter far ((k ∷ s) ∷ beneath_by n big (k ∷ s)))
  unfolding beneath_by
  thin_outside zero s k apart = thin_out root far (k ∷ s) [] [] (apart []) Nobody
  thin_outside (suc n) s k apart =
      thin_out root far (k ∷ s) [] _ (apart [])
      (by (λ j. thin_outside n (k ∷ s) j (λ p. ap (is_within root) (sym (append_assoc p (j ∷ []) (k ∷ s))) ∙ apart (p ++ j ∷ []))) (residents big (k ∷ s)))
    where
      by : ((j : ℕ) → Thinned root [] (filter far ((j ∷ k ∷ s) ∷ beneath_by n big (j ∷ k ∷ s)))) →
          (js : List ℕ) → Thinned root [] (filter far (flat_map (λ j. (j ∷ k ∷ s) ∷ beneath_by n big (j ∷ k ∷ s)) js))
      by below [] = Nobody
      by below (j ∷ js) = thin_both root far [] [] ((j ∷ k ∷ s) ∷ beneath_by n big (j ∷ k ∷ s)) _ (below j) (by below js)

  -- from a space above the root
  module _ (at_root : far root ≡ false)
      (on_way : (a : Path) (i : ℕ) (s : Path) → root ≡ a ++ i ∷ s → (is_some (big.body (i ∷ s)) ≡ true) × (i < SLOTS)) (m : ℕ) where
    thin_step : (a : Path) (i : ℕ) (s : Path) (ys : List Path) → root ≡ a ++ i ∷ s →
        Thinned root (filter near (beneath_by m small [])) (filter far ys) → Thinned root (filter near (beneath_by m small [])) (filter far ((i ∷ s) ∷ ys))
    thin_step [] i s ys is h = rw (ap far (sym is) ∙ at_root) h
    thin_step (j ∷ a) i s ys is h = thin_out root far (i ∷ s) _ ys (above_out root a (i ∷ s) j is) h

    pub thin_way : (n : ℕ) (s p : Path) →
        root ≡ p ++ s → n ≡ length p + m → Thinned root (filter near (beneath_by m small [])) (filter far (beneath_by n big s))
    unfolding beneath_by residents
    thin_way n s [] is long = let same : n ≡ m = omega (arith, long) in
        rw same (subst (λ (y : Path). Thinned root (filter near (beneath_by m small [])) (filter far (beneath_by m big y))) is (thin_beneath m []))
    thin_way zero s (j ∷ p) is long = absurd (omega (arith, long))
    thin_way (suc n) s (j ∷ p) is long =
        let outer = outer_slot j p s in
        let a : Path = outer.0 in
        let i : ℕ = outer.1 in
        let way : root ≡ a ++ i ∷ s = is ∙ outer.2 in
        let there = on_way a i s way in
        let rest = thin_way n (i ∷ s) a way (omega (arith, long, ap length outer.2, length-append p s, length-append a (i ∷ s))) in
        in_slot root far (λ k. (k ∷ s) ∷ beneath_by n big (k ∷ s)) (λ k. is_some (big.body (k ∷ s))) i (filter near (beneath_by m small [])) there.0
        (λ k other. thin_outside n s k (other_slot root a s k i way other))
        (thin_step a i s (beneath_by n big (i ∷ s)) way rest) SLOTS there.1

-- ---- who has a talk at a port

abbrev is_client : World → Path → Path → Bool
is_client w port c = holds (λ (talk : Talk). leads_to port talk.port) (talk_at w c)

module _ {root : Path} {see : Ptr → Ptr} {small big : World} (like : IsLikeness root see small big) (port : Path) where
  client_alike : (k : ℕ) (q : Path) → is_client small port (k ∷ q) ≡ is_client big (port ++ root) (k ∷ (q ++ root))
  client_alike k q = by (talk_at small (k ∷ q)) (talk_at big (k ∷ (q ++ root))) (talk_at-like like (k ∷ q))
    where
      by : (o p : Option Talk) → AlikeOptions (IsSeenTalk root see big) o p →
          holds (λ (talk : Talk). leads_to port talk.port) o ≡ holds (λ (talk : Talk). leads_to (port ++ root) talk.port) p
      by None None h = refl
      by (Some seen) (Some talk) h = rw h.0 (leads_to-like root big port talk.port (see talk.port) h.1.0)
      by None (Some talk) h = absurd h
      by (Some seen) None h = absurd h

  client_root : is_client big (port ++ root) root ≡ false
  client_root = rw (root_space like).2 refl

  -- in a valid world, while birth numbers are below 2^32
  module _ (valid : IsConsistent big) (rooted : IsRooted big) (few : big.next ≤ depth) where
    live_root : is_some (big.body root) ≡ true
    live_root = rw (root_space like).2 refl

    live_on : (a x : Path) → is_some (big.body (a ++ x)) ≡ true → is_some (big.body x) ≡ true
    live_on [] x live = live
    live_on (k ∷ a) x live = live_on a x (live_above big valid k (a ++ x) live)

    on_way : (a : Path) (i : ℕ) (s : Path) → root ≡ a ++ i ∷ s → (is_some (big.body (i ∷ s)) ≡ true) × (i < SLOTS)
    on_way a i s is = let live = live_on a (i ∷ s) (ap (λ (y : Path). is_some (big.body y)) (sym is) ∙ live_root) in (live, rooted.slots i s live)

    inside_short : (m : ℕ) → depth ≡ m + length root → (p : Path) (k : ℕ) → is_some (small.body (k ∷ (p ++ []))) ≡ true → length p < m
    inside_short m long p k live =
        let there : is_some (big.body (k ∷ (p ++ root))) ≡ true = sym (is_taken-like like (k ∷ p))
        ∙ ap (λ (y : Path). is_some (small.body (k ∷ y))) (sym (append-nil p)) ∙ live in
        omega (arith, few, long, short big valid (k ∷ (p ++ root)) there, length-append p root)

    pub clients_thinned : Thinned root (clients_at small port) (clients_at big (port ++ root))
    unfolding clients_at beneath
    clients_thinned =
        let rest = split_sum (length root) depth (omega (arith, few, short big valid root live_root)) in
        let m : ℕ = rest.0 in
        subst (λ (xs : List Path). Thinned root (filter (is_client small port) xs) (filter (is_client big (port ++ root)) (beneath_by depth big [])))
        (sym (walk_ends m small [] (inside_short m rest.1) depth (omega (arith, rest.1))))
        (thin_way like (is_client small port)
        (is_client big (port ++ root)) client_alike client_root on_way m depth [] root (sym (append-nil root)) (omega (arith, rest.1)))

-- of a world that is all inside
pub clients_inside : {see : Ptr → Ptr} {small big : World} →
    IsLikeness [] see small big → (port : Path) → Thinned [] (clients_at small port) (clients_at big (port ++ []))
unfolding clients_at beneath
clients_inside {small = small} {big = big} like port = thin_beneath like (is_client small port) (is_client big (port ++ [])) (client_alike like port) depth []
