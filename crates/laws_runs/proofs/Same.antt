-- A history has one run: what comes of it is determined.
use Rattle.std.proofs.Common.{◌≡◌, ℕ, arith, nat_le, List, [], ◌∷◌, ◌++◌, length, Some, None, refl, sym, ap, subst, if◌then◌else◌, length-append}
use Rattle.fk_model.specs.declared.moves.Move.{Move}
use Rattle.laws_runs.specs.Cores.{House, Core, Unmoved, current, moved, EndsNow, with_end, Settles, IsRun, world_at}
use Rattle.laws_runs.specs.Cores.Unmoved.{NoImage, Dead}
use Rattle.laws_runs.specs.Cores.Settles.{Stays, Ends}
use Rattle.laws_runs.specs.Cores.IsRun.{Begins, Goes}
use Rattle.laws_runs.specs.Composed.{OneRun}

empty_or_not : {A : Type 0} (xs : List A) (x : A) → [] ≡ xs ++ x ∷ [] → ⊥
empty_or_not xs x e = omega (arith, ap length e, length-append xs (x ∷ []))

snoc : {A : Type 0} (xs ys : List A) (x y : A) → xs ++ x ∷ [] ≡ ys ++ y ∷ [] → (xs ≡ ys) × (x ≡ y)
snoc [] [] x y e = (refl, (let same : x ≡ y = cc in same))
snoc [] (z ∷ ys) x y e = (let rest : [] ≡ ys ++ y ∷ [] = cc in absurd (empty_or_not ys y rest))
snoc (z ∷ xs) [] x y e = (let rest : [] ≡ xs ++ x ∷ [] = cc in absurd (empty_or_not xs x rest))
snoc (z ∷ xs) (u ∷ ys) x y e =
    let first : z ≡ u = cc in
    let rest : xs ++ x ∷ [] ≡ ys ++ y ∷ [] = cc in
    let both = snoc xs ys x y rest in
    ((λ i. first i ∷ both.0 i), both.1)

module _ {J S A V : Type 0} (h : House J S A V) where
  cannot : (c : Core S A V) (j k : J) (s : S) → current h c ≡ Some j → current h c ≡ Some k → h.begins j c.ends ≡ None → h.begins k c.ends ≡ Some s → ⊥
  cannot c j k s one two none some =
      let same : j ≡ k = cc in
      let there : h.begins k c.ends ≡ None = subst (λ i. h.begins i c.ends ≡ None) same none in
      cc

  why_same : (c : Core S A V) (why other : Unmoved) → EndsNow h c why → EndsNow h c other → why ≡ other
  why_same c NoImage NoImage a b = refl
  why_same c Dead Dead a b = refl
  why_same c NoImage Dead a b = absurd (cannot c a.job b.job b.ends.0 a.its b.its a.ends b.ends.1)
  why_same c Dead NoImage a b = absurd (cannot c b.job a.job a.ends.0 b.its a.its b.ends a.ends.1)

  settles_same : (a d b e : Core S A V) → Settles h a d → Settles h b e → a ≡ b → d ≡ e
  settles_same _ _ _ _ (Stays a none) (Stays b no_more) same = same
  settles_same _ _ _ _ (Stays a none) (Ends b e why now rest) same = absurd (none why (subst (λ c. EndsNow h c why) (sym same) now))
  settles_same _ _ _ _ (Ends a d why now rest) (Stays b none) same = absurd (none why (subst (λ c. EndsNow h c why) same now))
  settles_same _ _ _ _ (Ends a d why now rest) (Ends b e other then_now more) same =
      let one = why_same b why other (subst (λ c. EndsNow h c why) same now) then_now in
      settles_same (with_end a why) d (with_end b other) e rest more (λ i. with_end (same i) (one i))

  module _ (first : Core S A V) where
    core_same : (p q : List Move) (c d : Core S A V) → IsRun h first p c → IsRun h first q d → p ≡ q → c ≡ d
    core_same _ _ _ _ Begins Begins same = refl
    core_same _ _ _ _ Begins (Goes past c m d run ready settles) same = absurd (empty_or_not past m same)
    core_same _ _ _ _ (Goes past c m d run ready settles) Begins same = absurd (empty_or_not past m (sym same))
    core_same _ _ _ _ (Goes past c m d run ready settles) (Goes later e n f other may ends) same =
        let both = snoc past later m n same in
        let before = core_same past later c e run other both.0 in
        settles_same (moved h c m) d (moved h e n) f settles ends (λ i. moved h (before i) (both.1 i))

    -- and so is the world after each of its moves
    world_same : (p q : List Move) (c d : Core S A V) (run : IsRun h first p c) (other : IsRun h first q d) → p ≡ q → (k : ℕ)
        → world_at run k ≡ world_at other k
    world_same _ _ _ _ Begins Begins same k = refl
    world_same _ _ _ _ Begins (Goes past c m d run ready settles) same k = absurd (empty_or_not past m same)
    world_same _ _ _ _ (Goes past c m d run ready settles) Begins same k = absurd (empty_or_not past m (sym same))
    world_same _ _ _ _ (Goes past c m d run ready settles) (Goes later e n f other may ends) same k =
        let both = snoc past later m n same in
        let at_end = core_same (past ++ m ∷ []) (later ++ n ∷ []) d f (Goes past c m d run ready settles) (Goes later e n f other may ends) same in
        let before = world_same past later c e run other both.0 k in
        λ i. (if nat_le k (length (both.0 i)) then before i else (at_end i).world)

pub one_run : {J S A V : Type 0} → OneRun J S A V
one_run h first c d past run other = (core_same h first past past c d run other refl, world_same h first past past c d run other refl)
