-- Broadcasts: waking up slot by slot those who slept when it began.
use Rattle.std.proofs.Common.{◌≡◌, ℕ, ◌+◌, ◌<◌, ◌≤◌, zero, suc, ◌++◌, append-nil, add-one, arith, Bool, true, false, eqb, ◌&&◌, List, [], ◌∷◌, Option}
use Rattle.std.proofs.Common.{Some, None, refl, sym, ap, subst, ◌∙◌}
use Rattle.std.proofs.lemmas.Bool.{eqb-true}
use Rattle.std.specs.List.{flat_map}
use Rattle.fk_model.specs.Places.{Path, same_path}
use Rattle.fk_model.specs.Searches.{slots}
use Rattle.fk_model.specs.SyncRows as rows
use Rattle.fk_model.specs.SyncRows.{woken}
use Rattle.fk_model.specs.World.{World, Change, apply, apply_all}
use Rattle.fk_changes.proofs.InThreads.SleeperLaws.{wakes_at, last_slot}

apply_all-append : (a b : List Change) (w : World) → apply_all (a ++ b) w ≡ apply_all b (apply_all a w)
unfolding apply_all
apply_all-append [] b w = refl
apply_all-append (c ∷ a) b w = apply_all-append a b (apply c w)

-- up to a slot, and then in it
abbrev woken_by : World → Path → ℕ → ℕ → World → World
woken_by w s c n v = apply_all (flat_map (wakes_at w s c) (slots n)) v

one_more : (w v : World) (s : Path) (c n : ℕ) → woken_by w s c (suc n) v ≡ apply_all (wakes_at w s c n) (woken_by w s c n v)
one_more w v s c n = rw (last_slot w s c n, append-nil (wakes_at w s c n)) (apply_all-append (flat_map (wakes_at w s c) (slots n)) (wakes_at w s c n) v)

apart : (s : Path) (n k : ℕ) → n < k → same_path (k ∷ s) (n ∷ s) ≡ false
unfolding same_path
apart s n k low = by (eqb k n) refl
  where
    by : (b : Bool) → eqb k n ≡ b → (b && same_path s s) ≡ false
    by true same = let is : k ≡ n = eqb-true _ _ same in absurd (omega arith)
    by false other = refl

elsewhere : (v : World) (s : Path) (n k : ℕ) (o : Option ℕ) → n < k → (apply_all (woken (n ∷ s) o) v).body (k ∷ s) ≡ v.body (k ∷ s)
unfolding apply apply_all
elsewhere v s n k None low = refl
elsewhere v s n k (Some m) low = rw (apart s n k low) refl

-- whoever is yet to come stays till then
beyond : (w v : World) (s : Path) (c n k : ℕ) → n ≤ k → (woken_by w s c n v).body (k ∷ s) ≡ v.body (k ∷ s)
unfolding slots apply_all
beyond w v s c zero k low = refl
beyond w v s c (suc n) k low =
    ap (λ (u : World). u.body (k ∷ s)) (one_more w v s c n) ∙ elsewhere (woken_by w s c n v) s n k _ (omega arith) ∙ beyond w v s c n k (omega arith)

pub none_woken : (w : World) (s : Path) (c : ℕ) → w ≡ apply_all (flat_map (wakes_at w s c) (slots 0)) w
unfolding slots apply_all
none_woken w s c = refl

pub more_woken : (w v u : World) (s : Path) (c n : ℕ) → v ≡ apply_all (flat_map (wakes_at w s c) (slots n)) w →
    u ≡ apply_all (woken (n ∷ s) (rows.asleep_on c (v.body (n ∷ s)))) v → u ≡ apply_all (flat_map (wakes_at w s c) (slots (n + 1))) w
more_woken w v u s c n so_far is =
    let still : v.body (n ∷ s) ≡ w.body (n ∷ s) = ap (λ (v : World). v.body (n ∷ s)) so_far ∙ beyond w w s c n n (omega arith) in
    is ∙ ap (λ b. apply_all (woken (n ∷ s) (rows.asleep_on c b)) v) still ∙ ap (λ v. apply_all (wakes_at w s c n) v) so_far
    ∙ sym (one_more w w s c n) ∙ ap (λ n. woken_by w s c n w) (sym (add-one n))

pub all_woken : (w v : World) (s : Path) (c n : ℕ) → v ≡ apply_all (flat_map (wakes_at w s c) (slots n)) w → n ≡ 256 → v ≡ apply_all (rows.sleepers w s c) w
unfolding rows.sleepers
all_woken w v s c n so_far end = subst (λ n. v ≡ apply_all (flat_map (wakes_at w s c) (slots n)) w) end so_far
