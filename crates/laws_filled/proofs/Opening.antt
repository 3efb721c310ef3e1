-- The opening is short: two calls for each page that was home, and one.
use Rattle.std.proofs.Common.{◌≡◌, ℕ, zero, suc, ◌+◌, ◌*◌, ◌<◌, ◌≤◌, Bool, true, false, cond, if◌then◌else◌, ◌&&◌, ◌==◌, nat_le, is_some, List, ◌∷◌, Option}
use Rattle.std.proofs.Common.{Some, None, refl, sym, ap, subst, ◌∙◌, arith, ◌⊎◌, inl, inr, eqb-true, eq-eqb}
use Rattle.std.proofs.lemmas.Bool.{cases_lt, ltb-true, ne_eqb}
use Rattle.fk_model.specs.declared.limits.TheConstants.{LAST_PORTER_SLOT, LAST_USER_SLOT}
use Rattle.fk_model.specs.declared.moves.Ask.TheVariants as asks
use Rattle.fk_model.specs.Places.{Path, same_path}
use Rattle.fk_model.specs.World.{World, apply, apply_all}
use Rattle.fk_model.specs.Outcomes.{Outcome}
use Rattle.fk_model.specs.Moves.{outcome, IsReady, stepped, step}
use Rattle.fk_model.specs.Runs.{after}
use Rattle.fk_model.proofs.walks.PlaceLaws.{same_path_refl}
use Rattle.laws_filled.specs.Pager.{spent_by, homes, spent_in, OpeningIsShort, stage_of, is_opening, IsPick, call_of, said_of, Desk, Phase, State, at_phase}
use Rattle.laws_filled.specs.Pager.{words_of, next, hears, no_words, IsGood, IsOpening, first}
use Rattle.laws_filled.specs.Pager.Phase.{Seeking, Taking, Waiting, Looking, Evicting, Giving, Ending}
use Rattle.laws_filled.specs.Pager.IsOpening.{Opened, Opens}
use Rattle.laws_filled.proofs.First.{first-good}
use Rattle.laws_filled.proofs.Own.{next_some, own}
use Rattle.laws_filled.proofs.Results.{is_call, next_result, take_result, NextResult, TakeResult}
use Rattle.laws_filled.proofs.Results.NextResult.{NoneLeft, Found}
use Rattle.laws_filled.proofs.Results.TakeResult.{TakeHeld, TakeBad, TakeGone, TookPage}

-- ---- a page that goes

abbrev one_if : Bool → ℕ
one_if b = if b then 1 else 0

abbrev bit : Option (List ℕ) → ℕ
bit o = one_if (is_some o)

module _ (w : World) (space : Path) (page : ℕ) where
  abbrev dropped : World
  dropped = record { body = w.body; page = λ s g. if same_path s space && g == page then None else w.page s g; next = w.next }

  at-other : (k : ℕ) → (k == page) ≡ false → dropped.page space k ≡ w.page space k
  at-other k e = by (same_path space space) (k == page) e
    where
      by : (m n : Bool) → n ≡ false → cond (m && n) None (w.page space k) ≡ w.page space k
      by true false e = refl
      by false false e = refl
      by m true e = cc

  at-page : dropped.page space page ≡ None
  at-page = by (same_path space space) (same_path_refl space) (page == page) (eq-eqb page page refl)
    where
      by : (m : Bool) → m ≡ true → (n : Bool) → n ≡ true → cond (m && n) None (w.page space page) ≡ None
      by true e true f = refl
      by false e n f = cc
      by true e false f = cc

  below : (k : ℕ) → k ≤ page → homes dropped space k ≡ homes w space k
  unfolding homes
  below zero less = refl
  below (suc k) less = rw (below k (omega (arith, less)), at-other k (ne_eqb k page (λ e. absurd (omega (arith, less, e))))) refl

  above : (k : ℕ) → page < k → is_some (w.page space page) ≡ true → homes dropped space k + 1 ≡ homes w space k
  unfolding homes
  above zero less home = absurd (omega (arith, less))
  above (suc k) less home = by (k == page) refl (cases_lt page k) (λ lower. above k lower home)
    where
      by : (b : Bool) → (k == page) ≡ b → (page < k) ⊎ (k ≤ page) → (page < k → homes dropped space k + 1 ≡ homes w space k) →
          (homes dropped space k + bit (dropped.page space k)) + 1 ≡ homes w space k + bit (w.page space k)
      by true e order rest =
          let same : k ≡ page = eqb-true k page e in
          let gone : bit (dropped.page space k) ≡ 0 = ap (λ (j : ℕ). bit (dropped.page space j)) same ∙ ap bit at-page in
          let there : bit (w.page space k) ≡ 1 = ap (λ (j : ℕ). bit (w.page space j)) same ∙ ap one_if home in
          let under = below k (omega (arith, same)) in omega (arith, gone, there, under)
      by false e (inl lower) rest = let other : bit (dropped.page space k) ≡ bit (w.page space k) = ap bit (at-other k e) in let under = rest lower in
          omega (arith, other, under)
      by false e (inr upper) rest = let same : (k == page) ≡ true = eq-eqb k page (omega (arith, upper, less)) in cc

module _ (d : Desk) (low : nat_le d.slot LAST_USER_SLOT ≡ true) (room : 1 ≤ d.room) where
  abbrev P : Path
  P = d.slot ∷ d.nester

  abbrev me : Path
  me = LAST_PORTER_SLOT ∷ d.nester

  -- what is left of the opening
  abbrev pub left : World → Phase → ℕ
  left w (Seeking from) = 2 * homes w P 256 + 1
  left w (Taking page) = 2 * homes w P 256
  left w other = 0

  -- the page that it takes is home
  abbrev pub IsThere : World → Phase → Type 0
  IsThere w (Taking page) = is_some (w.page P page) ≡ true
  IsThere w other = Unit {0}

  module _ (w : World) (s : State) where
    abbrev pub Spends : Phase → Outcome → Type 0
    Spends ph o = IsThere (stepped w o).world (hears d (at_phase s ph) (stepped w o).said).phase
        × (left (stepped w o).world (hears d (at_phase s ph) (stepped w o).said).phase + spent_by (stepped w o).said ≤ left w ph)

    seeks : (from : ℕ) (good : IsGood d w (at_phase s (Seeking from))) (o : Outcome) →
        NextResult d.nester d.slot low w no_words good.paging.there from o → Spends (Seeking from) o
    unfolding next apply_all
    seeks from good _ (NoneLeft none) = (tt, omega arith)
    seeks from good _ (Found page e) = ((next_some w P from page e).2, omega arith)

    takes : (page : ℕ) (good : IsGood d w (at_phase s (Taking page))) → is_some (w.page P page) ≡ true → (o : Outcome) →
        TakeResult d.nester d.slot low w no_words good.paging.there page o → Spends (Taking page) o
    unfolding next apply_all apply
    takes page good home _ TakeHeld = (home, omega arith)
    takes page good home _ (TakeBad e) = absurd (neither _ good.phase.3 e)
      where
        neither : (b : Bool) → b ≡ true → b ≡ false → ⊥
        neither b e f = cc
    takes page good home _ (TakeGone none) = absurd (none-home (w.page P page) none home)
      where
        none-home : (o : Option (List ℕ)) → o ≡ None → is_some o ≡ true → ⊥
        none-home None e h = cc
        none-home (Some words) e h = cc
    takes page good home _ (TookPage words has) = (tt, omega (arith, above w P page 256 (ltb-true page 256 good.phase.3) home))

    pub spends : (ph : Phase) (pick : Option Path) → IsGood d w (at_phase s ph) → is_opening ph ≡ true → IsThere w ph → IsPick d s w ph pick →
        IsReady w me pick (asks.Call (stage_of d ph) (words_of s ph)) → Spends ph (outcome w me pick (asks.Call (stage_of d ph) (words_of s ph)))
    spends (Seeking from) (Some y) good opening there picks ready = cc
    spends (Taking page) (Some y) good opening there picks ready = cc
    spends (Seeking from) None good opening there picks ready =
        subst (Spends (Seeking from)) (sym (is_call d.nester d.slot low w no_words None (stage_of d (Seeking from)) ready))
        (seeks from good _ (next_result d.nester d.slot low w no_words good.paging.there from))
    spends (Taking page) None good opening there picks ready =
        subst (Spends (Taking page)) (sym (is_call d.nester d.slot low w no_words None (stage_of d (Taking page)) ready))
        (takes page good there _ (take_result d.nester d.slot low w no_words good.paging.there page 0))
    spends Waiting pick good opening there picks ready = cc
    spends (Looking page) pick good opening there picks ready = cc
    spends (Evicting old page) pick good opening there picks ready = cc
    spends (Giving page) pick good opening there picks ready = cc
    spends (Ending page) pick good opening there picks ready = cc

  few : (w : World) (s : State) (v : World) (t : State) → IsGood d w s → IsThere w s.phase → (moves : IsOpening d w s v t) → spent_in moves ≤ left w s.phase
  unfolding step spent_in
  few w s _ _ good there (Opened _ _ opened) = omega arith
  few w s v t good there (Opens _ _ pick _ _ opening own_move rest) =
      let comes = own d low room w s s.phase pick good own_move.picks own_move.ready in
      let one = spends w s s.phase pick good opening there own_move.picks own_move.ready in
      let more = few (after w (call_of d s pick)) (hears d s (said_of w (call_of d s pick))) v t comes.1 one.0 rest in
      omega (arith, one.1, more)

pub opening_is_short_lem : OpeningIsShort
unfolding first
opening_is_short_lem d w v t low room is moves = few d low room w first v t (first-good d w is) tt moves
