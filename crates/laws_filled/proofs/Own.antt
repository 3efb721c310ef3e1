-- The pager's own moves leave the filled world, and what holds at each moment.
use Rattle.std.proofs.Common.{◌≡◌, ℕ, ◌+◌, ◌<◌, ◌≤◌, Bool, true, false, cond, ◌&&◌, ◌||◌, ◌==◌, nat_le, is_some, if◌then◌else◌, List, [], ◌∷◌, ◌++◌, drop}
use Rattle.std.proofs.Common.{length, length-append, unwrap_or, Option, Some, None, option_map, refl, sym, ap, subst, ◌∙◌, arith, ◌⊎◌, inl, inr, eqb-true}
use Rattle.std.proofs.Common.{eq-eqb}
use Rattle.std.proofs.lemmas.Bool.{and_parts, leb-true, leb-false, le-leb, ltb-true, lt-ltb, cases_lt}
use Rattle.std.proofs.lemmas.Option.{same_Some}
use Rattle.fk_model.specs.declared.limits.TheConstants.{LAST_PORTER_SLOT, LAST_USER_SLOT, PAGES}
use Rattle.fk_model.specs.declared.statuses.status.TheConstants as status
use Rattle.fk_model.specs.Places.{Path, same_path}
use Rattle.fk_model.specs.Places.Ptr.{At}
use Rattle.fk_model.specs.Objects.{Fault, holds}
use Rattle.fk_model.specs.Objects.Peer.{Server}
use Rattle.fk_model.specs.World.{World, serves, apply, apply_all}
use Rattle.fk_model.specs.World.Change.{Alter, PutPage, DropPage}
use Rattle.fk_model.specs.World.Edit.{SetFault}
use Rattle.fk_model.specs.Outcomes.Said.{Answered}
use Rattle.std.specs.List.{list_any}
use Rattle.fk_model.specs.Searches.{fault_at, faulter_of, objects}
use Rattle.fk_model.specs.SpaceRows.{next_page}
use Rattle.fk_model.specs.Outcomes.{Outcome}
use Rattle.fk_model.specs.Outcomes.Outcome.{Goes}
use Rattle.fk_model.specs.Moves.{porter_at, call_row, outcome, IsReady, Step, stepped, step}
use Rattle.fk_model.specs.Runs.{Event, after, run, IsLegal}
use Rattle.fk_model.specs.declared.moves.Ask.{Ask}
use Rattle.fk_model.specs.declared.moves.Ask.TheVariants as asks
use Rattle.fk_model.proofs.walks.Lowest.{lowest_none}
use Rattle.fk_model.proofs.walks.Members.{find_some}
use Rattle.fk_model.proofs.walks.PlaceLaws.{same_path_refl}
use Rattle.laws_filled.specs.Filled.{is_listed, is_paged, filled, raises}
use Rattle.laws_filled.specs.Laws.{PagesStay}
use Rattle.laws_filled.proofs.Kept.{paging_stays_lem}
use Rattle.laws_filled.proofs.Moves.{filled_moves_alike_lem, raises_are_unseen_lem}
use Rattle.laws_filled.specs.Pager.IsPaged.{Here, Another, Own}
use Rattle.laws_filled.specs.Pager.{stage_of, is_opening, IsPick, call_of, said_of, IsOthers, unless_raised, struck, IsUnseen, Desk, Phase, State, at_phase}
use Rattle.laws_filled.specs.Pager.{put, paging, no_words, words_of, makes_room, looked, next, hears, IsAmong, IsClear, AreListed, IsAt, IsGood}
use Rattle.laws_filled.specs.Pager.{PagersAreUnseen}
use Rattle.laws_filled.specs.Pager.Phase.{Seeking, Taking, Waiting, Looking, Evicting, Giving, Ending}
use Rattle.laws_filled.proofs.Lists.{among_more, among_last, among_either, among_rest, rest_among}
use Rattle.laws_filled.proofs.Refilled.{taken-refilled, taken-paging, listed-same, clear-same, given-refilled, given-paging, heard-refilled, heard-paging}
use Rattle.laws_filled.proofs.Refilled.{freed-refilled, freed-paging}
use Rattle.laws_filled.proofs.Results.{is_call, next_result, take_result, give_result, done_result, wait_result, lowest_least, NextResult, TakeResult}
use Rattle.laws_filled.proofs.Results.{GiveResult, DoneResult, WaitResult}
use Rattle.laws_filled.proofs.Results.NextResult.{NoneLeft, Found}
use Rattle.laws_filled.proofs.Results.TakeResult.{TakeHeld, TakeBad, TakeGone, TookPage}
use Rattle.laws_filled.proofs.Results.GiveResult.{GiveHeld, GiveBad, Occupied, Gave}
use Rattle.laws_filled.proofs.Results.DoneResult.{Unlinked, Busy, Freed}
use Rattle.laws_filled.proofs.Results.WaitResult.{Idle, TookFault}

none-of : {A B : Type 0} (f : A → B) (o : Option A) → option_map f o ≡ None → o ≡ None
none-of f None e = refl
none-of f (Some a) e = cc

some-home : {A : Type 0} (o : Option A) → o ≡ None → is_some o ≡ true → ⊥
some-home None e h = cc
some-home (Some a) e h = cc

none-among : (g : ℕ) (xs : List ℕ) → xs ≡ [] → IsAmong g xs → ⊥
none-among g [] e h = cc
none-among g (x ∷ xs) e h = cc

module _ (w : World) (space : Path) where
  pub next_none : (from page : ℕ) → next_page w space from ≡ None → from ≤ page → page < 256 → w.page space page ≡ None
  unfolding next_page
  next_none from page none above low =
      let h = lowest_none PAGES _ none page low in
      none-of (λ words. page) (w.page space page)
      (sym (ap (λ (b : Bool). if b then option_map (λ words. page) (w.page space page) else None) (le-leb from page above)) ∙ h)

  pub next_some : (from g : ℕ) → next_page w space from ≡ Some g →
      (from ≤ g) × (g < 256) × (is_some (w.page space g) ≡ true) × ((j : ℕ) → from ≤ j → j < g → w.page space j ≡ None)
  unfolding next_page
  next_some from g e = let found = lowest_least PAGES _ g e in by found.0 (nat_le from found.0) refl (w.page space found.0) refl found.1 found.2 found.3
    where
      by : (k : ℕ) (b : Bool) → nat_le from k ≡ b → (o : Option (List ℕ)) → w.page space k ≡ o → (if b then option_map (λ words. k) o else None) ≡ Some g →
          k < PAGES →
          ((j : ℕ) → j < k → (if nat_le from j then option_map (λ words. j) (w.page space j) else None) ≡ None) →
          (from ≤ g) × (g < 256) × (is_some (w.page space g) ≡ true) × ((j : ℕ) → from ≤ j → j < g → w.page space j ≡ None)
      by k false f o h is low below = cc
      by k true f None h is low below = cc
      by k true f (Some words) h is low below =
          let same : k ≡ g = same_Some k g is in (
            omega (arith, leb-true from k f, same),
            omega (arith, low, same),
            ap (λ j. is_some (w.page space j)) (sym same) ∙ ap is_some h,
            λ j above less. none-of (λ words. j) (w.page space j)
                (sym (ap (λ (b : Bool). if b then option_map (λ words. j) (w.page space j) else None) (le-leb from j above))
                ∙ below j (omega (arith, less, same))),
          )

module _ (d : Desk) (low : nat_le d.slot LAST_USER_SLOT ≡ true) (room : 1 ≤ d.room) (w : World) (s : State) where
  abbrev P : Path
  P = d.slot ∷ d.nester

  -- what comes of an outcome: the same filled world, and what holds at each moment
  abbrev pub Comes : Phase → Outcome → Type 0
  Comes ph o = (filled (paging d (hears d (at_phase s ph) (stepped w o).said)) (stepped w o).world ≡ filled (paging d s) w)
      × IsGood d (stepped w o).world (hears d (at_phase s ph) (stepped w o).said)

  pub seeking : (from : ℕ) (good : IsGood d w (at_phase s (Seeking from))) (o : Outcome) →
      NextResult d.nester d.slot low w no_words good.paging.there from o → Comes (Seeking from) o
  unfolding next apply_all
  seeking from good _ (NoneLeft none) = (
    refl,
    record {
      paging = good.paging;
      phase = (
        (λ page among. absurd (none-among page s.inside good.phase.1 among)),
        (λ page listed home. absurd (some-home (w.page P page) (away page listed (cases_lt page from)) home)),
        rw (good.phase.1) (omega (arith, room)),
      );
    },
  )
    where
      away : (page : ℕ) → is_listed (paging d s) page ≡ true → (page < from) ⊎ (from ≤ page) → w.page P page ≡ None
      away page listed (inl below) = good.phase.2 page below
      away page listed (inr above) = next_none w P from page none above (ltb-true page 256 (good.paging.few page listed))
  seeking from good _ (Found page e) = let found = next_some w P from page e in (
    refl,
    record {
      paging = good.paging;
      phase = (
        good.phase.0,
        good.phase.1,
        (λ j less. taken j less found.3 (cases_lt j from)),
        lt-ltb page 256 found.1,
      );
    },
  )
    where
      taken : (j : ℕ) → j < page → ((k : ℕ) → from ≤ k → k < page → w.page P k ≡ None) → (j < from) ⊎ (from ≤ j) → w.page P j ≡ None
      taken j less between (inl below) = good.phase.2 j below
      taken j less between (inr above) = between j above less

  -- ---- pages that are dropped and put

  is-page : (j page : ℕ) → (j == page) ≡ true → w.page P j ≡ w.page P page
  is-page j page e = ap (w.page P) (eqb-true j page e)

  dropped-none : (page j : ℕ) → (((j == page) ≡ true) ⊎ (w.page P j ≡ None)) → (apply (DropPage P page) w).page P j ≡ None
  unfolding apply
  dropped-none page j (inl same) =
      ap (λ b. if b && j == page then None else w.page P j) (same_path_refl P) ∙ ap (λ (b : Bool). if b then None else w.page P j) same
  dropped-none page j (inr none) = by (same_path P P && j == page)
    where
      by : (b : Bool) → (if b then None else w.page P j) ≡ None
      by true = refl
      by false = none

  dropped-home : (page j : ℕ) → is_some ((apply (DropPage P page) w).page P j) ≡ true → ((j == page) ≡ false) × (is_some (w.page P j) ≡ true)
  unfolding apply
  dropped-home page j home = by (same_path P P) (same_path_refl P) (j == page) home
    where
      by : (m : Bool) → m ≡ true → (n : Bool) → is_some (cond (m && n) None (w.page P j)) ≡ true → (n ≡ false) × (is_some (w.page P j) ≡ true)
      by true e true h = cc
      by true e false h = (refl, h)
      by false e n h = cc

  put-home : (page : ℕ) (words : List ℕ) (j : ℕ) → (j == page) ≡ false → is_some ((apply (PutPage P page words) w).page P j) ≡ true →
      is_some (w.page P j) ≡ true
  unfolding apply
  put-home page words j apart home = by (same_path P P) (j == page) apart home
    where
      by : (m n : Bool) → n ≡ false → is_some (cond (m && n) (Some words) (w.page P j)) ≡ true → is_some (w.page P j) ≡ true
      by true false e h = h
      by false false e h = h
      by m true e h = cc

  put-here : (page : ℕ) (words : List ℕ) → is_some ((apply (PutPage P page words) w).page P page) ≡ true
  unfolding apply
  put-here page words = by (same_path P P) (same_path_refl P) (page == page) (eq-eqb page page refl)
    where
      by : (m : Bool) → m ≡ true → (n : Bool) → n ≡ true → is_some (cond (m && n) (Some words) (w.page P page)) ≡ true
      by true e true f = refl
      by false e n f = cc
      by true e false f = cc

  put-some : (page : ℕ) (words : List ℕ) (j : ℕ) → is_some (s.backing j) ≡ true → is_some (put page words s.backing j) ≡ true
  put-some page words j has = by (j == page)
    where
      by : (n : Bool) → is_some (cond n (Some words) (s.backing j)) ≡ true
      by true = refl
      by false = has

  some-put : (page : ℕ) (words : List ℕ) (j : ℕ) → is_some (s.backing page) ≡ true → is_some (put page words s.backing j) ≡ true → is_some (s.backing j) ≡ true
  some-put page words j there has = by (j == page) refl has
    where
      by : (n : Bool) → (j == page) ≡ n → is_some (cond n (Some words) (s.backing j)) ≡ true → is_some (s.backing j) ≡ true
      by true e h = ap (λ k. is_some (s.backing k)) (eqb-true j page e) ∙ there
      by false e h = h

  both-ways : (b : Bool) → b ≡ true → b ≡ false → ⊥
  both-ways b e f = cc

  -- a number below the next is below or the same
  last-below : (j page : ℕ) → j < page + 1 → (j < page) ⊎ ((j == page) ≡ true)
  last-below j page less = by (cases_lt j page)
    where
      by : (j < page) ⊎ (page ≤ j) → (j < page) ⊎ ((j == page) ≡ true)
      by (inl below) = inl below
      by (inr above) = inr (eq-eqb j page (omega (arith, less, above)))

  pub taking : (page : ℕ) (good : IsGood d w (at_phase s (Taking page))) (o : Outcome) →
      TakeResult d.nester d.slot low w no_words good.paging.there page o → Comes (Taking page) o
  unfolding next apply_all apply
  taking page good _ TakeHeld = (refl, good)
  taking page good _ (TakeBad e) = absurd (both-ways _ (good.phase.3) e)
  taking page good _ (TakeGone none) = (refl, record { paging = good.paging; phase = (good.phase.0, good.phase.1, λ j less. by j (last-below j page less)) })
    where
      by : (j : ℕ) → (j < page) ⊎ ((j == page) ≡ true) → w.page P j ≡ None
      by j (inl below) = good.phase.2 j below
      by j (inr same) = is-page j page same ∙ none
  taking page good _ (TookPage words home) = (
    taken-refilled (paging d s) w page words home (clear-same (paging d s) w page words home good.phase.0),
    record {
      paging = taken-paging (paging d s) w page words home (clear-same (paging d s) w page words home good.phase.0) good.phase.3 good.paging;
      phase = (clear, good.phase.1, λ j less. dropped-none page j (by j (last-below j page less)));
    },
  )
    where
      clear : IsClear (apply (DropPage P page) w)
      clear y = good.phase.0 y

      by : (j : ℕ) → (j < page) ⊎ ((j == page) ≡ true) → ((j == page) ≡ true) ⊎ (w.page P j ≡ None)
      by j (inl below) = inr (good.phase.2 j below)
      by j (inr same) = inl same

  waiting : (good : IsGood d w (at_phase s Waiting)) (y : Path) (fault : Fault) → fault_at w y ≡ Some fault → is_paged (paging d s) fault ≡ true →
      (o : Outcome) →
      WaitResult d.nester d.slot low w no_words y fault o → Comes Waiting o
  unfolding next apply_all apply
  waiting good y fault has paged _ Idle = (refl, good)
  waiting good y fault has paged _ (TookFault at kind) = (
    heard-refilled (paging d s) w y fault has paged (Some (Server (At (LAST_PORTER_SLOT ∷ d.nester)))),
    record {
      paging = heard-paging (paging d s) w y fault has paged good.paging;
      phase = (good.phase.0, good.phase.1, good.phase.2, (and_parts _ _ paged).1);
    },
  )

  -- ---- where the page that is missed isn't home

  away-good : (page : ℕ) → IsGood d w (at_phase s (Looking page)) → w.page P page ≡ None →
      (filled (paging d (looked d (at_phase s (Looking page)) page)) w ≡ filled (paging d s) w) × IsGood d w (looked d (at_phase s (Looking page)) page)
  away-good page good away = by s.inside refl
    where
      giving : length s.inside + 1 ≤ d.room → IsGood d w (at_phase s (Giving page))
      giving short = record { paging = good.paging; phase = (good.phase.0, good.phase.1, short, good.phase.3, away) }

      evicting : (old : ℕ) (rest : List ℕ) → s.inside ≡ old ∷ rest → IsGood d w (at_phase s (Evicting old page))
      evicting old rest e = record { paging = good.paging; phase = (good.phase.0, good.phase.1, good.phase.2, good.phase.3, away, (rest, e)) }

      full : (old : ℕ) (rest : List ℕ) → s.inside ≡ old ∷ rest → (b : Bool) → nat_le d.room (length (old ∷ rest)) ≡ b →
          (filled (paging d (cond b (at_phase s (Evicting old page)) (at_phase s (Giving page)))) w ≡ filled (paging d s) w)
          × IsGood d w (cond b (at_phase s (Evicting old page)) (at_phase s (Giving page)))
      full old rest e true f = (refl, evicting old rest e)
      full old rest e false f = (refl, giving (omega (arith, leb-false d.room (length (old ∷ rest)) f, ap length e)))

      by : (ys : List ℕ) → s.inside ≡ ys →
          (filled (paging d (makes_room d (at_phase s (Looking page)) page ys)) w ≡ filled (paging d s) w)
          × IsGood d w (makes_room d (at_phase s (Looking page)) page ys)
      by [] e = (refl, giving (omega (arith, room, ap length e)))
      by (old ∷ rest) e = full old rest e (nat_le d.room (length (old ∷ rest))) refl

  looking : (page : ℕ) (good : IsGood d w (at_phase s (Looking page))) (o : Outcome) →
      NextResult d.nester d.slot low w no_words good.paging.there page o → Comes (Looking page) o
  unfolding next apply_all
  looking page good _ (NoneLeft none) = away-good page good (next_none w P page page none (omega arith) (ltb-true page 256 (good.paging.few page good.phase.3)))
  looking page good _ (Found g e) = by (g == page) refl (next_some w P page g e)
    where
      by : (b : Bool) → (g == page) ≡ b →
          (page ≤ g) × (g < 256) × (is_some (w.page P g) ≡ true) × ((j : ℕ) → page ≤ j → j < g → w.page P j ≡ None) →
          (filled (paging d (cond b (at_phase s (Ending page)) (looked d (at_phase s (Looking page)) page))) w ≡ filled (paging d s) w)
          × IsGood d w (cond b (at_phase s (Ending page)) (looked d (at_phase s (Looking page)) page))
      by true f found = (
        refl,
        record {
          paging = good.paging;
          phase = (
            good.phase.0,
            good.phase.1,
            good.phase.2,
            sym (ap (λ k. is_some (w.page P k)) (eqb-true g page f)) ∙ found.2,
          );
        },
      )
      by false f found = away-good page good (found.3 page (omega arith) (less (cases_lt page g)))
        where
          less : (page < g) ⊎ (g ≤ page) → page < g
          less (inl below) = below
          less (inr above) = absurd (both-ways (g == page) (eq-eqb g page (omega (arith, above, found.0))) f)

  -- ---- the page that came in first goes

  -- without it
  cut-listed : (old : ℕ) (rest : List ℕ) → s.inside ≡ old ∷ rest → (g : ℕ) → IsAmong g (drop 1 s.inside) → IsAmong g s.inside
  cut-listed old rest e g among = subst (IsAmong g) (sym e) (rest_among g old rest (subst (IsAmong g) (ap (drop 1) e) among))

  cut-within : (old : ℕ) (rest : List ℕ) → s.inside ≡ old ∷ rest → (g : ℕ) → (g == old) ≡ false → IsAmong g s.inside → IsAmong g (drop 1 s.inside)
  cut-within old rest e g apart among =
      subst (IsAmong g) (sym (ap (drop 1) e)) (among_rest g old rest (turned (old == g) refl) (subst (IsAmong g) e among))
    where
      turned : (b : Bool) → (old == g) ≡ b → (old == g) ≡ false
      turned true f = absurd (both-ways (g == old) (eq-eqb g old (sym (eqb-true old g f))) apart)
      turned false f = f

  cut-short : (old : ℕ) (rest : List ℕ) → s.inside ≡ old ∷ rest → length s.inside ≤ d.room → length (drop 1 s.inside) + 1 ≤ d.room
  cut-short old rest e short = omega (arith, short, ap length e, ap (λ xs. length (drop 1 xs)) e)

  first-listed : (old : ℕ) (rest : List ℕ) → s.inside ≡ old ∷ rest → AreListed s → is_some (s.backing old) ≡ true
  first-listed old rest e listed = listed old (subst (IsAmong old) (sym e) (first (old == old) (eq-eqb old old refl)))
    where
      first : (b : Bool) → b ≡ true → (b || list_any (λ x. x == old) rest) ≡ true
      first true f = refl
      first false f = cc

  evicting : (old page : ℕ) (good : IsGood d w (at_phase s (Evicting old page))) (o : Outcome) →
      TakeResult d.nester d.slot low w no_words good.paging.there old o → Comes (Evicting old page) o
  unfolding next apply_all
  evicting old page good _ TakeHeld = (refl, good)
  evicting old page good _ (TakeBad e) =
      let begins = good.phase.5 in absurd (both-ways _ (good.paging.few old (first-listed old begins.0 begins.1 good.phase.0)) e)
  evicting old page good _ (TakeGone none) = let begins = good.phase.5 in (
    refl,
    record {
      paging = good.paging;
      phase = (
        (λ g among. good.phase.0 g (cut-listed old begins.0 begins.1 g among)),
        (λ g its home. by g (g == old) refl its home),
        cut-short old begins.0 begins.1 good.phase.2,
        good.phase.3,
        good.phase.4,
      );
    },
  )
    where
      by : (g : ℕ) (n : Bool) → (g == old) ≡ n → is_some (s.backing g) ≡ true → is_some (w.page P g) ≡ true → IsAmong g (drop 1 s.inside)
      by g true e its home = absurd (some-home (w.page P g) (is-page g old e ∙ none) home)
      by g false e its home = let begins = good.phase.5 in cut-within old begins.0 begins.1 g e (good.phase.1 g its home)
  evicting old page good _ (TookPage words home) =
      let begins = good.phase.5 in
      let there = first-listed old begins.0 begins.1 good.phase.0 in
      let same = listed-same (paging d s) w old words home there in (
        taken-refilled (paging d s) w old words home same,
        record {
          paging = taken-paging (paging d s) w old words home same (good.paging.few old there) good.paging;
          phase = (
            (λ g among. put-some old words g (good.phase.0 g (cut-listed old begins.0 begins.1 g among))),
            (λ g its still. let at = dropped-home old g still in
                cut-within old begins.0 begins.1 g at.0 (good.phase.1 g (some-put old words g there its) at.1)),
            cut-short old begins.0 begins.1 good.phase.2,
            put-some old words page good.phase.3,
            dropped-none old page (inr good.phase.4),
          );
        },
      )

  -- ---- the page that is missed is given

  giving : (page : ℕ) (good : IsGood d w (at_phase s (Giving page))) (o : Outcome) →
      GiveResult d.nester d.slot low w (words_of s (Giving page)) good.paging.there page o → Comes (Giving page) o
  unfolding next apply_all
  giving page good _ GiveHeld = (refl, good)
  giving page good _ (GiveBad e) = absurd (both-ways _ (good.paging.few page good.phase.3) e)
  giving page good _ (Occupied e) = (refl, record { paging = good.paging; phase = (good.phase.0, good.phase.1, omega (arith, good.phase.2), e) })
  giving page good _ Gave = (
    given-refilled (paging d s) w page (unwrap_or (s.backing page) no_words) (has (s.backing page) good.phase.3) good.phase.4,
    record {
      paging = given-paging (paging d s) w page (unwrap_or (s.backing page) no_words) good.paging;
      phase = (
        (λ g among. listed g among (page == g) refl),
        (λ g its home. within g its home (g == page) refl),
        omega (arith, good.phase.2, length-append s.inside (page ∷ [])),
        put-here page (unwrap_or (s.backing page) no_words),
      );
    },
  )
    where
      has : (o : Option (List ℕ)) → is_some o ≡ true → o ≡ Some (unwrap_or o no_words)
      has None e = cc
      has (Some words) e = refl

      listed : (g : ℕ) → IsAmong g (s.inside ++ page ∷ []) → (n : Bool) → (page == g) ≡ n → is_some (s.backing g) ≡ true
      listed g among true e = ap (λ k. is_some (s.backing k)) (sym (eqb-true page g e)) ∙ good.phase.3
      listed g among false e = good.phase.0 g (among_either g page s.inside among e)

      within : (g : ℕ) → is_some (s.backing g) ≡ true → is_some ((apply (PutPage P page (unwrap_or (s.backing page) no_words)) w).page P g) ≡ true →
          (n : Bool) → (g == page) ≡ n → IsAmong g (s.inside ++ page ∷ [])
      within g its home true e = subst (λ k. IsAmong k (s.inside ++ page ∷ [])) (sym (eqb-true g page e)) (among_last page s.inside)
      within g its home false e = among_more g s.inside (page ∷ []) (good.phase.1 g its (put-home page _ g e home))

  -- ---- the fault ends

  ending : (page : ℕ) (good : IsGood d w (at_phase s (Ending page))) (o : Outcome) → DoneResult d.nester d.slot low w no_words o → Comes (Ending page) o
  unfolding next apply_all apply faulter_of
  ending page good _ (Unlinked none) = (refl, record { paging = good.paging; phase = (good.phase.0, good.phase.1, good.phase.2) })
  ending page good _ (Busy x held) = (refl, good)
  ending page good _ (Freed x e) = by (fault_at w x) refl (served x e)
    where
      served : (y : Path) → faulter_of w (LAST_PORTER_SLOT ∷ d.nester) ≡ Some y →
          holds (λ (fault : Fault). holds (serves (LAST_PORTER_SLOT ∷ d.nester)) fault.taker) (fault_at w y) ≡ true
      served y f = (find_some _ y (objects w) f).1

      by : (o : Option Fault) → fault_at w x ≡ o → holds (λ (fault : Fault). holds (serves (LAST_PORTER_SLOT ∷ d.nester)) fault.taker) o ≡ true →
          Comes (Ending page) (Goes (Alter x (SetFault None) ∷ []) (Answered status.OK []))
      by None f h = cc
      by (Some fault) f h = let paged = good.paging.ours x fault f h in (
        freed-refilled (paging d s) w x fault f paged,
        record { paging = freed-paging (paging d s) w x fault f paged good.paging; phase = (good.phase.0, good.phase.1, good.phase.2) },
      )

  -- ---- whichever call it is

  abbrev me : Path
  me = LAST_PORTER_SLOT ∷ d.nester

  abbrev asked : Phase → Ask
  asked ph = asks.Call (stage_of d ph) (words_of s ph)

  of_row : (ph : Phase) (pick : Option Path) → IsReady w me pick (asked ph) →
      Comes ph (call_row w (porter_at me (words_of s ph)) pick (stage_of d ph)) → Comes ph (outcome w me pick (asked ph))
  of_row ph pick ready comes = subst (Comes ph) (sym (is_call d.nester d.slot low w (words_of s ph) pick (stage_of d ph) ready)) comes

  pub own : (ph : Phase) (pick : Option Path) → IsGood d w (at_phase s ph) → IsPick d s w ph pick → IsReady w me pick (asked ph) →
      Comes ph (outcome w me pick (asked ph))
  own (Seeking from) (Some y) good picks ready = cc
  own (Taking page) (Some y) good picks ready = cc
  own (Looking page) (Some y) good picks ready = cc
  own (Evicting old page) (Some y) good picks ready = cc
  own (Giving page) (Some y) good picks ready = cc
  own (Ending page) (Some y) good picks ready = cc
  own Waiting None good picks ready = absurd picks
  own (Seeking from) None good picks ready =
      of_row (Seeking from) None ready (seeking from good _ (next_result d.nester d.slot low w no_words good.paging.there from))
  own (Taking page) None good picks ready =
      of_row (Taking page) None ready (taking page good _ (take_result d.nester d.slot low w no_words good.paging.there page 0))
  own (Looking page) None good picks ready =
      of_row (Looking page) None ready (looking page good _ (next_result d.nester d.slot low w no_words good.paging.there page))
  own (Evicting old page) None good picks ready =
      of_row (Evicting old page) None ready (evicting old page good _ (take_result d.nester d.slot low w no_words good.paging.there old 0))
  own (Giving page) None good picks ready =
      of_row (Giving page) None ready (giving page good _ (give_result d.nester d.slot low w (words_of s (Giving page)) good.paging.there page 0))
  own (Ending page) None good picks ready = of_row (Ending page) None ready (ending page good _ (done_result d.nester d.slot low w no_words))
  own Waiting (Some y) good picks ready = by (fault_at w y) refl picks
    where
      by : (o : Option Fault) → fault_at w y ≡ o → holds (is_paged (paging d s)) o ≡ true → Comes Waiting (outcome w me (Some y) (asked Waiting))
      by None e h = cc
      by (Some fault) e h = of_row Waiting (Some y) ready (waiting good y fault e h _ (wait_result d.nester d.slot low w no_words d.set y fault e))

  -- ---- the moves of others

  stays-away : (v : World) (page : ℕ) → is_some (v.page P page) ≡ is_some (w.page P page) → w.page P page ≡ None → v.page P page ≡ None
  stays-away v page same none = by (v.page P page) (same ∙ ap is_some none)
    where
      by : (o : Option (List ℕ)) → is_some o ≡ false → o ≡ None
      by None e = refl
      by (Some words) e = cc

  stays-at : (v : World) (ph : Phase) → is_opening ph ≡ false → PagesStay w v → IsAt d w s ph → IsAt d v s ph
  stays-at v (Seeking from) opened same at = cc
  stays-at v (Taking page) opened same at = cc
  stays-at v Waiting opened same at = (at.0, (λ g its home. at.1 g its (sym (same P g) ∙ home)), at.2)
  stays-at v (Looking page) opened same at = (at.0, (λ g its home. at.1 g its (sym (same P g) ∙ home)), at.2, at.3)
  stays-at v (Evicting old page) opened same at =
      (at.0, (λ g its home. at.1 g its (sym (same P g) ∙ home)), at.2, at.3, stays-away v page (same P page) at.4, at.5)
  stays-at v (Giving page) opened same at = (at.0, (λ g its home. at.1 g its (sym (same P g) ∙ home)), at.2, at.3, stays-away v page (same P page) at.4)
  stays-at v (Ending page) opened same at = (at.0, (λ g its home. at.1 g its (sym (same P g) ∙ home)), at.2, same P page ∙ at.3)

  pub others-good : (e : Event) → IsOthers d w s e → IsGood d w s → IsGood d (after w e) s
  others-good e others good =
      let kept = paging_stays_lem (paging d s) w e.mover e.pick e.ask good.paging others.other others.asks others.dark in
      record { paging = kept.0; phase = stays-at (after w e) s.phase others.opened kept.1 good.phase }

pub pagers_are_unseen_lem : PagersAreUnseen
unfolding struck run step
pagers_are_unseen_lem d w s _ v t low room good (Here _ _) = record { legal = tt; world = refl; good = good }
pagers_are_unseen_lem d w s _ v t low room good (Another _ _ e es _ _ others rest) =
    by (raises (paging d s) w e.mover e.pick e.ask) refl (pagers_are_unseen_lem d (after w e) s es v t low room (others-good d low room w s e others good) rest)
  where
    F : World → World
    F x = filled (paging d s) x

    by : (b : Bool) → raises (paging d s) w e.mover e.pick e.ask ≡ b → IsUnseen d (after w e) s (struck rest) v t →
        IsUnseen d w s (unless_raised b e (struck rest)) v t
    by true raising unseen =
        let same = (raises_are_unseen_lem (paging d s) w e.mover e.pick e.ask good.paging others.other others.asks others.dark others.ready raising).1 in
        record {
          legal = subst (λ x. IsLegal x (struck rest)) same unseen.legal;
          world =
              subst (λ x. run x (struck rest) ≡ filled (paging d t) v) same unseen.world;
          good = unseen.good;
        }
    by false raising unseen =
        let alike = filled_moves_alike_lem (paging d s) w e.mover e.pick e.ask good.paging others.other others.asks others.dark others.ready raising in
        let same : after (filled (paging d s) w) e ≡ filled (paging d s) (after w e) = ap (λ (x : Step). x.world) alike.1 in
        record {
          legal = (alike.0, subst (λ x. IsLegal x (struck rest)) (sym same) unseen.legal);
          world = subst (λ x. run x (struck rest) ≡ filled (paging d t) v) (sym same) unseen.world;
          good = unseen.good;
        }
pagers_are_unseen_lem d w s _ v t low room good (Own _ _ pick es _ _ own_move rest) =
    let comes = own d low room w s s.phase pick good own_move.picks own_move.ready in
    let unseen = pagers_are_unseen_lem d (after w (call_of d s pick)) (hears d s (said_of w (call_of d s pick))) es v t low room comes.1 rest in
    record {
      legal = subst (λ x. IsLegal x (struck rest)) comes.0 unseen.legal;
      world = subst (λ x. run x (struck rest) ≡ filled (paging d t) v) comes.0 unseen.world;
      good = unseen.good;
    }
