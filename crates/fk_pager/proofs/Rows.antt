-- What a pager's calls come to in any world: also where the space, or the set, is gone.
use Rattle.std.proofs.Common.{◌≡◌, ℕ, ◌<◌, ◌≤◌, Bool, true, false, not, ◌&&◌, ◌||◌, ◌==◌, nat_le, nat_lt, is_some, if◌then◌else◌, List, [], ◌∷◌, length, Option, Some, None, Result, Ok, Err, slice_index, refl, sym, ap, subst, ◌∙◌, arith}
use Rattle.fk_model.specs.declared.limits.TheConstants.{LAST_PORTER_SLOT, OWN_SPACE, PAGES, LAST_USER_SLOT}
use Rattle.fk_model.specs.declared.moves.Ask.TheVariants as asks
use Rattle.fk_model.specs.declared.names.Kind.TheVariants as kinds
use Rattle.fk_model.specs.declared.stage.Stage.{Stage}
use Rattle.fk_model.specs.declared.stage.Stage.TheVariants.{PageNext, PageTake, PageGive}
use Rattle.fk_model.specs.declared.statuses.status.TheConstants as status
use Rattle.fk_model.specs.declared.statuses.status.TheConstants.{OK, BADHANDLE, WRONGKIND}
use Rattle.fk_model.specs.Places.{Path, Ptr}
use Rattle.fk_model.specs.Places.Ptr.{Null, Dead, At, Out, Outside, Far}
use Rattle.fk_model.specs.Objects.{Body, Fault, kind_of, same_kind, flag_of, thread_of, and_then, holds}
use Rattle.fk_model.specs.Objects.Body.{Mutex, Cond, Mapping, Region, Port, Portset, Space, Thread_of, Reference}
use Rattle.fk_model.specs.World.{World, Change, apply, apply_all}
use Rattle.fk_model.specs.World.Change.{PutPage, DropPage}
use Rattle.fk_model.specs.Searches.{fault_at}
use Rattle.fk_model.specs.Holds.{is_frozen_for, is_porter, is_unheld}
use Rattle.fk_model.specs.StateRows.{is_native}
use Rattle.fk_model.specs.Outcomes.{Outcome, ◌>>=◌, refuse, or_refuse, when, Caller, last_slot, listed}
use Rattle.fk_model.specs.Outcomes.Said.{Answered}
use Rattle.fk_model.specs.Outcomes.Outcome.{Refused, Goes}
use Rattle.fk_model.specs.Readers.{and_read, is_kind, kind_at, led_to, handled, handle, path_at, space_argument}
use Rattle.fk_model.specs.SpaceRows.{next_page, page_next, page_take, page_give}
use Rattle.fk_model.specs.Moves.{with_pick, closed, call_row, porter_at, porter_move, outcome, GoesAllowed, IsReady, stepped, step}
use Rattle.fk_model.specs.Whole.{HasFullPages}
use Rattle.std.proofs.lemmas.Bool.{and_parts, le-leb}
use Rattle.laws_filled.specs.Filled.{is_paged}
use Rattle.laws_filled.specs.Pager.{Desk, Phase, State, is_opening, stage_of, words_of, no_words, paging, call_of, said_of, IsPick, IsOwn}
use Rattle.laws_filled.specs.Pager.Phase.{Seeking, Taking, Waiting, Looking, Evicting, Giving, Ending}
use Rattle.laws_filled.proofs.Own.{next_some}
use Rattle.laws_filled.proofs.Results.{is_call, wait_result, WaitResult}
use Rattle.laws_filled.proofs.Results.WaitResult.{Idle, TookFault}
use Rattle.fk_pager.specs.Desks.{root}
use Rattle.fk_pager.specs.Sane.{IsGoodAnswer}

-- a space that isn't found is refused, and not with OK
not-ok : (w : World) (c : Caller) (s status : ℕ) → space_argument w c s ≡ Err status → status ≡ OK → ⊥
unfolding space_argument handle
not-ok w c s status e ok = own (s == OWN_SPACE) e
  where
    pointed : (p : Ptr) → path_at p ≡ Err status → ⊥
    pointed (At x) e = cc
    pointed Null e = cc
    pointed Dead e = cc
    pointed (Out slot) e = cc
    pointed Outside e = cc
    pointed Far e = cc

    kinded : (b : Bool) (p : Ptr) → and_read (if b then Ok p else Err WRONGKIND) path_at ≡ Err status → ⊥
    kinded true p e = pointed p e
    kinded false p e = cc

    led : (to : Ptr) → and_read (led_to w kinds.Space to) path_at ≡ Err status → ⊥
    led Null e = cc
    led Dead e = cc
    led (At x) e = kinded (is_kind kinds.Space (kind_at w (At x))) (At x) e
    led (Out slot) e = kinded (is_kind kinds.Space (kind_at w (Out slot))) (Out slot) e
    led Outside e = cc
    led Far e = cc

    there : (x : Path) (o : Option Body) → and_read (handled w kinds.Space x o) path_at ≡ Err status → ⊥
    there x None e = cc
    there x (Some (Reference to)) e = led to e
    there x (Some b) e = kinded (same_kind kinds.Space (kind_of b)) (At x) e

    slot : (b : Bool) → and_read (and_read (if b then Ok s else Err BADHANDLE) (λ h. handled w kinds.Space (h ∷ c.space) (w.body (h ∷ c.space)))) path_at
        ≡ Err status → ⊥
    slot true e = there (s ∷ c.space) (w.body (s ∷ c.space)) e
    slot false e = cc

    own : (b : Bool) → (if b then Ok c.space else and_read (and_read (if nat_le s (last_slot c) then Ok s else Err BADHANDLE)
        (λ h. handled w kinds.Space (h ∷ c.space) (w.body (h ∷ c.space)))) path_at) ≡ Err status → ⊥
    own true e = cc
    own false e = slot (nat_le s (last_slot c)) e

module _ (w : World) (words : List ℕ) where
  abbrev me : Path
  me = LAST_PORTER_SLOT ∷ root

  abbrev c : Caller
  c = porter_at me words

  -- ---- the calls of an opening

  data NextRow (from : ℕ) : Outcome → Type 0 where
    NextRefuses : (status : ℕ) → NextRow from (Refused status)
    Tells : (space : Path) (page : ℕ) → next_page w space from ≡ Some page → NextRow from (Goes [] (Answered OK (page ∷ [])))

  next-row : (s from : ℕ) → NextRow from (page_next w c s from)
  unfolding page_next
  next-row s from = by (space_argument w c s)
    where
      found : (space : Path) (o : Option ℕ) → next_page w space from ≡ o →
          NextRow from (or_refuse status.NONE o >>= λ page. Goes [] (Answered OK (page ∷ [])))
      found space None e = NextRefuses status.NONE
      found space (Some page) e = Tells space page e

      by : (r : Result Path ℕ) →
          NextRow from (r >>= λ space. (or_refuse status.NONE (next_page w space from) >>= λ page. Goes [] (Answered OK (page ∷ []))))
      by (Err status) = NextRefuses status
      by (Ok space) = found space (next_page w space from) refl

  data TakeRow (page : ℕ) : Outcome → Type 0 where
    TakeRefuses : (status : ℕ) → (status ≡ OK → ⊥) → TakeRow page (Refused status)
    Drops : (space : Path) (its : List ℕ) → is_frozen_for w me space ≡ false → w.page space page ≡ Some its →
        TakeRow page (Goes (DropPage space page ∷ []) (Answered OK its))

  take-row : (s page address : ℕ) → TakeRow page (page_take w c s page address)
  unfolding page_take
  take-row s page address = by (space_argument w c s) refl
    where
      taken : (space : Path) (frozen : Bool) → is_frozen_for w me space ≡ frozen → (bad : Bool) (o : Option (List ℕ)) → w.page space page ≡ o →
          TakeRow page (refuse status.HELD frozen >>= λ u. (refuse status.BADADDRESS bad >>= λ v.
          (or_refuse status.NONE o >>= λ its. Goes (DropPage space page ∷ []) (Answered OK its))))
      taken space true e bad o f = TakeRefuses status.HELD (λ ok. cc)
      taken space false e true o f = TakeRefuses status.BADADDRESS (λ ok. cc)
      taken space false e false None f = TakeRefuses status.NONE (λ ok. cc)
      taken space false e false (Some its) f = Drops space its e f

      by : (r : Result Path ℕ) → space_argument w c s ≡ r →
          TakeRow page (r >>= λ space. (refuse status.HELD (is_frozen_for w me space) >>= λ u.
          (refuse status.BADADDRESS (not (nat_lt page PAGES) || false) >>= λ v.
          (or_refuse status.NONE (w.page space page) >>= λ its. Goes (DropPage space page ∷ []) (Answered OK its)))))
      by (Err status) e = TakeRefuses status (not-ok w c s status e)
      by (Ok space) e = taken space (is_frozen_for w me space) refl (not (nat_lt page PAGES) || false) (w.page space page) refl

  abbrev ends : Outcome → Outcome
  ends o = closed c (with_pick false None o)

  abbrev KeepsBodies : Outcome → Type 0
  KeepsBodies o = (x : Path) → (stepped w o).world.body x ≡ w.body x

  next-keeps : (from : ℕ) (o : Outcome) → NextRow from o → GoesAllowed w me (ends o) × KeepsBodies (ends o)
  unfolding apply_all
  next-keeps from _ (NextRefuses status) = (tt, λ x. refl)
  next-keeps from _ (Tells space page e) = (tt, λ x. refl)

  take-keeps : (page : ℕ) (o : Outcome) → TakeRow page o → GoesAllowed w me (ends o) × KeepsBodies (ends o)
  unfolding apply_all apply
  take-keeps page _ (TakeRefuses status why) = (tt, λ x. refl)
  take-keeps page _ (Drops space its off home) = ((off, tt), λ x. refl)

  next-told : (from : ℕ) (o : Outcome) → NextRow from o → (status : ℕ) (its : List ℕ) →
      (stepped w (ends o)).said ≡ Answered status its → slice_index its 0 < 256
  next-told from _ (NextRefuses refused) status its said =
      let same : [] ≡ its = cc in subst (λ xs. slice_index xs 0 < 256) same (omega arith)
  next-told from _ (Tells space page e) status its said =
      let same : (page ∷ []) ≡ its = cc in
      let low = (next_some w space from page e).1 in
      subst (λ xs. slice_index xs 0 < 256) same low

  take-told : HasFullPages w → (page : ℕ) (o : Outcome) → TakeRow page o → (status : ℕ) (its : List ℕ) → (stepped w (ends o)).said ≡ Answered status its →
      status ≡ OK → length its ≡ 64
  take-told full page _ (TakeRefuses refused why) status its said ok = let same : refused ≡ status = cc in absurd (why (same ∙ ok))
  take-told full page _ (Drops space words home at) status its said ok =
      let same : words ≡ its = cc in subst (λ xs. length xs ≡ 64) same (full space page words at)

  -- ---- what they change

  -- nothing, or a page is taken or put
  pub data IsOfPages : List Change → Type 0 where
    Changes_nothing : IsOfPages []
    Drops_page : (space : Path) (page : ℕ) → IsOfPages (DropPage space page ∷ [])
    Puts_page : (space : Path) (page : ℕ) (its : List ℕ) → IsOfPages (PutPage space page its ∷ [])

  next-pages : (from : ℕ) (o : Outcome) → NextRow from o → IsOfPages (listed (ends o))
  next-pages from _ (NextRefuses status) = Changes_nothing
  next-pages from _ (Tells space page e) = Changes_nothing

  take-pages : (page : ℕ) (o : Outcome) → TakeRow page o → IsOfPages (listed (ends o))
  take-pages page _ (TakeRefuses status why) = Changes_nothing
  take-pages page _ (Drops space its off home) = Drops_page space page

  data GiveRow (page : ℕ) : Outcome → Type 0 where
    GiveRefuses : (status : ℕ) → GiveRow page (Refused status)
    Puts : (space : Path) → GiveRow page (Goes (PutPage space page words ∷ []) (Answered OK []))

  give-row : (s page address : ℕ) → GiveRow page (page_give w c s page address)
  unfolding page_give
  give-row s page address = by (space_argument w c s)
    where
      given : (space : Path) (frozen bad taken : Bool) →
          GiveRow page (refuse status.HELD frozen >>= λ u. (refuse status.BADADDRESS bad >>= λ v.
          (refuse status.OCCUPIED taken >>= λ x. Goes (PutPage space page words ∷ []) (Answered OK []))))
      given space true bad taken = GiveRefuses status.HELD
      given space false true taken = GiveRefuses status.BADADDRESS
      given space false false true = GiveRefuses status.OCCUPIED
      given space false false false = Puts space

      by : (r : Result Path ℕ) →
          GiveRow page (r >>= λ space. (refuse status.HELD (is_frozen_for w me space) >>= λ u.
          (refuse status.BADADDRESS (not (nat_lt page PAGES) || false) >>= λ v.
          (refuse status.OCCUPIED (is_some (w.page space page)) >>= λ x. Goes (PutPage space page words ∷ []) (Answered OK [])))))
      by (Err status) = GiveRefuses status
      by (Ok space) = given space (is_frozen_for w me space) (not (nat_lt page PAGES) || false) (is_some (w.page space page))

  give-pages : (page : ℕ) (o : Outcome) → GiveRow page o → IsOfPages (listed (ends o))
  give-pages page _ (GiveRefuses status) = Changes_nothing
  give-pages page _ (Puts space) = Puts_page space page words

  pub next-changes : (s from : ℕ) → IsOfPages (listed (call_row w c None (PageNext s from)))
  unfolding call_row
  next-changes s from = next-pages from _ (next-row s from)

  pub take-changes : (s page address : ℕ) → IsOfPages (listed (call_row w c None (PageTake s page address)))
  unfolding call_row
  take-changes s page address = take-pages page _ (take-row s page address)

  pub give-changes : (s page address : ℕ) → IsOfPages (listed (call_row w c None (PageGive s page address)))
  unfolding call_row
  give-changes s page address = give-pages page _ (give-row s page address)

  -- ---- a porter's call is its row

  row-of : (stage : Stage) (pick : Option Path) → holds is_native (w.body me) ≡ true → is_unheld w root ≡ true →
      outcome w me pick (asks.Call stage words) ≡ call_row w c pick stage
  unfolding outcome
  row-of stage pick native unheld = by (w.body me) native
    where
      of_test : (a b : Bool) (o : Outcome) → a ≡ true → b ≡ true → when (a && b) o ≡ o
      of_test true true o e f = refl
      of_test true false o e f = cc
      of_test false b o e f = cc

      by : (o : Option Body) → holds is_native o ≡ true → porter_move w me pick stage words (and_then thread_of o) ≡ call_row w c pick stage
      by (Some (Thread_of t)) is = of_test (is_porter t.mode) (is_unheld w root) (call_row w c pick stage) is unheld
      by None is = cc
      by (Some (Mutex locked)) is = cc
      by (Some Cond) is = cc
      by (Some (Mapping m)) is = cc
      by (Some (Region r)) is = cc
      by (Some (Port set served)) is = cc
      by (Some Portset) is = cc
      by (Some (Space birth holder)) is = cc
      by (Some (Reference to)) is = cc

  next-call : (s from : ℕ) → GoesAllowed w me (call_row w c None (PageNext s from)) × KeepsBodies (call_row w c None (PageNext s from))
  unfolding call_row
  next-call s from = next-keeps from _ (next-row s from)

  take-call : (s page address : ℕ) → GoesAllowed w me (call_row w c None (PageTake s page address)) × KeepsBodies (call_row w c None (PageTake s page address))
  unfolding call_row
  take-call s page address = take-keeps page _ (take-row s page address)

-- ---- an opening's call is ready, and leaves all bodies

module _ (d : Desk) (nester : d.nester ≡ root) (w : World) (s : State) (native : holds is_native (w.body (LAST_PORTER_SLOT ∷ root)) ≡ true)
    (unheld : is_unheld w root ≡ true) where
  abbrev porter : Path
  porter = LAST_PORTER_SLOT ∷ root

  pub opening-ready : (phase : Phase) → is_opening phase ≡ true → IsReady w porter None (asks.Call (stage_of d phase) (words_of s phase))
  opening-ready (Seeking from) is =
      subst (GoesAllowed w porter) (sym (row-of w no_words (stage_of d (Seeking from)) None native unheld)) (next-call w no_words d.slot from).0
  opening-ready (Taking page) is =
      subst (GoesAllowed w porter) (sym (row-of w no_words (stage_of d (Taking page)) None native unheld)) (take-call w no_words d.slot page 0).0
  opening-ready Waiting is = cc
  opening-ready (Looking page) is = cc
  opening-ready (Evicting old page) is = cc
  opening-ready (Giving page) is = cc
  opening-ready (Ending page) is = cc

  pub opening-keeps : (phase : Phase) → is_opening phase ≡ true → (x : Path) →
      (step w porter None (asks.Call (stage_of d phase) (words_of s phase))).world.body x ≡ w.body x
  unfolding step
  opening-keeps (Seeking from) is x =
      ap (λ (o : Outcome). (stepped w o).world.body x) (row-of w no_words (stage_of d (Seeking from)) None native unheld)
      ∙ (next-call w no_words d.slot from).1 x
  opening-keeps (Taking page) is x =
      ap (λ (o : Outcome). (stepped w o).world.body x) (row-of w no_words (stage_of d (Taking page)) None native unheld)
      ∙ (take-call w no_words d.slot page 0).1 x
  opening-keeps Waiting is x = cc
  opening-keeps (Looking page) is x = cc
  opening-keeps (Evicting old page) is x = cc
  opening-keeps (Giving page) is x = cc
  opening-keeps (Ending page) is x = cc

-- ---- what is told is good

module _ (d : Desk) (w : World) (s : State) (pick : Option Path) (nester : d.nester ≡ root) (low : d.slot ≤ LAST_USER_SLOT) (full : HasFullPages w)
    (few : (page : ℕ) → is_some (s.backing page) ≡ true → page < 256) where
  abbrev its_words : Phase → List ℕ
  its_words phase = words_of s phase

  abbrev mine : Path
  mine = LAST_PORTER_SLOT ∷ d.nester

  abbrev Told : Phase → Type 0
  Told phase = (status : ℕ) (words : List ℕ) → (step w mine pick (asks.Call (stage_of d phase) (its_words phase))).said ≡ Answered status words →
      IsGoodAnswer phase status words

  called : (phase : Phase) → IsReady w mine pick (asks.Call (stage_of d phase) (its_words phase)) → (status : ℕ) (words : List ℕ) →
      (step w mine pick (asks.Call (stage_of d phase) (its_words phase))).said ≡ Answered status words →
      (stepped w (call_row w (porter_at mine (its_words phase)) pick (stage_of d phase))).said ≡ Answered status words
  unfolding step
  called phase ready status words said =
      sym (ap (λ (o : Outcome). (stepped w o).said)
      (is_call d.nester d.slot (le-leb d.slot LAST_USER_SLOT low) w (its_words phase) pick (stage_of d phase) ready)) ∙ said

  abbrev Heard : Path → Option Path → Stage → List ℕ → ℕ → List ℕ → Type 0
  Heard x o stage given status words = (stepped w (call_row w (porter_at (LAST_PORTER_SLOT ∷ x) given) o stage)).said ≡ Answered status words

  -- at the root, with what is asked and given known by equations
  rooted : (phase : Phase) (stage : Stage) (given : List ℕ) (o : Option Path) → stage_of d phase ≡ stage → its_words phase ≡ given → pick ≡ o →
      IsReady w mine pick (asks.Call (stage_of d phase) (its_words phase)) → (status : ℕ) (words : List ℕ) →
      (step w mine pick (asks.Call (stage_of d phase) (its_words phase))).said ≡ Answered status words → Heard root o stage given status words
  rooted phase stage given o is gives picks ready status words said =
      subst (λ (x : Path). Heard x o stage given status words) nester
      (subst (λ (q : Option Path). Heard d.nester q stage given status words) picks
      (subst (λ (ws : List ℕ). Heard d.nester pick stage ws status words) gives
      (subst (λ (st : Stage). Heard d.nester pick st (its_words phase) status words) is (called phase ready status words said))))

  seeks : (from : ℕ) → pick ≡ None → IsReady w mine pick (asks.Call (stage_of d (Seeking from)) (its_words (Seeking from))) → Told (Seeking from)
  unfolding call_row
  seeks from none ready status words said =
      λ ok. next-told w no_words from _ (next-row w no_words d.slot from) status words
      (rooted (Seeking from) (PageNext d.slot from) no_words None refl refl none ready status words said)

  takes : (phase : Phase) (page : ℕ) → stage_of d phase ≡ PageTake d.slot page 0 → its_words phase ≡ no_words → pick ≡ None →
      IsReady w mine pick (asks.Call (stage_of d phase) (its_words phase)) → (status : ℕ) (words : List ℕ) →
      (step w mine pick (asks.Call (stage_of d phase) (its_words phase))).said ≡ Answered status words → status ≡ OK → length words ≡ 64
  unfolding call_row
  takes phase page is nothing none ready status words said ok =
      take-told w no_words full page _ (take-row w no_words d.slot page 0) status words
      (rooted phase (PageTake d.slot page 0) no_words None is nothing none ready status words said) ok

  waited : (y : Path) (fault : Fault) → fault.page < 256 → (o : Outcome) → WaitResult d.nester d.slot (le-leb d.slot LAST_USER_SLOT low) w no_words y fault o →
      (status : ℕ) (words : List ℕ) → (stepped w o).said ≡ Answered status words → slice_index words 2 < 256
  waited y fault is_low _ Idle status words said = cc
  waited y fault is_low _ (TookFault slot kind) status words said =
      let same : (slot ∷ kind ∷ fault.page ∷ flag_of fault.write ∷ []) ≡ words = cc in subst (λ xs. slice_index xs 2 < 256) same is_low

  waits : (y : Path) → pick ≡ Some y → holds (is_paged (paging d s)) (fault_at w y) ≡ true →
      IsReady w mine pick (asks.Call (stage_of d Waiting) (its_words Waiting)) → Told Waiting
  waits y some paged ready status words said = λ ok. by (fault_at w y) refl paged
    where
      by : (o : Option Fault) → fault_at w y ≡ o → holds (is_paged (paging d s)) o ≡ true → slice_index words 2 < 256
      by None e h = cc
      by (Some fault) e h =
          waited y fault (few fault.page (and_parts _ _ h).1) _ (wait_result d.nester d.slot (le-leb d.slot LAST_USER_SLOT low) w no_words d.set y fault e)
          status words (subst (λ o. (stepped w (call_row w (porter_at mine no_words) o (stage_of d Waiting))).said ≡ Answered status words) some
          (called Waiting ready status words said))

  told : (phase : Phase) → IsPick d s w phase pick → IsReady w mine pick (asks.Call (stage_of d phase) (its_words phase)) → Told phase
  told (Seeking from) picks ready status words said = seeks from picks ready status words said
  told (Taking page) picks ready status words said = takes (Taking page) page refl refl picks ready status words said
  told (Looking page) picks ready status words said = tt
  told (Evicting old page) picks ready status words said = takes (Evicting old page) old refl refl picks ready status words said
  told (Giving page) picks ready status words said = tt
  told (Ending page) picks ready status words said = tt
  told Waiting picks ready status words said = picked pick refl picks
    where
      picked : (o : Option Path) → pick ≡ o → IsPick d s w Waiting o → IsGoodAnswer Waiting status words
      picked None e p = absurd p
      picked (Some y) e p = waits y e p ready status words said

pub good-answers : (d : Desk) (w : World) (s : State) (pick : Option Path) → d.nester ≡ root → d.slot ≤ LAST_USER_SLOT → HasFullPages w →
    ((page : ℕ) → is_some (s.backing page) ≡ true → page < 256) → IsOwn d w s pick → (status : ℕ) (words : List ℕ) →
    said_of w (call_of d s pick) ≡ Answered status words → IsGoodAnswer s.phase status words
good-answers d w s pick nester low full few move status words said =
    told d w s pick nester low full few s.phase move.picks move.ready status words said
