-- What the calls of a pager come to.
use Rattle.std.proofs.Common.{◌≡◌, ℕ, zero, suc, ◌<◌, ◌≤◌, Bool, true, false, not, cond, ◌&&◌, ◌||◌, ◌==◌, nat_le, nat_lt, is_some, if◌then◌else◌, List, []}
use Rattle.std.proofs.Common.{◌∷◌, Option, Some, None, option_map, Result, Ok, Err, refl, arith}
use Rattle.std.proofs.lemmas.Bool.{leb-true, le-leb, ne_eqb}
use Rattle.fk_model.specs.declared.limits.TheConstants.{LAST_PORTER_SLOT, LAST_USER_SLOT, PAGES}
use Rattle.fk_model.specs.declared.moves.Ask.TheVariants as asks
use Rattle.fk_model.specs.declared.names.Kind.TheVariants as kinds
use Rattle.fk_model.specs.declared.stage.Stage.{Stage}
use Rattle.fk_model.specs.declared.stage.Stage.TheVariants.{PageNext, PageTake, PageGive, Wait, FaultDone}
use Rattle.fk_model.specs.declared.statuses.status.TheConstants as status
use Rattle.fk_model.specs.Places.{Path, parent}
use Rattle.fk_model.specs.Places.Ptr.{At}
use Rattle.fk_model.specs.Objects.{Fault, Thread, Body, space_of, and_then, or_else, flag_of}
use Rattle.fk_model.specs.Objects.Peer.{Server}
use Rattle.fk_model.specs.Objects.Body.{Mutex, Cond, Mapping, Region, Port, Portset, Space, Thread_of, Reference}
use Rattle.fk_model.specs.World.{World}
use Rattle.fk_model.specs.World.Change.{Alter, PutPage, DropPage}
use Rattle.fk_model.specs.World.Edit.{SetFault, SetTaker}
use Rattle.fk_model.specs.Searches.{lowest, thread_at, fault_at, faulter_of, is_serving}
use Rattle.fk_model.specs.Holds.{is_frozen, is_frozen_for, is_unheld, is_user}
use Rattle.fk_model.specs.Outcomes.{Outcome, ◌>>=◌, refuse, or_refuse, when, Caller}
use Rattle.fk_model.specs.Outcomes.Said.{Answered}
use Rattle.fk_model.specs.Outcomes.Outcome.{Waits, Goes}
use Rattle.fk_model.specs.Readers.{and_read, seen_as, object_in, handled, path_at, handle, space_argument}
use Rattle.fk_model.specs.SpaceRows.{next_page, page_next, page_take, page_give}
use Rattle.fk_model.specs.LinkRows.{Candidate, is_member, is_open, slot_in_set, candidate_by, candidate, takes_candidate, portset_of, wait}
use Rattle.fk_model.specs.LinkRows.Candidate.{Faulting}
use Rattle.fk_model.specs.FaultRows.{frees, fault_done}
use Rattle.fk_model.proofs.walks.Lowest.{lowest_none}
use Rattle.fk_model.proofs.walks.PlaceLaws.{same_path_refl}
use Rattle.fk_model.specs.Moves.{with_pick, closed, call_row, porter_at, porter_move, outcome, GoesAllowed, IsReady}

-- ---- the lowest that answers

pub lowest_least : {A : Type 0} (n : ℕ) (f : ℕ → Option A) (a : A) → lowest n f ≡ Some a →
    (k : ℕ) × (f k ≡ Some a) × (k < n) × ((j : ℕ) → j < k → f j ≡ None)
unfolding lowest
lowest_least zero f a h = cc
lowest_least {A} (suc n) f a h = by (lowest n f) refl h (lowest_least n f a) (lowest_none n f)
  where
    by : (o : Option A) → lowest n f ≡ o → or_else o (f n) ≡ Some a →
        (lowest n f ≡ Some a → (k : ℕ) × (f k ≡ Some a) × (k < n) × ((j : ℕ) → j < k → f j ≡ None)) →
        (lowest n f ≡ None → (k : ℕ) → k < n → f k ≡ None) → (k : ℕ) × (f k ≡ Some a) × (k < suc n) × ((j : ℕ) → j < k → f j ≡ None)
    by None e h below none = (n, h, omega arith, none e)
    by (Some b) e h below none = let found = below (rw e h) in (found.0, found.1, omega (arith, found.2), found.3)

-- ---- a porter's call is its row

module _ (d_nester : Path) (slot : ℕ) (low : nat_le slot LAST_USER_SLOT ≡ true) (w : World) (words : List ℕ) where
  abbrev me : Path
  me = LAST_PORTER_SLOT ∷ d_nester

  abbrev space : Path
  space = slot ∷ d_nester

  abbrev c : Caller
  c = porter_at me words

  pub is_call : (pick : Option Path) (stage : Stage) → IsReady w me pick (asks.Call stage words) →
      outcome w me pick (asks.Call stage words) ≡ call_row w c pick stage
  unfolding outcome
  is_call pick stage ready = by (thread_at w me) ready
    where
      when-true : (b : Bool) (o : Outcome) → GoesAllowed w me (when b o) → when b o ≡ o
      when-true true o h = refl
      when-true false o h = absurd h

      by : (o : Option Thread) → GoesAllowed w me (porter_move w me pick stage words o) → porter_move w me pick stage words o ≡ call_row w c pick stage
      by None h = absurd h
      by (Some t) h = when-true _ (call_row w c pick stage) h

  low-le : slot ≤ 239
  low-le = leb-true slot 239 low

  space_is : is_some (and_then space_of (w.body space)) ≡ true → space_argument w c slot ≡ Ok space
  unfolding space_argument handle
  space_is there = rw (ne_eqb slot 256 (λ e. absurd (omega (arith, low-le))), le-leb slot 255 (omega (arith, low-le))) (by (w.body space) there)
    where
      by : (o : Option Body) → is_some (and_then space_of o) ≡ true → and_read (handled w kinds.Space space o) path_at ≡ Ok space
      by (Some (Space birth holder)) h = refl
      by None h = cc
      by (Some (Mutex locked)) h = cc
      by (Some Cond) h = cc
      by (Some (Mapping m)) h = cc
      by (Some (Region r)) h = cc
      by (Some (Port set served)) h = cc
      by (Some Portset) h = cc
      by (Some (Thread_of t)) h = cc
      by (Some (Reference to)) h = cc

  module _ (there : is_some (and_then space_of (w.body space)) ≡ true) where
    -- ---- page_next

    pub data NextResult (from : ℕ) : Outcome → Type 0 where
      NoneLeft : next_page w space from ≡ None → NextResult from (Goes [] (Answered status.NONE []))
      Found : (page : ℕ) → next_page w space from ≡ Some page → NextResult from (Goes [] (Answered status.OK (page ∷ [])))

    pub next_result : (from : ℕ) → NextResult from (call_row w c None (PageNext slot from))
    unfolding call_row page_next
    next_result from = rw (space_is there) (by (next_page w space from) refl)
      where
        by : (o : Option ℕ) → next_page w space from ≡ o →
            NextResult from (closed c (with_pick false None (or_refuse status.NONE o >>= λ page. Goes [] (Answered status.OK (page ∷ [])))))
        by None e = NoneLeft e
        by (Some page) e = Found page e

    -- ---- page_take

    pub data TakeResult (page : ℕ) : Outcome → Type 0 where
      TakeHeld : TakeResult page (Goes [] (Answered status.HELD []))
      TakeBad : nat_lt page PAGES ≡ false → TakeResult page (Goes [] (Answered status.BADADDRESS []))
      TakeGone : w.page space page ≡ None → TakeResult page (Goes [] (Answered status.NONE []))
      TookPage : (words : List ℕ) → w.page space page ≡ Some words → TakeResult page (Goes (DropPage space page ∷ []) (Answered status.OK words))

    pub take_result : (page address : ℕ) → TakeResult page (call_row w c None (PageTake slot page address))
    unfolding call_row page_take
    take_result page address = rw (space_is there) (by (is_frozen_for w me space) (nat_lt page PAGES) refl (w.page space page) refl)
      where
        by : (frozen low : Bool) → nat_lt page PAGES ≡ low → (o : Option (List ℕ)) → w.page space page ≡ o →
            TakeResult page (closed c (with_pick false None (refuse status.HELD frozen >>= λ u. (refuse status.BADADDRESS (not low || false) >>= λ v.
            (or_refuse status.NONE o >>= λ words. Goes (DropPage space page ∷ []) (Answered status.OK words))))))
        by true low e o f = TakeHeld
        by false false e o f = TakeBad e
        by false true e None f = TakeGone f
        by false true e (Some words) f = TookPage words f

    -- ---- page_give

    pub data GiveResult (page : ℕ) : Outcome → Type 0 where
      GiveHeld : GiveResult page (Goes [] (Answered status.HELD []))
      GiveBad : nat_lt page PAGES ≡ false → GiveResult page (Goes [] (Answered status.BADADDRESS []))
      Occupied : is_some (w.page space page) ≡ true → GiveResult page (Goes [] (Answered status.OCCUPIED []))
      Gave : GiveResult page (Goes (PutPage space page words ∷ []) (Answered status.OK []))

    pub give_result : (page address : ℕ) → GiveResult page (call_row w c None (PageGive slot page address))
    unfolding call_row page_give
    give_result page address = rw (space_is there) (by (is_frozen_for w me space) (nat_lt page PAGES) refl (is_some (w.page space page)) refl)
      where
        by : (frozen low : Bool) → nat_lt page PAGES ≡ low → (taken : Bool) → is_some (w.page space page) ≡ taken →
            GiveResult page (closed c (with_pick false None (refuse status.HELD frozen >>= λ u. (refuse status.BADADDRESS (not low || false) >>= λ v.
            (refuse status.OCCUPIED taken >>= λ x. Goes (PutPage space page words ∷ []) (Answered status.OK []))))))
        by true low e taken f = GiveHeld
        by false false e taken f = GiveBad e
        by false true e true f = Occupied f
        by false true e false f = Gave

  -- ---- fault_done

  pub data DoneResult : Outcome → Type 0 where
    Unlinked : faulter_of w me ≡ None → DoneResult (Goes [] (Answered status.NOTLINKED []))
    Busy : (x : Path) → is_unheld w (parent x) ≡ false → DoneResult Waits
    Freed : (x : Path) → faulter_of w me ≡ Some x → DoneResult (Goes (Alter x (SetFault None) ∷ []) (Answered status.OK []))

  pub done_result : DoneResult (call_row w c None FaultDone)
  unfolding call_row fault_done
  done_result = by (faulter_of w me) refl
    where
      freed : (x : Path) → faulter_of w me ≡ Some x → (b : Bool) → is_unheld w (parent x) ≡ b →
          DoneResult (closed c (with_pick false None (when b (Goes (Alter x (SetFault None) ∷ []) (Answered status.OK [])))))
      freed x e true f = Freed x e
      freed x e false f = Busy x f

      by : (o : Option Path) → faulter_of w me ≡ o → DoneResult (closed c (with_pick false None (or_refuse status.NOTLINKED o >>= frees w c)))
      by None e = Unlinked e
      by (Some x) e = freed x e (is_unheld w (parent x)) refl

  -- ---- wait, with a pick that has a fault

  pub data WaitResult (y : Path) (fault : Fault) : Outcome → Type 0 where
    Idle : WaitResult y fault Waits
    TookFault : (slot kind : ℕ) →
        WaitResult y fault (Goes (Alter y (SetTaker (Some (Server (At me)))) ∷ []) (Answered status.OK (slot ∷ kind ∷ fault.page ∷ flag_of fault.write ∷ [])))

  -- with a fault it comes by that, or not at all
  data Comes (fault : Fault) : Option Candidate → Type 0 where
    Nobody : Comes fault None
    ByFault : (at : ℕ) → Comes fault (Some (Faulting at fault))

  pub wait_result : (set : ℕ) (y : Path) (fault : Fault) → fault_at w y ≡ Some fault → WaitResult y fault (call_row w c (Some y) (Wait set))
  unfolding call_row wait candidate
  wait_result set y fault has = by (object_in w c portset_of c.space set) (is_serving w me) (candidate w c.space set y) cand
    where
      busy : (a b e : Bool) → (a && b && false && e) ≡ false
      busy true true e = refl
      busy false b e = refl
      busy true false e = refl

      opened : (b : Bool) (o : Option ℕ) → Comes fault (or_else (if b then option_map (λ at. Faulting at fault) o else None) None)
      opened true None = Nobody
      opened true (Some at) = ByFault at
      opened false o = Nobody

      of_thread : (t : Thread) → t.fault ≡ Some fault → Comes fault (candidate_by w c.space set y t)
      of_thread t its = rw (its, busy (not (is_frozen w (parent y))) (t.stops == 0) (is_user t.mode))
          (opened (is_open fault.taker) (slot_in_set w c.space set fault.port))

      of_body : (b : Bool) (o : Option Thread) → and_then (λ (t : Thread). t.fault) o ≡ Some fault →
          Comes fault (cond b (and_then (candidate_by w c.space set y) o) None)
      of_body false o e = Nobody
      of_body true None e = Nobody
      of_body true (Some t) e = of_thread t e

      cand : Comes fault (candidate w c.space set y)
      cand = of_body (is_unheld w (parent y)) (thread_at w y) has

      by : (r : Result Body ℕ) (serving : Bool) (o : Option Candidate) → Comes fault o →
          WaitResult y fault (closed c (with_pick true (Some y) (r >>= λ u. (refuse status.LINKED serving >>= λ v. takes_candidate c y o))))
      by (Err status) serving o comes = Idle
      by (Ok a) true o comes = Idle
      by (Ok a) false _ Nobody = Idle
      by (Ok a) false _ (ByFault at) = TookFault at (if is_some fault.taker then 3 else 1)

  -- it is ready where the set stands, nobody is served, and the fault is open at a port of the set
  pub wait_is : (set port : ℕ) (y : Path) (fault : Fault) → fault_at w y ≡ Some fault → nat_le set LAST_USER_SLOT ≡ true →
      is_some (and_then portset_of (w.body (set ∷ d_nester))) ≡ true → is_serving w me ≡ false → is_unheld w (parent y) ≡ true → fault.taker ≡ None →
      fault.port ≡ At (port ∷ d_nester) → is_member set (w.body (port ∷ d_nester)) ≡ true →
      call_row w c (Some y) (Wait set)
      ≡ Goes (Alter y (SetTaker (Some (Server (At me)))) ∷ []) (Answered status.OK (port ∷ 1 ∷ fault.page ∷ flag_of fault.write ∷ []))
  unfolding call_row wait candidate object_in
  wait_is set port y fault has is_low there serving unheld opened at member =
      rw (le-leb set 255 (omega (arith, leb-true set 239 is_low)), serving, unheld) (by (w.body (set ∷ d_nester)) there (thread_at w y) has)
    where
      found : (t : Thread) → t.fault ≡ Some fault → candidate_by w d_nester set y t ≡ Some (Faulting port fault)
      found t its = rw (its, opened, at, same_path_refl d_nester, member) refl

      by : (b : Option Body) → is_some (and_then portset_of b) ≡ true → (o : Option Thread) → and_then (λ (t : Thread). t.fault) o ≡ Some fault →
          closed c (with_pick true (Some y)
          (seen_as portset_of b >>= λ u. (refuse status.LINKED false >>= λ v. takes_candidate c y (and_then (candidate_by w d_nester set y) o))))
          ≡ Goes (Alter y (SetTaker (Some (Server (At me)))) ∷ []) (Answered status.OK (port ∷ 1 ∷ fault.page ∷ flag_of fault.write ∷ []))
      by (Some Portset) h (Some t) e = rw (found t e, opened) refl
      by (Some Portset) h None e = cc
      by None h o e = cc
      by (Some (Mutex locked)) h o e = cc
      by (Some Cond) h o e = cc
      by (Some (Mapping m)) h o e = cc
      by (Some (Region r)) h o e = cc
      by (Some (Port other served)) h o e = cc
      by (Some (Space birth holder)) h o e = cc
      by (Some (Thread_of t)) h o e = cc
      by (Some (Reference to)) h o e = cc
