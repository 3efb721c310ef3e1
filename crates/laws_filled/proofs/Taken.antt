-- The pager takes one fault at a time; and where none of its moves is ready, no fault of its own is left.
use Rattle.std.proofs.Common.{◌≡◌, ℕ, ◌≤◌, Bool, true, false, not, cond, ◌&&◌, ◌==◌, nat_le, is_some, List, [], ◌∷◌, Option, Some, None, option_map, refl, sym}
use Rattle.std.proofs.Common.{ap, subst, ◌∙◌, ◌⊎◌, inl, inr}
use Rattle.std.specs.List.{list_any}
use Rattle.std.proofs.lemmas.Bool.{and_parts}
use Rattle.std.proofs.lemmas.Option.{same_Some}
use Rattle.fk_model.specs.declared.limits.TheConstants.{LAST_PORTER_SLOT, LAST_USER_SLOT}
use Rattle.fk_model.specs.declared.moves.Ask.{Ask}
use Rattle.fk_model.specs.declared.moves.Ask.TheVariants as asks
use Rattle.fk_model.specs.declared.stage.Stage.{Stage}
use Rattle.fk_model.specs.Places.{Path, same_path, parent, Ptr, leads_to}
use Rattle.fk_model.specs.Places.Ptr.{At}
use Rattle.fk_model.specs.Objects.{Peer, Fault, Thread, Body, holds}
use Rattle.fk_model.specs.Objects.Peer.{Server, Service, Parked}
use Rattle.fk_model.specs.Objects.Body.{Thread_of}
use Rattle.fk_model.specs.World.{World, Edit, serves, edited, apply, apply_all}
use Rattle.fk_model.specs.World.Edit.{SetFault, SetTaker}
use Rattle.fk_model.specs.Searches.{option_list, depth, thread_at, fault_at, faulter_of, is_serving, objects}
use Rattle.fk_model.specs.Holds.{is_frozen_for, is_unheld, is_porter, leads_to_frozen}
use Rattle.fk_model.specs.Freezing.{changed_pointers, made_pointers, MayAlter}
use Rattle.fk_model.specs.Outcomes.{Outcome, when}
use Rattle.fk_model.specs.Moves.{porter_at, porter_move, call_row, outcome, GoesAllowed, IsReady, stepped, step}
use Rattle.fk_model.specs.Runs.{after}
use Rattle.fk_model.specs.Valid.{IsValid}
use Rattle.fk_model.proofs.walks.Members.{find_some}
use Rattle.fk_model.proofs.walks.PlaceLaws.{same_path_eq, same_path_refl, leads_to_at}
use Rattle.fk_model.proofs.walks.WalkLaws.{no_faulter}
use Rattle.laws_filled.specs.Filled.{is_paged, IsOurs}
use Rattle.laws_filled.specs.Pager.{is_held_fault, HasTakenNone, HasTakenOne, HasTaken, PagersTakeOne, HasDesk, NoFaultIsLeft, FaultsEndAtHome, makes_room}
use Rattle.laws_filled.specs.Pager.{looked, stage_of, IsPick, call_of, said_of, IsOwn, Desk, Phase, State, at_phase, paging, words_of, no_words, next, hears}
use Rattle.laws_filled.specs.Pager.{IsAt, IsGood}
use Rattle.laws_filled.specs.Pager.Phase.{Seeking, Taking, Waiting, Looking, Evicting, Giving, Ending}
use Rattle.laws_filled.specs.Pager.IsPaged.{Here, Another, Own}
use Rattle.laws_filled.proofs.Kept.{fault_of, paging_stays_lem}
use Rattle.laws_filled.proofs.Own.{own, others-good}
use Rattle.laws_filled.proofs.Results.{is_call, next_result, take_result, give_result, done_result, wait_result, wait_is, NextResult, TakeResult, GiveResult}
use Rattle.laws_filled.proofs.Results.{DoneResult, WaitResult}
use Rattle.laws_filled.proofs.Results.NextResult.{NoneLeft, Found}
use Rattle.laws_filled.proofs.Results.TakeResult.{TakeHeld, TakeBad, TakeGone, TookPage}
use Rattle.laws_filled.proofs.Results.GiveResult.{GiveHeld, GiveBad, Occupied, Gave}
use Rattle.laws_filled.proofs.Results.DoneResult.{Unlinked, Busy, Freed}
use Rattle.laws_filled.proofs.Results.WaitResult.{Idle, TookFault}

neither : (b : Bool) → b ≡ true → b ≡ false → ⊥
neither b e f = cc

false-from : (b : Bool) → (b ≡ true → ⊥) → b ≡ false
false-from true never = absurd (never refl)
false-from false never = refl

module _ (d : Desk) (low : nat_le d.slot LAST_USER_SLOT ≡ true) (room : 1 ≤ d.room) (w : World) (s : State) where
  abbrev me : Path
  me = LAST_PORTER_SLOT ∷ d.nester

  -- what the porter has taken after an outcome
  abbrev Takes : Phase → Outcome → Type 0
  Takes ph o = HasTaken d (stepped w o).world (hears d (at_phase s ph) (stepped w o).said).phase

  room-made : (page : ℕ) (ys : List ℕ) → HasTakenOne d w page → HasTaken d w (makes_room d (at_phase s (Looking page)) page ys).phase
  room-made page [] one = one
  room-made page (old ∷ rest) one = by (nat_le d.room _)
    where
      by : (b : Bool) → HasTaken d w (cond b (at_phase s (Evicting old page)) (at_phase s (Giving page))).phase
      by true = one
      by false = one

  takes-next : (from : ℕ) (there : _) (o : Outcome) → NextResult d.nester d.slot low w no_words there from o → HasTakenNone d w → Takes (Seeking from) o
  unfolding next apply_all
  takes-next from there _ (NoneLeft none) taken = taken
  takes-next from there _ (Found page e) taken = taken

  takes-take : (page : ℕ) (there : _) (o : Outcome) → TakeResult d.nester d.slot low w no_words there page o → HasTakenNone d w → Takes (Taking page) o
  unfolding next apply_all apply
  takes-take page there _ TakeHeld taken = taken
  takes-take page there _ (TakeBad e) taken = taken
  takes-take page there _ (TakeGone none) taken = taken
  takes-take page there _ (TookPage words home) taken = taken

  takes-look : (page : ℕ) (there : _) (o : Outcome) → NextResult d.nester d.slot low w no_words there page o → HasTakenOne d w page → Takes (Looking page) o
  unfolding next apply_all
  takes-look page there _ (NoneLeft none) one = room-made page s.inside one
  takes-look page there _ (Found g e) one = by (g == page)
    where
      by : (b : Bool) → HasTaken d w (cond b (at_phase s (Ending page)) (looked d (at_phase s (Looking page)) page)).phase
      by true = one
      by false = room-made page s.inside one

  takes-evict : (old page : ℕ) (there : _) (o : Outcome) → TakeResult d.nester d.slot low w no_words there old o → HasTakenOne d w page →
      Takes (Evicting old page) o
  unfolding next apply_all apply
  takes-evict old page there _ TakeHeld one = one
  takes-evict old page there _ (TakeBad e) one = one
  takes-evict old page there _ (TakeGone none) one = one
  takes-evict old page there _ (TookPage words home) one = one

  takes-give : (page : ℕ) (words : List ℕ) (there : _) (o : Outcome) → GiveResult d.nester d.slot low w words there page o → HasTakenOne d w page →
      Takes (Giving page) o
  unfolding next apply_all apply
  takes-give page words there _ GiveHeld one = one
  takes-give page words there _ (GiveBad e) one = one
  takes-give page words there _ (Occupied e) one = one
  takes-give page words there _ Gave one = one

  -- who is altered, and who isn't
  altered-other : (x : Path) (edit : Edit) (q : Path) →
      (HasOther : is_held_fault d (fault_of (cond (same_path q x) (option_map (edited edit) (w.body q)) (w.body q))) ≡ true) →
      (q ≡ x) ⊎ (is_held_fault d (fault_at w q) ≡ true)
  altered-other x edit q held = by (same_path q x) refl held
    where
      by : (m : Bool) → same_path q x ≡ m → is_held_fault d (fault_of (cond m (option_map (edited edit) (w.body q)) (w.body q))) ≡ true →
          (q ≡ x) ⊎ (is_held_fault d (fault_at w q) ≡ true)
      by true e h = inl (same_path_eq q x e)
      by false e h = inr h

  takes-wait : (y : Path) (fault : Fault) → fault_at w y ≡ Some fault → (o : Outcome) → WaitResult d.nester d.slot low w no_words y fault o →
      HasTakenNone d w → Takes Waiting o
  unfolding next apply_all apply edited
  takes-wait y fault has _ Idle taken = taken
  takes-wait y fault has _ (TookFault at kind) taken =
      (y, (λ q held. by q (altered-other y (SetTaker (Some (Server (At me)))) q held)), λ q f its held. on q (same_path q y) refl f its held)
    where
      retaken : (o : Option Body) (f : Fault) → fault_of o ≡ Some fault → fault_of (option_map (edited (SetTaker (Some (Server (At me))))) o) ≡ Some f →
          f.page ≡ fault.page
      retaken None f e g = cc
      retaken (Some (Thread_of t)) f e g = by_fault t.fault e g
        where
          by_fault : (o : Option Fault) → o ≡ Some fault → option_map (λ (u : Fault). record u { taker = Some (Server (At me)) }) o ≡ Some f →
              f.page ≡ fault.page
          by_fault None e g = cc
          by_fault (Some u) e g =
              sym (ap (λ (v : Fault). v.page) (same_Some (record u { taker = Some (Server (At me)) }) f g)) ∙ ap (λ (v : Fault). v.page) (same_Some u fault e)
      retaken (Some b) f e g = cc

      on : (q : Path) (m : Bool) → same_path q y ≡ m → (f : Fault) →
          fault_of (cond m (option_map (edited (SetTaker (Some (Server (At me))))) (w.body q)) (w.body q)) ≡ Some f → is_held_fault d (Some f) ≡ true →
          f.page ≡ fault.page
      on q true e f its held = retaken (w.body q) f (ap (fault_at w) (same_path_eq q y e) ∙ has) its
      on q false e f its held = absurd (neither _ held (sym (ap (is_held_fault d) its) ∙ taken q))

      by : (q : Path) → (q ≡ y) ⊎ (is_held_fault d (fault_at w q) ≡ true) → q ≡ y
      by q (inl same) = same
      by q (inr held) = absurd (neither _ held (taken q))

  freed-none : (o : Option Body) → is_held_fault d (fault_of (option_map (edited (SetFault None)) o)) ≡ true → ⊥
  unfolding edited
  freed-none None e = cc
  freed-none (Some (Thread_of t)) e = cc
  freed-none (Some b) e = cc

  takes-done : IsValid w → w.next ≤ depth → (o : Outcome) → (page : ℕ) → DoneResult d.nester d.slot low w no_words o → HasTakenOne d w page →
      Takes (Ending page) o
  unfolding next apply_all apply faulter_of
  takes-done valid few _ page (Unlinked none) one = no_faulter w valid.consistent valid.rooted few me none
  takes-done valid few _ page (Busy x held) one = one
  takes-done valid few _ page (Freed x e) one = λ q. false-from _ (λ held. by q held (same_path q x) refl)
    where
      its : is_held_fault d (fault_at w x) ≡ true
      its = (find_some _ x (objects w) e).1

      by : (q : Path) → is_held_fault d (fault_of (cond (same_path q x) (option_map (edited (SetFault None)) (w.body q)) (w.body q))) ≡ true → (m : Bool) →
          same_path q x ≡ m → ⊥
      by q held true f = freed-none (w.body q)
          (ap (λ (m : Bool). is_held_fault d (fault_of (cond m (option_map (edited (SetFault None)) (w.body q)) (w.body q)))) (sym f) ∙ held)
      by q held false f =
          let still : is_held_fault d (fault_at w q) ≡ true =
          ap (λ (m : Bool). is_held_fault d (fault_of (cond m (option_map (edited (SetFault None)) (w.body q)) (w.body q)))) (sym f) ∙ held in
          let same : q ≡ x = one.1 q still ∙ sym (one.1 x its) in
          neither (same_path q x) (ap (same_path q) (sym same) ∙ same_path_refl q) f

  abbrev asked : Phase → Ask
  asked ph = asks.Call (stage_of d ph) (words_of s ph)

  of_row : (ph : Phase) (pick : Option Path) → IsReady w me pick (asked ph) →
      Takes ph (call_row w (porter_at me (words_of s ph)) pick (stage_of d ph)) → Takes ph (outcome w me pick (asked ph))
  of_row ph pick ready takes = subst (Takes ph) (sym (is_call d.nester d.slot low w (words_of s ph) pick (stage_of d ph) ready)) takes

  own-takes : (ph : Phase) (pick : Option Path) → IsGood d w (at_phase s ph) → HasTaken d w ph → IsValid w → w.next ≤ depth → IsPick d s w ph pick →
      IsReady w me pick (asked ph) → Takes ph (outcome w me pick (asked ph))
  own-takes (Seeking from) (Some y) good taken valid few picks ready = cc
  own-takes (Taking page) (Some y) good taken valid few picks ready = cc
  own-takes (Looking page) (Some y) good taken valid few picks ready = cc
  own-takes (Evicting old page) (Some y) good taken valid few picks ready = cc
  own-takes (Giving page) (Some y) good taken valid few picks ready = cc
  own-takes (Ending page) (Some y) good taken valid few picks ready = cc
  own-takes Waiting None good taken valid few picks ready = absurd picks
  own-takes (Seeking from) None good taken valid few picks ready =
      of_row (Seeking from) None ready (takes-next from good.paging.there _ (next_result d.nester d.slot low w no_words good.paging.there from) taken)
  own-takes (Taking page) None good taken valid few picks ready =
      of_row (Taking page) None ready (takes-take page good.paging.there _ (take_result d.nester d.slot low w no_words good.paging.there page 0) taken)
  own-takes (Looking page) None good taken valid few picks ready =
      of_row (Looking page) None ready (takes-look page good.paging.there _ (next_result d.nester d.slot low w no_words good.paging.there page) taken)
  own-takes (Evicting old page) None good taken valid few picks ready =
      of_row (Evicting old page) None ready
      (takes-evict old page good.paging.there _ (take_result d.nester d.slot low w no_words good.paging.there old 0) taken)
  own-takes (Giving page) None good taken valid few picks ready =
      of_row (Giving page) None ready
      (takes-give page (words_of s (Giving page)) good.paging.there _
      (give_result d.nester d.slot low w (words_of s (Giving page)) good.paging.there page 0) taken)
  own-takes (Ending page) None good taken valid few picks ready =
      of_row (Ending page) None ready (takes-done valid few _ page (done_result d.nester d.slot low w no_words) taken)
  own-takes Waiting (Some y) good taken valid few picks ready = by (fault_at w y) refl picks
    where
      by : (o : Option Fault) → fault_at w y ≡ o → holds (is_paged (paging d s)) o ≡ true → Takes Waiting (outcome w me (Some y) (asked Waiting))
      by None e h = cc
      by (Some fault) e h = of_row Waiting (Some y) ready (takes-wait y fault e _ (wait_result d.nester d.slot low w no_words d.set y fault e) taken)

  -- others take nothing for it
  abbrev Stays : World → Type 0
  Stays v = (y : Path) (fault : Fault) → fault_at v y ≡ Some fault → is_held_fault d (Some fault) ≡ true → fault_at w y ≡ Some fault

  back : (v : World) → Stays v → (y : Path) → is_held_fault d (fault_at v y) ≡ true → is_held_fault d (fault_at w y) ≡ true
  back v stay y held = by (fault_at v y) refl held
    where
      by : (o : Option Fault) → fault_at v y ≡ o → is_held_fault d o ≡ true → is_held_fault d (fault_at w y) ≡ true
      by None e h = cc
      by (Some fault) e h = ap (is_held_fault d) (stay y fault e h) ∙ h

  stays-one : (v : World) (page : ℕ) → Stays v → HasTakenOne d w page → HasTakenOne d v page
  stays-one v page stay one = (one.0, (λ y h. one.1 y (back v stay y h)), λ y fault e h. one.2 y fault (stay y fault e h) h)

  stays-none : (v : World) → Stays v → HasTakenNone d w → HasTakenNone d v
  stays-none v stay none y = false-from _ (λ h. neither _ (back v stay y h) (none y))

  stays-taken : (v : World) (ph : Phase) → Stays v → HasTaken d w ph → HasTaken d v ph
  stays-taken v (Seeking from) stay taken = stays-none v stay taken
  stays-taken v (Taking page) stay taken = stays-none v stay taken
  stays-taken v Waiting stay taken = stays-none v stay taken
  stays-taken v (Looking page) stay taken = stays-one v page stay taken
  stays-taken v (Evicting old page) stay taken = stays-one v page stay taken
  stays-taken v (Giving page) stay taken = stays-one v page stay taken
  stays-taken v (Ending page) stay taken = stays-one v page stay taken

pub pagers_take_one_lem : PagersTakeOne
unfolding step
pagers_take_one_lem d w s _ v t low room good taken (Here _ _) = taken
pagers_take_one_lem d w s _ v t low room good taken (Another _ _ e es _ _ others rest) =
    let kept = paging_stays_lem (paging d s) w e.mover e.pick e.ask good.paging others.other others.asks others.dark in
    pagers_take_one_lem d (after w e) s es v t low room (others-good d low room w s e others good)
    (stays-taken d low room w s (after w e) s.phase kept.2 taken) rest
pagers_take_one_lem d w s _ v t low room good taken (Own _ _ pick es _ _ own_move rest) =
    let comes = own d low room w s s.phase pick good own_move.picks own_move.ready in
    pagers_take_one_lem d (after w (call_of d s pick)) (hears d s (said_of w (call_of d s pick))) es v t low room comes.1
    (own-takes d low room w s s.phase pick good taken own_move.valid own_move.few own_move.picks own_move.ready) rest

-- ---- where nothing is held its calls are ready

module _ (d : Desk) (low : nat_le d.slot LAST_USER_SLOT ≡ true) (w : World) (s : State) (desk : HasDesk d w) where
  abbrev pager : Path
  pager = LAST_PORTER_SLOT ∷ d.nester

  unheld-at : (space : Path) → is_unheld w space ≡ true
  unheld-at space = ap (λ (o : Option Ptr). not (is_some o)) (desk.unheld space)

  unfrozen : (y : Path) → is_frozen_for w pager y ≡ false
  unfrozen y = ap (holds (λ holder. not (leads_to pager holder))) (desk.unheld y)

  leads-nowhere : (to : Ptr) → leads_to_frozen w pager to ≡ false
  leads-nowhere (At x) = unfrozen x
  leads-nowhere to = refl

  all-unfrozen : (ps : List Ptr) → list_any (leads_to_frozen w pager) ps ≡ false
  all-unfrozen [] = refl
  all-unfrozen (p ∷ ps) = rw (leads-nowhere p, all-unfrozen ps) refl

  may-alter : (x : Path) (edit : Edit) → MayAlter w pager x edit
  may-alter x edit = record {
    object = unfrozen x;
    changed = ap not (all-unfrozen (option_list (changed_pointers edit) (w.body x)));
    made =
        ap not (all-unfrozen (made_pointers edit));
  }

  is-row : (pick : Option Path) (stage : Stage) (words : List ℕ) → outcome w pager pick (asks.Call stage words) ≡ call_row w (porter_at pager words) pick stage
  unfolding outcome
  is-row pick stage words = by (thread_at w pager) desk.porter
    where
      of_test : (a b : Bool) (o : Outcome) → a ≡ true → b ≡ true → when (a && b) o ≡ o
      of_test true true o e f = refl
      of_test true false o e f = cc
      of_test false b o e f = cc

      by : (o : Option Thread) → holds (λ (t : Thread). is_porter t.mode) o ≡ true →
          porter_move w pager pick stage words o ≡ call_row w (porter_at pager words) pick stage
      by None e = cc
      by (Some t) e = of_test (is_porter t.mode) (is_unheld w d.nester) (call_row w (porter_at pager words) pick stage) e (unheld-at d.nester)

  to-ready : (pick : Option Path) (stage : Stage) (words : List ℕ) → GoesAllowed w pager (call_row w (porter_at pager words) pick stage) →
      IsReady w pager pick (asks.Call stage words)
  to-ready pick stage words goes = subst (GoesAllowed w pager) (sym (is-row pick stage words)) goes

  goes-next : (from : ℕ) (there : _) (o : Outcome) → NextResult d.nester d.slot low w no_words there from o → GoesAllowed w pager o
  goes-next from there _ (NoneLeft none) = tt
  goes-next from there _ (Found page e) = tt

  goes-take : (page : ℕ) (there : _) (o : Outcome) → TakeResult d.nester d.slot low w no_words there page o → GoesAllowed w pager o
  goes-take page there _ TakeHeld = tt
  goes-take page there _ (TakeBad e) = tt
  goes-take page there _ (TakeGone none) = tt
  goes-take page there _ (TookPage words home) = (unfrozen (d.slot ∷ d.nester), tt)

  goes-give : (page : ℕ) (words : List ℕ) (there : _) (o : Outcome) → GiveResult d.nester d.slot low w words there page o → GoesAllowed w pager o
  goes-give page words there _ GiveHeld = tt
  goes-give page words there _ (GiveBad e) = tt
  goes-give page words there _ (Occupied e) = tt
  goes-give page words there _ Gave = (unfrozen (d.slot ∷ d.nester), tt)

  goes-done : (o : Outcome) → DoneResult d.nester d.slot low w no_words o → GoesAllowed w pager o
  goes-done _ (Unlinked none) = tt
  goes-done _ (Busy x held) = neither _ (unheld-at (parent x)) held
  goes-done _ (Freed x e) = (may-alter x (SetFault None), tt)

  -- ---- and a fault that is open can be taken

  module _ (good : IsGood d w s) where
    unserving : HasTakenNone d w → is_serving w pager ≡ false
    unfolding faulter_of
    unserving none = rw (desk.talkless) (by (faulter_of w pager) refl)
      where
        by : (o : Option Path) → faulter_of w pager ≡ o → is_some o ≡ false
        by None e = refl
        by (Some x) e = absurd (neither _ (find_some _ x (objects w) e).1 (none x))

    goes-wait : (y : Path) (fault : Fault) → HasTakenNone d w → fault_at w y ≡ Some fault → is_paged (paging d s) fault ≡ true → fault.taker ≡ None →
        GoesAllowed w pager (call_row w (porter_at pager no_words) (Some y) (stage_of d Waiting))
    goes-wait y fault none has paged opened =
        subst (GoesAllowed w pager)
        (sym (wait_is d.nester d.slot low w no_words d.set d.port y fault has desk.low desk.set (unserving none) (unheld-at (parent y)) opened
        (leads_to_at (d.port ∷ d.nester) fault.port (and_parts _ _ paged).0) desk.port))
        (may-alter y (SetTaker (Some (Server (At pager)))), tt)

    ready-at : (ph : Phase) (pick : Option Path) → IsPick d s w ph pick → IsReady w pager pick (asks.Call (stage_of d ph) (words_of s ph)) → s.phase ≡ ph →
        IsOwn d w s pick
    ready-at ph pick picks ready same = record {
      valid = desk.valid;
      few = desk.few;
      picks = subst (λ (x : Phase). IsPick d s w x pick) (sym same) picks;
      ready = subst (λ (x : Phase). IsReady w pager pick (asks.Call (stage_of d x) (words_of s x))) (sym same) ready;
    }

    -- whoever has taken a fault of the pager's is its porter
    ours-held : (taker : Option Peer) → IsOurs (paging d s) taker → (taker ≡ None) ⊎ (holds (serves pager) taker ≡ true)
    ours-held None ours = inl refl
    ours-held (Some (Server thread)) ours = inr ours
    ours-held (Some Service) ours = absurd ours
    ours-held (Some Parked) ours = absurd ours

    ends : HasTaken d w s.phase → ((pick : Option Path) → IsOwn d w s pick → ⊥) →
        (s.phase ≡ Waiting) × ((y : Path) (fault : Fault) → fault_at w y ≡ Some fault → is_paged (paging d s) fault ≡ false)
    ends taken idle = by s.phase refl taken
      where
        settled : HasTakenNone d w → s.phase ≡ Waiting → (y : Path) (fault : Fault) → fault_at w y ≡ Some fault → is_paged (paging d s) fault ≡ false
        settled none same y fault has = false-from _ (λ paged. left paged (ours-held fault.taker (good.paging.taken y fault has paged)))
          where
            left : is_paged (paging d s) fault ≡ true → (fault.taker ≡ None) ⊎ (holds (serves pager) fault.taker ≡ true) → ⊥
            left paged (inl opened) = idle (Some y) (ready-at Waiting (Some y) (ap (holds (is_paged (paging d s))) has ∙ paged)
                (to-ready (Some y) (stage_of d Waiting) no_words (goes-wait y fault none has paged opened)) same)
            left paged (inr held) = neither _ (ap (is_held_fault d) has ∙ held) (none y)

        by : (ph : Phase) → s.phase ≡ ph → HasTaken d w ph →
            (ph ≡ Waiting) × ((y : Path) (fault : Fault) → fault_at w y ≡ Some fault → is_paged (paging d s) fault ≡ false)
        by (Seeking from) same has = absurd (idle None (ready-at (Seeking from) None refl
            (to-ready None (stage_of d (Seeking from)) no_words
            (goes-next from good.paging.there _ (next_result d.nester d.slot low w no_words good.paging.there from))) same))
        by (Taking page) same has = absurd (idle None (ready-at (Taking page) None refl
            (to-ready None (stage_of d (Taking page)) no_words
            (goes-take page good.paging.there _ (take_result d.nester d.slot low w no_words good.paging.there page 0))) same))
        by Waiting same has = (refl, settled has same)
        by (Looking page) same has = absurd (idle None (ready-at (Looking page) None refl
            (to-ready None (stage_of d (Looking page)) no_words
            (goes-next page good.paging.there _ (next_result d.nester d.slot low w no_words good.paging.there page))) same))
        by (Evicting old page) same has = absurd (idle None (ready-at (Evicting old page) None refl
            (to-ready None (stage_of d (Evicting old page)) no_words
            (goes-take old good.paging.there _ (take_result d.nester d.slot low w no_words good.paging.there old 0))) same))
        by (Giving page) same has = absurd (idle None (ready-at (Giving page) None refl
            (to-ready None (stage_of d (Giving page)) (words_of s (Giving page))
            (goes-give page (words_of s (Giving page)) good.paging.there _
            (give_result d.nester d.slot low w (words_of s (Giving page)) good.paging.there page 0))) same))
        by (Ending page) same has =
            absurd (idle None (ready-at (Ending page) None refl
            (to-ready None (stage_of d (Ending page)) no_words (goes-done _ (done_result d.nester d.slot low w no_words))) same))

pub no_fault_is_left_lem : NoFaultIsLeft
no_fault_is_left_lem d w s low good taken desk idle = ends d low w s desk good taken idle

pub faults_end_at_home_lem : FaultsEndAtHome
faults_end_at_home_lem d w s page good taken same y fault has held =
    let at : IsAt d w s (Ending page) = subst (IsAt d w s) same good.phase in
    let one : HasTaken d w (Ending page) = subst (HasTaken d w) same taken in
    ap (λ k. is_some (w.page (d.slot ∷ d.nester) k)) (one.2 y fault has held) ∙ at.3
