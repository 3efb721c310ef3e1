-- Rows of which nothing is seen from outside act alike in a likeness: state and pointers, searches, holds and stop counts, pages
-- that are read, mutexes and conditions, and stages that only wait.
use Rattle.std.proofs.Common.{◌≡◌, ℕ, ◌-◌, eqb, leb, Bool, true, false, cond, not, ◌&&◌, ◌||◌, List, [], ◌∷◌, ◌++◌, map, flat_map, Option, Some, None, IfSome}
use Rattle.std.proofs.Common.{is_some, option_map, Result, Ok, Err, refl, sym, ap, ◌∙◌}
use Rattle.fk_model.specs.declared.limits.TheConstants.{SLOTS}
use Rattle.fk_model.specs.declared.names.Kind.TheVariants as kinds
use Rattle.fk_model.specs.declared.stage.Stage.{Stage}
use Rattle.fk_model.specs.declared.stage.Stage.TheVariants.{MutexLock, CondAsleep}
use Rattle.fk_model.specs.declared.statuses.status.TheConstants as status
use Rattle.fk_model.specs.declared.thread.Turn.{Turn}
use Rattle.fk_model.specs.declared.thread.Turn.TheVariants as turns
use Rattle.fk_model.specs.Calls.{todo_of}
use Rattle.fk_model.specs.Places.{Path, Ptr, leads_to}
use Rattle.fk_model.specs.Places.Ptr.{Null}
use Rattle.fk_model.specs.Objects.{Peer, Talk, Body, kind_of, number_of_kind, mutex_of, reference_of, space_of, and_then, holds}
use Rattle.fk_model.specs.Objects.Mode.{Running, Halted}
use Rattle.fk_model.specs.Objects.Body.{Mutex, Cond, Mapping, Region, Port, Portset, Space, Thread_of, Reference}
use Rattle.fk_model.specs.World.{World}
use Rattle.fk_model.specs.World.Change.{Alter}
use Rattle.fk_model.specs.World.Edit.{SetPointer, SetHolder, SetStops, SetLocked, SetWindow, SetExtent, SetMember, Proceed, Replace}
use Rattle.fk_model.specs.Searches.{slots, lowest, talk_at, client_of}
use Rattle.fk_model.specs.Reach.{words_at}
use Rattle.fk_model.specs.Holds.{is_frozen, is_frozen_for, is_porter}
use Rattle.fk_model.specs.Outcomes.{Outcome, or_refuse, Caller, path_of, last_slot, done}
use Rattle.fk_model.specs.Outcomes.Outcome.{Waits}
use Rattle.fk_model.specs.Readers.{object_in, handle, own_page, kind_at}
use Rattle.fk_model.specs.Talks.{Line, line_from, line, same_side, other_side}
use Rattle.fk_model.specs.TransferRows.{at_turn, receive, receive_ref}
use Rattle.fk_model.specs.LinkRows.{connect, user_at}
use Rattle.fk_model.specs.SyncRows.{cond_of, mutex_trylock, mutex_unlock, cond_wait, cond_asleep, woken, asleep_on, sleepers, cond_broadcast}
use Rattle.fk_model.specs.SpaceRows.{space_release, thread_go, is_page, is_bad_target, next_page, page_read, page_next}
use Rattle.fk_model.specs.Records.{word, record_registers, calling_by, mode_of_record, set_edits, takes_state}
use Rattle.fk_model.specs.StateRows.{is_native, is_still, sets_record, record_at, is_bad_record_address, set_state, Field, field_of, is_inner, field_number}
use Rattle.fk_model.specs.StateRows.{field_pointer, get_ptr, held_kinds, is_of_kinds, set_ptr}
use Rattle.fk_model.specs.StateRows.Field.{Pointer}
use Rattle.fk_model.specs.ObjectRows.{clear, search as search_row, taken_from, target_of, way_to, kind_number, locate}
use Rattle.fk_model.specs.Cut.{seen_by, unheld}
use Rattle.laws_subtrees.specs.Cut.Likeness.{seeing, PtrLikeness, HasLikeness, IsPlainBody, IsLikeness, under, AlikeResults, AlikeOptions, IsBeneath, IsSeenAs}
use Rattle.laws_subtrees.specs.Cut.Likeness.{IsSeenHandle, IsSeenTalk}
use Rattle.laws_subtrees.specs.Cut.Likeness.PtrLikeness.{Nulls, Deads, Inside, PortAt, PortOut}
use Rattle.laws_subtrees.specs.Cut.LikeChanges.{LikeChanges, IsLikeOutcome}
use Rattle.laws_subtrees.specs.Cut.LikeChanges.LikeChange.{Alters}
use Rattle.laws_subtrees.specs.Cut.LikeChanges.LikeChanges.{Empty, Both}
use Rattle.laws_subtrees.proofs.InCut.likeness.Alike.{alike_same, alike_or_refuse, alike_and_then, alike_cond, alike_lowest, alike-is_some}
use Rattle.laws_subtrees.proofs.InCut.likeness.Reads.{mutex-seen, cond-seen, kind-seen, kind_at-like, handle-like, place-like, plain_in-like, anything_in-like}
use Rattle.laws_subtrees.proofs.InCut.likeness.Reads.{reference_in-like, space_in-like}
use Rattle.laws_subtrees.proofs.InCut.likeness.Memory.{words_at-like, next_page-like}
use Rattle.laws_subtrees.proofs.InCut.likeness.Holds.{leads_to-like, is_frozen_for-like, is_decided_by-like}
use Rattle.laws_subtrees.proofs.InCut.likeness.Talks.{talk_at-like}
use Rattle.laws_subtrees.proofs.InCut.likeness.Walks.{way_to-like, asleep_on-like}
use Rattle.laws_subtrees.proofs.InCut.likeness.Records.{set_edits-seen, held_kinds-seen, is_native-seen, is_inner-seen, field_number-like, takes_state-like}
use Rattle.laws_subtrees.proofs.InCut.likeness.Outcomes.{append-like, bind-like, bind_any, bind_same, bind_path, bind_ptr, bind_body, bind_holder, bind_end}
use Rattle.laws_subtrees.proofs.InCut.likeness.Outcomes.{refuse-like}
use Rattle.laws_subtrees.proofs.InCut.likeness.Outcomes.{done-like, own_page-like}
use Rattle.laws_subtrees.proofs.InCut.likeness.Rows.{thread_by-like}
use Rattle.laws_subtrees.proofs.InCut.likeness.ObjectRows.{copies_home-like}

-- a record makes nobody a porter
pub no_porter : (n : ℕ) (g : List ℕ) (code : ℕ) → is_porter (mode_of_record n g code) ≡ false
no_porter n g code = by (eqb n 0) (eqb n 1)
  where
    calls : (o : Option (List Stage)) → is_porter (calling_by g o) ≡ false
    calls None = refl
    calls (Some todo) = refl

    by : (a b : Bool) → is_porter (cond a (Running g) (cond b (calling_by g (todo_of g)) (Halted g code))) ≡ false
    by true b = refl
    by false true = calls (todo_of g)
    by false false = refl

module _ {root : Path} {see : Ptr → Ptr} {small big : World} (like : IsLikeness root see small big) where
  abbrev Alike : Outcome → Outcome → Type 0
  Alike = IsLikeOutcome root see big

  -- ---- mutexes and conditions

  pub mutex_trylock-like : (c : Caller) (m : ℕ) → Alike (mutex_trylock small c m) (mutex_trylock big (under root c) m)
  unfolding mutex_trylock
  mutex_trylock-like c m =
      bind_same like _ _ _ _ (plain_in-like like mutex_of (mutex-seen see) c c.space m)
      (λ locked. refuse-like like status.NONE locked locked _ _ refl
      (λ free. done-like like c _ _ [] (Both (Alters m c.space (SetLocked true) (SetLocked true) refl tt) Empty)))

  pub mutex_unlock-like : (c : Caller) (m : ℕ) → Alike (mutex_unlock small c m) (mutex_unlock big (under root c) m)
  unfolding mutex_unlock
  mutex_unlock-like c m =
      bind_same like _ _ _ _ (plain_in-like like mutex_of (mutex-seen see) c c.space m)
      (λ locked. refuse-like like status.NOTLOCKED (not locked) (not locked) _ _ refl
      (λ taken. done-like like c _ _ [] (Both (Alters m c.space (SetLocked false) (SetLocked false) refl tt) Empty)))

  pub cond_wait-like : (c : Caller) (cond m : ℕ) → Alike (cond_wait small c cond m) (cond_wait big (under root c) cond m)
  unfolding cond_wait
  cond_wait-like c slot m =
      bind_any like ◌≡◌ _ _ _ _ (plain_in-like like cond_of (cond-seen see) c c.space slot)
      (λ a b. bind_same like _ _ _ _ (plain_in-like like mutex_of (mutex-seen see) c c.space m)
      (λ locked. refuse-like like status.NOTLOCKED (not locked) (not locked) _ _ refl
      (λ taken. Both (Alters m c.space (SetLocked false) (SetLocked false) refl tt)
      (Both (Alters c.slot c.space (Replace (CondAsleep slot m)) (Replace (CondAsleep slot m)) refl tt) Empty))))

  pub cond_asleep-like : (c : Caller) (cond m : ℕ) → Alike (cond_asleep small c cond m) (cond_asleep big (under root c) cond m)
  unfolding cond_asleep
  cond_asleep-like c slot m =
      bind_any like ◌≡◌ _ _ _ _ (plain_in-like like cond_of (cond-seen see) c c.space slot)
      (λ a b. bind_any like ◌≡◌ _ _ _ _ (plain_in-like like mutex_of (mutex-seen see) c c.space m) (λ a b. tt))

  woken-like : (k : ℕ) (q : Path) (m n : Option ℕ) (v : World) → m ≡ n → LikeChanges root see v (woken (k ∷ q) m) (woken (k ∷ (q ++ root)) n)
  woken-like k q m None v e = rw e Empty
  woken-like k q m (Some lock) v e = rw e (Both (Alters k q (Replace (MutexLock lock)) (Replace (MutexLock lock)) refl tt) Empty)

  all_woken : (q : Path) (slot : ℕ) (ks : List ℕ) (v : World) → LikeChanges root see v (flat_map (λ k. woken (k ∷ q) (asleep_on slot (small.body (k ∷ q)))) ks)
      (flat_map (λ k. woken (k ∷ (q ++ root)) (asleep_on slot (big.body (k ∷ (q ++ root))))) ks)
  all_woken q slot [] v = Empty
  all_woken q slot (k ∷ ks) v = append-like (woken-like k q _ _ v (asleep_on-like like slot k q)) (all_woken q slot ks _)

  pub sleepers-like : (q : Path) (slot : ℕ) → LikeChanges root see big (sleepers small q slot) (sleepers big (q ++ root) slot)
  unfolding sleepers
  sleepers-like q slot = all_woken q slot (slots SLOTS) big

  pub cond_broadcast-like : (c : Caller) (cond : ℕ) → Alike (cond_broadcast small c cond) (cond_broadcast big (under root c) cond)
  unfolding cond_broadcast
  cond_broadcast-like c slot =
      bind_any like ◌≡◌ _ _ _ _ (plain_in-like like cond_of (cond-seen see) c c.space slot) (λ a b. done-like like c _ _ [] (sleepers-like c.space slot))

  -- ---- holds and stop counts

  released : (me : Path) (holder : Option Ptr) →
      IfSome holder (HasLikeness root see big) → holds (leads_to me) (and_then (seeing see).holder holder) ≡ holds (leads_to (me ++ root)) holder
  released me None h = refl
  released me (Some p) h = leads_to-like root big me p (see p) h

  pub space_release-like : is_frozen big root ≡ false → (c : Caller) (s x : ℕ) → Alike (space_release small c s x) (space_release big (under root c) s x)
  unfolding space_release
  space_release-like free c s x =
      bind_path like _ _ _ _ (place-like like c s)
      (λ space.
      bind_holder like (object_in small c space_of space x) (object_in big (under root c) space_of (space ++ root) x) _ _ (space_in-like like c space x)
      (λ holder h. refuse-like like status.HELD (is_frozen_for small (path_of c) space)
      (is_frozen_for big (path_of (under root c)) (space ++ root)) _ _ (is_frozen_for-like like free (c.slot ∷ c.space) space)
      (λ unheld. refuse-like like status.DENIED (not (holds (leads_to (path_of c)) (and_then (seeing see).holder holder)))
      (not (holds (leads_to (path_of (under root c))) holder)) _ _ (ap not (released (c.slot ∷ c.space) holder h))
      (λ own. done-like like c _ _ [] (Both (Alters x space (SetHolder None) (SetHolder None) refl tt) Empty)))))

  pub thread_go-like : is_frozen big root ≡ false → (c : Caller) (h : ℕ) → Alike (thread_go small c h) (thread_go big (under root c) h)
  unfolding thread_go
  thread_go-like free c h =
      bind_end like _ _ _ _ (thread_by-like like c h)
      (λ k q t is near. refuse-like like status.HELD _ _ _ _ (is_frozen_for-like like free (c.slot ∷ c.space) (k ∷ q))
      (λ held. refuse-like like status.NOTSTOPPED (eqb t.stops 0) (eqb t.stops 0) _ _ refl
      (λ few. done-like like c _ _ [] (Both (Alters k q (SetStops (t.stops - 1)) (SetStops (t.stops - 1)) refl tt) Empty))))

  -- ---- pages

  pub page_read-like : (k : ℕ) (q : Path) (s page address : ℕ) →
      Alike (page_read small (user_at (k ∷ q)) s page address) (page_read big (user_at (k ∷ (q ++ root))) s page address)
  unfolding page_read
  page_read-like k q s page address =
      bind_path like _ _ _ _ (place-like like (user_at (k ∷ q)) s)
      (λ space. refuse-like like status.BADADDRESS
      (not (is_page page) || is_bad_target (user_at (k ∷ q)) address) (not (is_page page) || is_bad_target (user_at (k ∷ q)) address) _ _ refl
      (λ good. own_page-like like (user_at (k ∷ q)) address true _ _ (λ t own. copies_home-like like (user_at (k ∷ q)) space page false t own)))

  pub page_next-like : (c : Caller) (s from : ℕ) → Alike (page_next small c s from) (page_next big (under root c) s from)
  unfolding page_next
  page_next-like c s from =
      bind_path like _ _ _ _ (place-like like c s)
      (λ space. bind_same like (or_refuse status.NONE (next_page small space from)) (or_refuse status.NONE (next_page big (space ++ root) from)) _ _
      (alike_or_refuse ◌≡◌ status.NONE (next_page small space from) (next_page big (space ++ root) from) (alike_same _ _ (next_page-like like space from)))
      (λ page. done-like like c [] [] (page ∷ []) Empty))

  -- ---- searches

  numbered : (space : Path) (k : ℕ) → option_map {U = ℕ × ℕ}
      (λ b. (k, number_of_kind (kind_of b))) (small.body (k ∷ space)) ≡ option_map (λ b. (k, number_of_kind (kind_of b))) (big.body (k ∷ (space ++ root)))
  numbered space k = rw (like.bodies (k ∷ space)) (by (big.body (k ∷ (space ++ root))))
    where
      by : (o : Option Body) → option_map {U = ℕ × ℕ} (λ b. (k, number_of_kind (kind_of b)))
          (option_map (λ b. unheld (k ∷ space) (seen_by (seeing see) b)) o) ≡ option_map (λ b. (k, number_of_kind (kind_of b))) o
      by None = refl
      by (Some b) = rw (kind-seen see (k ∷ space) b) refl

  taken-like : (space : Path) (last from k : ℕ) → taken_from small space last from k ≡ taken_from big (space ++ root) last from k
  taken-like space last from k = ap (λ (o : Option (ℕ × ℕ)). cond (leb from k && leb k last) o None) (numbered space k)

  pub search-like : (c : Caller) (s from : ℕ) → Alike (search_row small c s from) (search_row big (under root c) s from)
  unfolding search_row
  search-like c s from =
      bind_path like _ _ _ _ (place-like like c s)
      (λ space. bind_same like (or_refuse status.NONE (lowest SLOTS (taken_from small space (last_slot c) from)))
      (or_refuse status.NONE (lowest SLOTS (taken_from big (space ++ root) (last_slot c) from))) _ _
      (alike_or_refuse ◌≡◌ status.NONE _ _ (alike_lowest ◌≡◌ SLOTS _ _ (λ k. alike_same _ _ (taken-like space (last_slot c) from k))))
      (λ found. done-like like c [] [] (found.0 ∷ found.1 ∷ []) Empty))

  followed-like : (p seen : Ptr) → PtrLikeness root big p seen → seen ≡ see p → AlikeResults (IsSeenAs root see big) (target_of seen) (target_of p)
  followed-like _ _ Nulls e = refl
  followed-like _ _ Deads e = refl
  followed-like _ _ (Inside x) e = (e, rw (← e) (Inside x))
  followed-like _ _ (PortAt x slot apart port) e = (e, rw (← e) (PortAt x slot apart port))
  followed-like _ _ (PortOut old slot) e = (e, rw (← e) (PortOut old slot))

  pub locate-like : (c : Caller) (reference s : ℕ) → Alike (locate small c reference s) (locate big (under root c) reference s)
  unfolding locate
  locate-like c reference s =
      bind_ptr like _ _ _ _ (reference_in-like like c c.space reference)
      (λ p h. bind_path like _ _ _ _ (place-like like c s)
      (λ space. bind_ptr like (target_of (see p)) (target_of p) _ _ (followed-like p (see p) h refl)
      (λ to there. bind_same like (or_refuse status.NONE (way_to space (see to))) (or_refuse status.NONE (way_to (space ++ root) to))
      _ _ (alike_or_refuse ◌≡◌ status.NONE _ _ (alike_same _ _ (way_to-like root big space to (see to) there)))
      (λ way. rw (kind_at-like like to (see to) there) (done-like like c [] [] (way ++ kind_number (kind_at big to) ∷ []) Empty)))))

  -- ---- references and pointers

  null-like : HasLikeness root see big Null
  null-like = rw like.null Nulls

  pub clear-like : is_frozen big root ≡ false → (c : Caller) (s x : ℕ) → Alike (clear small c s x) (clear big (under root c) s x)
  unfolding clear
  clear-like free c s x =
      bind_path like _ _ _ _ (place-like like c s)
      (λ space. bind_any like (IsSeenAs root see big)
      (object_in small c reference_of space x) (object_in big (under root c) reference_of (space ++ root) x) _ _ (reference_in-like like c space x)
      (λ near far. refuse-like like status.HELD (is_frozen_for small (path_of c) (x ∷ space))
      (is_frozen_for big (path_of (under root c)) (x ∷ (space ++ root))) _ _ (is_frozen_for-like like free (c.slot ∷ c.space) (x ∷ space))
      (λ unheld. done-like like c _ _ [] (Both (Alters x space (SetPointer Null) (SetPointer Null) (ap SetPointer (sym like.null)) null-like) Empty))))

  -- a pointer field is the same, where users may see it
  abbrev FieldLike : Field → Field → Type 0
  FieldLike seen field = (p : Ptr) × (field ≡ Pointer p) × (seen ≡ Pointer (see p)) × HasLikeness root see big p

  abbrev ShownLike : Body → Field → Field → Type 0
  ShownLike b seen field = is_inner b ≡ false → FieldLike seen field

  hidden : (b : Body) (seen field : Field) → is_inner b ≡ true → ShownLike b seen field
  hidden b seen field inner shown = let clash : true ≡ false = sym inner ∙ shown in cc

  either_field : (b : Body) (test : Bool) (x y : Field) (o p : Option Field) →
      ShownLike b x y → AlikeOptions (ShownLike b) o p → AlikeOptions (ShownLike b) (cond test (Some x) o) (cond test (Some y) p)
  either_field b true x y o p h g = h
  either_field b false x y o p h g = g

  fields-like : (n : ℕ) (b : Body) →
      IsPlainBody see (HasLikeness root see big) b → AlikeOptions (ShownLike b) (field_of n (seen_by (seeing see) b)) (field_of n b)
  unfolding seen_by
  fields-like n (Mapping m) h = alike_cond (ShownLike (Mapping m)) (eqb n 0) (Pointer (see m.region)) (Pointer m.region) (λ shown. (m.region, refl, refl, h))
  fields-like n (Region r) h = alike_cond (ShownLike (Region r)) (eqb n 0) (Pointer (see r.keeper)) (Pointer r.keeper) (λ shown. (r.keeper, refl, refl, h))
  fields-like n (Reference to) h = alike_cond (ShownLike (Reference to)) (eqb n 0) (Pointer (see to)) (Pointer to) (λ shown. (to, refl, refl, h))
  fields-like n (Space birth holder) h = alike_cond (ShownLike (Space birth holder)) (eqb n 0) _ _ (hidden (Space birth holder) _ _ refl)
  fields-like n (Thread_of t) h =
      either_field (Thread_of t) (eqb n 0) _ _ _ _ (hidden (Thread_of t) _ _ refl) (either_field (Thread_of t) (eqb n 1) _ _ _ _ (hidden (Thread_of t) _ _ refl)
      (either_field (Thread_of t)
      (eqb n 2) _ _ _ _ (hidden (Thread_of t) _ _ refl) (either_field (Thread_of t) (eqb n 3) _ _ None None (hidden (Thread_of t) _ _ refl) tt)))
  fields-like n (Mutex locked) h = tt
  fields-like n Cond h = tt
  fields-like n (Port set served) h = tt
  fields-like n Portset h = tt

  pub get_ptr-like : (k : ℕ) (q : Path) (s x field reference : ℕ) →
      Alike (get_ptr small (user_at (k ∷ q)) s x field reference) (get_ptr big (user_at (k ∷ (q ++ root))) s x field reference)
  unfolding get_ptr
  get_ptr-like k q s x field reference =
      bind_path like _ _ _ _ (place-like like (user_at (k ∷ q)) s)
      (λ space. bind_body like _ _ _ _ (anything_in-like like (user_at (k ∷ q)) space x)
      (λ b near. bind_any like (IsSeenAs root see big) (object_in small (user_at (k ∷ q)) reference_of q reference)
      (object_in big (user_at (k ∷ (q ++ root))) reference_of (q ++ root) reference) _ _ (reference_in-like like (user_at (k ∷ q)) q reference)
      (λ one other. bind-like like (ShownLike b) (or_refuse status.BADSTATE (field_of field (seen_by (seeing see) b)))
      (or_refuse status.BADSTATE (field_of field b)) _ _ (alike_or_refuse (ShownLike b) status.BADSTATE _ _ (fields-like field b near))
      (λ seen found shown. refuse-like like status.DENIED (is_inner (seen_by (seeing see) b)) (is_inner b) _ _ (is_inner-seen see b)
      (λ outer. gets seen found (shown outer))))))
    where
      gets : (seen found : Field) → FieldLike seen found →
          Alike (done (user_at (k ∷ q)) (Alter (reference ∷ q) (SetPointer (field_pointer seen)) ∷ []) (field_number seen ∷ []))
          (done (user_at (k ∷ (q ++ root))) (Alter (reference ∷ (q ++ root)) (SetPointer (field_pointer found)) ∷ []) (field_number found ∷ []))
      gets seen found is = rw (is.1, is.2) (rw (field_number-like like is.0 (see is.0) is.3) (done-like like
          (user_at (k ∷ q)) _ _ (field_number (Pointer is.0) ∷ []) (Both (Alters reference q (SetPointer (see is.0)) (SetPointer is.0) refl is.3) Empty)))

  pub set_ptr-like : is_frozen big root ≡ false →
      (c : Caller) (s x field reference : ℕ) → Alike (set_ptr small c s x field reference) (set_ptr big (under root c) s x field reference)
  unfolding set_ptr
  set_ptr-like free c s x field reference =
      bind_path like _ _ _ _ (place-like like c s)
      (λ space. bind_body like _ _ _ _ (anything_in-like like c space x)
      (λ b near. bind_ptr like _ _ _ _ (reference_in-like like c c.space reference)
      (λ to h. refuse-like like status.HELD (is_frozen_for small (path_of c) (x ∷ space))
      (is_frozen_for big (path_of (under root c)) (x ∷ (space ++ root))) _ _ (is_frozen_for-like like free (c.slot ∷ c.space) (x ∷ space))
      (λ unheld. bind_any like (ShownLike b) (or_refuse status.BADSTATE (field_of field (seen_by (seeing see) b)))
      (or_refuse status.BADSTATE (field_of field b)) _ _ (alike_or_refuse (ShownLike b) status.BADSTATE _ _ (fields-like field b near))
      (λ seen found. refuse-like like status.DENIED (is_inner (seen_by (seeing see) b)) (is_inner b) _ _ (is_inner-seen see b)
      (λ outer. refuse-like like status.WRONGKIND (not (is_of_kinds (held_kinds (seen_by (seeing see) b)) (kind_at small (see to))))
      (not (is_of_kinds (held_kinds b) (kind_at big to))) _ _ (rw (held_kinds-seen see b, kind_at-like like to (see to) h) refl)
      (λ fits. done-like like c _ _ [] (Both (Alters x space (SetPointer (see to)) (SetPointer to) refl h) Empty))))))))

  -- ---- a record that is set

  edits-like : (k : ℕ) (q : Path) (b : Body) (words : List ℕ) →
      LikeChanges root see big (map (Alter (k ∷ q)) (set_edits b words)) (map (Alter (k ∷ (q ++ root))) (set_edits b words))
  edits-like k q (Mutex locked) words = Both (Alters k q _ (SetLocked (eqb (word words 1) 1)) refl tt) Empty
  edits-like k q (Mapping m) words = Both (Alters k q _ (SetWindow (word words 1) (word words 2) (word words 3) (eqb (word words 4) 1)) refl tt) Empty
  edits-like k q (Region r) words = Both (Alters k q _ (SetExtent (word words 1) (word words 2) (eqb (word words 3) 1)) refl tt) Empty
  edits-like k q (Port set served) words = Both (Alters k q _ (SetMember _) refl tt) Empty
  edits-like k q (Thread_of t) words =
      Both (Alters k q _ (Proceed (mode_of_record (word words 18) (record_registers words) (word words 19)) (word words 17))
      refl (no_porter (word words 18) (record_registers words) (word words 19))) (Both (Alters k q _ (SetStops (word words 20)) refl tt) Empty)
  edits-like k q Cond words = Empty
  edits-like k q Portset words = Empty
  edits-like k q (Space birth holder) words = Empty
  edits-like k q (Reference to) words = Empty

  still-like : is_frozen big root ≡ false →
      (c : Caller) (k : ℕ) (q : Path) (b : Body) → is_still small c (k ∷ q) (seen_by (seeing see) b) ≡ is_still big (under root c) (k ∷ (q ++ root)) b
  unfolding seen_by
  still-like free c k q (Thread_of t) = ap (λ (d : Bool). not (eqb t.stops 0) || d) (is_decided_by-like like free (c.slot ∷ c.space) (k ∷ q))
  still-like free c k q b = refl

  sets-like : is_frozen big root ≡ false → (c : Caller) (space : Path) (x : ℕ) (b : Body) (words : List ℕ) →
      IsPlainBody see (HasLikeness root see big) b → Alike (sets_record small c space (x ∷ space) (seen_by (seeing see) b) words)
      (sets_record big (under root c) (space ++ root) (x ∷ (space ++ root)) b words)
  sets-like free c space x b words near =
      refuse-like like status.NOTSTOPPED (not (is_still small c (x ∷ space) (seen_by (seeing see) b)))
      (not (is_still big (under root c) (x ∷ (space ++ root)) b)) _ _ (ap not (still-like free c x space b))
      (λ still. refuse-like like status.BADSTATE (not (takes_state small space (seen_by (seeing see) b) words))
      (not (takes_state big (space ++ root) b words)) _ _ (ap not (takes_state-like like space b words near))
      (λ takes. rw (set_edits-seen see b words) (done-like like c _ _ [] (edits-like x space b words))))

  pub set_state-like : is_frozen big root ≡ false →
      (c : Caller) (s x address : ℕ) → Alike (set_state small c s x address) (set_state big (under root c) s x address)
  unfolding set_state
  set_state-like free c s x address =
      bind_path like _ _ _ _ (place-like like c s)
      (λ space. bind_body like _ _ _ _ (anything_in-like like c space x)
      (λ b near. refuse-like like status.HELD (is_frozen_for small (path_of c) (x ∷ space))
      (is_frozen_for big (path_of (under root c)) (x ∷ (space ++ root))) _ _ (is_frozen_for-like like free (c.slot ∷ c.space) (x ∷ space))
      (λ unheld. refuse-like like status.DENIED (is_native (seen_by (seeing see) b)) (is_native b) _ _ (is_native-seen see b)
      (λ user. refuse-like like status.BADADDRESS (is_bad_record_address c address) (is_bad_record_address c address) _ _ refl
      (λ good. by space b near c.is_porter)))))
    where
      by : (space : Path) (b : Body) → IsPlainBody see (HasLikeness root see big) b →
          (porter : Bool) → Alike (cond porter (sets_record small c space (x ∷ space) (seen_by (seeing see) b) c.words) (own_page small
          c address false (λ s page. sets_record small c space (x ∷ space) (seen_by (seeing see) b) (record_at (words_at small s page) address))))
          (cond porter (sets_record big (under root c) (space ++ root) (x ∷ (space ++ root)) b c.words) (own_page big (under root c)
          address false (λ s page. sets_record big (under root c) (space ++ root) (x ∷ (space ++ root)) b (record_at (words_at big s page) address))))
      by space b near true = sets-like free c space x b c.words near
      by space b near false = own_page-like like
          c address false _ _ (λ s page. rw (words_at-like like s page) (sets-like free c space x b (record_at (words_at big (s ++ root) page) address) near))

  -- ---- stages that only wait, or are refused

  pub connect-like : (c : Caller) (h : ℕ) → Alike (connect small c h) (connect big (under root c) h)
  unfolding connect
  connect-like c h =
      bind_any like
      (IsSeenHandle root see big kinds.Port) (handle small c kinds.Port h) (handle big (under root c) kinds.Port h) _ _ (handle-like like c kinds.Port h)
      (λ near far. refuse-like like status.LINKED (is_some (talk_at small (path_of c))) (is_some (talk_at big (path_of (under root c)))) _ _ (alike-is_some
      (IsSeenTalk root see big) (talk_at small (c.slot ∷ c.space)) (talk_at big (c.slot ∷ (c.space ++ root))) (talk_at-like like (c.slot ∷ c.space)))
      (λ alone. tt))

  -- lines at the same turn
  abbrev AtTurn : Line → Line → Type 0
  AtTurn near far = near.talk.turn ≡ far.talk.turn

  turned : (turn : Turn) (a b : Option Line) → AlikeOptions AtTurn a b → AlikeResults (λ (near far : Line). Unit {0}) (at_turn turn a) (at_turn turn b)
  turned turn None None h = refl
  turned turn (Some near) (Some far) h = by (same_side near.talk.turn turn) (same_side far.talk.turn turn) (ap (λ (side : Turn). same_side side turn) h)
    where
      by : (a b : Bool) → a ≡ b → AlikeResults (λ (near far : Line). Unit {0})
          (cond {A = Result Line ℕ} a (Ok near) (Err status.WRONGTURN)) (cond {A = Result Line ℕ} b (Ok far) (Err status.WRONGTURN))
      by true true e = tt
      by false false e = refl
      by true false e = cc
      by false true e = cc
  turned turn None (Some far) h = absurd h
  turned turn (Some near) None h = absurd h

  from_talk : (near far : Path) (f g : Talk → Peer) (o p : Option Talk) →
      AlikeOptions (IsSeenTalk root see big) o p → AlikeOptions AtTurn (line_from near f o) (line_from far g p)
  from_talk near far f g None None h = tt
  from_talk near far f g (Some seen) (Some talk) h = ap (λ (t : Talk). t.turn) h.0
  from_talk near far f g None (Some talk) h = absurd h
  from_talk near far f g (Some seen) None h = absurd h

  pub client_turns : (k : ℕ) (q : Path) → AlikeOptions AtTurn (line small (k ∷ q) turns.Client) (line big (k ∷ (q ++ root)) turns.Client)
  unfolding line
  client_turns k q = from_talk _ _ _ _ (talk_at small (k ∷ q)) (talk_at big (k ∷ (q ++ root))) (talk_at-like like (k ∷ q))

  pub server_turns : (me : Path) → AlikeOptions (IsBeneath root) (client_of small me) (client_of big (me ++ root)) →
      AlikeOptions AtTurn (line small me turns.Server) (line big (me ++ root) turns.Server)
  unfolding line
  server_turns me found = alike_and_then (IsBeneath root) AtTurn (client_of small me) (client_of big (me ++ root))
      _ _ found (λ client there h. rw h (from_talk _ _ _ _ (talk_at small client) (talk_at big (client ++ root)) (talk_at-like like client)))

  pub receive-like : (c : Caller) (side : Turn) (into room : ℕ) → AlikeOptions AtTurn (line small (path_of c) side) (line big (path_of (under root c)) side) →
      Alike (receive small c side into room) (receive big (under root c) side into room)
  unfolding receive
  receive-like c side into room lines =
      bind_any like (λ (near far : Line). Unit {0}) (at_turn (other_side side) (line small (path_of c) side))
      (at_turn (other_side side) (line big (path_of (under root c)) side)) _ _ (turned (other_side side) _ _ lines)
      (λ near far. by (eqb room 0))
    where
      by : (b : Bool) →
          Alike (cond b Waits (own_page small c into true (λ s page. Waits))) (cond b Waits (own_page big (under root c) into true (λ s page. Waits)))
      by true = tt
      by false = own_page-like like c into true _ _ (λ s page. tt)

  pub receive_ref-like : (c : Caller) (side : Turn) (into room reference : ℕ) →
      AlikeOptions AtTurn (line small (path_of c) side) (line big (path_of (under root c)) side) →
      Alike (receive_ref small c side into room reference) (receive_ref big (under root c) side into room reference)
  unfolding receive_ref
  receive_ref-like c side into room reference lines =
      bind_any like (IsSeenAs root see big) (object_in small c reference_of c.space reference)
      (object_in big (under root c) reference_of (c.space ++ root) reference)
      _ _ (reference_in-like like c c.space reference) (λ near far. receive-like c side into room lines)
