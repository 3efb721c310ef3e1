-- More rows that act alike in a likeness: new objects, references, records, holds.
use Rattle.std.proofs.Common.{◌≡◌, ℕ, ◌%◌, eqb, leb, Bool, true, false, cond, not, ◌&&◌, ◌||◌, List, [], ◌∷◌, ◌++◌, Option, Some, None, is_some, refl, sym, ap}
use Rattle.std.specs.List.{list_any}
use Rattle.std.specs.Prelude.{replicate}
use Rattle.fk_model.specs.declared.limits.TheConstants.{PAGE_WORDS, LAST_USER_SLOT, ZEROS}
use Rattle.fk_model.specs.declared.statuses.status.TheConstants as status
use Rattle.fk_model.specs.Places.{Path, same_path, is_within, Ptr}
use Rattle.fk_model.specs.Places.Ptr.{Null, At}
use Rattle.fk_model.specs.Objects.{Thread, Body, space_of, reference_of, is_served}
use Rattle.fk_model.specs.Objects.Mode.{Running}
use Rattle.fk_model.specs.Objects.Body.{Mutex, Cond, Mapping, Region, Port, Portset, Space, Thread_of, Reference}
use Rattle.fk_model.specs.World.{World, Change, apply}
use Rattle.fk_model.specs.World.Change.{Alter, Move}
use Rattle.fk_model.specs.World.Edit.{Finish, SetPointer, SetHolder}
use Rattle.fk_model.specs.Searches.{beneath, has_residents}
use Rattle.fk_model.specs.Reach.{words_at}
use Rattle.fk_model.specs.Holds.{holder_of, is_frozen, is_frozen_for, is_porter}
use Rattle.fk_model.specs.Outcomes.{Outcome, or_refuse, when, Caller, path_of, last_slot, done}
use Rattle.fk_model.specs.Readers.{slot_for, object_in, own_page}
use Rattle.fk_model.specs.Talks.{thread_led_to}
use Rattle.fk_model.specs.TransferRows.{overwritten}
use Rattle.fk_model.specs.Records.{record_of}
use Rattle.fk_model.specs.StateRows.{is_bad_record_address, shows, get_state}
use Rattle.fk_model.specs.SpaceRows.{has_porter, is_held_by_other, space_hold, is_page, is_bad_target, copies, copies_home, page_take, gives_page}
use Rattle.fk_model.specs.SpaceRows.{is_bad_source, page_give}
use Rattle.fk_model.specs.LinkRows.{user_at}
use Rattle.fk_model.specs.ObjectRows.{new_object, create, pointer_to, point, rename}
use Rattle.fk_model.specs.Cut.{seen_by}
use Rattle.fk_model.proofs.walks.PlaceLaws.{same_path_cancel}
use Rattle.laws_subtrees.specs.Cut.Likeness.{seeing, HasLikeness, IsPlainBody, IsLikeness, under, AlikeResults, AlikeOptions, IsSeenAs, IsSeenHolder}
use Rattle.laws_subtrees.specs.Cut.Likeness.{EndLikeness}
use Rattle.laws_subtrees.specs.Cut.Likeness.PtrLikeness.{Nulls, Inside}
use Rattle.laws_subtrees.specs.Cut.Likeness.EndLikeness.{Ends}
use Rattle.laws_subtrees.specs.Cut.LikeChanges.{LikeChange, LikeChanges, IsLikeOutcome}
use Rattle.laws_subtrees.specs.Cut.LikeChanges.LikeChange.{Alters, Makes, MakesSpace, Moves, PutsPage, DropsPage}
use Rattle.laws_subtrees.specs.Cut.LikeChanges.LikeChanges.{Empty, Both}
use Rattle.laws_subtrees.proofs.InCut.likeness.Alike.{alike_same, alike_if, alike_or_refuse, alike-holds}
use Rattle.laws_subtrees.proofs.InCut.likeness.Reads.{place-like, anything_in-like, reference_in-like, space_in-like, object_in-like}
use Rattle.laws_subtrees.proofs.InCut.likeness.Memory.{words_at-like}
use Rattle.laws_subtrees.proofs.InCut.likeness.Holds.{holder_of-like, is_held_by_other-like, is_frozen_for-like}
use Rattle.laws_subtrees.proofs.InCut.likeness.Talks.{thread_at-like}
use Rattle.laws_subtrees.proofs.InCut.likeness.Walks.{is_within_inside, is_taken-like, has_residents-like, any_beneath-like}
use Rattle.laws_subtrees.proofs.InCut.likeness.Records.{record-seen}
use Rattle.laws_subtrees.proofs.InCut.likeness.Outcomes.{bind-like, bind_any, bind_same, bind_path, bind_ptr, bind_body, refuse-like, when-like, done-like}
use Rattle.laws_subtrees.proofs.InCut.likeness.Outcomes.{own_page-like}

-- a new thread
abbrev fresh_thread : Thread
fresh_thread = record { mode = Running (replicate 16 0); counter = 0; stops = 1; talk = None; fault = None }

same_when : {root : Path} {see : Ptr → Ptr} {small big : World} (like : IsLikeness root see small big) (a b : Bool) (near far : Outcome) →
    a ≡ b → IsLikeOutcome root see big near far → IsLikeOutcome root see big (when a near) (when b far)
same_when like a b near far e h = rw e (when-like like b near far h)

module _ {root : Path} {see : Ptr → Ptr} {small big : World} (like : IsLikeness root see small big) where
  abbrev Alike : Outcome → Outcome → Type 0
  Alike = IsLikeOutcome root see big

  pub slot_for-like : (c : Caller) (k : ℕ) → AlikeResults ◌≡◌ (slot_for c k) (slot_for (under root c) k)
  slot_for-like c k = alike_if ◌≡◌ (leb k (last_slot c)) _ k k (λ e. refl)

  null-like : HasLikeness root see big Null
  null-like = rw like.null Nulls

  -- ---- a record

  shows-like : (c : Caller) (b : Body) (address : ℕ) (s : Path) (page : ℕ) →
      Alike (shows small c (seen_by (seeing see) b) address s page) (shows big (under root c) b address (s ++ root) page)
  shows-like c b address s page = rw (words_at-like like s page, record-seen see b)
      (done-like like c _ _ [] (Both (PutsPage s page (overwritten (words_at big (s ++ root) page) (address % PAGE_WORDS) (record_of b))) Empty))

  pub get_state-like : (c : Caller) (s x address : ℕ) → Alike (get_state small c s x address) (get_state big (under root c) s x address)
  unfolding get_state
  get_state-like c s x address =
      bind_path like _ _ _ _ (place-like like c s)
      (λ space. bind_body like _ _ _ _ (anything_in-like like c space x)
      (λ b near. refuse-like like status.BADADDRESS (is_bad_record_address c address) (is_bad_record_address c address) _ _ refl
      (λ good. by b c.is_porter)))
    where
      by : (b : Body) (porter : Bool) →
          Alike (cond porter (done c [] (record_of (seen_by (seeing see) b))) (own_page small c address true (shows small c (seen_by (seeing see) b) address)))
          (cond porter (done (under root c) [] (record_of b)) (own_page big (under root c) address true (shows big (under root c) b address)))
      by b true = rw (record-seen see b) (done-like like c [] [] (record_of b) Empty)
      by b false = own_page-like like c address true _ _ (shows-like c b address)

  -- ---- a hold

  holds_on : (s : Path × Thread) (e : Path × Thread) → EndLikeness root see big s e → is_porter s.1.mode ≡ is_porter e.1.mode
  holds_on _ _ (Ends k q t is near) = refl

  has_porter-like : (k : ℕ) (q : Path) → has_porter small (k ∷ q) ≡ has_porter big (k ∷ (q ++ root))
  has_porter-like k q =
      alike-holds (IsSeenAs root see big) (holder_of (small.body (k ∷ q))) (holder_of (big.body (k ∷ (q ++ root)))) _ _ (holder_of-like like k q)
      (λ seen p h.
      alike-holds (EndLikeness root see big) (thread_led_to small seen) (thread_led_to big p) _ _ (rw h.0 (thread_at-like like p (see p) h.1)) holds_on)

  pub space_hold-like : is_frozen big root ≡ false → (c : Caller) (s x : ℕ) → Alike (space_hold small c s x) (space_hold big (under root c) s x)
  unfolding space_hold
  space_hold-like free c s x =
      bind_path like _ _ _ _ (place-like like c s)
      (λ space. bind_any like (IsSeenHolder root see big)
      (object_in small c space_of space x) (object_in big (under root c) space_of (space ++ root) x) _ _ (space_in-like like c space x)
      (λ near far. refuse-like like status.HELD (is_frozen_for small (path_of c) space)
      (is_frozen_for big (path_of (under root c)) (space ++ root)) _ _ (is_frozen_for-like like free (c.slot ∷ c.space) space)
      (λ unheld. refuse-like like status.DENIED
      (is_within (x ∷ space) c.space) (is_within (x ∷ (space ++ root)) (c.space ++ root)) _ _ (sym (is_within_inside root (x ∷ space) c.space))
      (λ apart. same_when like
      (not (is_held_by_other small (path_of c) (x ∷ space)) && not (list_any (has_porter small) (beneath small (x ∷ space))))
      (not (is_held_by_other big (path_of (under root c)) (x ∷ (space ++ root))) && not (list_any (has_porter big) (beneath big (x ∷ (space ++ root))))) _ _
      (rw (is_held_by_other-like like (c.slot ∷ c.space) x space, any_beneath-like like (has_porter small) (has_porter big) has_porter-like (x ∷ space)) refl)
      (done-like like c _ _ []
      (Both (Alters x space _ (SetHolder (Some (At (c.slot ∷ (c.space ++ root))))) (ap (λ (p : Ptr). SetHolder (Some p)) (sym (like.within (c.slot ∷ c.space))))
      (rw (like.within (c.slot ∷ c.space)) (Inside (c.slot ∷ c.space)))) Empty))))))

  -- ---- a reference

  pointer_seen : (space : Path) (x : ℕ) (b : Body) → IsPlainBody see (HasLikeness root see big) b →
      AlikeOptions (IsSeenAs root see big) (pointer_to (x ∷ space) (seen_by (seeing see) b)) (pointer_to (x ∷ (space ++ root)) b)
  unfolding seen_by
  pointer_seen space x (Reference to) h = (refl, h)
  pointer_seen space x (Mutex locked) h = tt
  pointer_seen space x Cond h = tt
  pointer_seen space x (Mapping m) h = (sym (like.within (x ∷ space)), rw (like.within (x ∷ space)) (Inside (x ∷ space)))
  pointer_seen space x (Region r) h = (sym (like.within (x ∷ space)), rw (like.within (x ∷ space)) (Inside (x ∷ space)))
  pointer_seen space x (Port set served) h = (sym (like.within (x ∷ space)), rw (like.within (x ∷ space)) (Inside (x ∷ space)))
  pointer_seen space x Portset h = tt
  pointer_seen space x (Space birth holder) h = (sym (like.within (x ∷ space)), rw (like.within (x ∷ space)) (Inside (x ∷ space)))
  pointer_seen space x (Thread_of t) h = (sym (like.within (x ∷ space)), rw (like.within (x ∷ space)) (Inside (x ∷ space)))

  pub point-like : is_frozen big root ≡ false → (c : Caller) (s x s2 x2 : ℕ) → Alike (point small c s x s2 x2) (point big (under root c) s x s2 x2)
  unfolding point
  point-like free c s x s2 x2 =
      bind_path like _ _ _ _ (place-like like c s)
      (λ space. bind_any like (IsSeenAs root see big)
      (object_in small c reference_of space x) (object_in big (under root c) reference_of (space ++ root) x) _ _ (reference_in-like like c space x)
      (λ near far. bind_path like _ _ _ _ (place-like like c s2)
      (λ space2. bind_ptr like _ _
      _ _ (object_in-like like (IsSeenAs root see big) (pointer_to (x2 ∷ space2)) (pointer_to (x2 ∷ (space2 ++ root))) (pointer_seen space2 x2) c space2 x2)
      (λ to h. refuse-like like status.HELD (is_frozen_for small (path_of c) (x ∷ space))
      (is_frozen_for big (path_of (under root c)) (x ∷ (space ++ root))) _ _ (is_frozen_for-like like free (c.slot ∷ c.space) (x ∷ space))
      (λ unheld. done-like like c _ _ [] (Both (Alters x space _ (SetPointer to) refl h) Empty))))))

  -- ---- a new object

  new_or : (t : Bool) (a b : Change) (o p : Option Change) →
      LikeChange root see big a b → AlikeOptions (LikeChange root see big) o p → AlikeOptions (LikeChange root see big) (cond t (Some a) o) (cond t (Some b) p)
  new_or true a b o p h g = h
  new_or false a b o p h g = g

  new_object-like : (k : ℕ) (q : Path) (kind : ℕ) → AlikeOptions (LikeChange root see big) (new_object (k ∷ q) kind) (new_object (k ∷ (q ++ root)) kind)
  unfolding seen_by
  new_object-like k q kind =
      new_or (eqb kind 1) _ _ _ _ (Makes k q _ (Mutex false) refl tt)
      (new_or (eqb kind 2) _ _ _ _ (Makes k q _ Cond refl tt)
      (new_or (eqb kind 3) _ _ _ _ (Makes k q (Mapping (record { first = 0; count = 1; offset = 0; write = false; region = Null }))
      (Mapping (record { first = 0; count = 1; offset = 0; write = false; region = Null })) (rw like.null refl) null-like)
      (new_or (eqb kind 4) _ _ _ _ (Makes k q (Region (record { first = 0; count = 1; write = false; keeper = Null }))
      (Region (record { first = 0; count = 1; write = false; keeper = Null })) (rw like.null refl) null-like)
      (new_or (eqb kind 5) _ _ _ _ (Makes k q _ (Port None false) refl refl)
      (new_or (eqb kind 6) _ _ _ _ (Makes k q _ Portset refl tt)
      (new_or (eqb kind 7) _ _ _ _ (MakesSpace k q _ None refl tt)
      (new_or (eqb kind 8) _ _ _ _ (Makes k q _ (Thread_of fresh_thread) refl (tt, tt, refl))
      (new_or (eqb kind 9) _ _ None None (Makes k q (Reference Null) (Reference Null) (rw like.null refl) null-like) tt))))))))

  pub create-like : is_frozen big root ≡ false → (c : Caller) (s x kind : ℕ) → Alike (create small c s x kind) (create big (under root c) s x kind)
  unfolding create
  create-like free c s x kind =
      bind_path like _ _ _ _ (place-like like c s)
      (λ space. bind_any like ◌≡◌ (slot_for c x) (slot_for (under root c) x) _ _ (slot_for-like c x)
      (λ near far. refuse-like like status.HELD (is_frozen_for small (path_of c) space)
      (is_frozen_for big (path_of (under root c)) (space ++ root)) _ _ (is_frozen_for-like like free (c.slot ∷ c.space) space)
      (λ unheld. bind-like like (LikeChange root see big) _ _ _ _ (alike_or_refuse (LikeChange root see big)
      status.WRONGKIND (new_object (x ∷ space) kind) (new_object (x ∷ (space ++ root)) kind) (new_object-like x space kind))
      (λ made making h.
      refuse-like like status.OCCUPIED (is_some (small.body (x ∷ space))) (is_some (big.body (x ∷ (space ++ root)))) _ _ (is_taken-like like (x ∷ space))
      (λ empty. done-like like c (made ∷ []) (making ∷ []) [] (Both h Empty))))))

  -- ---- a page that is taken

  copies-like : (c : Caller) (space : Path) (page : ℕ) (drops : Bool) (words : List ℕ) (s : Path) (own : ℕ) →
      Alike (copies c space page drops words s own) (copies (under root c) (space ++ root) page drops words (s ++ root) own)
  copies-like c space page true words s own = done-like like c _ _ [] (Both (PutsPage s own words) (Both (DropsPage space page) Empty))
  copies-like c space page false words s own = done-like like c _ _ [] (Both (PutsPage s own words) Empty)

  pub copies_home-like : (c : Caller) (space : Path) (page : ℕ) (drops : Bool) (s : Path) (own : ℕ) →
      Alike (copies_home small c space page drops s own) (copies_home big (under root c) (space ++ root) page drops (s ++ root) own)
  copies_home-like c space page drops s own =
      bind_same like (or_refuse status.NONE (small.page space page)) (or_refuse status.NONE (big.page (space ++ root) page)) _ _
      (alike_or_refuse ◌≡◌ status.NONE
      (small.page space page) (big.page (space ++ root) page) (alike_same (small.page space page) (big.page (space ++ root) page) (like.pages space page)))
      (λ words. copies-like c space page drops words s own)

  pub page_take-like : is_frozen big root ≡ false → (k : ℕ) (q : Path) (s page address : ℕ) →
      Alike (page_take small (user_at (k ∷ q)) s page address) (page_take big (user_at (k ∷ (q ++ root))) s page address)
  unfolding page_take
  page_take-like free k q s page address =
      bind_path like _ _ _ _ (place-like like (user_at (k ∷ q)) s)
      (λ space. refuse-like like
      status.HELD (is_frozen_for small (k ∷ q) space) (is_frozen_for big (k ∷ (q ++ root)) (space ++ root)) _ _ (is_frozen_for-like like free (k ∷ q) space)
      (λ unheld. refuse-like like status.BADADDRESS
      (not (is_page page) || is_bad_target (user_at (k ∷ q)) address) (not (is_page page) || is_bad_target (user_at (k ∷ q)) address) _ _ refl
      (λ good. own_page-like like (user_at (k ∷ q)) address true _ _ (λ t own. copies_home-like (user_at (k ∷ q)) space page true t own))))

  -- ---- a page that is given

  gives_page-like : (c : Caller) (space : Path) (page : ℕ) (words : List ℕ) →
      Alike (gives_page small c space page words) (gives_page big (under root c) (space ++ root) page words)
  gives_page-like c space page words =
      refuse-like like status.OCCUPIED (is_some (small.page space page)) (is_some (big.page (space ++ root) page)) _ _
      (ap (λ (o : Option (List ℕ)). is_some o) (like.pages space page))
      (λ empty. done-like like c _ _ [] (Both (PutsPage space page words) Empty))

  pub page_give-like : is_frozen big root ≡ false → (k : ℕ) (q : Path) (s page address : ℕ) →
      Alike (page_give small (user_at (k ∷ q)) s page address) (page_give big (user_at (k ∷ (q ++ root))) s page address)
  unfolding page_give
  page_give-like free k q s page address =
      bind_path like _ _ _ _ (place-like like (user_at (k ∷ q)) s)
      (λ space. refuse-like like
      status.HELD (is_frozen_for small (k ∷ q) space) (is_frozen_for big (k ∷ (q ++ root)) (space ++ root)) _ _ (is_frozen_for-like like free (k ∷ q) space)
      (λ unheld. refuse-like like status.BADADDRESS
      (not (is_page page) || is_bad_source (user_at (k ∷ q)) address) (not (is_page page) || is_bad_source (user_at (k ∷ q)) address) _ _ refl
      (λ good. by space (eqb address ZEROS))))
    where
      by : (space : Path) (b : Bool) → Alike
          (cond b (gives_page small (user_at (k ∷ q)) space page (replicate PAGE_WORDS 0))
          (own_page small (user_at (k ∷ q)) address false (λ s own. gives_page small (user_at (k ∷ q)) space page (words_at small s own))))
          (cond b (gives_page big (user_at (k ∷ (q ++ root))) (space ++ root) page (replicate PAGE_WORDS 0))
          (own_page big (user_at (k ∷ (q ++ root))) address false
          (λ s own. gives_page big (user_at (k ∷ (q ++ root))) (space ++ root) page (words_at big s own))))
      by space true = gives_page-like (user_at (k ∷ q)) space page (replicate PAGE_WORDS 0)
      by space false = own_page-like like (user_at (k ∷ q)) address false _ _
          (λ s own. rw (words_at-like like s own) (gives_page-like (user_at (k ∷ q)) space page (words_at big (s ++ root) own)))

  -- ---- a rename

  finishes : (k j : ℕ) (q z : Path) (b : Bool) (now : World) →
      LikeChanges root see now (Alter (cond b (k ∷ q) (j ∷ z)) (Finish []) ∷ []) (Alter (cond b (k ∷ (q ++ root)) (j ∷ (z ++ root))) (Finish []) ∷ [])
  finishes k j q z true now = Both (Alters k q _ (Finish []) refl tt) Empty
  finishes k j q z false now = Both (Alters j z _ (Finish []) refl tt) Empty

  plain_unserved : (b : Body) → IsPlainBody see (HasLikeness root see big) b → is_served (seen_by (seeing see) b) ≡ is_served b
  unfolding seen_by
  plain_unserved (Port set served) h = sym h
  plain_unserved b h = refl

  pub rename-like : is_frozen big root ≡ false →
      (j : ℕ) (z : Path) (s x y : ℕ) → Alike (rename small (user_at (j ∷ z)) s x y) (rename big (user_at (j ∷ (z ++ root))) s x y)
  unfolding rename
  rename-like free j z s x y =
      bind_path like _ _ _ _ (place-like like (user_at (j ∷ z)) s)
      (λ space. bind_body like _ _ _ _ (anything_in-like like (user_at (j ∷ z)) space x)
      (λ b near. refuse-like like status.HELD (is_frozen_for small (j ∷ z) (x ∷ space))
      (is_frozen_for big (j ∷ (z ++ root)) (x ∷ (space ++ root))) _ _ (is_frozen_for-like like free (j ∷ z) (x ∷ space))
      (λ unheld. refuse-like like status.BADHANDLE (not (leb y LAST_USER_SLOT)) (not (leb y LAST_USER_SLOT)) _ _ refl
      (λ named. refuse-like like status.DENIED (is_served (seen_by (seeing see) b)) (is_served b) _ _ (plain_unserved b near)
      (λ unserved.
      refuse-like like status.OCCUPIED (is_some (small.body (y ∷ space))) (is_some (big.body (y ∷ (space ++ root)))) _ _ (is_taken-like like (y ∷ space))
      (λ empty.
      refuse-like like status.NOTEMPTY (has_residents small (x ∷ space)) (has_residents big (x ∷ (space ++ root))) _ _ (has_residents-like like (x ∷ space))
      (λ alone. Both (Moves x space y) (rw (same_path_cancel (j ∷ z) (x ∷ space) root)
      (finishes y j space z (same_path (j ∷ z) (x ∷ space)) (apply (Move (x ∷ (space ++ root)) y) big))))))))))
