-- What is read in slots, and by handles, is read alike in a likeness.
use Rattle.std.proofs.Common.{◌≡◌, ℕ, Bool, true, false, cond, leb, eqb, [], ◌∷◌, ◌++◌, Option, Some, None, IfSome, option_map, Result, Ok, Err, refl, sym, ap}
use Rattle.std.proofs.Common.{◌∙◌}
use Rattle.fk_model.specs.declared.limits.TheConstants.{OWN_SPACE}
use Rattle.fk_model.specs.declared.names.Kind.{Kind}
use Rattle.fk_model.specs.declared.names.Kind.TheVariants as kinds
use Rattle.fk_model.specs.declared.statuses.status.TheConstants.{BADHANDLE, WRONGKIND}
use Rattle.fk_model.specs.Places.{Path, Ptr}
use Rattle.fk_model.specs.Places.Ptr.{At, Out}
use Rattle.fk_model.specs.Objects.{Body, kind_of, same_kind, mutex_of, mapping_of, region_of, port_of, space_of, thread_of, reference_of, and_then}
use Rattle.fk_model.specs.Objects.Body.{Mutex, Cond, Mapping, Region, Port, Portset, Space, Thread_of, Reference}
use Rattle.fk_model.specs.World.{World}
use Rattle.fk_model.specs.Outcomes.{Caller, last_slot}
use Rattle.fk_model.specs.Readers.{and_read, slot_for, seen_as, anything, object_in, kind_at, is_kind, led_to, handled, handle, path_at, space_argument}
use Rattle.fk_model.specs.Readers.{referred}
use Rattle.fk_model.specs.SyncRows.{cond_of}
use Rattle.fk_model.specs.LinkRows.{portset_of}
use Rattle.fk_model.specs.Cut.{seen_by, unheld}
use Rattle.laws_subtrees.specs.Cut.Likeness.{seeing, seen_thread, seen_window, seen_extent, PtrLikeness, HasLikeness, IsPlainBody, IsLikeness, under}
use Rattle.laws_subtrees.specs.Cut.Likeness.{AlikeResults}
use Rattle.laws_subtrees.specs.Cut.Likeness.{AlikeOptions, IsBeneath, IsSeenAs, IsSeenHandle, IsSeenBody, IsSeenHolder}
use Rattle.laws_subtrees.specs.Cut.Likeness.PtrLikeness.{Nulls, Deads, Inside, PortAt, PortOut}
use Rattle.laws_subtrees.proofs.InCut.likeness.Alike.{alike_same, alike_or_refuse, alike_and_read, alike_if}

-- ---- what the view of each kind sees of a body, where each pointer that counts has P

module _ (see : Ptr → Ptr) where
  abbrev seen : Body → Body
  seen b = seen_by (seeing see) b

  pub mutex-seen : (b : Body) → mutex_of (seen b) ≡ mutex_of b
  unfolding seen_by
  mutex-seen (Mutex locked) = refl
  mutex-seen b = refl

  pub cond-seen : (b : Body) → cond_of (seen b) ≡ cond_of b
  unfolding seen_by
  cond-seen Cond = refl
  cond-seen b = refl

  pub portset-seen : (b : Body) → portset_of (seen b) ≡ portset_of b
  unfolding seen_by
  portset-seen Portset = refl
  portset-seen b = refl

  pub port-seen : (b : Body) → port_of (seen b) ≡ option_map (λ (port : Option ℕ × Bool). (port.0, false)) (port_of b)
  unfolding seen_by
  port-seen (Port None served) = refl
  port-seen (Port (Some set) served) = refl
  port-seen b = refl

  pub mapping-seen : (b : Body) → mapping_of (seen b) ≡ option_map (seen_window see) (mapping_of b)
  unfolding seen_by
  mapping-seen (Mapping m) = refl
  mapping-seen b = refl

  pub region-seen : (b : Body) → region_of (seen b) ≡ option_map (seen_extent see) (region_of b)
  unfolding seen_by
  region-seen (Region r) = refl
  region-seen b = refl

  pub space-seen : (b : Body) → space_of (seen b) ≡ option_map (and_then (seeing see).holder) (space_of b)
  unfolding seen_by
  space-seen (Space birth holder) = refl
  space-seen b = refl

  pub thread-seen : (b : Body) → thread_of (seen b) ≡ option_map (seen_thread see) (thread_of b)
  unfolding seen_by
  thread-seen (Thread_of t) = refl
  thread-seen b = refl

  pub reference-seen : (b : Body) → reference_of (seen b) ≡ option_map see (reference_of b)
  unfolding seen_by
  reference-seen (Reference to) = refl
  reference-seen b = refl

  pub kind-seen : (q : Path) (b : Body) → kind_of (unheld q (seen b)) ≡ kind_of b
  unfolding seen_by
  kind-seen [] (Mutex locked) = refl
  kind-seen [] b = refl
  kind-seen (k ∷ q) (Mutex locked) = refl
  kind-seen (k ∷ q) b = refl

module _ {root : Path} {see : Ptr → Ptr} {small big : World} (like : IsLikeness root see small big) where
  -- ---- an object in a slot

  slot_for-like : {A B : Type 0} (R : A → B → Type 0) (c : Caller) (k : ℕ) (f : ℕ → Result A ℕ) (g : ℕ → Result B ℕ) →
      ((k : ℕ) → AlikeResults R (f k) (g k)) → AlikeResults R (and_read (slot_for c k) f) (and_read (slot_for (under root c) k) g)
  slot_for-like R c k f g h = by (leb k (last_slot c))
    where
      by : (t : Bool) →
          AlikeResults R (and_read (cond {A = Result ℕ ℕ} t (Ok k) (Err BADHANDLE)) f) (and_read (cond {A = Result ℕ ℕ} t (Ok k) (Err BADHANDLE)) g)
      by true = h k
      by false = refl

  pub object_in-like : {A B : Type 0} (R : A → B → Type 0) (view : Body → Option A) (view_big : Body → Option B) →
      ((b : Body) → IsPlainBody see (HasLikeness root see big) b → AlikeOptions R (view (seen_by (seeing see) b)) (view_big b)) →
      (c : Caller) (s : Path) (k : ℕ) → AlikeResults R (object_in small c view s k) (object_in big (under root c) view_big (s ++ root) k)
  unfolding object_in
  object_in-like R view view_big alike c s k = slot_for-like R c k _ _ (λ k. rw (like.bodies (k ∷ s)) (by k (big.body (k ∷ (s ++ root))) (like.plain k s)))
    where
      by : (k : ℕ) (v : Option Body) → IfSome v (IsPlainBody see (HasLikeness root see big)) →
          AlikeResults R (seen_as view (option_map (λ b. unheld (k ∷ s) (seen_by (seeing see) b)) v)) (seen_as view_big v)
      by k None h = refl
      by k (Some b) h = alike_or_refuse R WRONGKIND (view (seen_by (seeing see) b)) (view_big b) (alike b h)

  -- ---- kinds

  pub kind-there : (q : Path) → and_then (λ b. Some (kind_of b)) (small.body q) ≡ and_then (λ b. Some (kind_of b)) (big.body (q ++ root))
  kind-there q = rw (like.bodies q) (by (big.body (q ++ root)))
    where
      by : (v : Option Body) → and_then (λ b. Some (kind_of b)) (option_map (λ b. unheld q (seen_by (seeing see) b)) v) ≡ and_then (λ b. Some (kind_of b)) v
      by None = refl
      by (Some b) = ap Some (kind-seen see q b)

  pub kind_at-like : (p seen : Ptr) → PtrLikeness root big p seen → kind_at small seen ≡ kind_at big p
  kind_at-like _ _ Nulls = refl
  kind_at-like _ _ Deads = refl
  kind_at-like _ _ (Inside x) = kind-there x
  kind_at-like _ _ (PortAt x slot apart port) = sym port
  kind_at-like _ _ (PortOut old slot) = refl

  -- ---- handles

  pub led_to-like : (wanted : Kind) (p seen : Ptr) →
      PtrLikeness root big p seen → seen ≡ see p → AlikeResults (IsSeenHandle root see big wanted) (led_to small wanted seen) (led_to big wanted p)
  led_to-like wanted _ _ Nulls e = refl
  led_to-like wanted _ _ Deads e = refl
  led_to-like wanted _ _ (Inside x) e =
      rw (kind-there x) (alike_if (IsSeenHandle root see big wanted) _ WRONGKIND (At x) (At (x ++ root)) (λ h. (e, rw (← e) (Inside x), h)))
  led_to-like wanted _ _ (PortAt x slot apart port) e =
      rw port (alike_if (IsSeenHandle root see big wanted)
      _ WRONGKIND (Out slot) (At x) (λ h. (e, rw (← e) (PortAt x slot apart port), ap (is_kind wanted) port ∙ h)))
  led_to-like wanted _ _ (PortOut old slot) e =
      alike_if (IsSeenHandle root see big wanted) _ WRONGKIND (Out slot) (Out old) (λ h. (e, rw (← e) (PortOut old slot), h))

  handled-like : (wanted : Kind) (k : ℕ) (s : Path) (v : Option Body) → big.body (k ∷ (s ++ root)) ≡ v → IfSome v (IsPlainBody see (HasLikeness root see big)) →
      AlikeResults (IsSeenHandle root see big wanted)
      (handled small wanted (k ∷ s) (option_map (λ b. unheld (k ∷ s) (seen_by (seeing see) b)) v)) (handled big wanted (k ∷ (s ++ root)) v)
  unfolding seen_by
  handled-like wanted k s None is h = refl
  handled-like wanted k s (Some (Reference to)) is h = led_to-like wanted to (see to) h refl
  handled-like wanted k s (Some b) is h =
      alike_if (IsSeenHandle root see big wanted) (same_kind wanted (kind_of b)) WRONGKIND (At (k ∷ s)) (At (k ∷ (s ++ root)))
      (λ g. (
        sym (like.within (k ∷ s)),
        rw (like.within (k ∷ s)) (Inside (k ∷ s)),
        ap (λ (o : Option Body). is_kind wanted (and_then (λ b. Some (kind_of b)) o)) is ∙ g,
      ))

  pub handle-like : (c : Caller) (wanted : Kind) (h : ℕ) →
      AlikeResults (IsSeenHandle root see big wanted) (handle small c wanted h) (handle big (under root c) wanted h)
  unfolding handle
  handle-like c wanted h = slot_for-like (IsSeenHandle root see big wanted)
      c h _ _ (λ h. rw (like.bodies (h ∷ c.space)) (handled-like wanted h c.space (big.body (h ∷ (c.space ++ root))) refl (like.plain h c.space)))

  -- a handle of a space leads inside
  path_at-like : (p seen : Ptr) →
      PtrLikeness root big p seen → is_kind kinds.Space (kind_at big p) ≡ true → AlikeResults (IsBeneath root) (path_at seen) (path_at p)
  path_at-like _ _ Nulls h = refl
  path_at-like _ _ Deads h = refl
  path_at-like _ _ (Inside x) h = refl
  path_at-like _ _ (PortAt x slot apart port) h = let none = sym (ap (is_kind kinds.Space) port) ∙ h in cc
  path_at-like _ _ (PortOut old slot) h = refl

  pub place-like : (c : Caller) (s : ℕ) → AlikeResults (IsBeneath root) (space_argument small c s) (space_argument big (under root c) s)
  unfolding space_argument
  place-like c s = by (eqb s OWN_SPACE)
    where
      of_handle : (seen p : Ptr) → IsSeenHandle root see big kinds.Space seen p → AlikeResults (IsBeneath root) (path_at seen) (path_at p)
      of_handle seen p h = rw h.0 (path_at-like p (see p) h.1 h.2)

      by : (t : Bool) → AlikeResults (IsBeneath root) (cond {A = Result Path ℕ} t (Ok c.space) (and_read (handle small c kinds.Space s) path_at))
          (cond {A = Result Path ℕ} t (Ok (c.space ++ root)) (and_read (handle big (under root c) kinds.Space s) path_at))
      by true = refl
      by false = alike_and_read (IsSeenHandle root see big kinds.Space)
          (IsBeneath root) (handle small c kinds.Space s) (handle big (under root c) kinds.Space s) path_at path_at (handle-like c kinds.Space s) of_handle

  -- ---- objects of each kind

  -- a view to which no pointer matters
  pub plain_in-like : {A : Type 0} (view : Body → Option A) → ((b : Body) → view (seen_by (seeing see) b) ≡ view b) →
      (c : Caller) (s : Path) (k : ℕ) → AlikeResults ◌≡◌ (object_in small c view s k) (object_in big (under root c) view (s ++ root) k)
  plain_in-like view same c s k = object_in-like ◌≡◌ view view (λ b h. alike_same (view (seen_by (seeing see) b)) (view b) (same b)) c s k

  pub anything_in-like : (c : Caller) (s : Path) (k : ℕ) →
      AlikeResults (IsSeenBody root see big) (object_in small c anything s k) (object_in big (under root c) anything (s ++ root) k)
  anything_in-like c s k = object_in-like (IsSeenBody root see big) anything anything (λ b h. (refl, h)) c s k

  reference-alike : (b : Body) →
      IsPlainBody see (HasLikeness root see big) b → AlikeOptions (IsSeenAs root see big) (reference_of (seen_by (seeing see) b)) (reference_of b)
  unfolding seen_by
  reference-alike (Reference to) h = (refl, h)
  reference-alike b h = tt

  pub reference_in-like : (c : Caller) (s : Path) (k : ℕ) →
      AlikeResults (IsSeenAs root see big) (object_in small c reference_of s k) (object_in big (under root c) reference_of (s ++ root) k)
  reference_in-like c s k = object_in-like (IsSeenAs root see big) reference_of reference_of reference-alike c s k

  space-alike : (b : Body) →
      IsPlainBody see (HasLikeness root see big) b → AlikeOptions (IsSeenHolder root see big) (space_of (seen_by (seeing see) b)) (space_of b)
  unfolding seen_by
  space-alike (Space birth holder) h = (refl, h)
  space-alike b h = tt

  pub space_in-like : (c : Caller) (s : Path) (k : ℕ) →
      AlikeResults (IsSeenHolder root see big) (object_in small c space_of s k) (object_in big (under root c) space_of (s ++ root) k)
  space_in-like c s k = object_in-like (IsSeenHolder root see big) space_of space_of space-alike c s k

  pub referred-like : (c : Caller) (wanted : Kind) (k : ℕ) →
      AlikeResults (IsSeenHandle root see big wanted) (referred small c wanted k) (referred big (under root c) wanted k)
  unfolding referred
  referred-like c wanted k = alike_and_read (IsSeenAs root see big) (IsSeenHandle root see big wanted)
      _ _ (led_to small wanted) (led_to big wanted) (reference_in-like c c.space k) (λ seen p h. rw h.0 (led_to-like wanted p (see p) h.1 refl))
