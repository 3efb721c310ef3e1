-- Who comes to a wait: nobody new does, where a change brings nobody.
use Rattle.std.proofs.Common.{◌≡◌, ℕ, ◌==◌, Bool, true, false, nat_le, not, if◌then◌else◌, ◌&&◌, ◌||◌, is_some, ◌∷◌, Option, Some, None, Result, Ok, Err, refl}
use Rattle.std.proofs.Common.{ap, sym, ◌∙◌}
use Rattle.std.proofs.lemmas.Bool.{and_parts}
use Rattle.fk_model.specs.declared.names.Kind.TheVariants as kinds
use Rattle.fk_model.specs.declared.stage.Stage.{Stage}
use Rattle.fk_model.specs.declared.stage.Stage.TheVariants.{Create, Connect}
use Rattle.fk_model.specs.Places.{Path, same_path, parent, slot_of, Ptr}
use Rattle.fk_model.specs.Places.Ptr.{Null, Dead, At, Out, Outside, Far}
use Rattle.fk_model.specs.Objects.{Talk, Fault, Thread, and_then, holds}
use Rattle.fk_model.specs.World.{World, Change, Edit, apply, serves}
use Rattle.fk_model.specs.Searches.{thread_at}
use Rattle.fk_model.specs.declared.limits.TheConstants.{LAST_USER_SLOT}
use Rattle.fk_model.specs.declared.statuses.status.TheConstants.{BADHANDLE}
use Rattle.fk_model.specs.Readers.{and_read, slot_for, handled, handle}
use Rattle.fk_model.specs.Talks.{first_stage}
use Rattle.fk_model.specs.LinkRows.{user_at, if_read, port_named, connecting_to, is_open, is_parked}
use Rattle.laws_waits.specs.Touching.{is_loud, stirs, repoints, regroups}
use Rattle.laws_waits.specs.Stuck.{is_resting, stage_at, is_in, comes_faulting, comes_connecting, comes_resuming, comes_to, is_served_by, BringsNobody}
use Rattle.laws_waits.proofs.Quiet.{turned, IsCalled, quiet_called, quiet_talk, quiet_fault, quiet_resting}
use Rattle.laws_waits.proofs.Kept.{thread-kept, kept-port, kept-handle, is-port, same_handle}

-- ---- tests that imply tests

pub off_by : (a b : Bool) → (a ≡ true → b ≡ true) → b ≡ false → a ≡ false
off_by true b imp h = let on = imp refl in cc
off_by false b imp h = refl

or_imp : (a b c d : Bool) → (a ≡ true → c ≡ true) → (b ≡ true → d ≡ true) → (a || b) ≡ true → (c || d) ≡ true
or_imp true b c d f g h = rw (f refl) refl
or_imp false b true d f g h = refl
or_imp false b false d f g h = g h

and_imp : (a b c d : Bool) → (a ≡ true → c ≡ true) → (b ≡ true → d ≡ true) → (a && b) ≡ true → (c && d) ≡ true
and_imp a b c d f g h = let both = and_parts a b h in rw (f both.0, g both.1) refl

holds_imp : {A : Type 0} (f g : A → Bool) (o : Option A) → ((a : A) → f a ≡ true → g a ≡ true) → holds f o ≡ true → holds g o ≡ true
holds_imp f g None imp h = h
holds_imp f g (Some a) imp h = imp a h

holds_imp_at : {A : Type 0} (f g : A → Bool) (o : Option A) → ((a : A) → o ≡ Some a → f a ≡ true → g a ≡ true) → holds f o ≡ true → holds g o ≡ true
holds_imp_at f g None imp h = h
holds_imp_at f g (Some a) imp h = imp a refl h

not_imp : (a b : Bool) → (a ≡ false → b ≡ false) → not a ≡ true → not b ≡ true
not_imp true b imp h = cc
not_imp false b imp h = rw (imp refl) refl

slot_itself : (h k : ℕ) (space : Path) → slot_for (user_at (0 ∷ space)) h ≡ Ok k → k ≡ h
slot_itself h k space e = by (nat_le h LAST_USER_SLOT) e
  where
    by : (b : Bool) → (if b then Ok h else Err BADHANDLE) ≡ Ok k → k ≡ h
    by true e = cc
    by false e = cc

-- ---- in one world: who comes by a quiet edit came before it

abbrev pub comes_by : World → Path → Path → Thread → Bool
comes_by w z y t = comes_faulting w z t || (not (is_resting t) && (comes_connecting w z y t || comes_resuming w z t))

module _ (v : World) (z y : Path) where
  called : (f : Ptr → Bool) (t u : Thread) → IsCalled t u → holds f (connecting_to v y u) ≡ true → holds f (connecting_to v y t) ≡ true
  called f t u same h = by (is_some u.talk) refl (first_stage u.mode) refl h
    where
      by : (b : Bool) → is_some u.talk ≡ b → (o : Option Stage) → first_stage u.mode ≡ o →
          holds f (if b then None else and_then (port_named v y) o) ≡ true
          → holds f (if is_some t.talk then None else and_then (port_named v y) (first_stage t.mode)) ≡ true
      by true e o g h = cc
      by false e None g h = cc
      by false e (Some (Connect handle)) g h =
          let none = sym same.talk ∙ e in
          let stage = same.stage handle g in
          rw (none, stage) h
      by false e (Some (Create s x kind)) g h = cc
      by false e (Some stage) g h = cc

  quiet_comes : (e : Edit) (t : Thread) → is_loud e t ≡ false → comes_by v z y (turned e t) ≡ true → comes_by v z y t ≡ true
  quiet_comes e t quiet h =
      or_imp _ _ _ _
      (λ g. ap (holds (λ (fault : Fault). is_open fault.taker && is_in v z fault.port)) (sym (quiet_fault e t)) ∙ g)
      (and_imp _ _ _ _
      (not_imp _ _ (quiet_resting e t quiet))
      (or_imp _ _ _ _
      (called (is_in v z) t (turned e t) (quiet_called e t quiet))
      (λ g. sym (quiet_talk (λ talk. is_parked (Some talk.peer) && is_in v z talk.port) (λ talk n. refl) e t) ∙ g))) h

-- ---- from one world to the next

module _ (w : World) (c : Change) (x z : Path) (brings : BringsNobody w c x z) where
  ungrouped : (q : Path) → is_in (apply c w) z (At q) ≡ true → regroups w c q ≡ false
  ungrouped q h = by _ refl
    where
      by : (b : Bool) → regroups w c q ≡ b → b ≡ false
      by true e = let out = brings.ports q e in cc
      by false e = refl

  in_old : (p : Ptr) → is_in (apply c w) z p ≡ true → is_in w z p ≡ true
  in_old (At q) h =
      ap (λ (o : Option (Option ℕ × Bool)). same_path (parent q) (parent z) && holds (λ (port : Option ℕ × Bool). holds (λ k. k == slot_of z) port.0) o)
      (sym (kept-port w c q (ungrouped q h))) ∙ h
  in_old Null h = cc
  in_old Dead h = cc
  in_old (Out slot) h = cc
  in_old Outside h = cc
  in_old Far h = cc

  read_old : (space : Path) (h : ℕ) → repoints w c (h ∷ space) ≡ false → (r : Result Ptr ℕ) →
      handled (apply c w) kinds.Port (h ∷ space) ((apply c w).body (h ∷ space)) ≡ r → holds (is_in (apply c w) z) (if_read r) ≡ true →
      holds (is_in w z) (if_read (handled w kinds.Port (h ∷ space) (w.body (h ∷ space)))) ≡ true
  read_old space h named (Ok p) read inside =
      let now : handled (apply c w) kinds.Port (h ∷ space) (w.body (h ∷ space)) ≡ Ok p = sym (kept-handle (apply c w) w c (h ∷ space) named) ∙ read in
      let was : handled w kinds.Port (h ∷ space) (w.body (h ∷ space)) ≡ Ok p =
      same_handle kinds.Port (apply c w) w (h ∷ space) (w.body (h ∷ space)) p now (λ q led.
      let there : is_in (apply c w) z (At q) ≡ true = ap (is_in (apply c w) z) (sym led) ∙ inside in
      is-port (w.body q) ∙ ap is_some (sym (kept-port w c q (ungrouped q there))) ∙ sym (is-port ((apply c w).body q))) in
      rw was (in_old p inside)
  read_old space h named (Err status) read inside = cc

  -- at a Connect whose handle isn't changed
  port_old : (y : Path) (stage : Stage) → ((h : ℕ) → stage ≡ Connect h → repoints w c (h ∷ parent y) ≡ false) →
      holds (is_in (apply c w) z) (port_named (apply c w) y stage) ≡ true → holds (is_in w z) (port_named w y stage) ≡ true
  unfolding handle
  port_old y (Connect h) named inside = by (slot_for (user_at y) h) refl inside
    where
      by : (r : Result ℕ ℕ) → slot_for (user_at y) h ≡ r →
          holds (is_in (apply c w) z) (if_read (and_read r (λ k. handled (apply c w) kinds.Port (k ∷ parent y) ((apply c w).body (k ∷ parent y))))) ≡ true →
          holds (is_in w z) (if_read (and_read r (λ k. handled w kinds.Port (k ∷ parent y) (w.body (k ∷ parent y))))) ≡ true
      by (Ok k) e inside = let same : k ≡ h = slot_itself h k (parent y) e in
          read_old (parent y) k (rw same (named h refl)) _ refl inside
      by (Err status) e inside = cc
  port_old y (Create s x kind) named inside = cc
  port_old y stage named inside = cc

  call_old : (y : Path) (t : Thread) → ((h : ℕ) → first_stage t.mode ≡ Some (Connect h) → repoints w c (h ∷ parent y) ≡ false) →
      holds (is_in (apply c w) z) (connecting_to (apply c w) y t) ≡ true → holds (is_in w z) (connecting_to w y t) ≡ true
  call_old y t named inside = by (is_some t.talk) (first_stage t.mode) refl inside
    where
      by : (b : Bool) (o : Option Stage) → first_stage t.mode ≡ o
          → holds (is_in (apply c w) z) (if b then None else and_then (port_named (apply c w) y) o) ≡ true →
          holds (is_in w z) (if b then None else and_then (port_named w y) o) ≡ true
      by true o e inside = cc
      by false None e inside = cc
      by false (Some stage) e inside = port_old y stage (λ h g. named h (e ∙ ap Some g)) inside

  world_comes : (y : Path) (t : Thread) → ((h : ℕ) → first_stage t.mode ≡ Some (Connect h) → repoints w c (h ∷ parent y) ≡ false) →
      comes_by (apply c w) z y t ≡ true → comes_by w z y t ≡ true
  world_comes y t named h =
      or_imp _ _ _ _
      (holds_imp _ _ t.fault (λ fault. and_imp _ _ _ _ (λ g. g) (in_old fault.port)))
      (and_imp _ _ _ _ (λ g. g)
      (or_imp _ _ _ _ (call_old y t named)
      (holds_imp _ _ t.talk (λ talk. and_imp _ _ _ _ (λ g. g) (in_old talk.port))))) h

  -- nobody comes who didn't come before
  pub comes-old : (y : Path) → comes_to (apply c w) z y ≡ true → comes_to w z y ≡ true
  comes-old y now = by (stirs w c y) refl (stage_at w y) refl
    where
      still : stirs w c y ≡ false → ((h : ℕ) → stage_at w y ≡ Some (Connect h) → repoints w c (h ∷ parent y) ≡ false) → comes_to w z y ≡ true
      still quiet named = on (thread_at w y) refl (comes_to w z y) refl
        where
          on : (o : Option Thread) → thread_at w y ≡ o → (b : Bool) → holds (comes_by w z y) (thread_at w y) ≡ b → b ≡ true
          on o at true e = refl
          on o at false e =
              let P : Option Thread → Type 0 = λ o. holds (comes_by (apply c w) z y) o ≡ false in
              let before : holds (comes_by (apply c w) z y) (thread_at w y) ≡ false =
              off_by _ _ (holds_imp_at (comes_by (apply c w) z y) (comes_by w z y) (thread_at w y)
              (λ t is. world_comes y t (λ h g. named h (ap (and_then (λ (t : Thread). first_stage t.mode)) is ∙ g)))) e in
              let after = thread-kept P w y (λ edit t is quiet_edit off. off_by _ _ (quiet_comes (apply c w) z y edit t quiet_edit) off) c quiet before in
              absurd (cc)

      by : (b : Bool) → stirs w c y ≡ b → (o : Option Stage) → stage_at w y ≡ o → comes_to w z y ≡ true
      by true e o at = let out = brings.threads y e in absurd (cc)
      by false e (Some (Connect h)) at = handle_by (repoints w c (h ∷ parent y)) refl
        where
          handle_by : (b : Bool) → repoints w c (h ∷ parent y) ≡ b → comes_to w z y ≡ true
          handle_by true g = let out = brings.handles y h at g in absurd (cc)
          handle_by false g = still e (λ j is. let same : h ≡ j = cc in rw (← same) g)
      by false e o at = still e (λ j is. absurd (cc))

  pub comes_none : (y : Path) → comes_to w z y ≡ false → comes_to (apply c w) z y ≡ false
  comes_none y h = off_by _ _ (comes-old y) h

  -- and nobody is served who wasn't
  pub serves_none : (y : Path) → holds (is_served_by x) (thread_at w y) ≡ false → holds (is_served_by x) (thread_at (apply c w) y) ≡ false
  serves_none y h = by (stirs w c y) refl
    where
      served : (e : Edit) (t : Thread) → is_served_by x (turned e t) ≡ is_served_by x t
      served e t =
          ap (λ b. b || holds (λ (fault : Fault). holds (serves x) fault.taker) (turned e t).fault)
          (quiet_talk (λ talk. serves x talk.peer) (λ talk n. refl) e t)
          ∙ ap (λ (o : Option Fault). holds (λ (talk : Talk). serves x talk.peer) t.talk || holds (λ (fault : Fault). holds (serves x) fault.taker) o)
          (quiet_fault e t)

      by : (b : Bool) → stirs w c y ≡ b → holds (is_served_by x) (thread_at (apply c w) y) ≡ false
      by true e = brings.unserved y e
      by false e = thread-kept (λ o. holds (is_served_by x) o ≡ false) w y (λ edit t at quiet off. served edit t ∙ off) c e h
