-- What a change keeps of a world: threads that it doesn't stir, kinds of what it doesn't remake, pages that it doesn't take.
use Rattle.std.proofs.Common.{◌≡◌, ℕ, Bool, true, false, if◌then◌else◌, ◌&&◌, ◌==◌, is_some, List, ◌∷◌, Option, Some, None, option_map, Ok, Err, refl, ap, sym}
use Rattle.std.proofs.Common.{subst, ◌∙◌}
use Rattle.fk_model.specs.declared.names.Kind.{Kind}
use Rattle.fk_model.specs.declared.names.Kind.TheVariants as kinds
use Rattle.fk_model.specs.declared.statuses.status.TheConstants.{WRONGKIND}
use Rattle.fk_model.specs.Places.{Path, same_path, parent, Ptr}
use Rattle.fk_model.specs.Places.Ptr.{Null, Dead, At, Out, Outside, Far}
use Rattle.fk_model.specs.Objects.{Thread, Body, kind_of, number_of_kind, same_kind as same_kind_of, thread_of, port_of, space_of, reference_of, and_then}
use Rattle.fk_model.specs.Objects.{holds}
use Rattle.fk_model.specs.Objects.Body.{Mutex, Port, Space, Reference}
use Rattle.fk_model.specs.World.{World, Change, Edit, Sweep, edited, through, death_sweep, following, apply}
use Rattle.fk_model.specs.World.Change.{Alter, Make, MakeSpace, Kill, Move, PutPage, DropPage}
use Rattle.fk_model.specs.Searches.{thread_at}
use Rattle.fk_model.specs.Readers.{kind_at, is_kind, handled}
use Rattle.fk_model.specs.Valid.{kind_there}
use Rattle.fk_model.proofs.walks.PlaceLaws.{same_path_eq}
use Rattle.laws_moves.specs.Machine.Frame.{names_body}
use Rattle.laws_moves.proofs.InMachine.Frame.{or_off, apply-body}
use Rattle.laws_moves.proofs.InMachine.safety.Reads.{body-thread_of}
use Rattle.laws_moves.proofs.InMachine.validity.Outlines.{Outline}
use Rattle.laws_moves.proofs.InMachine.validity.Edits.{outline-edited}
use Rattle.laws_waits.specs.Touching.{remakes, is_loud, stirs, is_pointing, repoints, is_grouping, regroups, is_holding, reholds, takes_page}
use Rattle.fk_model.specs.Holds.{holder_of}
use Rattle.fk_model.proofs.walks.WalkLaws.{none_from}
use Rattle.fk_model.specs.World.Edit.{SetLocked, SetMember, SetPointer, SetHolder}
use Rattle.laws_waits.proofs.Quiet.{turned, quiet_thread, no_thread}

-- ---- a body that a change doesn't name

pub kept-body : {A : Type 0} (f : Option Body → A) (w : World) (c : Change) (q : Path) → names_body w c q ≡ false → f ((apply c w).body q) ≡ f (w.body q)
kept-body f w c q h = ap f (apply-body c w q h)

-- ---- a thread that it doesn't stir is turned by a quiet edit, at most

module _ (P : Option Thread → Type 0) (w : World) (q : Path)
    (keeps : (e : Edit) (t : Thread) → thread_at w q ≡ Some t → is_loud e t ≡ false → P (Some t) → P (Some (turned e t))) where
  turned-body : (e : Edit) (b : Body) (o : Option Thread) → thread_of b ≡ o → holds (is_loud e) o ≡ false → thread_at w q ≡ o → P o → P (thread_of (edited e b))
  turned-body e b None is quiet at p = subst P (sym (no_thread e b is)) p
  turned-body e b (Some t) is quiet at p =
      let there = body-thread_of b t is in
      rw there (subst P (sym (quiet_thread e t quiet)) (keeps e t at quiet p))

  alter-kept : (x : Path) (e : Edit) → (same_path q x && holds (is_loud e) (thread_at w x)) ≡ false → P (thread_at w q) → P (thread_at (apply (Alter x e) w) q)
  unfolding apply
  alter-kept x e quiet p = by (same_path q x) refl (w.body q) refl quiet p
    where
      by : (s : Bool) → same_path q x ≡ s → (v : Option Body) → w.body q ≡ v → (s && holds (is_loud e) (thread_at w x)) ≡ false →
          P (and_then thread_of v) → P (and_then thread_of (if s then option_map (edited e) v else v))
      by false same v at quiet p = p
      by true same None at quiet p = p
      by true same (Some b) at quiet p =
          let here : q ≡ x = same_path_eq q x same in
          let there : thread_at w x ≡ thread_of b = ap (λ z. and_then thread_of (w.body z)) (sym here) ∙ ap (and_then thread_of) at in
          turned-body e b (thread_of b) refl (ap (holds (is_loud e)) (sym there) ∙ quiet) (ap (and_then thread_of) at) p

  named-kept : (c : Change) → names_body w c q ≡ false → P (thread_at w q) → P (thread_at (apply c w) q)
  named-kept c h p = subst P (sym (kept-body (and_then thread_of) w c q h)) p

  pub thread-kept : (c : Change) → stirs w c q ≡ false → P (thread_at w q) → P (thread_at (apply c w) q)
  thread-kept (Alter x e) h p = alter-kept x e h p
  thread-kept (Make x body) h p = named-kept (Make x body) h p
  thread-kept (MakeSpace x holder) h p = named-kept (MakeSpace x holder) h p
  thread-kept (Kill x) h p = named-kept (Kill x) h p
  thread-kept (Move x slot) h p = named-kept (Move x slot) h p
  thread-kept (PutPage space page words) h p = named-kept (PutPage space page words) refl p
  thread-kept (DropPage space page) h p = named-kept (DropPage space page) refl p

-- ---- kinds

same_kind : (edit : Edit) (b : Body) → kind_of (edited edit b) ≡ kind_of b
same_kind edit b = ap (λ (o : Outline). o.kind) (outline-edited edit b)

through-kind : (f : Sweep) (q : Path) (b : Body) → kind_of (through f q b) ≡ kind_of b
through-kind f q (Mutex locked) = refl
through-kind f q b = refl

mapped-kind : (g : Body → Body) → ((b : Body) → kind_of (g b) ≡ kind_of b) → (o : Option Body) → option_map kind_of (option_map g o) ≡ option_map kind_of o
mapped-kind g same None = refl
mapped-kind g same (Some b) = ap Some (same b)

off : {A : Type 0} (t : Bool) (a b : A) → t ≡ false → (if t then a else b) ≡ b
off t a b h = rw h refl

either-kind : (t : Bool) (a b : Option Body) → option_map kind_of a ≡ option_map kind_of b → option_map kind_of (if t then a else b) ≡ option_map kind_of b
either-kind true a b same = same
either-kind false a b same = refl

pub kept-kind : (w : World) (c : Change) (q : Path) → remakes c q ≡ false → kind_there (apply c w) q ≡ kind_there w q
unfolding apply kind_there
kept-kind w (Alter x e) q h = either-kind (same_path q x) (option_map (edited e) (w.body q)) (w.body q) (mapped-kind (edited e) (same_kind e) (w.body q))
kept-kind w (Make x body) q h = ap (option_map kind_of) (off _ _ _ h)
kept-kind w (MakeSpace x holder) q h = ap (option_map kind_of) (off _ _ _ h)
kept-kind w (Kill x) q h = ap (option_map kind_of) (off _ _ _ h) ∙ mapped-kind (through (death_sweep x) q) (through-kind (death_sweep x) q) (w.body q)
kept-kind w (Move x slot) q h =
    let both = or_off (same_path q (slot ∷ parent x)) _ h in
    ap (option_map kind_of) (off _ _ _ both.0 ∙ off _ _ _ both.1)
    ∙ mapped-kind (through (following x (slot ∷ parent x)) q) (through-kind (following x (slot ∷ parent x)) q) (w.body q)
kept-kind w (PutPage space page words) q h = refl
kept-kind w (DropPage space page) q h = refl

-- ---- handles and members

either : {A B : Type 0} (f : A → B) (t : Bool) (a b : A) → (t ≡ true → f a ≡ f b) → f (if t then a else b) ≡ f b
either f true a b h = h refl
either f false a b h = refl

port-kind : (b : Body) → is_some (port_of b) ≡ (number_of_kind (kind_of b) == 5)
port-kind (Port set served) = refl
port-kind (Mutex locked) = refl
port-kind b = refl

no-port : (e : Edit) (b : Body) → is_some (port_of b) ≡ false → port_of (edited e b) ≡ None
no-port e b h = none_from _ (port-kind (edited e b) ∙ ap (λ k. number_of_kind k == 5) (same_kind e b) ∙ sym (port-kind b) ∙ h)

port-edit : (e : Edit) (set : Option ℕ) (served : Bool) → is_grouping e ≡ false → port_of (edited e (Port set served)) ≡ Some (set, served)
unfolding edited
port-edit (SetMember other) set served h = cc
port-edit (SetLocked locked) set served h = refl
port-edit e set served h = refl

edit-port : (e : Edit) (o : Option Body) → is_grouping e ≡ false → and_then port_of (option_map (edited e) o) ≡ and_then port_of o
edit-port e None h = refl
edit-port e (Some (Port set served)) h = port-edit e set served h
edit-port e (Some (Mutex locked)) h = no-port e (Mutex locked) refl
edit-port e (Some b) h = no-port e b refl

-- a port that isn't put into a set is in the same one
pub kept-port : (w : World) (c : Change) (q : Path) → regroups w c q ≡ false → and_then port_of ((apply c w).body q) ≡ and_then port_of (w.body q)
unfolding apply
kept-port w (Alter x e) q h = either (and_then port_of) (same_path q x) (option_map (edited e) (w.body q)) (w.body q) (λ s. edit-port e (w.body q) (by s))
  where
    by : same_path q x ≡ true → is_grouping e ≡ false
    by s = ap (λ b. b && is_grouping e) (sym s) ∙ h
kept-port w (Make x body) q h = kept-body (and_then port_of) w (Make x body) q h
kept-port w (MakeSpace x holder) q h = kept-body (and_then port_of) w (MakeSpace x holder) q h
kept-port w (Kill x) q h = kept-body (and_then port_of) w (Kill x) q h
kept-port w (Move x slot) q h = kept-body (and_then port_of) w (Move x slot) q h
kept-port w (PutPage space page words) q h = refl
kept-port w (DropPage space page) q h = refl

-- who holds a space

space-kind : (b : Body) → is_some (space_of b) ≡ (number_of_kind (kind_of b) == 7)
space-kind (Space birth holder) = refl
space-kind (Mutex locked) = refl
space-kind b = refl

no-space : (e : Edit) (b : Body) → is_some (space_of b) ≡ false → space_of (edited e b) ≡ None
no-space e b h = none_from _ (space-kind (edited e b) ∙ ap (λ k. number_of_kind k == 7) (same_kind e b) ∙ sym (space-kind b) ∙ h)

space-edit : (e : Edit) (birth : ℕ) (holder : Option Ptr) → is_holding e ≡ false → space_of (edited e (Space birth holder)) ≡ Some holder
unfolding edited
space-edit (SetHolder other) birth holder h = cc
space-edit (SetLocked locked) birth holder h = refl
space-edit e birth holder h = refl

edit-holder : (e : Edit) (o : Option Body) → is_holding e ≡ false → holder_of (option_map (edited e) o) ≡ holder_of o
edit-holder e None h = refl
edit-holder e (Some (Space birth holder)) h = ap (and_then (λ holder. holder)) (space-edit e birth holder h)
edit-holder e (Some (Mutex locked)) h = ap (and_then (λ holder. holder)) (no-space e (Mutex locked) refl)
edit-holder e (Some b) h = ap (and_then (λ holder. holder)) (no-space e b refl)

pub kept-holder : (w : World) (c : Change) (q : Path) → reholds w c q ≡ false → holder_of ((apply c w).body q) ≡ holder_of (w.body q)
unfolding apply
kept-holder w (Alter x e) q h = either holder_of (same_path q x) (option_map (edited e) (w.body q)) (w.body q) (λ s. edit-holder e (w.body q) (by s))
  where
    by : same_path q x ≡ true → is_holding e ≡ false
    by s = ap (λ b. b && is_holding e) (sym s) ∙ h
kept-holder w (Make x body) q h = kept-body holder_of w (Make x body) q h
kept-holder w (MakeSpace x holder) q h = kept-body holder_of w (MakeSpace x holder) q h
kept-holder w (Kill x) q h = kept-body holder_of w (Kill x) q h
kept-holder w (Move x slot) q h = kept-body holder_of w (Move x slot) q h
kept-holder w (PutPage space page words) q h = refl
kept-holder w (DropPage space page) q h = refl

-- whether it is a port is told by that
pub is-port : (o : Option Body) → is_kind kinds.Port (and_then (λ b. Some (kind_of b)) o) ≡ is_some (and_then port_of o)
is-port None = refl
is-port (Some (Port set served)) = refl
is-port (Some (Mutex locked)) = refl
is-port (Some b) = refl

reference-kind : (b : Body) → is_some (reference_of b) ≡ (number_of_kind (kind_of b) == 9)
reference-kind (Reference to) = refl
reference-kind (Mutex locked) = refl
reference-kind b = refl

-- what is no reference is a handle by its kind
handled-kind : (v : World) (z : Path) (b : Body) → is_some (reference_of b) ≡ false →
    handled v kinds.Port z (Some b) ≡ (if same_kind_of kinds.Port (kind_of b) then Ok (At z) else Err WRONGKIND)
handled-kind v z (Reference to) h = cc
handled-kind v z (Mutex locked) h = refl
handled-kind v z b h = refl

no-reference : (v : World) (z : Path) (e : Edit) (b : Body) → is_some (reference_of b) ≡ false →
    handled v kinds.Port z (Some (edited e b)) ≡ handled v kinds.Port z (Some b)
no-reference v z e b h =
    let none : is_some (reference_of (edited e b)) ≡ false = reference-kind (edited e b) ∙ ap (λ k. number_of_kind k == 9) (same_kind e b)
    ∙ sym (reference-kind b) ∙ h in
    handled-kind v z (edited e b) none
    ∙ ap (λ k. if same_kind_of kinds.Port k then Ok (At z) else Err WRONGKIND) (same_kind e b)
    ∙ sym (handled-kind v z b h)

reference-edit : (e : Edit) (to : Ptr) → is_pointing e ≡ false → edited e (Reference to) ≡ Reference to
unfolding edited
reference-edit (SetPointer other) to h = cc
reference-edit (SetLocked locked) to h = refl
reference-edit e to h = refl

edit-handle : (v : World) (z : Path) (e : Edit) (o : Option Body) → is_pointing e ≡ false →
    handled v kinds.Port z (option_map (edited e) o) ≡ handled v kinds.Port z o
edit-handle v z e None h = refl
edit-handle v z e (Some (Reference to)) h = ap (λ b. handled v kinds.Port z (Some b)) (reference-edit e to h)
edit-handle v z e (Some (Mutex locked)) h = no-reference v z e (Mutex locked) refl
edit-handle v z e (Some b) h = no-reference v z e b refl

-- a handle that isn't set leads where it led, as far as what it leads to is what it was
pub kept-handle : (v w : World) (c : Change) (z : Path) → repoints w c z ≡ false →
    handled v kinds.Port z ((apply c w).body z) ≡ handled v kinds.Port z (w.body z)
unfolding apply
kept-handle v w (Alter x e) z h =
    either (handled v kinds.Port z) (same_path z x) (option_map (edited e) (w.body z)) (w.body z) (λ s. edit-handle v z e (w.body z) (by s))
  where
    by : same_path z x ≡ true → is_pointing e ≡ false
    by s = ap (λ b. b && is_pointing e) (sym s) ∙ h
kept-handle v w (Make x body) z h = kept-body (handled v kinds.Port z) w (Make x body) z h
kept-handle v w (MakeSpace x holder) z h = kept-body (handled v kinds.Port z) w (MakeSpace x holder) z h
kept-handle v w (Kill x) z h = kept-body (handled v kinds.Port z) w (Kill x) z h
kept-handle v w (Move x slot) z h = kept-body (handled v kinds.Port z) w (Move x slot) z h
kept-handle v w (PutPage space page words) z h = refl
kept-handle v w (DropPage space page) z h = refl

-- ---- pages

put-there : (t : Bool) (words : List ℕ) (old : Option (List ℕ)) → is_some old ≡ true → is_some (if t then Some words else old) ≡ true
put-there true words old h = refl
put-there false words old h = h

pub kept-page : (w : World) (c : Change) (s : Path) (page : ℕ) → takes_page c s page ≡ false → is_some (w.page s page) ≡ true →
    is_some ((apply c w).page s page) ≡ true
unfolding apply
kept-page w (Alter x e) s page h there = there
kept-page w (Make x body) s page h there = there
kept-page w (MakeSpace x holder) s page h there = there
kept-page w (Kill x) s page h there = ap is_some (off _ _ _ h) ∙ there
kept-page w (Move x slot) s page h there =
    let both = or_off (same_path s (slot ∷ parent x)) _ h in ap is_some (off _ _ _ both.0 ∙ off _ _ _ both.1) ∙ there
kept-page w (PutPage space number words) s page h there = put-there (same_path s space && page == number) words (w.page s page) there
kept-page w (DropPage space number) s page h there = ap is_some (off _ _ _ h) ∙ there

-- ---- handles of ports

-- a handle that leads to an object of a kind in one world leads there in another in which that is of this kind too
pub same_handle : (wanted : Kind) (v w : World) (z : Path) (o : Option Body) (p : Ptr) → handled v wanted z o ≡ Ok p →
    ((q : Path) → p ≡ At q → is_kind wanted (kind_at w (At q)) ≡ is_kind wanted (kind_at v (At q))) → handled w wanted z o ≡ Ok p
same_handle wanted v w z None p h same = cc
same_handle wanted v w z (Some (Reference Null)) p h same = cc
same_handle wanted v w z (Some (Reference Dead)) p h same = cc
same_handle wanted v w z (Some (Reference (At q))) p h same = by (is_kind wanted (kind_at v (At q))) refl h
  where
    by : (b : Bool) → is_kind wanted (kind_at v (At q)) ≡ b → (if b then Ok (At q) else Err WRONGKIND) ≡ Ok p →
        (if is_kind wanted (kind_at w (At q)) then Ok (At q) else Err WRONGKIND) ≡ Ok p
    by true e h =
        let led : p ≡ At q = cc in
        let on : is_kind wanted (kind_at w (At q)) ≡ true = same q led ∙ e in
        rw on h
    by false e h = cc
same_handle wanted v w z (Some (Reference (Out slot))) p h same = h
same_handle wanted v w z (Some (Reference Outside)) p h same = cc
same_handle wanted v w z (Some (Reference Far)) p h same = cc
same_handle wanted v w z (Some (Mutex locked)) p h same = h
same_handle wanted v w z (Some b) p h same = h

-- where kinds are the same
pub kind_at-kept : (wanted : Kind) (w : World) (c : Change) (q : Path) → remakes c q ≡ false →
    is_kind wanted (kind_at (apply c w) (At q)) ≡ is_kind wanted (kind_at w (At q))
unfolding kind_there
kind_at-kept wanted w c q h = ap (is_kind wanted) (by ((apply c w).body q) ∙ kept-kind w c q h ∙ sym (by (w.body q)))
  where
    by : (o : Option Body) → and_then (λ b. Some (kind_of b)) o ≡ option_map kind_of o
    by None = refl
    by (Some b) = refl
