-- What a list of changes doesn't name stays.
use Rattle.std.proofs.Common.{◌≡◌, ℕ, Bool, true, false, cond, ◌||◌, List, [], ◌∷◌, ◌++◌, Option, Some, None, option_map, refl, ap, sym, ◌∙◌}
use Rattle.std.specs.List.{list_any}
use Rattle.std.proofs.lemmas.List.Folds.{list_any-append}
use Rattle.fk_model.specs.declared.moves.Ask.{Ask}
use Rattle.fk_model.specs.Places.{Path, same_path, parent, Ptr, leads_to}
use Rattle.fk_model.specs.Objects.{Peer, Talk, Fault, Thread, Body, and_then, holds}
use Rattle.fk_model.specs.Objects.Body.{Mapping, Region, Port, Space, Thread_of, Reference}
use Rattle.fk_model.specs.Objects.Peer.{Server}
use Rattle.fk_model.specs.World.{World, Change, Sweep, apply, apply_all, through, death_sweep, following, taker_without, follow_peer, serves, set_at}
use Rattle.fk_model.specs.World.Change.{Alter, Make, MakeSpace, Kill, Move, PutPage, DropPage}
use Rattle.fk_model.specs.Searches.{option_list, talk_pointers, fault_pointers, peer_pointer}
use Rattle.fk_model.specs.Freezing.{is_swept}
use Rattle.fk_model.specs.Outcomes.{Outcome, listed}
use Rattle.fk_model.specs.Outcomes.Outcome.{Goes}
use Rattle.fk_model.specs.Moves.{outcome, step, stepped}
use Rattle.laws_moves.specs.Machine.Frame.{names_body, names_page, name_body, name_page}

pub or_off : (a b : Bool) → (a || b) ≡ false → (a ≡ false) × (b ≡ false)
or_off false b h = (refl, h)
or_off true b h = cc

-- ---- a body without a pointer to x stays, where x is destroyed or renamed

ptr_apart : (x : Path) (new p : Ptr) → leads_to x p ≡ false → cond (leads_to x p) new p ≡ p
ptr_apart x new p h = rw h refl

one_apart : (x : Path) (p : Ptr) → list_any (leads_to x) (p ∷ []) ≡ false → leads_to x p ≡ false
one_apart x p h = (or_off (leads_to x p) false h).0

peer_apart : (x : Path) (peer : Peer) → list_any (leads_to x) (peer_pointer peer) ≡ false → serves x peer ≡ false
peer_apart x (Server thread) h = one_apart x thread h
peer_apart x peer h = refl

follow_peer_apart : (x y : Path) (peer : Peer) → list_any (leads_to x) (peer_pointer peer) ≡ false → follow_peer x y peer ≡ peer
follow_peer_apart x y (Server thread) h = ap Server (ptr_apart x _ thread (one_apart x thread h))
follow_peer_apart x y peer h = refl

-- the sweeps of a death and of a rename leave what doesn't lead to x
pub record Leaves (x : Path) (f : Sweep) : Type 0 where
  pub pointer : (p : Ptr) → leads_to x p ≡ false → f.pointer p ≡ p
  pub holder : (p : Ptr) → leads_to x p ≡ false → f.holder p ≡ Some p
  pub talk : (t : Talk) → list_any (leads_to x) (talk_pointers t) ≡ false → f.talk t ≡ Some t
  pub fault : (t : Fault) → list_any (leads_to x) (fault_pointers t) ≡ false → f.fault t ≡ Some t
  pub set : (q : Path) (k : ℕ) → same_path (set_at q k) x ≡ false → f.set q k ≡ Some k

taker_apart : (x : Path) (o : Option Peer) → list_any (leads_to x) (option_list peer_pointer o) ≡ false → and_then (taker_without x) o ≡ o
taker_apart x None h = refl
taker_apart x (Some peer) h = rw (peer_apart x peer h) refl

pub without_leaves : (x : Path) → Leaves x (death_sweep x)
without_leaves x = record {
  pointer = λ p h. ptr_apart x _ p h;
  holder = λ p h. rw h refl;
  talk = λ t h. let both = or_off (leads_to x t.port) _ h in rw (both.0, peer_apart x t.peer both.1) refl;
  fault = λ t h. let both = or_off (leads_to x t.port) _ h in rw (both.0, taker_apart x t.taker both.1) refl;
  set = λ q k h. rw h refl;
}

taker_follows : (x y : Path) (o : Option Peer) → list_any (leads_to x) (option_list peer_pointer o) ≡ false → option_map (follow_peer x y) o ≡ o
taker_follows x y None h = refl
taker_follows x y (Some peer) h = ap Some (follow_peer_apart x y peer h)

pub following_leaves : (x y : Path) → Leaves x (following x y)
following_leaves x y = record {
  pointer = λ p h. ptr_apart x _ p h;
  holder = λ p h. ap Some (ptr_apart x _ p h);
  talk = λ t h. let both = or_off (leads_to x t.port) _ h in rw (ptr_apart x _ t.port both.0, follow_peer_apart x y t.peer both.1) refl;
  fault = λ t h. let both = or_off (leads_to x t.port) _ h in rw (ptr_apart x _ t.port both.0, taker_follows x y t.taker both.1) refl;
  set = λ q k h. rw h refl;
}

talk_stays : (x : Path) (f : Sweep) → Leaves x f → (o : Option Talk) → list_any (leads_to x) (option_list talk_pointers o) ≡ false → and_then f.talk o ≡ o
talk_stays x f leaves None h = refl
talk_stays x f leaves (Some t) h = leaves.talk t h

fault_stays : (x : Path) (f : Sweep) → Leaves x f → (o : Option Fault) → list_any (leads_to x) (option_list fault_pointers o) ≡ false → and_then f.fault o ≡ o
fault_stays x f leaves None h = refl
fault_stays x f leaves (Some t) h = leaves.fault t h

holder_stays : (x : Path) (f : Sweep) → Leaves x f → (o : Option Ptr) → list_any (leads_to x) (option_list (λ p. p ∷ []) o) ≡ false → and_then f.holder o ≡ o
holder_stays x f leaves None h = refl
holder_stays x f leaves (Some p) h = leaves.holder p (one_apart x p h)

set_stays : (x : Path) (f : Sweep) → Leaves x f → (q : Path) (o : Option ℕ) → holds (λ k. same_path (set_at q k) x) o ≡ false → and_then (f.set q) o ≡ o
set_stays x f leaves q None h = refl
set_stays x f leaves q (Some k) h = leaves.set q k h

thread_parts : (x : Path) (t : Thread) → list_any (leads_to x) (option_list talk_pointers t.talk ++ option_list fault_pointers t.fault) ≡ false →
    (list_any (leads_to x) (option_list talk_pointers t.talk) ≡ false) × (list_any (leads_to x) (option_list fault_pointers t.fault) ≡ false)
thread_parts x t h = or_off _ _ (sym (list_any-append (leads_to x) (option_list talk_pointers t.talk) (option_list fault_pointers t.fault)) ∙ h)

pub unswept : (x : Path) (f : Sweep) → Leaves x f → (q : Path) (v : Option Body) → is_swept x q v ≡ false → option_map (through f q) v ≡ v
unswept x f leaves q None h = refl
unswept x f leaves q (Some (Mapping m)) h =
    ap (λ (p : Ptr). Some (Mapping (record m { region = p }))) (leaves.pointer m.region (one_apart x m.region (or_off _ false h).0))
unswept x f leaves q (Some (Region r)) h =
    ap (λ (p : Ptr). Some (Region (record r { keeper = p }))) (leaves.pointer r.keeper (one_apart x r.keeper (or_off _ false h).0))
unswept x f leaves q (Some (Port set served)) h = ap (λ (o : Option ℕ). Some (Port o served)) (set_stays x f leaves q set h)
unswept x f leaves q (Some (Space birth holder)) h = ap (λ (o : Option Ptr). Some (Space birth o)) (holder_stays x f leaves holder (or_off _ false h).0)
unswept x f leaves q (Some (Thread_of t)) h =
    let parts = thread_parts x t (or_off _ false h).0 in
    rw (talk_stays x f leaves t.talk parts.0, fault_stays x f leaves t.fault parts.1) refl
unswept x f leaves q (Some (Reference to)) h = ap (λ (p : Ptr). Some (Reference p)) (leaves.pointer to (one_apart x to (or_off _ false h).0))
unswept x f leaves q (Some b) h = refl

-- ---- one change, and a list of them

off : {A : Type 0} (t : Bool) (a b : A) → t ≡ false → cond t a b ≡ b
off t a b h = rw h refl

pub apply-body : (c : Change) (w : World) (q : Path) → names_body w c q ≡ false → (apply c w).body q ≡ w.body q
unfolding apply
apply-body (Alter x edit) w q h = off _ _ _ h
apply-body (Make x body) w q h = off _ _ _ h
apply-body (MakeSpace x holder) w q h = off _ _ _ h
apply-body (Kill x) w q h =
    let both = or_off (same_path q x) _ h in
    off _ _ _ both.0 ∙ unswept x (death_sweep x) (without_leaves x) q (w.body q) both.1
apply-body (Move x slot) w q h =
    let first = or_off (same_path q (slot ∷ parent x)) _ h in
    let both = or_off (same_path q x) _ first.1 in
    off _ _ _ first.0 ∙ off _ _ _ both.0 ∙ unswept x (following x (slot ∷ parent x)) (following_leaves x (slot ∷ parent x)) q (w.body q) both.1
apply-body (PutPage space page words) w q h = refl
apply-body (DropPage space page) w q h = refl

pub apply-page : (c : Change) (w : World) (s : Path) (page : ℕ) → names_page c s page ≡ false → (apply c w).page s page ≡ w.page s page
unfolding apply
apply-page (Alter x edit) w s page h = refl
apply-page (Make x body) w s page h = refl
apply-page (MakeSpace x holder) w s page h = refl
apply-page (Kill x) w s page h = off _ _ _ h
apply-page (Move x slot) w s page h = let both = or_off (same_path s (slot ∷ parent x)) _ h in off _ _ _ both.0 ∙ off _ _ _ both.1
apply-page (PutPage space number words) w s page h = off _ _ _ h
apply-page (DropPage space number) w s page h = off _ _ _ h

pub apply_all-body : (cs : List Change) (w : World) (q : Path) → name_body w cs q ≡ false → (apply_all cs w).body q ≡ w.body q
unfolding apply_all
apply_all-body [] w q h = refl
apply_all-body (c ∷ cs) w q h = let both = or_off (names_body w c q) _ h in apply_all-body cs (apply c w) q both.1 ∙ apply-body c w q both.0

pub apply_all-page : (cs : List Change) (w : World) (s : Path) (page : ℕ) → name_page cs s page ≡ false → (apply_all cs w).page s page ≡ w.page s page
unfolding apply_all
apply_all-page [] w s page h = refl
apply_all-page (c ∷ cs) w s page h = let both = or_off (names_page c s page) _ h in apply_all-page cs (apply c w) s page both.1 ∙ apply-page c w s page both.0

-- ---- a move

body_kept : (w : World) (o : Outcome) (q : Path) → name_body w (listed o) q ≡ false → (stepped w o).world.body q ≡ w.body q
body_kept w (Goes changes said) q h = apply_all-body changes w q h
body_kept w o q h = refl

pub move_keeps_bodies : (w : World) (x : Path) (pick : Option Path) (ask : Ask) (q : Path) →
    name_body w (listed (outcome w x pick ask)) q ≡ false → (step w x pick ask).world.body q ≡ w.body q
unfolding step
move_keeps_bodies w x pick ask q h = body_kept w (outcome w x pick ask) q h

page_kept : (w : World) (o : Outcome) (s : Path) (page : ℕ) → name_page (listed o) s page ≡ false → (stepped w o).world.page s page ≡ w.page s page
page_kept w (Goes changes said) s page h = apply_all-page changes w s page h
page_kept w o s page h = refl

pub move_keeps_pages : (w : World) (x : Path) (pick : Option Path) (ask : Ask) (s : Path) (page : ℕ) →
    name_page (listed (outcome w x pick ask)) s page ≡ false → (step w x pick ask).world.page s page ≡ w.page s page
unfolding step
move_keeps_pages w x pick ask s page h = page_kept w (outcome w x pick ask) s page h
