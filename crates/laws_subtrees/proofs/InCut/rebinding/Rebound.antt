-- A move of a subtree that is seen alone is the same move of it with other outward ports.
use Rattle.std.proofs.Common.{◌≡◌, ℕ, zero, Bool, true, false, cond, eqb, ◌&&◌, ◌||◌, List, [], ◌∷◌, ◌++◌, map, Option, Some, None, is_none, option_map, refl}
use Rattle.std.proofs.Common.{sym, ap, subst, ◌∙◌, append-nil}
use Rattle.std.specs.List.{flat_map}
use Rattle.fk_model.specs.declared.stage.Stage.{Stage}
use Rattle.fk_model.specs.Places.{Path, parent, Ptr}
use Rattle.fk_model.specs.Objects.{Mode, Peer, Talk, Fault, Thread, Body, thread_of, and_then, reference_of}
use Rattle.fk_model.specs.Objects.Mode.{Calling}
use Rattle.fk_model.specs.Objects.Body.{Space, Reference, Thread_of}
use Rattle.fk_model.specs.World.{World, Change, Edit, apply, apply_all, through}
use Rattle.fk_model.specs.World.Change.{Alter}
use Rattle.fk_model.specs.World.Edit.{SetTalk, SetFault}
use Rattle.fk_model.specs.Searches.{talk_at, thread_at}
use Rattle.fk_model.specs.Holds.{is_frozen, is_free}
use Rattle.fk_model.specs.Outcomes.{Said, Outcome, when}
use Rattle.fk_model.specs.Outcomes.Outcome.{Refused, Waits, Goes}
use Rattle.fk_model.specs.Outcomes.Said.{Words}
use Rattle.fk_model.specs.LinkRows.{user_at}
use Rattle.fk_model.specs.Freezing.{AreAllowed}
use Rattle.fk_model.specs.Moves.{call_row, goes_on}
use Rattle.fk_model.specs.Cut.{is_out}
use Rattle.fk_model.specs.Further.{Onward, Told, talks_outside, own_stage, goes_out, counted, onward_row, ends_told, told_fault, told_by_change, told_by_said}
use Rattle.fk_model.specs.Further.{carried_by}
use Rattle.fk_model.specs.Further.{told_by, OnwardTo, reference_handed}
use Rattle.fk_model.specs.Further.Onward.{Own}
use Rattle.fk_model.specs.Further.Told.{ToldEnd, ToldFault, ToldOver}
use Rattle.fk_model.specs.Rebind.{rebound_ptr, rebound, rebound_told, rebinding, rebound_move}
use Rattle.laws_subtrees.specs.Cut.CutLaws.{IsAtStage}
use Rattle.laws_subtrees.specs.Cut.Likeness.{seeing, seen_fault, seen_thread, IsLikeness, IsCutWorld, AlikeOptions, IsSeenTalk, IsSeenThread}
use Rattle.laws_subtrees.specs.Cut.LikeChanges.{seen_edit, LikeChange, LikeChanges, IsLikeOutcome}
use Rattle.laws_subtrees.specs.Cut.LikeChanges.LikeChange.{Alters, AltersOut, Makes, MakesSpace, Kills, Moves, PutsPage, DropsPage}
use Rattle.laws_subtrees.specs.Cut.LikeChanges.LikeChanges.{Empty, Both, Beyond}
use Rattle.laws_subtrees.specs.Cut.RebindLaws.{RebindsTo, StageRebinds}
use Rattle.laws_subtrees.proofs.InCut.likeness.Instances.{rebound-like}
use Rattle.laws_subtrees.proofs.InCut.likeness.Memory.{root_seen}
use Rattle.laws_subtrees.proofs.InCut.likeness.Talks.{thread_there-like, talk_at-like}
use Rattle.laws_subtrees.proofs.InCut.likeness.Holds.{is_free-like}
use Rattle.laws_subtrees.proofs.InCut.likeness.ChangeLists.{changes-like}
use Rattle.laws_subtrees.proofs.InCut.likeness.Sends.{SaidLikeness, IsHeard}
use Rattle.laws_subtrees.proofs.InCut.likeness.Sends.SaidLikeness.{Hushed, SaysWords, SaysPassed}
use Rattle.laws_subtrees.proofs.InCut.cut.Holds.{changes-allowed}
use Rattle.laws_subtrees.proofs.InCut.rebinding.Freedom.{out_kept, top_free, no_outside, changes_back}
use Rattle.laws_subtrees.proofs.InCut.cut.Inside.{Quiet, quiet-when, quiet-call, when_same, call_row-like, call_closed}
use Rattle.laws_subtrees.proofs.InCut.cut.Outside.{IsInner, IsOwn, inner_own}
use Rattle.fk_model.specs.Talks.{first_stage}

-- two likenesses of one world by the same eyes are one
pub same_likeness : (root : Path) (see : Ptr → Ptr) (one other big : World) → IsLikeness root see one big → IsLikeness root see other big → one ≡ other
same_likeness root see one other big h g = λ i.
    record { body = λ q. (h.bodies q ∙ sym (g.bodies q)) i; page = λ q page. (h.pages q page ∙ sym (g.pages q page)) i; next = (h.unborn ∙ sym g.unborn) i }

-- ---- what is told

module _ (bind : ℕ → ℕ) (c : World) (like : IsLikeness [] (rebound_ptr bind) (rebound bind c) c) where
  abbrev see : Ptr → Ptr
  see = rebound_ptr bind

  abbrev small : World
  small = rebound bind c

  abbrev renamed : List Told → List Told
  renamed = map (rebound_told bind)

  end_told : (x : Path) (o : Option Talk) → ends_told x (and_then (seeing see).talk o) ≡ renamed (ends_told x o)
  end_told x None = refl
  end_told x (Some talk) = rw (out_kept bind talk.port) (by (is_out talk.port))
    where
      by : (b : Bool) → cond b (ToldEnd x (see talk.port) ∷ []) [] ≡ renamed (cond b (ToldEnd x talk.port ∷ []) [])
      by true = refl
      by false = refl

  none_seen : (f : Peer → Peer) (o : Option Peer) → is_none (option_map f o) ≡ is_none o
  none_seen f None = refl
  none_seen f (Some taker) = refl

  fault_told : (x : Path) (fault : Fault) → told_fault x (seen_fault see fault) ≡ renamed (told_fault x fault)
  fault_told x fault = rw (none_seen _ fault.taker, out_kept bind fault.port) (by (is_out fault.port && is_none fault.taker))
    where
      by : (b : Bool) →
          cond b (ToldFault x (see fault.port) fault.page fault.write ∷ []) [] ≡ renamed (cond b (ToldFault x fault.port fault.page fault.write ∷ []) [])
      by true = refl
      by false = refl

  talk_seen : (x : Path) → talk_at small x ≡ and_then (seeing see).talk (talk_at c x)
  talk_seen x = by (talk_at small x) (talk_at c (x ++ [])) (talk_at-like like x) ∙ ap (λ (y : Path). and_then (seeing see).talk (talk_at c y)) (append-nil x)
    where
      by : (seen o : Option Talk) → AlikeOptions (IsSeenTalk [] see c) seen o → seen ≡ and_then (seeing see).talk o
      by None None h = refl
      by (Some seen) (Some talk) h = ap Some h.0
      by None (Some talk) h = absurd h
      by (Some seen) None h = absurd h

  edit_told : (x : Path) (out : Bool) (edit : Edit) → told_by_change small (Alter x (seen_edit see out edit)) ≡ renamed (told_by_change c (Alter x edit))
  edit_told x out (SetTalk None) = rw (talk_seen x) (end_told x (talk_at c x))
  edit_told x out (SetTalk (Some talk)) = refl
  edit_told x out (SetFault None) = refl
  edit_told x out (SetFault (Some fault)) = fault_told x fault
  edit_told x out edit = refl

  change_told : (v : World) (a b : Change) → LikeChange [] see v a b → told_by_change small a ≡ renamed (told_by_change c b)
  change_told v _ _ (Alters k q seen edit e h) =
      rw e (subst (λ (y : Path). told_by_change small (Alter (k ∷ q) (seen_edit see false edit)) ≡ renamed (told_by_change c (Alter (k ∷ y) edit)))
      (sym (append-nil q)) (edit_told (k ∷ q) false edit))
  change_told v _ _ (AltersOut k q seen edit e h) =
      rw e (subst (λ (y : Path). told_by_change small (Alter (k ∷ q) (seen_edit see true edit)) ≡ renamed (told_by_change c (Alter (k ∷ y) edit)))
      (sym (append-nil q)) (edit_told (k ∷ q) true edit))
  change_told v _ _ (Makes k q seen body e h) = refl
  change_told v _ _ (MakesSpace k q seen holder e h) = refl
  change_told v _ _ (Kills k q apart) = rw (append-nil q, talk_seen (k ∷ q)) (end_told (k ∷ q) (talk_at c (k ∷ q)))
  change_told v _ _ (Moves k q slot) = refl
  change_told v _ _ (PutsPage q page words) = refl
  change_told v _ _ (DropsPage q page) = refl

  joined : (a b : List Told) → renamed (a ++ b) ≡ renamed a ++ renamed b
  joined [] b = refl
  joined (t ∷ a) b = ap (λ (l : List Told). rebound_told bind t ∷ l) (joined a b)

  changes_told : (v : World) (cs ds : List Change) → LikeChanges [] see v cs ds → flat_map (told_by_change small) cs ≡ renamed (flat_map (told_by_change c) ds)
  changes_told v _ _ Empty = refl
  changes_told v _ _ (Both {c = a} {d = b} {cs = cs} {ds = ds} h hs) =
      let first = change_told v a b h in
      let later = changes_told (apply b v) cs ds hs in
      (λ i. first i ++ later i) ∙ sym (joined (told_by_change c b) (flat_map (told_by_change c) ds))
  changes_told v _ _ (Beyond {d = d} out hs) = absurd (no_outside d out)

-- ---- the row of a stage

row_is : (c : World) (x : Path) (p : Option Path) (n : ℕ) (stage : Stage) →
    IsOwn stage → (t : Thread) (todo : List Stage) (rest : List ℕ) → thread_at c x ≡ Some t → t.mode ≡ Calling (stage ∷ todo) rest →
    onward_row c (Own x p n) ≡ counted n (when (is_free c (parent x) t) (call_row c (user_at x) p stage))
unfolding onward_row
row_is c x p n stage inner t todo rest is e = ap (counted n) (rw is (by (talks_outside c x && is_none p) t.mode e))
  where
    by : (test : Bool) (mode : Mode) →
        mode ≡ Calling (stage ∷ todo) rest → cond test (when (is_free c (parent x) t) (own_stage c x p n mode (goes_on c x p t mode)))
        (when (is_free c (parent x) t) (goes_on c x p t mode)) ≡ when (is_free c (parent x) t) (call_row c (user_at x) p stage)
    by true mode e = rw e (rw (inner.silent c n (user_at x) (call_row c (user_at x) p stage), call_closed c x p stage) refl)
    by false mode e = rw e refl

pub thread_named : (see : Ptr → Ptr) (c small : World) (x : Path) (like : IsLikeness [] see small c) (t : Thread) →
    thread_at c x ≡ Some t → thread_at small x ≡ Some (seen_thread see t)
thread_named see c small x like t is = by (thread_at small x)
    (and_then thread_of (c.body (x ++ []))) (thread_there-like like x) (ap (λ (y : Path). and_then thread_of (c.body y)) (append-nil x) ∙ is)
  where
    by : (seen o : Option Thread) → AlikeOptions (IsSeenThread [] see c) seen o → o ≡ Some t → seen ≡ Some (seen_thread see t)
    by None None h e = cc
    by (Some seen) (Some u) h e = ap Some h.0 ∙ ap (option_map (seen_thread see)) e
    by None (Some u) h e = absurd h
    by (Some seen) None h e = absurd h

-- the rows of a stage act alike in a likeness at the same path
alike_there : (see : Ptr → Ptr) (c small : World) (like : IsLikeness [] see small c) →
    is_frozen c [] ≡ false → (k : ℕ) (q : Path) (p : Option Path) (stage : Stage) → IsOwn stage → (t : Thread) →
    IsLikeOutcome [] see
    c (when (is_free small q (seen_thread see t)) (call_row small (user_at (k ∷ q)) p stage)) (when (is_free c q t) (call_row c (user_at (k ∷ q)) p stage))
alike_there see c small like free k q p stage inner t =
    when_same like (is_free small q (seen_thread see t)) (is_free c q t) (call_row small (user_at (k ∷ q)) p stage) (call_row c (user_at (k ∷ q)) p stage)
    (is_free-like like free q t ∙ ap (λ (y : Path). is_free c y t) (append-nil q))
    (subst (λ (y : Path). IsLikeOutcome [] see c (call_row small (user_at (k ∷ q)) p stage) (call_row c (user_at (k ∷ y)) p stage))
    (append-nil q) (call_row-like like k q p p stage refl (inner.alike [] see small c like free k q p p)))

-- ---- from one outcome to the law, both ways

same_move : (w : World) (m : Onward) (o : Outcome) (told heard : List Told) (later after : World) →
    OnwardTo w m o told later → OnwardTo w m o heard after → (heard ≡ told) × (after ≡ later)
same_move w m (Goes cs said) told heard later after h g = (g.1 ∙ sym h.1, g.2 ∙ sym h.2)
same_move w m Waits told heard later after h g = absurd h
same_move w m (Refused status) told heard later after h g = absurd h

pub rebinds_from : (bind : ℕ → ℕ) (c : World) (m : Onward) (near far : Outcome) → onward_row (rebound bind c) (rebound_move bind m) ≡ near → onward_row c m
    ≡ far →
    ((told : List Told) (later : World) → OnwardTo c m far told later → OnwardTo (rebound bind c) (rebound_move bind m) near (map (rebound_told bind) told)
    (rebound bind later)) →
    ((heard : List Told) (after : World) → OnwardTo (rebound bind c) (rebound_move bind m) near heard after → (told : List Told) × (later : World)
    × OnwardTo c m far told later) →
    ((told : List Told) (later : World) → OnwardTo c m far told later → IsCutWorld later) → RebindsTo bind c m
rebinds_from bind c m near far near_is far_is forth back stays = record {
  forth = λ told later onward. subst (λ (o : Outcome). OnwardTo (rebound bind c) (rebound_move bind m) o (map (rebound_told bind) told) (rebound bind later))
      (sym near_is) (forth told later (subst (λ (o : Outcome). OnwardTo c m o told later) far_is onward));
  back = λ heard after onward.
      let here : OnwardTo (rebound bind c) (rebound_move bind m) near heard after = subst
      (λ (o : Outcome). OnwardTo (rebound bind c) (rebound_move bind m) o heard after) near_is onward in
      let was = back heard after here in
      let now = forth was.0 was.1 was.2 in
      let same = same_move (rebound bind c) (rebound_move bind m) near (map (rebound_told bind) was.0) heard (rebound bind was.1) after now here in
      (was.0, was.1, subst (λ (o : Outcome). OnwardTo c m o was.0 was.1) (sym far_is) was.2, same.0, same.1);
  stays = λ told later onward. stays told later (subst (λ (o : Outcome). OnwardTo c m o told later) far_is onward);
}

-- what a move leaves that acts alike in the world itself
pub stays_alone : (c : World) → IsCutWorld c → (m : Onward) (far : Outcome) → IsLikeOutcome [] (λ p. p) c far far →
    (told : List Told) (later : World) → OnwardTo c m far told later → IsCutWorld later
stays_alone c world m (Goes ds said) again told later onward = rw (onward.2) (changes-like c c ds ds again world)
stays_alone c world m Waits again told later onward = absurd onward
stays_alone c world m (Refused status) again told later onward = absurd onward

counted_again : (c : World) (n : ℕ) (far : Outcome) → IsLikeOutcome [] (λ p. p) c far far → IsLikeOutcome [] (λ p. p) c (counted n far) (counted n far)
counted_again c n far again = by (eqb n 0 || goes_out far)
  where
    by : (b : Bool) → IsLikeOutcome [] (λ p. p) c (when b far) (when b far)
    by true = again
    by false = tt

-- rows that tell nothing
pub quiet_heard : (see : Ptr → Ptr) (near far : Outcome) → Quiet [] near → Quiet [] far → IsHeard see near far
quiet_heard see (Goes cs was) (Goes ds said) h g = Hushed was said h.mute g.mute
quiet_heard see (Refused status) (Goes ds said) h g = tt
quiet_heard see Waits (Goes ds said) h g = tt
quiet_heard see near Waits h g = tt
quiet_heard see near (Refused status) h g = tt

module _ (bind : ℕ → ℕ) (c : World) (world : IsCutWorld c) (k : ℕ) (q : Path) where
  abbrev likeness_of : IsLikeness [] (rebound_ptr bind) (rebound bind c) c
  likeness_of = rebound-like bind (λ p. p) [] c c world

  -- the pointer that goes with a turn has its new name
  carried_anew : (x : Path) → option_map (rebound_ptr bind) (carried_by c x) ≡ carried_by (rebound bind c) x
  unfolding rebound
  carried_anew x = by (c.body x)
    where
      held : (o : Option Body) (y : Path) → option_map (rebound_ptr bind) (and_then reference_of o) ≡ and_then reference_of
          (option_map (through (rebinding bind) y) o)
      held None y = refl
      held (Some (Reference to)) y = refl
      held (Some b) y = refl

      of_slot : (o : Option ℕ) → option_map (rebound_ptr bind) (and_then (λ k. and_then reference_of (c.body (k ∷ parent x))) o) ≡
          and_then (λ k. and_then reference_of (option_map (through (rebinding bind) (k ∷ parent x)) (c.body (k ∷ parent x)))) o
      of_slot None = refl
      of_slot (Some k) = held (c.body (k ∷ parent x)) (k ∷ parent x)

      by : (o : Option Body) → option_map (rebound_ptr bind) (and_then (λ k. and_then reference_of (c.body (k ∷ parent x)))
          (and_then (λ (t : Thread). and_then reference_handed (first_stage t.mode)) (and_then thread_of o))) ≡
          and_then (λ k. and_then reference_of (option_map (through (rebinding bind) (k ∷ parent x)) (c.body (k ∷ parent x))))
          (and_then (λ (t : Thread). and_then reference_handed (first_stage t.mode)) (and_then thread_of (option_map (through (rebinding bind) x) o)))
      by None = refl
      by (Some (Thread_of t)) = of_slot (and_then reference_handed (first_stage t.mode))
      by (Some b) = refl

  said_anew : (x : Path) (was said : Said) → SaidLikeness (rebound_ptr bind) was said →
      map (rebound_told bind) (told_by_said c x said) ≡ told_by_said (rebound bind c) x was
  said_anew x _ _ (Hushed was said h g) = ap (map (rebound_told bind)) (g c x) ∙ sym (h (rebound bind c) x)
  said_anew x _ _ (SaysWords port words) = refl
  said_anew x _ _ (SaysPassed port) = ap (λ (p : Option Ptr). ToldOver x (rebound_ptr bind port) p ∷ []) (carried_anew x)

  goes_anew : (p : Option Path) (n : ℕ) (near far : Outcome) →
      IsLikeOutcome [] (rebound_ptr bind) c near far → IsLikeOutcome [] (λ p. p) c far far → IsHeard (rebound_ptr bind) near far →
      (told : List Told) (later : World) →
      OnwardTo c (Own (k ∷ q) p n) far told later → OnwardTo (rebound bind c) (Own (k ∷ q) p n) near (map (rebound_told bind) told) (rebound bind later)
  goes_anew p n (Goes cs was) (Goes ds said) h again heard told later onward =
      let now : World = apply_all ds c in
      let world_now : IsCutWorld now = changes-like c c ds ds again world in
      let same : rebound bind now ≡ apply_all cs (rebound bind c) = same_likeness [] (rebound_ptr bind) (rebound bind now)
      (apply_all cs (rebound bind c)) now (rebound-like bind (λ p. p) [] now now world_now) (changes-like (rebound bind c) c cs ds h likeness_of) in
      let hears : List Told = flat_map (told_by_change c) ds in
      let says : List Told = told_by_said c (k ∷ q) said in
      let changed : map (rebound_told bind) hears ≡ flat_map (told_by_change (rebound bind c)) cs = sym (changes_told bind c likeness_of c cs ds h) in
      let spoken = said_anew (k ∷ q) was said heard in (
        changes-allowed likeness_of (top_free c world) (k ∷ q) c cs ds h (subst (λ (y : Path). AreAllowed c (k ∷ y) ds) (sym (append-nil q)) onward.0),
        ap (map (rebound_told bind)) onward.1 ∙ joined bind c likeness_of hears says ∙ (λ i. changed i ++ spoken i),
        ap (rebound bind) onward.2 ∙ same,
      )
  goes_anew p n near Waits h again heard told later onward = absurd onward
  goes_anew p n near (Refused status) h again heard told later onward = absurd onward
  goes_anew p n (Refused status) (Goes ds said) h again heard told later onward = absurd h
  goes_anew p n Waits (Goes ds said) h again heard told later onward = absurd h

  -- words go out in both or in none
  hushed : (cs : List Change) (said : Said) → ((v : World) (x : Path) → told_by_said v x said ≡ []) → goes_out (Goes cs said) ≡ false
  hushed cs (Words port words) hush = let none = hush c [] in cc
  hushed cs said hush = refl

  both_out : (cs ds : List Change) (was said : Said) → SaidLikeness (rebound_ptr bind) was said → goes_out (Goes cs was) ≡ goes_out (Goes ds said)
  both_out cs ds _ _ (Hushed was said h g) = hushed cs was h ∙ sym (hushed ds said g)
  both_out cs ds _ _ (SaysWords port words) = out_kept bind port
  both_out cs ds _ _ (SaysPassed port) = refl

  gone_anew : (p : Option Path) (n : ℕ) (near far : Outcome) →
      IsLikeOutcome [] (rebound_ptr bind) c near far → IsLikeOutcome [] (λ p. p) c far far → IsHeard (rebound_ptr bind) near far →
      (told : List Told) (later : World) → OnwardTo c (Own (k ∷ q) p n) (counted n far) told later →
      OnwardTo (rebound bind c) (Own (k ∷ q) p n) (counted n near) (map (rebound_told bind) told) (rebound bind later)
  gone_anew p n (Goes cs was) (Goes ds said) h again heard told later onward =
      rw (both_out cs ds was said heard) (by (eqb n 0 || goes_out (Goes ds said)) onward)
    where
      by : (b : Bool) → OnwardTo c (Own (k ∷ q) p n) (when b (Goes ds said)) told later →
          OnwardTo (rebound bind c) (Own (k ∷ q) p n) (when b (Goes cs was)) (map (rebound_told bind) told) (rebound bind later)
      by true onward = goes_anew p n (Goes cs was) (Goes ds said) h again heard told later onward
      by false onward = absurd onward
  gone_anew p n near Waits h again heard told later onward = absurd (idle (eqb n 0 || false) onward)
    where
      idle : (b : Bool) → OnwardTo c (Own (k ∷ q) p n) (when b Waits) told later → ⊥
      idle true h = h
      idle false h = h
  gone_anew p n near (Refused status) h again heard told later onward = absurd (idle (eqb n 0 || false) onward)
    where
      idle : (b : Bool) → OnwardTo c (Own (k ∷ q) p n) (when b (Refused status)) told later → ⊥
      idle true h = h
      idle false h = h
  gone_anew p n (Refused status) (Goes ds said) h again heard told later onward = absurd h
  gone_anew p n Waits (Goes ds said) h again heard told later onward = absurd h

  -- and back: it goes only where it went
  gone_back : (p : Option Path) (n : ℕ) (near far : Outcome) →
      IsLikeOutcome [] (rebound_ptr bind) c near far → IsLikeOutcome [] (λ p. p) c far far → IsHeard (rebound_ptr bind) near far →
      (heard : List Told) (after : World) → OnwardTo (rebound bind c) (Own (k ∷ q) p n) (counted n near) heard after →
      (told : List Told) × (later : World) × OnwardTo c (Own (k ∷ q) p n) (counted n far) told later
  gone_back p n (Goes cs was) (Goes ds said) h again hears heard after onward =
      by (eqb n 0 || goes_out (Goes ds said)) (rw (both_out cs ds was said hears) at onward)
    where
      by : (b : Bool) → OnwardTo (rebound bind c) (Own (k ∷ q) p n) (when b (Goes cs was)) heard after →
          (told : List Told) × (later : World) × OnwardTo c (Own (k ∷ q) p n) (when b (Goes ds said)) told later
      by true onward = (told_by c (Own (k ∷ q) p n) ds said, apply_all ds c, (changes_back bind c world (k ∷ q) c cs ds h again onward.0, refl, refl))
      by false onward = absurd onward
  gone_back p n Waits Waits h again hears heard after onward = absurd (idle (eqb n 0 || false) onward)
    where
      idle : (b : Bool) → OnwardTo (rebound bind c) (Own (k ∷ q) p n) (when b Waits) heard after → ⊥
      idle true h = h
      idle false h = h
  gone_back p n (Refused status) (Refused refusal) h again hears heard after onward = absurd (idle (eqb n 0 || false) onward)
    where
      idle : (b : Bool) → OnwardTo (rebound bind c) (Own (k ∷ q) p n) (when b (Refused status)) heard after → ⊥
      idle true h = h
      idle false h = h
  gone_back p n Waits (Refused refusal) h again hears heard after onward = absurd h
  gone_back p n Waits (Goes ds said) h again hears heard after onward = absurd h
  gone_back p n (Refused status) Waits h again hears heard after onward = absurd h
  gone_back p n (Refused status) (Goes ds said) h again hears heard after onward = absurd h
  gone_back p n (Goes cs was) Waits h again hears heard after onward = absurd h
  gone_back p n (Goes cs was) (Refused refusal) h again hears heard after onward = absurd h

  -- a row whose outcome is alike and heard alike
  pub rebinds_by : (p : Option Path) (n : ℕ) (near far : Outcome) →
      IsLikeOutcome [] (rebound_ptr bind) c near far → IsLikeOutcome [] (λ p. p) c far far → IsHeard (rebound_ptr bind) near far →
      onward_row (rebound bind c) (Own (k ∷ q) p n) ≡ counted n near → onward_row c (Own (k ∷ q) p n) ≡ counted n far → RebindsTo bind c (Own (k ∷ q) p n)
  rebinds_by p n near far h again hears near_is far_is = rebinds_from bind
      c (Own (k ∷ q) p n) (counted n near) (counted n far) near_is far_is (gone_anew p n near far h again hears) (gone_back p n near far h again hears)
      (stays_alone c world (Own (k ∷ q) p n) (counted n far) (counted_again c n far again))

  stage_anew : (p : Option Path) (n : ℕ) (stage : Stage) → IsOwn stage → IsAtStage c (k ∷ q) stage → RebindsTo bind c (Own (k ∷ q) p n)
  stage_anew p n stage inner at =
      let t = at.0 in
      let see : Ptr → Ptr = rebound_ptr bind in
      let free = top_free c world in
      let far : Outcome = when (is_free c q t) (call_row c (user_at (k ∷ q)) p stage) in
      let near : Outcome = when (is_free (rebound bind c) q (seen_thread see t)) (call_row (rebound bind c) (user_at (k ∷ q)) p stage) in
      let far_is : onward_row c (Own (k ∷ q) p n) ≡ counted n far = row_is c (k ∷ q) p n stage inner t at.1 at.2 at.3 at.4 in
      let near_is : onward_row (rebound bind c) (Own (k ∷ q) p n) ≡ counted n near = row_is (rebound bind c)
      (k ∷ q) p n stage inner (seen_thread see t) at.1 at.2 (thread_named see c (rebound bind c) (k ∷ q) likeness_of t at.3) at.4 in
      let quiet : (w : World) (b : Bool) → Quiet [] (when b (call_row w (user_at (k ∷ q)) p stage)) = λ w b.
      quiet-when [] b (call_row w (user_at (k ∷ q)) p stage) (quiet-call [] w (k ∷ q) p stage (inner.quiet w (k ∷ q) p)) in
      rebinds_by p n near
      far (alike_there see c (rebound bind c) likeness_of free k q p stage inner t) (unseen t (alike_there (λ p. p) c c world free k q p stage inner t))
      (quiet_heard see near far (quiet (rebound bind c) (is_free (rebound bind c) q (seen_thread see t))) (quiet c (is_free c q t))) near_is far_is
    where
      -- a world that is its own likeness is not changed by that
      unseen : (t : Thread) → IsLikeOutcome [] (λ p. p) c (when (is_free c q (seen_thread (λ p. p) t)) (call_row c (user_at (k ∷ q)) p stage))
          (when (is_free c q t) (call_row c (user_at (k ∷ q)) p stage)) → IsLikeOutcome []
          (λ p. p) c (when (is_free c q t) (call_row c (user_at (k ∷ q)) p stage)) (when (is_free c q t) (call_row c (user_at (k ∷ q)) p stage))
      unseen t h = subst (λ (b : Bool). IsLikeOutcome
          [] (λ p. p) c (when b (call_row c (user_at (k ∷ q)) p stage)) (when (is_free c q t) (call_row c (user_at (k ∷ q)) p stage))) (free_same t.fault) h
        where
          free_same : (o : Option Fault) → is_free c
              q (record t { talk = and_then (seeing (λ p. p)).talk t.talk; fault = and_then (seeing (λ p. p)).fault o }) ≡ is_free c q (record t { fault = o })
          free_same None = refl
          free_same (Some fault) = refl

pub no_thread : (t : Thread) (v : Option Body) → v ≡ Some (Space zero None) → and_then thread_of v ≡ Some t → ⊥
no_thread t v e h = let none : and_then thread_of v ≡ None = rw e refl in cc

-- a row of a free thread that acts alike in every likeness at the same path
pub row_anew : (bind : ℕ → ℕ) (c : World) (world : IsCutWorld c) (k : ℕ) (q : Path) (p : Option Path) (n : ℕ) (t : Thread) (row : World → Outcome) →
    onward_row c (Own (k ∷ q) p n) ≡ counted n (when (is_free c q t) (row c)) →
    (thread_at (rebound bind c) (k ∷ q) ≡ Some (seen_thread (rebound_ptr bind) t) → onward_row (rebound bind c)
    (Own (k ∷ q) p n) ≡ counted n (when (is_free (rebound bind c) q (seen_thread (rebound_ptr bind) t)) (row (rebound bind c)))) →
    thread_at c (k ∷ q) ≡ Some t →
    ((see : Ptr → Ptr) (small : World) → IsLikeness [] see small c → IsLikeOutcome [] see c (row small) (row c)) →
    ((w : World) → Quiet [] (row w)) → RebindsTo bind c (Own (k ∷ q) p n)
row_anew bind c world k q p n t row far_is near_by is alike quiet =
    let see : Ptr → Ptr = rebound_ptr bind in
    let like : IsLikeness [] see (rebound bind c) c = rebound-like bind (λ p. p) [] c c world in
    let free = top_free c world in
    let far : Outcome = when (is_free c q t) (row c) in
    let near : Outcome = when (is_free (rebound bind c) q (seen_thread see t)) (row (rebound bind c)) in
    let near_is : onward_row (rebound bind c) (Own (k ∷ q) p n) ≡ counted n near = near_by (thread_named see c (rebound bind c) (k ∷ q) like t is) in
    rebinds_by bind c world k q p n near far
    (when_same like (is_free (rebound bind c) q (seen_thread see t)) (is_free c q t)
    (row (rebound bind c)) (row c) (is_free-like like free q t ∙ ap (λ (y : Path). is_free c y t) (append-nil q)) (alike see (rebound bind c) like))
    (when_same world (is_free c q t) (is_free c q t) (row c) (row c) refl (alike (λ p. p) c world))
    (quiet_heard see near far (quiet-when [] (is_free (rebound bind c) q (seen_thread see t)) (row (rebound bind c)) (quiet (rebound bind c)))
    (quiet-when [] (is_free c q t) (row c) (quiet c))) near_is far_is

pub own_rebinds : (IsSuch : Stage → Type 0) → ((stage : Stage) → IsSuch stage → IsOwn stage) → StageRebinds IsSuch
own_rebinds IsSuch inner c [] p n stage such at bind world = absurd (no_thread at.0 (c.body []) (root_seen world) at.3)
own_rebinds IsSuch inner c (k ∷ q) p n stage such at bind world = stage_anew bind c world k q p n stage (inner stage such) at

pub inner_rebinds : (IsSuch : Stage → Type 0) → ((stage : Stage) → IsSuch stage → IsInner stage) → StageRebinds IsSuch
inner_rebinds IsSuch inner = own_rebinds IsSuch (λ stage such. inner_own stage (inner stage such))
