-- The law of rebinding for a wait.
use Rattle.std.proofs.Common.{◌≡◌, ℕ, List, [], ◌∷◌, ◌++◌, find, Option, Some, None, IfSome, option_map, refl, sym, subst, append-nil}
use Rattle.fk_model.specs.declared.stage.Stage.TheVariants.{Wait}
use Rattle.fk_model.specs.Places.{Path, Ptr}
use Rattle.fk_model.specs.Objects.{Peer, Fault, holds}
use Rattle.fk_model.specs.World.{World, serves}
use Rattle.fk_model.specs.Searches.{fault_at, client_of, faulter_of, is_serving, objects}
use Rattle.fk_model.specs.Cut.{is_out}
use Rattle.laws_subtrees.specs.Cut.CutLaws.{IsWait}
use Rattle.laws_subtrees.specs.Cut.Likeness.{seen_peer, HasLikeness, IfServer, IsLikeness, ServesNobodyOutside, IsBeneath, AlikeOptions, IsSeenFault}
use Rattle.laws_subtrees.specs.Cut.RebindLaws.{StageRebinds}
use Rattle.laws_subtrees.proofs.InCut.likeness.Alike.{alike-is_some}
use Rattle.laws_subtrees.proofs.InCut.likeness.Memory.{root_space, root_seen}
use Rattle.laws_subtrees.proofs.InCut.likeness.Talks.{fault_at-like}
use Rattle.laws_subtrees.proofs.InCut.likeness.Walks.{beneath-like}
use Rattle.laws_subtrees.proofs.InCut.likeness.Sweeps.{serves_alike}
use Rattle.laws_subtrees.proofs.InCut.likeness.Servers.{cut_world-apart}
use Rattle.laws_subtrees.proofs.InCut.likeness.Picks.{wait_call-like}
use Rattle.laws_subtrees.proofs.InCut.rebinding.Freedom.{top_free}
use Rattle.laws_subtrees.proofs.InCut.rebinding.Messages.{found_same, client_same, silent_row, told_rebinds}

-- ---- whose fault a thread has taken, in a world that is all inside

module _ {root : Path} {see : Ptr → Ptr} {small big : World} (like : IsLikeness root see small big) (apart : ServesNobodyOutside root see big) (me : Path) where
  taker_like : (j : ℕ) (q : Path) (fault : Fault) (o : Option Peer) →
      fault_at big (j ∷ (q ++ root)) ≡ Some fault → fault.taker ≡ o → IfSome o (λ taker. IfServer (is_out (see fault.port)) taker (HasLikeness root see big)) →
      holds (serves me) (option_map (seen_peer see (is_out (see fault.port))) o) ≡ holds (serves (me ++ root)) o
  taker_like j q fault None is took h = refl
  taker_like j q fault (Some peer) is took h = serves_alike like me (is_out (see fault.port)) peer h (λ out. apart.faults j q fault peer is out took me)

  takes_like : (x : Path) → holds (λ (fault : Fault). holds (serves me) fault.taker)
      (fault_at small x) ≡ holds (λ (fault : Fault). holds (serves (me ++ root)) fault.taker) (fault_at big (x ++ root))
  takes_like [] = rw ((root_space like).2, root_seen like) refl
  takes_like (j ∷ q) = by (fault_at small (j ∷ q)) (fault_at big (j ∷ (q ++ root))) refl (fault_at-like like (j ∷ q))
    where
      by : (o p : Option Fault) → fault_at big (j ∷ (q ++ root)) ≡ p → AlikeOptions (IsSeenFault root see big) o p →
          holds (λ (fault : Fault). holds (serves me) fault.taker) o ≡ holds (λ (fault : Fault). holds (serves (me ++ root)) fault.taker) p
      by None None is h = refl
      by (Some seen) (Some fault) is h = rw h.0 (taker_like j q fault fault.taker is refl h.1.1)
      by None (Some fault) is h = absurd h
      by (Some seen) None is h = absurd h

pub faulter_same : {see : Ptr → Ptr} {small big : World} (like : IsLikeness [] see small big) →
    ServesNobodyOutside [] see big → (me : Path) → AlikeOptions (IsBeneath []) (faulter_of small me) (faulter_of big (me ++ []))
unfolding faulter_of
faulter_same {see} {small} {big} like apart me =
    subst (λ (xs : List Path). AlikeOptions (IsBeneath []) (find (λ c. holds (λ (fault : Fault). holds (serves me) fault.taker) (fault_at small c))
    (objects small)) (find (λ c. holds (λ (fault : Fault). holds (serves (me ++ [])) fault.taker) (fault_at big c)) xs)) (sym (beneath-like like []))
    (found_same like _ _ (objects small) (takes_like like apart me))

serving_same : {see : Ptr → Ptr} {small big : World} (like : IsLikeness [] see small big) →
    ServesNobodyOutside [] see big → (me : Path) → is_serving small me ≡ is_serving big (me ++ [])
serving_same {see} {small} {big} like apart me =
    rw (
      alike-is_some (IsBeneath []) (client_of small me) (client_of big (me ++ [])) (client_same like apart me),
      alike-is_some (IsBeneath []) (faulter_of small me) (faulter_of big (me ++ [])) (faulter_same like apart me),
    ) refl

-- ---- the law

pub same_pick : (p : Option Path) → AlikeOptions (IsBeneath []) p p
same_pick None = tt
same_pick (Some z) = sym (append-nil z)

pub wait_rebinds : StageRebinds IsWait
wait_rebinds = told_rebinds IsWait (λ p n stage such see small c like outs world k q. rw such.1
    (rw (silent_row p n (Wait such.0) small (k ∷ q) (λ n o. refl), silent_row p n (Wait such.0) c (k ∷ (q ++ [])) (λ n o. refl))
    (wait_call-like like (top_free c world) k q such.0 (serving_same like (cut_world-apart c see outs world) (k ∷ q)) p p (same_pick p))))
