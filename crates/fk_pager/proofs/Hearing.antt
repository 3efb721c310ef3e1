-- A pager hears what its call was answered.
use Rattle.std.proofs.Common.{◌≡◌, ℕ, ◌≤◌, List, length, vec_capacity, sym, subst, ◌∙◌, arith}
use Rattle.fk_model.specs.declared.moves.Answer.{Answer}
use Rattle.laws_filled.specs.Pager.{next, first}
use Rattle.fk_paging.specs.declared.pager.Pager.{Pager}
use Rattle.fk_paging.specs.declared.pager.Phase.{Phase}
use Rattle.fk_paging.specs.declared.pager.Phase.TheVariants as phases
use Rattle.fk_paging.specs.Pagers.{answered, desk_of, phase_of, state_of, IsStill, MayHear}
use Rattle.fk_pager.specs.Desks.{root}
use Rattle.fk_pager.specs.Sane.{HasNumbers, IsSaneState, IsSane, IsGoodAnswer}
use Rattle.fk_pager.proofs.Sane.{sane-first, sane-next}

pub may-hear : (p : Pager) (a : Answer) → IsSane p → IsGoodAnswer (state_of p).phase a.status (answered a) → MayHear p p.phase a
may-hear p a sane good = by p.phase sane.state.phase good
  where
    by : (phase : Phase) → HasNumbers p.room (length p.inside.items) (phase_of phase) → IsGoodAnswer (phase_of phase) a.status (answered a) → MayHear p phase a
    by (phases.Seeking from) numbers is = tt
    by (phases.Taking page) numbers is = (numbers, is)
    by phases.Waiting numbers is = tt
    by (phases.Looking page) numbers is = tt
    by (phases.Evicting old page) numbers is = (numbers.0, is)
    by (phases.Giving page) numbers is = let less = numbers.1 in let most = sane.most in let spare = sane.spare in omega (arith, less, most, spare)
    by (phases.Ending page) numbers is = tt

pub hear-sane : (p q : Pager) → IsSane p → IsStill p q → (status : ℕ) (words : List ℕ) →
    state_of q ≡ next (desk_of root 0 p) (state_of p) (state_of p).phase status words → IsGoodAnswer (state_of p).phase status words → IsSane q
hear-sane p q sane still status words is good = record {
  low = subst (λ n. n ≤ 239) (sym still.slot) sane.low;
  whole = still.pages ∙ sane.whole;
  spare = subst (λ n. 256 ≤ n) (sym still.inside) sane.spare;
  some = subst (λ n. 1 ≤ n) (sym still.room) sane.some;
  most = subst (λ n. n ≤ 256) (sym still.room) sane.most;
  state = subst (λ n. IsSaneState n (state_of q)) (sym still.room)
      (subst (IsSaneState p.room) (sym is) (sane-next (desk_of root 0 p) (state_of p) sane.some sane.state status words good));
}

pub sane-new : (p : Pager) (slot room : ℕ) → slot ≤ 239 → 1 ≤ room → room ≤ 256 → p.slot ≡ slot → p.room ≡ room → length p.pages.items ≡ 256 →
    256 ≤ vec_capacity p.inside → state_of p ≡ first → IsSane p
sane-new p slot room low some most its_slot its_room whole spare is = record {
  low = subst (λ n. n ≤ 239) (sym its_slot) low;
  whole = whole;
  spare = spare;
  some = subst (λ n. 1 ≤ n) (sym its_room) some;
  most = subst (λ n. n ≤ 256) (sym its_room) most;
  state = subst (IsSaneState p.room) (sym is) (sane-first p.room);
}
