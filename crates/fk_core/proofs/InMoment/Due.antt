-- Due: when a job is, and which end without a move.
use Rattle.std.proofs.Common.{◌≡◌, ◌↔◌, ℕ, ◌≤◌, ◌<◌, ◌%◌, ◌==◌, ◌&&◌, Bool, true, false, not, nat_lt, IsTrue, IfSome, IfNone, List, Option, Some}
use Rattle.std.proofs.Common.{None, is_some, inl, inr, refl, sym, ap, subst, ◌∙◌}
use Rattle.std.proofs.lemmas.Bool.Decides.{Decides-ltb}
use Rattle.std.proofs.lemmas.Bool.{le-leb}
use Rattle.fk_model.specs.declared.moves.Move.{Move}
use Rattle.fk_model.specs.Places.{Path}
use Rattle.fk_model.specs.Searches.{depth}
use Rattle.fk_model.specs.Valid.{IsValid}
use Rattle.fk_model.specs.Who.{space_born}
use Rattle.fk_model.specs.World.{World}
use Rattle.fk_store.specs.Store.Contents.{Contents}
use Rattle.fk_store.specs.Store.Paths.{path}
use Rattle.fk_store.specs.Store.World.{world, IsSpace}
use Rattle.laws_house.specs.Houses.{Job, State}
use Rattle.laws_runs.specs.Cores.{Work, IsGone, IsOtherReady}
use Rattle.laws_runs.proofs.Named.{named_is}
use Rattle.fk_jobs.specs.Jobs.{Queue}
use Rattle.fk_jobs.specs.Turns.{core_of}
use Rattle.fk_served.specs.Served.{Services}
use Rattle.fk_core.specs.Moment.Moments.{RunCore, house, has_come, is_timely, is_timely_by, is_porter, IsReadyMove, IsDue, IsOthersMove}
use Rattle.fk_core.specs.Moment.Moments.{IsFirstDue}
use Rattle.fk_core.proofs.InMoment.Asking.{undue_job, ready_other}

module _ (q : Queue) (w : World) (services : Services) (events : ℕ) where
  -- what is due isn't timely only where nobody else is ready
  pub due_alone : is_timely q events ≡ false → IsDue q.jobs (core_of w services q events) →
      IsOtherReady (house q.jobs) (core_of w services q events) → ⊥
  due_alone untimely (j, its, inl (k, at)) other = untimely_work (q.work) at (subst (λ o. is_timely_by (is_some q.work) events o ≡ false) its untimely)
    where
      untimely_work : (o : Option (Work State)) → o ≡ Some k → is_timely_by (is_some o) events (Some j) ≡ false → ⊥
      untimely_work None is nay = cc
      untimely_work (Some k) is nay = cc
  due_alone untimely (j, its, inr (inl low)) other = by (is_some q.work) (subst (λ o. is_timely_by (is_some q.work) events o ≡ false) its untimely)
    where
      by : (b : Bool) → is_timely_by b events (Some j) ≡ false → ⊥
      by true nay = cc
      by false nay = let yes = le-leb j.at events low in cc
  due_alone untimely (j, its, inr (inr alone)) other = alone other

  -- ---- who goes first

  pub first_due : (m other : Move) → is_timely q events ≡ false → is_porter q m.who ≡ true → IsReadyMove q.jobs (core_of w services q events) m →
      IsReadyMove q.jobs (core_of w services q events) other → is_porter q other.who ≡ true
  first_due m other untimely porter ready also = by (is_porter q other.who) refl
    where
      by : (b : Bool) → is_porter q other.who ≡ b → b ≡ true
      by true e = refl
      by false e =
          let as_other = ready_other q w services events other e also in
          absurd (undue_job q w services events m porter
          (λ due. due_alone untimely due (other, as_other.0, as_other.1, as_other.2)) ready)

  pub chosen_first : (budget : ℕ) (chosen : Option Move) →
      (has_come q budget events ≡ true → (m : Move) → is_porter q m.who ≡ true → IsReadyMove q.jobs (core_of w services q events) m → ⊥) →
      IfSome chosen (λ m. (events < budget) × IsReadyMove q.jobs (core_of w services q events) m) → IsFirstDue q budget (core_of w services q events) chosen
  chosen_first budget chosen none some even few m porter ready = by (is_timely q events) refl chosen some
    where
      by : (b : Bool) → is_timely q events ≡ b → (chosen : Option Move)
          → IfSome chosen (λ m. (events < budget) × IsReadyMove q.jobs (core_of w services q events) m) →
          IfSome chosen (λ m. is_porter q m.who ≡ true)
      by true e chosen some = absurd (none (come e) m porter ready)
        where
          come : is_timely q events ≡ true → has_come q budget events ≡ true
          come e = ap (λ b. b && events % 2 == 0 && nat_lt events budget) e ∙ ap (λ n. n == 0 && nat_lt events budget) even ∙ (Decides-ltb events budget).1 few
      by false e None some = tt
      by false e (Some other) some = first_due m other e porter ready some.1

-- ---- which are ready, by what was found

pub some_other : (jobs : List Job) (c : RunCore) (o : Option Move) → IfSome o (λ m. IsOthersMove jobs c m) → IfNone o (IsOtherReady (house jobs) c → ⊥) →
    (b : Bool) → b ≡ is_some o → IsTrue b ↔ IsOtherReady (house jobs) c
some_other jobs c None some none b is = (λ t. let f : true ≡ false = sym t ∙ is in absurd (cc), λ other. absurd (none other))
some_other jobs c (Some m) some none b is = (λ t. (m, some.0, some.1, some.2), λ other. is)

-- a space that isn't there is gone
pub gone : (m : Contents) (n : ℕ) → IsValid (world m) → (world m).next ≤ depth → path m ≡ space_born (world m) → (IsSpace m n → ⊥) → IsGone (world m) n
gone m n valid few born none x is =
    none (rw (ap (λ (p : ℕ → Path). p n) born, named_is (world m) valid few n x is) is)

pub lives : (m : Contents) (n : ℕ) → IsSpace m n → IsGone (world m) n → ⊥
lives m n there gone = gone (path m n) there

pub gone_exactly : (m s : Contents) (n : ℕ) (b : Bool) → s ≡ m → IsValid (world m) → (world m).next ≤ depth → path m ≡ space_born (world m) →
    (IsTrue b ↔ IsSpace s n) → IsTrue (not b) ↔ IsGone (world m) n
gone_exactly m s n true same valid few born live = (
  λ t. absurd (cc),
  λ over. absurd (lives m n (subst (λ m. IsSpace m n) same (live.0 refl)) over),
)
gone_exactly m s n false same valid few born live = (
  λ t. gone m n valid few born (λ there. let yes = live.1 (subst (λ m. IsSpace m n) (sym same) there) in absurd (cc)),
  λ over. refl,
)
