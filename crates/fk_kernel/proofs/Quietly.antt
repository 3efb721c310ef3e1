-- Quietly: a thread that goes on with other words, and pages that are there, leave the reasons of all others.
use Rattle.std.proofs.Common.{◌≡◌, ℕ, Bool, true, false, List, [], ◌∷◌, All, Option, Some, None, refl, sym, ap, subst, ◌∙◌}
use Rattle.std.proofs.lemmas.List.Elements.{All-head, All-tail}
use Rattle.fk_model.specs.declared.names.Who.{Who}
use Rattle.fk_model.specs.declared.thread.Turn.{Turn}
use Rattle.fk_model.specs.Objects.{Body, Mode, Thread, and_then, thread_of}
use Rattle.fk_model.specs.Objects.Mode.{Calling, Halted, Native, Running}
use Rattle.fk_model.specs.Places.{Path, same_path}
use Rattle.fk_model.specs.Searches.{thread_at}
use Rattle.fk_model.specs.Talks.{other_side}
use Rattle.fk_model.specs.Who.{named, space_born}
use Rattle.fk_model.specs.World.{World, Change, apply}
use Rattle.fk_model.specs.World.Change.{Alter, PutPage}
use Rattle.fk_model.specs.World.Edit.{Proceed}
use Rattle.fk_model.proofs.walks.PlaceLaws.{same_path_eq}
use Rattle.fk_plans.specs.Plans.Effects.{is_running, is_running_mode}
use Rattle.fk_store.specs.Store.Contents.{Contents}
use Rattle.fk_store.specs.Store.Paths.{path}
use Rattle.fk_store.specs.Store.World.{world, place_of}
use Rattle.laws_waits.specs.Calm.{IsApart, IsCalm}
use Rattle.laws_waits.specs.Complete.{is_barred}
use Rattle.laws_waits.specs.Stuck.{awaits_on, HasRoom, IsStuck, Reason}
use Rattle.laws_waits.specs.Stuck.Reason.{Barred, Beneath, Connecting, Ending, Holding, Lacking, Locking, Passing, Receiving, Resting, Sending, Sleeping}
use Rattle.laws_waits.specs.Stuck.Reason.{Waiting, WaitingOut}
use Rattle.laws_waits.proofs.Calm.{calm_touches_nobody_lem}
use Rattle.laws_waits.proofs.Stays.{stuck_stays_lem}
use Rattle.fk_kernel.specs.declared.replace.BurstPage.{BurstPage}
use Rattle.fk_kernel.specs.Replaced.{rewritten, IsPageThere}
use Rattle.fk_kernel.proofs.Replacing.{still-there}

-- a thread runs
pub record Runs (w : World) (me : Path) : Type 0 where
  pub thread : Thread
  pub registers : List ℕ
  pub there : thread_at w me ≡ Some thread
  pub mode : thread.mode ≡ Running registers

runs_in : (w : World) (me : Path) → is_running (thread_at w me) ≡ true → Runs w me
runs_in w me is = by (thread_at w me) refl is
  where
    by : (o : Option Thread) → thread_at w me ≡ o → is_running o ≡ true → Runs w me
    by None e is = absurd (cc)
    by (Some t) e is = by_mode t.mode refl is
      where
        by_mode : (m : Mode) → t.mode ≡ m → is_running_mode m ≡ true → Runs w me
        by_mode (Running g) f is = record { thread = t; registers = g; there = e; mode = f }
        by_mode (Calling todo rest) f is = absurd (cc)
        by_mode (Halted g code) f is = absurd (cc)
        by_mode (Native g) f is = absurd (cc)

pub runs_at : (m : Contents) (who : Who) → path m ≡ space_born (world m) → is_running (thread_at (world m) (named (world m) who)) ≡ true →
    Runs (world m) (place_of m who)
runs_at m who born is = subst (λ (p : ℕ → Path). Runs (world m) (who.slot ∷ p who.space)) (sym born) (runs_in (world m) (named (world m) who) is)

none_some : {A X : Type 0} (a : A) → None ≡ Some a → X
none_some a is = absurd (cc)

-- who runs is at no Receive
no_room : (w : World) (me : Path) → Runs w me → (side : Turn) (y : Path) (into room : ℕ) → HasRoom w side y into room → same_path y me ≡ false
no_room w me runs side y into room has = by (same_path y me) refl
  where
    by : (b : Bool) → same_path y me ≡ b → same_path y me ≡ false
    by false e = e
    by true e =
        let here : thread_at w y ≡ Some runs.thread = ap (thread_at w) (same_path_eq y me e) ∙ runs.there in
        none_some (into, room)
        (sym (ap (and_then (λ (u : Thread). awaits_on (other_side side) u.mode)) here ∙ ap (awaits_on (other_side side)) runs.mode) ∙ has.0)

-- so no reason of another looks at its words
apart_by : (w : World) (me x : Path) → Runs w me → same_path x me ≡ false → (r : Reason) → IsStuck w x r → is_barred r ≡ false → IsApart me x r
apart_by w me x runs other (Lacking side address count far client y into room) stuck named = (other, no_room w me runs side y into room stuck.4)
apart_by w me x runs other Barred stuck named = absurd (cc)
apart_by w me x runs other Resting stuck named = other
apart_by w me x runs other (Beneath space) stuck named = other
apart_by w me x runs other (Locking m) stuck named = other
apart_by w me x runs other (Sleeping c m) stuck named = other
apart_by w me x runs other (Connecting h port) stuck named = other
apart_by w me x runs other (Receiving side into room reference far client) stuck named = other
apart_by w me x runs other (Passing side reference client end) stuck named = other
apart_by w me x runs other (Sending side address count far client end) stuck named = other
apart_by w me x runs other (Ending y space) stuck named = other
apart_by w me x runs other (Holding s y space) stuck named = other
apart_by w me x runs other (Waiting set) stuck named = other
apart_by w me x runs other (WaitingOut set) stuck named = other

pub calm_stays : (w : World) (me x : Path) (c : Change) (r : Reason) → IsCalm w me c → IsStuck w x r → IsApart me x r → IsStuck (apply c w) x r
calm_stays w me x c r calm stuck apart = stuck_stays_lem w c x r stuck (calm_touches_nobody_lem w me (c ∷ []) x r (calm, tt) stuck apart).0

pub pages_stay : (p : ℕ → Path) (ps : List BurstPage) (w : World) (me x : Path) (r : Reason) → All (IsPageThere p w) ps → IsStuck w x r → IsApart me x r →
    IsStuck (rewritten p ps w) x r
unfolding rewritten
pages_stay p [] w me x r all stuck apart = stuck
pages_stay p (page ∷ ps) w me x r all stuck apart =
    let put = PutPage (p page.space) page.page page.words in
    pages_stay p ps (apply put w) me x r (still-there p ps page w (apply put w) refl (All-tail (IsPageThere p w) page ps all))
    (calm_stays w me x put r (All-head (IsPageThere p w) page ps all).1 stuck apart) apart

-- a thread that goes on, once pages have changed, leaves the reasons of all others
pub replaced_stays : (w u v : World) (me : Path) (registers : List ℕ) (counter : ℕ) →
    v ≡ apply (Alter me (Proceed (Running registers) counter)) u → u.body ≡ w.body → Runs w me →
    ((x : Path) (r : Reason) → IsStuck w x r → IsApart me x r → IsStuck u x r) →
    (x : Path) → same_path x me ≡ false → (r : Reason) → IsStuck w x r → is_barred r ≡ false → IsStuck v x r
replaced_stays w u v me registers counter is bodies runs stay x other r stuck named =
    let goes = Alter me (Proceed (Running registers) counter) in
    let apart = apart_by w me x runs other r stuck named in
    let there : thread_at u me ≡ Some runs.thread = ap (λ (bodies : Path → Option Body). and_then thread_of (bodies me)) bodies ∙ runs.there in
    let calm : IsCalm u me goes = record {
      edit = Proceed (Running registers) counter;
      thread = runs.thread;
      is = refl;
      there = there;
      quiet = rw runs.mode refl;
      plain = (refl, refl, refl);
    } in
    subst (λ (u : World). IsStuck u x r) (sym is) (calm_stays u me x goes r calm (stay x r stuck apart) apart)
