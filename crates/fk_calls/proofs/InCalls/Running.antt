-- Running: a thread runs on after an instruction that neither halts it nor enters a call.
use Rattle.std.proofs.Common.{◌≡◌, ◌&&◌, ◌==◌, ℕ, Bool, true, false, not, is_none, List, Option, Some, None, option_map, slice_set, refl, ap, subst}
use Rattle.std.specs.Bool.{OnTrue, OnFalse}
use Rattle.fk_model.specs.Holds.{is_free, is_frozen, is_user}
use Rattle.fk_model.specs.Instructions.{next}
use Rattle.fk_model.specs.Moves.{stepped, Step}
use Rattle.fk_model.specs.Objects.{Body, Thread, and_then, holds, thread_of}
use Rattle.fk_model.specs.Objects.Body.{Mutex, Thread_of}
use Rattle.fk_model.specs.Objects.Mode.{Running}
use Rattle.fk_model.specs.Outcomes.{Said}
use Rattle.fk_model.specs.Places.{Path, parent}
use Rattle.fk_model.specs.Reach.{words_at}
use Rattle.fk_model.specs.Searches.{thread_at}
use Rattle.fk_model.specs.World.{World, apply, apply_all, edited}
use Rattle.fk_model.specs.World.Change.{Alter, PutPage}
use Rattle.fk_model.specs.World.Edit.{Proceed}
use Rattle.fk_model.proofs.walks.PlaceLaws.{same_path_refl}
use Rattle.fk_plans.specs.declared.plans.plan.Effect.{Effect}
use Rattle.fk_plans.specs.declared.plans.plan.Effect.TheVariants as effects
use Rattle.fk_plans.specs.Plans.Effects.{effect_by}
use Rattle.fk_store.specs.Store.Threads.{is_free_at}
use Rattle.fk_calls.specs.Calls.Runs.{is_under_way, leaves_running}

-- it isn't stopped and has no fault
abbrev is_awake : Thread → Bool
is_awake t = t.stops == 0 && is_none t.fault

awake_free : (w : World) (x : Path) → is_free_at w x ≡ true → holds is_awake (thread_at w x) ≡ true
unfolding is_free_at
awake_free w x free = by (thread_at w x) free
  where
    parts : (a b c d : Bool) → (not a && b && c && d) ≡ true → (b && c) ≡ true
    parts false true true d is = refl
    parts true b c d is = absurd (cc)
    parts false false c d is = absurd (cc)
    parts false true false d is = absurd (cc)

    by : (o : Option Thread) → holds (is_free w (parent x)) o ≡ true → holds is_awake o ≡ true
    by (Some t) is = parts (is_frozen w (parent x)) (t.stops == 0) (is_none t.fault) (is_user t.mode) is
    by None is = absurd (cc)

proceeds_on : (w : World) (x : Path) (g : List ℕ) (counter : ℕ) → holds is_awake (thread_at w x) ≡ true →
    holds is_under_way (thread_at (apply (Alter x (Proceed (Running g) counter)) w) x) ≡ true
unfolding apply edited
proceeds_on w x g counter awake = rw (same_path_refl x) (by (w.body x) awake)
  where
    by : (o : Option Body) → holds is_awake (and_then thread_of o) ≡ true →
        holds is_under_way (and_then thread_of (option_map (edited (Proceed (Running g) counter)) o)) ≡ true
    by (Some (Thread_of t)) awake = awake
    by None awake = absurd (cc)
    by (Some (Mutex locked)) awake = absurd (cc)
    by (Some b) awake = absurd (cc)

put_awake : (w : World) (x space : Path) (page : ℕ) (words : List ℕ) → holds is_awake (thread_at w x) ≡ true →
    holds is_awake (thread_at (apply (PutPage space page words) w) x) ≡ true
unfolding apply
put_awake w x space page words awake = awake

pub under_way_after : (w : World) (p : ℕ → Path) (x : Path) (e : Effect) (g : List ℕ) (counter : ℕ) (v : World) (said : Said) →
    stepped w (effect_by w p x e g counter) ≡ record { world = v; said = said } → is_free_at w x ≡ true → leaves_running e ≡ true →
    holds is_under_way (thread_at v x) ≡ true
unfolding apply_all
under_way_after w p x e g counter v said step free on =
    subst (λ (u : World). holds is_under_way (thread_at u x) ≡ true) (ap (λ (s : Step). s.world) step) (by e on)
  where
    awake : holds is_awake (thread_at w x) ≡ true
    awake = awake_free w x free

    by : (e : Effect) → leaves_running e ≡ true → holds is_under_way (thread_at (stepped w (effect_by w p x e g counter)).world x) ≡ true
    by (effects.Puts register value) on = proceeds_on w x (slice_set g register value) (next counter) awake
    by (effects.Jumps to) on = proceeds_on w x g to awake
    by (effects.Stores space page at value) on =
        let words = slice_set (words_at w (p space) page) at value in
        proceeds_on (apply (PutPage (p space) page words) w) x g (next counter) (put_awake w x (p space) page words awake)
    by (effects.Halts code) on = absurd (cc)
    by effects.Enters on = absurd (cc)

pub on_both : (P : Type 0) (a b : Bool) → OnTrue a (b ≡ true → P) → OnTrue (a && b) P
on_both P true true is = is refl
on_both P true false is = tt
on_both P false b is = tt

pub true_anyway : {P : Type 0} (b : Bool) → P → OnTrue b P
true_anyway true p = p
true_anyway false p = tt

pub off_right : (P Q : Type 0) (b : Bool) → OnFalse b (P × Q) → OnFalse b Q
off_right P Q true is = tt
off_right P Q false is = is.1
