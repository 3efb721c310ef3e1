-- Rewrote: the lists once a user's thread and some pages have got other words.
use Rattle.std.proofs.Common.{◌≡◌, ℕ, Bool, true, false, not, List, [], ◌∷◌, Option, Some, None, IsSome, option_map, if◌then◌else◌, refl, sym}
use Rattle.std.proofs.Common.{ap, subst, ◌∙◌}
use Rattle.std.proofs.lemmas.Bool.{or_parts}
use Rattle.fk_model.specs.declared.names.Who.{Who}
use Rattle.fk_model.specs.Holds.{is_porter}
use Rattle.fk_model.specs.Objects.{Body, Mode, Thread, and_then, holds, thread_of}
use Rattle.fk_model.specs.Objects.Mode.{Calling, Halted, Native, Running}
use Rattle.fk_model.specs.Places.{Path, same_path}
use Rattle.fk_model.specs.Searches.{thread_at}
use Rattle.fk_model.specs.Who.{named, space_born}
use Rattle.fk_model.specs.World.{World, apply, edited}
use Rattle.fk_plans.specs.Plans.Effects.{is_running, is_running_mode}
use Rattle.fk_model.specs.World.Change.{Alter, PutPage}
use Rattle.fk_model.specs.World.Edit.{Proceed}
use Rattle.fk_model.proofs.walks.PlaceLaws.{same_path_eq, same_path_refl}
use Rattle.fk_store.specs.Store.Contents.{Contents}
use Rattle.fk_store.specs.Store.Paths.{path}
use Rattle.fk_store.specs.Store.World.{world, place_of}
use Rattle.fk_turns.specs.Steps.Kept.{is_user_at, AreKept}
use Rattle.fk_turns.specs.Steps.Moved.{is_named, is_told, HasRoom, IsAside, IsMoved}
use Rattle.fk_turns.specs.Steps.Told.{IsQuietTo, IsStored}
use Rattle.fk_turns.proofs.InSteps.Known.{same_name, user_there}
use Rattle.fk_waits.specs.Waits.Lists.{Lists}
use Rattle.fk_waits.proofs.InCauses.Numbers.{clash}
use Rattle.fk_waits.specs.Causes.Names.{is_same}
use Rattle.fk_waits.proofs.InCauses.Order.{same_who}
use Rattle.fk_plans.specs.declared.wakes.touching.Touched.{Touched}
use Rattle.fk_plans.specs.declared.wakes.touching.Touched.TheVariants.{Few}
use Rattle.fk_turns.specs.declared.whys.whys.Why.{Why}
use Rattle.fk_turns.specs.declared.whys.whys.Why.TheVariants as whys
use Rattle.fk_turns.specs.Whys.Whys.{IsAt, IsLoudly, IsStill, IsWhy}
use Rattle.laws_waits.specs.Complete.{is_barred}
use Rattle.laws_waits.specs.Stuck.{IsStuck, Reason}
use Rattle.fk_turns.proofs.InWhys.Apart.{at_after, loud_named, own_named, read_named, still_after}
use Rattle.laws_moves.specs.Users.Stood.{is_users_at}
use Rattle.fk_kernel.specs.declared.replace.BurstPage.{BurstPage}
use Rattle.fk_kernel.specs.Replaced.{rewritten}

-- ---- the world

-- pages that get other words leave all bodies
pub rewritten_bodies : (p : ℕ → Path) (ps : List BurstPage) (w : World) → (rewritten p ps w).body ≡ w.body
unfolding rewritten apply
rewritten_bodies p [] w = refl
rewritten_bodies p (page ∷ ps) w = rewritten_bodies p ps (apply (PutPage (p page.space) page.page page.words) w)

-- and the reasons of all threads
rewritten_still : (p : ℕ → Path) (ps : List BurstPage) (w : World) (x : Path) → IsStill w x → IsStill (rewritten p ps w) x
unfolding rewritten
rewritten_still p [] w x why = why
rewritten_still p (page ∷ ps) w x why =
    let put = PutPage (p page.space) page.page page.words in rewritten_still p ps (apply put w) x (still_after w put x why tt refl)

rewritten_at : (p : ℕ → Path) (ps : List BurstPage) (w : World) (x key : Path) → IsAt w x key → IsAt (rewritten p ps w) x key
unfolding rewritten
rewritten_at p [] w x key why = why
rewritten_at p (page ∷ ps) w x key why =
    let put = PutPage (p page.space) page.page page.words in rewritten_at p ps (apply put w) x key (at_after w put x key why tt refl refl)

-- pages alone have changed: all bodies stay, and so do the reasons of all threads
pub record LeavesThreads (w u : World) : Type 0 where
  pub bodies : u.body ≡ w.body
  pub still : (x : Path) → IsStill w x → IsStill u x
  pub at : (x key : Path) → IsAt w x key → IsAt u x key

pub rewritten_leaves : (p : ℕ → Path) (ps : List BurstPage) (w : World) → LeavesThreads w (rewritten p ps w)
rewritten_leaves p ps w = record { bodies = rewritten_bodies p ps w; still = rewritten_still p ps w; at = rewritten_at p ps w }

-- what is left of reasons where what stands at one place has changed
pub record LeavesWhys (w v : World) (place : Path) : Type 0 where
  own : (x : Path) → same_path x place ≡ false → IsStill w x → IsStill v x
  other : (x key : Path) → same_path x place ≡ false → same_path key place ≡ false → IsAt w x key → IsAt v x key

abbrev user_in : Option Body → Bool
user_in o = holds (λ (t : Thread). not (is_porter t.mode)) (and_then thread_of o)

-- a thread that goes on running is a user's
runs_user : (registers : List ℕ) (counter : ℕ) (o : Option Body) → IsSome (and_then thread_of o) →
    user_in (option_map (edited (Proceed (Running registers) counter)) o) ≡ true
unfolding edited
runs_user registers counter None some = absurd (cc)
runs_user registers counter (Some b) some = by b some
  where
    by : (b : Body) → IsSome (thread_of b) → user_in (Some (edited (Proceed (Running registers) counter) b)) ≡ true
    by (Rattle.fk_model.specs.Objects.Body.Thread_of t) some = refl
    by other some = absurd (cc)

-- a thread that goes on, once pages have changed
module _ (w u v : World) (leaves : LeavesThreads w u) (place : Path) (registers : List ℕ) (counter : ℕ)
    (is : v ≡ apply (Alter place (Proceed (Running registers) counter)) u) where
  -- all other bodies stay
  pub others_stay : (x : Path) → same_path x place ≡ false → v.body x ≡ w.body x
  unfolding apply
  others_stay x off =
      ap (λ (u : World). u.body x) is
      ∙ ap (λ (b : Bool). if b then option_map (edited (Proceed (Running registers) counter)) (u.body x) else u.body x) off
      ∙ ap (λ (bodies : Path → Option Body). bodies x) leaves.bodies

  -- and so do the reasons of the others
  pub leaves_whys : LeavesWhys w v place
  leaves_whys =
      let goes = Alter place (Proceed (Running registers) counter) in
      record {
        own = λ x off why. subst (λ (u : World). IsStill u x) (sym is) (still_after u goes x (leaves.still x why) tt off);
        other = λ x key off apart why. subst (λ (u : World). IsAt u x key) (sym is) (at_after u goes x key (leaves.at x key why) tt off apart);
      }

  -- the thread is a user's still
  pub user_stays : is_users_at w place ≡ true → is_users_at v place ≡ true
  unfolding apply
  user_stays user =
      ap (λ (u : World). user_in (u.body place)) is
      ∙ ap (λ (b : Bool). user_in (if b then option_map (edited (Proceed (Running registers) counter)) (u.body place) else u.body place))
      (same_path_refl place)
      ∙ ap (λ (bodies : Path → Option Body). user_in (option_map (edited (Proceed (Running registers) counter)) (bodies place))) leaves.bodies
      ∙ runs_user registers counter (w.body place) (some (w.body place) user)
    where
      some : (o : Option Body) → user_in o ≡ true → IsSome (and_then thread_of o)
      some o user = by (and_then thread_of o) user
        where
          by : (t : Option Thread) → holds (λ (t : Thread). not (is_porter t.mode)) t ≡ true → IsSome t
          by None user = absurd (cc)
          by (Some t) user = refl

-- who runs is a user's thread
pub user_running : (m : Contents) (who : Who) → path m ≡ space_born (world m) → is_running (thread_at (world m) (named (world m) who)) ≡ true →
    is_user_at m who ≡ true
user_running m who born runs =
    ap (λ (p : ℕ → Path). holds (λ (t : Thread). not (is_porter t.mode)) (thread_at (world m) (who.slot ∷ p who.space))) born
    ∙ by (thread_at (world m) (named (world m) who)) runs
  where
    mode_user : (mode : Mode) → is_running_mode mode ≡ true → not (is_porter mode) ≡ true
    mode_user (Running g) is = refl
    mode_user (Calling todo rest) is = absurd (cc)
    mode_user (Halted g code) is = absurd (cc)
    mode_user (Native g) is = absurd (cc)

    by : (o : Option Thread) → is_running o ≡ true → holds (λ (t : Thread). not (is_porter t.mode)) o ≡ true
    by None is = absurd (cc)
    by (Some t) is = mode_user t.mode is

-- ---- the lists

abbrev nobody : Touched
nobody = Few None None None

module _ (m n : Contents) (thread : Who) (stored : IsStored m) (paths : path n ≡ path m)
    (others : (x : Path) → same_path x (place_of m thread) ≡ false → (world n).body x ≡ (world m).body x) (was : is_user_at m thread ≡ true)
    (user : is_user_at n thread ≡ true) (left : LeavesWhys (world m) (world n) (place_of m thread)) where
  at_same : (who : Who) → place_of n who ≡ place_of m who
  at_same who = ap (λ (p : ℕ → Path). who.slot ∷ p who.space) paths

  -- another name leads elsewhere
  apart : (who : Who) → is_same thread who ≡ false → same_path (place_of m who) (place_of m thread) ≡ false
  apart who off = by (same_path (place_of m who) (place_of m thread)) refl
    where
      by : (b : Bool) → same_path (place_of m who) (place_of m thread) ≡ b → same_path (place_of m who) (place_of m thread) ≡ false
      by false e = e
      by true e =
          let here = same_path_eq (place_of m who) (place_of m thread) e in
          clash (is_same thread who)
          (same_name m stored who thread (subst (λ (x : Path). IsSome ((world m).body x)) (sym here) (user_there (world m) (place_of m thread) was)) e) off

  body_same : (who : Who) → is_same thread who ≡ false → (world n).body (place_of n who) ≡ (world m).body (place_of m who)
  body_same who off = ap (world n).body (at_same who) ∙ others (place_of m who) (apart who off)

  untold : (who : Who) → is_told thread nobody who ≡ false → is_same thread who ≡ false
  untold who off = (or_parts (is_same thread who) (is_named nobody who) off).0

  users_same : (who : Who) → is_same thread who ≡ false → is_user_at n who ≡ is_user_at m who
  users_same who off = ap user_in (body_same who off)

  grown : (who : Who) → is_user_at n who ≡ true → is_user_at m who ≡ true
  grown who is = by (is_same thread who) refl
    where
      by : (b : Bool) → is_same thread who ≡ b → is_user_at m who ≡ true
      by true e = subst (λ (w : Who). is_user_at m w ≡ true) (same_who thread who e) was
      by false e = sym (users_same who e) ∙ is

  still : (who : Who) (why : Why) → is_told thread nobody who ≡ false → IsAside thread nobody why → IsWhy (world m) (path m) (place_of m who) why →
      IsWhy (world n) (path n) (place_of n who) why
  still who whys.Still off aside is =
      subst (λ (x : Path). IsStill (world n) x) (sym (at_same who)) (left.own (place_of m who) (apart who (untold who off)) is)
  still who (whys.At key) off aside is =
      subst (λ (x : Path). IsAt (world n) x (place_of n key)) (sym (at_same who))
      (subst (λ (x : Path). IsAt (world n) (place_of m who) x) (sym (at_same key))
      (left.other (place_of m who) (place_of m key) (apart who (untold who off)) (apart key (untold key aside)) is))
  still who whys.Loud off aside is = absurd aside
  still who whys.Barred off aside is = absurd aside

  pub moved_rewritten : IsMoved m n thread nobody
  moved_rewritten = record {
    users = λ who off. users_same who (untold who off);
    grown = λ who is off. grown who is;
    left = tt;
    stays = λ few who why off aside user is. still who why off aside is;
  }

  pub room_rewritten : (waits marks : Lists) → AreKept m waits marks → HasRoom n thread nobody waits marks
  room_rewritten waits marks kept = record {
    named = record { known = λ who is off user. absurd (cc); put = tt };
    own = λ off user. kept.each thread ∙ was;
  }

  -- where it leaves the reasons of all others the lists may leave them too
  pub quiet_rewritten : ((x : Path) → same_path x (place_of m thread) ≡ false → (r : Reason) → IsStuck (world m) x r → is_barred r ≡ false →
      IsStuck (world n) x r) → IsQuietTo m n thread
  quiet_rewritten reasons = record { quiet = λ who why off user some is. by who why off some is }
    where
      by : (who : Who) (why : Why) → is_same thread who ≡ false → (why ≡ whys.Barred → ⊥) → IsWhy (world m) (path m) (place_of m who) why →
          IsWhy (world n) (path n) (place_of n who) why
      by who whys.Still off some is =
          subst (λ (x : Path). IsStill (world n) x) (sym (at_same who)) (record {
            reason = is.reason;
            stuck = reasons (place_of m who) (apart who off) is.reason is.stuck (own_named is.reason is.own);
            own = is.own;
          })
      by who (whys.At key) off some is =
          subst (λ (x : Path). IsAt (world n) x (place_of n key)) (sym (at_same who))
          (subst (λ (x : Path). IsAt (world n) (place_of m who) x) (sym (at_same key)) (record {
            reason = is.reason;
            stuck = reasons (place_of m who) (apart who off) is.reason is.stuck (read_named (place_of m who) (place_of m key) is.reason is.read);
            read = is.read;
          }))
      by who whys.Loud off some is =
          subst (λ (x : Path). IsLoudly (world n) x) (sym (at_same who)) (record {
            reason = is.reason;
            stuck = reasons (place_of m who) (apart who off) is.reason is.stuck (loud_named is.reason is.loud);
            loud = is.loud;
          })
      by who whys.Barred off some is = absurd (some refl)
