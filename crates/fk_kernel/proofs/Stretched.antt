-- Stretched: the lists once a user's thread has made instructions on the pages of its space.
use Rattle.std.proofs.Common.{◌≡◌, ℕ, true, ◌∷◌, refl, sym, subst}
use Rattle.fk_model.specs.declared.names.Who.{Who}
use Rattle.fk_model.specs.Places.{Path}
use Rattle.fk_model.specs.Valid.{IsPaged, IsValid}
use Rattle.fk_model.specs.Who.{named, space_born}
use Rattle.fk_model.specs.World.{World}
use Rattle.fk_model.specs.World.Change.{PutPage}
use Rattle.fk_plans.specs.Plans.Effects.{is_running}
use Rattle.fk_model.specs.Searches.{thread_at}
use Rattle.fk_turns.specs.Whys.Whys.{IsAt, IsStill}
use Rattle.fk_turns.proofs.InWhys.Apart.{at_after, still_after}
use Rattle.laws_waits.specs.Calm.{IsApart}
use Rattle.laws_waits.specs.Stuck.{IsStuck, Reason}
use Rattle.fk_stretch.specs.Stretches.{IsBurst, IsStretch, Rewrites}
use Rattle.fk_stretch.specs.Stretches.Rewrites.{Stays, Writes}
use Rattle.fk_stretch.proofs.Written.{bodies_written, is_burst}
use Rattle.fk_kernel.proofs.Quietly.{calm_stays}
use Rattle.fk_kernel.proofs.Replacing.{valid-put}
use Rattle.fk_kernel.proofs.Rewrote.{LeavesThreads}

-- pages that are written leave the world valid
pub valid_written : (space : Path) (w u : World) → Rewrites space w u → IsValid w → IsValid u
valid_written space w _ Stays valid = valid
valid_written space w _ (Writes t u page words rest there is) valid =
    subst IsValid (sym is) (valid-put t space page words there (valid_written space w t rest valid))

still_written : (space : Path) (w u : World) → Rewrites space w u → (x : Path) → IsStill w x → IsStill u x
still_written space w _ Stays x why = why
still_written space w _ (Writes t u page words rest there is) x why =
    subst (λ (v : World). IsStill v x) (sym is) (still_after t (PutPage space page words) x (still_written space w t rest x why) tt refl)

at_written : (space : Path) (w u : World) → Rewrites space w u → (x key : Path) → IsAt w x key → IsAt u x key
at_written space w _ Stays x key why = why
at_written space w _ (Writes t u page words rest there is) x key why =
    subst (λ (v : World). IsAt v x key) (sym is) (at_after t (PutPage space page words) x key (at_written space w t rest x key why) tt refl refl)

pub written_leaves : (space : Path) (w u : World) → Rewrites space w u → LeavesThreads w u
written_leaves space w u rewrites = record {
  bodies = bodies_written space w u rewrites;
  still = still_written space w u rewrites;
  at = at_written space w u rewrites;
}

-- and the reasons of all others
pub stuck_written : (space : Path) (w u : World) → Rewrites space w u → (me x : Path) (r : Reason) → IsStuck w x r → IsApart me x r → IsStuck u x r
stuck_written space w _ Stays me x r stuck apart = stuck
stuck_written space w _ (Writes t u page words rest there is) me x r stuck apart =
    subst (λ (v : World). IsStuck v x r) (sym is)
    (calm_stays t me x (PutPage space page words) r there (stuck_written space w t rest me x r stuck apart) apart)

-- ---- a stretch

-- its thread runs
pub runs_first : (w : World) (x : Path) (n : ℕ) (v : World) → IsStretch w x n v → is_running (thread_at w x) ≡ true
runs_first w x n v s = rw s.there (rw s.mode refl)

-- by names
pub burst_named : (w : World) (p : ℕ → Path) (who : Who) (n : ℕ) (v : World) → p ≡ space_born w → IsPaged w → IsStretch w (who.slot ∷ p who.space) n v →
    IsBurst w (named w who) n v
burst_named w p who n v born paged s = subst (λ (p : ℕ → Path). IsBurst w (who.slot ∷ p who.space) n v) born (is_burst w (who.slot ∷ p who.space) n v paged s)
