-- Written: pages of a space that get other words, and the thread that wrote them.
use Rattle.std.proofs.Common.{◌≡◌, ℕ, zero, suc, ◌<◌, ◌∷◌, replicate, ◌&&◌, ◌==◌, Bool, true, false, cond, Option, Some, None, is_some, refl, sym, ap, ◌∙◌, arith}
use Rattle.fk_model.specs.declared.moves.Ask.TheVariants as asks
use Rattle.fk_model.specs.Moves.{IsReady}
use Rattle.fk_model.specs.Holds.{is_free}
use Rattle.fk_model.specs.Objects.{Body, Thread, and_then, holds}
use Rattle.fk_model.specs.Objects.Mode.{Running}
use Rattle.fk_model.specs.Places.{Path, parent, same_path}
use Rattle.fk_model.specs.Searches.{thread_at}
use Rattle.fk_model.specs.Valid.{birth_of, IsPaged}
use Rattle.fk_model.specs.World.{World, Change, apply}
use Rattle.fk_model.specs.World.Change.{Alter, PutPage}
use Rattle.fk_model.specs.World.Edit.{Proceed}
use Rattle.fk_model.proofs.walks.PlaceLaws.{same_path_eq}
use Rattle.fk_store.specs.Store.Contents.{Contents}
use Rattle.fk_store.specs.Store.Paths.{path}
use Rattle.fk_store.specs.Store.Threads.{is_free_at}
use Rattle.fk_store.specs.Store.World.{world, IsSpace}
use Rattle.laws_bursts.specs.Bursts.{Burst}
use Rattle.laws_bursts.proofs.Moves.{bursts_are_moves_lem}
use Rattle.laws_bursts.specs.Laws.{move_of, committed, LeadQuietly}
use Rattle.fk_stretch.specs.Stretches.{burst_in, IsBurst, IsStretch, IsWritten, Rewrites}
use Rattle.fk_stretch.specs.Stretches.Rewrites.{Stays, Writes}

pub then_writes : (space : Path) (w u v : World) → Rewrites space w u → Rewrites space u v → Rewrites space w v
then_writes space w u _ first Stays = first
then_writes space w u _ first (Writes t v page words rest there is) = Writes t v page words (then_writes space w u t first rest) there is

pub one_written : (space : Path) (w v : World) (address value : ℕ) → IsWritten w space address value v → Rewrites space w v
one_written space w v address value is = Writes w v _ _ Stays (ap is_some is.there) is.becomes

-- all bodies stay
pub bodies_written : (space : Path) (w u : World) → Rewrites space w u → u.body ≡ w.body
unfolding apply
bodies_written space w _ Stays = refl
bodies_written space w _ (Writes t u page words rest there is) = ap (λ (v : World). v.body) is ∙ bodies_written space w t rest

-- and so does the space
pub space_stays : (m n : Contents) (space : ℕ) → Rewrites (path m space) (world m) (world n) → path n ≡ path m → IsSpace m space → IsSpace n space
space_stays m n space rewrites paths is =
    ap (λ (p : ℕ → Path). and_then birth_of ((world n).body (p space))) paths
    ∙ ap (λ (bodies : Path → Option Body). and_then birth_of (bodies (path m space))) (bodies_written (path m space) (world m) (world n) rewrites)
    ∙ is

-- nothing but pages changes
pages_alone : (space : Path) (w u : World) → Rewrites space w u → u ≡ record w { page = u.page }
unfolding apply
pages_alone space w _ Stays = refl
pages_alone space w _ (Writes t u page words rest there is) =
    is
    ∙ ap (apply (PutPage space page words)) (pages_alone space w t rest)
    ∙ ap (λ (v : World). record w { page = v.page }) (sym is)

-- and no page of another space
others_stay : (space q : Path) (w u : World) (page : ℕ) → same_path q space ≡ false → Rewrites space w u → u.page q page ≡ w.page q page
unfolding apply
others_stay space q w _ page off Stays = refl
others_stay space q w _ page off (Writes t u at words rest there is) =
    ap (λ (v : World). v.page q page) is
    ∙ ap (λ b. cond (b && page == at) (Some words) (t.page q page)) off
    ∙ others_stay space q w t page off rest

-- who is free is so by its words
pub free_thread : (w : World) (x : Path) (t : Thread) → is_free_at w x ≡ true → thread_at w x ≡ Some t → is_free w (parent x) t ≡ true
unfolding is_free_at
free_thread w x t free there = sym (ap (holds (is_free w (parent x))) there) ∙ free

-- a stretch is a burst
pub is_burst : (w : World) (x : Path) (n : ℕ) (v : World) → IsPaged w → IsStretch w x n v → IsBurst w x n v
unfolding apply
is_burst w x n v paged s = record {
  paged = paged;
  from = burst_in w (parent x) s.from;
  to = to;
  began = record { thread = s.thread; there = s.there; free = s.free; mode = s.mode; counter = s.counter };
  makes = s.makes;
  pages = λ page used. refl;
  becomes = s.goes ∙ ap (apply goes) (pages_alone (parent x) w s.middle s.rewrites)
      ∙ (λ i. record (committed w x to) { page = λ q page. by q page (same_path q (parent x)) refl i });
}
  where
    to : Burst
    to = burst_in s.middle (parent x) s.to

    goes : Change
    goes = Alter x (Proceed (Running s.to.registers) s.to.counter)

    by : (q : Path) (page : ℕ) (same : Bool) → same_path q (parent x) ≡ same →
        s.middle.page q page ≡ cond (same && true) (s.middle.page (parent x) page) (w.page q page)
    by q page true e = ap (λ p. s.middle.page p page) (same_path_eq q (parent x) e)
    by q page false e = others_stay (parent x) q w s.middle page e s.rewrites

-- and the first of its instructions is ready
pub ready_first : (w : World) (slot : ℕ) (space : Path) (n : ℕ) (v : World) → IsPaged w → 0 < n → IsStretch w (slot ∷ space) n v →
    IsReady w (slot ∷ space) None asks.Run
ready_first w slot space zero v paged some s = absurd (omega (arith, some))
ready_first w slot space (suc n) v paged some s =
    let b = is_burst w (slot ∷ space) (suc n) v paged s in
    let led : LeadQuietly w (replicate (suc n) (move_of (slot ∷ space))) (committed w (slot ∷ space) b.to) =
    bursts_are_moves_lem w slot space (suc n) b.from b.to paged b.began b.makes b.pages in
    led.legal.0
