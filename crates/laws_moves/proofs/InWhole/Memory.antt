-- An access of memory comes to a page that is there, and so to one of 64 words.
use Rattle.std.proofs.Common.{◌≡◌, ℕ, zero, suc, ◌/◌, Bool, true, false, if◌then◌else◌, nat_lt, IsSome, List, length, Option, Some, None, refl}
use Rattle.fk_model.specs.declared.limits.TheConstants.{MAPPINGS, PAGE_WORDS, SPACE_WORDS}
use Rattle.fk_model.specs.Places.{Path}
use Rattle.fk_model.specs.Objects.{Window}
use Rattle.fk_model.specs.World.{World}
use Rattle.fk_model.specs.Reach.{Reach, mapping_at, keeper, led_by, followed, mapped, at_home, reach_within, reach, reach_word, words_at}
use Rattle.fk_model.specs.Reach.Reach.{Home, Missing, Bad}
use Rattle.fk_model.specs.Whole.{HasFullPages}

abbrev pub IsThere : World → Reach → Type 0
IsThere w (Home s page) = IsSome (w.page s page)
IsThere w (Missing s page keeper) = Unit {0}
IsThere w Bad = Unit {0}

at_home-there : (w : World) (s : Path) (page : ℕ) (away : Reach) → IsThere w away → IsThere w (at_home (Home s page) away (w.page s page))
at_home-there w s page away there = by (w.page s page) refl
  where
    by : (o : Option (List ℕ)) → w.page s page ≡ o → IsThere w (at_home (Home s page) away o)
    by None e = there
    by (Some words) e = rw e refl

mapped-there : (w : World) (go : Window → Reach) (missing : Reach) (o : Option Window) →
    IsThere w missing → ((m : Window) → IsThere w (go m)) → IsThere w (mapped go missing o)
mapped-there w go missing None here there = here
mapped-there w go missing (Some m) here there = there m

followed-there : (w : World) (go : Path → ℕ → Reach) (o : Option (Path × ℕ)) → ((s : Path) (page : ℕ) → IsThere w (go s page)) → IsThere w (followed go o)
followed-there w go None there = tt
followed-there w go (Some place) there = there place.0 place.1

within-there : (n : ℕ) (w : World) (s : Path) (page : ℕ) (write : Bool) → IsThere w (reach_within n w s page write)
unfolding reach_within
within-there zero w s page write = at_home-there w s page _ (mapped-there w (λ m. Bad) _ (mapping_at w s page) tt (λ m. tt))
within-there (suc n) w s page write =
    at_home-there w s page _ (mapped-there w _ _ (mapping_at w s page) tt
    (λ m. followed-there w _ (led_by w m page write m.region) (λ t other. within-there n w t other write)))

pub word-there : (w : World) (s : Path) (address : ℕ) (write : Bool) → IsThere w (reach_word w s address write)
unfolding reach
word-there w s address write = by (nat_lt address SPACE_WORDS)
  where
    by : (t : Bool) → IsThere w (if t then reach w s (address / PAGE_WORDS) write else Bad)
    by true = within-there MAPPINGS w s (address / PAGE_WORDS) write
    by false = tt

module _ (w : World) (pages : HasFullPages w) where
  -- the words of a page that is there are 64
  abbrev pub HasWords : Path → ℕ → Type 0
  HasWords s page = length (words_at w s page) ≡ PAGE_WORDS

  pub words-full : (s : Path) (page : ℕ) → IsSome (w.page s page) → HasWords s page
  words-full s page there = by (w.page s page) refl there
    where
      by : (o : Option (List ℕ)) → w.page s page ≡ o → IsSome o → HasWords s page
      by None e h = cc
      by (Some words) e h = rw e (pages s page words e)
