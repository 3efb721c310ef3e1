-- Kept changes leave the words of pages words.
use Rattle.std.proofs.Common.{◌≡◌, ℕ, Bool, true, false, if◌then◌else◌, ◌&&◌, ◌==◌, List, ◌∷◌, Some, None}
use Rattle.fk_model.specs.Places.{Path, same_path, parent}
use Rattle.fk_model.specs.World.{World, Change, apply}
use Rattle.fk_model.specs.World.Change.{Alter, Make, MakeSpace, Kill, Move, PutPage, DropPage}
use Rattle.laws_moves.proofs.InSavable.Words.{AreWords}
use Rattle.laws_moves.proofs.InSavable.Kept.{IsKept}

abbrev pub PagesHaveWords : World → Type 0
PagesHaveWords v = (s : Path) (page : ℕ) (words : List ℕ) → v.page s page ≡ Some words → AreWords words

module _ (v : World) (pages : PagesHaveWords v) where
  put : (t : Bool) (s : Path) (g : ℕ) (new words : List ℕ) → AreWords new → (if t then Some new else v.page s g) ≡ Some words → AreWords words
  put true s g new words all h = let same : new ≡ words = cc in rw (← same) all
  put false s g new words all h = pages s g words h

  gone : (t : Bool) (s : Path) (g : ℕ) (words : List ℕ) → (if t then None else v.page s g) ≡ Some words → AreWords words
  gone true s g words h = cc
  gone false s g words h = pages s g words h

  renamed : (t r : Bool) (x s : Path) (g : ℕ) (words : List ℕ) → (if t then v.page x g else (if r then None else v.page s g)) ≡ Some words → AreWords words
  renamed true r x s g words h = pages x g words h
  renamed false r x s g words h = gone r s g words h

  pub pages-apply : (c : Change) → IsKept v c → PagesHaveWords (apply c v)
  unfolding apply
  pages-apply (Alter x edit) kept s g words h = pages s g words h
  pages-apply (Make x body) kept s g words h = pages s g words h
  pages-apply (MakeSpace x holder) kept s g words h = pages s g words h
  pages-apply (Kill x) kept s g words h = gone (same_path s x) s g words h
  pages-apply (Move x slot) kept s g words h = renamed (same_path s (slot ∷ parent x)) (same_path s x) x s g words h
  pages-apply (PutPage space page new) kept s g words h = put (same_path s space && g == page) s g new words kept h
  pages-apply (DropPage space page) kept s g words h = gone (same_path s space && g == page) s g words h
