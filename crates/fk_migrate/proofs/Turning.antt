-- What is handed in with a move, and whose it is.
use Rattle.std.proofs.Common.{◌≡◌, ℕ, zero, suc, Bool, true, false, if◌then◌else◌, eqb-true, eq-eqb, ◌&&◌, ◌==◌, [], Option, Some, None, IsTrue, ◌↔◌, refl, sym, ap, subst, ◌∙◌}
use Rattle.fk_model.specs.declared.limits.TheConstants.{LAST_PORTER_SLOT}
use Rattle.fk_model.specs.declared.moves.Ask.{Ask}
use Rattle.fk_model.specs.declared.moves.Move.{Move}
use Rattle.fk_model.specs.declared.names.Who.{Who}
use Rattle.fk_model.specs.Places.{Path, same_path}
use Rattle.fk_model.specs.Who.{space_born}
use Rattle.fk_model.specs.World.{World}
use Rattle.fk_store.specs.Store.Contents.{Contents, home}
use Rattle.fk_store.specs.Store.Paths.{path, path_by, from_home}
use Rattle.fk_host.specs.Hosts.{IsReadyWith}
use Rattle.fk_served.specs.Served.{Services}
use Rattle.fk_migrate.specs.Turns.{is_porters, IsReadyGiven}

pub none_ready : (services : Services) (w : World) (m : Move) (o : Option Ask) → o ≡ None → IsTrue false ↔ IsReadyGiven services w m o
none_ready services w m None is = (λ e. cc, λ never. absurd never)
none_ready services w m (Some ask) is = cc

pub some_ready : (services : Services) (w : World) (m : Move) (o : Option Ask) (ask : Ask) (b : Bool) → o ≡ Some ask → (IsTrue b ↔ IsReadyWith services w m ask)
    → IsTrue b ↔ IsReadyGiven services w m o
some_ready services w m None ask b is ready = cc
some_ready services w m (Some other) ask b is ready =
    let same : other ≡ ask = cc in
    subst (λ (a : Ask). IsTrue b ↔ IsReadyWith services w m a) (sym same) ready

-- the space that is the root has number 0, and no other does
root_path : (m : Contents) (n : ℕ) → (n == 0) ≡ same_path [] (path m n)
unfolding path path_by same_path
root_path m zero = refl
root_path m (suc n) = by (suc n == 0)
  where
    from : (o : Option Who) → false ≡ same_path [] (from_home (path_by n m) o)
    from None = refl
    from (Some who) = refl

    by : (b : Bool) → b ≡ same_path [] (if b then [] else from_home (path_by n m) (home m (suc n)))
    by true = refl
    by false = from (home m (suc n))

and_back : (a b : Bool) → (a && b) ≡ (b && a)
and_back true true = refl
and_back true false = refl
and_back false true = refl
and_back false false = refl

eq_back : (m n : ℕ) → (m == n) ≡ (n == m)
eq_back m n = by (m == n) (n == m) refl refl
  where
    by : (a b : Bool) → (m == n) ≡ a → (n == m) ≡ b → a ≡ b
    by true true e f = refl
    by false false e f = refl
    by true false e f = let on = eq-eqb n m (sym (eqb-true m n e)) in let both = sym on ∙ f in cc
    by false true e f = let on = eq-eqb m n (sym (eqb-true n m f)) in let both = sym on ∙ e in cc

pub porters_so : (m : Contents) (w : World) (move : Move) (b : Bool) → path m ≡ space_born w
    → b ≡ ((move.who.space == 0) && (move.who.slot == LAST_PORTER_SLOT)) → b ≡ is_porters w move
unfolding same_path
porters_so m w move b born is =
    is ∙ and_back (move.who.space == 0) (move.who.slot == LAST_PORTER_SLOT)
    ∙ (λ i. eq_back move.who.slot LAST_PORTER_SLOT i && root_path m move.who.space i)
    ∙ ap (λ (p : ℕ → Path). (LAST_PORTER_SLOT == move.who.slot) && same_path [] (p move.who.space)) born
