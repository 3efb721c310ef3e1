-- Served: the lists after an act of a native server that was made where its client stands.
use Rattle.std.proofs.Common.{◌≡◌, ◌≤◌, ℕ, List, length, take_all, Some, None, true, refl, arith}
use Rattle.fk_model.specs.declared.moves.Ask.{Ask}
use Rattle.fk_model.specs.declared.moves.Ask.TheVariants as asks
use Rattle.fk_model.specs.declared.moves.Said as says_of
use Rattle.fk_model.specs.declared.moves.Said.TheVariants as says
use Rattle.fk_model.specs.declared.names.Who.{Who}
use Rattle.fk_model.specs.Searches.{depth}
use Rattle.fk_model.specs.Valid.{is_fit, IsValid}
use Rattle.fk_model.specs.Who.{space_born}
use Rattle.fk_plans.specs.declared.wakes.touching.Touched.TheVariants.{Few}
use Rattle.fk_store.specs.Store.Contents.{Contents}
use Rattle.fk_store.specs.Store.Paths.{path}
use Rattle.fk_store.specs.Store.World.{world}
use Rattle.fk_turns.specs.Moved.Kept.{AreKept}
use Rattle.fk_turns.specs.Next.Acted.{act_of, HasActed, HasGiven}
use Rattle.fk_turns.specs.Next.Judgements.{is_fit_move}
use Rattle.fk_turns.specs.Next.Waiting.{ComesAfter}
use Rattle.fk_turns.proofs.InSteps.Stepped.{comes_asked, kept_valid}
use Rattle.fk_waits.specs.Waits.Lists.{Lists}

-- such an act is fit
give_fit : (m : Contents) (port : Who) (words : List ℕ) (len : ℕ) → is_fit_move m (act_of port) (asks.Give words len) ≡ true
unfolding is_fit
give_fit m port words len = refl

over_fit : (m : Contents) (port : Who) → is_fit_move m (act_of port) asks.Over ≡ true
unfolding is_fit
over_fit m port = refl

module _ (m n : Contents) (port client : Who) (valid : IsValid (world m)) (few : (world m).next ≤ depth) where
  acted_valid : (ask : Ask) (said : says_of.Said) → is_fit_move m (act_of port) ask ≡ true → HasActed m n port client ask said → IsValid (world n)
  acted_valid ask said fit acted = kept_valid m n (act_of port) ask valid few fit said acted.step

  pub passed_valid : HasActed m n port client asks.Over (says.Over port) → IsValid (world n)
  passed_valid acted = acted_valid asks.Over (says.Over port) (over_fit m port) acted

  -- the words whole, as the server may ask for them
  given_so : (words : List ℕ) (count : ℕ) → HasGiven m n port client words count →
      HasActed m n port client (asks.Give words (length words)) (says.Given port count)
  given_so words count given = given words (length words) (take_all (length words) words (omega arith))

  pub given_valid : (words : List ℕ) (count : ℕ) → HasGiven m n port client words count → IsValid (world n)
  given_valid words count given =
      acted_valid (asks.Give words (length words)) (says.Given port count) (give_fit m port words (length words)) (given_so words count given)

  module _ (born : path m ≡ space_born (world m)) (born_new : path n ≡ space_born (world n)) (few_new : (world n).next ≤ depth) (waits marks : Lists)
      (kept : AreKept m waits marks) where
    acted_comes : (ask : Ask) (said : says_of.Said) → is_fit_move m (act_of port) ask ≡ true → HasActed m n port client ask said →
        ComesAfter n port (Few (Some client) None None) waits marks
    acted_comes ask said fit acted =
        comes_asked m n (act_of port) ask valid few fit born born_new few_new (Few (Some client) None None) waits marks said kept refl acted.ready
        acted.step acted.touched

    pub passed_comes : HasActed m n port client asks.Over (says.Over port) → ComesAfter n port (Few (Some client) None None) waits marks
    passed_comes acted = acted_comes asks.Over (says.Over port) (over_fit m port) acted

    pub given_comes : (words : List ℕ) (count : ℕ) → HasGiven m n port client words count → ComesAfter n port (Few (Some client) None None) waits marks
    given_comes words count given =
        acted_comes (asks.Give words (length words)) (says.Given port count) (give_fit m port words (length words)) (given_so words count given)
