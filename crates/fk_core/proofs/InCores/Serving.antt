-- Serving: an act of a native server that is made at once is a turn.
use Rattle.std.proofs.Common.{◌≡◌, ℕ, zero, suc, ◌+◌, ◌-◌, ◌<◌, true, false, List, [], ◌∷◌, ◌++◌, length, map, replicate, Some, None}
use Rattle.std.proofs.Common.{refl, eqb-true, suc-ne-zero}
use Rattle.std.specs.Prelude.{◌==◌}
use Rattle.std.proofs.lemmas.Bool.{and_parts}
use Rattle.fk_model.specs.declared.moves.Ask.{Ask}
use Rattle.fk_model.specs.declared.moves.Ask.TheVariants as asks
use Rattle.fk_model.specs.declared.moves.Said as says_of
use Rattle.fk_model.specs.declared.moves.Said.TheVariants as says
use Rattle.fk_model.specs.declared.names.Who.{Who}
use Rattle.fk_model.specs.Whole.{are_words, is_word}
use Rattle.laws_moves.specs.Whole.Runnable.{has_all_words}
use Rattle.laws_runs.specs.Cores.{Settles}
use Rattle.fk_natives.specs.Natives.{gives_left}
use Rattle.fk_responders.specs.Words.{padded}
use Rattle.fk_responders.proofs.Replies.{padded_back}
use Rattle.fk_jobs.specs.Jobs.{Queue}
use Rattle.fk_core.specs.Rounds.Acted.{act_of, IsActed, IsGiven}
use Rattle.fk_core.specs.Rounds.Kernels.{Kept}
use Rattle.fk_core.specs.Rounds.Kernels.{world_of as world}
use Rattle.fk_core.specs.Rounds.Served.{Services, asked, told}
use Rattle.fk_core.specs.Cores.Cores.{RunCore, house, core_at, is_porter, IsAdvanced}
use Rattle.fk_core.proofs.InRounds.Asking.{asks_other, others_ready}
use Rattle.fk_core.proofs.InCores.Turning.{turned}

pub served : (m n : Kept) (services new : Services) (q : Queue) (budget events : ℕ) (port : Who) (ask : Ask) (said : says_of.Said) (d : RunCore) →
    events < budget → is_porter q port ≡ false → asked services (world m) port ≡ Some ask → has_all_words ask ≡ true → IsActed m n port ask said →
    new ≡ map (told said None) services → Settles (house q.jobs) (core_at n new q (events + 1)) d → d.events ≡ events + 1 →
    IsAdvanced q.jobs budget (core_at m services q events) (Some (act_of port)) d
served m n services new q budget events port ask said d few other asks_it words acted heard settles count =
    let as_others = asks_other q (world m) services events port ask other asks_it words in (
      few,
      others_ready q (world m) services events (act_of port) (ask, as_others, acted.ready),
      turned m n services new q events (act_of port) ask said None d as_others acted.step acted.ended acted.told heard settles,
      count,
    )

-- what is left is asked for with zeros behind it
pub given_left : (m n : Kept) (port : Who) (left : List ℕ) (count : ℕ) → (length left == 0) ≡ false → IsGiven m n port left count →
    IsActed m n port (gives_left left) (says.Given port count)
given_left m n port [] count some given = absurd (cc)
given_left m n port (word ∷ words) count some given =
    given (padded (word ∷ words)).words (padded (word ∷ words)).len (padded_back (word ∷ words))

-- and all that is given is words
zeros : (n : ℕ) → are_words (replicate n 0) ≡ true
zeros zero = refl
zeros (suc n) = zeros n

padded_words : (xs : List ℕ) (n : ℕ) → are_words xs ≡ true → are_words (xs ++ replicate n 0) ≡ true
padded_words [] n all = zeros n
padded_words (x ∷ xs) n all = let both = and_parts (is_word x) (are_words xs) all in rw both.0 (padded_words xs n both.1)

pub words_left : (left : List ℕ) → are_words left ≡ true → has_all_words (gives_left left) ≡ true
words_left [] all = refl
words_left (word ∷ words) all = padded_words (word ∷ words) (64 - length (word ∷ words)) all

-- nothing is left
pub none_left : (left : List ℕ) → (length left == 0) ≡ true → gives_left left ≡ asks.Over
none_left [] none = refl
none_left (word ∷ words) none = let long : length (word ∷ words) ≡ 0 = eqb-true (length (word ∷ words)) 0 none in absurd (suc-ne-zero (length words) long)
