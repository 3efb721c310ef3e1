-- Hearing: what a move tells servers by names is what the machine tells them by paths.
use Rattle.std.proofs.Common.{◌≡◌, ℕ, List, [], ◌∷◌, map, Option, Some, None, refl, sym, ap, subst, ◌∙◌}
use Rattle.fk_model.specs.declared.moves.Rule.{Rule}
use Rattle.fk_model.specs.declared.moves.Said as says_of
use Rattle.fk_model.specs.declared.moves.Said.TheVariants as says
use Rattle.fk_model.specs.declared.names.Who.{Who}
use Rattle.fk_model.specs.declared.thread.Turn.TheVariants as turns
use Rattle.fk_model.specs.Endings.{has_ended}
use Rattle.fk_model.specs.Moves.{Step}
use Rattle.fk_model.specs.Places.{Path}
use Rattle.fk_model.specs.Runs.{Event, after}
use Rattle.fk_model.specs.Who.{named}
use Rattle.fk_natives.specs.declared.service.Side.TheVariants as sides
use Rattle.fk_natives.specs.Natives as natives
use Rattle.fk_natives.specs.Natives.{State, OfConsole, OfServer, OfReplay, OfTap, News, hears, DoesFit}
use Rattle.fk_kernel.specs.Kernels.{Kept}
use Rattle.fk_store.specs.Store.Moves.{said_by}
use Rattle.fk_kernel.specs.Kernels.{path_of as path}
use Rattle.fk_kernel.specs.Kernels.{world_of as world}
use Rattle.fk_kernel.specs.Events.{step_of, is_who}
use Rattle.fk_plans.specs.Plans.Hearers.{says_to, says_to_who}
use Rattle.fk_served.specs.Served.{Services, said_at, news_at, after_news, hears_of, said_to, news_to, told, AllFit, HearByNames, FitsOnceTold}

-- ---- what is told

pub said-alike : (p : ℕ → Path) (said : says_of.Said) (x : Path) (who : Who) → says_to (said_by p said) x ≡ says_to_who said who
    → said_at (said_by p said) x ≡ said_to said who
said-alike p says.Nothing x who same = refl
said-alike p (says.Answer answer) x who same = refl
said-alike p (says.Taken port client resumed turn count) x who same = rw same refl
said-alike p (says.Words port words len) x who same = rw same refl
said-alike p (says.Given port len) x who same = rw same refl
said-alike p (says.Full port) x who same = refl
said-alike p (says.Over port) x who same = rw same refl
said-alike p (says.Ended port) x who same = refl

module _ (m n : Kept) (e : Event) (said : says_of.Said) (ended : Option Who)
    (made : step_of (world m) e ≡ record { world = world n; said = said_by (path n) said })
    (ends : (port : Who) → has_ended (world m) (world n) (named (world m) port) ≡ is_who ended port)
    (tells : (port : Who) → says_to (step_of (world m) e).said (named (world m) port) ≡ says_to_who said port) where
  pub goes : after (world m) e ≡ world n
  goes = ap (λ (s : Step). s.world) made

  pub news-alike : (who : Who) → news_at (world m) e (named (world m) who) ≡ news_to said ended who
  news-alike who =
      let same = ap (λ (s : Step). s.said) made in
      let tell = subst (λ s. says_to s (named (world m) who) ≡ says_to_who said who) same (tells who) in
      let alike = subst (λ s. said_at s (named (world m) who) ≡ said_to said who) (sym same) (said-alike (path n) said (named (world m) who) who tell) in
      rw (goes, ends who, alike) refl

  pub hears-alike : (services : Services) → map (hears_of (world m) e) services ≡ map (told said ended) services
  hears-alike [] = refl
  hears-alike (s ∷ ss) =
      let here : hears_of (world m) e s ≡ told said ended s = ap (λ news. (s.0, after_news news s.1)) (news-alike s.0) in
      ap (λ x. x ∷ map (hears_of (world m) e) ss) here ∙ ap (λ xs. told said ended s ∷ xs) (hears-alike ss)

-- ---- what they rest on stays

pub fit-heard : (rules : List Rule) (state : State) (news : News) → DoesFit rules state → DoesFit rules (hears state news)
fit-heard rules (OfConsole alias words side) (natives.Taken turn count) fits = tt
fit-heard rules (OfConsole alias words side) (natives.Words more) fits = tt
fit-heard rules (OfConsole alias words side) natives.Over fits = tt
fit-heard rules (OfConsole alias words side) (natives.Given count) fits = tt
fit-heard rules (OfConsole alias words side) natives.Ended fits = tt
fit-heard rules (OfServer index rule config position request left side) (natives.Taken turns.Client count) fits = fits
fit-heard rules (OfServer index rule config position request left side) (natives.Taken turns.Server count) fits = fits
fit-heard rules (OfServer index rule config position request left side) (natives.Words more) fits = fits
fit-heard rules (OfServer index rule config position request left sides.Idle) natives.Over fits = fits
fit-heard rules (OfServer index rule config position request left sides.Client) natives.Over fits = fits
fit-heard rules (OfServer index rule config position request left sides.Own) natives.Over fits = fits
fit-heard rules (OfServer index rule config position request left side) (natives.Given count) fits = fits
fit-heard rules (OfServer index rule config position request left side) natives.Ended fits = fits
fit-heard rules (OfReplay replies left side) (natives.Taken turns.Client count) fits = tt
fit-heard rules (OfReplay [] left side) (natives.Taken turns.Server count) fits = tt
fit-heard rules (OfReplay (r ∷ rs) left side) (natives.Taken turns.Server count) fits = tt
fit-heard rules (OfReplay replies left side) (natives.Words more) fits = tt
fit-heard rules (OfReplay replies left sides.Idle) natives.Over fits = tt
fit-heard rules (OfReplay [] left sides.Client) natives.Over fits = tt
fit-heard rules (OfReplay (r ∷ rs) left sides.Client) natives.Over fits = tt
fit-heard rules (OfReplay replies left sides.Own) natives.Over fits = tt
fit-heard rules (OfReplay replies left side) (natives.Given count) fits = tt
fit-heard rules (OfReplay replies left side) natives.Ended fits = tt
fit-heard rules (OfTap watch noted inner) news fits = fit-heard rules inner news fits

pub fit-after : (rules : List Rule) (state : State) (news : Option News) → DoesFit rules state → DoesFit rules (after_news news state)
fit-after rules state None fits = fits
fit-after rules state (Some news) fits = fit-heard rules state news fits

pub fits-told : (rules : List Rule) (said : says_of.Said) (ended : Option Who) (services : Services) → AllFit rules services
    → AllFit rules (map (told said ended) services)
fits-told rules said ended [] fits = tt
fits-told rules said ended (s ∷ ss) fits = (fit-after rules s.1 (news_to said ended s.0) fits.0, fits-told rules said ended ss fits.1)

pub servers_hear_by_names : HearByNames
servers_hear_by_names m n e said ended made ends tells services = hears-alike m n e said ended made ends tells services

pub a_table_fits_once_told : FitsOnceTold
a_table_fits_once_told rules said ended services fits = fits-told rules said ended services fits
