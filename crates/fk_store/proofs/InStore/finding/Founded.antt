-- Founded: what the look-up of an object tells.
use Rattle.std.proofs.Common.{◌≡◌, true, Option, Some, None, option_map, IsSome, IfSome, is_some, refl, sym, ap, ◌∙◌, Bor}
use Rattle.std.specs.Option.{option_copied}
use Rattle.std.specs.FinMap.{get}
use Rattle.fk_model.specs.declared.names.Who.{Who}
use Rattle.fk_model.specs.declared.body.Body.{Body}
use Rattle.fk_model.specs.Objects.{kind_of}
use Rattle.fk_model.specs.Valid.{kind_there}
use Rattle.fk_store.specs.Store.Contents.{Contents}
use Rattle.fk_store.specs.Store.Paths.{path, place, IsAtHome, HasOwnPath}
use Rattle.fk_store.specs.Store.Bodies.{body_by}
use Rattle.fk_store.specs.Store.Named.{OnNamed}
use Rattle.fk_store.specs.Store.World.{world, IsLive, IsSpace}
use Rattle.fk_store.specs.Store.WellFormed.{is_there, IsSized, IsWellFormed}
use Rattle.fk_store.proofs.InStore.finding.NamedLaws.{OnNamed-map}
use Rattle.fk_store.proofs.InStore.finding.Walks.{place-apart}
use Rattle.fk_store.proofs.InStore.finding.LookUps.{body-place, there-IsLive, live-IsSpace, there-IsAtHome}

module _ (m : Contents) (kept : IsWellFormed m) (who : Who) (found : Option (Bor Body)) (is : option_copied found ≡ get m.bodies who) where
  pub found-body : (world m).body (place (path m) who) ≡ option_map (body_by (path m)) (option_copied found)
  found-body = body-place m kept who ∙ ap (option_map (body_by (path m))) (sym is)

  pub found-kind : kind_there (world m) (place (path m) who) ≡ option_map (λ b. kind_of (body_by (path m) b)) (option_copied found)
  unfolding kind_there
  found-kind = ap (option_map kind_of) found-body ∙ by (option_copied found)
    where
      by : (o : Option Body) → option_map kind_of (option_map (body_by (path m)) o) ≡ option_map (λ b. kind_of (body_by (path m) b)) o
      by None = refl
      by (Some b) = refl

  pub found-there : IsSome found → is_there m who ≡ true
  found-there some = ap is_some (sym is) ∙ by found some
    where
      by : (o : Option (Bor Body)) → IsSome o → is_some (option_copied o) ≡ true
      by None h = h
      by (Some b) h = refl

  pub found-space : IsSome found → IsSpace m who.space
  found-space some = live-IsSpace m kept who.space (kept.housed who (found-there some))

  pub found-home : IfSome found (λ b. IsAtHome (path m) who b.now)
  found-home = by found refl
    where
      by : (o : Option (Bor Body)) → found ≡ o → IfSome o (λ b. IsAtHome (path m) who b.now)
      by None e = tt
      by (Some b) e = there-IsAtHome m kept who b.now (sym is ∙ ap option_copied e)

  pub found-named : IfSome found (λ b. OnNamed (IsLive m) b.now)
  found-named = by found refl
    where
      by : (o : Option (Bor Body)) → found ≡ o → IfSome o (λ b. OnNamed (IsLive m) b.now)
      by None e = tt
      by (Some b) e = OnNamed-map (λ q. is_there m q ≡ true) (IsLive m) (there-IsLive m kept) b.now (kept.leads who b.now (sym is ∙ ap option_copied e))

  pub found-apart : IsSome found → HasOwnPath (path m) who
  found-apart some = place-apart m kept who (kept.housed who (found-there some))

  pub found-sized : IfSome found (λ b. IsSized b.now)
  found-sized = by found refl
    where
      by : (o : Option (Bor Body)) → found ≡ o → IfSome o (λ b. IsSized b.now)
      by None e = tt
      by (Some b) e = kept.sized who b.now (sym is ∙ ap option_copied e)
