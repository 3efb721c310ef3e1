-- Players: what a search of the store finds is what the search of the world finds.
use Rattle.std.proofs.Common.{◌≡◌, ◌<◌, ◌≤◌, Bool, true, false, [], ◌∷◌, find, Option, Some, None, option_map, is_some, IsSome, IfSome, ◌&&◌, refl}
use Rattle.std.proofs.Common.{sym, ap, subst, ◌∙◌, arith}
use Rattle.std.specs.FinMap.{get}
use Rattle.fk_model.specs.declared.names.Who.{Who}
use Rattle.fk_model.specs.declared.body.Body as bodies_of
use Rattle.fk_model.specs.Places.{Path, leads_to}
use Rattle.fk_model.specs.Places.Ptr.{At}
use Rattle.fk_model.specs.Objects as objects_of
use Rattle.fk_model.specs.Objects.Peer.{Server, Service}
use Rattle.fk_model.specs.Objects.{Peer, Talk, Fault, Thread, Body, thread_of, and_then, holds, flag_of}
use Rattle.fk_model.specs.Searches.{depth, objects, talk_at, fault_at, is_service}
use Rattle.fk_model.specs.Valid.{IsConsistent, kind_there, HasService}
use Rattle.fk_model.specs.World.{World, serves}
use Rattle.fk_model.proofs.walks.Members.{IsIn, find_some, find_none}
use Rattle.fk_model.proofs.walks.WalkLaws.{walked}
use Rattle.fk_model.proofs.walks.PlaceLaws.{leads_to_at}
use Rattle.std.proofs.lemmas.Bool.{and_parts}
use Rattle.fk_store_graph.specs.declared.leads.parts.Part.{Part}
use Rattle.fk_store.specs.Store.Contents.{Contents}
use Rattle.fk_store.specs.Store.Paths.{path, place, HasOwnPath}
use Rattle.fk_store.specs.Store.Bodies.{body_by}
use Rattle.fk_store.specs.Store.Named.{Each}
use Rattle.fk_store.specs.Store.World.{world, IsLive}
use Rattle.fk_store.specs.Store.WellFormed.{is_there, IsWellFormed}
use Rattle.fk_store.specs.Freezing.Parts.{plays}
use Rattle.fk_store.specs.Store.Parts.{played, played_at}
use Rattle.fk_store.proofs.InStore.finding.NamedLaws.{OnNamed-map}
use Rattle.fk_store.proofs.InStore.finding.Walks.{place-apart}
use Rattle.fk_store.proofs.InStore.finding.LookUps.{body-place, there-IsLive}
use Rattle.fk_store.proofs.InStore.changing.Makes.{live-born}
use Rattle.fk_store.proofs.InStore.changing.Born.{above, rooted, short}
use Rattle.fk_store.proofs.InStore.finding.Enumerated.{named-object}
use Rattle.fk_store.proofs.InStore.changing.PartLaws.{nobody, plays-by}

module _ (m : Contents) (kept : IsWellFormed m) where
  there : (who : Who) (b : bodies_of.Body) → get m.bodies who ≡ Some b → (world m).body (place (path m) who) ≡ Some (body_by (path m) b)
  there who b e = body-place m kept who ∙ ap (option_map (body_by (path m))) e

  -- each object is among those of the world
  pub among : m.next ≤ depth → (who : Who) (b : bodies_of.Body) → get m.bodies who ≡ Some b → IsIn (place (path m) who) (objects (world m))
  among few who b e =
      let housed = kept.housed who (rw e refl) in
      let low = live-born m kept who.space housed in
      let long = short m kept who.space who.space (omega arith) housed in
      walked (world m) (above m kept) (rooted m kept) who.slot (path m who.space) (rw (there who b e) refl) (omega arith)

module _ (m : Contents) (kept : IsWellFormed m) (part : Part) where
  -- what stands at a path plays the part
  abbrev at_path : Path → Bool
  at_path x = played_at m part x

  plays-at : (who : Who) (b : bodies_of.Body) → get m.bodies who ≡ Some b → at_path (place (path m) who) ≡ plays part b
  plays-at who b e =
      ap (λ o. played (path m) part (and_then thread_of o)) (there m kept who b e)
      ∙ sym (plays-by (path m)
      part b (OnNamed-map (λ q. is_there m q ≡ true) (HasOwnPath (path m)) (λ q h. place-apart m kept q (kept.housed q h)) b (kept.leads who b e)))

  -- an object of the world that plays it has a name
  named_player : (x : Path) →
      at_path x ≡ true → (who : Who) × (b : bodies_of.Body) × (place (path m) who ≡ x) × (get m.bodies who ≡ Some b) × (plays part b ≡ true)
  unfolding world kind_there
  named_player [] h = let none = nobody (path m) part in absurd (cc)
  named_player (k ∷ s) h = by ((world m).body (k ∷ s)) refl
    where
      found : (who : Who) → place (path m) who ≡ k ∷ s → (o : Option bodies_of.Body) →
          get m.bodies who ≡ o → (who : Who) × (b : bodies_of.Body) × (place (path m) who ≡ k ∷ s) × (get m.bodies who ≡ Some b) × (plays part b ≡ true)
      found who here None e =
          let empty : (world m).body
          (k ∷ s) ≡ None = subst (λ x. (world m).body x ≡ None) here (body-place m kept who ∙ ap (option_map (body_by (path m))) e) in
          let none = ap (λ o. played (path m) part (and_then thread_of o)) empty ∙ nobody (path m) part in
          absurd (cc)
      found who here (Some b) e = (who, b, here, e, sym (plays-at who b e) ∙ ap at_path here ∙ h)

      by : (o : Option Body) →
          (world m).body (k ∷ s) ≡ o → (who : Who) × (b : bodies_of.Body) × (place (path m) who ≡ k ∷ s) × (get m.bodies who ≡ Some b) × (plays part b ≡ true)
      by None e = let none = ap (λ o. played (path m) part (and_then thread_of o)) e ∙ nobody (path m) part in absurd (cc)
      by (Some b) e =
          let some : IsSome (kind_there (world m) (k ∷ s)) = rw e refl in
          let who = named-object m kept k s some in
          found who.0 who.1 (get m.bodies who.0) refl

  module _ (few : m.next ≤ depth) where
    module _ (found : Option Who) (some : IfSome found (λ who. (b : bodies_of.Body) × (get m.bodies who ≡ Some b) × (plays part b ≡ true)))
        (none : found ≡ None → (who : Who) (b : bodies_of.Body) → get m.bodies who ≡ Some b → plays part b ≡ false) where
      pub nobody-plays : found ≡ None → (x : Path) → at_path x ≡ false
      nobody-plays e x = by (at_path x) refl
        where
          by : (t : Bool) → at_path x ≡ t → t ≡ false
          by false h = refl
          by true h = let who = named_player x h in let no = none e who.0 who.1 who.3 in let yes = who.4 in absurd (cc)

      -- who is found plays it, and is there
      pub found-plays : IfSome found (λ who. at_path (place (path m) who) ≡ true)
      found-plays = by found some
        where
          by : (o : Option Who) → IfSome o (λ who. (b : bodies_of.Body) × (get m.bodies who ≡ Some b) × (plays part b ≡ true)) →
              IfSome o (λ who. at_path (place (path m) who) ≡ true)
          by None h = tt
          by (Some who) h = plays-at who h.0 h.1 ∙ h.2

      pub found-lives : Each (IsLive m) found
      found-lives = by found some
        where
          by : (o : Option Who) → IfSome o (λ who. (b : bodies_of.Body) × (get m.bodies who ≡ Some b) × (plays part b ≡ true)) → Each (IsLive m) o
          by None h = tt
          by (Some who) h = there-IsLive m kept who (rw h.1 refl)

      abbrev search_all : Option Path
      search_all = find at_path (objects (world m))

      -- the search of the world finds somebody where that of the store does
      pub found-some : is_some found ≡ is_some search_all
      found-some = by found refl some search_all refl
        where
          by : (o : Option Who) → found ≡ o → IfSome o (λ who. (b : bodies_of.Body) × (get m.bodies who ≡ Some b) × (plays part b ≡ true)) →
              (p : Option Path) → search_all ≡ p → is_some o ≡ is_some p
          by None e h None f = refl
          by None e h (Some x) f = let yes = (find_some at_path x (objects (world m)) f).1 in let no = nobody-plays e x in absurd (cc)
          by (Some who) e h (Some x) f = refl
          by (Some who) e h None f =
              let no = find_none at_path (place (path m) who) (objects (world m)) f (among m kept few who h.0 h.1) in
              let yes = plays-at who h.0 h.1 ∙ h.2 in
              absurd (cc)

      -- and finds that one, where nobody else plays the part
      pub found-same : ((x y : Path) → at_path x ≡ true → at_path y ≡ true → x ≡ y) → option_map (place (path m)) found ≡ search_all
      found-same one = by found found-plays found-some search_all refl
        where
          by : (o : Option Who) → IfSome o (λ who. at_path (place (path m) who) ≡ true) →
              is_some o ≡ is_some search_all → (p : Option Path) → search_all ≡ p → option_map (place (path m)) o ≡ p
          by None h same None f = refl
          by None h same (Some x) f = absurd (cc)
          by (Some who) h same None f = absurd (cc)
          by (Some who) h same (Some x) f = ap Some (one (place (path m) who) x h (find_some at_path x (objects (world m)) f).1)

-- ---- in a consistent world nobody else does

flag_true : (b : Bool) → b ≡ true → 0 < flag_of b
flag_true true h = omega arith
flag_true false h = absurd (cc)

module _ (w : World) (valid : IsConsistent w) where
  pub one_client : (server x y : Path) →
      holds (λ (talk : Talk). serves server talk.peer) (talk_at w x) ≡ true → holds (λ (talk : Talk). serves server talk.peer) (talk_at w y) ≡ true → x ≡ y
  one_client server x y a b =
      let first = flag_true _ a in
      let second = flag_true _ b in
      valid.one_service server x y (omega arith) (omega arith)

  pub one_faulter : (taker x y : Path) → holds (λ (fault : Fault). holds (serves taker) fault.taker) (fault_at w x) ≡ true →
      holds (λ (fault : Fault). holds (serves taker) fault.taker) (fault_at w y) ≡ true → x ≡ y
  one_faulter taker x y a b =
      let first = flag_true _ a in
      let second = flag_true _ b in
      valid.one_service taker x y (omega arith) (omega arith)

  pub one_guest : (port x y : Path) → holds (λ (talk : Talk). leads_to port talk.port && is_service talk.peer) (talk_at w x) ≡ true →
      holds (λ (talk : Talk). leads_to port talk.port && is_service talk.peer) (talk_at w y) ≡ true → x ≡ y
  one_guest port x y a b = valid.one_client x y (At port) (guest x a) (guest y b)
    where
      service : (peer : Peer) → is_service peer ≡ true → peer ≡ Service
      service Service h = refl
      service (Server server) h = cc
      service objects_of.Peer.Parked h = cc

      guest : (x : Path) → holds (λ (talk : Talk). leads_to port talk.port && is_service talk.peer) (talk_at w x) ≡ true → HasService w x (At port)
      guest x h = by (talk_at w x) refl h
        where
          by : (o : Option Talk) →
              talk_at w x ≡ o → holds (λ (talk : Talk). leads_to port talk.port && is_service talk.peer) o ≡ true → HasService w x (At port)
          by None e g = cc
          by (Some talk) e g = let both = and_parts (leads_to port talk.port) (is_service talk.peer) g in
              (talk, e, leads_to_at port talk.port both.0, service talk.peer both.1)
