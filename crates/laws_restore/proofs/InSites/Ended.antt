-- Without a pin what a site has built is the cut.
use Rattle.std.proofs.Common.{◌≡◌, ℕ, Bool, true, false, cond, not, ◌&&◌, eqb, is_some, IfSome, [], ◌∷◌, ◌++◌, Option, Some, None, option_map, refl, sym, ap}
use Rattle.std.proofs.Common.{subst, eqb-true, ◌∙◌}
use Rattle.fk_model.specs.declared.names.Kind.TheVariants as kinds
use Rattle.fk_model.specs.Places.{Path, same_path, strip, Ptr}
use Rattle.fk_model.specs.Places.Ptr.{Out, Far}
use Rattle.fk_model.specs.Objects.{Peer, Talk, Fault, Body, kind_of, and_then}
use Rattle.fk_model.specs.Objects.Peer.{Server, Service, Parked}
use Rattle.fk_model.specs.Objects.Body.{Mutex, Cond, Mapping, Region, Port, Portset, Space, Thread_of, Reference}
use Rattle.fk_model.specs.World.{World}
use Rattle.fk_model.specs.Cut.{is_port, ports_of, cut_to, cut_ptr, is_out, cut_peer, cutting, seen_by, unheld, cut}
use Rattle.fk_model.proofs.walks.PlaceLaws.{same_path_eq, strip-append}
use Rattle.laws_subtrees.specs.Cut.Likeness.{seeing, seen_peer, PtrLikeness, HasLikeness, IfServer, AllInTalk, AllInFault, IsPlainBody}
use Rattle.laws_subtrees.specs.Cut.Likeness.PtrLikeness.{Nulls, Deads, Inside, PortAt, PortOut}
use Rattle.laws_restore.specs.Sites.Orders.{Pin, Site, pin_of, eye, bare, PinShows, Shows}
use Rattle.laws_restore.specs.Sites.Laws.{BuiltIsCut}
use Rattle.laws_restore.proofs.InSites.Others.{among_body}
use Rattle.laws_restore.proofs.InSites.Standing.{root_there}

kind_port : (o : Option Body) → and_then (λ b. Some (kind_of b)) o ≡ Some kinds.Port → is_port o ≡ true
kind_port (Some (Port set served)) h = refl
kind_port (Some (Mutex locked)) h = cc
kind_port (Some Cond) h = cc
kind_port (Some (Mapping m)) h = cc
kind_port (Some (Region r)) h = cc
kind_port (Some Portset) h = cc
kind_port (Some (Space birth holder)) h = cc
kind_port (Some (Thread_of t)) h = cc
kind_port (Some (Reference to)) h = cc
kind_port None h = cc

module _ (nester : Path) (slot : ℕ) (g : Site) (w : World) (shows : Shows nester slot g w) (none : w.body (pin_of (slot ∷ nester)) ≡ None) where
  abbrev root : Path
  root = slot ∷ nester

  abbrev see : Ptr → Ptr
  see = eye nester slot

  abbrev ports : ℕ → Bool
  ports = ports_of w nester slot

  bare_same : (y : Path) → (bare root w).body y ≡ w.body y
  bare_same y = by (same_path y (pin_of root)) refl
    where
      by : (t : Bool) → same_path y (pin_of root) ≡ t → cond t None (w.body y) ≡ w.body y
      by true e = let same = same_path_eq y (pin_of root) e in rw same (sym none)
      by false e = refl

  abbrev Agrees : Ptr → Type 0
  Agrees p = cut_ptr ports nester slot p ≡ see p

  strip_root : strip root root ≡ Some []
  strip_root = strip-append root []

  out_agrees : (x : Path) (i : ℕ) (o : Option Path) → strip root x ≡ o → is_some o ≡ false → cut_to (λ i. true) nester x o ≡ Out i → is_port (w.body x) ≡ true
      → cut_to ports nester x o ≡ Out i
  out_agrees x i (Some q) e apart seen port = cc
  out_agrees [] i None e apart seen port = cc
  out_agrees (j ∷ y) i None e apart seen port = by (same_path y nester) refl seen
    where
      by : (t : Bool) → same_path y nester ≡ t → cond (t && true) (Out j) Far ≡ Out i → cond (t && ports j) (Out j) Far ≡ Out i
      by false h seen = cc
      by true h seen =
          let at = same_path_eq y nester h in
          let there : is_port (w.body (j ∷ nester)) ≡ true = subst (λ (y : Path). is_port (w.body (j ∷ y)) ≡ true) at port in
          rw there (by_slot (eqb j slot) refl at)
        where
          by_slot : (t : Bool) → eqb j slot ≡ t → y ≡ nester → cond (not t && true) (Out j) Far ≡ Out i
          by_slot false h at = seen
          by_slot true h at =
              let same = eqb-true j slot h in
              let here : strip root root ≡ None = subst (λ (k : ℕ). strip root (k ∷ nester) ≡ None) same
              (subst (λ (y : Path). strip root (j ∷ y) ≡ None) at e) in
              let both = sym strip_root ∙ here in
              cc

  ptr_agrees : (p seen : Ptr) → PtrLikeness root (bare root w) p seen → see p ≡ seen → cut_ptr ports nester slot p ≡ seen
  ptr_agrees _ _ Nulls e = refl
  ptr_agrees _ _ Deads e = refl
  ptr_agrees _ _ (Inside x) e = rw (strip-append root x) refl
  ptr_agrees _ _ (PortAt x i apart port) e =
      let there : and_then (λ b. Some (kind_of b)) (w.body x) ≡ Some kinds.Port = sym (ap (and_then (λ b. Some (kind_of b))) (bare_same x)) ∙ port in
      out_agrees x i (strip root x) refl apart e (kind_port (w.body x) there)
  ptr_agrees _ _ (PortOut old i) e = cc

  agrees : (p : Ptr) → HasLikeness root see (bare root w) p → Agrees p
  agrees p like = ptr_agrees p (see p) like refl

  peer_agrees : (out : Bool) (peer : Peer) → IfServer out peer Agrees → cut_peer ports nester slot out peer ≡ seen_peer see out peer
  peer_agrees true peer h = refl
  peer_agrees false (Server thread) h = ap Server h
  peer_agrees false Service h = refl
  peer_agrees false Parked h = refl

  talk_agrees : (o : Option Talk) → IfSome o (AllInTalk see Agrees) → and_then (cutting ports nester slot).talk o ≡ and_then (seeing see).talk o
  talk_agrees None h = refl
  talk_agrees (Some talk) h = rw (h.0, peer_agrees (is_out (see talk.port)) talk.peer h.1) refl

  taker_agrees : (out : Bool) (o : Option Peer) → IfSome o (λ taker. IfServer out taker Agrees)
      → option_map (cut_peer ports nester slot out) o ≡ option_map (seen_peer see out) o
  taker_agrees out None h = refl
  taker_agrees out (Some taker) h = ap Some (peer_agrees out taker h)

  fault_agrees : (o : Option Fault) → IfSome o (AllInFault see Agrees) → and_then (cutting ports nester slot).fault o ≡ and_then (seeing see).fault o
  fault_agrees None h = refl
  fault_agrees (Some fault) h = rw (h.0, taker_agrees (is_out (see fault.port)) fault.taker h.1) refl

  body_agrees : (b : Body) → IsPlainBody see Agrees b → seen_by (cutting ports nester slot) b ≡ seen_by (seeing see) b
  unfolding seen_by
  body_agrees (Mapping m) h = rw h refl
  body_agrees (Region r) h = rw h refl
  body_agrees (Space birth (Some holder)) h = rw h refl
  body_agrees (Space birth None) h = refl
  body_agrees (Thread_of t) h = rw (talk_agrees t.talk h.0, fault_agrees t.fault h.1) refl
  body_agrees (Reference to) h = rw h refl
  body_agrees (Mutex locked) h = refl
  body_agrees Cond h = refl
  body_agrees (Port set served) h = refl
  body_agrees Portset h = refl

  there_agrees : (q : Path) (o : Option Body) → IfSome o (IsPlainBody see (HasLikeness root see (bare root w))) →
      option_map (λ b. unheld q (seen_by (cutting ports nester slot) b)) o ≡ option_map (λ b. unheld q (seen_by (seeing see) b)) o
  there_agrees q None h = refl
  there_agrees q (Some b) h = ap (λ b. Some (unheld q b)) (body_agrees b (among_body see (HasLikeness root see (bare root w)) Agrees b (λ p is. agrees p) h))

  root_agrees : option_map (λ b. unheld [] (seen_by (cutting ports nester slot) b)) (w.body root)
      ≡ option_map (λ b. unheld [] (seen_by (seeing see) b)) (w.body root)
  unfolding seen_by
  root_agrees = let space = root_there nester slot g w shows in rw space.is refl

  body_same : (q : Path) → (cut w nester slot).body q ≡ g.built.body q
  unfolding cut
  body_same [] = root_agrees ∙ ap (option_map (λ b. unheld [] (seen_by (seeing see) b))) (sym (bare_same root)) ∙ sym (shows.like.bodies [])
  body_same (k ∷ q) =
      let plain : IfSome (w.body (k ∷ (q ++ root))) (IsPlainBody see (HasLikeness root see (bare root w))) =
      subst (λ (o : Option Body). IfSome o (IsPlainBody see (HasLikeness root see (bare root w)))) (bare_same (k ∷ (q ++ root))) (shows.like.plain k q) in
      there_agrees (k ∷ q) (w.body (k ∷ (q ++ root))) plain
      ∙ ap (option_map (λ b. unheld (k ∷ q) (seen_by (seeing see) b))) (sym (bare_same (k ∷ (q ++ root)))) ∙ sym (shows.like.bodies (k ∷ q))

  pub is_cut : cut w nester slot ≡ g.built
  unfolding cut
  is_cut = sym (λ i. record { body = λ q. sym (body_same q) i; page = λ q page. shows.like.pages q page i; next = shows.like.unborn i })

pub built_is_cut : BuiltIsCut
built_is_cut nester slot g w shows is = is_cut nester slot g w shows (subst (λ (p : Pin). PinShows nester slot w p) is shows.pin)
