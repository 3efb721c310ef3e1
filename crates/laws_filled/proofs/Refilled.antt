-- Changes of a pager's own leave the filled world.
use Rattle.std.proofs.Common.{◌≡◌, ℕ, Bool, true, false, cond, ◌&&◌, ◌==◌, nat_lt, is_some, if◌then◌else◌, List, Option, Some, None, option_map, refl, sym, ap}
use Rattle.std.proofs.Common.{subst, ◌∙◌, eqb-true}
use Rattle.fk_model.specs.declared.limits.TheConstants.{PAGES}
use Rattle.fk_model.specs.Places.{Path, same_path, leads_to}
use Rattle.fk_model.specs.Objects.{Peer, Fault, Body, and_then, or_else}
use Rattle.fk_model.specs.Objects.Peer.{Server}
use Rattle.fk_model.specs.Objects.Body.{Thread_of}
use Rattle.fk_model.specs.Places.Ptr.{At}
use Rattle.fk_model.specs.World.{World, Edit, edited, apply}
use Rattle.fk_model.specs.World.Change.{Alter, PutPage, DropPage}
use Rattle.fk_model.specs.World.Edit.{SetFault, SetTaker}
use Rattle.fk_model.specs.Searches.{fault_at}
use Rattle.fk_model.specs.Reach.{mapping_at, region_at, keeper}
use Rattle.fk_model.proofs.walks.PlaceLaws.{same_path_eq}
use Rattle.laws_filled.specs.Filled.{Paging, is_listed, is_paged, kept_fault, unfaulted, filled, IsPaging}
use Rattle.laws_filled.specs.Pager.{put}
use Rattle.laws_filled.proofs.Kept.{fault_of, altered, taken-set, heard-taken}

module _ (p : Paging) (w : World) where
  -- ---- a page is taken into the list

  module _ (g : ℕ) (words : List ℕ) (home : w.page p.space g ≡ Some words) where
    abbrev pub longer : Paging
    longer = record { space = p.space; port = p.port; porter = p.porter; backing = put g words p.backing }

    -- the faults that are there are the pager's as before
    abbrev pub SameFaults : Type 0
    SameFaults = (y : Path) (fault : Fault) → fault_at w y ≡ Some fault → is_paged longer fault ≡ is_paged p fault

    body-refilled : (o : Option Body) → ((fault : Fault) → fault_of o ≡ Some fault → is_paged longer fault ≡ is_paged p fault) →
        option_map (unfaulted longer) o ≡ option_map (unfaulted p) o
    body-refilled None same = refl
    body-refilled (Some (Thread_of t)) same = λ i. Some (Thread_of (record t { fault = by t.fault same i }))
      where
        by : (o : Option Fault) → ((fault : Fault) → o ≡ Some fault → is_paged longer fault ≡ is_paged p fault) →
            and_then (kept_fault longer) o ≡ and_then (kept_fault p) o
        by None same = refl
        by (Some fault) same = ap (λ (b : Bool). if b then None else Some fault) (same fault refl)
    body-refilled (Some b) same = refl

    pub taken-refilled : SameFaults → filled longer (apply (DropPage p.space g) w) ≡ filled p w
    unfolding apply
    taken-refilled same = λ i. record {
      body = λ q. body-refilled (w.body q) (same q) i;
      page = λ s h. by s h (same_path s p.space) refl (h == g) refl i;
      next = w.next;
    }
      where
        here : (s : Path) (h : ℕ) → same_path s p.space ≡ true → (h == g) ≡ true → w.page s h ≡ Some words
        here s h e f = ap (λ (t : Path). w.page t h) (same_path_eq s p.space e) ∙ ap (w.page p.space) (eqb-true h g f) ∙ home

        by : (s : Path) (h : ℕ) (m : Bool) → same_path s p.space ≡ m → (n : Bool) → (h == g) ≡ n →
            or_else (cond (m && n) None (w.page s h)) (cond m (cond n (Some words) (p.backing h)) None) ≡ or_else (w.page s h) (cond m (p.backing h) None)
        by s h false e n f = refl
        by s h true e false f = refl
        by s h true e true f = sym (ap (λ o. or_else o (p.backing h)) (here s h e f))

    pub taken-paging : SameFaults → nat_lt g PAGES ≡ true → IsPaging p w → IsPaging longer (apply (DropPage p.space g) w)
    unfolding apply mapping_at keeper region_at
    taken-paging same low paging = record {
      root = paging.root;
      there = paging.there;
      mapless = paging.mapless;
      kept = paging.kept;
      few = λ h listed. by h (h == g) refl listed;
      taken = λ y fault has paged. paging.taken y fault has (sym (same y fault has) ∙ paged);
      ours = λ y fault has serving. same y fault has ∙ paging.ours y fault has serving;
    }
      where
        by : (h : ℕ) (n : Bool) → (h == g) ≡ n → is_some (cond n (Some words) (p.backing h)) ≡ true → nat_lt h PAGES ≡ true
        by h true e listed = ap (λ k. nat_lt k PAGES) (eqb-true h g e) ∙ low
        by h false e listed = paging.few h listed

    -- a page of the list is in it already
    pub listed-same : is_listed p g ≡ true → SameFaults
    listed-same listed y fault has = ap (λ b. leads_to p.port fault.port && b) (by (fault.page == g) refl)
      where
        by : (n : Bool) → (fault.page == g) ≡ n → is_some (cond n (Some words) (p.backing fault.page)) ≡ is_some (p.backing fault.page)
        by true e = sym (ap (λ k. is_some (p.backing k)) (eqb-true fault.page g e) ∙ listed)
        by false e = refl

    pub clear-same : ((y : Path) → fault_at w y ≡ None) → SameFaults
    clear-same clear y fault has = let none = clear y in cc

  -- ---- a page is given back

  pub given-refilled : (g : ℕ) (words : List ℕ) → p.backing g ≡ Some words → w.page p.space g ≡ None → filled p (apply (PutPage p.space g words) w) ≡ filled p w
  unfolding apply
  given-refilled g words has away = λ i. record { body = (filled p w).body; page = λ s h. by s h (same_path s p.space) refl (h == g) refl i; next = w.next }
    where
      here : (s : Path) (h : ℕ) → same_path s p.space ≡ true → (h == g) ≡ true → w.page s h ≡ None
      here s h e f = ap (λ (t : Path). w.page t h) (same_path_eq s p.space e) ∙ ap (w.page p.space) (eqb-true h g f) ∙ away

      by : (s : Path) (h : ℕ) (m : Bool) → same_path s p.space ≡ m → (n : Bool) → (h == g) ≡ n →
          or_else (cond (m && n) (Some words) (w.page s h)) (cond m (p.backing h) None) ≡ or_else (w.page s h) (cond m (p.backing h) None)
      by s h false e n f = refl
      by s h true e false f = refl
      by s h true e true f = sym ((λ i. or_else (here s h e f i) (ap p.backing (eqb-true h g f) i)) ∙ has)

  pub given-paging : (g : ℕ) (words : List ℕ) → IsPaging p w → IsPaging p (apply (PutPage p.space g words) w)
  unfolding apply mapping_at keeper region_at
  given-paging g words paging = record {
    root = paging.root;
    there = paging.there;
    mapless = paging.mapless;
    kept = paging.kept;
    few = paging.few;
    taken = paging.taken;
    ours = paging.ours;
  }

  -- ---- a fault is taken, and ends

  edited-filled : (y : Path) (edit : Edit) → option_map (unfaulted p) (option_map (edited edit) (w.body y)) ≡ option_map (unfaulted p) (w.body y) →
      filled p (apply (Alter y edit) w) ≡ filled p w
  unfolding apply
  edited-filled y edit same = λ i. record { body = λ q. by q (same_path q y) refl i; page = (filled p w).page; next = w.next }
    where
      by : (q : Path) (m : Bool) → same_path q y ≡ m →
          option_map (unfaulted p) (cond m (option_map (edited edit) (w.body q)) (w.body q)) ≡ option_map (unfaulted p) (w.body q)
      by q true e = subst (λ (z : Path). option_map (unfaulted p) (option_map (edited edit) (w.body z)) ≡ option_map (unfaulted p) (w.body z))
          (sym (same_path_eq q y e)) same
      by q false e = refl

  module _ (y : Path) (fault : Fault) (has : fault_at w y ≡ Some fault) (paged : is_paged p fault ≡ true) where
    struck-is : (o : Option Fault) → o ≡ Some fault → and_then (kept_fault p) o ≡ None
    struck-is o e = ap (and_then (kept_fault p)) e ∙ ap (λ (b : Bool). if b then None else Some fault) paged

    retaken-is : (taker : Option Peer) (o : Option Fault) → o ≡ Some fault →
        and_then (kept_fault p) (option_map (λ (f : Fault). record f { taker = taker }) o) ≡ None
    retaken-is taker o e = ap (λ (f : Option Fault). and_then (kept_fault p) (option_map (λ (f : Fault). record f { taker = taker }) f)) e
        ∙ ap (λ (b : Bool). if b then None else Some (record fault { taker = taker })) paged

    taker-body : (taker : Option Peer) (o : Option Body) → fault_of o ≡ Some fault →
        option_map (unfaulted p) (option_map (edited (SetTaker taker)) o) ≡ option_map (unfaulted p) o
    unfolding edited
    taker-body taker None e = refl
    taker-body taker (Some (Thread_of t)) e = λ i. Some (Thread_of (record t { fault = (retaken-is taker t.fault e ∙ sym (struck-is t.fault e)) i }))
    taker-body taker (Some b) e = refl

    freed-body : (o : Option Body) → fault_of o ≡ Some fault → option_map (unfaulted p) (option_map (edited (SetFault None)) o) ≡ option_map (unfaulted p) o
    unfolding edited
    freed-body None e = refl
    freed-body (Some (Thread_of t)) e = λ i. Some (Thread_of (record t { fault = sym (struck-is t.fault e) i }))
    freed-body (Some b) e = refl

    pub heard-refilled : (taker : Option Peer) → filled p (apply (Alter y (SetTaker taker)) w) ≡ filled p w
    heard-refilled taker = edited-filled y (SetTaker taker) (taker-body taker (w.body y) has)

    pub freed-refilled : filled p (apply (Alter y (SetFault None)) w) ≡ filled p w
    freed-refilled = edited-filled y (SetFault None) (freed-body (w.body y) has)

    pub freed-paging : IsPaging p w → IsPaging p (apply (Alter y (SetFault None)) w)
    unfolding apply
    freed-paging paging = altered p w paging y (SetFault None) refl (taken-set p None (w.body y) tt (paging.taken y, paging.ours y))

    pub heard-paging : IsPaging p w → IsPaging p (apply (Alter y (SetTaker (Some (Server (At p.porter))))) w)
    unfolding apply
    heard-paging paging = altered p w paging y (SetTaker (Some (Server (At p.porter)))) refl (heard-taken p fault (w.body y) paged has)
