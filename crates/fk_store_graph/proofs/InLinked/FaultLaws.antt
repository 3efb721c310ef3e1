-- FaultLaws: a thread gets another fault where it stands.
use Rattle.std.proofs.Common.{◌≡◌, ◌≢◌, ℕ, ◌/◌, ◌%◌, ◌<◌, ◌≤◌, Bool, true, false, cond, ◌==◌, nat_lt, List, [], Option, Some, None, option_map}
use Rattle.std.proofs.Common.{refl, sym, ap, ◌∙◌, arith}
use Rattle.std.proofs.lemmas.Bool.Decides.{nat_tests}
use Rattle.fk_model.specs.Objects.{and_then}
use Rattle.fk_model.specs.declared.body.Body.{Body}
use Rattle.fk_model.specs.declared.body.Body.TheVariants.{Thread}
use Rattle.fk_model.specs.declared.thread.Fault.{Fault}
use Rattle.fk_model.specs.declared.thread.Mode.TheVariants as modes
use Rattle.fk_model.specs.declared.thread.Thread.{Thread as State}
use Rattle.fk_store_graph.specs.declared.links.links.Link.{Link}
use Rattle.fk_store_graph.specs.Hints.Leads.{led, of_fault, of_thread}
use Rattle.fk_store_graph.specs.Links.Links.{AreRings}
use Rattle.fk_store_graph.specs.Links.Nodes.{is_head, node_of}
use Rattle.fk_store_graph.specs.Links.Rings.{put_at}
use Rattle.fk_store_graph.specs.Leads.Leading.{fault_target, target, with_fault}
use Rattle.fk_store_cells.specs.declared.objects.entry.Entry.{Entry}
use Rattle.fk_store_cells.specs.Objects.Edits.{Edits, on_body, with_body}
use Rattle.fk_store_cells.specs.Objects.Filed.{Filed, entry_under}
use Rattle.fk_store_cells.specs.Objects.Threads.{faulting, on_thread}
use Rattle.fk_store_graph.specs.Linked.Bodied.{body_under, head_by, head_led, head_led_by_fault, owner, owner_with, HaveHeads}
use Rattle.fk_store_graph.proofs.InLinks.NodeLaws.{rings_along}
use Rattle.fk_store_graph.proofs.InLinked.AlikeLaws.{own_nodes}
use Rattle.fk_store_graph.proofs.InLinked.BodyLaws.{no-body}
use Rattle.fk_store_graph.proofs.InLinked.LinkedLaws.{head_is, within_led}

-- ---- where a thread leads by its fault, and where by its talk

target_late : (t : State) (fault : Option Fault) (i : ℕ) → 3 ≤ i → target i (with_fault t fault) ≡ fault_target i fault
unfolding target led of_thread
target_late t fault i low = let late : nat_lt i 3 ≡ false = grind (arith, nat_tests) in rw late refl

target_own : (t : State) (i : ℕ) → 3 ≤ i → target i (Thread t) ≡ fault_target i t.fault
unfolding target led of_thread
target_own t i low = let late : nat_lt i 3 ≡ false = grind (arith, nat_tests) in rw late refl

target_early : (t : State) (fault : Option Fault) (i : ℕ) → i < 3 → target i (with_fault t fault) ≡ target i (Thread t)
unfolding target led of_thread
target_early t fault i few = let early : nat_lt i 3 ≡ true = grind (arith, nat_tests) in rw early refl

-- the fields at which a talk's server and a fault's taker are told
pub taken_led : (t : State) (fault : Option Fault) → led (with_fault t fault) 5 ≡ and_then (of_fault 5) fault
unfolding led of_thread
taken_led t fault = refl

pub served_led : (t : State) (fault : Option Fault) → led (with_fault t fault) 2 ≡ led (Thread t) 2
unfolding led of_thread
served_led t fault = refl

-- a thread like any other
anybody : State
anybody = record { regs = []; pc = 0; mode = modes.Running; stops = 0; talk = None; fault = None }

led_any : (o : Filed) (fault : Option Fault) (i : ℕ) → 3 ≤ i → head_led o (Some (with_fault anybody fault)) i ≡ head_led_by_fault o fault i
led_any o fault i low = ap (and_then (head_by o)) (target_late anybody fault i low)

-- the head to which a fault leads is one that is there
pub fault_within : (o : Filed) (long : ℕ) (fault : Option Fault) (i : ℕ) → 3 ≤ i → HaveHeads o long → (h : ℕ) → head_led_by_fault o fault i ≡ Some h → h < long
fault_within o long fault i low heads h is = within_led o long (with_fault anybody fault) i heads h (led_any o fault i low ∙ is)

pub fault_head : (o : Filed) (fault : Option Fault) (i : ℕ) → 3 ≤ i → (h : ℕ) → head_led_by_fault o fault i ≡ Some h → is_head h ≡ true
fault_head o fault i low h is = head_is o (with_fault anybody fault) i h (led_any o fault i low ∙ is)

module _ (o : Filed) (key : ℕ) (t : State) (there : body_under o key ≡ Some (Thread t)) where
  -- its nodes lead where its fault says
  led_so : (i : ℕ) → 3 ≤ i → i < 5 → owner o (node_of key i) ≡ head_led_by_fault o t.fault i
  led_so i low few = own_nodes o key (Thread t) there i few ∙ ap (and_then (head_by o)) (target_own t i low)

  module _ (old : Option Fault) (is : old ≡ t.fault) where
    pub first_led : owner o (node_of key 3) ≡ head_led_by_fault o old 3
    first_led = led_so 3 (omega arith) (omega arith) ∙ ap (λ f. head_led_by_fault o f 3) (sym is)

    -- also once the field before leads elsewhere
    pub second_led : (to : Option ℕ) → put_at (owner o) (node_of key 3) to (node_of key 4) ≡ head_led_by_fault o old 4
    second_led to =
        let off : (node_of key 4 == node_of key 3) ≡ false = grind (arith, nat_tests) in
        ap (λ b. cond b to (owner o (node_of key 4))) off ∙ led_so 4 (omega arith) (omega arith) ∙ ap (λ f. head_led_by_fault o f 4) (sym is)

  -- both its fields lead where the new fault says, and all others where they led
  pub fault_rings : (links : List Link) (fault : Option Fault) →
      AreRings links (put_at (put_at (owner o) (node_of key 3) (head_led_by_fault o fault 3)) (node_of key 4) (head_led_by_fault o fault 4)) →
      AreRings links (owner_with o (owner o) key (Some (with_fault t fault)))
  unfolding owner_with
  fault_rings links fault =
      rings_along links (put_at (put_at (owner o) (node_of key 3) (head_led_by_fault o fault 3)) (node_of key 4) (head_led_by_fault o fault 4))
      (owner_with o (owner o) key (Some (with_fault t fault))) (λ n field.
      go n (n / 5 == key) refl (n == node_of key 3) refl (n == node_of key 4) refl)
    where
      late : (n i : ℕ) → n % 5 ≡ i → 3 ≤ i → head_led o (Some (with_fault t fault)) (n % 5) ≡ head_led_by_fault o fault i
      late n i is low = ap (head_led o (Some (with_fault t fault))) is ∙ ap (and_then (head_by o)) (target_late t fault i low)

      go : (n : ℕ) (a : Bool) → (n / 5 == key) ≡ a → (b : Bool) → (n == node_of key 3) ≡ b → (c : Bool) → (n == node_of key 4) ≡ c →
          cond a (head_led o (Some (with_fault t fault)) (n % 5)) (owner o n)
          ≡ cond c (head_led_by_fault o fault 4) (cond b (head_led_by_fault o fault 3) (owner o n))
      go n false e true f c g =
          let same : n ≡ node_of key 3 = grind (arith, nat_tests) in let here : n / 5 ≡ key = omega (arith, same) in absurd (grind (arith, nat_tests))
      go n false e false f true g =
          let same : n ≡ node_of key 4 = grind (arith, nat_tests) in let here : n / 5 ≡ key = omega (arith, same) in absurd (grind (arith, nat_tests))
      go n false e false f false g = refl
      go n true e b f true g =
          let same : n ≡ node_of key 4 = grind (arith, nat_tests) in let rest : n % 5 ≡ 4 = omega (arith, same) in late n 4 rest (omega arith)
      go n true e true f false g =
          let same : n ≡ node_of key 3 = grind (arith, nat_tests) in let rest : n % 5 ≡ 3 = omega (arith, same) in late n 3 rest (omega arith)
      go n true e false f false g =
          let space : n / 5 ≡ key = grind (arith, nat_tests) in
          let three : n ≢ node_of key 3 = grind (arith, nat_tests) in
          let four : n ≢ node_of key 4 = grind (arith, nat_tests) in
          let is : n ≡ node_of key (n % 5) = omega (arith, space) in
          let few : n % 5 < 3 = omega (arith, space, three, four) in
          let low : n % 5 < 5 = omega arith in
          ap (and_then (head_by o)) (target_early t fault (n % 5) few) ∙ sym (ap (owner o) is ∙ own_nodes o key (Thread t) there (n % 5) low)

-- ---- the edit

same_edit : (x : Option Entry) (t : State) (fault : Option Fault) → option_map (λ (e : Entry). e.body) x ≡ Some (Thread t) →
    option_map (on_body (on_thread (faulting fault))) x ≡ option_map (with_body (with_fault t fault)) x
same_edit None t fault is = refl
same_edit (Some e) t fault is =
    let body : e.body ≡ Thread t = cc in ap (λ b. Some (record e { body = on_thread (faulting fault) b })) body

pub fault_edits : (o p : Filed) (key : ℕ) (t : State) (fault : Option Fault) → body_under o key ≡ Some (Thread t) →
    Edits o p key (on_body (on_thread (faulting fault))) → Edits o p key (with_body (with_fault t fault))
unfolding body_under
fault_edits o p key t fault there edits = record {
  keys = edits.keys;
  marks = edits.marks;
  entries = λ j. edits.entries j ∙ ap (λ x. cond (j == key) x (entry_under o j)) (same_edit (entry_under o key) t fault there);
}

-- ---- nothing under a key

pub never_there : {X : Type 0} (o : Filed) (key : ℕ) (b : Body) → entry_under o key ≡ None → body_under o key ≡ Some b → X
never_there o key b none there = let gone = no-body o key none in absurd (cc)
