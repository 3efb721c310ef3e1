-- The clauses of transparency, from the composed run and the jobs' own laws.
use Rattle.std.proofs.Common.{◌≡◌, ℕ, ◌+◌, ◌<◌, ◌≤◌, arith, Bool, true, false, nat_le, take, Some, refl, ap, ◌∙◌, subst, ◌⊎◌, inl, inr}
use Rattle.std.proofs.lemmas.Bool.{leb-true, leb-false}
use Rattle.fk_model.specs.Places.{Path}
use Rattle.fk_model.specs.Cut.{cut}
use Rattle.fk_model.specs.Rebind.{rebound}
use Rattle.laws_subtrees.proofs.InFurther.ClosedLaws.{closed_is_plain}
use Rattle.laws_runs.specs.Cores.{world_at}
use Rattle.laws_jobs.specs.Jobs.{MayBegin}
use Rattle.laws_runs.specs.Transparency.{CheckpointsHold, RestoresHold, RestoredGoOn}
use Rattle.laws_runs.proofs.Composing.{composed}
use Rattle.laws_runs.proofs.Onwards.{restored_goes_on}

first_or_later : (b k : ℕ) → b ≤ k → (k ≡ b) ⊎ (b < k)
first_or_later b k low = by (nat_le k b) refl
  where
    by : (t : Bool) → nat_le k b ≡ t → (k ≡ b) ⊎ (b < k)
    by true e = let up = leb-true k b e in inl (omega (arith, up, low))
    by false e = inr (leb-false k b e)

pub checkpoints_hold : {J S A V : Type 0} → CheckpointsHold J S A V
checkpoints_hold {J = J} h first c past run users tidy start left index job slot picture end begun last saved its saves ended done =
    let e = (composed h first c past run users tidy start left).ended index end begun last ended in
    let w = e.worked in
    let one : w.job ≡ job = (let two = w.its in cc) in
    let birth : h.nester w.job ≡ h.nester job = ap h.nester one in
    let may = subst (λ b. MayBegin (world_at run begun) w.nester b) birth w.may in
    let law = saves w.nester (take index c.ends) w.start may.named (subst (λ j. h.begins j (take index c.ends) ≡ Some w.start) one w.starts) in
    let got = law.gives (world_at run (last + 1)) e.state end saved may e.there.work e.stopped done in
    let within = w.within in
    record {
      nester = w.nester;
      named = may.named;
      order = (omega (arith, within.0), omega (arith, within.1));
      closed = got.0;
      picture = got.1;
      same = λ k low high. at w.nester k (first_or_later begun k low) (λ above. (let there = w.throughout k above high in
          law.keeps (world_at run k) there.0 may there.1.work));
    }
  where
    at : (nester : Path) (k : ℕ) → (k ≡ begun) ⊎ (begun < k) → (begun < k → cut (world_at run k) nester slot ≡ cut (world_at run begun) nester slot) →
        cut (world_at run k) nester slot ≡ cut (world_at run begun) nester slot
    at nester k (inl same) go = ap (λ i. cut (world_at run i) nester slot) same
    at nester k (inr above) go = go above

pub restores_hold : {J S A V : Type 0} → RestoresHold J S A V
restores_hold h first c past run users tidy start left index job slot bind saved is_done end begun last its restores ended done =
    let e = (composed h first c past run users tidy start left).ended index end begun last ended in
    let w = e.worked in
    let one : w.job ≡ job = (let two = w.its in cc) in
    let may = subst (λ b. MayBegin (world_at run begun) w.nester b) (ap h.nester one) w.may in
    let law = restores w.nester w.start may.named (subst (λ j. h.begins j (take index c.ends) ≡ Some w.start) one w.starts) in
    let got = law.gives (world_at run (last + 1)) e.state end may e.there.work e.stopped done in
    record { nester = w.nester; named = may.named; plain = got.0; cut_there = got.1 }

pub restored_go_on : {J S A V : Type 0} → RestoredGoOn J S A V
restored_go_on h first c past run users tidy start left birth slot begun last saved from uncut alone other place made done bind to ms =
    let order = from.order in
    let sound = (composed h first c past run users tidy start left).sound begun (omega (arith, order.0, order.1)) in
    let plain = closed_is_plain (world_at run begun) from.nester slot sound.whole sound.savable uncut alone from.closed in
    restored_goes_on (world_at run begun) (world_at run (done + 1)) from.nester to.nester slot place bind ms plain (to.cut_there
    ∙ ap (rebound bind) from.picture)
