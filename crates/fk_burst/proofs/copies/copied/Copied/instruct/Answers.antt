use Rattle.std.proofs.Common.{◌≡◌, ℕ, ◌+◌, ◌/◌, ◌%◌, [], Some, Option, slice_index, slice_index_or, sym, ◌∙◌}
use Rattle.fk_model.specs.Instructions.{act}
use Rattle.laws_bursts.specs.Bursts.{Burst, using, acted, instructed}
use Rattle.fk_burst.specs.declared.copies.copied.Copied.{Copied}
use Rattle.fk_burst.specs.Copies.Copies.{burst_of}
use Rattle.fk_burst.proofs.InCopies.Acts.{fetches, fetches_nothing}
use Rattle.fk_burst.proofs.InCopies.Places.{on-true, on-false}
use Rattle.fk_burst.proofs.copies.copied.Copied.instruct.Goals as goal

-- what is performed is the instruction
instructs : (self : Copied) (k : ℕ) (a : _) (o : Option Burst) → self.first + k ≡ self.counter / 64 →
    (burst_of self).page (self.counter / 64) ≡ Some (slice_index_or self.words k []) →
    a ≡ act (slice_index (slice_index_or self.words k []) (self.counter % 64)) self.registers self.counter →
    acted a (using (self.first + k) (burst_of self)) ≡ o → instructed (burst_of self) ≡ o
unfolding burst_of
instructs self k a o at there asks made =
    fetches (burst_of self) (slice_index_or self.words k []) o there (sym (λ i. acted (asks i) (using (at i) (burst_of self))) ∙ made)

pub returns-in-Some-clause-made : goal.returns-in-Some-clause-made
returns-in-Some-clause-made c = on-true _ _ _
    (instructs c.args.self.now c.in-Some.k _ _ c.in-Some.ensures.place.1 c.in-Some.ensures.there c.asked-act.ensures.act) c.perform.ensures.made

pub returns-in-Some-clause-stopped : goal.returns-in-Some-clause-stopped
returns-in-Some-clause-stopped c = on-false _ _ _
    (instructs c.args.self.now c.in-Some.k _ _ c.in-Some.ensures.place.1 c.in-Some.ensures.there c.asked-act.ensures.act) c.perform.ensures.stopped

pub returns-in-None-clause-stopped : goal.returns-in-None-clause-stopped
unfolding burst_of
returns-in-None-clause-stopped c = fetches_nothing (burst_of c.args.self.now) c.in-None.ensures.none
