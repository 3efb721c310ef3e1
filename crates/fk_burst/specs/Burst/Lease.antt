-- What contracts see of a lease.
use Rattle.std.specs.Prelude.{ℕ, refl}
use Rattle.std.specs.Coded.{Coded, code_by, coded×, coded_ℕ}
use Rattle.fk_model.specs.declared.names.Who.{Who}
use Rattle.fk_model.specs.contracts.names.Who as who
use Rattle.fk_burst.specs.declared.copies.copied.Copied.{Copied}
use Rattle.fk_burst.specs.contracts.copies.copied.Copied as copied

-- whose it is; the copy as it was taken, and as it is; and how many instructions have led from one to the other
pub record Lease : Type 0 where
  pub thread : Who
  pub taken : Copied
  pub copy : Copied
  pub count : ℕ

abbrev pub coded_lease : Coded Lease
coded_lease = code_by (Who × (Copied × (Copied × ℕ))) (coded× who.the_row.coded (coded× copied.the_row.coded (coded× copied.the_row.coded coded_ℕ)))
    (λ l. (l.thread, (l.taken, (l.copy, l.count)))) (λ p. record { thread = p.0; taken = p.1.0; copy = p.1.1.0; count = p.1.1.1 }) (λ _. refl)
