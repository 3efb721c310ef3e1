use Rattle.std.proofs.Common.{rules, ◌≡◌, length}
use Rattle.fk_workers.specs.Workers.Places.{IsPlace}
use Rattle.fk_workers.proofs.InWorkers.Desks.{all_back}
use Rattle.fk_workers.proofs.workers.crew.run_all.Goals as goal

pub gather-requires : goal.gather-requires
gather-requires g c =
    let long : length c.work_all.new.desks ≡ c.in_ok-desks.desks.len = search rules in
    all_back c.work_all.new.desks _ _ (λ desk. IsPlace c.in_ok-lock.lock c.of-boot.result.value desk.pass) long c.work_all.ensures.places
