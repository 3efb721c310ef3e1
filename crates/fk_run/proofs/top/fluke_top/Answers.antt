use Rattle.std.proofs.Common.{None, Ok, refl, rules}
use Rattle.fk_run.proofs.Complete.{complete-Err, complete-Ok, not-since, plain-Err, plain-Ok, plain-refusal}
use Rattle.fk_run.proofs.Due.{puts_nothing}
use Rattle.fk_run.proofs.Transparency.{holds}
use Rattle.fk_run.specs.declared.made.Made.{Made}
use Rattle.fk_run.proofs.top.fluke_top.Goals as goal

pub returns-in-Ok : goal.returns-in-Ok
returns-in-Ok g c = record {
  theorem = record {
    words = record {
      usage = search rules;
      untouched = search rules;
      source = search rules;
      shelf = search rules;
    };
    correct = search rules;
    causes = record {
      read_fault = search rules;
      write_fault = search rules;
      cut_off = search rules;
      shelf_fault = search rules;
    };
    hides = record {
      reads = search rules;
      writes = search rules;
      gets = search rules;
      gets_of_run = search rules;
      puts = search rules;
      puts_of_none = search rules;
    };
    came = record {
      all_read = search rules;
      nothing = search rules;
      no_report = search rules;
      no_extra = search rules;
    };
    files = record {
      put = search rules;
      some = search rules;
      no_put = search rules;
      others = search rules;
      again = search rules;
    };
    transparency = holds _ c.finish.result.report;
    complete = λ no_read no_write no_get no_put.
        let made : Made = record { prepared = c.in-Ok.prepared; extra = None } in
        complete-Ok _ _ _ _ _ _ _ _ _ (Ok made) made _ _ _ refl (plain-Ok _ _ _ _ _ _ c.in-Ok.is c.prepare_shared.ensures.comes) c.finish.ensures.done
        c.finish.ensures.written c.prepare_shared.ensures.same_files c.finish.ensures.put c.finish.ensures.status c.finish.ensures.write_fault
        c.finish.ensures.shelf_fault
        (λ fault. no_write fault.1) (λ fault. not-since _ _ _ c.prepare_shared.ensures.same_puts no_put fault.2) (search rules);
  };
}

pub returns-in-Err : goal.returns-in-Err
returns-in-Err g c = record {
  theorem = record {
    words = record {
      usage = search rules;
      untouched = search rules;
      source = search rules;
      shelf = search rules;
    };
    correct = search rules;
    causes = record {
      read_fault = search rules;
      write_fault = search rules;
      cut_off = search rules;
      shelf_fault = search rules;
    };
    hides = record {
      reads = search rules;
      writes = search rules;
      gets = search rules;
      gets_of_run = search rules;
      puts = search rules;
      puts_of_none = search rules;
    };
    came = record {
      all_read = search rules;
      nothing = search rules;
      no_report = search rules;
      no_extra = search rules;
    };
    files = record {
      put = search rules;
      some = λ failed. puts_nothing _ _ _ c.prepare_shared.ensures.same_files;
      no_put = search rules;
      others = search rules;
      again = search rules;
    };
    transparency = search rules;
    complete = λ no_read no_write no_get no_put.
        complete-Err _ _ _ _ _ _ _ _ _ _ _ _ refl (plain-Err _ _ _ _ _ _ c.in-Err.is c.prepare_shared.ensures.comes)
        (plain-refusal _ _ _ c.in-Err.is c.prepare_shared.ensures.refusal) no_read (λ fault. no_get fault.0)
        (search rules);
  };
}
