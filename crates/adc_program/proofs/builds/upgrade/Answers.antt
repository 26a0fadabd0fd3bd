use Rattle.index_file.specs.View.{view_index}
use Rattle.adc_program.proofs.Filing.{makes_stop}
use Rattle.adc_program.proofs.IndexTexts.{upgrade_at, upgrade_by_index}
use Rattle.adc_program.proofs.Faults.{well_of}
use Rattle.adc_program.proofs.builds.upgrade.Goals as goal

pub returns-in-Ok : goal.returns-in-Ok
returns-in-Ok g c = record {
  makes = c.upgrade_any.ensures.makes _ _ (well_of c.in-Ok.ensures.reads)
      (λ files told. upgrade_by_index files c.args.job.now.old.now c.args.job.now.new.now (view_index c.in-Ok.index) (c.in-Ok.ensures.reads.found files told));
}

pub returns-in-Err : goal.returns-in-Err
returns-in-Err g c = record {
  makes = makes_stop c.args.job.now.new.now c.in-Err.stop c.in-Err.ensures.reads (λ files error told e. upgrade_at files c.args.job.now.old.now c.args.job.now.new.now error e);
}
