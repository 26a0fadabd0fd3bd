use Rattle.std.proofs.Common.{Ok, ◌∙◌, ap}
use Rattle.codebook_core.specs.Any.{view_any}
use Rattle.codebook_core.specs.declared.reading.AnyBook.{AnyBook}
use Rattle.adc_program.proofs.BuildTexts.{build_at, build_by_book}
use Rattle.adc_program.proofs.Filing.{makes_stop, makes_after}
use Rattle.adc_program.proofs.Faults.{well_of}
use Rattle.adc_program.proofs.builds.build.Goals as goal

pub returns-in-Err : goal.returns-in-Err
returns-in-Err g c = record {
  makes = makes_stop c.args.job.now.index.now c.in-Err.stop c.in-Err.ensures.reads (λ files error told e. build_at files c.args.job.now.book.now c.args.job.now.base.now c.args.job.now.index.now error e);
}

pub returns-in-F4444 : goal.returns-in-F4444
returns-in-F4444 g c = record {
  makes = makes_after c.args.job.now.index.now c.build_by.result (well_of c.in-Ok.ensures.reads) c.build_by.ensures.makes
      (λ files told. build_by_book files c.args.job.now.book.now c.args.job.now.base.now c.args.job.now.index.now c.in-F4444.book (c.in-Ok.ensures.reads.found files told ∙ ap (λ (b : AnyBook). Ok (view_any b)) c.in-F4444.is));
}

pub returns-in-F555 : goal.returns-in-F555
returns-in-F555 g c = record {
  makes = makes_after c.args.job.now.index.now c.build_by-in-F555.result (well_of c.in-Ok.ensures.reads) c.build_by-in-F555.ensures.makes
      (λ files told. build_by_book files c.args.job.now.book.now c.args.job.now.base.now c.args.job.now.index.now c.in-F555.book (c.in-Ok.ensures.reads.found files told ∙ ap (λ (b : AnyBook). Ok (view_any b)) c.in-F555.is));
}

pub returns-in-F664 : goal.returns-in-F664
returns-in-F664 g c = record {
  makes = makes_after c.args.job.now.index.now c.build_by-in-F664.result (well_of c.in-Ok.ensures.reads) c.build_by-in-F664.ensures.makes
      (λ files told. build_by_book files c.args.job.now.book.now c.args.job.now.base.now c.args.job.now.index.now c.in-F664.book (c.in-Ok.ensures.reads.found files told ∙ ap (λ (b : AnyBook). Ok (view_any b)) c.in-F664.is));
}

pub returns-in-F88 : goal.returns-in-F88
returns-in-F88 g c = record {
  makes = makes_after c.args.job.now.index.now c.build_by-in-F88.result (well_of c.in-Ok.ensures.reads) c.build_by-in-F88.ensures.makes
      (λ files told. build_by_book files c.args.job.now.book.now c.args.job.now.base.now c.args.job.now.index.now c.in-F88.book (c.in-Ok.ensures.reads.found files told ∙ ap (λ (b : AnyBook). Ok (view_any b)) c.in-F88.is));
}
