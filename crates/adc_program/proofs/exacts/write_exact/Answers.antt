use Rattle.std.proofs.Common.{◌≡◌, ◌∙◌, ℕ, List, Some, Ok, sym, ap, subst}
use Rattle.play_script.specs.Texts.{exact_done}
use Rattle.adc_program.specs.Asking.{rows_in}
use Rattle.adc_program.specs.Exacts.{with_nearest, exact_output}
use Rattle.adc_program.specs.Steps.{Makes}
use Rattle.adc_program.proofs.Filing.{makes_stop, makes_memory}
use Rattle.adc_program.proofs.Faults.{well_of}
use Rattle.adc_program.proofs.exacts.write_exact.Goals as goal

pub returns-in-Err : goal.returns-in-Err
returns-in-Err g c = record { makes = makes_stop c.args.job.now.out.now c.in-Err.stop c.in-Err.ensures.reads (λ files error told e. e) }

pub returns-in_default : goal.returns-in_default
returns-in_default g c = record { makes = makes_memory c.args.job.now.out.now (well_of c.in-Ok.ensures.reads) }

pub returns-in_default-vec : goal.returns-in_default-vec
returns-in_default-vec g c = record { makes = makes_memory c.args.job.now.out.now (well_of c.in-Ok.ensures.reads) }

pub returns : goal.returns
returns g c =
    let job = c.args.job.now in
    let asked = c.in-Ok.asked in
    let out : asked.out.now ≡ job.out.now = c.in-Ok.ensures.out in
    record {
      makes = subst (λ (n : List ℕ). Makes (Some n) c.write.result (λ files. exact_output files job.base.now job.queries.now job.k job.out.now) (g.H.Shelf.state c.args.shelf.now) (g.H.Shelf.state c.write.new.shelf) (g.K.Sink.state c.args.out.now) (g.K.Sink.state c.write.new.out)) out
          (c.write.ensures.makes _ _ (well_of c.in-Ok.ensures.reads) (λ files told.
          (c.in-Ok.ensures.reads.found files told).output
          ∙ ap (λ (n : List ℕ). Ok (with_nearest n (exact_done asked.queries.checked.rows asked.base.checked.rows) (rows_in files asked.base) (rows_in files asked.queries) asked.k asked.queries.checked.rows)) (sym out)));
    }
