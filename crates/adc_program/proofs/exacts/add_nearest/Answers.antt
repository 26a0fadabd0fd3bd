use Rattle.std.proofs.Common.{◌≡◌, ◌∙◌, length, None, refl, sym, ap₂}
use Rattle.vec_files.specs.Rows.{ivecs_row}
use Rattle.adc_program.proofs.Growing.{adds_read, adds_stop, adds_after, adds_as, there_on}
use Rattle.adc_program.proofs.Faults.{well_of}
use Rattle.adc_program.proofs.exacts.add_nearest.Goals as goal

pub add_row-requires-clause-there : goal.add_row-requires-clause-there
add_row-requires-clause-there g c = there_on c.args.asked.now.out.now c.requires.there (adds_read {o = record { written = None; faults = 0 }} c.args.asked.now.out.now (well_of c.in-Ok.ensures.reads))

pub returns-in-Ok : goal.returns-in-Ok
returns-in-Ok g c =
    let asked = c.args.asked.now in
    let name = asked.out.now in
    let size : length c.find.new.numbers ≡ asked.k = c.find.auto.numbers ∙ c.requires.numbers in
    record {
      adds = λ text.
          adds_as name c.add_row.result (λ files told. refl) (λ files told. sym (ap₂ ivecs_row size (c.in-Ok.ensures.reads.found files told)))
          (adds_after name c.add_row.result (λ files files1 stay. refl) (λ files files1 stay. refl) (λ files none. refl) (adds_read name (well_of c.in-Ok.ensures.reads)) (c.add_row.ensures text));
    }

pub returns-in-Err : goal.returns-in-Err
returns-in-Err g c = record { adds = λ text. adds_stop c.args.asked.now.out.now c.in-Err.stop c.in-Err.ensures.reads }
