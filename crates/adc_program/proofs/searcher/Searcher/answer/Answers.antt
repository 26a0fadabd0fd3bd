use Rattle.std.proofs.Common.{rules, ◌≡◌, ◌∙◌, ℕ, List, [], ◌∷◌, length, Ok, Err, refl, sym, ap, ap₂, subst, arith}
use Rattle.std.proofs.lemmas.Grind.{common_steps}
use Rattle.std.proofs.lemmas.List.{append-nil}
use Rattle.adc_ports.specs.Files.{Files}
use Rattle.vec_files.specs.Rows.{ivecs_row}
use Rattle.play_script.specs.Play.{Counts, query_line}
use Rattle.play_script.specs.Texts.{query_done}
use Rattle.adc_program.specs.declared.searcher.Asking.{Asking}
use Rattle.adc_program.specs.Asked.{indexed, questions_of}
use Rattle.adc_program.specs.Searches.{counts_at}
use Rattle.adc_program.specs.Work.{Works}
use Rattle.adc_program.proofs.Growing.{adds_read, adds_stop, adds_lines, adds_after, adds_cut, adds_as, there_on}
use Rattle.adc_program.proofs.Writing.{on_ok}
use Rattle.adc_program.proofs.Faults.{well_of}
use Rattle.adc_program.proofs.searcher.Searcher.answer.Goals as goal

pub returns-in-Err-clause-adds : goal.returns-in-Err-clause-adds
returns-in-Err-clause-adds g c = adds_stop c.args.self.now.asking.out.now c.in-Err.stop c.in-Err.ensures.counts

pub add_row-requires-clause-there : goal.add_row-requires-clause-there
add_row-requires-clause-there g c = there_on c.args.self.now.asking.out.now c.requires.there (adds_read {o = g.K.Sink.state c.args.out.now} c.args.self.now.asking.out.now (well_of c.in-Ok.ensures.counts))

pub returns-in-Err-add_row-clause-adds : goal.returns-in-Err-add_row-clause-adds
returns-in-Err-add_row-clause-adds g c =
    let self = c.args.self.now in
    let asking = self.asking in
    let name = asking.out.now in
    let halted = c.in-Err-add_row.halted in
    let asked = λ (files : Files). questions_of files asking (g.P.IdSelector.ranges c.args.selector.now) in
    let size : length c.deref.result.now ≡ asking.k = ap length c.deref.ensures.value ∙ c.find.new.self.ids_room ∙ ap (λ (a : Asking). a.k) c.find.ensures.asking in
    adds_as name (Err halted) (λ files told. refl) (λ files told.
    sym (ap₂ ivecs_row size (c.deref.ensures.value ∙ c.in-Ok.ensures.ids files told)) ∙ sym (append-nil _))
    (adds_cut name halted (λ files. query_line c.args.number (counts_at (indexed self.engine) (asked files) c.args.number) ∷ []) (λ files. [])
    (adds_after name (Err halted) (λ files files1 stay. refl) (λ files files1 stay. refl) (λ files none. refl) (adds_read name (well_of c.in-Ok.ensures.counts)) (c.in-Err-add_row.ensures (g.K.Sink.state c.args.out.now))))

pub returns-clause-adds : goal.returns-clause-adds
returns-clause-adds g c =
    let self = c.args.self.now in
    let asking = self.asking in
    let name = asking.out.now in
    let report = c.in-Ok.report in
    let from : c.from.result ≡ c.args.number = first_of (search rules, grind (arith, common_steps)) in
    let size : length c.deref.result.now ≡ asking.k = ap length c.deref.ensures.value ∙ c.find.new.self.ids_room ∙ ap (λ (a : Asking). a.k) c.find.ensures.asking in
    adds_as name c.write_line.result
    (λ files told. ap (λ (q : Counts). query_line c.args.number q ∷ []) (c.in-Ok.ensures.counts.found files told)
    ∙ sym (ap (λ (l : List ℕ). l ∷ []) (c.query_done-line.ensures ∙ ap (λ (n : ℕ). query_done n report.cells report.live report.full) from)))
    (λ files told. sym (ap₂ ivecs_row size (c.deref.ensures.value ∙ c.in-Ok.ensures.ids files told)) ∙ sym (append-nil _))
    (adds_after name c.write_line.result (λ files files1 stay. refl) (λ files files1 stay. refl) (λ files none. refl)
    (adds_after name (Ok tt) (λ files files1 stay. refl) (λ files files1 stay. refl) (λ files none. refl) (adds_read name (well_of c.in-Ok.ensures.counts)) (c.in-Ok-add_row.ensures (g.K.Sink.state c.args.out.now)))
    (adds_lines name c.write_line.result c.write_line.ensures.puts))

pub returns-clause-works : goal.returns-clause-works
returns-clause-works g c = λ files told.
    on_ok c.write_line.result (subst (λ (q : Counts). Works (q ∷ []) c.args.meters.now c.find.new.meters) (sym (c.in-Ok.ensures.counts.found files told)) c.in-Ok.ensures.works)
