use Rattle.std.proofs.Common.{◌≡◌, ◌∷◌, [], ◌∙◌, List, ℕ, map, string_bytes, refl, sym, ap, subst, arith, inl, inr}
use Rattle.std.specs.Prelude.{Option}
use Rattle.std.proofs.KnownBytes.{Appends-nil}
use Rattle.adc_ports.proofs.StateLemmas.{reads_none}
use Rattle.play_script.specs.Play.{Counts}
use Rattle.adc_inputs.specs.declared.stop.Status.TheVariants as status
use Rattle.adc_inputs.specs.Names.{Name}
use Rattle.adc_inputs.specs.Jobs.{job_seen}
use Rattle.adc_program.specs.Outputs.{OutFile, Verdict, Usage, verdict_of, file_of, counts_of_verdict}
use Rattle.adc_program.specs.Verdict.{output_of}
use Rattle.adc_program.specs.Ends.{OfVerdict, HasFile, HasFront}
use Rattle.adc_program.specs.Steps.{ChangesAtMost}
use Rattle.adc_program.specs.Work.{Works}
use Rattle.adc_program.proofs.Runs.{wrote_stop, wrote_all, wrote_cut, whole_of, stop_line_of, unsaved_line_of, text_is, file_is, counts_are, comes_due, comes_done, comes_told, verdict_job, verdict_usage, out_job, out_usage, stop_not_done, told_not_done}
use Rattle.adc_program.specs.Residuals.{ResidualCounts, ResidualWorks}
use Rattle.adc_program.proofs.ResidualRuns.{residuals_job}
use Rattle.adc_program.proofs.running.run.Goals as goal

pub returns-in-None-clause-wrote : goal.returns-in-None-clause-wrote
returns-in-None-clause-wrote g c = λ files told.
    rw (verdict_usage (map string_bytes c.args.words.now) files c.in-None.ensures)
    (wrote_stop c.tell.result c.stop_usage.result status.Usage _ _ (g.K.Sink.state c.args.out.now) (g.K.Sink.state c.args.out.now) (g.K.Sink.state c.tell.new.out) Usage
    (OfVerdict (ap (λ (l : List ℕ). l ∷ []) (sym c.stop_usage.ensures)) refl refl refl)
    (record { adds = record { front = []; rest = []; are = refl; added = Appends-nil _ }; more = λ filed left. refl }) (omega arith) c.tell.ensures.tells)

pub returns-in-None-clause-done : goal.returns-in-None-clause-done
returns-in-None-clause-done g c = λ files told done. absurd (told_not_done c.tell.result status.Usage c.tell.ensures.goes (λ e. cc) done)

pub returns-in-None-clause-front : goal.returns-in-None-clause-front
returns-in-None-clause-front g c = λ files told not_done. subst (λ (v : Verdict). HasFront (file_of v) files (g.H.Shelf.state c.args.shelf.now)) (sym (verdict_usage (map string_bytes c.args.words.now) files c.in-None.ensures)) tt

pub returns-in-None-clause-whole : goal.returns-in-None-clause-whole
returns-in-None-clause-whole g c = λ files told. whole_of c.tell.result _ _ _ _ _ (returns-in-None-clause-done g c files told) (returns-in-None-clause-wrote g c files told)

pub returns-in-None-clause-comes : goal.returns-in-None-clause-comes
returns-in-None-clause-comes g c = λ files told.
    rw (verdict_usage (map string_bytes c.args.words.now) files c.in-None.ensures) (comes_told c.tell.result status.Usage Usage c.tell.ensures.goes refl)

pub returns-in-None-clause-works : goal.returns-in-None-clause-works
returns-in-None-clause-works g c = λ files told done. absurd (told_not_done c.tell.result status.Usage c.tell.ensures.goes (λ e. cc) done)

pub returns-in-None-clause-changes : goal.returns-in-None-clause-changes
returns-in-None-clause-changes g c =
    let state = g.H.Shelf.state c.args.shelf.now in
    subst (λ (o : Option Name). ChangesAtMost o state state) (sym (out_usage (map string_bytes c.args.words.now) c.in-None.ensures)) (reads_none state)

pub returns-in-Ok-clause-wrote : goal.returns-in-Ok-clause-wrote
returns-in-Ok-clause-wrote g c = λ files told.
    let makes = c.in-Ok.ensures.makes in
    rw (verdict_job (map string_bytes c.args.words.now) files (job_seen c.in-Some.job) c.in-Some.ensures)
    (wrote_all _ _ _ _ (output_of files (job_seen c.in-Some.job)) (makes.ends files told) (makes.written files told))

pub returns-in-Ok-clause-done : goal.returns-in-Ok-clause-done
returns-in-Ok-clause-done g c = λ files told done.
    let wanted = output_of files (job_seen c.in-Some.job) in
    subst (λ (f : Option OutFile). HasFile f (g.H.Shelf.state c.perform.new.shelf))
    (file_is wanted ∙ sym (ap file_of (verdict_job (map string_bytes c.args.words.now) files (job_seen c.in-Some.job) c.in-Some.ensures))) (c.in-Ok.ensures.makes.leaves files told)

pub returns-in-Ok-clause-whole : goal.returns-in-Ok-clause-whole
returns-in-Ok-clause-whole g c = λ files told. whole_of status.Done _ _ _ _ _ (returns-in-Ok-clause-done g c files told) (returns-in-Ok-clause-wrote g c files told)

pub returns-in-Ok-clause-comes : goal.returns-in-Ok-clause-comes
returns-in-Ok-clause-comes g c = λ files told.
    rw (verdict_job (map string_bytes c.args.words.now) files (job_seen c.in-Some.job) c.in-Some.ensures)
    (comes_done (output_of files (job_seen c.in-Some.job)) (c.in-Ok.ensures.makes.ends files told))

pub returns-in-Ok-clause-changes : goal.returns-in-Ok-clause-changes
returns-in-Ok-clause-changes g c =
    subst (λ (o : Option Name). ChangesAtMost o (g.H.Shelf.state c.args.shelf.now) (g.H.Shelf.state c.perform.new.shelf)) (sym (out_job (map string_bytes c.args.words.now) (job_seen c.in-Some.job) c.in-Some.ensures)) c.in-Ok.ensures.makes.changes

pub returns-in-Ok-clause-stays : goal.returns-in-Ok-clause-stays
returns-in-Ok-clause-stays g c = λ files told none.
    c.in-Ok.ensures.makes.stays files told (file_is (output_of files (job_seen c.in-Some.job)) ∙ sym (ap file_of (verdict_job (map string_bytes c.args.words.now) files (job_seen c.in-Some.job) c.in-Some.ensures)) ∙ none)

pub returns-in-Ok-clause-works : goal.returns-in-Ok-clause-works
returns-in-Ok-clause-works g c = λ files told done.
    subst (λ (counts : List Counts). Works counts c.args.meters.now c.perform.new.meters)
    (counts_are (output_of files (job_seen c.in-Some.job)) ∙ sym (ap counts_of_verdict (verdict_job (map string_bytes c.args.words.now) files (job_seen c.in-Some.job) c.in-Some.ensures))) (c.in-Ok.ensures.works files told)

pub returns-in-Err-Stopped-clause-wrote : goal.returns-in-Err-Stopped-clause-wrote
returns-in-Err-Stopped-clause-wrote g c = λ files told.
    let makes = rw c.in-Err-Stopped.field-0-is at c.in-Err-Stopped.ensures.makes in
    let wanted = output_of files (job_seen c.in-Some.job) in
    rw (verdict_job (map string_bytes c.args.words.now) files (job_seen c.in-Some.job) c.in-Some.ensures)
    (wrote_stop c.tell-in-Err-Stopped.result c.line.result c.status.result _ _ (g.K.Sink.state c.args.out.now) (g.K.Sink.state c.perform.new.out) (g.K.Sink.state c.tell-in-Err-Stopped.new.out) (verdict_of wanted)
    (rw (c.line.ensures, c.status.ensures) (stop_line_of c.in-Err-Stopped.stop wanted (g.H.Shelf.state c.args.shelf.now) (g.H.Shelf.state c.perform.new.shelf) (g.K.Sink.state c.args.out.now) (g.K.Sink.state c.perform.new.out) (makes.ends files told) makes.cause))
    (text_is wanted _ _ (makes.written files told)) makes.puts.faults c.tell-in-Err-Stopped.ensures.tells)

pub returns-in-Err-Stopped-clause-done : goal.returns-in-Err-Stopped-clause-done
returns-in-Err-Stopped-clause-done g c = λ files told done.
    absurd (told_not_done c.tell-in-Err-Stopped.result c.status.result c.tell-in-Err-Stopped.ensures.goes (λ e. stop_not_done c.in-Err-Stopped.stop (sym c.status.ensures ∙ e)) done)

pub returns-in-Err-Stopped-clause-works : goal.returns-in-Err-Stopped-clause-works
returns-in-Err-Stopped-clause-works g c = λ files told done.
    absurd (told_not_done c.tell-in-Err-Stopped.result c.status.result c.tell-in-Err-Stopped.ensures.goes (λ e. stop_not_done c.in-Err-Stopped.stop (sym c.status.ensures ∙ e)) done)

pub returns-in-Err-Stopped-clause-whole : goal.returns-in-Err-Stopped-clause-whole
returns-in-Err-Stopped-clause-whole g c = λ files told. whole_of c.tell-in-Err-Stopped.result _ _ _ _ _ (returns-in-Err-Stopped-clause-done g c files told) (returns-in-Err-Stopped-clause-wrote g c files told)

pub returns-in-Err-Stopped-clause-comes : goal.returns-in-Err-Stopped-clause-comes
returns-in-Err-Stopped-clause-comes g c = λ files told.
    let makes = rw c.in-Err-Stopped.field-0-is at c.in-Err-Stopped.ensures.makes in
    let wanted = output_of files (job_seen c.in-Some.job) in
    rw (verdict_job (map string_bytes c.args.words.now) files (job_seen c.in-Some.job) c.in-Some.ensures)
    (comes_told c.tell-in-Err-Stopped.result c.status.result (verdict_of wanted) c.tell-in-Err-Stopped.ensures.goes (rw c.status.ensures (comes_due c.in-Err-Stopped.stop wanted (makes.ends files told))))

pub returns-in-Err-Stopped-clause-front : goal.returns-in-Err-Stopped-clause-front
returns-in-Err-Stopped-clause-front g c = λ files told not_done.
    subst (λ (f : Option OutFile). HasFront f files (g.H.Shelf.state c.perform.new.shelf))
    (file_is (output_of files (job_seen c.in-Some.job)) ∙ sym (ap file_of (verdict_job (map string_bytes c.args.words.now) files (job_seen c.in-Some.job) c.in-Some.ensures))) (c.in-Err-Stopped.ensures.makes.leaves files told)

pub returns-in-Err-Stopped-clause-changes : goal.returns-in-Err-Stopped-clause-changes
returns-in-Err-Stopped-clause-changes g c =
    subst (λ (o : Option Name). ChangesAtMost o (g.H.Shelf.state c.args.shelf.now) (g.H.Shelf.state c.perform.new.shelf)) (sym (out_job (map string_bytes c.args.words.now) (job_seen c.in-Some.job) c.in-Some.ensures)) c.in-Err-Stopped.ensures.makes.changes

pub returns-in-Err-Stopped-clause-stays : goal.returns-in-Err-Stopped-clause-stays
returns-in-Err-Stopped-clause-stays g c = λ files told none.
    c.in-Err-Stopped.ensures.makes.stays files told (file_is (output_of files (job_seen c.in-Some.job)) ∙ sym (ap file_of (verdict_job (map string_bytes c.args.words.now) files (job_seen c.in-Some.job) c.in-Some.ensures)) ∙ none)

pub returns-in-Err-Unsaved-clause-wrote : goal.returns-in-Err-Unsaved-clause-wrote
returns-in-Err-Unsaved-clause-wrote g c = λ files told.
    let makes = rw c.in-Err-Unsaved.field-0-is at c.in-Err-Unsaved.ensures.makes in
    let wanted = output_of files (job_seen c.in-Some.job) in
    rw (verdict_job (map string_bytes c.args.words.now) files (job_seen c.in-Some.job) c.in-Some.ensures)
    (wrote_stop c.tell-in-Err-Unsaved.result c.stop_write.result status.WriteFault _ _ (g.K.Sink.state c.args.out.now) (g.K.Sink.state c.perform.new.out) (g.K.Sink.state c.tell-in-Err-Unsaved.new.out) (verdict_of wanted)
    (rw c.stop_write.ensures (unsaved_line_of c.in-Err-Unsaved.role wanted (g.H.Shelf.state c.args.shelf.now) (g.H.Shelf.state c.perform.new.shelf) (makes.saves files told) makes.cause))
    (text_is wanted _ _ (makes.written files told)) makes.puts.faults c.tell-in-Err-Unsaved.ensures.tells)

pub returns-in-Err-Unsaved-clause-done : goal.returns-in-Err-Unsaved-clause-done
returns-in-Err-Unsaved-clause-done g c = λ files told done. absurd (told_not_done c.tell-in-Err-Unsaved.result status.WriteFault c.tell-in-Err-Unsaved.ensures.goes (λ e. cc) done)

pub returns-in-Err-Unsaved-clause-works : goal.returns-in-Err-Unsaved-clause-works
returns-in-Err-Unsaved-clause-works g c = λ files told done. absurd (told_not_done c.tell-in-Err-Unsaved.result status.WriteFault c.tell-in-Err-Unsaved.ensures.goes (λ e. cc) done)

pub returns-in-Err-Unsaved-clause-whole : goal.returns-in-Err-Unsaved-clause-whole
returns-in-Err-Unsaved-clause-whole g c = λ files told. whole_of c.tell-in-Err-Unsaved.result _ _ _ _ _ (returns-in-Err-Unsaved-clause-done g c files told) (returns-in-Err-Unsaved-clause-wrote g c files told)

pub returns-in-Err-Unsaved-clause-comes : goal.returns-in-Err-Unsaved-clause-comes
returns-in-Err-Unsaved-clause-comes g c = λ files told.
    let makes = rw c.in-Err-Unsaved.field-0-is at c.in-Err-Unsaved.ensures.makes in
    let wanted = output_of files (job_seen c.in-Some.job) in
    rw (verdict_job (map string_bytes c.args.words.now) files (job_seen c.in-Some.job) c.in-Some.ensures)
    (comes_told c.tell-in-Err-Unsaved.result status.WriteFault (verdict_of wanted) c.tell-in-Err-Unsaved.ensures.goes (comes_done wanted (makes.ends files told)))

pub returns-in-Err-Unsaved-clause-front : goal.returns-in-Err-Unsaved-clause-front
returns-in-Err-Unsaved-clause-front g c = λ files told not_done.
    subst (λ (f : Option OutFile). HasFront f files (g.H.Shelf.state c.perform.new.shelf))
    (file_is (output_of files (job_seen c.in-Some.job)) ∙ sym (ap file_of (verdict_job (map string_bytes c.args.words.now) files (job_seen c.in-Some.job) c.in-Some.ensures))) (c.in-Err-Unsaved.ensures.makes.leaves files told)

pub returns-in-Err-Unsaved-clause-changes : goal.returns-in-Err-Unsaved-clause-changes
returns-in-Err-Unsaved-clause-changes g c =
    subst (λ (o : Option Name). ChangesAtMost o (g.H.Shelf.state c.args.shelf.now) (g.H.Shelf.state c.perform.new.shelf)) (sym (out_job (map string_bytes c.args.words.now) (job_seen c.in-Some.job) c.in-Some.ensures)) c.in-Err-Unsaved.ensures.makes.changes

pub returns-in-Err-Unsaved-clause-stays : goal.returns-in-Err-Unsaved-clause-stays
returns-in-Err-Unsaved-clause-stays g c = λ files told none.
    c.in-Err-Unsaved.ensures.makes.stays files told (file_is (output_of files (job_seen c.in-Some.job)) ∙ sym (ap file_of (verdict_job (map string_bytes c.args.words.now) files (job_seen c.in-Some.job) c.in-Some.ensures)) ∙ none)

pub returns-in-Err-Unwritten-Failed-clause-wrote : goal.returns-in-Err-Unwritten-Failed-clause-wrote
returns-in-Err-Unwritten-Failed-clause-wrote g c = λ files told.
    let makes = rw (c.in-Err-Unwritten-Failed.field-0-is, c.in-Err-Unwritten-Failed.field-0-0-is) at c.in-Err-Unwritten-Failed.ensures.makes in
    rw (verdict_job (map string_bytes c.args.words.now) files (job_seen c.in-Some.job) c.in-Some.ensures)
    (wrote_cut status.WriteFault _ _ _ _ (output_of files (job_seen c.in-Some.job)) (makes.written files told) (inr (refl, makes.cause)))

pub returns-in-Err-Unwritten-Failed-clause-done : goal.returns-in-Err-Unwritten-Failed-clause-done
returns-in-Err-Unwritten-Failed-clause-done g c = λ files told done. absurd (let wrong : status.WriteFault ≡ status.Done = done in cc)

pub returns-in-Err-Unwritten-Failed-clause-works : goal.returns-in-Err-Unwritten-Failed-clause-works
returns-in-Err-Unwritten-Failed-clause-works g c = λ files told done. absurd (let wrong : status.WriteFault ≡ status.Done = done in cc)

pub returns-in-Err-Unwritten-Failed-clause-whole : goal.returns-in-Err-Unwritten-Failed-clause-whole
returns-in-Err-Unwritten-Failed-clause-whole g c = λ files told. whole_of status.WriteFault _ _ _ _ _ (returns-in-Err-Unwritten-Failed-clause-done g c files told) (returns-in-Err-Unwritten-Failed-clause-wrote g c files told)

pub returns-in-Err-Unwritten-Failed-clause-front : goal.returns-in-Err-Unwritten-Failed-clause-front
returns-in-Err-Unwritten-Failed-clause-front g c = λ files told not_done.
    subst (λ (f : Option OutFile). HasFront f files (g.H.Shelf.state c.perform.new.shelf))
    (file_is (output_of files (job_seen c.in-Some.job)) ∙ sym (ap file_of (verdict_job (map string_bytes c.args.words.now) files (job_seen c.in-Some.job) c.in-Some.ensures))) (c.in-Err-Unwritten-Failed.ensures.makes.leaves files told)

pub returns-in-Err-Unwritten-Failed-clause-changes : goal.returns-in-Err-Unwritten-Failed-clause-changes
returns-in-Err-Unwritten-Failed-clause-changes g c =
    subst (λ (o : Option Name). ChangesAtMost o (g.H.Shelf.state c.args.shelf.now) (g.H.Shelf.state c.perform.new.shelf)) (sym (out_job (map string_bytes c.args.words.now) (job_seen c.in-Some.job) c.in-Some.ensures)) c.in-Err-Unwritten-Failed.ensures.makes.changes

pub returns-in-Err-Unwritten-Failed-clause-stays : goal.returns-in-Err-Unwritten-Failed-clause-stays
returns-in-Err-Unwritten-Failed-clause-stays g c = λ files told none.
    c.in-Err-Unwritten-Failed.ensures.makes.stays files told (file_is (output_of files (job_seen c.in-Some.job)) ∙ sym (ap file_of (verdict_job (map string_bytes c.args.words.now) files (job_seen c.in-Some.job) c.in-Some.ensures)) ∙ none)

pub returns-in-Err-Unwritten-Memory-clause-wrote : goal.returns-in-Err-Unwritten-Memory-clause-wrote
returns-in-Err-Unwritten-Memory-clause-wrote g c = λ files told.
    let makes = rw (c.in-Err-Unwritten-Memory.field-0-is, c.in-Err-Unwritten-Memory.field-0-0-is) at c.in-Err-Unwritten-Memory.ensures.makes in
    rw (verdict_job (map string_bytes c.args.words.now) files (job_seen c.in-Some.job) c.in-Some.ensures)
    (wrote_cut status.Memory _ _ _ _ (output_of files (job_seen c.in-Some.job)) (makes.written files told) (inl (refl, makes.cause)))

pub returns-in-Err-Unwritten-Memory-clause-done : goal.returns-in-Err-Unwritten-Memory-clause-done
returns-in-Err-Unwritten-Memory-clause-done g c = λ files told done. absurd (let wrong : status.Memory ≡ status.Done = done in cc)

pub returns-in-Err-Unwritten-Memory-clause-works : goal.returns-in-Err-Unwritten-Memory-clause-works
returns-in-Err-Unwritten-Memory-clause-works g c = λ files told done. absurd (let wrong : status.Memory ≡ status.Done = done in cc)

pub returns-in-Err-Unwritten-Memory-clause-whole : goal.returns-in-Err-Unwritten-Memory-clause-whole
returns-in-Err-Unwritten-Memory-clause-whole g c = λ files told. whole_of status.Memory _ _ _ _ _ (returns-in-Err-Unwritten-Memory-clause-done g c files told) (returns-in-Err-Unwritten-Memory-clause-wrote g c files told)

pub returns-in-Err-Unwritten-Memory-clause-front : goal.returns-in-Err-Unwritten-Memory-clause-front
returns-in-Err-Unwritten-Memory-clause-front g c = λ files told not_done.
    subst (λ (f : Option OutFile). HasFront f files (g.H.Shelf.state c.perform.new.shelf))
    (file_is (output_of files (job_seen c.in-Some.job)) ∙ sym (ap file_of (verdict_job (map string_bytes c.args.words.now) files (job_seen c.in-Some.job) c.in-Some.ensures))) (c.in-Err-Unwritten-Memory.ensures.makes.leaves files told)

pub returns-in-Err-Unwritten-Memory-clause-changes : goal.returns-in-Err-Unwritten-Memory-clause-changes
returns-in-Err-Unwritten-Memory-clause-changes g c =
    subst (λ (o : Option Name). ChangesAtMost o (g.H.Shelf.state c.args.shelf.now) (g.H.Shelf.state c.perform.new.shelf)) (sym (out_job (map string_bytes c.args.words.now) (job_seen c.in-Some.job) c.in-Some.ensures)) c.in-Err-Unwritten-Memory.ensures.makes.changes

pub returns-in-Err-Unwritten-Memory-clause-stays : goal.returns-in-Err-Unwritten-Memory-clause-stays
returns-in-Err-Unwritten-Memory-clause-stays g c = λ files told none.
    c.in-Err-Unwritten-Memory.ensures.makes.stays files told (file_is (output_of files (job_seen c.in-Some.job)) ∙ sym (ap file_of (verdict_job (map string_bytes c.args.words.now) files (job_seen c.in-Some.job) c.in-Some.ensures)) ∙ none)

pub returns-in-Err-Unwritten-Failed-clause-comes : goal.returns-in-Err-Unwritten-Failed-clause-comes
returns-in-Err-Unwritten-Failed-clause-comes g c = λ files told.
    let makes = rw (c.in-Err-Unwritten-Failed.field-0-is, c.in-Err-Unwritten-Failed.field-0-0-is) at c.in-Err-Unwritten-Failed.ensures.makes in
    rw (verdict_job (map string_bytes c.args.words.now) files (job_seen c.in-Some.job) c.in-Some.ensures) (comes_done (output_of files (job_seen c.in-Some.job)) (makes.ends files told))

pub returns-in-None-clause-residuals : goal.returns-in-None-clause-residuals
returns-in-None-clause-residuals g c = λ files told done. absurd (told_not_done c.tell.result status.Usage c.tell.ensures.goes (λ e. cc) done)

pub returns-in-Ok-clause-residuals : goal.returns-in-Ok-clause-residuals
returns-in-Ok-clause-residuals g c = λ files told done.
    subst (λ (queries : List ResidualCounts). ResidualWorks queries c.args.residual.now c.perform.new.residual) (sym (residuals_job (map string_bytes c.args.words.now) files (job_seen c.in-Some.job) c.in-Some.ensures))
    (c.in-Ok.ensures.residuals files told)

pub returns-in-Err-Stopped-clause-residuals : goal.returns-in-Err-Stopped-clause-residuals
returns-in-Err-Stopped-clause-residuals g c = λ files told done.
    absurd (told_not_done c.tell-in-Err-Stopped.result c.status.result c.tell-in-Err-Stopped.ensures.goes (λ e. stop_not_done c.in-Err-Stopped.stop (sym c.status.ensures ∙ e)) done)

pub returns-in-Err-Unsaved-clause-residuals : goal.returns-in-Err-Unsaved-clause-residuals
returns-in-Err-Unsaved-clause-residuals g c = λ files told done. absurd (told_not_done c.tell-in-Err-Unsaved.result status.WriteFault c.tell-in-Err-Unsaved.ensures.goes (λ e. cc) done)

pub returns-in-Err-Unwritten-Failed-clause-residuals : goal.returns-in-Err-Unwritten-Failed-clause-residuals
returns-in-Err-Unwritten-Failed-clause-residuals g c = λ files told done. absurd (let wrong : status.WriteFault ≡ status.Done = done in cc)

pub returns-in-Err-Unwritten-Memory-clause-residuals : goal.returns-in-Err-Unwritten-Memory-clause-residuals
returns-in-Err-Unwritten-Memory-clause-residuals g c = λ files told done. absurd (let wrong : status.Memory ≡ status.Done = done in cc)
