use Rattle.std.proofs.Common.{List, [], Some, sym, subst}
use Rattle.std.specs.Prelude.{OnOk, Result}
use Rattle.play_script.specs.Play.{Counts}
use Rattle.adc_inputs.specs.declared.job.Job.{Job}
use Rattle.adc_inputs.specs.declared.stop.InputError.{InputError}
use Rattle.adc_inputs.specs.Words.{out_of}
use Rattle.adc_inputs.specs.Jobs.{job_seen}
use Rattle.adc_program.specs.Plays.{play_lines, play_counts}
use Rattle.adc_program.specs.Samples.{lines_of_sample, counts_of_sample}
use Rattle.adc_program.specs.SessionPlays.{session_lines, session_play_counts}
use Rattle.adc_program.specs.Outputs.{Output}
use Rattle.adc_program.specs.Verdict.{output_of, residuals_of}
use Rattle.adc_program.specs.Steps.{Makes, counts_wanted}
use Rattle.adc_program.specs.Work.{Works}
use Rattle.adc_program.specs.Infos.{info_lines}
use Rattle.adc_program.proofs.Filing.{makes_as}
use Rattle.adc_program.proofs.Writing.{on_ok}
use Rattle.adc_program.proofs.Working.{works_none}
use Rattle.adc_program.proofs.BuildTexts.{info_is_printed, build_is, upgrade_is, build_counts, upgrade_counts}
use Rattle.adc_program.proofs.SearchTexts.{search_is}
use Rattle.adc_program.proofs.SessionOutcomes.{sessions_is}
use Rattle.adc_program.proofs.Making.{makes_plays, counts_of_lines, play_is, sample_is}
use Rattle.adc_program.specs.Radii.{radius_lines, radius_counts}
use Rattle.adc_program.specs.Recalls.{recall_lines}
use Rattle.adc_program.proofs.WithinRadius.{radius_is}
use Rattle.adc_program.proofs.Recalling.{recall_is}
use Rattle.adc_program.specs.Residuals.{residual_lines, ResidualWorks}
use Rattle.adc_program.proofs.ResidualQueries.{residual_work_none}
use Rattle.adc_program.proofs.ResidualRuns.{residual_is}
use Rattle.adc_program.proofs.NearestRows.{exact_is, exact_counts}
use Rattle.adc_program.proofs.AllowTexts.{allowed_is}
use Rattle.adc_program.proofs.RerankTexts.{rerank_is}
use Rattle.adc_program.proofs.performing.perform.Goals as goal

pub returns-in-Play-clause-makes : goal.returns-in-Play-clause-makes
returns-in-Play-clause-makes g c =
    let job = c.in-Play.job in
    subst (λ (j : Job). Makes (out_of (job_seen j)) c.play_files.result (λ files. output_of files (job_seen j)) (g.H.Shelf.state c.args.shelf.now) (g.H.Shelf.state c.play_files.new.shelf) (g.K.Sink.state c.args.out.now) (g.K.Sink.state c.play_files.new.out)) (sym c.in-Play.is)
    (makes_plays (λ files. play_counts files job.book.now job.base.now job.queries.now job.script.now) c.play_files.result c.play_files.ensures.plays (λ files. play_is files job.book.now job.base.now job.queries.now job.script.now))

pub returns-in-Play-clause-works : goal.returns-in-Play-clause-works
returns-in-Play-clause-works g c = λ files told.
    let job = c.in-Play.job in
    subst (λ (j : Job). OnOk c.play_files.result (Works (counts_wanted (output_of files (job_seen j))) c.args.meters.now c.play_files.new.meters)) (sym c.in-Play.is)
    (subst (λ (o : Result Output InputError). OnOk c.play_files.result (Works (counts_wanted o) c.args.meters.now c.play_files.new.meters)) (sym (play_is files job.book.now job.base.now job.queries.now job.script.now))
    (counts_of_lines c.args.meters.now c.play_files.new.meters c.play_files.result (play_lines files job.book.now job.base.now job.queries.now job.script.now) (play_counts files job.book.now job.base.now job.queries.now job.script.now)
    (c.play_files.ensures.plays.ends files told) (c.play_files.ensures.works files told)))

pub returns-in-Sample-clause-makes : goal.returns-in-Sample-clause-makes
returns-in-Sample-clause-makes g c =
    let job = c.in-Sample.job in
    let state = g.H.Shelf.state c.args.shelf.now in
    subst (λ (j : Job). Makes (out_of (job_seen j)) c.print_sample.result (λ files. output_of files (job_seen j)) state state (g.K.Sink.state c.args.out.now) (g.K.Sink.state c.print_sample.new.out)) (sym c.in-Sample.is)
    (makes_plays (λ files. counts_of_sample (record { start = job.start; rows = job.rows })) c.print_sample.result (c.print_sample.ensures.plays state) (λ files. sample_is files job.start job.rows))

pub returns-in-Sample-clause-works : goal.returns-in-Sample-clause-works
returns-in-Sample-clause-works g c = λ files told.
    let job = c.in-Sample.job in
    subst (λ (j : Job). OnOk c.print_sample.result (Works (counts_wanted (output_of files (job_seen j))) c.args.meters.now c.print_sample.new.meters)) (sym c.in-Sample.is)
    (subst (λ (o : Result Output InputError). OnOk c.print_sample.result (Works (counts_wanted o) c.args.meters.now c.print_sample.new.meters)) (sym (sample_is files job.start job.rows))
    (counts_of_lines c.args.meters.now c.print_sample.new.meters c.print_sample.result (lines_of_sample (record { start = job.start; rows = job.rows })) (counts_of_sample (record { start = job.start; rows = job.rows }))
    ((c.print_sample.ensures.plays (g.H.Shelf.state c.args.shelf.now)).ends files told) c.print_sample.ensures.works))

pub returns-in-Info-clause-makes : goal.returns-in-Info-clause-makes
returns-in-Info-clause-makes g c =
    let index = c.in-Info.index in
    subst (λ (j : Job). Makes (out_of (job_seen j)) c.print_info.result (λ files. output_of files (job_seen j)) (g.H.Shelf.state c.args.shelf.now) (g.H.Shelf.state c.print_info.new.shelf) (g.K.Sink.state c.args.out.now) (g.K.Sink.state c.print_info.new.out)) (sym c.in-Info.is)
    (makes_plays (λ files. []) c.print_info.result c.print_info.ensures.plays (λ files. info_is_printed files index.now))

pub returns-in-Info-clause-works : goal.returns-in-Info-clause-works
returns-in-Info-clause-works g c = λ files told.
    let index = c.in-Info.index in
    let meters = c.args.meters.now in
    subst (λ (j : Job). OnOk c.print_info.result (Works (counts_wanted (output_of files (job_seen j))) meters meters)) (sym c.in-Info.is)
    (subst (λ (o : Result Output InputError). OnOk c.print_info.result (Works (counts_wanted o) meters meters)) (sym (info_is_printed files index.now))
    (counts_of_lines meters meters c.print_info.result (info_lines files index.now) [] (c.print_info.ensures.plays.ends files told) (on_ok c.print_info.result (works_none meters))))

pub returns-in-Build-clause-makes : goal.returns-in-Build-clause-makes
returns-in-Build-clause-makes g c =
    let job = c.in-Build.job in
    subst (λ (j : Job). Makes (out_of (job_seen j)) c.build.result (λ files. output_of files (job_seen j)) (g.H.Shelf.state c.args.shelf.now) (g.H.Shelf.state c.build.new.shelf) (g.K.Sink.state c.args.out.now) (g.K.Sink.state c.build.new.out)) (sym c.in-Build.is)
    (makes_as (Some job.index.now) c.build.result c.build.ensures.makes (λ files told. build_is files job.book.now job.base.now job.index.now))

pub returns-in-Build-clause-works : goal.returns-in-Build-clause-works
returns-in-Build-clause-works g c = λ files told.
    let job = c.in-Build.job in
    let meters = c.args.meters.now in
    subst (λ (j : Job). OnOk c.build.result (Works (counts_wanted (output_of files (job_seen j))) meters meters)) (sym c.in-Build.is)
    (subst (λ (q : List Counts). OnOk c.build.result (Works q meters meters)) (sym (build_counts files job.book.now job.base.now job.index.now)) (on_ok c.build.result (works_none meters)))

pub returns-in-Upgrade-clause-makes : goal.returns-in-Upgrade-clause-makes
returns-in-Upgrade-clause-makes g c =
    let job = c.in-Upgrade.job in
    subst (λ (j : Job). Makes (out_of (job_seen j)) c.upgrade.result (λ files. output_of files (job_seen j)) (g.H.Shelf.state c.args.shelf.now) (g.H.Shelf.state c.upgrade.new.shelf) (g.K.Sink.state c.args.out.now) (g.K.Sink.state c.upgrade.new.out)) (sym c.in-Upgrade.is)
    (makes_as (Some job.new.now) c.upgrade.result c.upgrade.ensures.makes (λ files told. upgrade_is files job.old.now job.new.now))

pub returns-in-Upgrade-clause-works : goal.returns-in-Upgrade-clause-works
returns-in-Upgrade-clause-works g c = λ files told.
    let job = c.in-Upgrade.job in
    let meters = c.args.meters.now in
    subst (λ (j : Job). OnOk c.upgrade.result (Works (counts_wanted (output_of files (job_seen j))) meters meters)) (sym c.in-Upgrade.is)
    (subst (λ (q : List Counts). OnOk c.upgrade.result (Works q meters meters)) (sym (upgrade_counts files job.old.now job.new.now)) (on_ok c.upgrade.result (works_none meters)))

pub returns-in-Search-clause-makes : goal.returns-in-Search-clause-makes
returns-in-Search-clause-makes g c =
    let job = c.in-Search.job in
    subst (λ (j : Job). Makes (out_of (job_seen j)) c.search.result (λ files. output_of files (job_seen j)) (g.H.Shelf.state c.args.shelf.now) (g.H.Shelf.state c.search.new.shelf) (g.K.Sink.state c.args.out.now) (g.K.Sink.state c.search.new.out)) (sym c.in-Search.is)
    (makes_as (Some job.out.now) c.search.result c.search.ensures.makes (λ files told. search_is files job.index.now job.queries.now job.k job.wanted job.out.now))

pub returns-in-Search-clause-works : goal.returns-in-Search-clause-works
returns-in-Search-clause-works g c = λ files told.
    let job = c.in-Search.job in
    subst (λ (j : Job). OnOk c.search.result (Works (counts_wanted (output_of files (job_seen j))) c.args.meters.now c.search.new.meters)) (sym c.in-Search.is)
    (subst (λ (o : Result Output InputError). OnOk c.search.result (Works (counts_wanted o) c.args.meters.now c.search.new.meters)) (sym (search_is files job.index.now job.queries.now job.k job.wanted job.out.now)) (c.search.ensures.works files told))

pub returns-in-Radius-clause-makes : goal.returns-in-Radius-clause-makes
returns-in-Radius-clause-makes g c =
    let job = c.in-Radius.job in
    subst (λ (j : Job). Makes (out_of (job_seen j)) c.print_radius.result (λ files. output_of files (job_seen j)) (g.H.Shelf.state c.args.shelf.now) (g.H.Shelf.state c.print_radius.new.shelf) (g.K.Sink.state c.args.out.now) (g.K.Sink.state c.print_radius.new.out)) (sym c.in-Radius.is)
    (makes_plays (λ files. radius_counts files job.index.now job.queries.now job.radius job.wanted) c.print_radius.result c.print_radius.ensures.plays (λ files. radius_is files job.index.now job.queries.now job.radius job.wanted))

pub returns-in-Radius-clause-works : goal.returns-in-Radius-clause-works
returns-in-Radius-clause-works g c = λ files told.
    let job = c.in-Radius.job in
    subst (λ (j : Job). OnOk c.print_radius.result (Works (counts_wanted (output_of files (job_seen j))) c.args.meters.now c.print_radius.new.meters)) (sym c.in-Radius.is)
    (subst (λ (o : Result Output InputError). OnOk c.print_radius.result (Works (counts_wanted o) c.args.meters.now c.print_radius.new.meters)) (sym (radius_is files job.index.now job.queries.now job.radius job.wanted))
    (counts_of_lines c.args.meters.now c.print_radius.new.meters c.print_radius.result (radius_lines files job.index.now job.queries.now job.radius job.wanted) (radius_counts files job.index.now job.queries.now job.radius job.wanted)
    (c.print_radius.ensures.plays.ends files told) (c.print_radius.ensures.works files told)))

pub returns-in-Recall-clause-makes : goal.returns-in-Recall-clause-makes
returns-in-Recall-clause-makes g c =
    let job = c.in-Recall.job in
    subst (λ (j : Job). Makes (out_of (job_seen j)) c.print_recall.result (λ files. output_of files (job_seen j)) (g.H.Shelf.state c.args.shelf.now) (g.H.Shelf.state c.print_recall.new.shelf) (g.K.Sink.state c.args.out.now) (g.K.Sink.state c.print_recall.new.out)) (sym c.in-Recall.is)
    (makes_plays (λ files. []) c.print_recall.result c.print_recall.ensures.plays (λ files. recall_is files job.found.now job.truth.now job.k))

pub returns-in-Recall-clause-works : goal.returns-in-Recall-clause-works
returns-in-Recall-clause-works g c = λ files told.
    let job = c.in-Recall.job in
    let meters = c.args.meters.now in
    subst (λ (j : Job). OnOk c.print_recall.result (Works (counts_wanted (output_of files (job_seen j))) meters meters)) (sym c.in-Recall.is)
    (subst (λ (o : Result Output InputError). OnOk c.print_recall.result (Works (counts_wanted o) meters meters)) (sym (recall_is files job.found.now job.truth.now job.k))
    (counts_of_lines meters meters c.print_recall.result (recall_lines files job.found.now job.truth.now job.k) [] (c.print_recall.ensures.plays.ends files told) (on_ok c.print_recall.result (works_none meters))))

pub returns-in-Residual-clause-makes : goal.returns-in-Residual-clause-makes
returns-in-Residual-clause-makes g c =
    let job = c.in-Residual.job in
    subst (λ (j : Job). Makes (out_of (job_seen j)) c.play_residual.result (λ files. output_of files (job_seen j)) (g.H.Shelf.state c.args.shelf.now) (g.H.Shelf.state c.play_residual.new.shelf) (g.K.Sink.state c.args.out.now) (g.K.Sink.state c.play_residual.new.out))
    (sym c.in-Residual.is)
    (makes_plays (λ files. []) c.play_residual.result c.play_residual.ensures.plays (λ files. residual_is files job.play.book.now job.play.base.now job.play.queries.now job.play.script.now job.cache))

pub returns-in-Residual-clause-works : goal.returns-in-Residual-clause-works
returns-in-Residual-clause-works g c = λ files told.
    let job = c.in-Residual.job in
    let meters = c.args.meters.now in
    subst (λ (j : Job). OnOk c.play_residual.result (Works (counts_wanted (output_of files (job_seen j))) meters meters)) (sym c.in-Residual.is)
    (subst (λ (o : Result Output InputError). OnOk c.play_residual.result (Works (counts_wanted o) meters meters)) (sym (residual_is files job.play.book.now job.play.base.now job.play.queries.now job.play.script.now job.cache))
    (counts_of_lines meters meters c.play_residual.result (residual_lines files job.play.book.now job.play.base.now job.play.queries.now job.play.script.now) [] (c.play_residual.ensures.plays.ends files told) (on_ok c.play_residual.result (works_none meters))))

pub returns-in-Residual-clause-residuals : goal.returns-in-Residual-clause-residuals
returns-in-Residual-clause-residuals g c = λ files told.
    subst (λ (j : Job). OnOk c.play_residual.result (ResidualWorks (residuals_of files (job_seen j)) c.args.residual.now c.play_residual.new.meters)) (sym c.in-Residual.is) (c.play_residual.ensures.works files told)

pub returns-in-Play-clause-residuals : goal.returns-in-Play-clause-residuals
returns-in-Play-clause-residuals g c = λ files told.
    let meters = c.args.residual.now in
    subst (λ (j : Job). OnOk c.play_files.result (ResidualWorks (residuals_of files (job_seen j)) meters meters)) (sym c.in-Play.is) (on_ok c.play_files.result (residual_work_none meters))

pub returns-in-Sample-clause-residuals : goal.returns-in-Sample-clause-residuals
returns-in-Sample-clause-residuals g c = λ files told.
    let meters = c.args.residual.now in
    subst (λ (j : Job). OnOk c.print_sample.result (ResidualWorks (residuals_of files (job_seen j)) meters meters)) (sym c.in-Sample.is) (on_ok c.print_sample.result (residual_work_none meters))

pub returns-in-Info-clause-residuals : goal.returns-in-Info-clause-residuals
returns-in-Info-clause-residuals g c = λ files told.
    let meters = c.args.residual.now in
    subst (λ (j : Job). OnOk c.print_info.result (ResidualWorks (residuals_of files (job_seen j)) meters meters)) (sym c.in-Info.is) (on_ok c.print_info.result (residual_work_none meters))

pub returns-in-Build-clause-residuals : goal.returns-in-Build-clause-residuals
returns-in-Build-clause-residuals g c = λ files told.
    let meters = c.args.residual.now in
    subst (λ (j : Job). OnOk c.build.result (ResidualWorks (residuals_of files (job_seen j)) meters meters)) (sym c.in-Build.is) (on_ok c.build.result (residual_work_none meters))

pub returns-in-Upgrade-clause-residuals : goal.returns-in-Upgrade-clause-residuals
returns-in-Upgrade-clause-residuals g c = λ files told.
    let meters = c.args.residual.now in
    subst (λ (j : Job). OnOk c.upgrade.result (ResidualWorks (residuals_of files (job_seen j)) meters meters)) (sym c.in-Upgrade.is) (on_ok c.upgrade.result (residual_work_none meters))

pub returns-in-Search-clause-residuals : goal.returns-in-Search-clause-residuals
returns-in-Search-clause-residuals g c = λ files told.
    let meters = c.args.residual.now in
    subst (λ (j : Job). OnOk c.search.result (ResidualWorks (residuals_of files (job_seen j)) meters meters)) (sym c.in-Search.is) (on_ok c.search.result (residual_work_none meters))

pub returns-in-Radius-clause-residuals : goal.returns-in-Radius-clause-residuals
returns-in-Radius-clause-residuals g c = λ files told.
    let meters = c.args.residual.now in
    subst (λ (j : Job). OnOk c.print_radius.result (ResidualWorks (residuals_of files (job_seen j)) meters meters)) (sym c.in-Radius.is) (on_ok c.print_radius.result (residual_work_none meters))

pub returns-in-Recall-clause-residuals : goal.returns-in-Recall-clause-residuals
returns-in-Recall-clause-residuals g c = λ files told.
    let meters = c.args.residual.now in
    subst (λ (j : Job). OnOk c.print_recall.result (ResidualWorks (residuals_of files (job_seen j)) meters meters)) (sym c.in-Recall.is) (on_ok c.print_recall.result (residual_work_none meters))

pub returns-in-Exact-clause-makes : goal.returns-in-Exact-clause-makes
returns-in-Exact-clause-makes g c =
    let job = c.in-Exact.job in
    subst (λ (j : Job). Makes (out_of (job_seen j)) c.write_exact.result (λ files. output_of files (job_seen j)) (g.H.Shelf.state c.args.shelf.now) (g.H.Shelf.state c.write_exact.new.shelf) (g.K.Sink.state c.args.out.now) (g.K.Sink.state c.write_exact.new.out)) (sym c.in-Exact.is)
    (makes_as (Some job.out.now) c.write_exact.result c.write_exact.ensures.makes (λ files told. exact_is files job.base.now job.queries.now job.k job.out.now))

pub returns-in-Exact-clause-works : goal.returns-in-Exact-clause-works
returns-in-Exact-clause-works g c = λ files told.
    let job = c.in-Exact.job in
    let meters = c.args.meters.now in
    subst (λ (j : Job). OnOk c.write_exact.result (Works (counts_wanted (output_of files (job_seen j))) meters meters)) (sym c.in-Exact.is)
    (subst (λ (q : List Counts). OnOk c.write_exact.result (Works q meters meters)) (sym (exact_counts files job.base.now job.queries.now job.k job.out.now)) (on_ok c.write_exact.result (works_none meters)))

pub returns-in-Exact-clause-residuals : goal.returns-in-Exact-clause-residuals
returns-in-Exact-clause-residuals g c = λ files told.
    let meters = c.args.residual.now in
    subst (λ (j : Job). OnOk c.write_exact.result (ResidualWorks (residuals_of files (job_seen j)) meters meters)) (sym c.in-Exact.is) (on_ok c.write_exact.result (residual_work_none meters))

pub returns-in-Rerank-clause-makes : goal.returns-in-Rerank-clause-makes
returns-in-Rerank-clause-makes g c =
    let job = c.in-Rerank.job in
    subst (λ (j : Job). Makes (out_of (job_seen j)) c.write_reranked.result (λ files. output_of files (job_seen j)) (g.H.Shelf.state c.args.shelf.now) (g.H.Shelf.state c.write_reranked.new.shelf) (g.K.Sink.state c.args.out.now) (g.K.Sink.state c.write_reranked.new.out)) (sym c.in-Rerank.is)
    (makes_as (Some job.out.now) c.write_reranked.result c.write_reranked.ensures.makes (λ files told. rerank_is files job.index.now job.base.now job.queries.now job.found job.k job.wanted job.out.now))

pub returns-in-Rerank-clause-works : goal.returns-in-Rerank-clause-works
returns-in-Rerank-clause-works g c = λ files told.
    let job = c.in-Rerank.job in
    subst (λ (j : Job). OnOk c.write_reranked.result (Works (counts_wanted (output_of files (job_seen j))) c.args.meters.now c.write_reranked.new.meters)) (sym c.in-Rerank.is)
    (subst (λ (o : Result Output InputError). OnOk c.write_reranked.result (Works (counts_wanted o) c.args.meters.now c.write_reranked.new.meters)) (sym (rerank_is files job.index.now job.base.now job.queries.now job.found job.k job.wanted job.out.now)) (c.write_reranked.ensures.works files told))

pub returns-in-Rerank-clause-residuals : goal.returns-in-Rerank-clause-residuals
returns-in-Rerank-clause-residuals g c = λ files told.
    let meters = c.args.residual.now in
    subst (λ (j : Job). OnOk c.write_reranked.result (ResidualWorks (residuals_of files (job_seen j)) meters meters)) (sym c.in-Rerank.is) (on_ok c.write_reranked.result (residual_work_none meters))

pub returns-in-Allowed-clause-makes : goal.returns-in-Allowed-clause-makes
returns-in-Allowed-clause-makes g c =
    let job = c.in-Allowed.job in
    subst (λ (j : Job). Makes (out_of (job_seen j)) c.search_allowed.result (λ files. output_of files (job_seen j)) (g.H.Shelf.state c.args.shelf.now) (g.H.Shelf.state c.search_allowed.new.shelf) (g.K.Sink.state c.args.out.now) (g.K.Sink.state c.search_allowed.new.out)) (sym c.in-Allowed.is)
    (makes_as (Some job.out.now) c.search_allowed.result c.search_allowed.ensures.makes (λ files told. allowed_is files job.index.now job.queries.now job.k job.wanted job.allow.now job.out.now))

pub returns-in-Allowed-clause-works : goal.returns-in-Allowed-clause-works
returns-in-Allowed-clause-works g c = λ files told.
    let job = c.in-Allowed.job in
    subst (λ (j : Job). OnOk c.search_allowed.result (Works (counts_wanted (output_of files (job_seen j))) c.args.meters.now c.search_allowed.new.meters)) (sym c.in-Allowed.is)
    (subst (λ (o : Result Output InputError). OnOk c.search_allowed.result (Works (counts_wanted o) c.args.meters.now c.search_allowed.new.meters)) (sym (allowed_is files job.index.now job.queries.now job.k job.wanted job.allow.now job.out.now)) (c.search_allowed.ensures.works files told))

pub returns-in-Allowed-clause-residuals : goal.returns-in-Allowed-clause-residuals
returns-in-Allowed-clause-residuals g c = λ files told.
    let meters = c.args.residual.now in
    subst (λ (j : Job). OnOk c.search_allowed.result (ResidualWorks (residuals_of files (job_seen j)) meters meters)) (sym c.in-Allowed.is) (on_ok c.search_allowed.result (residual_work_none meters))

pub returns-in-Sessions-clause-makes : goal.returns-in-Sessions-clause-makes
returns-in-Sessions-clause-makes g c =
    let job = c.in-Sessions.job in
    subst (λ (j : Job). Makes (out_of (job_seen j)) c.play_session_files.result (λ files. output_of files (job_seen j)) (g.H.Shelf.state c.args.shelf.now) (g.H.Shelf.state c.play_session_files.new.shelf) (g.K.Sink.state c.args.out.now) (g.K.Sink.state c.play_session_files.new.out)) (sym c.in-Sessions.is)
    (makes_plays (λ files. session_play_counts files job.book.now job.base.now job.queries.now job.script.now) c.play_session_files.result c.play_session_files.ensures.plays (λ files. sessions_is files job.book.now job.base.now job.queries.now job.script.now))

pub returns-in-Sessions-clause-works : goal.returns-in-Sessions-clause-works
returns-in-Sessions-clause-works g c = λ files told.
    let job = c.in-Sessions.job in
    subst (λ (j : Job). OnOk c.play_session_files.result (Works (counts_wanted (output_of files (job_seen j))) c.args.meters.now c.play_session_files.new.meters)) (sym c.in-Sessions.is)
    (subst (λ (o : Result Output InputError). OnOk c.play_session_files.result (Works (counts_wanted o) c.args.meters.now c.play_session_files.new.meters)) (sym (sessions_is files job.book.now job.base.now job.queries.now job.script.now))
    (counts_of_lines c.args.meters.now c.play_session_files.new.meters c.play_session_files.result (session_lines files job.book.now job.base.now job.queries.now job.script.now) (session_play_counts files job.book.now job.base.now job.queries.now job.script.now)
    (c.play_session_files.ensures.plays.ends files told) (c.play_session_files.ensures.works files told)))

pub returns-in-Sessions-clause-residuals : goal.returns-in-Sessions-clause-residuals
returns-in-Sessions-clause-residuals g c = λ files told.
    let meters = c.args.residual.now in
    subst (λ (j : Job). OnOk c.play_session_files.result (ResidualWorks (residuals_of files (job_seen j)) meters meters)) (sym c.in-Sessions.is) (on_ok c.play_session_files.result (residual_work_none meters))
