use Rattle.std.proofs.Common.{◌∙◌, List, [], ◌∷◌, length, Ok, Err, ap, ap₂, refl, subst}
use Rattle.adc_ports.proofs.StateLemmas.{reads_none}
use Rattle.book_model.specs.Rows.{Row as Stored}
use Rattle.play_script.specs.Texts.{end_line}
use Rattle.play_script.specs.Play.{Asking, replies}
use Rattle.adc_program.specs.Played.{rows_of, HaveAsked}
use Rattle.adc_program.specs.Stages.{stage_of}
use Rattle.adc_program.proofs.Scripts.{text_ends, asked_end}
use Rattle.adc_program.proofs.Playing.{plays_puts, plays_as, plays_after, plays_cut}
use Rattle.adc_program.proofs.Writing.{on_ok}
use Rattle.adc_program.proofs.Faults.{well_none}
use Rattle.adc_program.proofs.player.Player.play.Goals as goal

pub returns-in-Ok-clause-plays : goal.returns-in-Ok-clause-plays
returns-in-Ok-clause-plays g c =
    let stand = g.E.Played.stand c.args.self.now.engine in
    plays_as c.write_line.result (well_none _)
    (plays_after {more = λ files. c.end_line.result ∷ []} c.write_line.result c.in-Ok.ensures.plays (plays_puts c.write_line.result (well_none _) c.write_line.ensures.puts (λ files told. refl)))
    (λ files told. ap Ok (text_ends g.E.Played.means (stage_of files c.args.self.now.inputs stand.book) c.args.script.now (rows_of stand) c.end_line.result c.requires.empty
    (c.end_line.ensures ∙ ap₂ end_line c.len.ensures (c.live.ensures.live ∙ ap (λ (r : List Stored). length r) (c.in-Ok.ensures.rows files told)))))

pub returns-in-Err-clause-plays : goal.returns-in-Err-clause-plays
returns-in-Err-clause-plays g c =
    let stand = g.E.Played.stand c.args.self.now.engine in
    plays_as (Err c.in-Err.halted) (well_none _)
    (plays_cut c.in-Err.halted (λ files.
    let stage = stage_of files c.args.self.now.inputs stand.book in
    end_line (length c.args.script.now) (length (replies g.E.Played.means stage (rows_of stand) c.args.script.now).rows) ∷ []) c.in-Err.ensures.plays)
    (λ files told. ap Ok (text_ends g.E.Played.means (stage_of files c.args.self.now.inputs stand.book) c.args.script.now (rows_of stand) _ c.requires.empty refl))

pub returns-in-Ok-clause-works : goal.returns-in-Ok-clause-works
returns-in-Ok-clause-works g c = λ files told.
    let self = c.args.self.now in
    let stand = g.E.Played.stand self.engine in
    let stage = stage_of files self.inputs stand.book in
    on_ok c.write_line.result (subst (λ (q : List Asking). HaveAsked g.E.Played.means g.E.Played.computes stand q (g.E.Played.metered c.args.meters.now) (g.E.Played.metered c.answer_all.new.meters))
    (asked_end g.E.Played.means stage c.args.script.now (rows_of stand) c.requires.empty) (c.in-Ok.ensures.works files told))
