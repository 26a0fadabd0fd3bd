use Rattle.std.proofs.Common.{◌∙◌, ◌∷◌, ◌++◌, [], map, refl, sym, ap, subst}
use Rattle.std.proofs.lemmas.List.{map-append}
use Rattle.cell_store.specs.Held.{IsStore}
use Rattle.adc_program.specs.SessionStates.{Known, known, AreOpen}
use Rattle.adc_program.proofs.OpenSessions.{open_pushed, known_opened}
use Rattle.adc_program.proofs.Writing.{on_ok_by}
use Rattle.adc_program.proofs.opened.open_session.Goals as goal

pub returns-clause-open : goal.returns-clause-open
returns-clause-open g c =
    let is = subst (IsStore g.S.Shape.widths) c.store.ensures c.stamp-stamp.ensures.is in
    on_ok_by c.keep.result
    (λ e. subst (AreOpen g.S.Shape.widths c.open.new.engine) (sym e)
    (open_pushed g.S.Shape.widths c.args.engine.now c.open.new.engine c.args.held.now.items c.requires.open _ c.in-Ok-open.ensures.pins is.pins c.in-Ok-open.ensures.question.stamp_is
    c.in-Ok-open.ensures.can))
    c.keep.ensures.held

pub returns-clause-held : goal.returns-clause-held
returns-clause-held g c =
    on_ok_by c.keep.result
    (λ e. ap (map known) e ∙ map-append known c.args.held.now.items _
    ∙ ap (λ (k : Known). map known c.args.held.now.items ++ k ∷ [])
    (known_opened {S = g.row.S.Denot} _ c.args.asked.sid _ _ _ _ _ refl c.in-Ok-open.ensures.question c.in-Ok-open.ensures.fresh.0 c.in-Ok-open.ensures.fresh.1))
    c.keep.ensures.held
