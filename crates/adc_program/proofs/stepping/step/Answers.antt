use Rattle.std.proofs.Common.{rules, ◌≡◌, ◌∙◌, List, true, refl, sym, ap, subst, arith}
use Rattle.std.specs.Prelude.{None, Some, nat_lt, ◌||◌, ◌==◌, codes}
use Rattle.std.specs.List.{position}
use Rattle.std.proofs.lemmas.List.Quantifiers.{position-Some}
use Rattle.book_model.proofs.AllLemmas.{all_at}
use Rattle.cell_store.specs.Held.{IsStore}
use Rattle.play_script.specs.declared.Cause.TheVariants as cause
use Rattle.adc_program.specs.declared.opened.HeldSession.{HeldSession}
use Rattle.adc_program.specs.SessionStates.{IsOpen}
use Rattle.adc_program.proofs.Places.{place_within}
use Rattle.adc_program.proofs.OpenSessions.{open_stepped}
use Rattle.adc_program.proofs.SessionSteps.{step_absent, refused_next, refused_line, step_out, step_line_is, step_next, number_of, in_bounds, too_low, too_high}
use Rattle.adc_program.proofs.stepping.step.Goals.{then-cells-lt1-via-then-cells-lt1, then-cells-lt1-via-else-cells-lt1+then-cells-from}
use Rattle.adc_program.proofs.stepping.step.Goals as goal

pub returns-in_default-clause-line : goal.returns-in_default-clause-line
returns-in_default-clause-line g c stage standing book stands =
    let is = subst (IsStore g.S.Shape.widths) c.store.ensures c.stamp-stamp.ensures.is in
    let none : position (λ (h : HeldSession g.row.S.Denot). h.sid == c.args.sid) c.args.held.now.items ≡ None = ap (position (λ (h : HeldSession g.row.S.Denot). h.sid == c.args.sid)) (sym c.deref.ensures.value) ∙ sym c.place_of.ensures ∙ c.in_default.is in
    refused_line g.S.Shape.widths stage standing c.args.engine.now c.args.held.now.items book is stands c.args.sid _ cause.Absent (codes "step") c.args.sid
    (step_absent g.S.Shape.widths stage standing c.args.engine.now c.args.held.now.items book is stands c.args.sid c.args.cells none) c.step_refused.result c.step_refused.ensures

pub returns-in_default-clause-next : goal.returns-in_default-clause-next
returns-in_default-clause-next g c stage standing book stands =
    let is = subst (IsStore g.S.Shape.widths) c.store.ensures c.stamp-stamp.ensures.is in
    let none : position (λ (h : HeldSession g.row.S.Denot). h.sid == c.args.sid) c.args.held.now.items ≡ None = ap (position (λ (h : HeldSession g.row.S.Denot). h.sid == c.args.sid)) (sym c.deref.ensures.value) ∙ sym c.place_of.ensures ∙ c.in_default.is in
    refused_next g.S.Shape.widths stage standing c.args.engine.now c.args.held.now.items book is stands c.args.sid _ cause.Absent (codes "step") c.args.sid
    (step_absent g.S.Shape.widths stage standing c.args.engine.now c.args.held.now.items book is stands c.args.sid c.args.cells none) c.args.meters.now

pub returns-then-cells-lt1-clause-line : goal.returns-then-cells-lt1-clause-line
returns-then-cells-lt1-clause-line g c stage standing book stands =
    let found : position (λ (h : HeldSession g.row.S.Denot). h.sid == c.args.sid) c.args.held.now.items ≡ Some c.in-Some.place = ap (position (λ (h : HeldSession g.row.S.Denot). h.sid == c.args.sid)) (sym c.deref.ensures.value) ∙ sym c.place_of.ensures ∙ c.in-Some.is in
    let out : (nat_lt c.args.cells 1 || nat_lt 1048576 c.args.cells) ≡ true = elim c.then-cells-lt1.branch [
      | then-cells-lt1-via-then-cells-lt1 w ↦ too_low c.args.cells (omega arith)
      | then-cells-lt1-via-else-cells-lt1+then-cells-from w ↦ too_high c.args.cells (omega arith) (omega arith)
    ] in
    let is = subst (IsStore g.S.Shape.widths) c.store.ensures c.stamp-stamp.ensures.is in
    let refuses = step_out g.S.Shape.widths stage standing c.args.engine.now c.args.held.now.items book is stands c.args.sid c.in-Some.place found c.args.cells out in
    refused_line g.S.Shape.widths stage standing c.args.engine.now c.args.held.now.items book is stands c.args.sid _ cause.Cells (codes "step") c.args.sid refuses c.step_refused-then-cells-lt1.result c.step_refused-then-cells-lt1.ensures

pub returns-then-cells-lt1-clause-next : goal.returns-then-cells-lt1-clause-next
returns-then-cells-lt1-clause-next g c stage standing book stands =
    let found : position (λ (h : HeldSession g.row.S.Denot). h.sid == c.args.sid) c.args.held.now.items ≡ Some c.in-Some.place = ap (position (λ (h : HeldSession g.row.S.Denot). h.sid == c.args.sid)) (sym c.deref.ensures.value) ∙ sym c.place_of.ensures ∙ c.in-Some.is in
    let out : (nat_lt c.args.cells 1 || nat_lt 1048576 c.args.cells) ≡ true = elim c.then-cells-lt1.branch [
      | then-cells-lt1-via-then-cells-lt1 w ↦ too_low c.args.cells (omega arith)
      | then-cells-lt1-via-else-cells-lt1+then-cells-from w ↦ too_high c.args.cells (omega arith) (omega arith)
    ] in
    let is = subst (IsStore g.S.Shape.widths) c.store.ensures c.stamp-stamp.ensures.is in
    let refuses = step_out g.S.Shape.widths stage standing c.args.engine.now c.args.held.now.items book is stands c.args.sid c.in-Some.place found c.args.cells out in
    refused_next g.S.Shape.widths stage standing c.args.engine.now c.args.held.now.items book is stands c.args.sid _ cause.Cells (codes "step") c.args.sid refuses c.args.meters.now

pub index_mut-requires : goal.index_mut-requires
index_mut-requires g c =
    let found : position (λ (h : HeldSession g.row.S.Denot). h.sid == c.args.sid) c.args.held.now.items ≡ Some c.in-Some.place = ap (position (λ (h : HeldSession g.row.S.Denot). h.sid == c.args.sid)) (sym c.deref.ensures.value) ∙ sym c.place_of.ensures ∙ c.in-Some.is in
    let lt = place_within (λ (h : HeldSession g.row.S.Denot). h.sid == c.args.sid) c.args.held.now.items c.in-Some.place found in
    search rules

pub step_session-requires-clause-can : goal.step_session-requires-clause-can
step_session-requires-clause-can g c =
    let found : position (λ (h : HeldSession g.row.S.Denot). h.sid == c.args.sid) c.args.held.now.items ≡ Some c.in-Some.place = ap (position (λ (h : HeldSession g.row.S.Denot). h.sid == c.args.sid)) (sym c.deref.ensures.value) ∙ sym c.place_of.ensures ∙ c.in-Some.is in
    let lt = place_within (λ (h : HeldSession g.row.S.Denot). h.sid == c.args.sid) c.args.held.now.items c.in-Some.place found in
    (subst (IsOpen g.S.Shape.widths c.args.engine.now) (sym c.index_mut.ensures.value) (all_at (IsOpen g.S.Shape.widths c.args.engine.now) c.args.held.now.items c.in-Some.place c.index_mut.result.now c.requires.open.each lt))

pub returns-clause-open : goal.returns-clause-open
returns-clause-open g c =
    let e = c.step_session.ensures in
    open_stepped g.S.Shape.widths c.args.engine.now c.args.held.now.items c.in-Some.place c.index_mut.result.now _ c.requires.open c.index_mut.ensures.value e.same.stamp e.can

pub returns-clause-line : goal.returns-clause-line
returns-clause-line g c stage standing book stands =
    let is = subst (IsStore g.S.Shape.widths) c.store.ensures c.stamp-stamp.ensures.is in
    let e = c.step_session.ensures in
    let items : List (HeldSession g.row.S.Denot) = c.args.held.now.items in
    let found : position (λ (h : HeldSession g.row.S.Denot). h.sid == c.args.sid) c.args.held.now.items ≡ Some c.in-Some.place = ap (position (λ (h : HeldSession g.row.S.Denot). h.sid == c.args.sid)) (sym c.deref.ensures.value) ∙ sym c.place_of.ensures ∙ c.in-Some.is in
    let lt = place_within (λ (h : HeldSession g.row.S.Denot). h.sid == c.args.sid) items c.in-Some.place found in
    let at : (c.index_mut.result.now.sid == c.args.sid) ≡ true =
    subst (λ (h : HeldSession g.row.S.Denot). (h.sid == c.args.sid) ≡ true) (sym c.index_mut.ensures.value) (position-Some (λ (h : HeldSession g.row.S.Denot). h.sid == c.args.sid) items c.in-Some.place c.index_mut.result.now found).1 in
    let within = in_bounds c.args.cells (omega arith) (omega arith) in
    step_line_is g.S.Shape.widths stage standing c.args.engine.now items book is stands c.args.sid c.in-Some.place c.index_mut.result.now lt c.index_mut.ensures.value (number_of _ _ at)
    c.args.cells within (record { sid = c.index_mut.result.now.sid; session = c.step_session.new.session }) refl
    (subst (IsOpen g.S.Shape.widths c.args.engine.now) (sym c.index_mut.ensures.value) (all_at (IsOpen g.S.Shape.widths c.args.engine.now) items c.in-Some.place c.index_mut.result.now c.requires.open.each lt))
    e.can e.same e.visits e.over c.step_session.result e.line

pub returns-clause-next : goal.returns-clause-next
returns-clause-next g c stage standing book stands =
    let is = subst (IsStore g.S.Shape.widths) c.store.ensures c.stamp-stamp.ensures.is in
    let e = c.step_session.ensures in
    let items : List (HeldSession g.row.S.Denot) = c.args.held.now.items in
    let found : position (λ (h : HeldSession g.row.S.Denot). h.sid == c.args.sid) c.args.held.now.items ≡ Some c.in-Some.place = ap (position (λ (h : HeldSession g.row.S.Denot). h.sid == c.args.sid)) (sym c.deref.ensures.value) ∙ sym c.place_of.ensures ∙ c.in-Some.is in
    let lt = place_within (λ (h : HeldSession g.row.S.Denot). h.sid == c.args.sid) items c.in-Some.place found in
    let at : (c.index_mut.result.now.sid == c.args.sid) ≡ true =
    subst (λ (h : HeldSession g.row.S.Denot). (h.sid == c.args.sid) ≡ true) (sym c.index_mut.ensures.value) (position-Some (λ (h : HeldSession g.row.S.Denot). h.sid == c.args.sid) items c.in-Some.place c.index_mut.result.now found).1 in
    let within = in_bounds c.args.cells (omega arith) (omega arith) in
    step_next g.S.Shape.widths stage standing c.args.engine.now items book is stands c.args.sid c.in-Some.place c.index_mut.result.now lt c.index_mut.ensures.value (number_of _ _ at)
    c.args.cells within (record { sid = c.index_mut.result.now.sid; session = c.step_session.new.session }) refl
    (subst (IsOpen g.S.Shape.widths c.args.engine.now) (sym c.index_mut.ensures.value) (all_at (IsOpen g.S.Shape.widths c.args.engine.now) items c.in-Some.place c.index_mut.result.now c.requires.open.each lt))
    e.can e.same e.visits e.over c.args.meters.now c.step_session.new.meters e.full e.pairs.0 e.pairs.1
