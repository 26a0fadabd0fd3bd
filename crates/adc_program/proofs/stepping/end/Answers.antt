use Rattle.std.proofs.Common.{rules, ◌≡◌, ◌∙◌, ℕ, Bool, List, [], ◌∷◌, true, get_or, sym, ap, subst}
use Rattle.std.specs.Prelude.{None, Some, ◌==◌, codes, if◌then◌else◌}
use Rattle.std.specs.List.{position, Contains}
use Rattle.std.proofs.lemmas.List.Quantifiers.{position-Some}
use Rattle.book_model.proofs.AllLemmas.{all_at}
use Rattle.cell_store.specs.State.{Unpins}
use Rattle.cell_store.specs.Held.{IsStore}
use Rattle.play_script.specs.declared.Cause.TheVariants as cause
use Rattle.play_script.specs.Texts.{session_done, session_dropped}
use Rattle.play_script.specs.Play.{hits}
use Rattle.query_sessions.specs.Standing.{Opened, cells_given}
use Rattle.adc_program.specs.declared.opened.HeldSession.{HeldSession}
use Rattle.adc_program.specs.Steps.{Puts}
use Rattle.adc_program.specs.SessionStates.{IsOpen, AreOpen, IsNext}
use Rattle.play_script.specs.declared.SessionCommand.TheVariants.{End}
use Rattle.play_script.specs.Sessions.{session_reply}
use Rattle.adc_program.proofs.Places.{place_within}
use Rattle.adc_program.proofs.Putting.{puts_as}
use Rattle.adc_program.proofs.OpenSessions.{open_removed}
use Rattle.adc_program.proofs.SessionSteps.{end_absent, refused_next, refused_line, end_lines, end_next, number_of}
use Rattle.adc_program.proofs.stepping.end.Goals as goal

pub returns-in_default-clause-puts : goal.returns-in_default-clause-puts
returns-in_default-clause-puts g c stage standing book stands =
    let is = subst (IsStore g.S.Shape.widths) c.store.ensures c.stamp-stamp.ensures.is in
    let test : HeldSession g.row.S.Denot → Bool = λ h. h.sid == c.args.sid in
    let none : position test c.args.held.now.items ≡ None = ap (position test) (sym c.deref.ensures.value) ∙ sym c.place_of.ensures ∙ c.in_default.is in
    let refuses = end_absent g.S.Shape.widths stage standing c.args.engine.now c.args.held.now.items book is stands c.args.sid none in
    puts_as c.write_line.result
    (refused_line g.S.Shape.widths stage standing c.args.engine.now c.args.held.now.items book is stands c.args.sid _ cause.Absent (codes "end") c.args.sid refuses c.end_refused.result c.end_refused.ensures) c.write_line.ensures.puts

pub returns-in_default-clause-next : goal.returns-in_default-clause-next
returns-in_default-clause-next g c stage standing meters book stands =
    let is = subst (IsStore g.S.Shape.widths) c.store.ensures c.stamp-stamp.ensures.is in
    let test : HeldSession g.row.S.Denot → Bool = λ h. h.sid == c.args.sid in
    let none : position test c.args.held.now.items ≡ None = ap (position test) (sym c.deref.ensures.value) ∙ sym c.place_of.ensures ∙ c.in_default.is in
    let refuses = end_absent g.S.Shape.widths stage standing c.args.engine.now c.args.held.now.items book is stands c.args.sid none in
    refused_next g.S.Shape.widths stage standing c.args.engine.now c.args.held.now.items book is stands c.args.sid _ cause.Absent (codes "end") c.args.sid refuses meters

pub remove-requires : goal.remove-requires
remove-requires g c =
    let test : HeldSession g.row.S.Denot → Bool = λ h. h.sid == c.args.sid in
    let found : position test c.args.held.now.items ≡ Some c.in-Some.place = ap (position test) (sym c.deref.ensures.value) ∙ sym c.place_of.ensures ∙ c.in-Some.is in
    let lt = place_within test c.args.held.now.items c.in-Some.place found in
    search rules

pub take-requires : goal.take-requires
take-requires g c =
    let ws = g.S.Shape.widths in
    let items : List (HeldSession g.row.S.Denot) = c.args.held.now.items in
    let test : HeldSession g.row.S.Denot → Bool = λ h. h.sid == c.args.sid in
    let found : position test items ≡ Some c.in-Some.place = ap (position test) (sym c.deref.ensures.value) ∙ sym c.place_of.ensures ∙ c.in-Some.is in
    let lt = place_within test items c.in-Some.place found in
    let h : HeldSession g.row.S.Denot = c.remove.result in
    let value : h ≡ get_or items c.in-Some.place h = c.remove.ensures.value in
    let one = subst (IsOpen ws c.args.engine.now) (sym value) (all_at (IsOpen ws c.args.engine.now) items c.in-Some.place h c.requires.open.each lt) in
    let same : c.write_end-written.new.session ≡ h.session = c.write_end-written.ensures.same ∙ c.into_session-session.ensures in
    let stamp : c.write_end-written.new.session.stamp ≡ h.session.stamp = ap (λ (s : Opened). s.stamp) same in
    subst (λ (n : ℕ). Contains c.args.engine.now.store.pins n) (sym stamp) one.pinned

pub returns-clause-open : goal.returns-clause-open
returns-clause-open g c =
    let ws = g.S.Shape.widths in
    let items : List (HeldSession g.row.S.Denot) = c.args.held.now.items in
    let test : HeldSession g.row.S.Denot → Bool = λ h. h.sid == c.args.sid in
    let found : position test items ≡ Some c.in-Some.place = ap (position test) (sym c.deref.ensures.value) ∙ sym c.place_of.ensures ∙ c.in-Some.is in
    let lt = place_within test items c.in-Some.place found in
    let h : HeldSession g.row.S.Denot = c.remove.result in
    let value : h ≡ get_or items c.in-Some.place h = c.remove.ensures.value in
    let one = subst (IsOpen ws c.args.engine.now) (sym value) (all_at (IsOpen ws c.args.engine.now) items c.in-Some.place h c.requires.open.each lt) in
    let same : c.write_end-written.new.session ≡ h.session = c.write_end-written.ensures.same ∙ c.into_session-session.ensures in
    let stamp : c.write_end-written.new.session.stamp ≡ h.session.stamp = ap (λ (s : Opened). s.stamp) same in
    subst (AreOpen ws c.take.new.engine) (sym c.remove.ensures.items)
    (open_removed ws c.args.engine.now c.take.new.engine items c.requires.open c.in-Some.place h lt value c.take.ensures.book
    (subst (λ (n : ℕ). Unpins n c.args.engine.now.store.pins c.take.new.engine.store.pins) stamp c.take.ensures.pins) c.take.ensures.pinned)

pub returns-clause-puts : goal.returns-clause-puts
returns-clause-puts g c stage standing book stands =
    let ws = g.S.Shape.widths in
    let items : List (HeldSession g.row.S.Denot) = c.args.held.now.items in
    let test : HeldSession g.row.S.Denot → Bool = λ h. h.sid == c.args.sid in
    let found : position test items ≡ Some c.in-Some.place = ap (position test) (sym c.deref.ensures.value) ∙ sym c.place_of.ensures ∙ c.in-Some.is in
    let lt = place_within test items c.in-Some.place found in
    let h : HeldSession g.row.S.Denot = c.remove.result in
    let value : h ≡ get_or items c.in-Some.place h = c.remove.ensures.value in
    let one = subst (IsOpen ws c.args.engine.now) (sym value) (all_at (IsOpen ws c.args.engine.now) items c.in-Some.place h c.requires.open.each lt) in
    let same : c.write_end-written.new.session ≡ h.session = c.write_end-written.ensures.same ∙ c.into_session-session.ensures in
    let stamp : c.write_end-written.new.session.stamp ≡ h.session.stamp = ap (λ (s : Opened). s.stamp) same in
    let is = subst (IsStore ws) c.store.ensures c.stamp-stamp.ensures.is in
    let number : h.sid ≡ c.args.sid = number_of h.sid c.args.sid (subst (λ (k : HeldSession g.row.S.Denot). (k.sid == c.args.sid) ≡ true) (sym value) (position-Some test items c.in-Some.place h found).1) in
    let old = g.K.Sink.state c.args.out.now in
    let new = g.K.Sink.state c.write_end-written.new.out in
    subst (λ (lines : List (List ℕ)). Puts c.write_end-written.result lines old new)
    (end_lines ws stage standing c.args.engine.now items book is stands c.args.sid c.in-Some.place h lt value number one)
    (subst (λ (s : Opened). Puts c.write_end-written.result (if s.ended then session_done c.args.sid (cells_given s) s.parts.state.rows s.full ∷ hits s.parts.best.pairs else session_dropped c.args.sid ∷ []) old new) c.into_session-session.ensures
    c.write_end-written.ensures.puts)

pub returns-clause-next : goal.returns-clause-next
returns-clause-next g c stage standing meters book stands =
    let ws = g.S.Shape.widths in
    let items : List (HeldSession g.row.S.Denot) = c.args.held.now.items in
    let test : HeldSession g.row.S.Denot → Bool = λ h. h.sid == c.args.sid in
    let found : position test items ≡ Some c.in-Some.place = ap (position test) (sym c.deref.ensures.value) ∙ sym c.place_of.ensures ∙ c.in-Some.is in
    let lt = place_within test items c.in-Some.place found in
    let h : HeldSession g.row.S.Denot = c.remove.result in
    let value : h ≡ get_or items c.in-Some.place h = c.remove.ensures.value in
    let one = subst (IsOpen ws c.args.engine.now) (sym value) (all_at (IsOpen ws c.args.engine.now) items c.in-Some.place h c.requires.open.each lt) in
    let same : c.write_end-written.new.session ≡ h.session = c.write_end-written.ensures.same ∙ c.into_session-session.ensures in
    let stamp : c.write_end-written.new.session.stamp ≡ h.session.stamp = ap (λ (s : Opened). s.stamp) same in
    let is = subst (IsStore ws) c.store.ensures c.stamp-stamp.ensures.is in
    let number : h.sid ≡ c.args.sid = number_of h.sid c.args.sid (subst (λ (k : HeldSession g.row.S.Denot). (k.sid == c.args.sid) ≡ true) (sym value) (position-Some test items c.in-Some.place h found).1) in
    subst (λ (l : List (HeldSession g.row.S.Denot)). IsNext stage standing (session_reply stage standing (End c.args.sid)) c.take.new.engine.store l meters meters) (sym c.remove.ensures.items)
    (end_next ws stage standing c.args.engine.now items book is stands c.args.sid c.in-Some.place h lt value number one c.take.new.engine.store meters c.take.ensures.keeps
    (subst (λ (n : ℕ). Unpins n c.args.engine.now.store.pins c.take.new.engine.store.pins) stamp c.take.ensures.pins)
    (open_removed ws c.args.engine.now c.take.new.engine items c.requires.open c.in-Some.place h lt value c.take.ensures.book
    (subst (λ (n : ℕ). Unpins n c.args.engine.now.store.pins c.take.new.engine.store.pins) stamp c.take.ensures.pins) c.take.ensures.pinned).pins)
