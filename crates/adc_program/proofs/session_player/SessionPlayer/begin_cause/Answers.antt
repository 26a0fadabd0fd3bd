use Rattle.std.proofs.Common.{◌≡◌, ◌∙◌, ◌<◌, ◌≤◌, ◌==◌, ℕ, Bool, true, false, List, length, sym, ap, subst}
use Rattle.std.specs.Prelude.{is_some}
use Rattle.std.specs.List.{position}
use Rattle.adc_program.specs.declared.opened.HeldSession.{HeldSession}
use Rattle.adc_program.proofs.SessionBegins.{taken_cause, room_cause, full_room, free_room}
use Rattle.adc_program.proofs.session_player.SessionPlayer.begin_cause.Goals as goal

pub returns-then-is_some : goal.returns-then-is_some
returns-then-is_some g c =
    let items : List (HeldSession g.row.S.Denot) = c.args.self.now.held.items in
    let asked = c.args.asked in
    let number_of : HeldSession g.row.S.Denot → ℕ = λ h. h.sid in
    let test : HeldSession g.row.S.Denot → Bool = λ h. h.sid == asked.sid in
    let found : is_some (position test items) ≡ true =
    ap is_some (ap (position test) (sym c.deref.ensures.value) ∙ sym c.place_of.ensures) ∙ sym c.is_some.ensures ∙ c.if-is_some.true in
    sym (taken_cause number_of items asked.sid _ asked.number asked.k asked.wanted (sym c.query_cause.ensures ∙ c.in_default.is) found)

pub returns-then-len : goal.returns-then-len
returns-then-len g c =
    let items : List (HeldSession g.row.S.Denot) = c.args.self.now.held.items in
    let asked = c.args.asked in
    let number_of : HeldSession g.row.S.Denot → ℕ = λ h. h.sid in
    let test : HeldSession g.row.S.Denot → Bool = λ h. h.sid == asked.sid in
    let absent : is_some (position test items) ≡ false =
    ap is_some (ap (position test) (sym c.deref.ensures.value) ∙ sym c.place_of.ensures) ∙ sym c.is_some.ensures ∙ c.if-is_some.false in
    sym (room_cause number_of items asked.sid _ asked.number asked.k asked.wanted (sym c.query_cause.ensures ∙ c.in_default.is) absent true (full_room (length items) (subst (λ n. 64 ≤ n) (c.len.ensures ∙ sym c.deref.ensures.len ∙ ap (length {A = HeldSession g.row.S.Denot}) c.deref.ensures.value) c.if-len.true)))

pub returns : goal.returns
returns g c =
    let items : List (HeldSession g.row.S.Denot) = c.args.self.now.held.items in
    let asked = c.args.asked in
    let number_of : HeldSession g.row.S.Denot → ℕ = λ h. h.sid in
    let test : HeldSession g.row.S.Denot → Bool = λ h. h.sid == asked.sid in
    let absent : is_some (position test items) ≡ false =
    ap is_some (ap (position test) (sym c.deref.ensures.value) ∙ sym c.place_of.ensures) ∙ sym c.is_some.ensures ∙ c.if-is_some.false in
    sym (room_cause number_of items asked.sid _ asked.number asked.k asked.wanted (sym c.query_cause.ensures ∙ c.in_default.is) absent false (free_room (length items) (subst (λ n. n < 64) (c.len.ensures ∙ sym c.deref.ensures.len ∙ ap (length {A = HeldSession g.row.S.Denot}) c.deref.ensures.value) c.if-len.false)))
