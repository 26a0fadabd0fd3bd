-- A step goes on with the session's visit.
use Rattle.std.proofs.Common.{◌≡◌, ℕ, ◌-◌, ◌*◌, ◌≤◌, min, inl, inr, refl, sym, ap, subst, ◌∙◌, arith}
use Rattle.book_model.specs.Book.{Book}
use Rattle.cell_store.specs.Shown.{Shown, shown}
use Rattle.adc_tables.specs.Full.{Full}
use Rattle.query_engine.specs.Progress.{HasVisited, Costs, visit_length}
use Rattle.query_sessions.proofs.Stepping as stepping
use Rattle.query_sessions.proofs.session.Session.step.Goals as goal

pub go_on-cells-requires-clause-g : goal.go_on-cells-requires-clause-g
go_on-cells-requires-clause-g g c =
    let ws = g.S.Shape.widths in
    let book = c.args.engine.now.book in
    let st = stepping.inner ws book c.args.self.now _ c.self.view_is c.args.engine.now.store c.store.result.now c.store.ensures c.requires.can.stands in
    ap (λ (f : Full). f.g) st.asked.tables.filled ∙ sym c.book.ensures.g ∙ sym (ap (λ s. s.g) c.store.ensures) ∙ sym (ap (λ (s : Shown). s.store.g) c.new-snapshot.ensures)

pub go_on-cells-requires-clause-visited : goal.go_on-cells-requires-clause-visited
go_on-cells-requires-clause-visited g c =
    let ws = g.S.Shape.widths in
    let book = c.args.engine.now.book in
    let st = stepping.inner ws book c.args.self.now _ c.self.view_is c.args.engine.now.store c.store.result.now c.store.ensures c.requires.can.stands in
    subst (λ (s : Shown). HasVisited ws (shown s) c.self.inside.scratch) (sym c.new-snapshot.ensures) st.visited

pub go_on-cells-requires-clause-within : goal.go_on-cells-requires-clause-within
go_on-cells-requires-clause-within g c =
    let ws = g.S.Shape.widths in
    let book = c.args.engine.now.book in
    let st = stepping.inner ws book c.args.self.now _ c.self.view_is c.args.engine.now.store c.store.result.now c.store.ensures c.requires.can.stands in
    let old = c.self.inside.scratch in
    subst (λ (s : Shown). old.walk.given ≤ visit_length (shown s) c.self.inside.needed old.ranks) (sym c.new-snapshot.ensures)
    (omega (arith, st.within, stepping.all_is ws book _ _ st))

pub overflow_cast-self : goal.overflow_cast-self
overflow_cast-self g c =
    let ws = g.S.Shape.widths in
    let book = c.args.engine.now.book in
    let st = stepping.inner ws book c.args.self.now _ c.self.view_is c.args.engine.now.store c.store.result.now c.store.ensures c.requires.can.stands in
    let e = c.go_on-cells.ensures in
    let parts = c.go_on-cells.new.self in
    let n = c.go_on-cells.result in
    let new = c.new-snapshot.ensures in
    let old = c.self.inside.scratch in
    let seen = subst (λ (s : Shown). HasVisited ws (shown s) parts) new e.visited in
    let cells = subst (λ (s : Shown). n ≡ min c.args.budget (visit_length (shown s) c.self.inside.needed old.ranks - old.walk.given)) new e.cells in
    let costs = subst (λ (s : Shown). Costs ws s old parts.walk.given c.args.meters.now c.go_on-cells.new.meters) new e.costs in
    omega (arith, c.count.ensures, c.count-before.ensures, costs.full book _ st.asked.tables, stepping.full_few ws book _ _ st parts n c.args.budget seen e.given cells e.same, e.few)

pub overflow_add-self-2 : goal.overflow_add-self-2
overflow_add-self-2 g c =
    let ws = g.S.Shape.widths in
    let book = c.args.engine.now.book in
    let st = stepping.inner ws book c.args.self.now _ c.self.view_is c.args.engine.now.store c.store.result.now c.store.ensures c.requires.can.stands in
    let e = c.go_on-cells.ensures in
    let parts = c.go_on-cells.new.self in
    let n = c.go_on-cells.result in
    let new = c.new-snapshot.ensures in
    let old = c.self.inside.scratch in
    let seen = subst (λ (s : Shown). HasVisited ws (shown s) parts) new e.visited in
    let cells = subst (λ (s : Shown). n ≡ min c.args.budget (visit_length (shown s) c.self.inside.needed old.ranks - old.walk.given)) new e.cells in
    let costs = subst (λ (s : Shown). Costs ws s old parts.walk.given c.args.meters.now c.go_on-cells.new.meters) new e.costs in
    omega (
      arith,
      c.count.ensures,
      c.count-before.ensures,
      costs.never_falls,
      costs.full book _ st.asked.tables,
      stepping.was_full ws book _ _ st parts n c.args.budget seen e.given cells e.same,
      stepping.full_few ws book _ _ st parts n c.args.budget seen e.given cells e.same,
      e.few,
    )

pub returns-clause-can : goal.returns-clause-can
returns-clause-can g c =
    let ws = g.S.Shape.widths in
    let book = c.args.engine.now.book in
    let st = stepping.inner ws book c.args.self.now _ c.self.view_is c.args.engine.now.store c.store.result.now c.store.ensures c.requires.can.stands in
    let e = c.go_on-cells.ensures in
    let parts = c.go_on-cells.new.self in
    let n = c.go_on-cells.result in
    let new = c.new-snapshot.ensures in
    let old = c.self.inside.scratch in
    let seen = subst (λ (s : Shown). HasVisited ws (shown s) parts) new e.visited in
    let cells = subst (λ (s : Shown). n ≡ min c.args.budget (visit_length (shown s) c.self.inside.needed old.ranks - old.walk.given)) new e.cells in
    let costs = subst (λ (s : Shown). Costs ws s old parts.walk.given c.args.meters.now c.go_on-cells.new.meters) new e.costs in
    let product : c.k0.result * c.k1.result ≡ book.k0 * book.k1 =
    ap (λ (a : ℕ). a * c.k1.result) (c.k0.ensures.value ∙ ap (λ (b : Book). b.k0) c.book.ensures.value)
    ∙ ap (λ (b : ℕ). book.k0 * b) (c.k1.ensures.value ∙ ap (λ (b : Book). b.k1) c.book-2.ensures.value) in
    stepping.outer_can ws c.args.engine.now c.args.self.now _ c.self.view_is c.store.result.now c.store.ensures _ refl c.requires.can.pinned
    (stepping.stands ws book _ _ st parts n c.args.budget seen e.given cells e.same _ _
    (omega (arith, c.count.ensures, c.count-before.ensures, costs.never_falls, costs.full book _ st.asked.tables, stepping.was_full ws book _ _ st parts n c.args.budget seen e.given cells e.same))
    (λ is. elim (c.is_over-self-inside.ensures.over is) [
      | inl enough ↦ stepping.over_rows ws book _ _ st parts n c.args.budget seen e.given cells e.same (omega (arith, enough, c.rows.ensures))
      | inr all ↦ stepping.over_cells ws book _ _ st parts n c.args.budget seen e.given cells e.same (omega (arith, all, e.given, c.self.invariant.1, product))
    ]))

pub returns-clause-visits : goal.returns-clause-visits
returns-clause-visits g c =
    let ws = g.S.Shape.widths in
    let book = c.args.engine.now.book in
    let st = stepping.inner ws book c.args.self.now _ c.self.view_is c.args.engine.now.store c.store.result.now c.store.ensures c.requires.can.stands in
    let e = c.go_on-cells.ensures in
    let parts = c.go_on-cells.new.self in
    let n = c.go_on-cells.result in
    let new = c.new-snapshot.ensures in
    let old = c.self.inside.scratch in
    let seen = subst (λ (s : Shown). HasVisited ws (shown s) parts) new e.visited in
    let cells = subst (λ (s : Shown). n ≡ min c.args.budget (visit_length (shown s) c.self.inside.needed old.ranks - old.walk.given)) new e.cells in
    let costs = subst (λ (s : Shown). Costs ws s old parts.walk.given c.args.meters.now c.go_on-cells.new.meters) new e.costs in
    omega (
      arith,
      stepping.visits ws book _ _ st parts n c.args.budget seen e.given cells e.same,
      stepping.outer_all ws book c.args.self.now _ c.self.view_is c.args.engine.now.store c.store.result.now c.store.ensures,
      stepping.outer_given ws book c.args.self.now _ c.self.view_is c.args.engine.now.store c.store.result.now c.store.ensures,
    )

pub returns-clause-says : goal.returns-clause-says
returns-clause-says g c =
    let ws = g.S.Shape.widths in
    let book = c.args.engine.now.book in
    let st = stepping.inner ws book c.args.self.now _ c.self.view_is c.args.engine.now.store c.store.result.now c.store.ensures c.requires.can.stands in
    let e = c.go_on-cells.ensures in
    let parts = c.go_on-cells.new.self in
    let n = c.go_on-cells.result in
    let new = c.new-snapshot.ensures in
    let old = c.self.inside.scratch in
    let seen = subst (λ (s : Shown). HasVisited ws (shown s) parts) new e.visited in
    let cells = subst (λ (s : Shown). n ≡ min c.args.budget (visit_length (shown s) c.self.inside.needed old.ranks - old.walk.given)) new e.cells in
    let costs = subst (λ (s : Shown). Costs ws s old parts.walk.given c.args.meters.now c.go_on-cells.new.meters) new e.costs in
    let product : c.k0.result * c.k1.result ≡ book.k0 * book.k1 =
    ap (λ (a : ℕ). a * c.k1.result) (c.k0.ensures.value ∙ ap (λ (b : Book). b.k0) c.book.ensures.value)
    ∙ ap (λ (b : ℕ). book.k0 * b) (c.k1.ensures.value ∙ ap (λ (b : Book). b.k1) c.book-2.ensures.value) in
    let all = stepping.outer_all ws book c.args.self.now _ c.self.view_is c.args.engine.now.store c.store.result.now c.store.ensures in
    stepping.says c.said.result c.is_over-self-inside.result parts.walk.given _ c.said.ensures
    (λ is. elim (c.is_over-self-inside.ensures.over is) [
      | inl enough ↦ stepping.over_rows ws book _ _ st parts n c.args.budget seen e.given cells e.same (omega (arith, enough, c.rows.ensures)) ∙ all
      | inr whole ↦ stepping.over_cells ws book _ _ st parts n c.args.budget seen e.given cells e.same (omega (arith, whole, e.given, c.self.invariant.1, product)) ∙ all
    ])
    (λ is.
    let more = c.is_over-self-inside.ensures.goes_on is in
    omega (
      arith,
      all,
      stepping.remains ws book _ _ st parts n c.args.budget seen e.given cells e.same (omega (arith, more.0, c.rows.ensures)) (λ whole. more.1 (omega (arith, whole, e.given, c.self.invariant.1, product))),
    ))

pub returns-clause-full : goal.returns-clause-full
returns-clause-full g c =
    omega (arith, c.count.ensures, c.count-before.ensures, c.go_on-cells.ensures.costs.never_falls, ap (λ s. s.full) c.self.view_is)
