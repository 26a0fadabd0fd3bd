use Rattle.cell_store.proofs.Words.{nil_from_length, ◌≡◌, ap, ap₂, sym, ◌∙◌, ℕ, List, [], rules, arith, Some, None, Kept, CellRows, rows_of, HasCodes, IsCounted, entry_at, found_in, rows_in, rows_for}
use Rattle.cell_store.proofs.OwnRows.{own_codes, length_rows}
use Rattle.cell_store.proofs.Entries.{shown_g, shown_at, found_good}
use Rattle.cell_store.proofs.cells.Cells.get.Given.{Over}
use Rattle.cell_store.proofs.cells.Cells.get.Goals as goal
use Rattle.cell_store.proofs.cells.Cells.get.Goals.{In-Some}

found : (g : Over) (c : In-Some g) → entry_at c.self.inside.keys.items c.self.inside.entries c.args.cell ≡ Some c.in-Some.rows.now
found g c = search rules

good : (g : Over) (c : In-Some g) → HasCodes g.S.Shape.widths c.self.inside.g c.in-Some.rows.now × IsCounted c.in-Some.rows.now
good g c = found_good c.self.invariant c.args.cell c.in-Some.rows.now (found g c)

pub returns-then-len-eq0 : goal.returns-then-len-eq0
returns-then-len-eq0 g c =
    let empty : c.in-Some.rows.now.slots.items ≡ [] = nil_from_length c.in-Some.rows.now.slots.items (omega (arith, c.if-len-eq0.true, c.len.ensures, c.in-Some.rows.now.slots.ok.0)) in
    shown_at c.self.invariant c.self.view_is c.args.cell
    ∙ ap (found_in g.S.Shape.widths c.args.cell) (found g (goal.at.returns-then-len-eq0 g c).In-Some)
    ∙ ap (λ slots. rows_of g.S.Shape.widths c.args.cell slots c.in-Some.rows.now.codes.codes) empty

pub new-requires-clause-is : goal.new-requires-clause-is
new-requires-clause-is g c = own_codes (good g (goal.at.new-requires-clause-is g c).In-Some).0

pub new-requires-clause-counted : goal.new-requires-clause-counted
new-requires-clause-counted g c = (good g (goal.at.new-requires-clause-counted g c).In-Some).1

pub returns-else-len-eq0 : goal.returns-else-len-eq0
returns-else-len-eq0 g c =
    let at = (goal.at.returns-else-len-eq0 g c).In-Some in
    let codes = (good g at).0 in
    let rows : rows_in g.S.Shape.widths c.args.cell c.in-Some.rows.now ≡ rows_for c.args.self.now c.args.cell = sym (shown_at c.self.invariant c.self.view_is c.args.cell ∙ ap (found_in g.S.Shape.widths c.args.cell) (found g at)) in (
      c.new.ensures ∙ ap₂ (λ (n : ℕ) (l : List Kept). let x : CellRows = record { cell = c.args.cell; g = n; rows = l } in x) (codes.g_is ∙ sym (shown_g c.self.invariant c.self.view_is)) rows,
      rw c.new.ensures (omega (arith, length_rows g.S.Shape.widths c.args.cell c.in-Some.rows.now codes.room, c.if-len-eq0.false, c.len.ensures, c.in-Some.rows.now.slots.ok.0)),
    )

pub returns-in-None : goal.returns-in-None
returns-in-None g c =
    let none : entry_at c.self.inside.keys.items c.self.inside.entries c.args.cell ≡ None = search rules in
    shown_at c.self.invariant c.self.view_is c.args.cell ∙ ap (found_in g.S.Shape.widths c.args.cell) none
