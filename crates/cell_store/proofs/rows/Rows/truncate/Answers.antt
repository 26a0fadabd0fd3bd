use Rattle.cell_store.proofs.Words.{ap, ◌∙◌, length, List, arith, length-take, Slot, rows_of}
use Rattle.cell_store.proofs.RowLemmas.{rows_of-take}
use Rattle.cell_store.proofs.OwnRows.{other_codes}
use Rattle.cell_store.proofs.rows.Rows.truncate.Goals as goal

pub returns-clause-rows : goal.returns-clause-rows
returns-clause-rows g c = λ cell.
    ap (λ (slots : List Slot). rows_of g.S.Shape.widths cell slots c.truncate-2.new.self.codes) c.truncate.ensures.items
    ∙ rows_of-take g.S.Shape.widths cell c.args.n c.args.self.now.slots.items c.args.self.now.codes.codes c.truncate-2.new.self.codes c.truncate-2.ensures.front

pub returns-clause-is : goal.returns-clause-is
returns-clause-is g c =
    other_codes c.requires.is c.truncate-2.ensures.g (omega (arith, ap length c.truncate.ensures.items, length-take c.args.n c.args.self.now.slots.items, c.truncate-2.ensures.enough)) c.truncate-2.ensures.words
