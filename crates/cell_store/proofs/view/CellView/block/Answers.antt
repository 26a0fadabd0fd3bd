use Rattle.cell_store.proofs.Words.{◌*◌, ◌+◌, ◌<◌, ap, sym, ◌∙◌, subst, length, drop, get_or-take, get_or-drop, get_or, [], arith, code_of_words, IsBlock, Kept, CellRows, row_at}
use Rattle.cell_store.proofs.RowLemmas.{row_at-rows_of}
use Rattle.cell_store.proofs.OwnRows.{length_rows}
use Rattle.cell_store.proofs.view.CellView.block.Goals as goal

pub block-requires-clause-there : goal.block-requires-clause-there
block-requires-clause-there g c =
    omega (arith, length_rows g.S.Shape.widths c.self.inside.cell c.self.inside.rows.now c.self.invariant.0.room, ap (λ (v : CellRows). length v.rows) c.self.view_is, c.requires.there, c.self.invariant.0.room)

pub returns-clause-codes : goal.returns-clause-codes
returns-clause-codes g c = λ i small here.
    let there : 32 * c.args.n + i < length c.self.inside.rows.now.slots.items = omega (arith, length_rows g.S.Shape.widths c.self.inside.cell c.self.inside.rows.now c.self.invariant.0.room, ap (λ (v : CellRows). length v.rows) c.self.view_is, here) in
    ap (λ block. code_of_words g.S.Shape.widths (get_or block i [])) c.block.ensures.codes
    ∙ ap (code_of_words g.S.Shape.widths) (get_or-take 32 (drop (32 * c.args.n) c.self.inside.rows.now.codes.codes) i [] small ∙ get_or-drop (32 * c.args.n) c.self.inside.rows.now.codes.codes i [])
    ∙ ap (λ (k : Kept). k.row.code) (sym (row_at-rows_of g.S.Shape.widths c.self.inside.cell c.self.inside.rows.now.slots.items c.self.inside.rows.now.codes.codes (32 * c.args.n + i) (record { id = 0; born = 0; died = 0 }) there c.self.invariant.0.room))
    ∙ ap (λ (v : CellRows). (row_at v.rows (32 * c.args.n + i)).row.code) c.self.view_is

pub returns-clause-words : goal.returns-clause-words
returns-clause-words g c = subst (λ (v : CellRows). IsBlock g.S.Shape.widths v.g c.block.result) c.self.view_is c.block.ensures.words
