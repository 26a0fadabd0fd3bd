use Rattle.std.proofs.Common.{◌≡◌, [], ◌∷◌, ◌++◌, ap, ◌∙◌, arith}
use Rattle.shape_core.specs.Word.{code_of_words}
use Rattle.book_model.specs.Rows.{Row}
use Rattle.cell_store.specs.State.{live_rows}
use Rattle.index_file.specs.Ahead.{layout}
use Rattle.index_file.proofs.Filled.{live_inserted}
use Rattle.index_file.proofs.Steps.{keeps_row, fails_row}
use Rattle.index_file.proofs.ahead.step_row.Goals as goal

pub returns-in_ok-add_row-in-Ok-clause-rest : goal.returns-in_ok-add_row-in-Ok-clause-rest
returns-in_ok-add_row-in-Ok-clause-rest g c = λ bytes is.
    let row : Row = record { id = c.in-Ok.id; cell = c.in-Ok.cell; code = code_of_words g.S.Shape.widths c.read_row.new.code } in
    let live : live_rows c.add_row.new.store ≡ live_rows c.args.store.now ++ row ∷ [] = ap live_rows c.in_ok-add_row-in-Ok.ensures.ok ∙ live_inserted c.args.sizes c.args.store.now row c.requires.before.filled (omega arith) in
    keeps_row (layout g.S.Shape.widths c.args.sizes) c.args.store.now c.add_row.new.store c.args.part.now bytes c.args.at c.args.rows row c.requires.more is c.in-Ok.ensures.value live

pub returns-in-Err-clause-rest : goal.returns-in-Err-clause-rest
returns-in-Err-clause-rest g c = λ bytes is.
    rw c.located.ensures (fails_row (layout g.S.Shape.widths c.args.sizes) c.args.store.now c.args.store.now c.args.part.now bytes c.args.at c.args.rows c.in-Err.fault c.requires.more is c.in-Err.ensures.value)
