use Rattle.std.proofs.Common.{◌≡◌, List, ℕ, sym, ap, ◌∙◌}
use Rattle.cell_store.specs.State.{live_rows}
use Rattle.index_file.specs.Spelling.{by_cell, index_bytes}
use Rattle.index_file.specs.Grouped.{index_text}
use Rattle.index_file.proofs.Adding.{all_written, front_written}
use Rattle.index_file.proofs.Groups.{text_is}
use Rattle.index_file.proofs.Members.{rows_within}
use Rattle.index_file.proofs.SameRows.{read_again}
use Rattle.index_file.proofs.writing.write.Goals as goal

pub returns-clause-written : goal.returns-clause-written
returns-clause-written g c =
    let widths = g.S.Shape.widths in
    let store = c.args.store.now in
    let book = c.args.book.now in
    let text = c.deref.result.now in
    let bytes = index_bytes book (by_cell store.cells (live_rows store)) in
    let same : index_text widths text store ≡ bytes = ap (λ (ws : List ℕ). index_text ws text store) (sym c.d-d.ensures.shape)
    ∙ text_is book store text (c.deref.ensures.value ∙ c.in-Ok.ensures.spelled) c.requires.g (rows_within widths store c.stamp-stamp.ensures.is) in
    all_written c.args.name.now c.put_index.result _ _ _ _ (index_text widths text store) bytes c.new-pieces.ensures c.in_ok-begin.ensures.ok same c.put_index.ensures.adds c.put_index.ensures.empty

pub returns-clause-front : goal.returns-clause-front
returns-clause-front g c = λ file has.
    let widths = g.S.Shape.widths in
    let store = c.args.store.now in
    let book = c.args.book.now in
    let text = c.deref.result.now in
    let bytes = index_bytes book (by_cell store.cells (live_rows store)) in
    let same : index_text widths text store ≡ bytes = ap (λ (ws : List ℕ). index_text ws text store) (sym c.d-d.ensures.shape)
    ∙ text_is book store text (c.deref.ensures.value ∙ c.in-Ok.ensures.spelled) c.requires.g (rows_within widths store c.stamp-stamp.ensures.is) in
    front_written c.args.name.now c.put_index.result _ _ _ _ (index_text widths text store) bytes file c.new-pieces.ensures c.in_ok-begin.ensures.ok same c.put_index.ensures.adds

pub returns-clause-again : goal.returns-clause-again
returns-clause-again g c = read_again g.S.Shape.widths c.args.book.now c.args.store.now c.d-d.ensures.shape c.d-d.ensures.good c.stamp-stamp.ensures.is c.requires.g c.requires.cells

pub returns-in-Err-clause-again : goal.returns-in-Err-clause-again
returns-in-Err-clause-again g c = read_again g.S.Shape.widths c.args.book.now c.args.store.now c.d-d.ensures.shape c.d-d.ensures.good c.stamp-stamp.ensures.is c.requires.g c.requires.cells

pub returns-in_err-begin-clause-again : goal.returns-in_err-begin-clause-again
returns-in_err-begin-clause-again g c = read_again g.S.Shape.widths c.args.book.now c.args.store.now c.d-d.ensures.shape c.d-d.ensures.good c.stamp-stamp.ensures.is c.requires.g c.requires.cells
