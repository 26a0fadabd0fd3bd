use Rattle.std.proofs.Common.{◌≡◌, ◌++◌, length, ap, ◌∙◌, List, ℕ}
use Rattle.std.specs.Int.{w32, to_le_bytes}
use Rattle.std.proofs.lemmas.Result.{err_from_is_err_and}
use Rattle.cell_store.specs.State.{live_rows}
use Rattle.index_file.specs.Grouped.{cells_text, body_text}
use Rattle.index_file.proofs.Adding.{adds_stop, adds_after}
use Rattle.index_file.proofs.writing.put_body.Goals as goal

pub returns-in_err-put_pair : goal.returns-in_err-put_pair
returns-in_err-put_pair g c =
    let p = err_from_is_err_and c.from_residual.result c.from_residual.ensures.1 in
    let widths = g.S.Shape.widths in
    let store = c.args.store.now in
    let text = cells_text widths store.g store.stamp store.kept store.cells in
    rw (p.1, p.2) (adds_stop c.args.name.now c.in_err-put_pair.field-0.0 text (body_text widths store) c.in_err-put_pair.ensures
    (ap (λ (n : ℕ). (to_le_bytes w32 n ++ to_le_bytes w32 c.used.result) ++ text) c.live.ensures.live ∙ ap (λ (n : ℕ). (to_le_bytes w32 (length (live_rows store)) ++ to_le_bytes w32 n) ++ text) c.used.ensures))

pub returns : goal.returns
returns g c =
    let widths = g.S.Shape.widths in
    let store = c.args.store.now in
    let text = cells_text widths store.g store.stamp store.kept store.cells in
    let same : cells_text widths store.g c.args.stamp store.kept store.cells ≡ text = ap (λ (s : ℕ). cells_text widths store.g s store.kept store.cells) c.requires.stamp in
    adds_after c.args.name.now c.put_groups.result (body_text widths store) c.in_ok-put_pair.ensures c.put_groups.ensures
    (
    ap (λ (t : List ℕ). (to_le_bytes w32 c.live.result ++ to_le_bytes w32 c.used.result) ++ t) same
    ∙ ap (λ (n : ℕ). (to_le_bytes w32 n ++ to_le_bytes w32 c.used.result) ++ text) c.live.ensures.live ∙ ap (λ (n : ℕ). (to_le_bytes w32 (length (live_rows store)) ++ to_le_bytes w32 n) ++ text) c.used.ensures
    )
