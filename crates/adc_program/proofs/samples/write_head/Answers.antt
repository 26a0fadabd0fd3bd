use Rattle.std.proofs.Common.{◌≡◌, ◌∙◌, ℕ, ◌*◌, List, [], ◌∷◌, Err, sym, ap, ap₂}
use Rattle.play_script.specs.Texts as texts
use Rattle.cell_store.specs.State.{used_count}
use Rattle.query_engine.specs.State.{rows_of}
use Rattle.adc_program.specs.Rows.{cell_count}
use Rattle.adc_program.proofs.Cells.{cell_count_is}
use Rattle.adc_program.proofs.Putting.{puts_after, puts_cut, puts_as}
use Rattle.adc_program.proofs.samples.write_head.Goals as goal

pub returns-in-Ok : goal.returns-in-Ok
returns-in-Ok g c =
    let engine = c.args.engine.now in
    let used : c.used.result ≡ cell_count (engine.book.k0 * engine.book.k1) (rows_of engine) =
    c.used.ensures ∙ ap used_count c.store.ensures ∙ cell_count_is engine.store ∙ ap (λ (n : ℕ). cell_count n (rows_of engine)) c.book-book.ensures.cells in
    record {
      puts = puts_as c.write_line-in-Ok.result (ap₂ (λ (a b : List ℕ). a ∷ b ∷ []) (sym c.sample_start.ensures) (sym (c.cells_line.ensures ∙ ap texts.cells_line used)))
          (puts_after {first = c.sample_start.result ∷ []} c.write_line-in-Ok.result c.in-Ok.ensures.puts c.write_line-in-Ok.ensures.puts);
    }

pub returns-in-Err : goal.returns-in-Err
returns-in-Err g c =
    let engine = c.args.engine.now in
    let more : List (List ℕ) = texts.cells_line (cell_count (engine.book.k0 * engine.book.k1) (rows_of engine)) ∷ [] in
    record { puts = puts_as (Err c.in-Err.halted) (ap (λ (l : List ℕ). l ∷ more) (sym c.sample_start.ensures)) (puts_cut {first = c.sample_start.result ∷ []} c.in-Err.halted more c.in-Err.ensures.puts) }
