use Rattle.std.proofs.Common.{ℕ, ◌*◌, [], ◌∷◌, take, Some, Err, sym, ap, subst}
use Rattle.std.specs.Prelude.{◌⊎◌}
use Rattle.adc_ports.specs.States.{Has}
use Rattle.cell_store.specs.State.{live_rows}
use Rattle.index_file.specs.Spelling.{by_cell, index_bytes}
use Rattle.adc_program.specs.declared.halts.Halted.{Halted}
use Rattle.adc_program.specs.Steps.{Makes}
use Rattle.adc_program.proofs.Filing.{makes_unsaved, makes_filed}
use Rattle.adc_program.proofs.builds.write_index.Goals as goal

pub returns-in-Ok : goal.returns-in-Ok
returns-in-Ok g c =
    let book = c.args.book.now in
    let rows = live_rows c.args.store.now in
    let name = c.args.name.now in
    record {
      makes = λ before wanted reads is.
          makes_filed c.args.part name (c.args.line.now ∷ []) (index_bytes book (by_cell (book.k0 * book.k1) rows)) [] reads c.in-Ok.ensures.writes is c.write_line.result
          (subst (λ (n : ℕ). Has (g.H.Shelf.state c.write.new.shelf) name (Some (index_bytes book (by_cell n rows)))) c.requires.cells c.in-Ok.ensures.written) c.in-Ok.ensures.counts c.write_line.ensures.puts;
    }

pub returns-in-Err : goal.returns-in-Err
returns-in-Err g c =
    let book = c.args.book.now in
    let rows = live_rows c.args.store.now in
    let name = c.args.name.now in
    let new = g.H.Shelf.state c.write.new.shelf in
    record {
      makes = λ before wanted reads is.
          subst (λ (h : Halted). Makes (Some name) (Err h) wanted before new (g.K.Sink.state c.args.out.now) (g.K.Sink.state c.args.out.now)) (sym c.of_write.ensures)
          (makes_unsaved c.args.part name (c.args.line.now ∷ []) (index_bytes book (by_cell (book.k0 * book.k1) rows)) [] reads c.in-Err.ensures.writes is c.in-Err.error
          (λ file has. subst (λ (n : ℕ). Has new name file ⊎ ((k : ℕ) × Has new name (Some (take k (index_bytes book (by_cell n rows)))))) c.requires.cells (c.in-Err.ensures.front file has))
          (λ e. c.in-Err.ensures.failed (ap Err e)) (λ e. c.in-Err.ensures.memory (ap Err e)));
    }
