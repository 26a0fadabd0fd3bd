use Rattle.std.proofs.Common.{◌∙◌, ℕ, List, [], ◌∷◌, slice_index_or, sym, ap}
use Rattle.book_model.specs.Book.{shapes}
use Rattle.cell_store.specs.State.{live_rows}
use Rattle.adc_program.specs.Rows.{cell_count}
use Rattle.adc_program.proofs.Cells.{cell_count_is}
use Rattle.adc_program.proofs.IndexTexts.{info_is}
use Rattle.adc_program.proofs.Putting.{puts_as}
use Rattle.adc_program.proofs.infos.write_index.Goals as goal

pub returns : goal.returns
returns g c =
    let index = c.args.index in
    record {
      puts = puts_as c.write_line.result
          (ap (λ (l : List ℕ). l ∷ []) (sym (c.info_line-line.ensures ∙ info_is (record { book = index.book; rows = live_rows index.store }) c.d.result c.h.result c.k0.result c.k1.result c.g.result c.live.result c.used.result (slice_index_or shapes c.args.shape []) c.scale_of.result
          c.d.ensures.value c.h.ensures.value c.k0.ensures.value c.k1.ensures.value (c.requires.shape ∙ sym c.d.ensures.shape) c.g.ensures.value c.live.ensures.live
          (c.used.ensures ∙ cell_count_is index.store ∙ ap (λ (n : ℕ). cell_count n (live_rows index.store)) c.requires.cells) c.scale_of.ensures)))
          c.write_line.ensures.puts;
    }
