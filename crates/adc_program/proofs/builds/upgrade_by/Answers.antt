use Rattle.std.proofs.Common.{◌≡◌, ◌∙◌, ℕ, ◌*◌, Ok, ap, ap₂}
use Rattle.cell_store.specs.State.{live_rows}
use Rattle.play_script.specs.Texts.{upgrade_done}
use Rattle.adc_program.specs.Rows.{cell_count}
use Rattle.adc_program.proofs.Cells.{cell_count_is}
use Rattle.adc_program.proofs.BuildTexts.{upgraded_is}
use Rattle.adc_program.proofs.builds.upgrade_by.Goals as goal

pub returns : goal.returns
returns g c =
    let index = c.args.index in
    let cells : c.used.result ≡ cell_count (index.book.k0 * index.book.k1) (live_rows index.store) = c.used.ensures ∙ cell_count_is index.store ∙ ap (λ (n : ℕ). cell_count n (live_rows index.store)) c.requires.fresh.cells in
    record {
      makes = λ before wanted reads is. c.write_index.ensures.makes before wanted reads (λ files told. is files told
          ∙ ap Ok (upgraded_is c.args.name.now (record { book = index.book; rows = live_rows index.store }) c.upgrade_done-line.result (c.upgrade_done-line.ensures ∙ ap₂ upgrade_done c.live.ensures.live cells)));
    }
