use Rattle.std.proofs.Common.{◌≡◌, ◌*◌, ℕ, List, length, ap, sym, ◌∙◌, arith}
use Rattle.book_model.specs.Bound.{Tables, picked_sum}
use Rattle.shape_core.specs.Word.{code_of_words}
use Rattle.adc_tables.specs.Full.{table_start, tables_in}
use Rattle.adc_tables.proofs.Views.{g_is, tables_are}
use Rattle.adc_tables.proofs.Codes.{distance_is}
use Rattle.adc_tables.proofs.full.FullTables.distance.Goals as goal

pub picked_words-requires-clause-room : goal.picked_words-requires-clause-room
picked_words-requires-clause-room g c =
    let n : length c.args.code.now ≡ c.self.inside.g = c.requires.words ∙ sym (g_is _ _ _ _ c.self.view_is) in
    omega (arith, ap (λ k. table_start g.S.Shape.widths (k * length g.S.Shape.widths)) n, c.self.invariant.entries.count, ap length c.deref.ensures.value)

pub returns-clause-picked : goal.returns-clause-picked
returns-clause-picked g c =
    let ws = g.S.Shape.widths in
    let code = code_of_words ws c.args.code.now in
    let n : length c.args.code.now ≡ c.self.inside.g = c.requires.words ∙ sym (g_is _ _ _ _ c.self.view_is) in
    c.picked_words.ensures.sum ∙ ap (λ (e : List ℕ). picked_sum (tables_in ws (length c.args.code.now * length ws) e) code) c.deref.ensures.value
    ∙ ap (λ k. picked_sum (tables_in ws (k * length ws) c.self.inside.entries.items) code) n ∙ ap (λ (t : Tables). picked_sum t code) (tables_are _ _ _ _ c.self.view_is)

pub returns-clause-distance : goal.returns-clause-distance
returns-clause-distance g c book query is =
    let picked : c.picked_words.result ≡ picked_sum c.args.self.now.tables (code_of_words g.S.Shape.widths c.args.code.now) = returns-clause-picked g c in
    picked ∙ distance_is g.S.Shape.widths book query c.args.self.now is c.args.code.now c.requires.words
