use Rattle.std.proofs.Common.{◌≡◌, ℕ, List, take, Ok, sym, subst}
use Rattle.codebook_core.specs.Front.{AreWidths}
use Rattle.codebook_core.specs.View.{view_of}
use Rattle.codebook_core.specs.Columns.{IsBook}
use Rattle.codebook_core.specs.Reading.{body_at}
use Rattle.codebook_core.proofs.Shapes.{shape_table, shape_widths}
use Rattle.codebook_core.proofs.reading.book.Goals as goal

pub columns_of-requires-clause-widths : goal.columns_of-requires-clause-widths
columns_of-requires-clause-widths g c =
    let same : take c.FIELDS.result c.WIDTHS-table.result ≡ g.S.Shape.widths = rw (c.FIELDS.ensures, c.WIDTHS-table.ensures) (shape_table _ _ _ _ g.S.Shape.laws) in
    subst AreWidths (sym same) (shape_widths _ _ _ _ g.S.Shape.laws)

pub new-requires : goal.new-requires
new-requires g c =
    let same : take c.FIELDS.result c.WIDTHS-table.result ≡ g.S.Shape.widths = rw (c.FIELDS.ensures, c.WIDTHS-table.ensures) (shape_table _ _ _ _ g.S.Shape.laws) in
    let P : List ℕ → Type 0 = λ ws. IsBook ws c.in_ok-parts.parts c.in_ok-columns.columns in
    subst P same (record { kept = c.in_ok-parts.ensures.kept; words = c.in_ok-columns.ensures })

pub returns-clause-value : goal.returns-clause-value
returns-clause-value g c =
    let same : take c.FIELDS.result c.WIDTHS-table.result ≡ g.S.Shape.widths = rw (c.FIELDS.ensures, c.WIDTHS-table.ensures) (shape_table _ _ _ _ g.S.Shape.laws) in
    let P : List ℕ → Type 0 = λ ws. body_at c.args.front ws c.args.bytes.now c.args.at ≡ Ok (view_of ws c.in_ok-parts.parts, c.in_ok-parts.at) in
    rw c.new.ensures (subst P same c.in_ok-parts.ensures.value)
