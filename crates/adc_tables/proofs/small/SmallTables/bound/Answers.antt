use Rattle.std.proofs.Common.{◌≡◌, ◌*◌, ◌<◌, List, length, get_or, min, lit<, sym, ap, ap₂, subst, ◌∙◌, arith}
use Rattle.book_model.specs.Bound.{bound, threshold}
use Rattle.shape_core.specs.Word.{code_of_words}
use Rattle.lane_kernels.specs.Table.{Table}
use Rattle.lane_kernels.specs.Sums.{AreTables, code_sum}
use Rattle.adc_tables.specs.Small.{Small, small_of}
use Rattle.adc_tables.proofs.Smalls.{bound_is, small_count, lane_is}
use Rattle.adc_tables.proofs.Codes.{far}
use Rattle.adc_tables.proofs.small.SmallTables.bound.Goals as goal

pub returns-clause-sum : goal.returns-clause-sum
returns-clause-sum g c =
    let parts = c.deref.ensures.value ∙ ap (λ (s : Small). s.parts) c.self.view_is in
    c.sum32-bounds.ensures.sums.each 0 (lit< tt)
    ∙ ap₂ (λ (ps : List Table) words. min 255 (code_sum g.S.Shape.widths ps words)) parts
    (lane_is c.loop-w.words c.args.code.now _ (omega arith) (omega (arith, c.requires)) (λ k d lt. c.loop-w.invariant.done k d (omega arith)))

pub returns-clause-value : goal.returns-clause-value
returns-clause-value g c full is =
    let ws = g.S.Shape.widths in
    let sum : get_or c.sum32-bounds.result 0 0 ≡ min 255 (code_sum ws c.args.self.now.parts c.args.code.now) = returns-clause-sum g c in
    let parts = ap (λ (s : Small). s.parts) is in
    let are : AreTables ws c.self.inside.g c.self.inside.parts.items = c.self.invariant.tables in
    let count = small_count ws full c.args.self.now.theta0 c.self.inside.g c.self.inside.parts.items (ap (λ (s : Small). s.parts) c.self.view_is ∙ parts) are in
    let size : c.self.inside.g ≡ length c.args.code.now = ap (λ (s : Small). s.g) c.self.view_is ∙ sym c.requires.words in
    sum ∙ ap (λ (ps : List Table). min 255 (code_sum ws ps c.args.code.now)) parts
    ∙ bound_is ws full c.args.self.now.theta0 c.args.code.now (count ∙ ap (λ n. n * length ws) size)

pub returns-clause-far : goal.returns-clause-far
unfolding small_of
returns-clause-far g c full book query theta is filled above =
    let value : get_or c.sum32-bounds.result 0 0 ≡ bound full.tables c.args.self.now.theta0 (code_of_words g.S.Shape.widths c.args.code.now) = returns-clause-value g c full is in
    far g.S.Shape.widths book query full filled c.args.code.now (c.requires.words ∙ ap (λ (s : Small). s.g) is) c.args.self.now.theta0 theta
    (subst (λ n. threshold full.tables c.args.self.now.theta0 theta < n) value above)
