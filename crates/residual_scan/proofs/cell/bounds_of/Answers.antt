use Rattle.std.proofs.Common.{◌*◌, List, [], length, min, get_or, refl, sym, ap, ap₂, ◌∙◌}
use Rattle.lane_kernels.specs.Table.{Table}
use Rattle.lane_kernels.specs.Sums.{code_sum}
use Rattle.code_blocks.proofs.Lanes.{get_or-codes_of}
use Rattle.prune_scan.proofs.Adding.{codes_are}
use Rattle.residual_scan.proofs.Parts.{bound_lanes}
use Rattle.residual_scan.proofs.cell.bounds_of.Goals as goal

pub returns-clause-bounds : goal.returns-clause-bounds
returns-clause-bounds g c late ts count filled i lt =
    let ws = g.S.Shape.widths in
    let code = sym (get_or-codes_of c.words.result.now i lt) ∙ ap (λ codes. get_or codes i []) c.words.ensures.codes in
    let long = (codes_are _ _ _ c.words.ensures.codes c.words.ensures.count refl).each i lt in
    c.sum32.ensures.sums.each i lt ∙ ap₂ (λ (ps : List Table) words. min 255 (code_sum ws ps words)) filled code
    ∙ bound_lanes ws c.args.cut.now.step ts (get_or c.args.block.now i []) (count ∙ ap (λ n. n * length ws) (sym long))
