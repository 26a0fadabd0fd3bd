use Rattle.std.proofs.Common.{List, [], min, get_or, sym, ap, ap₂, ◌∙◌}
use Rattle.std.specs.Prelude.{nat_le}
use Rattle.lane_kernels.specs.Table.{Table}
use Rattle.lane_kernels.specs.Sums.{code_sum}
use Rattle.code_blocks.proofs.Lanes.{get_or-codes_of}
use Rattle.prune_scan.proofs.Adding.{codes_are}
use Rattle.radius_scan.proofs.block.near_lanes.Goals as goal

pub returns-clause-near : goal.returns-clause-near
returns-clause-near g c = record {
  each = λ i lt.
      let code = sym (get_or-codes_of c.words.result.now i lt) ∙ ap (λ codes. get_or codes i []) c.words.ensures.codes in
      c.lanes_up_to.ensures i lt ∙ ap (λ b. nat_le b c.args.most)
      (c.sum32-bounds.ensures.sums.each i lt
      ∙ ap₂ (λ (ps : List Table) words. min 255 (code_sum g.S.Shape.widths ps words)) c.parts.ensures.value code);
}

pub returns-clause-codes : goal.returns-clause-codes
returns-clause-codes g c = codes_are _ _ _ c.words.ensures.codes c.words.ensures.count c.requires.words
