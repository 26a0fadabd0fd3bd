use Rattle.std.proofs.Common.{◌≡◌, true, false, List, [], min, get_or, sym, ap, ap₂, ◌∙◌}
use Rattle.std.proofs.lemmas.Nat.Bits.{bit_at_ones}
use Rattle.lane_kernels.specs.Table.{Table}
use Rattle.lane_kernels.specs.Sums.{code_sum}
use Rattle.code_blocks.proofs.Lanes.{get_or-codes_of}
use Rattle.prune_scan.proofs.MaskLemmas.{set_from}
use Rattle.prune_scan.proofs.block.near_of.Goals as goal

pub returns-then-not-pruning-clause-near : goal.returns-then-not-pruning-clause-near
returns-then-not-pruning-clause-near g c = record {
  open_before = λ _ i lt. set_from 4294967295 i (bit_at_ones 32 i lt);
  bounds = λ on. absurd (let off : c.args.pruning ≡ false = c.if-not-pruning.true in let broken : true ≡ false = sym on ∙ off in cc);
  lanes = λ on. absurd (let off : c.args.pruning ≡ false = c.if-not-pruning.true in let broken : true ≡ false = sym on ∙ off in cc);
}

pub returns-clause-near : goal.returns-clause-near
returns-clause-near g c = record {
  open_before = λ off. absurd (let on : c.args.pruning ≡ true = c.if-not-pruning.false in let broken : true ≡ false = sym on ∙ off in cc);
  bounds = λ _ i lt.
      let code = sym (get_or-codes_of c.words.result.now i lt) ∙ ap (λ codes. get_or codes i []) c.words.ensures.codes in
      c.sum32-bounds.ensures.sums.each i lt
      ∙ ap₂ (λ (ps : List Table) words. min 255 (code_sum g.S.Shape.widths ps words)) c.parts.ensures.value code;
  lanes = λ _. c.lanes_up_to-lanes.ensures;
}

pub returns-clause-none : goal.returns-clause-none
returns-clause-none g c off = absurd (let on : c.args.pruning ≡ true = c.if-not-pruning.false in let broken : true ≡ false = sym on ∙ off in cc)
