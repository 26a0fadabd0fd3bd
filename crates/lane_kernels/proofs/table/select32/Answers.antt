use Rattle.std.proofs.Common.{◌%◌, ◌^◌, get_or, ap, ◌∙◌}
use Rattle.std.proofs.Math.Nat.{mod-eq_of_lt}
use Rattle.lane_kernels.proofs.table.select32.Goals as goal

pub returns-clause-entries : goal.returns-clause-entries
returns-clause-entries c = record {
  long = c.picked.ensures.long;
  each = λ k h.
      c.picked.ensures.each k h
      ∙ ap (λ j. get_or c.args.table.now.entries j 0) (ap (λ w. get_or c.args.indices.now k 0 % 2 ^ w) c.width.ensures ∙ mod-eq_of_lt (c.requires.indices k h));
}
