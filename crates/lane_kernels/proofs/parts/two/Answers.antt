use Rattle.std.proofs.Common.{◌*◌, ◌%◌, leb, get_or, ◌∙◌, arith, leb-true, leb-false}
use Rattle.lane_kernels.proofs.Lanes.{meets}
use Rattle.lane_kernels.proofs.parts.two.Goals as goal

pub returns : goal.returns
returns c = record {
  long = c.choose.ensures.long;
  each = λ k h.
      let x = get_or c.args.v k 0 in
      c.choose.ensures.each k h ∙ rw (c.one-2.ensures.each k h, c.one.ensures.each k h)
      (meets c.args.entries.now (leb 128 (x * 8 % 256)) _ _ _ (λ e. omega (arith, leb-true _ _ e)) (λ e. omega (arith, leb-false _ _ e)));
}
