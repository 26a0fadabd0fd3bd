-- Each name computes from its widths.
use Rattle.std.proofs.Common.{◌≡◌, refl, arith}
use Rattle.std.specs.Fmt.{digits}
use Rattle.play_script.proofs.lines.shape_name.Goals as goal

pub returns-in-0-clause-value : goal.returns-in-0-clause-value
unfolding digits
returns-in-0-clause-value c = rw c.in-0.is refl

pub returns-in-1-clause-value : goal.returns-in-1-clause-value
unfolding digits
returns-in-1-clause-value c = rw c.in-1.is refl

pub returns-in-2-clause-value : goal.returns-in-2-clause-value
unfolding digits
returns-in-2-clause-value c = rw c.in-2.is refl

pub returns-in_default-clause-value : goal.returns-in_default-clause-value
unfolding digits
returns-in_default-clause-value c = let last : c.args.shape ≡ 3 = omega arith in rw last refl
