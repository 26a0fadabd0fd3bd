use Rattle.std.proofs.Common.{◌≡◌, ℕ, length, subst, arith}
use Rattle.half_tables.specs.Residual.{residual_word}
use Rattle.residual_scan.proofs.Best.{IsBest}
use Rattle.residual_scan.proofs.Least.{nearest_is_best}
use Rattle.residual_scan.proofs.nearest.nearest_word.Goals as goal

pub returns-clause-nearest : goal.returns-clause-nearest
returns-clause-nearest c = λ list count rows.
    let all : c.loop-i.i ≡ length list = omega arith in
    let best = subst (λ (n : ℕ). IsBest (residual_word c.args.scale c.args.words.now c.args.x.now c.args.coarse.now) n c.loop-i.best) all c.loop-i.invariant.best in
    nearest_is_best c.args.scale list c.args.words.now c.args.x.now c.args.coarse.now c.loop-i.best rows best
