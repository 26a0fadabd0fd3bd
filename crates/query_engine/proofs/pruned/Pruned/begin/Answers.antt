use Rattle.std.proofs.Common.{◌≡◌, false, refl, ap, arith}
use Rattle.best_k.specs.Least.{Kept}
use Rattle.prune_scan.proofs.Standing.{stands_fresh}
use Rattle.query_engine.proofs.pruned.Pruned.begin.Goals as goal

pub returns-clause-fresh : goal.returns-clause-fresh
returns-clause-fresh g c book query filled =
    let k : c.start.new.self.k ≡ c.args.k = ap (λ (b : Kept). b.k) c.start.ensures in
    stands_fresh g.S.Shape.widths c.args.self.now.tables book query (record { rows = 0; pruning = false; theta0 = 0 }) c.args.self.now.small c.start.new.self filled (omega (arith, k, c.requires.some))
    (ap (λ (b : Kept). b.pairs) c.start.ensures) refl refl
