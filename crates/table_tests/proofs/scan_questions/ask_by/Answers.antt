use Rattle.std.proofs.Common.{◌≤◌, [], refl, ap, arith}
use Rattle.best_k.specs.Least.{Kept}
use Rattle.prune_scan.proofs.Standing.{stands_fresh}
use Rattle.table_tests.proofs.scan_questions.ask_by.Goals as goal

pub scan_cells-requires-clause-standing : goal.scan_cells-requires-clause-standing
scan_cells-requires-clause-standing g c =
    let made = c.in-Ok-with_room.ensures in
    let some : 1 ≤ c.in-Ok-with_room.best.k = omega (arith, c.requires.some, ap (λ (b : Kept). b.k) made) in
    record {
      book = c.args._book.now;
      query = c.args.question.now.query;
      seen = [];
      stands = stands_fresh _ _ _ _ _ _ _ c.requires.filled some (ap (λ (b : Kept). b.pairs) made) refl refl;
    }
