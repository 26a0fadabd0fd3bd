use Rattle.std.proofs.Common.{◌≡◌, [], ◌∷◌}
use Rattle.prune_scan.specs.Standing.{IsStanding}
use Rattle.table_tests.proofs.scan_questions.scan_cells.Given as goal

abbrev pub invariant-loop-cell : goal.invariant-loop-cell
invariant-loop-cell g l = record {
  standing : IsStanding (4 ∷ 4 ∷ 4 ∷ 4 ∷ []) l.tables l.state l.small l.best;
  room : l.small.g ≡ 1;
}
