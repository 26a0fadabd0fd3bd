use Rattle.prune_scan.proofs.Adding.{still_standing}
use Rattle.table_tests.proofs.scan_questions.scan_next.Goals as goal

pub returns-clause-standing : goal.returns-clause-standing
returns-clause-standing g c = still_standing _ _ _ _ _ _ _ _ _ c.requires.standing c.scan_cell.ensures.adds
