use Rattle.std.proofs.Common.{◌≡◌, ◌+◌, ◌≤◌}
use Rattle.cell_store.specs.Shown.{shown}
use Rattle.query_engine.specs.Progress.{visit_length}
use Rattle.query_engine.specs.Scanning.{IsVisit, GoesOn}
use Rattle.query_engine.proofs.scanning.Visit.go_on.Given as goal

-- the cells so far are visited, and no more than the visit has
abbrev pub invariant-loop-n : goal.invariant-loop-n
invariant-loop-n g l = record {
  is : IsVisit g.C.Scanner.is_ready l.asked l.snapshot l.self l.meters;
  given : l.self.walk.given ≡ l.initial.self.walk.given + l.n;
  within : l.self.walk.given ≤ visit_length (shown l.snapshot) l.needed l.initial.self.ranks;
  goes : GoesOn g.C.Scanner.went l.asked l.snapshot l.initial.self l.self l.initial.meters l.meters;
}
