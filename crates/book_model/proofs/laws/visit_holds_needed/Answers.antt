use Rattle.book_model.proofs.Visits.{visit_holds_needed}
use Rattle.book_model.proofs.laws.visit_holds_needed.Goals as goal

pub returns : goal.returns
returns c = visit_holds_needed
