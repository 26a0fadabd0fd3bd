use Rattle.book_model.proofs.Visits.{answer_is_least}
use Rattle.book_model.proofs.laws.answer_is_least.Goals as goal

pub returns : goal.returns
returns c = answer_is_least
