use Rattle.index_file.proofs.Starting.{start_ok, start_other, start_long}
use Rattle.index_file.proofs.reading.read_start.Goals as goal

pub returns-in-Ok-book_length-clause-found : goal.returns-in-Ok-book_length-clause-found
returns-in-Ok-book_length-clause-found c = λ bytes is. start_ok bytes c.args.front.now is c.in-Ok.version c.in-Ok-book_length.size c.in-Ok.ensures c.in-Ok-book_length.ensures.value

pub returns-in-Err-book_length-clause-found : goal.returns-in-Err-book_length-clause-found
returns-in-Err-book_length-clause-found c = λ bytes is. rw c.located.ensures (start_long bytes c.args.front.now is c.in-Ok.version c.in-Err-book_length.fault c.in-Ok.ensures c.in-Err-book_length.ensures.value)

pub returns-in-Err-clause-found : goal.returns-in-Err-clause-found
returns-in-Err-clause-found c = λ bytes is. rw c.located-in-Err.ensures (start_other bytes c.args.front.now is c.in-Err.fault c.in-Err.ensures)
