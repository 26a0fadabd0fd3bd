use Rattle.std.proofs.Common.{◌*◌, ◌+◌}
use Rattle.vec_files.proofs.Spelled.{ivecs_length}
use Rattle.vec_files.proofs.Standing.{found_of_ivecs_is}
use Rattle.vec_files.proofs.Stretches.{as_long}
use Rattle.vec_files.proofs.check.check_ivecs.Goals as goal

pub returns-clause-outcome : goal.returns-clause-outcome
returns-clause-outcome g c = λ files told. rw (found_of_ivecs_is) (c.check.ensures.outcome files told)

pub returns-clause-length : goal.returns-clause-length
returns-clause-length g c = λ files told. as_long (λ checked. checked.rows * (4 + 4 * checked.d)) _ ivecs_length c.check.result (files c.args.name.now) (returns-clause-outcome g c files told)
