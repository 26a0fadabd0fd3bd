use Rattle.vec_files.proofs.Spelled.{ivecs_are_read, ivecs_are_spelled}
use Rattle.vec_files.proofs.laws.ivecs_laws.Goals as goal

pub returns : goal.returns
returns c = record { read = ivecs_are_read; spelled = ivecs_are_spelled }
