use Rattle.vec_files.proofs.Spelled.{bvecs_are_read, bvecs_are_spelled}
use Rattle.vec_files.proofs.laws.bvecs_laws.Goals as goal

pub returns : goal.returns
returns c = record { read = bvecs_are_read; spelled = bvecs_are_spelled }
