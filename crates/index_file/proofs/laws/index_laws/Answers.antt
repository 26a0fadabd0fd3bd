use Rattle.index_file.proofs.Indexes.{are_read, are_spelled}
use Rattle.index_file.proofs.laws.index_laws.Goals as goal

pub returns : goal.returns
returns c = record { read = are_read; spelled = are_spelled }
