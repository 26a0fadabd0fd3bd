use Rattle.file_fields.proofs.Laws.{fields_repeat as law}
use Rattle.file_fields.proofs.fields_repeat.Goals as goal

pub returns : goal.returns
returns g c = law _
