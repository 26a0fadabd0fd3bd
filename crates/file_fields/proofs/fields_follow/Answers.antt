use Rattle.file_fields.proofs.Laws.{fields_follow as law}
use Rattle.file_fields.proofs.fields_follow.Goals as goal

pub returns : goal.returns
returns g c = law _ _
