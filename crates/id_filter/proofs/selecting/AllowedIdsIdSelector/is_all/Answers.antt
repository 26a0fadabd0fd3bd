use Rattle.std.proofs.Common.{sym}
use Rattle.id_filter.proofs.Whole.{none_whole}
use Rattle.id_filter.proofs.selecting.AllowedIdsIdSelector.is_all.Goals as goal

pub returns : goal.returns
returns c = sym (none_whole c.args.self.now)
