use Rattle.std.proofs.Common.{length, ap, sym, ◌∙◌}
use Rattle.word_columns.proofs.Kept.{length-words_kept}
use Rattle.word_columns.proofs.words.WordColumns.count.Goals as goal

pub returns-clause-value : goal.returns-clause-value
returns-clause-value c = sym (length-words_kept c.self.inside.count c.self.inside.size c.self.inside.columns.items) ∙ ap length c.self.view_is
