use Rattle.std.proofs.Common.{arith}
use Rattle.word_columns.proofs.Kept.{length-words_kept, size_at, words_are}
use Rattle.word_columns.proofs.words.WordColumns.new.Goals as goal

pub returns-clause-words : goal.returns-clause-words
returns-clause-words c = words_are c.args.count c.args.size c.in_ok-columns.columns.items c.args.components.now c.requires.whole c.in_ok-columns.ensures.components

pub returns-clause-count : goal.returns-clause-count
returns-clause-count c = length-words_kept c.args.count c.args.size c.in_ok-columns.columns.items

pub returns-clause-sizes : goal.returns-clause-sizes
returns-clause-sizes c = λ w h.
    size_at c.args.count c.args.size c.in_ok-columns.columns.items w (omega (arith, h, length-words_kept c.args.count c.args.size c.in_ok-columns.columns.items))
