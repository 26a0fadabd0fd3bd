use Rattle.word_columns.proofs.Places.{all_small}
use Rattle.word_columns.proofs.blocks.distances_to_all.Goals as goal

pub returns-clause-small : goal.returns-clause-small
returns-clause-small c =
    all_small c.args.scale c.args.columns.now c.args.x.now c.by_length.new.into c.requires.scale c.requires.short c.type_inv.x c.type_inv.columns c.by_length.ensures.each
