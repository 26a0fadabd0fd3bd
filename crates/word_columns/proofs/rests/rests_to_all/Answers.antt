use Rattle.word_columns.proofs.Left.{all_small}
use Rattle.word_columns.proofs.rests.rests_to_all.Goals as goal

pub returns-clause-small : goal.returns-clause-small
returns-clause-small c =
    all_small c.args.scale c.args.x.now c.args.coarse.now c.requires.scale c.type_inv.x c.type_inv.coarse c.args.columns.now c.rests_by_length.new.into c.requires.short c.type_inv.columns c.rests_by_length.ensures.each
