use Rattle.std.proofs.Common.{ap, ◌∙◌, arith}
use Rattle.book_model.specs.Sums.{first_least}
use Rattle.word_columns.specs.Left.{rest_dist}
use Rattle.word_columns.proofs.Kept.{least_in}
use Rattle.word_columns.proofs.words.WordColumns.rest_nearest_in.Goals as goal

pub whole_as_front-found : goal.whole_as_front-found
whole_as_front-found g c = (omega (arith, c.count.ensures.value, c.requires.room), omega (arith, c.requires.room))

pub overflow_cast-result : goal.overflow_cast-result
overflow_cast-result g c = record {
  fits = omega (
    arith,
    c.first_least.ensures,
    ap first_least c.rest_distances.ensures.distances,
    least_in (rest_dist c.args.scale c.args.x.now c.args.coarse.now) c.args.self.now (omega (arith, c.count.ensures)),
    c.count.ensures.value,
    c.count.ensures.range,
  );
}

pub returns-clause-value : goal.returns-clause-value
returns-clause-value g c = c.first_least.ensures ∙ ap first_least c.rest_distances.ensures.distances

pub returns-clause-within : goal.returns-clause-within
returns-clause-within g c =
    omega (arith, c.first_least.ensures, ap first_least c.rest_distances.ensures.distances, least_in (rest_dist c.args.scale c.args.x.now c.args.coarse.now) c.args.self.now (omega (arith, c.count.ensures)))
