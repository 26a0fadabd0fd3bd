use Rattle.std.proofs.Common.{rules, ◌≡◌, ℕ, List, [], ◌∷◌, ◌++◌, length, ap, ◌∙◌}
use Rattle.book_model.specs.Bound.{Tables, picked_sum}
use Rattle.shape_core.specs.Word.{code_of_words}
use Rattle.best_k.specs.Least.{Kept, least}
use Rattle.query_engine.proofs.CellBound.{front}
use Rattle.residual_scan.proofs.group.take_lane.Goals as goal

pub returns-clause-offered : goal.returns-clause-offered
returns-clause-offered g c seen held =
    let ts : Tables = c.args.low.now.tables ++ c.args.high.now.tables in
    let len : length c.get.new.into ≡ length c.words-g.result.now = search rules in
    let words = front c.get.new.into _ _ len ∙ c.get.ensures in
    let distance = c.pair_distance-distance.ensures.distance ∙ ap (λ (ws : List ℕ). picked_sum ts (code_of_words g.S.Shape.widths ws)) words in
    c.offer.ensures.of_all seen held ∙ ap (λ d. least c.args.best.now.k (seen ++ (d, c.args.id) ∷ [])) distance

pub returns-clause-k : goal.returns-clause-k
returns-clause-k g c = ap (λ (b : Kept). b.k) c.offer.ensures.kept

pub returns-clause-room : goal.returns-clause-room
returns-clause-room g c = ap (λ (b : Kept). b.room) c.offer.ensures.kept
