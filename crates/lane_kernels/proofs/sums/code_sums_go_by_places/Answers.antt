use Rattle.std.proofs.Common.{◌≡◌, ℕ, ◌*◌, length, get_or, subst}
use Rattle.book_model.specs.Sums.{sum_below}
use Rattle.shape_core.specs.Word.{code_of_words}
use Rattle.lane_kernels.specs.Sums.{code_sum, entries_at}
use Rattle.lane_kernels.proofs.Picks.{code_sum-places}
use Rattle.lane_kernels.proofs.sums.code_sums_go_by_places.Goals as goal

pub returns : goal.returns
returns g c = λ tables words.
    let ws = g.S.Shape.widths in
    let P : ℕ → Type 0 = λ n. code_sum ws tables words ≡ sum_below (length words * n) (λ j. get_or (entries_at tables j) (get_or (code_of_words ws words) j 0) 0) in
    subst P g.S.Shape.laws.fields_are (code_sum-places ws tables words)
