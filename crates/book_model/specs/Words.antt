-- Words that stand in memory one after another.
use Rattle.std.specs.Prelude.{ℕ, ◌*◌, List, length, take, drop}
use Rattle.book_model.specs.Distance.{dist}

-- the distance of x to word i of these, which are each as long as x
abbrev pub word_distance : ℕ → List ℕ → List ℕ → ℕ → ℕ
word_distance f words x i = dist f x (take (length x) (drop (i * length x) words))
