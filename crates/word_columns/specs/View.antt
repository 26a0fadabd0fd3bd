-- What the fields of WordColumns stand for.
use Rattle.std.specs.Prelude.{ℕ, ◌≤◌, List}
use Rattle.word_columns.specs.declared.words.WordColumns.TheInside.{Inside}
use Rattle.word_columns.specs.Columns.{words_kept, AreColumns}

abbrev pub view_words : Inside → List (List ℕ)
view_words words = words_kept words.count words.size words.columns.items

pub record IsKept (words : Inside) : Type 0 where
  pub some : (1 ≤ words.count) × (words.count ≤ 1024)
  pub sizes : (1 ≤ words.size) × (words.size ≤ 1024)
  pub columns : AreColumns words.size words.columns.items words.norms.items words.count
