use Rattle.std.proofs.Common.{◌≡◌, ◌+◌, ◌-◌, ◌*◌, ◌≤◌, length, take}
use Rattle.std.specs.List.{AllByRecursion}
use Rattle.shape_core.specs.Word.{IsWord}
use Rattle.index_file.specs.Reading.{words_at}
use Rattle.index_file.proofs.Words.{with_front}
use Rattle.index_file.proofs.rows.read_words.Given as goal

abbrev pub invariant-loop-i : goal.invariant-loop-i
invariant-loop-i g l = record {
  place : l.place ≡ l.at + 2 * l.i;
  within : l.place ≤ length l.part;
  words : AllByRecursion (IsWord g.S.Shape.widths) (take l.i l.into);
  so_far : with_front (take l.i l.into) (words_at g.S.Shape.widths (length l.into - l.i) l.part l.place) ≡ words_at g.S.Shape.widths (length l.into) l.part l.at;
}
