use Rattle.std.proofs.Common.{length, take, arith}
use Rattle.std.proofs.Math.ListN.{length-set}
use Rattle.shape_core.specs.Word.{IsWord}
use Rattle.index_file.specs.Reading.{words_at}
use Rattle.index_file.proofs.Words.{take_written, all_push, goes_on}
use Rattle.index_file.proofs.rows.read_words.Goals as goal

pub loop-i-preserved : goal.loop-i-preserved
loop-i-preserved g c =
    let widths = g.S.Shape.widths in
    let xs = c.loop-i.into in
    let i = c.loop-i.i in
    let word = c.in_ok-word.word in
    record {
      place = omega (arith, c.loop-i.invariant.place);
      within = c.in_ok-word.ensures.within;
      words = rw (take_written xs i word (omega arith)) (all_push (IsWord widths) (take i xs) word c.loop-i.invariant.words c.in_ok-word.ensures.word);
      so_far = rw (take_written xs i word (omega arith), length-set xs i word)
          (goes_on widths c.args.part.now (length xs) i c.loop-i.place (words_at widths (length xs) c.args.part.now c.args.at) (take i xs) word (omega arith) c.in_ok-word.ensures.value c.loop-i.invariant.so_far);
    }
