-- The value of the digits so far.
use Rattle.std.proofs.Common.{◌≡◌, ◌<◌, ◌^◌, true, take}
use Rattle.std.specs.Char.{is_ascii_digit}
use Rattle.std.specs.List.{list_all}
use Rattle.play_script.specs.Grammar.{value_of}
use Rattle.play_script.proofs.words.value.Given as goal

abbrev pub invariant-loop-digit : goal.invariant-loop-digit
invariant-loop-digit l = record {
  digits : list_all is_ascii_digit (take l.digit-index l.word) ≡ true;
  value : l.n ≡ value_of (take l.digit-index l.word);
  small : l.n < 10 ^ l.digit-index;
}
