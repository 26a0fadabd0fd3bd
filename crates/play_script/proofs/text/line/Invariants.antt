-- What is printed and what is left are the whole line, and there is room for what is left.
use Rattle.std.proofs.Common.{◌≡◌, ◌+◌, ◌<◌, ◌∷◌, ◌++◌, length, drop, sum_by, flat_map}
use Rattle.play_script.specs.Words.{bytes_of, room_of}
use Rattle.play_script.proofs.text.line.Given as goal

abbrev pub invariant-loop-word : goal.invariant-loop-word
invariant-loop-word l = record {
  printed : l.text ++ flat_map (λ word. 32 ∷ bytes_of word) (drop l.word-index l.words) ≡ l.verb ++ flat_map (λ word. 32 ∷ bytes_of word) l.words;
  room : length l.text + sum_by (λ word. room_of word + 1) (drop l.word-index l.words) < 160;
}
