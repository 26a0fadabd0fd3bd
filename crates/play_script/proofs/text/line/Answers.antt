use Rattle.std.proofs.Common.{◌≡◌, ◌∷◌, ◌++◌, flat_map, arith}
use Rattle.std.proofs.lemmas.Grind.{common_steps}
use Rattle.play_script.specs.Words.{bytes_of}
use Rattle.play_script.proofs.WordByWord.{join_is_flat_map}
use Rattle.play_script.proofs.text.line.Goals as goal

pub returns : goal.returns
returns c =
    let whole : c.loop-word.text ≡ c.args.verb.now ++ flat_map (λ word. 32 ∷ bytes_of word) c.args.words.now = grind (arith, common_steps) in
    rw (c.push-2.ensures, whole, join_is_flat_map)
