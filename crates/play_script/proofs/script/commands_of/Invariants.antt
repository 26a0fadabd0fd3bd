-- What was read and what is left say what all lines say.
use Rattle.std.proofs.Common.{◌≡◌, ◌<◌, ◌≤◌, length, vec_len}
use Rattle.play_script.specs.Gives.{with_front}
use Rattle.play_script.specs.Grammar.{commands_from, lines_of}
use Rattle.play_script.proofs.script.commands_of.Given as goal

abbrev pub invariant-loop-rest : goal.invariant-loop-rest
invariant-loop-rest g l = record {
  outcome : with_front l.commands.items (commands_from g.C.Spoken.said l.n (lines_of l.rest)) ≡ commands_from g.C.Spoken.said 1 (lines_of l.bytes);
  few : vec_len l.commands < l.n;
  counted : l.n ≤ 8388609;
}

abbrev pub decreases-loop-rest : goal.decreases-loop-rest
decreases-loop-rest g l = length l.rest
