use Rattle.std.proofs.Common.{◌<◌, ◌^◌, arith}
use Rattle.std.proofs.lemmas.Grind.{common_steps}
use Rattle.play_script.proofs.Digits.{has_room}
use Rattle.play_script.proofs.words.value.Goals as goal

pub overflow_mul-n : goal.overflow_mul-n
overflow_mul-n c =
    let small : c.loop-digit.n < 10 ^ 17 = has_room c.loop-digit.n c.loop-digit.digit-index c.loop-digit.invariant.small (omega arith) in grind (arith, common_steps)

pub overflow_add-n : goal.overflow_add-n
overflow_add-n c =
    let small : c.loop-digit.n < 10 ^ 17 = has_room c.loop-digit.n c.loop-digit.digit-index c.loop-digit.invariant.small (omega arith) in grind (arith, common_steps)
