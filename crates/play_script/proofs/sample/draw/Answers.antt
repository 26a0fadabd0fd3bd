use Rattle.std.proofs.Common.{◌≡◌, ◌+◌, ◌-◌, ◌/◌, ◌∷◌, ◌++◌, append_assoc, arith}
use Rattle.std.proofs.lemmas.List.{append-nil}
use Rattle.play_script.specs.Stream.{stream, next_number}
use Rattle.play_script.proofs.Drawing.{stream_step, stream_none}
use Rattle.play_script.proofs.sample.draw.Goals as goal

pub loop-preserved : goal.loop-preserved
loop-preserved c =
    let step = stream_step c.args.count c.loop.counter c.loop.x (omega arith) in
    let whole : c.loop.bytes.items ++ (next_number c.loop.x / 8388608 ∷ stream (c.args.count - (c.loop.counter + 1)) (next_number c.loop.x)) ≡ c.args.bytes.now.items ++ stream c.args.count c.args.start = rw step at c.loop.invariant.drawn in
    record { drawn = rw (c.in_ok-push.ensures.items, append_assoc) whole; small = omega arith }

pub returns : goal.returns
returns c = rw (stream_none c.args.count c.loop.counter c.loop.x (omega arith), append-nil) at c.loop.invariant.drawn
