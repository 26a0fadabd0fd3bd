-- The bytes so far and the rest of the stream are the whole of it.
use Rattle.std.proofs.Common.{◌≡◌, ◌-◌, ◌<◌, ◌^◌, ◌++◌}
use Rattle.play_script.specs.Stream.{stream}
use Rattle.play_script.proofs.sample.draw.Given as goal

abbrev pub invariant-loop : goal.invariant-loop
invariant-loop l = record {
  drawn : l.bytes.items ++ stream (l.count - l.counter) l.x ≡ l.fn.bytes.items ++ stream l.count l.start;
  small : l.x < 2 ^ 32;
}
