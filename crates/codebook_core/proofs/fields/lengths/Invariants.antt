use Rattle.std.proofs.Common.{◌≡◌, ◌≤◌, ◌-◌, ◌+◌, length, sum}
use Rattle.codebook_core.specs.Reading.{lengths_at}
use Rattle.codebook_core.proofs.Loop.{with_front}
use Rattle.codebook_core.proofs.fields.lengths.Given as goal

abbrev pub invariant-loop-i : goal.invariant-loop-i
invariant-loop-i l = record {
  so_far : with_front l.found.items (lengths_at (l.count - l.i) l.rest l.bytes l.at) ≡ lengths_at l.count l.total l.bytes l.fn.at;
  within : l.at ≤ length l.bytes;
  sum : sum l.found.items + l.rest ≡ l.total;
}
