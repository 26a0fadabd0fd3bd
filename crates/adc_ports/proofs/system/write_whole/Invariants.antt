use Rattle.std.proofs.Common.{◌≤◌, length, take}
use Rattle.std.specs.Io.KnownBytes.{Appends}
use Rattle.adc_ports.proofs.system.write_whole.Given as goal

-- the bytes up to this place were written
abbrev pub invariant-loop : goal.invariant-loop
invariant-loop g l = (l.written ≤ length l.bytes) × Appends (g.W.Write.contents l.initial.to) (g.W.Write.contents l.to) (take l.written l.bytes)
