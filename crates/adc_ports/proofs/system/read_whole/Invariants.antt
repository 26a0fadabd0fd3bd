use Rattle.std.proofs.Common.{◌≡◌, ◌≤◌, ℕ, length, take, drop}
use Rattle.std.specs.Io.KnownBytes.{Consumes}
use Rattle.adc_ports.proofs.system.read_whole.Given as goal

-- what lies past the bytes that were read is as it was, and those are what the reader gave
abbrev pub invariant-loop : goal.invariant-loop
invariant-loop g l = (l.filled ≤ length l.into) × ((k : ℕ) → l.filled ≤ k → drop k l.into ≡ drop k l.fn.into)
    × Consumes (g.F.Read.remaining l.initial.from) (g.F.Read.remaining l.from) (take l.filled l.into)
