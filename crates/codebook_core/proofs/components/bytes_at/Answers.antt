use Rattle.std.proofs.Common.{ℕ, ◌-◌, length, Err, ap, ◌∙◌, arith}
use Rattle.std.specs.Int.{w8}
use Rattle.adc_ports.specs.Reading.{Malformed}
use Rattle.file_fields.proofs.Many.{numbers_cut}
use Rattle.codebook_core.proofs.components.bytes_at.Goals as goal

pub returns-then-bytes-at-clause-value : goal.returns-then-bytes-at-clause-value
returns-then-bytes-at-clause-value c = numbers_cut w8 c.args.count (length c.args.bytes.now - c.args.at) c.args.bytes.now c.args.at (omega arith) (omega arith) (omega arith) ∙ ap (λ (p : ℕ). Err (Malformed p)) (omega arith)
