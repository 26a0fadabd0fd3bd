use Rattle.std.proofs.Common.{ℕ, take, drop, ap, ◌∙◌}
use Rattle.adc_ports.specs.Files.{bytes_of}
use Rattle.index_file.proofs.reading.fetch_stretch.Goals as goal

pub returns-clause-rest : goal.returns-clause-rest
returns-clause-rest g c = λ files told.
    c.over_stretch.ensures.rest (bytes_of files c.args.name.now) (c.in_ok-count.ensures.bytes files told ∙ ap (λ (n : ℕ). take n (drop c.args.at (bytes_of files c.args.name.now))) c.requires.long)
