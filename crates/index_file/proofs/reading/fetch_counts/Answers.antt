use Rattle.std.proofs.Common.{◌∙◌, ap}
use Rattle.adc_ports.specs.Files.{bytes_of}
use Rattle.index_file.proofs.Moved.{moved, ahead_in}
use Rattle.index_file.proofs.Steps.{refuses_located}
use Rattle.index_file.proofs.reading.fetch_counts.Goals as goal

pub returns-in-Ok-clause-found : goal.returns-in-Ok-clause-found
returns-in-Ok-clause-found g c = λ files told.
    rw c.from.ensures (ahead_in c.args.version c.args.sizes.cells _ (bytes_of files c.args.name.now) c.args.at (c.in_ok-count.ensures.bytes files told) ∙ ap (moved c.args.at) c.in-Ok.ensures.value)

pub returns-in-Err-clause-found : goal.returns-in-Err-clause-found
returns-in-Err-clause-found g c = λ files told.
    rw c.located.ensures (refuses_located c.in-Err.fault c.args.at _ (ahead_in c.args.version c.args.sizes.cells _ (bytes_of files c.args.name.now) c.args.at (c.in_ok-count.ensures.bytes files told) ∙ ap (moved c.args.at) c.in-Err.ensures.value))
