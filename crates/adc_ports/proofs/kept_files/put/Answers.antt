use Rattle.std.proofs.Common.{◌∙◌, ap, string_bytes}
use Rattle.adc_ports.specs.Kept.{kept_files, with_file}
use Rattle.adc_ports.proofs.KeptLemmas.{kept_with}
use Rattle.adc_ports.proofs.kept_files.put.Goals as goal

pub returns-in-Ok-insert-clause-ok : goal.returns-in-Ok-insert-clause-ok
returns-in-Ok-insert-clause-ok c =
    kept_with c.args.kept.now c.insert.new.self (string_bytes c.in-Ok.key) c.args.bytes c.in-Ok-insert.ensures.updates
    ∙ ap (λ name. with_file (kept_files c.args.kept.now) name c.args.bytes.items) c.in-Ok.ensures.ok
