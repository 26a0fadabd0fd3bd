use Rattle.std.proofs.Common.{◌≡◌, ◌∙◌, ℕ, List, length, take, drop, ap}
use Rattle.adc_ports.specs.Files.{bytes_of}
use Rattle.adc_inputs.proofs.InputLemmas.{all_fetched, all_reads}
use Rattle.adc_inputs.proofs.inputs.fetch_whole.Goals as goal

pub returns-in-Ok-fetch-clause-reads : goal.returns-in-Ok-fetch-clause-reads
returns-in-Ok-fetch-clause-reads g c =
    let room : length c.deref_mut.result.now ≡ c.args.size = c.deref_mut.ensures.len ∙ c.in-Ok.ensures.len in
    all_reads c.args.role c.args.name.now c.in-Ok-fetch.count _ c.all_read.result _ _ c.in-Ok-fetch.ensures.reads c.in-Ok-fetch.ensures.counts c.all_read.ensures.all c.all_read.ensures.short
    (λ files told.
    let bytes : List ℕ = bytes_of files c.args.name.now in
    all_fetched c.args.size c.in-Ok-fetch.count c.in-Ok.bytes.len bytes c.fetch.new.into _ (c.requires files told) c.in-Ok.ensures.len (c.fetch.auto.into ∙ room)
    (c.in-Ok-fetch.ensures.count files told ∙ ap (λ (k : ℕ). length (take k (drop 0 bytes))) room)
    (c.in-Ok-fetch.ensures.bytes files told ∙ ap (λ (k : ℕ). take k (drop 0 bytes)) room))
