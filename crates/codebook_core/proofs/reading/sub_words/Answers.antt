use Rattle.std.proofs.Common.{ℕ, List, ap, sym, ◌∙◌, sum}
use Rattle.adc_ports.specs.Reading.{numbers_at}
use Rattle.codebook_core.specs.Spelling.{component_width}
use Rattle.codebook_core.specs.View.{subs_of}
use Rattle.file_fields.proofs.Many.{made}
use Rattle.codebook_core.proofs.Flat.{made_given, subs_flat}
use Rattle.codebook_core.proofs.reading.sub_words.Goals as goal

pub returns-clause-value : goal.returns-clause-value
returns-clause-value c =
    let w = component_width c.args.version in
    let total = c.total.ensures ∙ ap (λ (l : List ℕ). sum l) c.requires.sizes in
    made_given (subs_of c.args.widths.now 0 c.args.lengths.now) c.components.result _ _ (subs_flat w c.args.widths.now 0 c.args.lengths.now c.args.bytes.now c.args.at
    ∙ ap (λ (k : ℕ). made (subs_of c.args.widths.now 0 c.args.lengths.now) (numbers_at w k c.args.bytes.now c.args.at)) (sym total)) c.components.ensures.value
