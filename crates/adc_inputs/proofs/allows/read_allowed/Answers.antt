use Rattle.std.proofs.Common.{ℕ, Vec}
use Rattle.std.specs.Global.{Global}
use Rattle.play_script.specs.declared.Role.TheVariants as role
use Rattle.id_filter.specs.Allowed.{single_ranges, allowed_ranges}
use Rattle.adc_inputs.specs.Allows.{allow_input}
use Rattle.adc_inputs.specs.Numbers.{numbers_held}
use Rattle.adc_inputs.proofs.Reading.{reads_sound}
use Rattle.adc_inputs.proofs.allows.read_allowed.Goals as goal

pub returns : goal.returns
returns g c =
    let name = c.args.name.now in
    record {
      reads = reads_sound (λ (ids : Vec ℕ Global). single_ranges ids.items) c.ids_of.result (λ files. allowed_ranges (numbers_held files role.Allow name)) (λ files. allow_input files name) _ _ _
          c.in-Ok.ensures.reads.only c.in-Ok.ensures.reads.counts (λ files told. (c.in-Ok.ensures.reads.found files told).input) c.ids_of.ensures.reads;
    }
