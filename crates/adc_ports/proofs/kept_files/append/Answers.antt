use Rattle.std.proofs.Common.{◌∙◌, ◌++◌, [], Some, ap, sym, rules, unwrap_or}
use Rattle.adc_ports.specs.Kept.{kept_files, with_file}
use Rattle.adc_ports.proofs.KeptLemmas.{kept_with, kept_some, with_same_file}
use Rattle.adc_ports.proofs.kept_files.append.Goals as goal

pub returns-in-Ok-clause-ok : goal.returns-in-Ok-clause-ok
returns-in-Ok-clause-ok c =
    let there = kept_some c.args.kept.now c.args.name.now c.in-Some.file.now c.in-Some.ensures.value in
    kept_with c.args.kept.now (c.get_mut.follows.lender c.extend_from_slice.new.self) c.args.name.now c.extend_from_slice.new.self
    ((c.get_mut.follows.holds _).3 (search rules))
    ∙ ap (λ bytes. with_file (kept_files c.args.kept.now) c.args.name.now bytes)
    (c.in-Ok.ensures.items ∙ ap (λ o. unwrap_or o [] ++ c.args.bytes.now) (sym there))

pub returns-in-Err-clause-err : goal.returns-in-Err-clause-err
returns-in-Err-clause-err c =
    let there = kept_some c.args.kept.now c.args.name.now c.in-Some.file.now c.in-Some.ensures.value in
    kept_with c.args.kept.now (c.get_mut.follows.lender c.extend_from_slice.new.self) c.args.name.now c.extend_from_slice.new.self
    ((c.get_mut.follows.holds _).3 (search rules))
    ∙ with_same_file (kept_files c.args.kept.now) c.args.name.now c.extend_from_slice.new.self.items
    (there ∙ ap Some (sym c.in-Err.ensures.items))
