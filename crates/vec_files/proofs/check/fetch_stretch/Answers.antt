use Rattle.std.proofs.Common.{◌∙◌, ap, sym, ℕ, drop, length, take}
use Rattle.adc_ports.specs.Files.{bytes_of}
use Rattle.vec_files.proofs.Stretches.{to_its_length, ends_there, keeps_from}
use Rattle.vec_files.proofs.check.fetch_stretch.Goals as goal

pub returns-clause-rest : goal.returns-clause-rest
returns-clause-rest g c = λ files told is.
    let bytes = bytes_of files c.args.name.now in
    let end = ends_there bytes c.args.from.at c.args.from.end c.in_ok-count.count 8192 c.args.from.within is
    (c.in_ok-count.ensures.count files told ∙ ap (λ (n : ℕ). length (take n (drop c.args.from.at bytes))) c.requires.long) in
    let stretch = to_its_length _ (drop c.args.from.at bytes) (length c.args.buffer.now) (c.in_ok-count.ensures.bytes files told) in
    keeps_from c.args.width bytes c.args.from c.ended_by-ended.result c.over_stretch.result c.ended_by-ended.ensures.at c.ended_by-ended.ensures.rows c.ended_by-ended.ensures.d
    (c.over_stretch.ensures.rest bytes (sym is ∙ sym (c.ended_by-ended.ensures.end ∙ end)) (rw c.ended_by-ended.ensures.at stretch))
