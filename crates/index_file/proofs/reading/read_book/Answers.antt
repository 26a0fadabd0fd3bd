use Rattle.std.proofs.Common.{◌≡◌, take, refl, ◌∙◌}
use Rattle.std.proofs.lemmas.Result.{err_from_is_err_and}
use Rattle.adc_ports.specs.Files.{bytes_of}
use Rattle.vec_files.proofs.Stretches.{to_its_length}
use Rattle.index_file.proofs.Starting.{front_unstarted}
use Rattle.index_file.proofs.reading.read_book.Goals as goal

pub returns-in_err-version-clause-found : goal.returns-in_err-version-clause-found
returns-in_err-version-clause-found g c = λ files told.
    let p = err_from_is_err_and c.from_residual-in_err-version.result c.from_residual-in_err-version.ensures.1 in
    let bytes = bytes_of files c.args.name.now in
    let first : c.fetch_to.new.bytes.items ≡ take 12 bytes = c.in_ok-fetch_to.ensures.value files told (rw c.new-front.ensures.items refl) in
    rw (p.1, p.2) (front_unstarted bytes c.in_err-version.field-0.0 (c.in_err-version.ensures.found bytes (c.deref.ensures.value ∙ first)))

pub returns-clause-found : goal.returns-clause-found
returns-clause-found g c = λ files told.
    let bytes = bytes_of files c.args.name.now in
    let first : c.fetch_to.new.bytes.items ≡ take 12 bytes = c.in_ok-fetch_to.ensures.value files told (rw c.new-front.ensures.items refl) in
    let second = c.in_ok-fetch_to-2.ensures.value files (c.in_ok-fetch_to.ensures.reads.files ∙ told) (to_its_length c.fetch_to.new.bytes.items bytes 12 first) in
    c.read_inner.ensures.found bytes (c.in_ok-version.ensures.found bytes (c.deref.ensures.value ∙ first)) (c.deref-2.ensures.value ∙ second)
