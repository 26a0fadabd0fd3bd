use Rattle.std.proofs.Common.{◌∙◌, sym, refl, length, lt-ltb, le-ltb}
use Rattle.vec_files.specs.Rest.{whole_of}
use Rattle.vec_files.proofs.Callers.{is_of}
use Rattle.vec_files.proofs.check.check.Goals as goal

pub returns-then-size-gt-MAX_BYTES-clause-outcome : goal.returns-then-size-gt-MAX_BYTES-clause-outcome
unfolding whole_of
returns-then-size-gt-MAX_BYTES-clause-outcome g c = λ files told.
    let file = is_of length (files c.args.name.now) c.in-Some.size (sym (c.in_ok-size.ensures.value files told) ∙ c.in-Some.is) in
    rw (file.1, file.2, lt-ltb 2147483648 c.in-Some.size c.if-size-gt-MAX_BYTES.true) refl

pub returns-clause-outcome : goal.returns-clause-outcome
unfolding whole_of
returns-clause-outcome g c = λ files told.
    let file = is_of length (files c.args.name.now) c.in-Some.size (sym (c.in_ok-size.ensures.value files told) ∙ c.in-Some.is) in
    let answers = c.to_the_end.ensures.rest files (c.in_ok-size.ensures.reads.files ∙ told) (rw file.1 (c.start.ensures.end ∙ sym file.2)) in
    rw (file.1, file.2, le-ltb 2147483648 c.in-Some.size c.if-size-gt-MAX_BYTES.false) (rw (c.start.ensures.rows, c.start.ensures.d, c.start.ensures.at, file.1) at answers)
