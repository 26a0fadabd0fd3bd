use Rattle.std.proofs.Common.{◌∙◌, ◌+◌, arith}
use Rattle.vec_files.proofs.StandingRows.{each_in_file, first_in_file, fetched_whole, each_is_there, fetched_rows}
use Rattle.vec_files.proofs.some_rows.read_rows.Goals as goal

pub returns-then-there-count-clause-refusal : goal.returns-then-there-count-clause-refusal
returns-then-there-count-clause-refusal g c = record { row = c.args.first + c.rows_in_front-there.result; low = omega arith; high = omega arith; place = omega arith }

pub returns-then-there-count-clause-not_there : goal.returns-then-there-count-clause-not_there
returns-then-there-count-clause-not_there g c = λ files told.
    let is = rw c.requires.room at (c.in_ok-held.ensures.bytes files told) in
    first_in_file _ _ _ c.args.first c.args.count is c.rows_in_front-there.result c.rows_in_front-there.ensures.there _ (omega arith) (omega arith) c.rows_in_front-there.ensures.ends

pub returns-then-there-count-clause-listed : goal.returns-then-there-count-clause-listed
returns-then-there-count-clause-listed g c = λ files told d rows read found.
    let it = returns-then-there-count-clause-not_there g c files told in
    it.missing (each_is_there d _ rows c.args.checked read found it.row (omega (arith, it.high)))

pub returns-clause-bytes : goal.returns-clause-bytes
returns-clause-bytes g c = λ files told.
    let is = rw c.requires.room at (c.in_ok-held.ensures.bytes files told) in
    fetched_whole _ c.fetch.new.into c.args.checked.d c.args.first c.args.count c.in_ok-held.held c.rows_in_front-there.result is (c.fetch.auto.into ∙ c.requires.room) (omega arith) c.rows_in_front-there.ensures.there

pub returns-clause-there : goal.returns-clause-there
returns-clause-there g c = λ files told i low high.
    let is = rw c.requires.room at (c.in_ok-held.ensures.bytes files told) in
    each_in_file _ _ c.args.checked.d c.args.first c.args.count is c.rows_in_front-there.result c.rows_in_front-there.ensures.there i low (omega arith)

pub returns-clause-listed : goal.returns-clause-listed
returns-clause-listed g c = λ files told d rows is found. fetched_rows d _ rows c.args.checked is found c.args.first c.args.count c.fetch.new.into c.requires.among (returns-clause-bytes g c files told)
