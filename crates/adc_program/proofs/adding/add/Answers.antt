use Rattle.std.proofs.Common.{◌≡◌, ◌∙◌, ℕ, Ok, Err, ap, sym, subst, arith}
use Rattle.book_model.specs.Rows.{row_of, insert_row, or_unchanged, Present, Full}
use Rattle.query_engine.specs.State.{rows_of}
use Rattle.adc_program.proofs.Unpinned.{insert_made, insert_unmade}
use Rattle.adc_program.proofs.adding.add.Goals as goal

pub returns-in-Ok-clause-rows : goal.returns-in-Ok-clause-rows
returns-in-Ok-clause-rows g c =
    let old = c.args.engine.now in
    let new = c.insert.new.self in
    let row = row_of old.book c.args.id c.args.vector.now in
    let p = c.requires.plain in
    sym (ap (or_unchanged (rows_of old)) (subst (λ most. insert_row most (rows_of old) row ≡ Ok (rows_of new)) p.most
    (insert_made old.store p.pins (omega (arith, p.most)) row c.in-Ok._cell (rows_of new) c.in-Ok.ensures.refusals c.in-Ok.ensures.changes.live)))

pub returns-in-Err-Present-clause-rows : goal.returns-in-Err-Present-clause-rows
returns-in-Err-Present-clause-rows g c =
    let old = c.args.engine.now in
    let row = row_of old.book c.args.id c.args.vector.now in
    let p = c.requires.plain in
    let causes = insert_unmade old.store p.pins (omega (arith, p.most)) ℕ row c.in-Err-Present.field-0 c.in-Err-Present.ensures.refusals in
    ap rows_of c.in-Err-Present.ensures.err ∙ sym (ap (or_unchanged (rows_of old)) (subst (λ most. insert_row most (rows_of old) row ≡ Err Present) p.most (causes.0 c.in-Err-Present.field-0-is)))

pub returns-in-Err-Full-clause-rows : goal.returns-in-Err-Full-clause-rows
returns-in-Err-Full-clause-rows g c =
    let old = c.args.engine.now in
    let row = row_of old.book c.args.id c.args.vector.now in
    let p = c.requires.plain in
    let causes = insert_unmade old.store p.pins (omega (arith, p.most)) ℕ row c.in-Err-Full.field-0 c.in-Err-Full.ensures.refusals in
    ap rows_of c.in-Err-Full.ensures.err ∙ sym (ap (or_unchanged (rows_of old)) (subst (λ most. insert_row most (rows_of old) row ≡ Err Full) p.most (causes.1 c.in-Err-Full.field-0-is)))

pub returns-in-Err-Held-clause-rows : goal.returns-in-Err-Held-clause-rows
returns-in-Err-Held-clause-rows g c =
    let old = c.args.engine.now in
    let row = row_of old.book c.args.id c.args.vector.now in
    let p = c.requires.plain in
    let causes = insert_unmade old.store p.pins (omega (arith, p.most)) ℕ row c.in-Err-Held.field-0 c.in-Err-Held.ensures.refusals in
    absurd (causes.2 c.in-Err-Held.field-0-is)
