use Rattle.std.proofs.Common.{ℕ, List, ◌++◌, take, Some, subst, sym, ◌∙◌}
use Rattle.std.proofs.lemmas.Result.{err_from_is_err_and}
use Rattle.adc_ports.specs.States.{Has}
use Rattle.index_file.proofs.Adding.{adds_cut, was_fault, was_memory}
use Rattle.index_file.proofs.pieces.Pieces.flush.Goals as goal

pub returns-in_err-append-clause-adds : goal.returns-in_err-append-clause-adds
returns-in_err-append-clause-adds g c =
    let p = err_from_is_err_and c.from_residual.result c.from_residual.ensures.1 in
    let name = c.args.name.now in
    rw p.1 (
    adds_cut name p.0 _ _ c.args.self.now c.args.self.now c.in_err-append.ensures.writes c.in_err-append.ensures.there
    (λ held has.
    let P : List ℕ → Type 0 = λ bytes. (n : ℕ) × Has (g.H.Shelf.state c.append.new.self) name (Some (held ++ take n bytes)) in
    subst P c.bytes.ensures (c.in_err-append.ensures.err held has))
    (λ is. c.in_err-append.ensures.failed (was_fault c.in_err-append.field-0.0 (sym p.2 ∙ is)))
    (λ is. c.in_err-append.ensures.memory (was_memory c.in_err-append.field-0.0 (sym p.2 ∙ is)))
    )
