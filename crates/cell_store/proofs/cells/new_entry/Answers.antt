use Rattle.cell_store.proofs.Words.{sym, subst, ℕ, IfOk, Result, IsNewEntry}
use Rattle.adc_ports.specs.declared.Memory.{Memory}
use Rattle.cell_store.proofs.cells.new_entry.Goals as goal
use Rattle.cell_store.proofs.cells.new_entry.Goals.{in-Ok, in-Err}

pub returns-clause-made : goal.returns-clause-made
returns-clause-made c = elim c.match-insert.branch [
  | in-Ok w ↦
      subst (λ (r : Result ℕ Memory). IfOk r (λ key. IsNewEntry c.args.g c.args.entries.now c.insert.new.self key)) (sym w.result-is)
      (record { rows = c.new.result; vacant = w.in-Ok.ensures.was_vacant; updates = w.in-Ok.ensures.updates; slots = c.new.ensures.slots; live = c.new.ensures.live; codes = c.new.ensures.codes })
  | in-Err w ↦ subst (λ (r : Result ℕ Memory). IfOk r (λ key. IsNewEntry c.args.g c.args.entries.now c.insert.new.self key)) (sym w.result-is) tt
]
