use Rattle.cell_store.proofs.Words.{◌≡◌, ◌∙◌, refl, rules, None, key_at, AreEntries}
use Rattle.cell_store.proofs.Entries.{AreEntries-same, rows_same, AreEntries-made, same_rows, own_key}
use Rattle.cell_store.proofs.cells.make_entry.Given.{Over}
use Rattle.cell_store.proofs.cells.make_entry.Goals as goal
use Rattle.cell_store.proofs.cells.make_entry.Goals.{After-widen}

widened : (g : Over) (c : After-widen g) → AreEntries g.S.Shape.widths c.args.g c.widen.new.keys.items c.args.entries.now
widened g c = AreEntries-same c.requires.entries c.widen.ensures.same c.widen.ensures.few (λ e. refl)

pub returns-in_err-widen-clause-entries : goal.returns-in_err-widen-clause-entries
returns-in_err-widen-clause-entries g c = widened g (goal.at.returns-in_err-widen-clause-entries g c).After-widen

pub returns-in_err-key-clause-entries : goal.returns-in_err-key-clause-entries
returns-in_err-key-clause-entries g c = AreEntries-same c.requires.entries c.widen.ensures.same c.widen.ensures.few c.in_err-key.ensures.err

pub returns-in_err-key-clause-same : goal.returns-in_err-key-clause-same
returns-in_err-key-clause-same g c = rows_same g.S.Shape.widths c.args.keys.now.items c.widen.new.keys.items c.args.entries.now c.new_entry.new.entries c.widen.ensures.same c.in_err-key.ensures.err

pub returns : goal.returns
returns g c =
    let was : key_at c.args.keys.now.items c.args.cell ≡ None = search rules in
    let none : key_at c.widen.new.keys.items c.args.cell ≡ None = c.widen.ensures.same c.args.cell ∙ was in
    let are = widened g (goal.at.returns g c).After-widen in
    record {
      entries = AreEntries-made are c.args.cell c.in_ok-key.key c.in_ok-widen.ensures.room none c.in_ok-key.ensures.made;
      key = own_key are c.args.cell c.in_ok-key.key c.in_ok-widen.ensures.room none c.in_ok-key.ensures.made;
      same = λ e. same_rows are c.args.cell c.in_ok-key.key c.in_ok-widen.ensures.room none c.in_ok-key.ensures.made e
          ∙ rows_same g.S.Shape.widths c.args.keys.now.items c.widen.new.keys.items c.args.entries.now c.args.entries.now c.widen.ensures.same (λ k. refl) e;
    }
