use Rattle.cell_store.proofs.Words.{◌≡◌, ◌<◌, ◌≤◌, ap, sym, ◌∙◌, subst, get_or, set, length, ℕ, List, [], arith, length-set, AreCodeWords, Coded, AreCodes, Slot, Kept, rows_of, kept_of, row_at, rows_in, all_at, all_set}
use Rattle.cell_store.proofs.RowLemmas.{row_at-rows_of, rows_of-set}
use Rattle.cell_store.proofs.rows.Rows.copy.Goals as goal

pub returns-clause-rows : goal.returns-clause-rows
returns-clause-rows g c = λ cell.
    let row : row_at (rows_in g.S.Shape.widths cell c.args.self.now) c.args.from ≡ kept_of g.S.Shape.widths cell c.index.result.now (get_or c.args.self.now.codes.codes c.args.from []) =
    row_at-rows_of g.S.Shape.widths cell c.args.self.now.slots.items c.args.self.now.codes.codes c.args.from c.index.result.now c.requires.from c.requires.is.room
    ∙ ap (λ (s : Slot). kept_of g.S.Shape.widths cell s (get_or c.args.self.now.codes.codes c.args.from [])) (sym c.index.ensures) in
    ap (λ (v : Coded). rows_of g.S.Shape.widths cell (set c.args.self.now.slots.items c.args.to c.index.result.now) v.codes) c.set.ensures
    ∙ rows_of-set g.S.Shape.widths cell c.args.self.now.slots.items c.args.self.now.codes.codes c.args.to c.index.result.now c.get.new.into
    ∙ ap (λ (w : List ℕ). set (rows_in g.S.Shape.widths cell c.args.self.now) c.args.to (kept_of g.S.Shape.widths cell c.index.result.now w)) c.get.ensures
    ∙ ap (λ (k : Kept). set (rows_in g.S.Shape.widths cell c.args.self.now) c.args.to k) (sym row)

pub returns-clause-is : goal.returns-clause-is
returns-clause-is g c =
    let from : c.args.from < length c.args.self.now.codes.codes = omega (arith, c.requires.from, c.requires.is.room) in
    let word : AreCodeWords g.S.Shape.widths c.args.self.now.codes.g c.get.new.into = subst (AreCodeWords g.S.Shape.widths c.args.self.now.codes.g) (sym c.get.ensures) (all_at (AreCodeWords g.S.Shape.widths c.args.self.now.codes.g) c.args.self.now.codes.codes c.args.from [] c.requires.is.words from) in
    record {
      g_is = ap (λ (v : Coded). v.g) c.set.ensures;
      room = subst (λ (n : ℕ). length (set c.args.self.now.slots.items c.args.to c.index.result.now) ≤ n) (sym (ap (λ (v : Coded). length v.codes) c.set.ensures))
          (omega (arith, length-set c.args.self.now.slots.items c.args.to c.index.result.now, length-set c.args.self.now.codes.codes c.args.to c.get.new.into, c.requires.is.room));
      words = subst (λ (v : Coded). AreCodes g.S.Shape.widths c.args.self.now.codes.g v.codes) (sym c.set.ensures) (all_set (AreCodeWords g.S.Shape.widths c.args.self.now.codes.g) c.args.self.now.codes.codes c.args.to c.get.new.into c.requires.is.words word);
    }
