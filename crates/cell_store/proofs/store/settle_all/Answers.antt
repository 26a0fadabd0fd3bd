use Rattle.cell_store.proofs.Words.{◌≡◌, ◌≢◌, ◌+◌, ◌<◌, ◌≤◌, ap, ap₂, sym, refl, ◌∙◌, subst, length, ℕ, arith, inl, inr, List, filter, length_filter_le, AllByRecursion, all_filter, is_held, eqb_tells, cases_lt, Kept, rows_for, Replaces, IsTidied, AreFew, is_needed_dead}
use Rattle.cell_store.proofs.Counts.{below_next, below_end}
use Rattle.cell_store.proofs.Steps.{replaced}
use Rattle.cell_store.proofs.Unpinning.{below_upto, few_none, settled_few, tidied, IsIndex-tidied}
use Rattle.cell_store.proofs.store.settle_all.Given.{Over}
use Rattle.cell_store.proofs.store.settle_all.Goals as goal
use Rattle.cell_store.proofs.store.settle_all.Goals.{After-settle-needed}

settled : (g : Over) (c : After-settle-needed g) → c.settle-needed.result ≤ 16777248
settled g c =
    settled_few c.args.pins.now (rows_for c.cells.lists c.in-Some.cell) (rows_for c.settle-needed.new.self c.in-Some.cell) (rows_for c.args.lists.now c.in-Some.cell) c.settle-needed.result c.settle-needed.ensures.needed
    c.settle-needed.ensures.tidied (c.cells.invariant.rest c.in-Some.cell c.in-Some.ensures.0) (c.requires.few c.in-Some.cell)

pub overflow_add-needed : goal.overflow_add-needed
overflow_add-needed g c = omega (arith, settled g (goal.at.overflow_add-needed g c).After-settle-needed, c.cells.invariant.bound, c.cells.invariant.within, c.ranges.cells.fits)

pub cells-preserved : goal.cells-preserved
cells-preserved g c =
    let inv = c.cells.invariant in
    let le : c.cells.from ≤ c.in-Some.cell = c.in-Some.ensures.0 in
    let others : (e : ℕ) → e ≢ c.in-Some.cell → rows_for c.settle-needed.new.self e ≡ rows_for c.cells.lists e = c.settle-needed.ensures.others in
    let changes : Replaces c.in-Some.cell (rows_for c.cells.lists) (rows_for c.settle-needed.new.self) (rows_for c.settle-needed.new.self c.in-Some.cell) = record { own = refl; others = others } in
    record {
      within = elim (cases_lt c.in-Some.cell c.args.cells) [
        | inl small ↦ omega (arith, small)
        | inr past ↦ absurd (omega (arith, c.in-Some.ensures.1, ap length (inv.rest c.in-Some.cell le ∙ c.requires.past c.in-Some.cell past)))
      ];
      g = c.settle-needed.ensures.g ∙ inv.g;
      tidied = replaced (λ e l. e < c.in-Some.cell + 1 → IsTidied c.args.pins.now (rows_for c.args.lists.now e) l) c.in-Some.cell (rows_for c.cells.lists) (rows_for c.settle-needed.new.self) (rows_for c.settle-needed.new.self c.in-Some.cell) changes
          (λ h. subst (λ (l : List Kept). IsTidied c.args.pins.now l (rows_for c.settle-needed.new.self c.in-Some.cell)) (inv.rest c.in-Some.cell le) c.settle-needed.ensures.tidied)
          (λ e off h. elim (cases_lt e c.cells.from) [ inl low ↦ inv.tidied e low | inr high ↦ inl (inv.rest e high) ]);
      few = replaced (λ e l. e < c.in-Some.cell + 1 → AreFew c.args.pins.now l) c.in-Some.cell (rows_for c.cells.lists) (rows_for c.settle-needed.new.self) (rows_for c.settle-needed.new.self c.in-Some.cell) changes
          (λ h. c.settle-needed.ensures.few)
          (λ e off h. elim (cases_lt e c.cells.from) [ inl low ↦ inv.few e low | inr high ↦ few_none c.args.pins.now (rows_for c.cells.lists e) (c.in-Some.ensures.2 e high (omega (arith, off, h))) ]);
      rest = λ e h. others e (λ same. omega arith) ∙ inv.rest e (omega (arith, le));
      counted =
          ap₂ (λ (a b : ℕ). a + b)
          (inv.counted ∙ ap (λ l. length (filter (is_needed_dead c.args.pins.now) l)) (sym (below_upto (rows_for c.cells.lists) (rows_for c.settle-needed.new.self) c.cells.from (λ e h. others e (λ same. omega (arith, le))))))
          c.settle-needed.ensures.needed
          ∙ sym (below_next (is_needed_dead c.args.pins.now) (rows_for c.settle-needed.new.self) c.cells.from c.in-Some.cell le (λ e a b. others e (λ same. omega arith) ∙ c.in-Some.ensures.2 e a b));
      groups = λ places index grouped.
          c.regroup.ensures (rows_for c.cells.lists) c.args.pins.now places others c.settle-needed.ensures.tidied (sym c.kept_count-kept.ensures)
          (IsIndex-tidied c.args.pins.now (rows_for c.args.lists.now) (rows_for c.settle-needed.new.self)
          (λ e. elim (eqb_tells e c.in-Some.cell) [
            | inl same ↦
                subst (λ (d : ℕ). IsTidied c.args.pins.now (rows_for c.args.lists.now d) (rows_for c.settle-needed.new.self d)) (sym same.1)
                (subst (λ (l : List Kept). IsTidied c.args.pins.now l (rows_for c.settle-needed.new.self c.in-Some.cell)) (inv.rest c.in-Some.cell le) c.settle-needed.ensures.tidied)
            | inr off ↦
                subst (λ (l : List Kept). IsTidied c.args.pins.now (rows_for c.args.lists.now e) l) (sym (others e off.1))
                (elim (cases_lt e c.cells.from) [ inl low ↦ inv.tidied e low | inr high ↦ inl (inv.rest e high) ])
          ])
          places index)
          (inv.groups places index grouped);
      bound = omega (arith, settled g (goal.at.cells-preserved g c).After-settle-needed, inv.bound, le);
    }

pub returns-in-None-clause-needed : goal.returns-in-None-clause-needed
returns-in-None-clause-needed g c =
    c.cells.invariant.counted
    ∙ sym (below_end (is_needed_dead c.args.pins.now) (rows_for c.cells.lists) c.cells.from c.args.cells c.cells.invariant.within (λ e a. c.in-None.ensures e a))

pub returns-in-None-clause-groups : goal.returns-in-None-clause-groups
returns-in-None-clause-groups g c = c.cells.invariant.groups

pub regroup-requires-clause-few : goal.regroup-requires-clause-few
regroup-requires-clause-few g c =
    let few = c.requires.few c.in-Some.cell in
    omega (
      arith,
      few,
      ap length (c.cells.invariant.rest c.in-Some.cell c.in-Some.ensures.0),
      tidied c.args.pins.now (λ l. length l ≤ length (rows_for c.cells.lists c.in-Some.cell)) (rows_for c.cells.lists c.in-Some.cell) (rows_for c.settle-needed.new.self c.in-Some.cell) c.settle-needed.ensures.tidied (omega arith) (length_filter_le (is_held c.args.pins.now) (rows_for c.cells.lists c.in-Some.cell)),
    )

pub regroup-requires-clause-small : goal.regroup-requires-clause-small
regroup-requires-clause-small g c =
    let before : AllByRecursion (λ (k : Kept). k.row.id ≤ 2147483647) (rows_for c.cells.lists c.in-Some.cell) =
    subst (AllByRecursion (λ (k : Kept). k.row.id ≤ 2147483647)) (sym (c.cells.invariant.rest c.in-Some.cell c.in-Some.ensures.0)) (c.requires.ids c.in-Some.cell) in
    tidied c.args.pins.now (AllByRecursion (λ (k : Kept). k.row.id ≤ 2147483647)) (rows_for c.cells.lists c.in-Some.cell) (rows_for c.settle-needed.new.self c.in-Some.cell) c.settle-needed.ensures.tidied before
    (all_filter (λ (k : Kept). k.row.id ≤ 2147483647) (is_held c.args.pins.now) (rows_for c.cells.lists c.in-Some.cell) before)
