use Rattle.std.proofs.Common.{◌≡◌, ◌∙◌, ℕ, List, [], None, Ok, Err, refl, sym, ap, arith}
use Rattle.adc_ports.specs.States.{SinkState}
use Rattle.vec_files.specs.Rows.{ivecs_row}
use Rattle.adc_program.specs.Asking.{rows_in}
use Rattle.adc_program.specs.Exacts.{nearest_at, nearest_below}
use Rattle.adc_program.proofs.Growing.{check_after, adds_none, adds_after, adds_cut, adds_as, there_on}
use Rattle.adc_program.proofs.FileRows.{rows_more, rows_behind, rows_split}
use Rattle.adc_program.proofs.NearestRows.{nearest_stays}
use Rattle.adc_program.proofs.exacts.add_all.Goals as goal

-- a sink that tells nothing
no_text : SinkState
no_text = record { written = None; faults = 0 }

pub loop-number-init : goal.loop-number-init
loop-number-init g c = record {
  within = omega arith;
  there = c.requires.there;
  adds = λ text. adds_none c.args.asked.now.out.now _ text;
}

pub add_nearest-requires : goal.add_nearest-requires
add_nearest-requires g c =
    let i = c.loop-number.invariant in
    let asked = c.args.asked.now in
    record {
      number = omega arith;
      vector = c.loop-number.auto.vector ∙ c.requires.vector;
      numbers = c.loop-number.auto.numbers ∙ c.requires.numbers;
      base = check_after asked.base.role asked.base.name.now asked.out.now asked.base.checked.d asked.base.checked _ _ asked.base_apart (i.adds no_text).changes c.requires.base;
      queries = check_after asked.queries.role asked.queries.name.now asked.out.now asked.queries.checked.d asked.queries.checked _ _ asked.queries_apart (i.adds no_text).changes c.requires.queries;
      there = i.there;
    }

pub loop-number-preserved : goal.loop-number-preserved
loop-number-preserved g c =
    let i = c.loop-number.invariant in
    let asked = c.args.asked.now in
    let name = asked.out.now in
    let n = c.loop-number.number in
    record {
      within = omega arith;
      there = there_on name i.there (c.in-Ok.ensures.adds no_text);
      adds = λ text.
          adds_as name (Ok tt) (λ files told. refl) (λ files told. rows_more asked.k (nearest_at (rows_in files asked.base) (rows_in files asked.queries) asked.k) n)
          (adds_after name (Ok tt) (λ files files1 stay. refl) (nearest_stays asked.base asked.queries name (λ (b q : List (List ℕ)). ivecs_row asked.k (nearest_at b q asked.k n)) asked.base_apart asked.queries_apart) (λ files none. refl) (i.adds text) (c.in-Ok.ensures.adds text));
    }

pub returns-in-Err : goal.returns-in-Err
returns-in-Err g c =
    let i = c.loop-number.invariant in
    let asked = c.args.asked.now in
    let name = asked.out.now in
    let n = c.loop-number.number in
    let all = asked.queries.checked.rows in
    let halted = c.in-Err.halted in
    record {
      adds = λ text.
          adds_as name (Err halted) (λ files told. refl) (λ files told. rows_split asked.k (nearest_at (rows_in files asked.base) (rows_in files asked.queries) asked.k) n all (omega arith))
          (adds_cut name halted (λ files. []) (λ files. rows_behind asked.k (nearest_at (rows_in files asked.base) (rows_in files asked.queries) asked.k) n all)
          (adds_after name (Err halted) (λ files files1 stay. refl) (nearest_stays asked.base asked.queries name (λ (b q : List (List ℕ)). ivecs_row asked.k (nearest_at b q asked.k n)) asked.base_apart asked.queries_apart) (λ files none. refl) (i.adds text) (c.in-Err.ensures.adds text)));
    }

pub returns : goal.returns
returns g c =
    let i = c.loop-number.invariant in
    let asked = c.args.asked.now in
    let all : c.loop-number.number ≡ asked.queries.checked.rows = omega (arith, i.within) in
    record {
      adds = λ text. adds_as asked.out.now (Ok tt) (λ files told. refl) (λ files told. ap (nearest_below (rows_in files asked.base) (rows_in files asked.queries) asked.k) (sym all)) (i.adds text);
    }
