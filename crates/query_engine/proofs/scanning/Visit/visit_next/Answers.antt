-- One more cell: its rows come behind those that were seen.
use Rattle.std.proofs.Common.{◌≡◌, ◌+◌, ◌-◌, List, [], ◌∷◌, ◌++◌, length, take, sym, ap, subst, ◌∙◌, append_assoc, refl, arith, length-append}
use Rattle.std.specs.Prelude.{slice_get}
use Rattle.book_model.specs.Order.{Pair}
use Rattle.book_model.specs.Rows.{Row}
use Rattle.book_model.specs.Visit.{rows_of_cells}
use Rattle.cell_store.specs.Shown.{shown, shown_in}
use Rattle.coarse_rank.specs.Ranked.{Ranked, cells_of}
use Rattle.pair_walk.specs.Walking.{Walking}
use Rattle.query_engine.specs.Progress.{first_rows, block_count}
use Rattle.query_engine.specs.Scanning.{work_of}
use Rattle.query_engine.proofs.Passing.{passing-kept_in}
use Rattle.query_engine.proofs.Prefix.{rows_next, taken_next, blocks_next, all_given, next_fits}
use Rattle.query_engine.proofs.scanning.Visit.visit_next.Goals as goal

pub scan-requires-clause-ready : goal.scan-requires-clause-ready
scan-requires-clause-ready g c =
    let s = c.args.snapshot.now in
    let v = c.args.self.now in
    let is = c.requires.is in
    let cell : Pair = (c.in-Some.cell.sum, c.in-Some.cell.number) in
    let here = length (shown_in cell.1 s) in
    let rest = length (rows_of_cells (shown s) (cells_of v.ranks)) - v.rows - here in
    g.met.C.Scanner.ready_less c.args.asked.now v.scanner (work_of c.args.meters.now) s.store here rest
    (is.ready (here + rest) (omega (arith, is.rows, next_fits (cells_of v.ranks) v.walk.given cell c.in-Some.ensures.place s.ranges s.stamp s.store.kept)))

pub overflow_add-self : goal.overflow_add-self
overflow_add-self g c =
    let s = c.args.snapshot.now in
    let v = c.args.self.now in
    let is = c.requires.is in
    let cell : Pair = (c.in-Some.cell.sum, c.in-Some.cell.number) in
    omega (arith, is.rows, is.few, c.scan.ensures.rows, next_fits (cells_of v.ranks) v.walk.given cell c.in-Some.ensures.place s.ranges s.stamp s.store.kept)

pub returns-in-Some-clause-is : goal.returns-in-Some-clause-is
returns-in-Some-clause-is g c =
    let s = c.args.snapshot.now in
    let v = c.args.self.now in
    let is = c.requires.is in
    let order : List Pair = cells_of v.ranks in
    let cell : Pair = (c.in-Some.cell.sum, c.in-Some.cell.number) in
    let joined = rows_next order v.walk.given cell c.in-Some.ensures.place c.next.new.self.given c.in-Some.ensures.given s.ranges s.stamp s.store.kept in
    record {
      over = c.in-Some.ensures.over;
      rows = omega (arith, is.rows, c.scan.ensures.rows, ap length joined, length-append (first_rows (shown s) order v.walk.given) (shown_in cell.1 s));
      ready = λ n all. c.scan.ensures.ready n (is.ready (length (shown_in cell.1 s) + n) (omega (arith, all, c.scan.ensures.rows)));
      few = is.few;
    }

pub returns-in-Some-clause-goes : goal.returns-in-Some-clause-goes
returns-in-Some-clause-goes g c v0 m0 before =
    let s = c.args.snapshot.now in
    let v = c.args.self.now in
    let order : List Pair = cells_of v0.ranks in
    let cell : Pair = (c.in-Some.cell.sum, c.in-Some.cell.number) in
    let given = c.in-Some.ensures.given in
    let reads = c.scan.ensures.reads in
    let place = ap (λ (r : Ranked). slice_get (cells_of r) v.walk.given) (sym before.ranks) ∙ c.in-Some.ensures.place in
    let more = blocks_next order v.walk.given cell place c.next.new.self.given given s.store.kept in
    let w = work_of c.args.meters.now in
    let w' = work_of c.scan.new.meters in
    record {
      ranks = before.ranks;
      between = before.between ++ cell ∷ [];
      joins = sym (append_assoc (take v0.walk.given order) before.between (cell ∷ [])) ∙ ap (λ (l : List Pair). l ++ cell ∷ []) before.joins
          ∙ sym (taken_next order v.walk.given cell place c.next.new.self.given given);
      scanned = g.met.C.Scanner.went_next c.args.asked.now v0.scanner v.scanner c.scan.new.self (shown s) before.between cell (work_of m0) w w' before.scanned
          (subst (λ (rows : List Row). g.C.Scanner.scans c.args.asked.now v.scanner c.scan.new.self cell.1 rows w w') (passing-kept_in s.ranges s.stamp cell.1 s.store.kept) c.scan.ensures.scans);
      pairs = (omega (arith, c.in-Some.ensures.never_falls, reads.pairs, before.pairs), omega (arith, c.in-Some.ensures.rise, reads.pairs, given, before.pairs));
      blocks = omega (arith, more, reads.blocks, before.blocks);
      lanes = omega (arith, more, reads.lanes, before.lanes);
      few_blocks = omega (arith, reads.few_blocks, given, before.few_blocks);
      few_lanes = omega (arith, reads.few_lanes, given, before.few_lanes);
      reads_never_fall = (omega (arith, reads.reads_never_fall.0, before.reads_never_fall.0), omega (arith, reads.reads_never_fall.1, before.reads_never_fall.1));
    }

pub returns-in-None-clause-none : goal.returns-in-None-clause-none
returns-in-None-clause-none g c _ = (ap (λ (w : Walking). w.given) (c.in-None.ensures.unchanged refl), all_given (cells_of c.args.self.now.ranks) c.args.self.now.walk.given (c.in-None.ensures.no_rest refl))

pub returns-in-None-clause-goes : goal.returns-in-None-clause-goes
returns-in-None-clause-goes g c v0 m0 before =
    let s = c.args.snapshot.now in
    let order : List Pair = cells_of v0.ranks in
    let stays = c.in-None.ensures.unchanged refl in
    let given = ap (λ (w : Walking). w.given) stays in
    let blocks = ap (λ (w : Walking). block_count s.store.kept (take w.given order)) stays in
    let free = c.in-None.ensures.free refl in
    record {
      ranks = before.ranks;
      between = before.between;
      joins = before.joins ∙ ap (λ (w : Walking). take w.given order) (sym stays);
      scanned = before.scanned;
      pairs = (omega (arith, free, before.pairs), omega (arith, free, given, before.pairs));
      blocks = omega (arith, blocks, before.blocks);
      lanes = omega (arith, blocks, before.lanes);
      few_blocks = omega (arith, given, before.few_blocks);
      few_lanes = omega (arith, given, before.few_lanes);
      reads_never_fall = before.reads_never_fall;
    }
