-- The visit goes on while rows are needed, and ends where it holds enough or no cell is left.
use Rattle.std.proofs.Common.{◌≡◌, List, length, ap, arith}
use Rattle.book_model.specs.Order.{Pair}
use Rattle.book_model.specs.Rows.{Row}
use Rattle.cell_store.specs.Shown.{shown}
use Rattle.coarse_rank.specs.Ranked.{Ranked, cells_of}
use Rattle.query_engine.specs.Progress.{first_rows}
use Rattle.query_engine.proofs.Lengths.{prefix_le, over_by_rows, goes_on}
use Rattle.query_engine.proofs.Answering.{few_cells}
use Rattle.query_engine.proofs.GoingOn.{goes_none}
use Rattle.query_engine.proofs.scanning.Visit.go_on.Goals as goal

pub loop-n-init : goal.loop-n-init
loop-n-init g c = record {
  is = c.requires.is;
  given = omega arith;
  within = c.requires.within;
  goes = goes_none g.C.Scanner.went c.args.asked.now c.args.snapshot.now g.met.C.Scanner.went_none c.args.self.now c.args.meters.now;
}

pub returns-then-needed-self-clause-cells : goal.returns-then-needed-self-clause-cells
returns-then-needed-self-clause-cells g c =
    let rows : List Row = shown c.args.snapshot.now in
    let order : List Pair = cells_of c.args.self.now.ranks in
    let i = c.loop-n.invariant in
    let now = ap (λ (r : Ranked). length (first_rows rows (cells_of r) c.loop-n.self.walk.given)) i.goes.ranks in
    omega (arith, over_by_rows rows c.args.needed order c.loop-n.self.walk.given (omega (arith, i.is.rows, now, c.if-needed-self.true)), i.given, i.within)

pub visit_next-requires-clause-meters : goal.visit_next-requires-clause-meters
visit_next-requires-clause-meters g c =
    let i = c.loop-n.invariant in
    let v = c.loop-n.self in
    let most = i.is.over.entries.filled.most in
    let few = few_cells v.ranks.k0 v.ranks.k1 most.0 most.1 in
    record {
      blocks = omega (arith, i.goes.few_blocks, few, i.is.over.count, c.requires.meters.blocks);
      lanes = omega (arith, i.goes.few_lanes, few, i.is.over.count, c.requires.meters.lanes);
    }

pub visit_next-requires-clause-pairs : goal.visit_next-requires-clause-pairs
visit_next-requires-clause-pairs g c =
    let i = c.loop-n.invariant in
    let most = i.is.over.entries.filled.most in
    omega (arith, few_cells c.loop-n.self.ranks.k0 c.loop-n.self.ranks.k1 most.0 most.1, i.is.over.count, i.goes.pairs, c.requires.meters.pairs)

pub returns-then-not-visit_next-clause-cells : goal.returns-then-not-visit_next-clause-cells
returns-then-not-visit_next-clause-cells g c =
    let i = c.loop-n.invariant in
    omega (
      arith,
      prefix_le (shown c.args.snapshot.now) c.args.needed (cells_of c.args.self.now.ranks),
      c.visit_next.ensures.none c.if-not-visit_next.true,
      ap (λ (r : Ranked). length (cells_of r)) i.goes.ranks,
      i.given,
      i.within,
    )

pub returns-then-not-visit_next-clause-goes : goal.returns-then-not-visit_next-clause-goes
returns-then-not-visit_next-clause-goes g c = c.visit_next.ensures.goes c.args.self.now c.args.meters.now c.loop-n.invariant.goes

pub loop-n-preserved : goal.loop-n-preserved
loop-n-preserved g c =
    let rows : List Row = shown c.args.snapshot.now in
    let order : List Pair = cells_of c.args.self.now.ranks in
    let i = c.loop-n.invariant in
    let there = c.visit_next.ensures.there c.if-not-visit_next.false in
    let now = ap (λ (r : Ranked). length (first_rows rows (cells_of r) c.loop-n.self.walk.given)) i.goes.ranks in
    record {
      is = c.visit_next.ensures.is;
      given = omega (arith, there.0, i.given);
      within = omega (
        arith,
        there.0,
        goes_on rows c.args.needed order c.loop-n.self.walk.given i.within (omega (arith, i.is.rows, now, c.if-needed-self.false)) (omega (arith, there.1, ap (λ (r : Ranked). length (cells_of r)) i.goes.ranks)),
      );
      goes = c.visit_next.ensures.goes c.args.self.now c.args.meters.now i.goes;
    }
