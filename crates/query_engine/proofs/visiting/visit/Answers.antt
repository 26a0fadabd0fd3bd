-- The visit is over: its parts stand for all visited rows.
use Rattle.std.proofs.Common.{◌≡◌, ℕ, ◌≤◌, ◌-◌, List, length, take, sym, ap, subst, ◌∙◌, arith}
use Rattle.book_model.specs.Order.{Pair}
use Rattle.book_model.specs.Rows.{Row}
use Rattle.book_model.specs.Visit.{cells, shortest_prefix}
use Rattle.book_model.specs.Answer.{pairs_of}
use Rattle.cell_store.specs.Shown.{Shown, shown}
use Rattle.cell_store.specs.Held.{IsStore}
use Rattle.coarse_rank.specs.Ranked.{Ranked, ranks_of, cells_of}
use Rattle.adc_tables.specs.Full.{IsFilledFor}
use Rattle.best_k.specs.Least.{least}
use Rattle.prune_scan.specs.declared.meters.Meters.{Meters}
use Rattle.query_engine.specs.Parts.{Scratched}
use Rattle.query_engine.specs.Report.{query_of, Answers}
use Rattle.query_engine.specs.Progress.{first_rows, first_full, block_count, visit_length}
use Rattle.query_engine.proofs.Lengths.{full_le}
use Rattle.query_engine.proofs.Blocks.{few_blocks}
use Rattle.query_engine.proofs.Answering.{few_cells, length_now, taken_now, visited_now, answer_now, count_now}
use Rattle.query_engine.proofs.visiting.visit.Goals as goal

pub go_on-cells-requires-clause-visited : goal.go_on-cells-requires-clause-visited
go_on-cells-requires-clause-visited g c = c.begin.ensures.visited (shown c.new-snapshot.result)

pub overflow_cast-full : goal.overflow_cast-full
overflow_cast-full g c =
    let rows : List Row = shown c.new-snapshot.result in
    let a = c.requires.asked in
    let e = c.go_on-cells.ensures in
    let b = c.begin.ensures in
    let begun : IsFilledFor g.S.Shape.widths a.book a.query c.begin.new.self.full = subst (IsFilledFor g.S.Shape.widths a.book a.query) (sym b.stays.1) a.stands.tables in
    let ended : IsFilledFor g.S.Shape.widths a.book a.query c.go_on-cells.new.self.full = subst (IsFilledFor g.S.Shape.widths a.book a.query) (sym e.same.full) begun in
    let st = e.visited.stands a.book a.query ended in
    omega (
      arith,
      c.count.ensures,
      c.count-before.ensures,
      ap (λ (m : Meters). m.full) b.others,
      e.costs.full a.book a.query begun,
      full_le a.book a.query c.begin.new.self.best.k rows (cells_of c.begin.new.self.ranks) c.go_on-cells.new.self.walk.given,
      ap (λ (r : Ranked). length (first_rows rows (cells_of r) c.go_on-cells.new.self.walk.given)) e.same.ranks,
      st.rows,
      e.few,
    )

pub returns-clause-answers : goal.returns-clause-answers
returns-clause-answers g c book query stands =
    let ws = g.S.Shape.widths in
    let shows = c.new-snapshot.result in
    let new = c.new-snapshot.ensures in
    let ranges = shows.ranges in
    let stamp = shows.stamp in
    let store = shows.store in
    let rows : List Row = shown shows in
    let now : shows.stamp ≡ shows.store.stamp = ap (λ (s : Shown). s.stamp) new ∙ c.stamp.ensures.stamp ∙ sym (ap (λ (s : Shown). s.store.stamp) new) in
    let b = c.begin.ensures in
    let e = c.go_on-cells.ensures in
    let ranks : Ranked = c.go_on-cells.new.self.ranks in
    let given = c.go_on-cells.new.self.walk.given in
    let begun : IsFilledFor ws book query c.begin.new.self.full = subst (IsFilledFor ws book query) (sym b.stays.1) stands.tables in
    let ended : IsFilledFor ws book query c.go_on-cells.new.self.full = subst (IsFilledFor ws book query) (sym e.same.full) begun in
    let st = e.visited.stands book query ended in
    let order_is : cells_of ranks ≡ cells book query = ap cells_of (e.same.ranks ∙ b.stays.0) ∙ stands.order in
    let most = e.visited.over.entries.filled.most in
    let ranks_are : ranks ≡ ranks_of book query = e.same.ranks ∙ b.stays.0 ∙ stands.ranks_are in
    let k0 : book.k0 ≤ 1024 = omega (arith, most, ap (λ (r : Ranked). r.k0) ranks_are) in
    let k1 : book.k1 ≤ 1024 = omega (arith, most, ap (λ (r : Ranked). r.k1) ranks_are) in
    let is = subst (IsStore ws) (sym (ap (λ (s : Shown). s.store) new)) c.stamp.ensures.is in
    let all : visit_length rows c.count_up_to-needed.result ranks ≡ visit_length rows c.count_up_to-needed.result c.begin.new.self.ranks = ap (visit_length rows c.count_up_to-needed.result) e.same.ranks in
    let given_is : given ≡ length (shortest_prefix rows c.count_up_to-needed.result (cells_of ranks)) = omega (arith, few_cells ranks.k0 ranks.k1 most.0 most.1, e.visited.over.count, e.given, e.cells, b.none, all) in
    let k_is : c.go_on-cells.new.self.best.k ≡ c.args.k = e.same.k ∙ b.best.0 in
    let visited = visited_now book query c.args.k c.args.wanted ranges store ranks order_is stamp now c.count_up_to-needed.result c.count_up_to-needed.ensures.count given given_is in
    let taken = taken_now book query c.args.k c.args.wanted ranges store ranks order_is stamp now c.count_up_to-needed.result c.count_up_to-needed.ensures.count given given_is in
    let counted = count_now book query c.args.k c.args.wanted ranges store ranks order_is stamp now c.count_up_to-needed.result c.count_up_to-needed.ensures.count given given_is in
    let none : first_full book query c.begin.new.self.best.k rows (cells_of c.begin.new.self.ranks) c.begin.new.self.walk.given ≡ 0 =
    ap (first_full book query c.begin.new.self.best.k rows (cells_of c.begin.new.self.ranks)) b.none in
    let same_k : first_full book query c.begin.new.self.best.k rows (cells_of c.begin.new.self.ranks) given ≡ first_full book query c.args.k rows (cells_of ranks) given =
    ap (λ (k : ℕ). first_full book query k rows (cells_of c.begin.new.self.ranks) given) b.best.0
    ∙ ap (λ (r : Ranked). first_full book query c.args.k rows (cells_of r) given) (sym e.same.ranks) in
    let full = e.costs.full book query begun in
    let blocks : block_count store.kept (take given (cells_of c.begin.new.self.ranks)) ≡ block_count store.kept (take given (cells_of ranks)) =
    ap (λ (r : Ranked). block_count store.kept (take given (cells_of r))) (sym e.same.ranks) in
    subst (λ (s : Shown). Answers book (query_of query c.args.k c.args.wanted s.ranges) s.store c.go_on-cells.new.self.best (record { cells = c.go_on-cells.result; live = c.rows-live.result; full = c.count.result - c.count-before.result }) c.args.meters.now c.go_on-cells.new.meters) new
    (record {
      answers = st.held ∙ ap (λ (k : ℕ). least k (pairs_of book query (first_rows rows (cells_of ranks) given))) k_is
          ∙ answer_now book query c.args.k c.args.wanted ranges store ranks order_is stamp now c.count_up_to-needed.result c.count_up_to-needed.ensures.count given given_is;
      reports = record {
        cells = omega (
          arith,
          e.given,
          b.none,
          length_now book query c.args.k c.args.wanted ranges store ranks order_is stamp now c.count_up_to-needed.result c.count_up_to-needed.ensures.count given given_is,
        );
        live = c.rows-live.ensures ∙ st.rows ∙ ap length visited;
        full = omega (arith, full, none, same_k, counted, c.count.ensures, c.count-before.ensures, ap (λ (m : Meters). m.full) b.others);
      };
      full = omega (arith, full, none, c.count.ensures, c.count-before.ensures, ap (λ (m : Meters). m.full) b.others);
      pairs = (omega (arith, b.pairs, e.costs.pairs, e.given, b.none), omega (arith, b.pairs, e.costs.pairs, e.given, b.none));
      blocks = omega (arith, e.costs.blocks, blocks, ap (block_count store.kept) taken, ap (λ (m : Meters). m.blocks) b.others);
      lanes = omega (arith, e.costs.lanes, blocks, ap (block_count store.kept) taken, ap (λ (m : Meters). m.lanes) b.others);
      reads_never_fall = (omega (arith, e.costs.reads_never_fall.0, ap (λ (m : Meters). m.blocks) b.others), omega (arith, e.costs.reads_never_fall.1, ap (λ (m : Meters). m.lanes) b.others));
      others = (e.costs.others.0 ∙ ap (λ (m : Meters). m.half_full) b.others, e.costs.others.1 ∙ ap (λ (m : Meters). m.halves) b.others);
      few_cells = omega (arith, few_cells ranks.k0 ranks.k1 most.0 most.1, e.visited.over.count, e.given, b.none);
      few_full = omega (
        arith,
        full,
        none,
        same_k,
        full_le book query c.args.k rows (cells_of ranks) given,
        st.rows,
        e.few,
        c.count.ensures,
        c.count-before.ensures,
        ap (λ (m : Meters). m.full) b.others,
      );
      few_blocks = omega (
        arith,
        few_blocks book query store.kept given,
        ap (λ (order : List Pair). block_count store.kept (take given order)) order_is,
        ap (block_count store.kept) taken,
        few_cells book.k0 book.k1 k0 k1,
        is.few_kept,
        is.most,
        is.cells,
      );
    })
