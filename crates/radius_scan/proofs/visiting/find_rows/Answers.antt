-- The visit is over: all visited rows are scanned.
use Rattle.std.proofs.Common.{◌≡◌, ◌<◌, ◌+◌, ◌-◌, ◌++◌, ℕ, List, [], length, map, take, sym, ap, subst, ◌∙◌, arith, rules}
use Rattle.std.specs.Prelude.{None}
use Rattle.std.specs.List.Sorted.{IsPermutation, IsSorted}
use Rattle.book_model.specs.Order.{Pair, sorted, pair_cmp}
use Rattle.book_model.specs.Rows.{Row}
use Rattle.book_model.specs.Visit.{cells, rows_of_cells, shortest_prefix}
use Rattle.book_model.specs.Bound.{Tables, base_sum}
use Rattle.book_model.specs.Answer.{pairs_of}
use Rattle.book_model.proofs.Sorting.{pair_total, pair_exact}
use Rattle.book_model.proofs.Rising.{sorted_from_sort}
use Rattle.best_k.specs.Least.{key_of, by_key}
use Rattle.best_k.specs.declared.Pair.{Pair as Held}
use Rattle.cell_store.specs.State.{rows_at}
use Rattle.cell_store.specs.Shown.{Shown, shown}
use Rattle.cell_store.specs.Held.{IsStore}
use Rattle.coarse_rank.specs.Ranked.{Ranked, cells_of}
use Rattle.adc_tables.specs.Full.{Full, IsFilledFor}
use Rattle.adc_tables.proofs.Codes.{tables_of}
use Rattle.prune_scan.specs.declared.meters.Meters.{Meters}
use Rattle.query_engine.specs.Progress.{first_rows, block_count, visit_length}
use Rattle.query_engine.specs.Scanning.{work_of}
use Rattle.query_engine.specs.declared.scanning.Visit.{Visit}
use Rattle.query_engine.proofs.Blocks.{few_blocks}
use Rattle.query_engine.proofs.GoingOn.{all_between}
use Rattle.query_engine.proofs.Prefix.{front_fits}
use Rattle.query_engine.proofs.Answering.{few_cells, length_now, taken_now, visited_now}
use Rattle.radius_scan.specs.Radius.{pairs_within, full_within}
use Rattle.radius_scan.specs.Report.{radius_query, Finds}
use Rattle.radius_scan.specs.Going.{IsReady}
use Rattle.radius_scan.specs.declared.within.Within.{Within}
use Rattle.radius_scan.proofs.Lanes.{has_none}
use Rattle.query_engine.proofs.Passing.{passing-live, all_hold, cells_are}
use Rattle.radius_scan.proofs.Answering.{answer_is, count_is}
use Rattle.radius_scan.proofs.visiting.find_rows.Goals as goal

pub go_on-cells-requires-clause-is : goal.go_on-cells-requires-clause-is
go_on-cells-requires-clause-is g c =
    let ws = g.S.Shape.widths in
    let shows = c.new-snapshot.result in
    let new = c.new-snapshot.ensures in
    let a = c.requires.asked in
    let v = c.start.new.self in
    let rest = c.start.ensures.rest in
    let is = subst (IsStore ws) (sym (ap (λ (s : Shown). s.store) new)) c.stamp.ensures.is in
    let g_is : shows.store.g ≡ c.args.store.now.g = ap (λ (s : Shown). s.store.g) new in
    let holds : length (rows_of_cells (shown shows) (cells_of v.ranks)) ≡ length (shown shows) =
    ap (λ (w : Visit (Within g.row.S.Denot)). length (rows_of_cells (shown shows) (cells_of w.ranks))) rest
    ∙ ap (λ (order : List Pair). length (rows_of_cells (shown shows) order)) a.stands.order
    ∙ all_hold shows.ranges shows.stamp shows.store.kept ws shows.store.g shows.store.cells is.rows a.book a.query (ap (λ (s : Shown). s.store.cells) new ∙ c.requires.cells ∙ cells_are a.book a.query c.args.visit.now.ranks a.stands.ranks_are) in
    record {
      over = c.start.ensures.over;
      rows = ap (λ (w : Visit (Within g.row.S.Denot)). w.rows) rest ∙ sym (ap (λ (n : ℕ). length (first_rows (shown shows) (cells_of v.ranks) n)) c.start.ensures.none);
      ready = λ n all.
          subst (λ (w : Visit (Within g.row.S.Denot)). IsReady ws w.scanner (work_of c.start.new.meters) shows.store n) (sym rest) (record {
            tables = ap (λ (t : Full). t.g) c.begin.ensures.tables ∙ c.requires.tables ∙ sym g_is;
            small = c.begin.ensures.room ∙ c.requires.small ∙ sym g_is;
            reach = c.begin.ensures.reach;
            room = omega (
              arith,
              ap (λ (l : List Held). length l) c.begin.ensures.none,
              all,
              ap (λ (w : Visit (Within g.row.S.Denot)). w.rows) rest,
              holds,
              passing-live shows.ranges shows.stamp shows.store.kept,
              ap (λ (s : Shown). length (rows_at s.stamp s.store.kept)) new,
              ap (λ (s : ℕ). length (rows_at s c.args.store.now.kept)) c.stamp.ensures.stamp,
              c.requires.room,
              c.begin.ensures.capacity,
            );
            full = omega (arith, all, holds, c.count_up_to-needed.ensures.few, ap (λ (m : Meters). m.full) c.start.ensures.others, c.requires.meters.full);
          });
      few = omega (arith, holds, c.count_up_to-needed.ensures.few);
    }

pub overflow_cast-result : goal.overflow_cast-result
overflow_cast-result g c =
    let rows : List Row = shown c.new-snapshot.result in
    let v = c.go_on-cells.ensures in
    let w = c.go_on-cells.new.self in
    omega (
      arith,
      c.count.ensures,
      c.count-before.ensures,
      ap (λ (m : Meters). m.full) c.start.ensures.others,
      v.goes.scanned.scans.risen,
      ap (λ (cells : List Pair). length (rows_of_cells rows cells)) (all_between _ _ _ _ _ _ _ v.goes c.start.ensures.none),
      ap (λ (r : Ranked). length (first_rows rows (cells_of r) w.walk.given)) v.goes.ranks,
      front_fits (cells_of w.ranks) w.walk.given rows,
      v.is.few,
    )

pub returns-clause-finds : goal.returns-clause-finds
returns-clause-finds g c book query stands =
    let ws = g.S.Shape.widths in
    let shows = c.new-snapshot.result in
    let new = c.new-snapshot.ensures in
    let ranges = shows.ranges in
    let stamp = shows.stamp in
    let store = shows.store in
    let those : List Row = shown shows in
    let now : stamp ≡ store.stamp = ap (λ (s : Shown). s.stamp) new ∙ c.stamp.ensures.stamp ∙ sym (ap (λ (s : Shown). s.store.stamp) new) in
    let is = subst (IsStore ws) (sym (ap (λ (s : Shown). s.store) new)) c.stamp.ensures.is in
    let ranks = c.args.visit.now.ranks in
    let order : List Pair = cells_of ranks in
    let v0 = c.start.new.self in
    let v1 = c.go_on-cells.new.self in
    let rest = c.start.ensures.rest in
    let v = c.go_on-cells.ensures in
    let none = c.start.ensures.none in
    let ranks0 : v0.ranks ≡ ranks = ap (λ (w : Visit (Within g.row.S.Denot)). w.ranks) rest in
    let ranks1 : v1.ranks ≡ ranks = v.goes.ranks ∙ ranks0 in
    let given = v1.walk.given in
    let items = v1.scanner.pairs.items in
    let r = c.args.radius in
    let asked = radius_query query c.args.wanted ranges in
    let n = c.count_up_to-needed.result in
    let seen : List Row = first_rows those order given in
    let most = v.is.over.entries.filled.most in
    let cells_few = few_cells v1.ranks.k0 v1.ranks.k1 most.0 most.1 in
    let ends : given ≡ length (shortest_prefix those n order) = omega (arith, cells_few, v.is.over.count, v.given, v.cells, none, ap (visit_length those n) ranks0) in
    let visited = visited_now book query 0 c.args.wanted ranges store ranks stands.order stamp now n c.count_up_to-needed.ensures.count given ends in
    let taken = taken_now book query 0 c.args.wanted ranges store ranks stands.order stamp now n c.count_up_to-needed.ensures.count given ends in
    let between : List Row = rows_of_cells those v.goes.between in
    let joined : between ≡ seen =
    ap (rows_of_cells those) (all_between _ _ _ _ _ _ _ v.goes none) ∙ ap (λ (x : Ranked). first_rows those (cells_of x) given) ranks0 in
    let went = v.goes.scanned in
    let tables0 : v0.scanner.tables ≡ c.args.visit.now.scanner.tables = ap (λ (w : Visit (Within g.row.S.Denot)). w.scanner.tables) rest ∙ c.begin.ensures.tables in
    let radius0 : v0.scanner.reach.radius ≡ r = ap (λ (w : Visit (Within g.row.S.Denot)). w.scanner.reach.radius) rest ∙ c.begin.ensures.radius in
    let pairs0 : v0.scanner.pairs.items ≡ [] = ap (λ (w : Visit (Within g.row.S.Denot)). w.scanner.pairs.items) rest ∙ c.begin.ensures.none in
    let filled = subst (IsFilledFor ws book query) (sym tables0) stands.tables in
    let found : map key_of items ≡ pairs_within r (pairs_of book query seen) =
    went.scans.found book query filled
    ∙ ap (λ (l : List Held). map key_of l ++ pairs_within v0.scanner.reach.radius (pairs_of book query between)) pairs0
    ∙ ap (λ (m : ℕ). pairs_within m (pairs_of book query between)) radius0
    ∙ ap (λ (rows : List Row). pairs_within r (pairs_of book query rows)) joined in
    let counted = went.scans.counted book query filled in
    let full_is = ap (λ (m : ℕ). full_within book query m between) radius0 ∙ ap (full_within book query r) joined in
    let moved : IsPermutation items c.sort_unstable.new.self.items = c.sort_unstable.ensures.permutation in
    let up : IsSorted by_key c.sort_unstable.new.self.items = search rules in
    let others = c.start.ensures.others in
    let full0 = ap (λ (m : Meters). m.full) others in
    let live = v.is.rows ∙ ap (λ (x : Ranked). length (first_rows those (cells_of x) given)) ranks1 in
    let blocks0 = ap (λ (x : Ranked). block_count store.kept (take given (cells_of x))) ranks0 in
    subst (λ (s : Shown). Finds book (radius_query query c.args.wanted s.ranges) r s.store (map key_of c.sort_unstable.new.self.items) (record { cells = c.go_on-cells.result; live = v1.rows; full = c.count.result - c.count-before.result }) c.args.meters.now c.go_on-cells.new.meters) new (record {
      answers = sorted_from_sort pair_cmp pair_total pair_exact key_of items c.sort_unstable.new.self.items moved up
          ∙ ap (sorted pair_cmp) found ∙ answer_is book asked r (rows_at store.stamp store.kept) seen visited;
      cells = omega (arith, v.given, none, length_now book query 0 c.args.wanted ranges store ranks stands.order stamp now n c.count_up_to-needed.ensures.count given ends);
      live = live ∙ ap length visited;
      full_rows = omega (arith, c.count.ensures, c.count-before.ensures, full0, counted, full_is, count_is book asked r (rows_at store.stamp store.kept) seen visited);
      full = omega (arith, c.count.ensures, c.count-before.ensures, full0, counted);
      pairs = (omega (arith, v.goes.pairs, c.start.ensures.pairs), omega (arith, v.goes.pairs, c.start.ensures.pairs, v.given, none));
      blocks = omega (arith, v.goes.blocks, blocks0, ap (block_count store.kept) taken, ap (λ (m : Meters). m.blocks) others);
      lanes = omega (arith, v.goes.lanes, blocks0, ap (block_count store.kept) taken, ap (λ (m : Meters). m.lanes) others);
      reads_never_fall = (omega (arith, v.goes.reads_never_fall.0, ap (λ (m : Meters). m.blocks) others), omega (arith, v.goes.reads_never_fall.1, ap (λ (m : Meters). m.lanes) others));
      others = (went.others.0 ∙ ap (λ (m : Meters). m.half_full) others, went.others.1 ∙ ap (λ (m : Meters). m.halves) others);
      none_read = λ below.
          let w = c.begin.new.self in
          let no_threshold : v0.scanner.reach.most ≡ None =
          ap (λ (x : Visit (Within g.row.S.Denot)). x.scanner.reach.most) rest
          ∙ has_none ws w.tables w.small w.reach.radius w.reach.most c.begin.ensures.reach
          (omega (arith, c.begin.ensures.radius, below, ap (λ (ts : Tables). base_sum ts) (tables_of ws book query c.args.visit.now.scanner.tables stands.tables), ap (λ (t : Full). base_sum t.tables) c.begin.ensures.tables)) in
          let same = went.none no_threshold in
          (same.0 ∙ ap (λ (m : Meters). m.blocks) others, same.1 ∙ ap (λ (m : Meters). m.lanes) others);
      few_cells = omega (arith, v.given, none, v.is.over.count, cells_few);
      few_full = omega (arith, c.count.ensures, c.count-before.ensures, full0, went.scans.risen, ap length joined, front_fits (cells_of v1.ranks) given those, v.is.few, ap (λ (x : Ranked). length (first_rows those (cells_of x) given)) ranks1);
      few_blocks = omega (
        arith,
        few_blocks book query store.kept given,
        ap (λ (cs : List Pair). block_count store.kept (take given cs)) stands.order,
        ap (block_count store.kept) taken,
        cells_are book query ranks stands.ranks_are,
        few_cells ranks.k0 ranks.k1 stands.ranked.most.0 stands.ranked.most.1,
        is.few_kept,
        is.most,
        ap (λ (s : Shown). s.store.cells) new,
        c.requires.cells,
      );
    })
