-- The visit is over: the best pairs are those of all visited rows.
use Rattle.std.proofs.Common.{◌≡◌, ℕ, ◌+◌, ◌-◌, ◌*◌, List, [], length, take, sym, ap, ap₂, subst, ◌∙◌, arith}
use Rattle.book_model.specs.Order.{Pair}
use Rattle.book_model.specs.Rows.{Row}
use Rattle.book_model.specs.Visit.{rows_of_cells, shortest_prefix}
use Rattle.book_model.proofs.Good.{cells_le}
use Rattle.lane_kernels.specs.Sums.{AreTables}
use Rattle.adc_tables.specs.Small.{HaveSizes}
use Rattle.cell_store.specs.Shown.{Shown, shown}
use Rattle.cell_store.specs.Held.{IsStore}
use Rattle.coarse_rank.specs.Ranked.{Ranked, cells_of}
use Rattle.best_k.specs.Least.{least}
use Rattle.prune_scan.specs.declared.meters.Meters.{Meters}
use Rattle.query_engine.specs.Report.{query_of}
use Rattle.query_engine.specs.Scanning.{work_of}
use Rattle.query_engine.specs.Progress.{first_rows, block_count, visit_length}
use Rattle.query_engine.specs.declared.scanning.Visit.{Visit}
use Rattle.query_engine.proofs.Answering.{few_cells, length_now, taken_now, visited_now}
use Rattle.query_engine.proofs.Blocks.{few_blocks}
use Rattle.query_engine.proofs.GoingOn.{all_between}
use Rattle.query_engine.proofs.Passing.{all_hold}
use Rattle.query_engine.proofs.Prefix.{front_fits}
use Rattle.residual_scan.specs.Answer.{residual_pairs, full_in_cells}
use Rattle.residual_scan.specs.Misses.{misses, keys_in}
use Rattle.residual_scan.specs.Caching.{Stands}
use Rattle.residual_scan.specs.Halving.{IsReady}
use Rattle.residual_scan.specs.Report.{Answers}
use Rattle.residual_scan.specs.declared.halved.Halved.{Halved}
use Rattle.residual_scan.proofs.Visits.{full_le, halves_le, least_none}
use Rattle.residual_scan.proofs.Answering.{answer_now, full_now, keys_now}
use Rattle.residual_scan.proofs.Clearing.{stands_cleared}
use Rattle.residual_scan.proofs.searching.answer.Goals as goal

pub go_on-cells-requires-clause-is : goal.go_on-cells-requires-clause-is
go_on-cells-requires-clause-is g c =
    let ws = g.S.Shape.widths in
    let book = c.args.asked.now.book.now in
    let v : List ℕ = c.args.asked.now.query.now in
    let shows = c.new-snapshot.result in
    let new = c.new-snapshot.ensures in
    let room = c.requires.room in
    let begun = c.begin.ensures in
    let rest = c.start.ensures.rest in
    let is = subst (IsStore ws) (sym (ap (λ (s : Shown). s.store) new)) c.stamp.ensures.is in
    let cells_is : shows.store.cells ≡ book.k0 * book.k1 = ap (λ (s : Shown). s.store.cells) new ∙ c.requires.cells in
    let shape = c.d-d.ensures.shape in
    let ranks = c.start.new.self.ranks in
    let holds : length (rows_of_cells (shown shows) (cells_of ranks)) ≡ length (shown shows) =
    ap (λ (w : Visit (Halved g.row.S.Denot)). length (rows_of_cells (shown shows) (cells_of w.ranks))) rest
    ∙ ap (λ (order : List Pair). length (rows_of_cells (shown shows) order)) c.fill.ensures.order
    ∙ all_hold shows.ranges shows.stamp shows.store.kept ws shows.store.g shows.store.cells is.rows book v cells_is in
    record {
      over = c.start.ensures.over;
      rows = ap (λ (w : Visit (Halved g.row.S.Denot)). w.rows) rest ∙ sym (ap (λ (n : ℕ). length (first_rows (shown shows) (cells_of ranks) n)) c.start.ensures.none);
      ready = λ n all.
          subst (λ (w : Visit (Halved g.row.S.Denot)). IsReady ws book v w.scanner (work_of c.start.new.meters) shows.store n) (sym rest)
          (subst (λ (s : Halved g.row.S.Denot). IsReady ws book v s (work_of c.start.new.meters) shows.store n) (sym begun.rest) (record {
            residual = c.requires.residual;
            shape = shape;
            query = c.requires.query;
            g = ap (λ (s : Shown). s.store.g) new ∙ c.requires.g;
            cells = cells_is;
            count = room.halves;
            each = room.each;
            parts = subst (λ (w : List ℕ). AreTables w book.g c.args.visit.now.scanner.parts.items) shape room.parts;
            sizes = subst (λ (w : List ℕ). HaveSizes w c.args.visit.now.scanner.parts.items) shape room.sizes;
            places = begun.count ∙ room.places;
            slots = room.slots;
            filled = ([], stands_cleared book v c.args.visit.now.scanner.cache c.args.visit.now.scanner.slots c.begin.new.self.places.items c.args.visit.now.scanner.tables.items room.slots begun.places);
            some = omega (arith, c.requires.some, ap (λ b. b.k) begun.best);
            held = ([], ap (λ b. b.pairs) begun.best ∙ sym (least_none c.begin.new.self.best.k));
            half_full = omega (arith, all, holds, c.count_up_to-needed.ensures.few, ap (λ (m : Meters). m.half_full) c.start.ensures.others, c.requires.meters.half_full);
            halves = omega (arith, all, holds, c.count_up_to-needed.ensures.few, ap (λ (m : Meters). m.halves) c.start.ensures.others, c.requires.meters.halves);
          }));
      few = omega (arith, holds, c.count_up_to-needed.ensures.few);
    }

pub overflow_sub-result : goal.overflow_sub-result
overflow_sub-result g c =
    let ws = g.S.Shape.widths in
    let book = c.args.asked.now.book.now in
    let query : List ℕ = c.args.asked.now.query.now in
    let shows = c.new-snapshot.result in
    let new = c.new-snapshot.ensures in
    let those : List Row = shown shows in
    let rest = c.start.ensures.rest in
    let begun = c.begin.ensures in
    let ranks = c.fill.new.self in
    let v0 = c.start.new.self in
    let v1 = c.go_on-cells.new.self in
    let e = c.go_on-cells.ensures in
    let given = v1.walk.given in
    let ranks0 : v0.ranks ≡ ranks = ap (λ (w : Visit (Halved g.row.S.Denot)). w.ranks) rest in
    let scanner0 : v0.scanner ≡ c.begin.new.self = ap (λ (w : Visit (Halved g.row.S.Denot)). w.scanner) rest in
    let best0 = ap (λ (s : Halved g.row.S.Denot). s.best) scanner0 ∙ begun.best in
    let k : v0.scanner.best.k ≡ c.args.k = ap (λ b. b.k) best0 in
    let held : v0.scanner.best.pairs ≡ least v0.scanner.best.k (residual_pairs book query []) = ap (λ b. b.pairs) best0 ∙ sym (least_none v0.scanner.best.k) in
    let between : e.goes.between ≡ take given (cells_of ranks) = all_between _ _ _ _ _ _ _ e.goes c.start.ensures.none ∙ ap (λ (r : Ranked). take given (cells_of r)) ranks0 in
    let went = e.goes.scanned in
    let counted : c.go_on-cells.new.meters.half_full ≡ c.start.new.meters.half_full + full_in_cells book query c.args.k those [] (take given (cells_of ranks)) =
    went.full [] held ∙ ap₂ (λ (n : ℕ) (cs : List Pair). c.start.new.meters.half_full + full_in_cells book query n those [] cs) k between in
    let full0 = ap (λ (m : Meters). m.half_full) c.start.ensures.others in
    omega (arith, c.count.ensures, c.count-before.ensures, full0, counted)

pub overflow_cast-result : goal.overflow_cast-result
overflow_cast-result g c =
    let ws = g.S.Shape.widths in
    let book = c.args.asked.now.book.now in
    let query : List ℕ = c.args.asked.now.query.now in
    let shows = c.new-snapshot.result in
    let new = c.new-snapshot.ensures in
    let those : List Row = shown shows in
    let rest = c.start.ensures.rest in
    let begun = c.begin.ensures in
    let ranks = c.fill.new.self in
    let v0 = c.start.new.self in
    let v1 = c.go_on-cells.new.self in
    let e = c.go_on-cells.ensures in
    let given = v1.walk.given in
    let ranks0 : v0.ranks ≡ ranks = ap (λ (w : Visit (Halved g.row.S.Denot)). w.ranks) rest in
    let ranks1 : v1.ranks ≡ ranks = e.goes.ranks ∙ ranks0 in
    let scanner0 : v0.scanner ≡ c.begin.new.self = ap (λ (w : Visit (Halved g.row.S.Denot)). w.scanner) rest in
    let best0 = ap (λ (s : Halved g.row.S.Denot). s.best) scanner0 ∙ begun.best in
    let k : v0.scanner.best.k ≡ c.args.k = ap (λ b. b.k) best0 in
    let held : v0.scanner.best.pairs ≡ least v0.scanner.best.k (residual_pairs book query []) = ap (λ b. b.pairs) best0 ∙ sym (least_none v0.scanner.best.k) in
    let between : e.goes.between ≡ take given (cells_of ranks) = all_between _ _ _ _ _ _ _ e.goes c.start.ensures.none ∙ ap (λ (r : Ranked). take given (cells_of r)) ranks0 in
    let went = e.goes.scanned in
    let counted : c.go_on-cells.new.meters.half_full ≡ c.start.new.meters.half_full + full_in_cells book query c.args.k those [] (take given (cells_of ranks)) =
    went.full [] held ∙ ap₂ (λ (n : ℕ) (cs : List Pair). c.start.new.meters.half_full + full_in_cells book query n those [] cs) k between in
    let full0 = ap (λ (m : Meters). m.half_full) c.start.ensures.others in
    let few_full = full_le book query c.args.k those [] (take given (cells_of ranks)) in
    let live : v1.rows ≡ length (first_rows those (cells_of ranks) given) = e.is.rows ∙ ap (λ (r : Ranked). length (first_rows those (cells_of r) given)) ranks1 in
    let total = e.is.few in
    let fits = front_fits (cells_of v1.ranks) given those in
    omega (arith, c.count.ensures, c.count-before.ensures, full0, counted, few_full, live, e.is.rows, fits, total)

pub returns-clause-answers : goal.returns-clause-answers
returns-clause-answers g c =
    let ws = g.S.Shape.widths in
    let book = c.args.asked.now.book.now in
    let query : List ℕ = c.args.asked.now.query.now in
    let shows = c.new-snapshot.result in
    let new = c.new-snapshot.ensures in
    let those : List Row = shown shows in
    let rest = c.start.ensures.rest in
    let begun = c.begin.ensures in
    let ranks = c.fill.new.self in
    let v0 = c.start.new.self in
    let v1 = c.go_on-cells.new.self in
    let e = c.go_on-cells.ensures in
    let given = v1.walk.given in
    let ranks0 : v0.ranks ≡ ranks = ap (λ (w : Visit (Halved g.row.S.Denot)). w.ranks) rest in
    let ranks1 : v1.ranks ≡ ranks = e.goes.ranks ∙ ranks0 in
    let scanner0 : v0.scanner ≡ c.begin.new.self = ap (λ (w : Visit (Halved g.row.S.Denot)). w.scanner) rest in
    let best0 = ap (λ (s : Halved g.row.S.Denot). s.best) scanner0 ∙ begun.best in
    let k : v0.scanner.best.k ≡ c.args.k = ap (λ b. b.k) best0 in
    let held : v0.scanner.best.pairs ≡ least v0.scanner.best.k (residual_pairs book query []) = ap (λ b. b.pairs) best0 ∙ sym (least_none v0.scanner.best.k) in
    let between : e.goes.between ≡ take given (cells_of ranks) = all_between _ _ _ _ _ _ _ e.goes c.start.ensures.none ∙ ap (λ (r : Ranked). take given (cells_of r)) ranks0 in
    let went = e.goes.scanned in
    let counted : c.go_on-cells.new.meters.half_full ≡ c.start.new.meters.half_full + full_in_cells book query c.args.k those [] (take given (cells_of ranks)) =
    went.full [] held ∙ ap₂ (λ (n : ℕ) (cs : List Pair). c.start.new.meters.half_full + full_in_cells book query n those [] cs) k between in
    let full0 = ap (λ (m : Meters). m.half_full) c.start.ensures.others in
    let few_full = full_le book query c.args.k those [] (take given (cells_of ranks)) in
    let live : v1.rows ≡ length (first_rows those (cells_of ranks) given) = e.is.rows ∙ ap (λ (r : Ranked). length (first_rows those (cells_of r) given)) ranks1 in
    let total = e.is.few in
    let fits = front_fits (cells_of v1.ranks) given those in
    let ranges = shows.ranges in
    let stamp = shows.stamp in
    let store = shows.store in
    let now : stamp ≡ store.stamp = ap (λ (s : Shown). s.stamp) new ∙ c.stamp.ensures.stamp ∙ sym (ap (λ (s : Shown). s.store.stamp) new) in
    let is = subst (IsStore ws) (sym (ap (λ (s : Shown). s.store) new)) c.stamp.ensures.is in
    let order_is = c.fill.ensures.order in
    let n = c.count_up_to-needed.result in
    let n_is = c.count_up_to-needed.ensures.count in
    let none = c.start.ensures.none in
    let most = e.is.over.entries.filled.most in
    let cells_few = few_cells v1.ranks.k0 v1.ranks.k1 most.0 most.1 in
    let ends : given ≡ length (shortest_prefix those n (cells_of ranks)) = omega (arith, cells_few, e.is.over.count, e.given, e.cells, none, ap (visit_length those n) ranks0) in
    let taken = taken_now book query c.args.k c.args.wanted ranges store ranks order_is stamp now n n_is given ends in
    let visited = visited_now book query c.args.k c.args.wanted ranges store ranks order_is stamp now n n_is given ends in
    let full_is = full_now book query c.args.k c.args.wanted ranges store ranks order_is stamp now n n_is given ends in
    let keys = keys_now book query c.args.k c.args.wanted ranges store ranks order_is stamp now n n_is given ends in
    let cache0 : v0.scanner.cache ≡ c.args.visit.now.scanner.cache = ap (λ (s : Halved g.row.S.Denot). s.cache) (scanner0 ∙ begun.rest) in
    let stands0 = subst (λ (s : Halved g.row.S.Denot). Stands book query [] s.slots s.places.items s.tables.items) (sym (scanner0 ∙ begun.rest))
    (stands_cleared book query c.args.visit.now.scanner.cache c.args.visit.now.scanner.slots c.begin.new.self.places.items c.args.visit.now.scanner.tables.items c.requires.room.slots begun.places) in
    let halves0 = ap (λ (m : Meters). m.halves) c.start.ensures.others in
    let missed : c.go_on-cells.new.meters.halves ≡ c.start.new.meters.halves + misses c.args.visit.now.scanner.cache [] (keys_in book those (take given (cells_of ranks))) =
    (went.stands [] stands0).1 ∙ ap₂ (λ (m : ℕ) (cs : List Pair). c.start.new.meters.halves + misses m [] (keys_in book those cs)) cache0 between in
    let blocks0 = ap (λ (r : Ranked). block_count store.kept (take given (cells_of r))) ranks0 in
    let others = c.start.ensures.others in
    subst (λ (s : Shown). Answers book (query_of query c.args.k c.args.wanted s.ranges) s.store c.args.visit.now.scanner.cache v1.scanner.best (record { cells = c.go_on-cells.result; live = v1.rows; full = c.count.result - c.count-before.result }) c.args.meters.now c.go_on-cells.new.meters) new (record {
      answers = went.held [] held ∙ ap₂ (λ (n : ℕ) (cs : List Pair). least n (residual_pairs book query (rows_of_cells those cs))) k between
          ∙ answer_now book query c.args.k c.args.wanted ranges store ranks order_is stamp now n n_is given ends;
      reports = record {
        cells = omega (arith, e.given, none, length_now book query c.args.k c.args.wanted ranges store ranks order_is stamp now n n_is given ends);
        live = live ∙ ap length visited;
        full = omega (arith, counted, full0, full_is, c.count.ensures, c.count-before.ensures);
      };
      full = omega (arith, counted, full0, c.count.ensures, c.count-before.ensures);
      halves = omega (arith, missed, halves0, ap (misses c.args.visit.now.scanner.cache []) keys);
      pairs = (omega (arith, e.goes.pairs, c.start.ensures.pairs), omega (arith, e.goes.pairs, c.start.ensures.pairs, e.given, none));
      blocks = omega (arith, e.goes.blocks, blocks0, ap (block_count store.kept) taken, ap (λ (m : Meters). m.blocks) others);
      lanes = omega (arith, e.goes.lanes, blocks0, ap (block_count store.kept) taken, ap (λ (m : Meters). m.lanes) others);
      reads_never_fall = (omega (arith, e.goes.reads_never_fall.0, ap (λ (m : Meters). m.blocks) others), omega (arith, e.goes.reads_never_fall.1, ap (λ (m : Meters). m.lanes) others));
      others = e.goes.scanned.others ∙ ap (λ (m : Meters). m.full) others;
      few_cells = omega (arith, e.given, none, e.is.over.count, cells_few);
      few_full = omega (arith, c.count.ensures, c.count-before.ensures, full0, counted, few_full, live, e.is.rows, fits, total);
      few_halves = omega (arith, halves_le book c.args.visit.now.scanner.cache those (cells_of ranks) given, e.is.over.count, cells_few, ap (misses c.args.visit.now.scanner.cache []) keys);
      few_blocks = omega (
        arith,
        few_blocks book query store.kept given,
        ap (λ (order : List Pair). block_count store.kept (take given order)) order_is,
        ap (block_count store.kept) taken,
        cells_le book c.requires.residual.good,
        is.few_kept,
        is.most,
        is.cells,
        ap (λ (s : Shown). s.store.cells) new,
        c.requires.cells,
      );
    })

pub returns-clause-room : goal.returns-clause-room
returns-clause-room g c =
    let e = c.go_on-cells.ensures in
    let v1 = c.go_on-cells.new.self in
    let rows : List Row = shown c.new-snapshot.result in
    let left = length (rows_of_cells rows (cells_of v1.ranks)) - v1.rows in
    let ready = e.is.ready left (omega (arith, e.is.rows, front_fits (cells_of v1.ranks) v1.walk.given rows)) in
    let ranks = e.goes.ranks ∙ ap (λ (w : Visit (Halved g.row.S.Denot)). w.ranks) c.start.ensures.rest in
    let shape = sym c.d-d.ensures.shape in
    record {
      k0 = ap (λ (r : Ranked). r.k0) ranks ∙ c.fill.ensures.room_stays.0 ∙ c.requires.room.k0;
      k1 = ap (λ (r : Ranked). r.k1) ranks ∙ c.fill.ensures.room_stays.1 ∙ c.requires.room.k1;
      halves = ready.count;
      each = ready.each;
      parts = subst (λ (w : List ℕ). AreTables w c.args.asked.now.book.now.g v1.scanner.parts.items) shape ready.parts;
      sizes = subst (λ (w : List ℕ). HaveSizes w v1.scanner.parts.items) shape ready.sizes;
      places = ready.places;
      slots = ready.slots;
    }
