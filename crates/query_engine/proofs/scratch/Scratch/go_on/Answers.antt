-- A stretch of a visit for the k least.
use Rattle.std.proofs.Common.{◌≡◌, ◌∙◌, ℕ, ◌+◌, ◌≤◌, List, [], ◌++◌, length, take, sym, ap, subst, arith, length-append}
use Rattle.std.proofs.lemmas.List.Concat.{flat_map-append}
use Rattle.book_model.specs.Order.{Pair}
use Rattle.book_model.specs.Rows.{Row, rows_in}
use Rattle.book_model.specs.Visit.{rows_of_cells}
use Rattle.book_model.specs.Answer.{full_after}
use Rattle.cell_store.specs.Shown.{shown}
use Rattle.coarse_rank.specs.Ranked.{Ranked, cells_of}
use Rattle.adc_tables.specs.Full.{Full, IsFilledFor}
use Rattle.prune_scan.specs.Standing.{Stands}
use Rattle.prune_scan.proofs.Fullness.{full_after-append}
use Rattle.query_engine.specs.Parts.{Scratched, IsAsked, SameQuery}
use Rattle.query_engine.specs.Progress.{HasVisited, Costs, first_rows, visit_length}
use Rattle.query_engine.specs.Pruning.{scratch_of}
use Rattle.query_engine.proofs.Blocks.{all_fit}
use Rattle.query_engine.proofs.Prefix.{front_fits}
use Rattle.query_engine.proofs.scratch.Scratch.go_on.Goals as goal

pub go_on-requires-clause-is : goal.go_on-requires-clause-is
go_on-requires-clause-is g c =
    let ws = g.S.Shape.widths in
    let s = c.args.snapshot.now in
    let rows : List Row = shown s in
    let v = c.self.inside.visit in
    let order : List Pair = cells_of v.ranks in
    let visited = subst (HasVisited ws rows) (sym c.self.view_is) c.requires.visited in
    let a = subst (λ (q : Scratched). IsAsked ws q.ranks q.full) (sym c.self.view_is) c.requires.asked in
    let st = visited.stands a.book a.query a.stands.tables in
    let few : length (rows_of_cells rows order) ≤ 8388608 = omega (arith, ap (λ (o : List Pair). length (rows_of_cells rows o)) a.stands.order, all_fit a.book a.query rows, c.requires.rows) in
    let g_is : v.scanner.tables.g ≡ s.store.g = ap (λ (q : Scratched). q.full.g) c.self.view_is ∙ c.requires.g in
    record {
      over = visited.over;
      rows = c.self.invariant ∙ st.rows;
      ready = λ n all. record {
        tables = g_is;
        small = visited.small_g ∙ g_is;
        standing = record { book = a.book; query = a.query; seen = first_rows rows order v.walk.given; stands = st };
        room = omega (arith, all, few, c.self.invariant);
        full = omega (arith, all, few, c.requires.meters.full);
      };
      few = few;
    }

pub go_on-requires-clause-within : goal.go_on-requires-clause-within
go_on-requires-clause-within g c =
    subst (λ (q : Scratched). q.walk.given ≤ visit_length (shown c.args.snapshot.now) c.args.needed q.ranks) (sym c.self.view_is) c.requires.within

pub invariant_of-self : goal.invariant_of-self
invariant_of-self g c =
    let ws = g.S.Shape.widths in
    let s = c.args.snapshot.now in
    let rows : List Row = shown s in
    let v = c.self.inside.visit in
    let v1 = c.go_on.new.self in
    let order : List Pair = cells_of v.ranks in
    let e = c.go_on.ensures in
    let went = e.goes.scanned in
    let seen : List Row = first_rows rows order v.walk.given in
    let more : List Row = rows_of_cells rows e.goes.between in
    let visited = subst (HasVisited ws rows) (sym c.self.view_is) c.requires.visited in
    let joined : seen ++ more ≡ first_rows rows order v1.walk.given = sym (flat_map-append (λ (x : Pair). rows_in x.1 rows) (take v.walk.given order) e.goes.between) ∙ ap (rows_of_cells rows) e.goes.joins in
    let a = subst (λ (q : Scratched). IsAsked ws q.ranks q.full) (sym c.self.view_is) c.requires.asked in
    let st = visited.stands a.book a.query a.stands.tables in
    omega (arith, st.rows, e.is.rows, ap (λ (r : Ranked). length (first_rows rows (cells_of r) v1.walk.given)) e.goes.ranks, ap (λ (l : List Row). length l) joined, length-append seen more, went.saw)

pub returns-clause-visited : goal.returns-clause-visited
returns-clause-visited g c =
    let ws = g.S.Shape.widths in
    let s = c.args.snapshot.now in
    let rows : List Row = shown s in
    let v = c.self.inside.visit in
    let v1 = c.go_on.new.self in
    let order : List Pair = cells_of v.ranks in
    let e = c.go_on.ensures in
    let went = e.goes.scanned in
    let seen : List Row = first_rows rows order v.walk.given in
    let more : List Row = rows_of_cells rows e.goes.between in
    let visited = subst (HasVisited ws rows) (sym c.self.view_is) c.requires.visited in
    let joined : seen ++ more ≡ first_rows rows order v1.walk.given = sym (flat_map-append (λ (x : Pair). rows_in x.1 rows) (take v.walk.given order) e.goes.between) ∙ ap (rows_of_cells rows) e.goes.joins in
    record {
      over = e.is.over;
      small_g = went.adds.sizes.0 ∙ visited.small_g ∙ sym (ap (λ (t : Full). t.g) went.tables);
      stands = λ book query filled.
          let was = visited.stands book query (subst (IsFilledFor ws book query) went.tables filled) in
          let now = went.adds.stands book query seen was in
          subst (λ (t : Full). Stands ws t book query (first_rows rows (cells_of v1.ranks) v1.walk.given) v1.scanner.state v1.scanner.small v1.scanner.best) (sym went.tables)
          (subst (λ (all : List Row). Stands ws v.scanner.tables book query all v1.scanner.state v1.scanner.small v1.scanner.best) (joined ∙ ap (λ (r : Ranked). first_rows rows (cells_of r) v1.walk.given) (sym e.goes.ranks)) now);
    }

pub returns-clause-same : goal.returns-clause-same
returns-clause-same g c =
    let e = c.go_on.ensures in
    let went = e.goes.scanned in
    subst (λ (q : Scratched). SameQuery q (scratch_of c.go_on.new.self)) c.self.view_is (record { ranks = e.goes.ranks; full = went.tables; k = went.adds.sizes.1; room = went.adds.sizes.2 })

pub returns-clause-few : goal.returns-clause-few
returns-clause-few g c =
    let ws = g.S.Shape.widths in
    let s = c.args.snapshot.now in
    let rows : List Row = shown s in
    let v = c.self.inside.visit in
    let v1 = c.go_on.new.self in
    let order : List Pair = cells_of v.ranks in
    let e = c.go_on.ensures in
    let went = e.goes.scanned in
    let seen : List Row = first_rows rows order v.walk.given in
    let more : List Row = rows_of_cells rows e.goes.between in
    let visited = subst (HasVisited ws rows) (sym c.self.view_is) c.requires.visited in
    let joined : seen ++ more ≡ first_rows rows order v1.walk.given = sym (flat_map-append (λ (x : Pair). rows_in x.1 rows) (take v.walk.given order) e.goes.between) ∙ ap (rows_of_cells rows) e.goes.joins in
    let a = subst (λ (q : Scratched). IsAsked ws q.ranks q.full) (sym c.self.view_is) c.requires.asked in
    let st = visited.stands a.book a.query a.stands.tables in
    omega (
      arith,
      st.rows,
      went.saw,
      ap (λ (l : List Row). length l) joined,
      length-append seen more,
      front_fits (cells_of v1.ranks) v1.walk.given rows,
      ap (λ (r : Ranked). length (first_rows rows (cells_of r) v1.walk.given)) e.goes.ranks,
      e.is.few,
    )

pub returns-clause-costs : goal.returns-clause-costs
returns-clause-costs g c =
    let ws = g.S.Shape.widths in
    let s = c.args.snapshot.now in
    let rows : List Row = shown s in
    let v = c.self.inside.visit in
    let v1 = c.go_on.new.self in
    let order : List Pair = cells_of v.ranks in
    let e = c.go_on.ensures in
    let went = e.goes.scanned in
    let seen : List Row = first_rows rows order v.walk.given in
    let more : List Row = rows_of_cells rows e.goes.between in
    let visited = subst (HasVisited ws rows) (sym c.self.view_is) c.requires.visited in
    let joined : seen ++ more ≡ first_rows rows order v1.walk.given = sym (flat_map-append (λ (x : Pair). rows_in x.1 rows) (take v.walk.given order) e.goes.between) ∙ ap (rows_of_cells rows) e.goes.joins in
    let a = subst (λ (q : Scratched). IsAsked ws q.ranks q.full) (sym c.self.view_is) c.requires.asked in
    let k = v.scanner.best.k in
    subst (λ (q : Scratched). Costs ws s q v1.walk.given c.args.meters.now c.go_on.new.meters) c.self.view_is (record {
      full = λ book query filled.
          omega (arith, went.counts book query seen (visited.stands book query filled), full_after-append book query k [] seen more, ap (full_after book query k []) joined);
      never_falls = omega (arith, went.counts a.book a.query seen (visited.stands a.book a.query a.stands.tables));
      pairs = e.goes.pairs;
      blocks = e.goes.blocks;
      lanes = e.goes.lanes;
      few_blocks = e.goes.few_blocks;
      few_lanes = e.goes.few_lanes;
      reads_never_fall = e.goes.reads_never_fall;
      others = went.others;
    })
