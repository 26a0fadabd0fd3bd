use Rattle.std.proofs.Common.{ℕ, ◌+◌, true, [], ◌∷◌, ◌++◌, get_or, refl, sym, ap, ◌∙◌, arith}
use Rattle.book_model.specs.Rows.{Row}
use Rattle.book_model.specs.Order.{kth_least}
use Rattle.book_model.specs.Answer.{pairs_of}
use Rattle.shape_core.specs.Word.{code_of_words}
use Rattle.best_k.specs.Least.{Kept, least}
use Rattle.adc_tables.proofs.Codes.{fields_of_words}
use Rattle.prune_scan.proofs.Standing.{held_enough, held_now, k_reached, k_not_reached, reached_above, still_open, begins, goes_on, when_pruning, when_open}
use Rattle.prune_scan.proofs.block.take_row.Goals as goal

pub fill-requires-clause-above : goal.fill-requires-clause-above
fill-requires-clause-above g c =
    let ws = g.S.Shape.widths in
    let st = c.requires.standing in
    let s = st.stands in
    let words = get_or c.args.block.now c.args.lane [] in
    let row : Row = record { id = c.args.id; cell = 0; code = code_of_words ws words } in
    let code = fields_of_words ws st.book st.query c.args.tables.now s.filled words (c.requires.codes.each c.args.lane c.requires.lane) in
    let best = c.args.best.now in
    let k = ap (λ (b : Kept). b.k) c.offer.ensures.kept in
    let pairs = pairs_of st.book st.query st.seen in
    let held = c.offer.ensures.of_all pairs s.held ∙ ap (λ (d : ℕ). least best.k (pairs ++ (d, c.args.id) ∷ [])) (c.distance_of-distance.ensures.distance st.book st.query s.filled) in
    let now = held_now ws c.args.tables.now st.book st.query st.seen c.args.state.now c.args.small.now best s row code c.offer.new.self k held in
    let all = pairs_of st.book st.query (st.seen ++ row ∷ []) in
    let le = k_reached ws c.args.tables.now st.book st.query st.seen c.args.state.now c.args.small.now best s row code c.offer.new.self k held (held_enough _ _ (c.in-Some.ensures.none.1)) in
    omega (arith, c.in-Some.ensures.of_all all (now ∙ ap (λ n. least n all) (sym k)), ap (λ n. kth_least n all) k, reached_above ws c.args.tables.now st.book st.query st.seen c.args.state.now c.args.small.now best s row code c.offer.new.self k held le)

pub returns-in-Some-clause-adds : goal.returns-in-Some-clause-adds
returns-in-Some-clause-adds g c cell =
    let ws = g.S.Shape.widths in
    let words = get_or c.args.block.now c.args.lane [] in
    let row : Row = record { id = c.args.id; cell = cell; code = code_of_words ws words } in
    let best = c.args.best.now in
    let k = ap (λ (b : Kept). b.k) c.offer.ensures.kept in
    record {
      stands = λ book query seen s.
          let code = fields_of_words ws book query c.args.tables.now s.filled words (c.requires.codes.each c.args.lane c.requires.lane) in
          let held = c.offer.ensures.of_all (pairs_of book query seen) s.held ∙ ap (λ (d : ℕ). least best.k (pairs_of book query seen ++ (d, c.args.id) ∷ [])) (c.distance_of-distance.ensures.distance book query s.filled) in
          let now = held_now ws c.args.tables.now book query seen c.args.state.now c.args.small.now best s row code c.offer.new.self k held in
          let all = pairs_of book query (seen ++ row ∷ []) in
          let le = k_reached ws c.args.tables.now book query seen c.args.state.now c.args.small.now best s row code c.offer.new.self k held (held_enough _ _ (c.in-Some.ensures.none.1)) in
          begins ws c.args.tables.now book query seen c.args.state.now c.args.small.now best s row code c.offer.new.self k held
          (record { rows = c.args.state.now.rows + 1; pruning = true; theta0 = c.in-Some.worst.distance }) c.fill.new.self refl refl (when_open _ _ _ _ _ _ _ _ s c.if-not-state.true) le
          (c.in-Some.ensures.of_all all (now ∙ ap (λ n. least n all) (sym k)) ∙ ap (λ n. kth_least n all) k) c.fill.ensures.filled;
      sizes = (c.fill.ensures.room, k, ap (λ (b : Kept). b.room) c.offer.ensures.kept);
      stays = λ is. let open_before = c.if-not-state.true in cc;
    }

pub returns-in_default-clause-adds : goal.returns-in_default-clause-adds
returns-in_default-clause-adds g c cell =
    let ws = g.S.Shape.widths in
    let words = get_or c.args.block.now c.args.lane [] in
    let row : Row = record { id = c.args.id; cell = cell; code = code_of_words ws words } in
    let best = c.args.best.now in
    let k = ap (λ (b : Kept). b.k) c.offer.ensures.kept in
    record {
      stands = λ book query seen s.
          let code = fields_of_words ws book query c.args.tables.now s.filled words (c.requires.codes.each c.args.lane c.requires.lane) in
          let held = c.offer.ensures.of_all (pairs_of book query seen) s.held ∙ ap (λ (d : ℕ). least best.k (pairs_of book query seen ++ (d, c.args.id) ∷ [])) (c.distance_of-distance.ensures.distance book query s.filled) in
          still_open ws c.args.tables.now book query seen c.args.state.now c.args.small.now best s row code c.offer.new.self k held
          (record { rows = c.args.state.now.rows + 1; pruning = c.args.state.now.pruning; theta0 = c.args.state.now.theta0 }) c.args.small.now refl c.if-not-state.true
          (k_not_reached ws c.args.tables.now book query seen c.args.state.now c.args.small.now best s row code c.offer.new.self k held (c.in_default.ensures.none.0 refl));
      sizes = (refl, k, ap (λ (b : Kept). b.room) c.offer.ensures.kept);
      stays = λ is. let open_before = c.if-not-state.true in cc;
    }

pub returns-else-not-state-clause-adds : goal.returns-else-not-state-clause-adds
returns-else-not-state-clause-adds g c cell =
    let ws = g.S.Shape.widths in
    let words = get_or c.args.block.now c.args.lane [] in
    let row : Row = record { id = c.args.id; cell = cell; code = code_of_words ws words } in
    let best = c.args.best.now in
    let k = ap (λ (b : Kept). b.k) c.offer.ensures.kept in
    record {
      stands = λ book query seen s.
          let code = fields_of_words ws book query c.args.tables.now s.filled words (c.requires.codes.each c.args.lane c.requires.lane) in
          let held = c.offer.ensures.of_all (pairs_of book query seen) s.held ∙ ap (λ (d : ℕ). least best.k (pairs_of book query seen ++ (d, c.args.id) ∷ [])) (c.distance_of-distance.ensures.distance book query s.filled) in
          goes_on ws c.args.tables.now book query seen c.args.state.now c.args.small.now best s row code c.offer.new.self k held
          (record { rows = c.args.state.now.rows + 1; pruning = c.args.state.now.pruning; theta0 = c.args.state.now.theta0 }) refl c.if-not-state.false refl
          (when_pruning _ _ _ _ _ _ _ _ s c.if-not-state.false);
      sizes = (refl, k, ap (λ (b : Kept). b.room) c.offer.ensures.kept);
      stays = λ is. (refl, c.if-not-state.false);
    }
