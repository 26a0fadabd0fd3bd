use Rattle.std.proofs.Common.{◌≡◌, ℕ, ◌-◌, ◌/◌, true, false, cond, [], min, get_or, refl, sym, ap, subst, ◌∙◌, arith}
use Rattle.std.proofs.lemmas.Bool.{leb-true}
use Rattle.book_model.specs.Rows.{Row}
use Rattle.book_model.specs.Answer.{pairs_of, is_full}
use Rattle.book_model.proofs.Fullness.{full_early}
use Rattle.shape_core.specs.Word.{code_of_words}
use Rattle.lane_kernels.specs.Sums.{code_sum}
use Rattle.adc_tables.specs.Small.{Small}
use Rattle.adc_tables.proofs.Codes.{fields_of_words}
use Rattle.prune_scan.specs.Blocks.{AreCodes}
use Rattle.prune_scan.proofs.Standing.{when_pruning, when_open, kept_is_full}
use Rattle.prune_scan.proofs.Adding.{still_standing}
use Rattle.prune_scan.proofs.block.take_lane.Goals as goal

pub renew-requires-clause-standing : goal.renew-requires-clause-standing
renew-requires-clause-standing g c = still_standing _ _ _ _ _ _ _ _ _ c.requires.standing (c.take_row.ensures.adds 0)

pub renew-requires-clause-on : goal.renew-requires-clause-on
renew-requires-clause-on g c = ((c.take_row.ensures.adds 0).stays c.if-pruned.true).1

pub renew-requires-clause-most : goal.renew-requires-clause-most
renew-requires-clause-most g c =
    let on = c.if-pruned.true in
    c.requires.limit.most on ∙ ap (λ (m : Small). (c.args.limit.now.theta - m.base) / m.size) (sym ((c.take_row.ensures.adds 0).stays on).0)

pub renew-requires-clause-lanes : goal.renew-requires-clause-lanes
renew-requires-clause-lanes g c = c.requires.near.lanes c.if-pruned.true

pub limit_of-requires : goal.limit_of-requires
limit_of-requires g c = record { standing = still_standing _ _ _ _ _ _ _ _ _ c.requires.standing (c.take_row.ensures.adds 0) }

pub near_of-requires-clause-codes : goal.near_of-requires-clause-codes
near_of-requires-clause-codes g c =
    let room : c.args.tables.now.g ≡ c.take_row.new.small.g = sym c.requires.room ∙ sym (c.take_row.ensures.adds 0).sizes.0 in
    subst (λ (n : ℕ). AreCodes n c.args.block.now) room c.requires.codes

pub returns-then-pruned-clause-near : goal.returns-then-pruned-clause-near
returns-then-pruned-clause-near g c =
    let on = c.if-pruned.true in
    let stays = (c.take_row.ensures.adds 0).stays on in
    record {
      open_before = λ off. absurd (let broken : true ≡ false = sym stays.1 ∙ off in cc);
      bounds = λ _ i lt.
          ap (λ bs. get_or bs i 0) c.renew.ensures.bounds ∙ c.requires.near.bounds on i lt
          ∙ ap (λ (m : Small). min 255 (code_sum g.S.Shape.widths m.parts (get_or c.args.block.now i []))) (sym stays.0);
      lanes = λ _. c.renew.ensures.lanes;
    }

pub returns-then-pruned-clause-full : goal.returns-then-pruned-clause-full
returns-then-pruned-clause-full g c cell book query seen s =
    let ws = g.S.Shape.widths in
    let on = c.if-pruned.true in
    let words = get_or c.args.block.now c.args.lane [] in
    let row : Row = record { id = c.args.id; cell = cell; code = code_of_words ws words } in
    let size = c.requires.codes.each c.args.lane c.requires.lane in
    let code = fields_of_words ws book query c.args.tables.now s.filled words size in
    let near = c.requires.near in
    let limit = c.requires.limit in
    let below = leb-true (get_or c.args.near.now.bounds c.args.lane 0) c.args.limit.now.most (sym (near.lanes on c.args.lane c.requires.lane) ∙ c.requires.set) in
    let full : is_full book query c.args.best.now.k seen row ≡ true =
    kept_is_full ws c.args.tables.now book query seen c.args.state.now c.args.small.now c.args.best.now s row code (when_pruning _ _ _ _ _ _ _ _ s on) words c.args.limit.now.theta c.args.limit.now.most _ size refl
    (limit.theta on (pairs_of book query seen) s.held) (limit.most on) (near.bounds on c.args.lane c.requires.lane) below in
    omega (arith, ap {B = ℕ} (λ b. cond b 1 0) full, c.take_row.ensures.full)

pub returns-clause-full : goal.returns-clause-full
returns-clause-full g c cell book query seen s =
    let ws = g.S.Shape.widths in
    let words = get_or c.args.block.now c.args.lane [] in
    let row : Row = record { id = c.args.id; cell = cell; code = code_of_words ws words } in
    let full : is_full book query c.args.best.now.k seen row ≡ true = full_early book query c.args.best.now.k seen row (when_open _ _ _ _ _ _ _ _ s c.if-pruned.false) in
    omega (arith, ap {B = ℕ} (λ b. cond b 1 0) full, c.take_row.ensures.full)
