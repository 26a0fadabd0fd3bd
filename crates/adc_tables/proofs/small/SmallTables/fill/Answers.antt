use Rattle.std.proofs.Common.{◌≡◌, ◌+◌, ◌-◌, ◌*◌, ◌/◌, List, length, map, refl, sym, ap, subst, ◌∙◌, arith}
use Rattle.std.proofs.lemmas.List.{with_items_is}
use Rattle.book_model.specs.Sums.{numbers_below}
use Rattle.book_model.specs.Bound.{step_of}
use Rattle.lane_kernels.specs.Table.{Table}
use Rattle.lane_kernels.specs.Sums.{AreTables}
use Rattle.adc_tables.specs.Small.{Small, HaveSizes, small_table, small_of}
use Rattle.adc_tables.proofs.Smalls.{are_tables, have_sizes}
use Rattle.adc_tables.proofs.small.SmallTables.fill.Goals as goal

pub invariant_of-self : goal.invariant_of-self
invariant_of-self g c =
    let ws = g.S.Shape.widths in
    let ts = c.args.full.now.tables in
    let room : c.args.full.now.g ≡ c.self.inside.g = c.requires.room ∙ sym (ap (λ (s : Small). s.g) c.self.view_is) in
    let count : length ts ≡ c.self.inside.g * length ws = c.g-g.ensures.sizes.count ∙ ap (λ n. n * length ws) room in
    let kept = with_items_is c.self.inside.parts c.fill_parts.new.parts (omega (arith, c.fill_parts.auto.parts, c.deref_mut.ensures.len)) in
    record {
      tables = subst (λ (ps : List Table). AreTables ws c.self.inside.g ps) (sym (kept ∙ c.fill_parts.ensures)) (are_tables ws c.new.result.step ts c.self.inside.g count);
      sizes = subst (λ (ps : List Table). HaveSizes ws ps) (sym (kept ∙ c.fill_parts.ensures)) (have_sizes ws c.new.result.step ts c.g-g.ensures.sizes.each);
      step = refl;
    }

pub returns-clause-filled : goal.returns-clause-filled
unfolding small_of step_of
returns-clause-filled g c =
    let ts = c.args.full.now.tables in
    let room : c.self.inside.g ≡ c.args.full.now.g = ap (λ (s : Small). s.g) c.self.view_is ∙ sym c.requires.room in
    let size : (c.args.theta0 - c.base_sum-base.result) / 255 + 1 ≡ step_of ts c.args.theta0 = ap (λ b. (c.args.theta0 - b) / 255 + 1) c.base_sum-base.ensures in
    let kept = with_items_is c.self.inside.parts c.fill_parts.new.parts (omega (arith, c.fill_parts.auto.parts, c.deref_mut.ensures.len)) in
    let parts = kept ∙ c.fill_parts.ensures ∙ ap (λ s. map (small_table g.S.Shape.widths s ts) (numbers_below (length ts))) (c.new.ensures ∙ size) in
    (λ t. record { g = room t; theta0 = c.args.theta0; base = c.base_sum-base.ensures t; size = size t; parts = parts t })
