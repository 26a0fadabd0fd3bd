use Rattle.std.proofs.Common.{◌≡◌, ◌≤◌, List, ◌++◌, length, map, take, drop, sym, ap, ap₂, subst, ◌∙◌, arith, length-append}
use Rattle.std.proofs.lemmas.List.{length-take-le}
use Rattle.book_model.specs.Sums.{numbers_below}
use Rattle.book_model.specs.Bound.{Tables}
use Rattle.lane_kernels.specs.Table.{Table}
use Rattle.adc_tables.proofs.Smalls.{are_tables, have_sizes}
use Rattle.half_tables.specs.Half.{AreParts, first_of, small_part}
use Rattle.residual_scan.specs.Cells.{IsSmallRoom}
use Rattle.residual_scan.proofs.Parts.{parts_of_halves}
use Rattle.residual_scan.proofs.SmallParts.{parts_front, parts_back, rest_is, both_are}
use Rattle.residual_scan.proofs.cell.fill_small.Goals as goal

pub small-requires-clause-parts : goal.small-requires-clause-parts
small-requires-clause-parts g c =
    let ws = g.S.Shape.widths in
    let s = c.count-split.result in
    let le : s ≤ length c.args.parts.now = omega (arith, c.count-split.ensures, c.requires.parts.tables.count, c.requires.tables.sizes.count, length-append c.args.low.now.tables c.args.high.now.tables) in
    subst (λ h. AreParts ws (first_of h c.args.low.now.split) (take s c.args.parts.now)) (sym c.requires.tables.halves.low_half) (parts_front ws c.args.low.now.g c.args.parts.now c.requires.parts.tables c.requires.parts.sizes s le)

pub small-requires-2-clause-parts : goal.small-requires-2-clause-parts
small-requires-2-clause-parts g c =
    let ws = g.S.Shape.widths in
    let s = c.count-split.result in
    let parts = c.args.parts.now in
    let le : s ≤ length parts = omega (arith, c.count-split.ensures, c.requires.parts.tables.count, c.requires.tables.sizes.count, length-append c.args.low.now.tables c.args.high.now.tables) in
    let size : length c.small.new.into ≡ s = c.small.auto.into ∙ length-take-le s parts le in
    let first : s ≡ c.args.high.now.split = c.count-split.ensures ∙ sym c.requires.tables.split ∙ sym c.requires.tables.halves.split in
    subst (AreParts ws (first_of c.args.high.now.half c.args.high.now.split)) (sym (rest_is c.small.new.into parts s size le))
    (subst (λ h. AreParts ws (first_of h c.args.high.now.split) (drop s parts)) (sym c.requires.tables.halves.high_half)
    (subst (λ f. AreParts ws f (drop s parts)) first (parts_back ws c.args.low.now.g parts c.requires.parts.tables c.requires.parts.sizes s)))

pub returns-clause-filled : goal.returns-clause-filled
returns-clause-filled g c =
    let ws = g.S.Shape.widths in
    let s = c.count-split.result in
    let parts = c.args.parts.now in
    let low : Tables = c.args.low.now.tables in
    let high : Tables = c.args.high.now.tables in
    let step = c.args.step in
    let le : s ≤ length parts = omega (arith, c.count-split.ensures, c.requires.parts.tables.count, c.requires.tables.sizes.count, length-append low high) in
    let size : length c.small.new.into ≡ s = c.small.auto.into ∙ length-take-le s parts le in
    let at_low : first_of c.args.low.now.half c.args.low.now.split ≡ 0 = ap (λ h. first_of h c.args.low.now.split) c.requires.tables.halves.low_half in
    let at_high : first_of c.args.high.now.half c.args.high.now.split ≡ length low = ap (λ h. first_of h c.args.high.now.split) c.requires.tables.halves.high_half ∙ c.requires.tables.halves.split ∙ c.requires.tables.split in
    let first : c.small.new.into ≡ map (small_part ws 0 step low) (numbers_below (length low)) = c.small.ensures ∙ ap (λ f. map (small_part ws f step low) (numbers_below (length low))) at_low in
    let second : c.small-2.new.into ≡ map (small_part ws (length low) step high) (numbers_below (length high)) = c.small-2.ensures ∙ ap (λ f. map (small_part ws f step high) (numbers_below (length high))) at_high in
    both_are c.small.new.into parts s size le c.small-2.new.into ∙ ap₂ (λ (a b : List Table). a ++ b) first second ∙ parts_of_halves ws step low high

pub returns-clause-parts : goal.returns-clause-parts
returns-clause-parts g c =
    let ws = g.S.Shape.widths in
    let ts : Tables = c.args.low.now.tables ++ c.args.high.now.tables in
    subst (IsSmallRoom ws c.args.low.now.g) (sym (returns-clause-filled g c)) (record {
      tables = are_tables ws c.args.step ts c.args.low.now.g c.requires.tables.sizes.count;
      sizes = have_sizes ws c.args.step ts c.requires.tables.sizes.each;
    })
