use Rattle.std.proofs.Common.{w32, ◌≡◌, ◌∙◌, ◌+◌, ◌≤◌, length, take, set, sym, subst, arith}
use Rattle.std.specs.Prelude.{ℤ, FitsSigned}
use Rattle.std.proofs.lemmas.Int.{ints, to_z-of_z}
use Rattle.std.proofs.lemmas.List.{length-set}
use Rattle.flat_truth.specs.Flat.{padded}
use Rattle.adc_program.proofs.IdRows.{ids_of, length-ids, length-padded, get_or-padded, place_set, places_all}
use Rattle.adc_program.proofs.searches.set_ids.Goals as goal

pub loop-n-preserved : goal.loop-n-preserved
loop-n-preserved c =
    let row = c.loop-n.row in
    let n = c.loop-n.n in
    let k = length c.args.row.now in
    let ids = ids_of c.args.hits.now in
    let few : length ids ≤ k = omega (arith, length-ids c.args.hits.now) in
    let is = c.id_at.ensures ∙ sym (get_or-padded k ids n few (omega arith)) in
    let more = place_set row (padded k ids) n c.id_at.result (omega arith) (omega (arith, length-padded k ids few)) c.loop-n.invariant.same is in
    let fits : FitsSigned w32 c.id_at.result = first_of (omega (arith, c.id_at.type_inv), omega (arith, ints, c.id_at.type_inv), search (arith, ints, c.id_at.type_inv)) in
    let read = to_z-of_z w32 c.id_at.result fits in
    record {
      within = omega (arith, length-set {A = ℤ});
      same = subst (λ (v : ℤ). take (n + 1) (set row n v) ≡ take (n + 1) (padded k ids)) (sym read) more;
    }

pub returns : goal.returns
returns c =
    let ids = ids_of c.args.hits.now in
    let few : length ids ≤ length c.args.row.now = omega (arith, length-ids c.args.hits.now) in
    places_all c.loop-n.row (padded (length c.args.row.now) ids) c.loop-n.n (omega (arith, c.loop-n.invariant.within)) (length-padded (length c.args.row.now) ids few ∙ sym c.loop-n.auto.row) c.loop-n.invariant.same
