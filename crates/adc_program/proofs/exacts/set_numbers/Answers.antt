use Rattle.std.proofs.Common.{w32, ◌≡◌, ◌∙◌, ◌+◌, ◌++◌, ◌∷◌, [], ℕ, List, length, take, set, map, sym, ap₂, subst, arith}
use Rattle.std.specs.Prelude.{ℤ, FitsSigned}
use Rattle.std.proofs.lemmas.Int.{ints, to_z-of_z}
use Rattle.std.proofs.lemmas.List.{length-set, take_more_set, take_all}
use Rattle.book_model.specs.Sums.{numbers_below}
use Rattle.adc_program.specs.Nearest.{row_numbers, number_of}
use Rattle.adc_program.proofs.Numbers.{mapped_more}
use Rattle.adc_program.proofs.exacts.set_numbers.Goals as goal

pub loop-n-preserved : goal.loop-n-preserved
loop-n-preserved c =
    let row = c.loop-n.row in
    let n = c.loop-n.n in
    let f = number_of (row_numbers c.args.pairs.now) in
    let fits : FitsSigned w32 c.number_at.result = first_of (omega (arith, c.number_at.type_inv), omega (arith, ints, c.number_at.type_inv), search (arith, ints, c.number_at.type_inv)) in
    let read = to_z-of_z w32 c.number_at.result fits in
    let more : take (n + 1) (set row n c.number_at.result) ≡ map f (numbers_below (n + 1)) =
    take_more_set row n c.number_at.result (omega arith) ∙ ap₂ (λ (l : List ℤ) (x : ℤ). l ++ x ∷ []) c.loop-n.invariant.same c.number_at.ensures ∙ sym (mapped_more f n) in
    record {
      within = omega (arith, length-set {A = ℤ});
      same = subst (λ (v : ℤ). take (n + 1) (set row n v) ≡ map f (numbers_below (n + 1))) (sym read) more;
    }

pub returns : goal.returns
returns c =
    let f = number_of (row_numbers c.args.pairs.now) in
    let row = c.loop-n.row in
    let n = c.loop-n.n in
    let end : n ≡ length row = omega (arith, c.loop-n.invariant.within) in
    let all : n ≡ length c.args.row.now = end ∙ c.loop-n.auto.row in
    sym (take_all n row (omega (arith, end))) ∙ subst (λ (m : ℕ). take n row ≡ map f (numbers_below m)) all c.loop-n.invariant.same
