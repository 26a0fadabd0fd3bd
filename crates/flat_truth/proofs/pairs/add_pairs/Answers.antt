use Rattle.std.proofs.Common.{◌≡◌, ◌∙◌, ◌+◌, ◌-◌, ◌*◌, ◌++◌, ◌∷◌, [], ℕ, List, cond, length, map, take, drop, ap, sym, refl, arith}
use Rattle.std.specs.Global.{Vec}
use Rattle.std.specs.List.{enumerate_from}
use Rattle.std.proofs.lemmas.List.{append-nil, append_assoc, map-append}
use Rattle.book_model.specs.Order.{Pair}
use Rattle.book_model.specs.Distance.{dist}
use Rattle.vec_files.specs.Standing.{rows_standing}
use Rattle.flat_truth.specs.declared.TruePair.{TruePair}
use Rattle.flat_truth.specs.Pairs.{key_of, is_near, near}
use Rattle.flat_truth.specs.Flat.{flat_pairs}
use Rattle.flat_truth.proofs.FlatLemmas.{one_more}
use Rattle.flat_truth.proofs.Kept.{near-nil, near-push}
use Rattle.flat_truth.proofs.pairs.add_pairs.Goals as goal
use Rattle.flat_truth.proofs.pairs.add_pairs.Goals.{then-is_near+in-Ok, else-is_near}

pub loop-i-init : goal.loop-i-init
unfolding rows_standing
loop-i-init c = sym (ap (λ (pairs : List Pair). map key_of c.args.pairs.now.items ++ pairs) (near-nil c.args.most) ∙ append-nil (map key_of c.args.pairs.now.items))

pub loop-i-preserved : goal.loop-i-preserved
loop-i-preserved c =
    let query = c.args.query.now in
    let i = c.loop-i.i in
    let at = i * (4 + length query) in
    let before : List Pair = map key_of c.args.pairs.now.items in
    let seen : List Pair = flat_pairs query (enumerate_from c.args.first (rows_standing (length query) i c.args.stretch.now)) in
    let pair : Pair = (c.dist-distance.result, c.args.first + i) in
    let size : at + (4 + length query) - (at + 4) ≡ length query = omega arith in
    let distance : c.dist-distance.result ≡ dist 0 query (take (length query) (drop (at + 4) c.args.stretch.now)) =
    c.dist-distance.ensures ∙ ap (λ (n : ℕ). dist 0 query (take n (drop (at + 4) c.args.stretch.now))) size in
    let onto : before ++ near c.args.most (flat_pairs query (enumerate_from c.args.first (rows_standing (length query) (i + 1) c.args.stretch.now)))
    ≡ before ++ (near c.args.most seen ++ cond (is_near c.args.most pair) (pair ∷ []) []) =
    ap (λ (pairs : List Pair). before ++ near c.args.most pairs)
    (one_more query (length query) c.args.first i at c.args.stretch.now refl ∙ ap (λ (x : ℕ). seen ++ (x, c.args.first + i) ∷ []) (sym distance))
    ∙ ap (λ (pairs : List Pair). before ++ pairs) (near-push c.args.most seen pair) in
    elim c.if-is_near.branch [
      | then-is_near+in-Ok w ↦
          ap (λ (v : Vec TruePair). map key_of v.items) w.pairs-is
          ∙ ap (map key_of) w.in-Ok.ensures.items
          ∙ map-append key_of c.loop-i.pairs.items _
          ∙ ap (λ (pairs : List Pair). pairs ++ pair ∷ []) c.loop-i.invariant
          ∙ append_assoc before (near c.args.most seen) (pair ∷ [])
          ∙ ap (λ b. before ++ (near c.args.most seen ++ cond b (pair ∷ []) [])) w.if-is_near.ensures
          ∙ sym onto
      | else-is_near w ↦
          ap (λ (v : Vec TruePair). map key_of v.items) w.pairs-is
          ∙ c.loop-i.invariant
          ∙ ap (λ (pairs : List Pair). before ++ pairs) (sym (append-nil (near c.args.most seen)))
          ∙ ap (λ b. before ++ (near c.args.most seen ++ cond b (pair ∷ []) [])) w.if-is_near.ensures
          ∙ sym onto
    ]
