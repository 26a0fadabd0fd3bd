use Rattle.std.proofs.Common.{◌∙◌, ℕ, Option, map, subst, sym, ap, arith}
use Rattle.std.specs.Option.{unwrap_or}
use Rattle.std.proofs.lemmas.Bool.{ltb-true}
use Rattle.flat_truth.specs.declared.TruePair.{TruePair}
use Rattle.flat_truth.specs.Pairs.{key_of, IsReach}
use Rattle.flat_truth.proofs.Kept.{last_is_reach}
use Rattle.flat_truth.proofs.pairs.reach.Goals as goal

pub returns : goal.returns
returns c = λ most is.
    let there = c.in_ok-get.ensures.lookup in
    let last = c.in_ok-get.field-0.now in
    let below = c.in_ok-last.ensures in
    subst (IsReach c.args.k (map key_of c.args.pairs.now)) (sym (ap (λ (p : TruePair). p.distance) there.1) ∙ ap (λ (o : Option ℕ). unwrap_or o 0) is)
    (last_is_reach c.args.k c.in_ok-last.last c.args.pairs.now last (omega (arith, below.0, below.1)) (ltb-true c.in_ok-last.last _ (sym there.0)) c.requires.rising)
