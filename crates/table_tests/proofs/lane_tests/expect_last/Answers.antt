use Rattle.std.proofs.Common.{◌≡◌, ◌-◌, ◌*◌, ◌%◌, ◌^◌, ◌<◌, ℕ, sym, subst, arith}
use Rattle.std.proofs.lemmas.Nat.{one_shl, pow_pos}
use Rattle.std.proofs.lemmas.Simd.{get_or-replicate}
use Rattle.table_tests.proofs.lane_tests.expect_last.Goals as goal

pub select32-requires-clause-indices : goal.select32-requires-clause-indices
select32-requires-clause-indices g c = λ l h.
    let w = c.args.width in
    let whole : 1 * 2 ^ w % 2 ^ 32 ≡ 2 ^ w = one_shl w 32 (omega arith) in
    let width : c.set.new.self.width ≡ w = omega arith in
    let some : 0 < 2 ^ w = pow_pos w in
    let last : 1 * 2 ^ w % 2 ^ 32 - 1 < 2 ^ w = omega arith in
    subst (λ (x : ℕ). x < 2 ^ c.set.new.self.width) (sym (get_or-replicate 32 l (1 * 2 ^ w % 2 ^ 32 - 1) 0 h)) (subst (λ (k : ℕ). 1 * 2 ^ w % 2 ^ 32 - 1 < 2 ^ k) (sym width) last)
