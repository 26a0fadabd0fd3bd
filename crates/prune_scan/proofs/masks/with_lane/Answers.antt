use Rattle.std.proofs.Common.{◌≡◌, ℕ, ◌*◌, ◌%◌, ◌^◌, sym, ap, ◌∙◌, arith, inl, inr, w64}
use lib.Bits.{bit_or}
use Rattle.std.proofs.lemmas.Bool.{cases_Bool}
use Rattle.std.proofs.lemmas.Nat.Bits.{bit_at-zero, bit_at_or, bit_at_set_same, bit_at_set_other}
use Rattle.prune_scan.specs.LaneMasks.{is_set}
use Rattle.prune_scan.proofs.MaskLemmas.{set_from, same_bit}
use Rattle.prune_scan.proofs.masks.with_lane.Goals as goal

-- a mask with no more lanes
unchanged : (mask lane i : ℕ) → is_set (bit_or mask (0 * 2 ^ lane % 2 ^ 64)) i ≡ is_set mask i
unchanged mask lane i =
    ap (λ (n : ℕ). is_set (bit_or mask n) i) {x = 0 * 2 ^ lane % 2 ^ 64} {y = 0} (omega arith)
    ∙ same_bit (bit_or mask 0) mask i (omega (arith, bit_at_or mask 0 i, bit_at-zero i))

pub returns-clause-own : goal.returns-clause-own
returns-clause-own c =
    let mask = c.args.mask in
    let lane = c.args.lane in
    elim (cases_Bool c.args.on) [
      | inl on ↦
          let one : c.from.result ≡ 1 = rw on at c.from.ensures in
          ap (λ (n : ℕ). is_set (bit_or mask (n * 2 ^ lane % 2 ^ 64)) lane) one ∙ set_from _ lane (bit_at_set_same w64 mask lane (omega arith)) ∙ sym on
      | inr off ↦
          let none : c.from.result ≡ 0 = rw off at c.from.ensures in
          ap (λ (n : ℕ). is_set (bit_or mask (n * 2 ^ lane % 2 ^ 64)) lane) none ∙ unchanged mask lane lane ∙ c.requires.clear ∙ sym off
    ]

pub returns-clause-others : goal.returns-clause-others
returns-clause-others c i other =
    let mask = c.args.mask in
    let lane = c.args.lane in
    elim (cases_Bool c.args.on) [
      | inl on ↦
          let one : c.from.result ≡ 1 = rw on at c.from.ensures in
          ap (λ (n : ℕ). is_set (bit_or mask (n * 2 ^ lane % 2 ^ 64)) i) one ∙ same_bit _ mask i (bit_at_set_other w64 mask lane (omega arith) i other)
      | inr off ↦
          let none : c.from.result ≡ 0 = rw off at c.from.ensures in
          ap (λ (n : ℕ). is_set (bit_or mask (n * 2 ^ lane % 2 ^ 64)) i) none ∙ unchanged mask lane i
    ]
