use Rattle.std.proofs.Common.{◌≡◌, ℕ, ◌/◌, ◌%◌, ◌^◌, false, cond, leb, length, map, get_or, ap, ◌∙◌, arith, w8}
use Rattle.std.specs.Prelude.{◌==◌}
use Rattle.std.proofs.lemmas.List.{get_or-map}
use Rattle.std.proofs.lemmas.Simd.{bitmask_splat, bit_mask_l}
use Rattle.prune_scan.specs.LaneMasks.{is_set}
use Rattle.prune_scan.proofs.MaskLemmas.{one_if}
use Rattle.prune_scan.proofs.masks.lanes_up_to.Goals as goal

pub returns : goal.returns
unfolding is_set
returns c i lt =
    let xs = c.args.bounds.now in
    let long : length xs ≡ 32 = omega arith in
    ap (λ (n : ℕ). n / 2 ^ i % 2 == 1) (bitmask_splat w8 leb xs 32 c.args.most long (omega arith))
    ∙ ap (λ (n : ℕ). n == 1) (bit_mask_l (map (λ x. leb x c.args.most) xs) i)
    ∙ ap (λ b. cond b 1 0 == 1) (get_or-map (λ x. leb x c.args.most) xs i 0 false (omega (arith, long)))
    ∙ one_if (leb (get_or xs i 0) c.args.most)
