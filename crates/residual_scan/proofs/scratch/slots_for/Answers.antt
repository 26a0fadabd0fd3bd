use Rattle.std.proofs.Common.{◌≡◌, ℕ, suc, ◌+◌, ◌<◌, List, length, sym, ap, subst, ◌∙◌, arith}
use Rattle.std.specs.List.{AllByRecursion}
use Rattle.lru.specs.LruCache.{LruCache}
use Rattle.residual_scan.proofs.Filled.{filled, length-filled, below_filled, put_filled}
use Rattle.residual_scan.proofs.scratch.slots_for.Goals as goal

pub loop-slot-preserved : goal.loop-slot-preserved
loop-slot-preserved c =
    let new = c.in-Ok-put.ensures.entries in
    let n = c.loop-slot.slot in
    let more : suc n ≡ n + 1 = omega arith in (
      ap (λ (s : LruCache ℕ ℕ). s.entries) new ∙ put_filled c.loop-slot.slots n c.loop-slot.invariant.0 (omega (arith, c.loop-slot.invariant.1)) ∙ ap filled more,
      ap (λ (s : LruCache ℕ ℕ). s.cap) new ∙ c.loop-slot.invariant.1,
    )

pub returns : goal.returns
returns c =
    let all : c.loop-slot.slot ≡ c.args.cache = omega arith in
    let is : c.loop-slot.slots.entries ≡ filled c.args.cache = c.loop-slot.invariant.0 ∙ ap filled all in (
      omega arith,
      c.loop-slot.invariant.1,
      ap length is ∙ length-filled c.args.cache,
      subst (λ (es : List (ℕ × ℕ)). AllByRecursion (λ (e : ℕ × ℕ). e.0 < c.args.cache) es) (sym is) (below_filled c.args.cache c.args.cache (omega arith)),
    )
