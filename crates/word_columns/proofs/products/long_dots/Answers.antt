use Rattle.std.proofs.Common.{ℕ, ◌≡◌, ◌+◌, ◌-◌, ◌*◌, ◌/◌, ◌%◌, ◌^◌, ◌<◌, ◌≤◌, List, get_or, length, refl, ap, ◌∙◌, arith}
use lib.Lanes.{zip2, chunk}
use Rattle.std.proofs.lemmas.Simd.{length-chunk}
use Rattle.book_model.specs.Sums.{sum_below}
use Rattle.word_columns.specs.Lanes.{HasLanes}
use Rattle.word_columns.specs.Columns.{component}
use Rattle.word_columns.proofs.Lanes.{lanes_of, other, through}
use Rattle.word_columns.proofs.Sums.{stretch_more}
use Rattle.word_columns.proofs.products.long_dots.Goals as goal

abbrev plus : ℕ → ℕ → ℕ
plus a b = (a + b) % 2 ^ 64

-- the products of a stretch by the place of its first byte and its length
abbrev of_stretch : (x cs : List ℕ) (at c k m : ℕ) → ℕ
of_stretch x cs at c k m = sum_below (length (chunk (256 * c) m x)) (λ i. get_or (chunk (256 * c) m x) i 0 * component cs (at + 4096 * c) k i)

of_length : (x cs : List ℕ) (at c k m n : ℕ) → m ≡ n → 256 * c + n ≤ length x → of_stretch x cs at c k m ≡ sum_below n (λ i. get_or (chunk (256 * c) n x) i 0 * component cs (at + 4096 * c) k i)
of_length x cs at c k m n e room =
    ap (of_stretch x cs at c k) e ∙ ap (λ l. sum_below l (λ i. get_or (chunk (256 * c) n x) i 0 * component cs (at + 4096 * c) k i)) (length-chunk (256 * c) n x room)

-- the lanes of a sum and one more stretch
summed : (s d v : List ℕ) (f g r : ℕ → ℕ) → HasLanes 16 s f → HasLanes 16 d (λ k. get_or v k 0) → HasLanes 16 v g → ((k : ℕ) → k < 16 → plus (f k) (g k) ≡ r k) → HasLanes 16 (zip2 plus s d) r
summed s d v f g r p w q e = other 16 (λ k. plus (f k) (g k)) r (zip2 plus s d) e (lanes_of 16 plus f g s d p (through 16 d v g w q))

pub loop-c-preserved : goal.loop-c-preserved
loop-c-preserved c =
    let x = c.args.x.now in
    let cs = c.args.columns.now in
    let at = c.args.at in
    let j = c.loop-c.c in
    let f : ℕ → ℕ = λ k. sum_below (256 * j) (λ i. get_or x i 0 * component cs at k i) in
    let g : ℕ → ℕ = λ k. of_stretch x cs at j k (256 * j + 256 - 256 * j) in
    let there : 256 * j + 256 ≤ length x = omega (arith, c.loop-c-test.true) in
    summed c.loop-c.sum c.widened-sum.result c.dots.result f g (λ k. sum_below (256 * (j + 1)) (λ i. get_or x i 0 * component cs at k i)) c.loop-c.invariant c.widened-sum.ensures c.dots.ensures
    (λ k h.
    stretch_more x cs c.type_inv.x c.type_inv.columns at j k 256 (f k) (g k) (omega (arith, there, c.requires.short)) refl (of_length x cs at j k (256 * j + 256 - 256 * j) 256 (omega arith) there)
    ∙ ap (λ m. sum_below m (λ i. get_or x i 0 * component cs at k i)) {x = 256 * j + 256} {y = 256 * (j + 1)} (omega arith))

pub returns : goal.returns
returns c =
    let x = c.args.x.now in
    let cs = c.args.columns.now in
    let at = c.args.at in
    let n = length x in
    let j = n / 256 in
    let is : c.loop-c.c ≡ j = omega (arith, c.loop-c-test.false, c.loop-c.auto.c-end) in
    let f : ℕ → ℕ = λ k. sum_below (256 * c.loop-c.c) (λ i. get_or x i 0 * component cs at k i) in
    let g : ℕ → ℕ = λ k. of_stretch x cs at j k (n - 256 * j) in
    summed c.loop-c.sum c.widened.result c.dots-2.result f g (λ k. sum_below n (λ i. get_or x i 0 * component cs at k i)) c.loop-c.invariant c.widened.ensures c.dots-2.ensures
    (λ k h.
    stretch_more x cs c.type_inv.x c.type_inv.columns at j k (n - 256 * j) (f k) (g k) (omega (arith, c.requires.short)) (ap (λ m. sum_below (256 * m) (λ i. get_or x i 0 * component cs at k i)) is)
    (of_length x cs at j k (n - 256 * j) (n - 256 * j) refl (omega arith))
    ∙ ap (λ m. sum_below m (λ i. get_or x i 0 * component cs at k i)) {x = 256 * j + (n - 256 * j)} {y = n} (omega arith))
