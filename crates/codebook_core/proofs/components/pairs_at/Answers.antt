use Rattle.std.proofs.Common.{◌≡◌, ℕ, ◌+◌, ◌-◌, ◌*◌, ◌/◌, length, take, drop, ap, arith, rules, take_at}
use Rattle.std.specs.Int.{w16}
use Rattle.file_fields.proofs.Many.{numbers_cut}
use Rattle.codebook_core.proofs.Pairs.{pairs_are}
use Rattle.codebook_core.proofs.components.pairs_at.Goals as goal

pub returns-then-whole-count-clause-value : goal.returns-then-whole-count-clause-value
returns-then-whole-count-clause-value c = numbers_cut w16 c.args.count ((length c.args.bytes.now - c.args.at) / 2) c.args.bytes.now c.args.at (omega arith) (omega arith) (omega arith)

pub returns-clause-value : goal.returns-clause-value
returns-clause-value c =
    let long : length c.read_u16_into.new.dst ≡ c.in_ok-numbers.numbers.len = omega arith in
    let counted : c.in_ok-numbers.numbers.len ≡ c.args.count = first_of (omega (arith, c.in_ok-numbers.ensures.len), search rules) in
    let size : c.args.at + c.args.count * 2 - c.args.at ≡ c.args.count * 2 = omega arith in
    rw (take_at c.read_u16_into.new.dst (drop (length c.read_u16_into.new.dst) c.in_ok-numbers.numbers.items) c.in_ok-numbers.numbers.len long)
    (pairs_are c.args.bytes.now _ c.read_u16_into.new.dst c.args.at c.args.count c.read_u16_into.ensures (ap (λ (k : ℕ). take k (drop c.args.at c.args.bytes.now)) size) (omega arith) (omega (arith, long, counted)))
