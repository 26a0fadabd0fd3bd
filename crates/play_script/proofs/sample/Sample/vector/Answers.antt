use Rattle.std.proofs.Common.{◌≡◌, ℕ, ◌+◌, ◌*◌, List, length, take, drop, ap, ◌∙◌, subst, arith}
use Rattle.play_script.specs.Stream.{Drawn, sample_row}
use Rattle.play_script.proofs.Drawing.{length_drawn, vector_part}
use Rattle.play_script.proofs.sample.Sample.vector.Goals as goal

pub stretch-requires : goal.stretch-requires
stretch-requires c =
    let long : length c.self.inside.bytes.items ≡ 38962 + 128 * (c.self.inside.rows + 16) = length_drawn _ _ c.self.invariant in
    let rows = ap (λ (s : Drawn). s.rows) c.self.view_is in omega (arith, ap length c.deref.ensures.value, long, rows, c.requires.there)

pub returns-clause-bytes : goal.returns-clause-bytes
returns-clause-bytes c =
    let rows = ap (λ (s : Drawn). s.rows) c.self.view_is in
    let part : take 128 (drop (38962 + 128 * c.args.n) c.deref.result.now) ≡ sample_row (record { start = c.self.inside.start; rows = c.self.inside.rows }) c.args.n =
    ap (λ (all : List ℕ). take 128 (drop (38962 + 128 * c.args.n) all)) c.deref.ensures.value ∙ vector_part _ _ c.self.invariant c.args.n (omega (arith, rows, c.requires.there)) in
    c.stretch.ensures.bytes ∙ subst (λ (s : Drawn). take 128 (drop (38962 + 128 * c.args.n) c.deref.result.now) ≡ sample_row s c.args.n) c.self.view_is part
