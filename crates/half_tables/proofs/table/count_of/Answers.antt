use Rattle.std.proofs.Common.{◌≡◌, ◌-◌, ◌*◌, ℕ, zero, suc, ◌≢◌, length, refl, sym, ap, ◌∙◌}
use Rattle.half_tables.specs.Half.{count_of}
use Rattle.half_tables.proofs.table.count_of.Goals as goal

high_count : (half split n : ℕ) → half ≢ 0 → count_of half split n ≡ n - split
high_count zero split n some = absurd (some refl)
high_count (suc half) split n some = refl

pub returns-then-half-eq0 : goal.returns-then-half-eq0
returns-then-half-eq0 g c = sym (ap (λ h. count_of h c.args.split (c.args.g * length g.S.Shape.widths)) c.if-half-eq0.true)

pub returns : goal.returns
returns g c =
    let fields : c.FIELDS.result ≡ length g.S.Shape.widths = c.FIELDS.ensures ∙ sym g.S.Shape.laws.fields_are in
    ap (λ k. c.args.g * k - c.args.split) fields ∙ sym (high_count c.args.half c.args.split (c.args.g * length g.S.Shape.widths) c.if-half-eq0.false)
