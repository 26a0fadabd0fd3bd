use Rattle.std.proofs.Common.{◌≡◌, ◌≤◌, ℕ, sym, subst, ◌∙◌, arith}
use Rattle.std.specs.List.{AllByRecursion}
use Rattle.id_filter.proofs.Whole.{whole_passes}
use Rattle.cell_store.specs.State.{Kept}
use Rattle.cell_store.proofs.ShownLemmas.{live_pass}
use Rattle.cell_store.proofs.snapshot.is_whole.Goals as goal

pub returns : goal.returns
returns g c is =
    let view = c.args.view.now in
    let ranges = g.P.IdSelector.ranges c.args.selector.now in
    let now : c.args.store.now.stamp ≡ c.args.stamp = sym c.stamp.ensures.stamp ∙ sym c.if-stamp.false in
    live_pass ranges c.args.stamp (omega (arith, c.if-stamp-eq-NEVER.false, c.ranges.stamp.fits)) (λ id small. whole_passes ranges id (sym c.is_all.ensures ∙ c.if-not-is_all.false) small) view.rows
    (sym c.all_live.ensures ∙ is) (subst (λ (n : ℕ). AllByRecursion (λ (k : Kept). k.born ≤ n) view.rows) now c.requires.born) c.requires.ids
