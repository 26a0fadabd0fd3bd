use Rattle.std.proofs.Common.{◌≡◌, List, ℕ, [], length, get_or, ap, ◌∙◌, arith}
use Rattle.std.proofs.lemmas.List.{get_or_read}
use Rattle.codebook_core.proofs.ByColumn.{sub_facts, subs_long}
use Rattle.codebook_core.proofs.book.Codebook.sub_columns.Goals as goal

pub returns-clause-sizes : goal.returns-clause-sizes
returns-clause-sizes g c = λ w h.
    let facts = sub_facts _ _ c.self.inside.columns _ c.args.j c.self.view_is c.self.invariant c.requires in
    let is : c.index.result.now ≡ get_or c.self.inside.columns.subs.items c.args.j [] = get_or_read c.self.inside.columns.subs.items c.args.j c.index.result.now (omega (arith, c.requires, subs_long _ _ c.self.inside.columns _ c.self.view_is c.self.invariant)) c.index.ensures [] in
    ap (λ (ws : List (List ℕ)). length (get_or ws w [])) is ∙ facts.sizes w (omega (arith, h, ap length is))
