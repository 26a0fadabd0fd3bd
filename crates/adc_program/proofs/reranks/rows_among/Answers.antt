use Rattle.std.proofs.Common.{rules, ◌∙◌, ℕ, ◌<◌, List, ◌++◌, sym, ap, subst}
use Rattle.std.specs.Prelude.{All, filter, nat_lt}
use Rattle.std.proofs.lemmas.Fn.{filter_same}
use Rattle.std.proofs.lemmas.List.Elements.{All-from_recursion}
use Rattle.id_filter.specs.Allowed.{ids_in}
use Rattle.adc_program.proofs.RerankTexts.{below_kept}
use Rattle.adc_program.proofs.reranks.rows_among.Goals as goal

pub returns-clause-rows : goal.returns-clause-rows
returns-clause-rows c =
    filter_same _ _ _ (λ x b f k. search rules) _ _ c.retain.ensures.filtered
    ∙ ap (filter (λ id. nat_lt id c.args.rows)) (c.in_ok-add_ids.ensures.ok ∙ ap (λ (l : List ℕ). l ++ ids_in c.args.numbers.now) c.new-ids.ensures.items)

pub returns-clause-within : goal.returns-clause-within
returns-clause-within c =
    subst (All (λ (id : ℕ). id < c.args.rows)) (sym (returns-clause-rows c)) (All-from_recursion (λ (id : ℕ). id < c.args.rows) _ (below_kept c.args.rows (ids_in c.args.numbers.now)))
