use Rattle.std.proofs.Common.{rules, ◌≡◌, ◌∙◌, ℕ, ap, ap₂, refl, arith}
use Rattle.std.proofs.lemmas.Grind.{common_steps}
use Rattle.std.specs.Prelude.{codes}
use Rattle.cell_store.specs.declared.InsertRefusal.TheVariants as insert
use Rattle.play_script.specs.declared.Cause.TheVariants as cause
use Rattle.play_script.specs.Texts.{insert_done, refused}
use Rattle.adc_program.specs.Played.{Stand}
use Rattle.adc_program.proofs.StoreReplies.{insert_made, insert_unmade}
use Rattle.adc_program.proofs.play.insert_vector.Goals as goal

pub returns-in-Ok-clause-line : goal.returns-in-Ok-clause-line
returns-in-Ok-clause-line g c =
    let from : c.from.result ≡ c.args.id = first_of (search rules, grind (arith, common_steps)) in
    insert_made g.E.Played.means (g.E.Played.stand c.args.engine.now).book (g.E.Played.stand c.args.engine.now).store (g.E.Played.stand c.insert.new.self).store c.args.id c.args.vector.now c.insert_done.result c.in-Ok.cell c.in-Ok.ensures.refusals c.in-Ok.ensures.ok
    (c.insert_done.ensures ∙ ap₂ insert_done from c.in-Ok.ensures.cell)

pub returns-in-Err-Present-clause-line : goal.returns-in-Err-Present-clause-line
returns-in-Err-Present-clause-line g c =
    let from : c.from-in-Err-Present.result ≡ c.args.id = first_of (search rules, grind (arith, common_steps)) in
    insert_unmade g.E.Played.means (g.E.Played.stand c.args.engine.now).book (g.E.Played.stand c.args.engine.now).store (g.E.Played.stand c.insert.new.self).store c.args.id c.args.vector.now c.insert_refused.result ℕ insert.Present cause.Present
    (let is : c.in-Err-Present.field-0 ≡ insert.Present = c.in-Err-Present.field-0-is in rw is at c.in-Err-Present.ensures.refusals) (λ e. cc) refl
    (c.insert_refused.ensures ∙ ap (λ id. refused (codes "insert") id cause.Present) from) (ap (λ (s : Stand). s.store) c.in-Err-Present.ensures.err)

pub returns-in-Err-Full-clause-line : goal.returns-in-Err-Full-clause-line
returns-in-Err-Full-clause-line g c =
    let from : c.from-in-Err-Full.result ≡ c.args.id = first_of (search rules, grind (arith, common_steps)) in
    insert_unmade g.E.Played.means (g.E.Played.stand c.args.engine.now).book (g.E.Played.stand c.args.engine.now).store (g.E.Played.stand c.insert.new.self).store c.args.id c.args.vector.now c.insert_refused-in-Err-Full.result ℕ insert.Full cause.Full
    (let is : c.in-Err-Full.field-0 ≡ insert.Full = c.in-Err-Full.field-0-is in rw is at c.in-Err-Full.ensures.refusals) (λ e. cc) refl
    (c.insert_refused-in-Err-Full.ensures ∙ ap (λ id. refused (codes "insert") id cause.Full) from) (ap (λ (s : Stand). s.store) c.in-Err-Full.ensures.err)

pub returns-in-Err-Held-clause-line : goal.returns-in-Err-Held-clause-line
returns-in-Err-Held-clause-line g c =
    let from : c.from-in-Err-Held.result ≡ c.args.id = first_of (search rules, grind (arith, common_steps)) in
    insert_unmade g.E.Played.means (g.E.Played.stand c.args.engine.now).book (g.E.Played.stand c.args.engine.now).store (g.E.Played.stand c.insert.new.self).store c.args.id c.args.vector.now c.insert_refused-in-Err-Held.result ℕ insert.Held cause.Held
    (let is : c.in-Err-Held.field-0 ≡ insert.Held = c.in-Err-Held.field-0-is in rw is at c.in-Err-Held.ensures.refusals) (λ e. cc) refl
    (c.insert_refused-in-Err-Held.ensures ∙ ap (λ id. refused (codes "insert") id cause.Held) from) (ap (λ (s : Stand). s.store) c.in-Err-Held.ensures.err)
