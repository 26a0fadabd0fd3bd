use Rattle.std.proofs.Common.{rules, ◌≡◌, ◌∙◌, ap, ap₂, refl, arith}
use Rattle.std.proofs.lemmas.Grind.{common_steps}
use Rattle.std.specs.Prelude.{codes, if◌then◌else◌}
use Rattle.book_model.specs.Rows.{cell_of, has_id}
use Rattle.cell_store.specs.State.{live_rows}
use Rattle.cell_store.specs.declared.Placed.{Placed}
use Rattle.cell_store.specs.declared.PutRefusal.TheVariants as put
use Rattle.play_script.specs.declared.Cause.TheVariants as cause
use Rattle.play_script.specs.Texts.{put_done, refused}
use Rattle.adc_program.specs.Played.{Stand}
use Rattle.adc_program.proofs.StoreReplies.{put_made, put_unmade}
use Rattle.adc_program.proofs.play.put_vector.Goals as goal

pub returns-in-Ok-clause-line : goal.returns-in-Ok-clause-line
returns-in-Ok-clause-line g c =
    let from : c.from.result ≡ c.args.id = first_of (search rules, grind (arith, common_steps)) in
    let old = g.E.Played.stand c.args.engine.now in
    put_made g.E.Played.means old.book old.store (g.E.Played.stand c.put.new.self).store c.args.id c.args.vector.now c.put_done.result c.in-Ok.placed c.in-Ok.ensures.refusals c.in-Ok.ensures.keeps
    (c.put_done.ensures ∙ ap₂ (λ cell replaced. put_done c.from.result cell (if replaced then codes "replaced" else codes "added")) c.in-Ok.ensures.cell c.in-Ok.ensures.replaced
    ∙ ap (λ id. put_done id (cell_of old.book c.args.vector.now) (if has_id (live_rows old.store) c.args.id then codes "replaced" else codes "added")) from)

pub returns-in-Err-Full-clause-line : goal.returns-in-Err-Full-clause-line
returns-in-Err-Full-clause-line g c =
    let from : c.from-in-Err-Full.result ≡ c.args.id = first_of (search rules, grind (arith, common_steps)) in
    put_unmade g.E.Played.means (g.E.Played.stand c.args.engine.now).book (g.E.Played.stand c.args.engine.now).store (g.E.Played.stand c.put.new.self).store c.args.id c.args.vector.now c.put_refused.result Placed put.Full cause.Full
    (let is : c.in-Err-Full.field-0 ≡ put.Full = c.in-Err-Full.field-0-is in rw is at c.in-Err-Full.ensures.refusals) (λ e. cc) refl
    (c.put_refused.ensures ∙ ap (λ id. refused (codes "put") id cause.Full) from) (ap (λ (s : Stand). s.store) c.in-Err-Full.ensures.err)

pub returns-in-Err-Held-clause-line : goal.returns-in-Err-Held-clause-line
returns-in-Err-Held-clause-line g c =
    let from : c.from-in-Err-Held.result ≡ c.args.id = first_of (search rules, grind (arith, common_steps)) in
    put_unmade g.E.Played.means (g.E.Played.stand c.args.engine.now).book (g.E.Played.stand c.args.engine.now).store (g.E.Played.stand c.put.new.self).store c.args.id c.args.vector.now c.put_refused-in-Err-Held.result Placed put.Held cause.Held
    (let is : c.in-Err-Held.field-0 ≡ put.Held = c.in-Err-Held.field-0-is in rw is at c.in-Err-Held.ensures.refusals) (λ e. cc) refl
    (c.put_refused-in-Err-Held.ensures ∙ ap (λ id. refused (codes "put") id cause.Held) from) (ap (λ (s : Stand). s.store) c.in-Err-Held.ensures.err)
