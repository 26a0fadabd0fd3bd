use Rattle.std.proofs.Common.{◌∙◌, ℕ, List, [], ◌∷◌, Ok, Err, refl, sym, ap}
use Rattle.std.proofs.lemmas.List.{append-nil}
use Rattle.play_script.specs.declared.Role.TheVariants as role
use Rattle.play_script.specs.Texts.{exact_done}
use Rattle.adc_program.specs.Asking.{rows_in}
use Rattle.adc_program.specs.Exacts.{nearest_below}
use Rattle.adc_program.proofs.Growing.{changes_write, check_after, begun_there, adds_lines, adds_after, adds_cut, adds_as, makes_unbegun, makes_added}
use Rattle.adc_program.proofs.NearestRows.{nearest_stays, with_nearest_is}
use Rattle.adc_program.proofs.exacts.write.Goals as goal

pub returns-in-Err : goal.returns-in-Err
returns-in-Err g c =
    let asked = c.args.asked.now in
    let all = asked.queries.checked.rows in
    let line = exact_done all asked.base.checked.rows in
    record {
      makes = λ before wanted reads is.
          makes_unbegun before asked.out.now (λ files. line ∷ []) (λ files. nearest_below (rows_in files asked.base) (rows_in files asked.queries) asked.k all) (λ files. [])
          (λ files told. is files told ∙ ap Ok (with_nearest_is asked.out.now line (rows_in files asked.base) (rows_in files asked.queries) asked.k all)) c.in-Err.halted reads c.in-Err.ensures.begins;
    }

pub add_all-requires : goal.add_all-requires
add_all-requires g c =
    let asked = c.args.asked.now in
    let changes = changes_write asked.out.now _ _ c.in-Ok.ensures.begins.only in
    record {
      vector = c.requires.vector;
      numbers = c.requires.numbers;
      base = check_after asked.base.role asked.base.name.now asked.out.now asked.base.checked.d asked.base.checked _ _ asked.base_apart changes c.requires.base;
      queries = check_after asked.queries.role asked.queries.name.now asked.out.now asked.queries.checked.d asked.queries.checked _ _ asked.queries_apart changes c.requires.queries;
      there = begun_there role.Out asked.out.now _ _ c.in-Ok.ensures.begins;
    }

pub returns-in-Err-add_all : goal.returns-in-Err-add_all
returns-in-Err-add_all g c =
    let asked = c.args.asked.now in
    let all = asked.queries.checked.rows in
    let line = exact_done all asked.base.checked.rows in
    let halted = c.in-Err-add_all.halted in
    record {
      makes = λ before wanted reads is.
          makes_added before asked.out.now (λ files. line ∷ []) (λ files. nearest_below (rows_in files asked.base) (rows_in files asked.queries) asked.k all) (λ files. [])
          (λ files told. is files told ∙ ap Ok (with_nearest_is asked.out.now line (rows_in files asked.base) (rows_in files asked.queries) asked.k all)) (Err halted) reads c.in-Ok.ensures.begins
          (λ files files1 stay. refl) (nearest_stays asked.base asked.queries asked.out.now (λ (b q : List (List ℕ)). nearest_below b q asked.k all) asked.base_apart asked.queries_apart)
          (adds_as asked.out.now (Err halted) (λ files told. refl) (λ files told. sym (append-nil _)) (adds_cut asked.out.now halted (λ files. line ∷ []) (λ files. []) (c.in-Err-add_all.ensures.adds (g.K.Sink.state c.args.out.now))));
    }

pub returns-in-Ok-add_all : goal.returns-in-Ok-add_all
returns-in-Ok-add_all g c =
    let asked = c.args.asked.now in
    let all = asked.queries.checked.rows in
    let line = exact_done all asked.base.checked.rows in
    record {
      makes = λ before wanted reads is.
          makes_added before asked.out.now (λ files. line ∷ []) (λ files. nearest_below (rows_in files asked.base) (rows_in files asked.queries) asked.k all) (λ files. [])
          (λ files told. is files told ∙ ap Ok (with_nearest_is asked.out.now line (rows_in files asked.base) (rows_in files asked.queries) asked.k all)) c.write_line.result reads c.in-Ok.ensures.begins
          (λ files files1 stay. refl) (nearest_stays asked.base asked.queries asked.out.now (λ (b q : List (List ℕ)). nearest_below b q asked.k all) asked.base_apart asked.queries_apart)
          (adds_as asked.out.now c.write_line.result (λ files told. ap (λ (l : List ℕ). l ∷ []) (sym c.exact_done.ensures)) (λ files told. sym (append-nil _))
          (adds_after asked.out.now c.write_line.result (λ files files1 stay. refl) (λ files files1 stay. refl) (λ files none. cc) (c.in-Ok-add_all.ensures.adds (g.K.Sink.state c.args.out.now)) (adds_lines asked.out.now c.write_line.result c.write_line.ensures.puts)));
    }
