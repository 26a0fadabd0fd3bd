use Rattle.std.proofs.Common.{◌≡◌, ◌+◌, ◌^◌, ◌%◌, ◌/◌, ◌<◌, List, ℕ, length, drop, get_or, ap, ap₂, sym, subst, ◌∙◌, arith}
use Rattle.std.proofs.lemmas.List.{get_or-take, get_or-drop}
use Rattle.book_model.specs.Sums.{sum_below}
use Rattle.shape_core.specs.Word.{field_of, code_of_words}
use Rattle.adc_tables.specs.Full.{table_size}
use Rattle.adc_tables.proofs.Starts.{sum_next}
use Rattle.half_tables.specs.Half.{start_from, table_from}
use Rattle.half_tables.proofs.Places.{end_from, next_from}
use Rattle.half_tables.proofs.Sums.{picked-tables_from, place_is}
use Rattle.half_tables.proofs.entries.picked_fields.Goals as goal

pub bounds-entries-at : goal.bounds-entries-at
bounds-entries-at g c =
    let ws = g.S.Shape.widths in
    let j = c.args.first + c.loop-i.i in
    let fields : c.FIELDS-in-loop-i.result ≡ length ws = c.FIELDS-in-loop-i.ensures ∙ sym g.S.Shape.laws.fields_are in
    let there : c.field-place.result < table_size ws j = subst (λ n. c.field-place.result < 2 ^ get_or ws (j % n) 0) fields c.field-place.ensures.within in
    omega (arith, there, end_from ws c.args.first c.loop-i.i c.args.count (omega arith), c.loop-i.invariant.at, c.requires.room)

pub loop-i-preserved : goal.loop-i-preserved
loop-i-preserved g c =
    let ws = g.S.Shape.widths in
    let first = c.args.first in
    let i = c.loop-i.i in
    let j = first + i in
    let at = c.loop-i.at in
    let entries : List ℕ = c.args.entries.now in
    let code : List ℕ = c.args.code.now in
    let place = c.field-place.result in
    let fields : c.FIELDS-in-loop-i.result ≡ length ws = c.FIELDS-in-loop-i.ensures ∙ sym g.S.Shape.laws.fields_are in
    let fields' : c.FIELDS.result ≡ length ws = c.FIELDS.ensures ∙ sym g.S.Shape.laws.fields_are in
    let there : place < table_size ws j = subst (λ n. place < 2 ^ get_or ws (j % n) 0) fields c.field-place.ensures.within in
    let some : 0 < length ws = omega (arith, g.S.Shape.laws.count, g.S.Shape.laws.fields_are) in
    let is : place ≡ get_or (code_of_words ws code) j 0 =
    c.field-place.ensures.value ∙ ap₂ (λ m n. field_of ws (get_or code (j / m) 0) (j % n)) fields' fields ∙ sym (place_is ws code j some (omega (arith, c.requires.within))) in
    let picks : get_or entries (at + place) 0 ≡ get_or (table_from ws first entries i) (get_or (code_of_words ws code) j 0) 0 =
    ap (λ s. get_or entries (s + place) 0) c.loop-i.invariant.at ∙ sym (get_or-drop (start_from ws first i) entries place 0)
    ∙ sym (get_or-take (table_size ws j) (drop (start_from ws first i) entries) place 0 there) ∙ ap (λ p. get_or (table_from ws first entries i) p 0) is in
    record {
      at = omega (arith, c.loop-i.invariant.at, next_from ws first i, c.size_of_table-at.ensures.size);
      small_at = omega (arith, c.loop-i.invariant.small_at, c.size_of_table-at.ensures.small);
      sum = omega (arith, c.loop-i.invariant.sum, sum_next i (λ i. get_or (table_from ws first entries i) (get_or (code_of_words ws code) (first + i) 0) 0), picks);
      small = omega (arith, c.loop-i.invariant.small, c.requires.bounded (at + place));
    }

pub returns-clause-value : goal.returns-clause-value
returns-clause-value g c =
    let ws = g.S.Shape.widths in
    let all : c.loop-i.i ≡ c.args.count = omega arith in
    let code : List ℕ = code_of_words ws c.args.code.now in
    c.loop-i.invariant.sum ∙ ap (λ n. sum_below n (λ i. get_or (table_from ws c.args.first c.args.entries.now i) (get_or code (c.args.first + i) 0) 0)) all
    ∙ picked-tables_from ws c.args.first c.args.count c.args.entries.now code
