use Rattle.std.proofs.Common.{◌≡◌, ℕ, ◌+◌, ◌*◌, get_or, subst, arith}
use Rattle.shape_core.specs.Word.{field_of, code_of_words}
use Rattle.shape_core.proofs.Codes.{code_of_words-words_of, words_of-code_of_words, AreCodeWords-words_of, IsCode-code_of_words, get_or-code_of_words}
use Rattle.shape_core.proofs.codes_and_words_are_one_to_one.Goals as goal

pub returns-clause-code_of_its_words : goal.returns-clause-code_of_its_words
returns-clause-code_of_its_words g c = code_of_words-words_of g.S.Shape.widths

pub returns-clause-words_of_their_code : goal.returns-clause-words_of_their_code
returns-clause-words_of_their_code g c = words_of-code_of_words g.S.Shape.widths

pub returns-clause-words_are_good : goal.returns-clause-words_are_good
returns-clause-words_are_good g c = AreCodeWords-words_of g.S.Shape.widths

pub returns-clause-fields_fit : goal.returns-clause-fields_fit
returns-clause-fields_fit g c = IsCode-code_of_words g.S.Shape.widths

pub returns-clause-places : goal.returns-clause-places
returns-clause-places g c = λ words w f h l.
    let ws = g.S.Shape.widths in
    let count = g.S.Shape.laws.fields_are in
    let P : ℕ → Type 0 = λ n. get_or (code_of_words ws words) (w * n + f) 0 ≡ field_of ws (get_or words w 0) f in
    subst P count (get_or-code_of_words ws words w f h (omega (arith, count)))
