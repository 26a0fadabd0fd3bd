use Rattle.std.proofs.Common.{◌≡◌, ℕ, List, length, take, sym, ap, ◌∙◌, subst}
use Rattle.play_script.specs.Stream.{Drawn, sample_book}
use Rattle.play_script.proofs.Drawing.{length_book_part, book_part}
use Rattle.play_script.proofs.sample.Sample.book.Goals as goal

pub slice_bounds-result-end : goal.slice_bounds-result-end
slice_bounds-result-end c = sym (ap (λ (all : List ℕ). length (take 38962 all)) c.deref.ensures.value ∙ length_book_part _ _ c.self.invariant)

pub returns-clause-len : goal.returns-clause-len
returns-clause-len c = ap (λ (all : List ℕ). length (take 38962 all)) c.deref.ensures.value ∙ length_book_part _ _ c.self.invariant

pub returns-clause-bytes : goal.returns-clause-bytes
returns-clause-bytes c =
    let part : take 38962 c.deref.result.now ≡ sample_book (record { start = c.self.inside.start; rows = c.self.inside.rows }) = ap (take 38962) c.deref.ensures.value ∙ book_part _ _ c.self.invariant in
    subst (λ (s : Drawn). take 38962 c.deref.result.now ≡ sample_book s) c.self.view_is part
