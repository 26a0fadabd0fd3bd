-- What was written of lines, one after another.
use Rattle.std.proofs.Common.{◌≡◌, ℕ, suc, true, false, refl, ap₂, ◌+◌, List, [], ◌∷◌, ◌++◌, length, take, Ok, Err, inl, inr, get_or, drop, sym, ap, subst, ◌∙◌, ◌<◌, arith, append_assoc}
use Rattle.std.specs.Prelude.{Option, Result, nat_le}
use Rattle.std.specs.Io.KnownBytes.{Appends}
use Rattle.std.proofs.KnownBytes.{Appends-trans}
use Rattle.std.proofs.lemmas.Bool.{false≢true, cases_Bool, leb-true, leb-false}
use Rattle.std.proofs.lemmas.List.{append-nil, take-append-le, take_all, take_more, take-append-drop}
use Rattle.std.proofs.lemmas.Result.{err_from_is_err_and}
use Rattle.std.specs.Result.{IsErrAnd, OnOk}
use Rattle.std.proofs.lemmas.List.Concat.{flat_map-append}
use Rattle.std.proofs.Math.Seq.{take-append-add, take-append_seam}
use Rattle.adc_ports.specs.Files.{AddsPrefix}
use Rattle.adc_program.specs.declared.halts.Halted.{Halted}
use Rattle.adc_program.specs.declared.halts.Halted.TheVariants.{Stopped, Unsaved, Unwritten}
use Rattle.adc_program.specs.Ends.{text_of, AddsLines, AddsText, Writes, WritesText}

text_of-append : (lines more : List (List ℕ)) → text_of (lines ++ more) ≡ text_of lines ++ text_of more
text_of-append lines more = flat_map-append (λ (line : List ℕ). line) lines more

text_of-one : (line : List ℕ) → text_of (line ∷ []) ≡ line
text_of-one line = append-nil line

pub line_put : (old new : Option (List ℕ)) (bytes line : List ℕ) → Appends old new bytes → bytes ≡ line → Appends old new (text_of (line ∷ []))
line_put old new bytes line h same = subst (Appends old new) (same ∙ sym (text_of-one line)) h

pub line_cut : (old new : Option (List ℕ)) (bytes line : List ℕ) → AddsPrefix old new bytes → bytes ≡ line → AddsPrefix old new (text_of (line ∷ []))
line_cut old new bytes line cut same = (cut.0, subst (λ (b : List ℕ). Appends old new (take cut.0 b)) (same ∙ sym (text_of-one line)) cut.1)

-- bytes that were added, and then lines or the first bytes of them
pub more_lines : (first old new : Option (List ℕ)) (lines more : List (List ℕ)) → Appends first old (text_of lines) → Appends old new (text_of more) → Appends first new (text_of (lines ++ more))
more_lines first old new lines more e h = subst (Appends first new) (sym (text_of-append lines more)) (Appends-trans first old new _ _ e h)

pub more_bytes : (first old new : Option (List ℕ)) (bytes more : List ℕ) → Appends first old bytes → AddsPrefix old new more → AddsPrefix first new (bytes ++ more)
more_bytes first old new bytes more e cut = (length bytes + cut.0, subst (Appends first new) (sym (take-append-add bytes more cut.0)) (Appends-trans first old new _ _ e cut.1))

abbrev adds_after : (first old new : Option (List ℕ)) (lines more : List (List ℕ)) → Appends first old (text_of lines) → AddsLines old new more → AddsLines first new (lines ++ more)
adds_after first old new lines more e h = record {
  front = lines ++ h.front;
  rest = h.rest;
  are = append_assoc lines h.front h.rest ∙ ap (λ (l : List (List ℕ)). lines ++ l) h.are;
  added = more_lines first old new lines h.front e h.added;
}

abbrev adds_before : (old new : Option (List ℕ)) (lines more : List (List ℕ)) → AddsLines old new lines → AddsLines old new (lines ++ more)
adds_before old new lines more h = record {
  front = h.front;
  rest = h.rest ++ more;
  are = sym (append_assoc h.front h.rest more) ∙ ap (λ (l : List (List ℕ)). l ++ more) h.are;
  added = h.added;
}

-- lines that were written, and then more of them
pub writes_after : {X : Type 0} (result : Result X Halted) (first old new : Option (List ℕ)) (lines more : List (List ℕ)) → Appends first old (text_of lines) → Writes result old new more → Writes result first new (lines ++ more)
writes_after (Ok x) first old new lines more e h = more_lines first old new lines more e h
writes_after (Err (Stopped stop)) first old new lines more e h = adds_after first old new lines more e h
writes_after (Err (Unsaved role)) first old new lines more e h = adds_after first old new lines more e h
writes_after (Err (Unwritten halt)) first old new lines more e h = subst (AddsPrefix first new) (sym (text_of-append lines more)) (more_bytes first old new _ _ e h)

none_left : (n : ℕ) → suc n ≡ 0 → ⊥
none_left n h = omega (arith, h)

-- lists that make none are none
pub none_of : (front rest : List (List ℕ)) → front ++ rest ≡ [] → (front ≡ []) × (rest ≡ [])
none_of [] rest e = (refl, e)
none_of (line ∷ front) rest e = absurd (none_left (length (front ++ rest)) (ap (λ (l : List (List ℕ)). length l) e))

both_none : (front rest : List (List ℕ)) → front ≡ [] → rest ≡ [] → front ++ rest ≡ []
both_none front rest p q = ap₂ (λ (a b : List (List ℕ)). a ++ b) p q

text_adds_after : (first old new : Option (List ℕ)) (lines more : List (List ℕ)) → (more ≡ [] → lines ≡ []) → Appends first old (text_of lines) → AddsText true old new more → AddsText true first new (lines ++ more)
text_adds_after first old new lines more none e h = record {
  adds = adds_after first old new lines more e h.adds;
  more = λ filed left. (let gone : more ≡ [] = h.more filed left in both_none lines more (none gone) gone);
}

text_adds_before : (old new : Option (List ℕ)) (lines more : List (List ℕ)) → AddsText true old new lines → AddsText true old new (lines ++ more)
text_adds_before old new lines more h = record {
  adds = adds_before old new lines more h.adds;
  more = λ filed left. (let gone = none_of h.adds.rest more left in both_none lines more (h.more filed gone.0) gone.1);
}

-- lines of a text that were written, and then more of them, which are none only if the first were none
pub text_after : {X : Type 0} (result : Result X Halted) (first old new : Option (List ℕ)) (lines more : List (List ℕ)) → (more ≡ [] → lines ≡ []) → Appends first old (text_of lines) → WritesText true result old new more
    → WritesText true result first new (lines ++ more)
text_after (Ok x) first old new lines more none e h = more_lines first old new lines more e h
text_after (Err (Stopped stop)) first old new lines more none e h = text_adds_after first old new lines more none e h
text_after (Err (Unsaved role)) first old new lines more none e h = text_adds_after first old new lines more none e h
text_after (Err (Unwritten halt)) first old new lines more none e h = subst (AddsPrefix first new) (sym (text_of-append lines more)) (more_bytes first old new _ _ e h)

-- a text without an output file
pub text_unfiled : {X : Type 0} (result : Result X Halted) (old new : Option (List ℕ)) (lines : List (List ℕ)) → Writes result old new lines → WritesText false result old new lines
text_unfiled (Ok x) old new lines h = h
text_unfiled (Err (Stopped stop)) old new lines h = record { adds = h; more = λ filed left. absurd (false≢true filed) }
text_unfiled (Err (Unsaved role)) old new lines h = record { adds = h; more = λ filed left. absurd (false≢true filed) }
text_unfiled (Err (Unwritten halt)) old new lines h = h

-- a prefix is one of more bytes too
pub longer : (n : ℕ) (bytes more : List ℕ) → (m : ℕ) × (take n bytes ≡ take m (bytes ++ more))
longer n bytes more = elim (cases_Bool (nat_le n (length bytes))) [
  | inl short ↦ (n, sym (take-append-le n bytes more (leb-true n (length bytes) short)))
  | inr long ↦ (length bytes, take_all n bytes (omega (arith, leb-false n (length bytes) long)) ∙ sym (take-append_seam bytes more))
]

-- a halt within the first of the lines is one within all
pub writes_before : (halted : Halted) (old new : Option (List ℕ)) (lines more : List (List ℕ)) → Writes {X = Unit {0}} (Err halted) old new lines → Writes {X = Unit {0}} (Err halted) old new (lines ++ more)
writes_before (Stopped stop) old new lines more h = adds_before old new lines more h
writes_before (Unsaved role) old new lines more h = adds_before old new lines more h
writes_before (Unwritten halt) old new lines more h =
    let m = longer h.0 (text_of lines) (text_of more) in
    (m.0, subst (Appends old new) (m.1 ∙ ap (take m.0) (sym (text_of-append lines more))) h.1)

pub text_before : (halted : Halted) (old new : Option (List ℕ)) (lines more : List (List ℕ)) → WritesText {X = Unit {0}} true (Err halted) old new lines → WritesText {X = Unit {0}} true (Err halted) old new (lines ++ more)
text_before (Stopped stop) old new lines more h = text_adds_before old new lines more h
text_before (Unsaved role) old new lines more h = text_adds_before old new lines more h
text_before (Unwritten halt) old new lines more h = writes_before (Unwritten halt) old new lines more h

-- a halt at one of the lines is one within all
pub halts_at : (halted : Halted) (old now new : Option (List ℕ)) (line : List ℕ) (lines : List (List ℕ)) (i : ℕ) → i < length lines → line ≡ get_or lines i [] → Appends old now (text_of (take i lines))
    → Writes {X = Unit {0}} (Err halted) now new (line ∷ []) → Writes {X = Unit {0}} (Err halted) old new lines
halts_at halted old now new line lines i lt is so_far h =
    let more : take (i + 1) lines ≡ take i lines ++ line ∷ [] = take_more lines i [] lt ∙ ap (λ (l : List ℕ). take i lines ++ l ∷ []) (sym is) in
    let all : (take i lines ++ line ∷ []) ++ drop (i + 1) lines ≡ lines = ap (λ (l : List (List ℕ)). l ++ drop (i + 1) lines) (sym more) ∙ take-append-drop (i + 1) lines in
    subst (λ (l : List (List ℕ)). Writes {X = Unit {0}} (Err halted) old new l) all
    (writes_before halted old new (take i lines ++ line ∷ []) (drop (i + 1) lines) (writes_after {X = Unit {0}} (Err halted) old now new (take i lines) (line ∷ []) so_far h))

-- the error that a `?` hands on is the one that came
pub handed_on : (P : Result (Unit {0}) Halted → Type 0) (result : Result (Unit {0}) Halted) (halted : Halted) → IsErrAnd result (λ e. e ≡ halted) → P (Err halted) → P result
handed_on P result halted is h =
    let p = err_from_is_err_and result is in
    subst P (sym (p.1 ∙ ap Err p.2)) h

pub on_ok : {T E P : Type 0} (result : Result T E) → P → OnOk result P
on_ok (Ok x) p = p
on_ok (Err e) p = tt

pub on_ok_by : {T E P Q : Type 0} (result : Result T E) → (P → Q) → OnOk result P → OnOk result Q
on_ok_by (Ok x) on p = on p
on_ok_by (Err e) on p = tt

pub both_ok : {T E P Q R : Type 0} (result : Result T E) → (P → Q → R) → OnOk result P → OnOk result Q → OnOk result R
both_ok (Ok x) f p q = f p q
both_ok (Err e) f p q = tt
