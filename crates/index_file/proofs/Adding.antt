-- One call after another that adds bytes to a file.
use Rattle.std.proofs.Common.{◌≡◌, ℕ, ◌+◌, List, [], ◌++◌, length, take, min, Option, Some, Result, Ok, Err, refl, sym, ap, subst, ◌∙◌, arith, append_assoc, inr, ◌⊎◌, drop, ◌-◌}
use Rattle.std.proofs.Math.Seq.{take-add}
use Rattle.std.proofs.lemmas.List.{take-append-drop}
use Rattle.adc_ports.specs.declared.Halt.{Halt}
use Rattle.adc_ports.specs.declared.Halt.TheVariants as halt
use Rattle.vec_files.specs.Halts.{stops_writing}
use Rattle.std.specs.Prelude.{OnOk, OnErr}
use Rattle.std.proofs.lemmas.List.{append-nil, take-append-le, take_min}
use Rattle.std.proofs.Math.Seq.{take-append-add}
use Rattle.adc_ports.specs.Files.{Rose}
use Rattle.adc_ports.specs.States.{ShelfState, OnlyWrites, SameWrites, Has, IsThere}
use Rattle.adc_ports.proofs.StateLemmas.{writes_none, writes_on}
use Rattle.vec_files.specs.declared.WriteError.{WriteError}
use Rattle.vec_files.specs.declared.WriteError.TheVariants.{WriteFault, Memory}
use Rattle.index_file.specs.Written.{HoldsFront, Holds, Adds}

abbrev pub halted : Halt → Result (Unit {0}) Halt
halted h = Err h

longer : (state : ShelfState) (name text more : List ℕ) → HoldsFront state name text → HoldsFront state name (text ++ more)
longer state name text more holds =
    let m = min holds.0 (length text) in
    let same : take holds.0 text ≡ take m (text ++ more) = sym (take-append-le m text more (omega arith) ∙ take_min holds.0 text) in
    (m, subst (λ (l : List ℕ). Has state name (Some l)) same holds.1)

-- a fault of a call on the shelf is one of writing
pub was_fault : (h : Halt) → stops_writing h ≡ WriteFault → halted h ≡ halted halt.Failed
was_fault halt.Failed is = refl
was_fault halt.Memory is = absurd cc

-- and no memory of such a call is none of writing
pub was_memory : (h : Halt) → stops_writing h ≡ Memory → halted h ≡ halted halt.Memory
was_memory halt.Failed is = absurd cc
was_memory halt.Memory is = refl

-- a call that counts no fault after one that counts none
same_after : (r : Result (Unit {0}) WriteError) (a b c : ShelfState) → SameWrites a b → OnOk r (SameWrites b c) → OnOk r (SameWrites a c)
same_after (Ok done) a b c first second = second ∙ first
same_after (Err e) a b c first second = tt

-- a text by its pieces
pub pieces_more : (text : List ℕ) (at n : ℕ) → take at text ++ take (at + n - at) (drop at text) ≡ take (at + n) text
pieces_more text at n =
    let size : at + n - at ≡ n = omega arith in
    ap (λ (k : ℕ). take at text ++ take k (drop at text)) size ∙ sym (take-add at n text)

pub pieces_rest : (text : List ℕ) (at n : ℕ) → (take at text ++ take (at + n - at) (drop at text)) ++ drop (at + n) text ≡ text
pieces_rest text at n = ap (λ (l : List ℕ). l ++ drop (at + n) text) (pieces_more text at n) ∙ take-append-drop (at + n) text

module _ (name : List ℕ) where
  pub adds_none : (a : ShelfState) (p : List ℕ) → IsThere a name → Adds name (Ok tt) a a p p []
  adds_none a p there = record {
    only = writes_none name a;
    there = there;
    ok = λ text holds. record { file = holds.file; has = holds.has; whole = holds.whole ∙ sym (append-nil text) };
    err = λ text holds. tt;
    failed = λ e. absurd cc;
    memory = λ e. absurd cc;
    counts = refl;
  }

  -- bytes that wait behind those that waited
  pub adds_placed : (a : ShelfState) (p x q : List ℕ) → IsThere a name → q ≡ p ++ x → Adds name (Ok tt) a a p q x
  adds_placed a p x q there is = record {
    only = writes_none name a;
    there = there;
    ok = λ text holds. record { file = holds.file; has = holds.has; whole = ap (λ (l : List ℕ). holds.file ++ l) is ∙ sym (append_assoc holds.file p x) ∙ ap (λ (l : List ℕ). l ++ x) holds.whole };
    err = λ text holds. tt;
    failed = λ e. absurd cc;
    memory = λ e. absurd cc;
    counts = refl;
  }

  -- what waited was appended
  pub adds_flushed : (a b : ShelfState) (p q : List ℕ) → OnlyWrites name a b → IsThere b name → SameWrites a b → ((held : List ℕ) → Has a name (Some held) → Has b name (Some (held ++ p))) → q ≡ [] → Adds name (Ok tt) a b p q []
  adds_flushed a b p q only there counts appended none = record {
    only = only;
    there = there;
    ok = λ text holds. record {
      file = holds.file ++ p;
      has = appended holds.file holds.has;
      whole = ap (λ (l : List ℕ). (holds.file ++ p) ++ l) none ∙ append-nil (holds.file ++ p) ∙ holds.whole ∙ sym (append-nil text);
    };
    err = λ text holds. tt;
    failed = λ e. absurd cc;
    memory = λ e. absurd cc;
    counts = counts;
  }

  -- the first of what waited was
  pub adds_cut : (e : WriteError) (a b : ShelfState) (p q : List ℕ) → OnlyWrites name a b → IsThere b name → ((held : List ℕ) → Has a name (Some held) → (n : ℕ) × Has b name (Some (held ++ take n p)))
      → (e ≡ WriteFault → Rose a.write_faults b.write_faults) → (e ≡ Memory → SameWrites a b) → Adds name (Err e) a b p q []
  adds_cut e a b p q only there cut failed memory = record {
    only = only;
    there = there;
    ok = λ text holds. tt;
    err = λ text holds.
        let front = cut holds.file holds.has in
        let same : holds.file ++ take front.0 p ≡ take (length holds.file + front.0) (text ++ []) =
        sym (ap (take (length holds.file + front.0)) (append-nil text ∙ sym holds.whole) ∙ take-append-add holds.file p front.0) in
        (length holds.file + front.0, subst (λ (l : List ℕ). Has b name (Some l)) same front.1);
    failed = λ is. failed cc;
    memory = λ is. memory cc;
    counts = tt;
  }

  pub adds_then : (r : Result (Unit {0}) WriteError) (a b c : ShelfState) (p q s x y : List ℕ) → Adds name (Ok tt) a b p q x → Adds name r b c q s y → Adds name r a c p s (x ++ y)
  adds_then r a b c p q s x y first second = record {
    only = writes_on name a b c first.only second.only;
    there = second.there;
    ok = λ text holds. subst (λ (t : List ℕ). OnOk r (Holds name c s t)) (append_assoc text x y) (second.ok (text ++ x) (first.ok text holds));
    err = λ text holds. subst (λ (t : List ℕ). OnErr r (HoldsFront c name t)) (append_assoc text x y) (second.err (text ++ x) (first.ok text holds));
    failed = λ e. omega (arith, second.failed e, first.only.writes);
    memory = λ e. second.memory e ∙ first.counts;
    counts = same_after r a b c first.counts second.counts;
  }

  pub adds_fails : (e : WriteError) (a b : ShelfState) (p q s x y : List ℕ) → Adds name (Err e) a b p q x → Adds name (Err e) a b p s (x ++ y)
  adds_fails e a b p q s x y first = record {
    only = first.only;
    there = first.there;
    ok = λ text holds. tt;
    err = λ text holds. subst (λ (t : List ℕ). HoldsFront b name t) (append_assoc text x y) (longer b name (text ++ x) y (first.err text holds));
    failed = first.failed;
    memory = first.memory;
    counts = tt;
  }

  -- the same bytes, written otherwise
  pub adds_same : (r : Result (Unit {0}) WriteError) (a b : ShelfState) (p q x y : List ℕ) → x ≡ y → Adds name r a b p q x → Adds name r a b p q y
  adds_same r a b p q x y same adds = subst (λ (l : List ℕ). Adds name r a b p q l) same adds

  -- the answer of a call, and of one call after another, for a text of which they add all or the first
  pub adds_stop : (e : WriteError) {a b : ShelfState} {p s x : List ℕ} (z text : List ℕ) → Adds name (Err e) a b p s x → x ++ z ≡ text → Adds name (Err e) a b p s text
  adds_stop e {a} {b} {p} {s} {x} z text adds is = adds_same (Err e) a b p s (x ++ z) text is (adds_fails e a b p s s x z adds)

  pub adds_after : (r : Result (Unit {0}) WriteError) {a b c : ShelfState} {p q s x y : List ℕ} (text : List ℕ) → Adds name (Ok tt) a b p q x → Adds name r b c q s y → x ++ y ≡ text → Adds name r a c p s text
  adds_after r {a} {b} {c} {p} {q} {s} {x} {y} text first second is = adds_same r a c p s (x ++ y) text is (adds_then r a b c p q s x y first second)

  pub adds_stop_after : (e : WriteError) {a b c : ShelfState} {p q s x y : List ℕ} (z text : List ℕ) → Adds name (Ok tt) a b p q x → Adds name (Err e) b c q s y → (x ++ y) ++ z ≡ text → Adds name (Err e) a c p s text
  adds_stop_after e {a} {b} {c} {p} {q} {s} {x} {y} z text first second is = adds_stop e z text (adds_then (Err e) a b c p q s x y first second) is

  -- what stands in the end of a file that was empty
  pub all_written : (r : Result (Unit {0}) WriteError) (a b : ShelfState) (p q text bytes : List ℕ) → p ≡ [] → Has a name (Some []) → text ≡ bytes → Adds name r a b p q text → OnOk r (q ≡ []) → OnOk r (Has b name (Some bytes))
  all_written (Ok done) a b p q text bytes none has same adds empty =
      let holds = adds.ok [] (record { file = []; has = has; whole = none }) in
      let whole : holds.file ≡ bytes = sym (append-nil holds.file) ∙ ap (λ (l : List ℕ). holds.file ++ l) (sym empty) ∙ holds.whole ∙ same in
      subst (λ (l : List ℕ). Has b name (Some l)) whole holds.has
  all_written (Err e) a b p q text bytes none has same adds empty = tt

  pub front_written : (r : Result (Unit {0}) WriteError) (a b : ShelfState) (p q text bytes : List ℕ) (file : Option (List ℕ)) → p ≡ [] → Has a name (Some []) → text ≡ bytes → Adds name r a b p q text → OnErr r (Has b name file ⊎ HoldsFront b name bytes)
  front_written (Ok done) a b p q text bytes file none has same adds = tt
  front_written (Err e) a b p q text bytes file none has same adds = inr (subst (λ (l : List ℕ). HoldsFront b name l) same (adds.err [] (record { file = []; has = has; whole = none })))
