-- Steps of reading, one after another.
use Rattle.std.proofs.Common.{◌≡◌, ℕ, ◌+◌, ◌≤◌, Bool, true, false, cond, List, [], ◌++◌, length, drop, Result, Ok, Err, refl, sym, ap, subst, ◌∙◌, append_assoc, arith}
use Rattle.std.proofs.lemmas.List.{append-nil, drop_all, drop_at, drop-drop, length-append, length-drop}
use Rattle.adc_ports.specs.declared.What.{What}
use Rattle.adc_ports.specs.Reading.{Fault, Malformed, Limit, Read, ◌>>=◌}
use Rattle.file_fields.specs.Fields.{Spells, Tells}

-- the laws of steps that may meet a fault
pub bind_then : {A B C : Type 0} (r : Result A Fault) (f : A → Result B Fault) (g : B → Result C Fault) → ((r >>= f) >>= g) ≡ (r >>= λ x. f x >>= g)
bind_then (Ok x) f g = refl
bind_then (Err fault) f g = refl

pub bind_same : {A B : Type 0} (r : Result A Fault) (f g : A → Result B Fault) → ((x : A) → r ≡ Ok x → f x ≡ g x) → (r >>= f) ≡ (r >>= g)
bind_same (Ok x) f g same = same x refl
bind_same (Err fault) f g same = refl

-- the value of a step that met no fault
pub bind_ok : {A B : Type 0} (r : Result A Fault) (f : A → Result B Fault) (y : B) → (r >>= f) ≡ Ok y → (x : A) × (r ≡ Ok x) × (f x ≡ Ok y)
bind_ok (Ok x) f y e = (x, refl, e)
bind_ok (Err fault) f y e = absurd cc

-- ---- what stands there

pub spells_none : (bytes : List ℕ) (at : ℕ) → Spells bytes at [] at
spells_none bytes at = record { ends = omega arith; part = refl }

pub spells_then : {bytes : List ℕ} {a b c : ℕ} {x y : List ℕ} → Spells bytes a x b → Spells bytes b y c → Spells bytes a (x ++ y) c
spells_then {bytes} {a} {b} {c} {x} {y} p q = record {
  ends = omega (arith, p.ends, q.ends, length-append x y);
  part = p.part ∙ ap (λ (t : List ℕ). x ++ t) q.part ∙ sym (append_assoc x y (drop c bytes));
}

-- where the first part ends, and what stands behind it
pub spells_split : {bytes : List ℕ} {a c : ℕ} (x y : List ℕ) → Spells bytes a (x ++ y) c → Spells bytes a x (a + length x) × Spells bytes (a + length x) y c
spells_split {bytes} {a} {c} x y p =
    let whole : drop a bytes ≡ x ++ (y ++ drop c bytes) = p.part ∙ append_assoc x y (drop c bytes) in
    let later : drop (a + length x) bytes ≡ y ++ drop c bytes = sym (drop-drop (length x) a bytes) ∙ ap (λ (t : List ℕ). drop (length x) t) whole ∙ drop_at x (y ++ drop c bytes) (length x) refl in
    (record { ends = refl; part = whole ∙ ap (λ (t : List ℕ). x ++ t) (sym later) }, record { ends = omega (arith, p.ends, length-append x y); part = later })

-- a text that begins within the bytes ends within them
pub spells_within : {bytes : List ℕ} {at next : ℕ} {text : List ℕ} → at ≤ length bytes → Spells bytes at text next → (at ≤ next) × (next ≤ length bytes)
spells_within {bytes} {at} {next} {text} le p =
    (omega (arith, p.ends), omega (arith, p.ends, ap length p.part, length-append text (drop next bytes), length-drop at bytes, length-drop next bytes))

-- a text that is all of the bytes
pub spells_all : {bytes text : List ℕ} → Spells bytes 0 text (length bytes) → bytes ≡ text
spells_all {bytes} {text} p = p.part ∙ ap (λ (t : List ℕ). text ++ t) (drop_all (length bytes) bytes (omega arith)) ∙ append-nil text

pub all_spells : {bytes text : List ℕ} → bytes ≡ text → Spells bytes 0 text (length bytes)
all_spells {bytes} {text} e = record {
  ends = ap (λ (t : List ℕ). length t) e ∙ omega arith;
  part = e ∙ sym (append-nil text) ∙ ap (λ (t : List ℕ). text ++ t) (sym (drop_all (length bytes) bytes (omega arith)));
}

-- ---- what is told

pub tells_same : {A : Type 0} (s : A → List ℕ) (P : A → Type 0) (bytes : List ℕ) (at : ℕ) (r : Read A) → Tells s P bytes at r → (x : A × ℕ) → r ≡ Ok x → P x.0 × Spells bytes at (s x.0) x.1
tells_same {A} s P bytes at r told x e = let T : Read A → Type 0 = λ q. Tells s P bytes at q in subst T e told

module _ {B : Type 0} (t : B → List ℕ) (Q : B → Type 0) (bytes : List ℕ) (at : ℕ) where
  -- after a field that is told, what is told of all
  pub tells_bind : {A : Type 0} (s : A → List ℕ) (P : A → Type 0) (r : Read A) (k : A × ℕ → Read B) → Tells s P bytes at r
      → ((x : A × ℕ) → P x.0 → Spells bytes at (s x.0) x.1 → Tells t Q bytes at (k x)) → Tells t Q bytes at (r >>= k)
  tells_bind s P (Ok x) k told go_on = go_on x told.0 told.1
  tells_bind s P (Err (Malformed place)) k told go_on = told
  tells_bind s P (Err (Limit what value)) k told go_on = tt

  -- what is told from a later place on, told from here on
  pub tells_behind : {A : Type 0} (s : A → List ℕ) (P : A → Type 0) (next : ℕ) (r : Read A) (f : A → B) → at ≤ next
      → ((a : A) (end : ℕ) → P a → Spells bytes next (s a) end → Q (f a) × Spells bytes at (t (f a)) end) → Tells s P bytes next r → Tells t Q bytes at (r >>= λ x. Ok (f x.0, x.1))
  tells_behind s P next (Ok x) f le join told = join x.0 x.1 told.0 told.1
  tells_behind s P next (Err (Malformed place)) f le join told = (omega (arith, told.0), told.1)
  tells_behind s P next (Err (Limit what value)) f le join told = tt

  -- tests before a value is taken
  pub tells_unless : (b : Bool) (r : Read B) → at ≤ length bytes → (b ≡ false → Tells t Q bytes at r) → Tells t Q bytes at (cond b (Err (Malformed at)) r)
  tells_unless true r le go_on = (omega arith, le)
  tells_unless false r le go_on = go_on refl

  pub tells_either : (b : Bool) (r q : Read B) → (b ≡ true → Tells t Q bytes at r) → (b ≡ false → Tells t Q bytes at q) → Tells t Q bytes at (cond b r q)
  tells_either true r q first other = first refl
  tells_either false r q first other = other refl

  pub tells_unless_above : (b : Bool) (what : What) (value : ℕ) (r : Read B) → (b ≡ false → Tells t Q bytes at r) → Tells t Q bytes at (cond b (Err (Limit what value)) r)
  tells_unless_above true what value r go_on = tt
  tells_unless_above false what value r go_on = go_on refl

-- a value with nothing done to it
pub bind_none : {A : Type 0} (r : Read A) → (r >>= λ x. Ok (x.0, x.1)) ≡ r
bind_none (Ok x) = refl
bind_none (Err fault) = refl
