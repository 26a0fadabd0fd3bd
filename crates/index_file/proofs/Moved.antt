-- Fields of a file as they are read of a part of it: as far in, from where the part begins.
use Rattle.std.proofs.Common.{◌≡◌, ℕ, zero, suc, ◌+◌, ◌-◌, ◌*◌, ◌^◌, ◌<◌, ◌≤◌, Bool, true, false, cond, ◌||◌, ltb, List, ◌∷◌, length, take, drop, Ok, Err, refl, sym, ap, ◌∙◌, arith, inl, inr, min, ◌==◌}
use Rattle.std.specs.Prelude.{sum}
use Rattle.std.specs.Int.{Width, w16, w32, byte_len, from_le_bytes}
use Rattle.std.proofs.lemmas.Bool.{cases_lt, lt-ltb, le-ltb}
use Rattle.std.proofs.lemmas.List.{drop-take, length-take, length-drop}
use Rattle.std.proofs.Math.Seq.{take-take, drop-drop}
use Rattle.adc_ports.specs.declared.What.{What}
use Rattle.adc_ports.specs.declared.What.TheVariants.{Id}
use Rattle.adc_ports.specs.declared.What.TheVariants as what
use Rattle.adc_ports.specs.Reading.{Fault, Malformed, Limit, Read, ◌>>=◌, number_at, allowed_at, limited_at}
use Rattle.shape_core.specs.Word.{code_of_words}
use Rattle.book_model.specs.Rows.{Row, has_id}
use Rattle.index_file.specs.declared.sizes.Ahead.{Ahead}
use Rattle.index_file.specs.declared.sizes.Ahead.TheVariants.{Rows, Groups}
use Rattle.index_file.specs.declared.version.Version.{Version}
use Rattle.index_file.specs.declared.version.Version.TheVariants.{One, Two}
use Rattle.index_file.specs.Reading.{Layout, words_at, id_at, row_at, member_at, head_at}
use Rattle.index_file.specs.Ahead.{ahead_at}

abbrev pub moved_fault : ℕ → Fault → Fault
moved_fault at (Malformed p) = Malformed (at + p)
moved_fault at (Limit what value) = Limit what value

-- what is read of a part, as of the file in which it begins at an offset
abbrev pub moved : {A : Type 0} → ℕ → Read A → Read A
moved at (Ok x) = Ok (x.0, at + x.1)
moved at (Err fault) = Err (moved_fault at fault)

guard_moved : {A : Type 0} (b : Bool) (at : ℕ) (fault : Fault) (x : A × ℕ) → cond b (Err (moved_fault at fault)) (Ok (x.0, at + x.1)) ≡ moved at (cond b (Err fault) (Ok x))
guard_moved true at fault x = refl
guard_moved false at fault x = refl

guard_then_moved : {A : Type 0} (b : Bool) (at : ℕ) (fault : Fault) (r : Read A) → cond b (Err (moved_fault at fault)) (moved at r) ≡ moved at (cond b (Err fault) r)
guard_then_moved true at fault r = refl
guard_then_moved false at fault r = refl

pub bind_moved : {A B : Type 0} (at : ℕ) (r : Read A) (f g : A × ℕ → Read B) → ((x : A × ℕ) → r ≡ Ok x → f (x.0, at + x.1) ≡ moved at (g x)) → (moved at r >>= f) ≡ moved at (r >>= g)
bind_moved at (Ok x) f g same = same x refl
bind_moved at (Err e) f g same = refl

-- where a field ends that was read
ends_then : {A : Type 0} (b : Bool) (fault : Fault) (x y : A × ℕ) → cond b (Err fault) (Ok x) ≡ Ok y → x.1 ≡ y.1
ends_then true fault x y e = absurd cc
ends_then {A = A} false fault x y e = let same : x ≡ y = cc in ap (λ (z : A × ℕ). z.1) same

pub number_ends : (w : Width) (bytes : List ℕ) (p : ℕ) (x : ℕ × ℕ) → number_at w bytes p ≡ Ok x → x.1 ≡ p + byte_len w
unfolding number_at
number_ends w bytes p x e = sym (ends_then (ltb (length bytes) (p + byte_len w)) (Malformed p) (from_le_bytes w (take (byte_len w) (drop p bytes)), p + byte_len w) x e)

bind_ends : {A B : Type 0} (n : ℕ) (r : Read A) (f : A × ℕ → Read B) (y : B × ℕ) → ((x : A × ℕ) → r ≡ Ok x → f x ≡ Ok y → y.1 ≡ n) → (r >>= f) ≡ Ok y → y.1 ≡ n
bind_ends n (Ok x) f y ends e = ends x refl e
bind_ends n (Err fault) f y ends e = absurd cc

pub allowed_ends : (w : Width) (low high : ℕ) (bytes : List ℕ) (p : ℕ) (y : ℕ × ℕ) → allowed_at w low high bytes p ≡ Ok y → y.1 ≡ p + byte_len w
unfolding allowed_at
allowed_ends w low high bytes p y e =
    bind_ends (p + byte_len w) (number_at w bytes p) (λ n. cond (ltb n.0 low || ltb high n.0) (Err (Malformed p)) (Ok n)) y
    (λ x is f. sym (ends_then (ltb x.0 low || ltb high x.0) (Malformed p) x y f) ∙ number_ends w bytes p x is) e

ends_then_two : {A : Type 0} (a b : Bool) (fault other : Fault) (x y : A × ℕ) → cond a (Err fault) (cond b (Err other) (Ok x)) ≡ Ok y → x.1 ≡ y.1
ends_then_two true b fault other x y e = absurd cc
ends_then_two false b fault other x y e = ends_then b other x y e

pub limited_ends : (what : What) (w : Width) (low high : ℕ) (bytes : List ℕ) (p : ℕ) (y : ℕ × ℕ) → limited_at what w low high bytes p ≡ Ok y → y.1 ≡ p + byte_len w
unfolding limited_at
limited_ends what w low high bytes p y e =
    bind_ends (p + byte_len w) (number_at w bytes p) (λ n. cond (ltb n.0 low) (Err (Malformed p)) (cond (ltb high n.0) (Err (Limit what n.0)) (Ok n))) y
    (λ x is f. sym (ends_then_two (ltb x.0 low) (ltb high x.0) (Malformed p) (Limit what x.0) x y f) ∙ number_ends w bytes p x is) e

id_ends : (rows : List Row) (bytes : List ℕ) (p : ℕ) (y : ℕ × ℕ) → id_at rows bytes p ≡ Ok y → y.1 ≡ p + 4
unfolding id_at
id_ends rows bytes p y e =
    bind_ends (p + 4) (limited_at Id w32 0 2147483647 bytes p) (λ id. cond (has_id rows id.0) (Err (Malformed p)) (Ok id)) y
    (λ x is f. sym (ends_then (has_id rows x.0) (Malformed p) x y f) ∙ limited_ends Id w32 0 2147483647 bytes p x is) e

abbrev done : ℕ × ℕ → Read ℕ
done x = Ok x

pairs : (a b c d : ℕ) → a ≡ b → c ≡ d → done (a, c) ≡ done (b, d)
pairs a b c d e f = cc

module _ (bytes : List ℕ) (at need : ℕ) where
  abbrev part : List ℕ
  part = take need (drop at bytes)

  inside : (p n : ℕ) → p + n ≤ need → take n (drop p part) ≡ take n (drop (at + p) bytes)
  inside p n le =
      let m : need ≡ p + (need - p) = omega arith in
      let one : drop p part ≡ take (need - p) (drop p (drop at bytes)) = ap (λ (k : ℕ). drop p (take k (drop at bytes))) m ∙ drop-take p (need - p) (drop at bytes) in
      ap (take n) one ∙ take-take n (need - p) (drop p (drop at bytes)) (omega arith) ∙ ap (take n) (drop-drop p at bytes)

  pub number_moved : (w : Width) (p : ℕ) → 0 < byte_len w → p + byte_len w ≤ need → number_at w bytes (at + p) ≡ moved at (number_at w part p)
  unfolding number_at
  number_moved w p some le =
      let long : length part ≡ min need (length bytes - at) = length-take need (drop at bytes) ∙ ap (min need) (length-drop at bytes) in
      elim (cases_lt (length bytes) (at + p + byte_len w)) [
        | inl short ↦
            let here : length part < p + byte_len w = omega (arith, long) in
            rw (lt-ltb (length bytes) (at + p + byte_len w) short, lt-ltb (length part) (p + byte_len w) here) refl
        | inr fits ↦
            let here : p + byte_len w ≤ length part = omega (arith, long) in
            rw (le-ltb (length bytes) (at + p + byte_len w) fits, le-ltb (length part) (p + byte_len w) here)
            (pairs (from_le_bytes w (take (byte_len w) (drop (at + p) bytes))) (from_le_bytes w (take (byte_len w) (drop p part))) (at + p + byte_len w) (at + (p + byte_len w)) (ap (from_le_bytes w) (sym (inside p (byte_len w) le))) (omega arith))
      ]

  pub allowed_moved : (w : Width) (low high p : ℕ) → 0 < byte_len w → p + byte_len w ≤ need → allowed_at w low high bytes (at + p) ≡ moved at (allowed_at w low high part p)
  unfolding allowed_at
  allowed_moved w low high p some le =
      ap (λ (r : Read ℕ). r >>= (λ n. cond (ltb n.0 low || ltb high n.0) (Err (Malformed (at + p))) (Ok n))) (number_moved w p some le)
      ∙ bind_moved at (number_at w part p) (λ n. cond (ltb n.0 low || ltb high n.0) (Err (Malformed (at + p))) (Ok n)) (λ n. cond (ltb n.0 low || ltb high n.0) (Err (Malformed p)) (Ok n))
      (λ x is. guard_moved (ltb x.0 low || ltb high x.0) at (Malformed p) x)

  pub limited_moved : (what : What) (w : Width) (low high p : ℕ) → 0 < byte_len w → p + byte_len w ≤ need → limited_at what w low high bytes (at + p) ≡ moved at (limited_at what w low high part p)
  unfolding limited_at
  limited_moved what w low high p some le =
      ap (λ (r : Read ℕ). r >>= (λ n. cond (ltb n.0 low) (Err (Malformed (at + p))) (cond (ltb high n.0) (Err (Limit what n.0)) (Ok n)))) (number_moved w p some le)
      ∙ bind_moved at (number_at w part p) (λ n. cond (ltb n.0 low) (Err (Malformed (at + p))) (cond (ltb high n.0) (Err (Limit what n.0)) (Ok n))) (λ n. cond (ltb n.0 low) (Err (Malformed p)) (cond (ltb high n.0) (Err (Limit what n.0)) (Ok n)))
      (λ x is.
      ap (λ (r : Read ℕ). cond (ltb x.0 low) (Err (Malformed (at + p))) r) (guard_moved (ltb high x.0) at (Limit what x.0) x)
      ∙ guard_then_moved (ltb x.0 low) at (Malformed p) (cond (ltb high x.0) (Err (Limit what x.0)) (Ok x)))

  id_moved : (rows : List Row) (p : ℕ) → p + 4 ≤ need → id_at rows bytes (at + p) ≡ moved at (id_at rows part p)
  unfolding id_at
  id_moved rows p le =
      ap (λ (r : Read ℕ). r >>= (λ id. cond (has_id rows id.0) (Err (Malformed (at + p))) (Ok id))) (limited_moved Id w32 0 2147483647 p (omega arith) le)
      ∙ bind_moved at (limited_at Id w32 0 2147483647 part p) (λ id. cond (has_id rows id.0) (Err (Malformed (at + p))) (Ok id)) (λ id. cond (has_id rows id.0) (Err (Malformed p)) (Ok id))
      (λ x is. guard_moved (has_id rows x.0) at (Malformed p) x)

  words_moved : (widths : List ℕ) (n p : ℕ) → p + 2 * n ≤ need → words_at widths n bytes (at + p) ≡ moved at (words_at widths n part p)
  words_moved widths zero p le = refl
  words_moved widths (suc n) p le =
      let top = 2 ^ sum widths - 1 in
      ap (λ (r : Read ℕ). r >>= (λ word. words_at widths n bytes word.1 >>= (λ words. Ok (word.0 ∷ words.0, words.1)))) (allowed_moved w16 0 top p (omega arith) (omega arith))
      ∙ bind_moved at (allowed_at w16 0 top part p) (λ word. words_at widths n bytes word.1 >>= (λ words. Ok (word.0 ∷ words.0, words.1))) (λ word. words_at widths n part word.1 >>= (λ words. Ok (word.0 ∷ words.0, words.1)))
      (λ x is.
      ap (λ (r : Read (List ℕ)). r >>= (λ words. Ok (x.0 ∷ words.0, words.1))) (words_moved widths n x.1 (omega (arith, allowed_ends w16 0 top part p x is)))
      ∙ bind_moved at (words_at widths n part x.1) (λ words. Ok (x.0 ∷ words.0, words.1)) (λ words. Ok (x.0 ∷ words.0, words.1)) (λ y same. refl))

  row_moved : (layout : Layout) (rows : List Row) (low p : ℕ) → p + (8 + 2 * layout.g) ≤ need → row_at layout rows low bytes (at + p) ≡ moved at (row_at layout rows low part p)
  unfolding row_at
  row_moved layout rows low p le =
      let row : ℕ → ℕ → List ℕ → Row = λ id cell words. record { id = id; cell = cell; code = code_of_words layout.widths words } in
      let words_of : List ℕ → ℕ → ℕ → ℕ → Read Row = λ bytes id cell q. words_at layout.widths layout.g bytes q >>= (λ words. Ok (row id cell words.0, words.1)) in
      let cell_of : List ℕ → ℕ → ℕ → Read Row = λ bytes id q. allowed_at w32 low (layout.cells - 1) bytes q >>= (λ cell. words_of bytes id cell.0 cell.1) in
      ap (λ (r : Read ℕ). r >>= (λ id. cell_of bytes id.0 id.1)) (id_moved rows p (omega arith))
      ∙ bind_moved at (id_at rows part p) (λ id. cell_of bytes id.0 id.1) (λ id. cell_of part id.0 id.1)
      (λ x is.
      let end : x.1 ≡ p + 4 = id_ends rows part p x is in
      ap (λ (r : Read ℕ). r >>= (λ cell. words_of bytes x.0 cell.0 cell.1)) (allowed_moved w32 low (layout.cells - 1) x.1 (omega arith) (omega arith))
      ∙ bind_moved at (allowed_at w32 low (layout.cells - 1) part x.1) (λ cell. words_of bytes x.0 cell.0 cell.1) (λ cell. words_of part x.0 cell.0 cell.1)
      (λ y same.
      ap (λ (r : Read (List ℕ)). r >>= (λ words. Ok (row x.0 y.0 words.0, words.1))) (words_moved layout.widths layout.g y.1 (omega (arith, allowed_ends w32 low (layout.cells - 1) part x.1 y same)))
      ∙ bind_moved at (words_at layout.widths layout.g part y.1) (λ words. Ok (row x.0 y.0 words.0, words.1)) (λ words. Ok (row x.0 y.0 words.0, words.1)) (λ z e. refl)))

  member_moved : (layout : Layout) (cell : ℕ) (rows : List Row) (p : ℕ) → p + (4 + 2 * layout.g) ≤ need → member_at layout cell rows bytes (at + p) ≡ moved at (member_at layout cell rows part p)
  unfolding member_at
  member_moved layout cell rows p le =
      let row : ℕ → List ℕ → Row = λ id words. record { id = id; cell = cell; code = code_of_words layout.widths words } in
      let words_of : List ℕ → ℕ → ℕ → Read Row = λ bytes id q. words_at layout.widths layout.g bytes q >>= (λ words. Ok (row id words.0, words.1)) in
      ap (λ (r : Read ℕ). r >>= (λ id. words_of bytes id.0 id.1)) (id_moved rows p (omega arith))
      ∙ bind_moved at (id_at rows part p) (λ id. words_of bytes id.0 id.1) (λ id. words_of part id.0 id.1)
      (λ x is.
      ap (λ (r : Read (List ℕ)). r >>= (λ words. Ok (row x.0 words.0, words.1))) (words_moved layout.widths layout.g x.1 (omega (arith, id_ends rows part p x is)))
      ∙ bind_moved at (words_at layout.widths layout.g part x.1) (λ words. Ok (row x.0 words.0, words.1)) (λ words. Ok (row x.0 words.0, words.1)) (λ z e. refl))

  head_moved : (cells low more left p : ℕ) → p + 8 ≤ need → head_at cells low more left bytes (at + p) ≡ moved at (head_at cells low more left part p)
  unfolding head_at
  head_moved cells low more left p le =
      let least = cond (more == 0) left 1 in
      let count_of : List ℕ → ℕ → ℕ → Read (ℕ × ℕ) = λ bytes cell q. allowed_at w32 least (left - more) bytes q >>= (λ count. Ok ((cell, count.0), count.1)) in
      ap (λ (r : Read ℕ). r >>= (λ cell. count_of bytes cell.0 cell.1)) (allowed_moved w32 low (cells - 1) p (omega arith) (omega arith))
      ∙ bind_moved at (allowed_at w32 low (cells - 1) part p) (λ cell. count_of bytes cell.0 cell.1) (λ cell. count_of part cell.0 cell.1)
      (λ x is.
      ap (λ (r : Read ℕ). r >>= (λ count. Ok ((x.0, count.0), count.1))) (allowed_moved w32 least (left - more) x.1 (omega arith) (omega (arith, allowed_ends w32 low (cells - 1) part p x is)))
      ∙ bind_moved at (allowed_at w32 least (left - more) part x.1) (λ count. Ok ((x.0, count.0), count.1)) (λ count. Ok ((x.0, count.0), count.1)) (λ z e. refl))

  ahead_moved : (version : Version) (cells p : ℕ) → p + 8 ≤ need → ahead_at version cells bytes (at + p) ≡ moved at (ahead_at version cells part p)
  unfolding ahead_at
  ahead_moved One cells p le =
      let plain : ℕ → Ahead = λ count. Rows (record { left = count; low = 0 }) in
      ap (λ (r : Read ℕ). r >>= (λ count. Ok (plain count.0, count.1))) (limited_moved what.Rows w32 0 4194304 p (omega arith) (omega arith))
      ∙ bind_moved at (limited_at what.Rows w32 0 4194304 part p) (λ count. Ok (plain count.0, count.1)) (λ count. Ok (plain count.0, count.1)) (λ x is. refl)
  ahead_moved Two cells p le =
      let grouped : ℕ → ℕ → Ahead = λ count groups. Groups (record { cell = 0; members = 0; groups = groups; left = count; low = 0 }) in
      let groups_of : List ℕ → ℕ → ℕ → Read Ahead = λ bytes count q. allowed_at w32 (min 1 count) (min count cells) bytes q >>= (λ groups. Ok (grouped count groups.0, groups.1)) in
      ap (λ (r : Read ℕ). r >>= (λ count. groups_of bytes count.0 count.1)) (limited_moved what.Rows w32 0 4194304 p (omega arith) (omega arith))
      ∙ bind_moved at (limited_at what.Rows w32 0 4194304 part p) (λ count. groups_of bytes count.0 count.1) (λ count. groups_of part count.0 count.1)
      (λ x is.
      ap (λ (r : Read ℕ). r >>= (λ groups. Ok (grouped x.0 groups.0, groups.1))) (allowed_moved w32 (min 1 x.0) (min x.0 cells) x.1 (omega arith) (omega (arith, limited_ends what.Rows w32 0 4194304 part p x is)))
      ∙ bind_moved at (allowed_at w32 (min 1 x.0) (min x.0 cells) part x.1) (λ groups. Ok (grouped x.0 groups.0, groups.1)) (λ groups. Ok (grouped x.0 groups.0, groups.1)) (λ z e. refl))

-- from the front of a part
pub ahead_in : (version : Version) (cells : ℕ) (part bytes : List ℕ) (at : ℕ) → part ≡ take 8 (drop at bytes) → ahead_at version cells bytes at ≡ moved at (ahead_at version cells part 0)
ahead_in version cells part bytes at is =
    ap (λ (k : ℕ). ahead_at version cells bytes k) (omega arith) ∙ ahead_moved bytes at 8 version cells 0 (omega arith) ∙ ap (λ (xs : List ℕ). moved at (ahead_at version cells xs 0)) (sym is)

pub row_in : (layout : Layout) (rows : List Row) (low : ℕ) (part bytes : List ℕ) (at : ℕ) → part ≡ take (8 + 2 * layout.g) (drop at bytes) → row_at layout rows low bytes at ≡ moved at (row_at layout rows low part 0)
row_in layout rows low part bytes at is =
    ap (λ (k : ℕ). row_at layout rows low bytes k) (omega arith) ∙ row_moved bytes at (8 + 2 * layout.g) layout rows low 0 (omega arith) ∙ ap (λ (xs : List ℕ). moved at (row_at layout rows low xs 0)) (sym is)

pub member_in : (layout : Layout) (cell : ℕ) (rows : List Row) (part bytes : List ℕ) (at : ℕ) → part ≡ take (4 + 2 * layout.g) (drop at bytes) → member_at layout cell rows bytes at ≡ moved at (member_at layout cell rows part 0)
member_in layout cell rows part bytes at is =
    ap (λ (k : ℕ). member_at layout cell rows bytes k) (omega arith) ∙ member_moved bytes at (4 + 2 * layout.g) layout cell rows 0 (omega arith) ∙ ap (λ (xs : List ℕ). moved at (member_at layout cell rows xs 0)) (sym is)

pub head_in : (cells low more left : ℕ) (part bytes : List ℕ) (at : ℕ) → part ≡ take 8 (drop at bytes) → head_at cells low more left bytes at ≡ moved at (head_at cells low more left part 0)
head_in cells low more left part bytes at is =
    ap (λ (k : ℕ). head_at cells low more left bytes k) (omega arith) ∙ head_moved bytes at 8 cells low more left 0 (omega arith) ∙ ap (λ (xs : List ℕ). moved at (head_at cells low more left xs 0)) (sym is)
