-- A line says a command exactly where it is the one spelling of that command.
use Rattle.std.proofs.Common.{◌≡◌, ℕ, ◌^◌, ◌<◌, ◌⊎◌, inl, inr, not, Bool, true, false, cond, eqb, List, [], ◌∷◌, codes, decimal, Option, Some, None, refl, sym, ap, ◌∙◌, subst}
use Rattle.std.specs.Prelude.{bytes_eq}
use Rattle.std.specs.List.{All, list_all, join_with_byte}
use Rattle.std.proofs.lemmas.Bool.{not-true}
use Rattle.std.proofs.lemmas.List.Sums.{AllPass-from_list_all}
use Rattle.std.proofs.lemmas.List.Splits.{slice_split_none, slice_split_at, join_with_byte-slice_split}
use Rattle.std.proofs.lemmas.Slice.Eq.{bytes_eq-Decides}
use Rattle.play_script.specs.declared.Command.{Command}
use Rattle.play_script.specs.declared.Command.TheVariants.{Insert, Delete, Put, Query}
use Rattle.play_script.specs.Grammar.{number_of, ◌>>=◌, insert_of, delete_of, put_of, ids_of, query_of, command_of, words_of}
use Rattle.play_script.specs.Spelling.{words, range_words, RangeFits, Fits, IsSpelling}
use Rattle.play_script.proofs.Digits.{number_spelled, number_again, no_space}

pub bind_some : {A B : Type 0} (o : Option A) (f : A → Option B) (y : B) → (o >>= f) ≡ Some y → (x : A) × (o ≡ Some x) × (f x ≡ Some y)
bind_some None f y h = cc
bind_some (Some x) f y h = (x, refl, h)

pub chosen : {A : Type 0} (b : Bool) (x y z : A) → cond b x y ≡ z → ((b ≡ true) × (x ≡ z)) ⊎ ((b ≡ false) × (y ≡ z))
chosen true x y z h = inl (refl, h)
chosen false x y z h = inr (refl, h)

-- a number among the words, and what is read behind it
pub numbered : {B : Type 0} (word : List ℕ) (f : ℕ → Option B) (y : B) → (number_of word >>= f) ≡ Some y → (n : ℕ) × (n < 10 ^ 18) × (word ≡ decimal n) × (f n ≡ Some y)
numbered word f y h =
    let read = bind_some (number_of word) f y h in
    let spelled = number_spelled word read.0 read.1 in (read.0, spelled.0, spelled.1, read.2)

-- the words of a command behind its verb
record Spells (verb : List ℕ) (rest : List (List ℕ)) (command : Command) : Type 0 where
  fits : Fits command
  spelled : verb ∷ rest ≡ words command

insert_spelled : (rest : List (List ℕ)) (command : Command) → insert_of rest ≡ Some command → Spells (codes "insert") rest command
insert_spelled [] command h = cc
insert_spelled (a ∷ []) command h = cc
insert_spelled (a ∷ b ∷ c ∷ rest) command h = cc
insert_spelled (a ∷ b ∷ []) command h =
    let id = numbered a (λ n. number_of b >>= λ m. Some (Insert n m)) command h in
    let row = numbered b (λ m. Some (Insert id.0 m)) command id.3 in
    let is : Insert id.0 row.0 ≡ command = cc in
    subst (λ (c : Command). Spells (codes "insert") (a ∷ b ∷ []) c) is (record { fits = (id.1, row.1); spelled = cc (id.2, row.2) })

put_spelled : (rest : List (List ℕ)) (command : Command) → put_of rest ≡ Some command → Spells (codes "put") rest command
put_spelled [] command h = cc
put_spelled (a ∷ []) command h = cc
put_spelled (a ∷ b ∷ c ∷ rest) command h = cc
put_spelled (a ∷ b ∷ []) command h =
    let id = numbered a (λ n. number_of b >>= λ m. Some (Put n m)) command h in
    let row = numbered b (λ m. Some (Put id.0 m)) command id.3 in
    let is : Put id.0 row.0 ≡ command = cc in
    subst (λ (c : Command). Spells (codes "put") (a ∷ b ∷ []) c) is (record { fits = (id.1, row.1); spelled = cc (id.2, row.2) })

delete_spelled : (rest : List (List ℕ)) (command : Command) → delete_of rest ≡ Some command → Spells (codes "delete") rest command
delete_spelled [] command h = cc
delete_spelled (a ∷ b ∷ rest) command h = cc
delete_spelled (a ∷ []) command h =
    let id = numbered a (λ n. Some (Delete n)) command h in
    let is : Delete id.0 ≡ command = cc in
    subst (λ (c : Command). Spells (codes "delete") (a ∷ []) c) is (record { fits = id.1; spelled = cc id.2 })

ids_spelled : (rest : List (List ℕ)) (ids : Option (ℕ × ℕ)) → ids_of rest ≡ Some ids → RangeFits ids × (rest ≡ range_words ids)
ids_spelled [] ids h =
    let is : None ≡ ids = cc in
    subst (λ (o : Option (ℕ × ℕ)). RangeFits o × ([] ≡ range_words o)) is (tt, refl)
ids_spelled (w ∷ []) ids h = cc
ids_spelled (w ∷ a ∷ []) ids h = cc
ids_spelled (w ∷ a ∷ b ∷ c ∷ rest) ids h = cc
ids_spelled (w ∷ a ∷ b ∷ []) ids h =
    let low = numbered a (λ n. number_of b >>= λ m. cond (bytes_eq w (codes "ids")) (Some (Some (n, m))) None) ids h in
    let high = numbered b (λ m. cond (bytes_eq w (codes "ids")) (Some (Some (low.0, m))) None) ids low.3 in
    elim (chosen (bytes_eq w (codes "ids")) (Some (Some (low.0, high.0))) None (Some ids) high.3) [
      | inl said ↦ (
          let is : Some (low.0, high.0) ≡ ids = cc said.1 in
          let word : w ≡ codes "ids" = (bytes_eq-Decides w (codes "ids")).0 said.0 in
          subst (λ (o : Option (ℕ × ℕ)). RangeFits o × (w ∷ a ∷ b ∷ [] ≡ range_words o)) is ((low.1, high.1), cc (word, low.2, high.2)))
      | inr other ↦ cc other.1
    ]

query_words : (a b c : List ℕ) (rest : List (List ℕ)) (row k wanted : ℕ) (ids : Option (ℕ × ℕ)) (command : Command) → Fits (Query row k wanted ids) → a ≡ decimal row → b ≡ decimal k → c ≡ decimal wanted
    → rest ≡ range_words ids → Query row k wanted ids ≡ command → Spells (codes "query") (a ∷ b ∷ c ∷ rest) command
query_words a b c rest row k wanted ids command fits is_row is_k is_wanted is_range is =
    subst (λ (q : Command). Spells (codes "query") (a ∷ b ∷ c ∷ rest) q) is (record { fits = fits; spelled = cc })

query_spelled : (rest : List (List ℕ)) (command : Command) → query_of rest ≡ Some command → Spells (codes "query") rest command
query_spelled [] command h = cc
query_spelled (a ∷ []) command h = cc
query_spelled (a ∷ b ∷ []) command h = cc
query_spelled (a ∷ b ∷ c ∷ rest) command h =
    let row = numbered a (λ n. number_of b >>= λ m. number_of c >>= λ w. ids_of rest >>= λ ids. Some (Query n m w ids)) command h in
    let k = numbered b (λ m. number_of c >>= λ w. ids_of rest >>= λ ids. Some (Query row.0 m w ids)) command row.3 in
    let wanted = numbered c (λ w. ids_of rest >>= λ ids. Some (Query row.0 k.0 w ids)) command k.3 in
    let ids = bind_some (ids_of rest) (λ ids. Some (Query row.0 k.0 wanted.0 ids)) command wanted.3 in
    let range = ids_spelled rest ids.0 ids.1 in
    let is : Query row.0 k.0 wanted.0 ids.0 ≡ command = cc ids.2 in
    query_words a b c rest row.0 k.0 wanted.0 ids.0 command (row.1, k.1, wanted.1, range.0) row.2 k.2 wanted.2 range.1 is

-- a verb that is this one, before words that spell a command behind it
behind : (verb name : List ℕ) (rest : List (List ℕ)) (command : Command) → bytes_eq verb name ≡ true → Spells name rest command → Fits command × (verb ∷ rest ≡ words command)
behind verb name rest command same spells =
    let is : verb ≡ name = (bytes_eq-Decides verb name).0 same in (spells.fits, ap (λ (word : List ℕ). word ∷ rest) is ∙ spells.spelled)

-- words that say a command are its words
pub command_spelled : (line : List (List ℕ)) (command : Command) → command_of line ≡ Some command → Fits command × (line ≡ words command)
unfolding command_of
command_spelled [] command h = cc
command_spelled (verb ∷ rest) command h =
    elim (chosen (bytes_eq verb (codes "insert")) _ _ (Some command) h) [
      | inl said ↦ behind verb (codes "insert") rest command said.0 (insert_spelled rest command said.1)
      | inr no1 ↦ elim (chosen (bytes_eq verb (codes "delete")) _ _ (Some command) no1.1) [
        | inl said ↦ behind verb (codes "delete") rest command said.0 (delete_spelled rest command said.1)
        | inr no2 ↦ elim (chosen (bytes_eq verb (codes "put")) _ _ (Some command) no2.1) [
          | inl said ↦ behind verb (codes "put") rest command said.0 (put_spelled rest command said.1)
          | inr no3 ↦ elim (chosen (bytes_eq verb (codes "query")) _ _ (Some command) no3.1) [
            | inl said ↦ behind verb (codes "query") rest command said.0 (query_spelled rest command said.1)
            | inr no4 ↦ cc no4.1
          ]
        ]
      ]
    ]

-- and its words say it
pub command_again : (command : Command) → Fits command → command_of (words command) ≡ Some command
unfolding command_of
command_again (Insert id row) fits = rw (number_again id fits.0, number_again row fits.1) refl
command_again (Delete id) fits = rw (number_again id fits) refl
command_again (Put id row) fits = rw (number_again id fits.0, number_again row fits.1) refl
command_again (Query row k wanted None) fits = rw (number_again row fits.0, number_again k fits.1, number_again wanted fits.2) refl
command_again (Query row k wanted (Some range)) fits = rw (number_again row fits.0, number_again k fits.1, number_again wanted fits.2, number_again range.0 fits.3.0, number_again range.1 fits.3.1) refl

-- none of the words has a space
abbrev pub HaveNoSpace : List (List ℕ) → Type 0
HaveNoSpace [] = Unit {0}
HaveNoSpace (word ∷ ws) = All (λ b. eqb b 32 ≡ false) word × HaveNoSpace ws

-- so they are the parts of the line that they make
pub parts_of_words : (word : List ℕ) (ws : List (List ℕ)) → HaveNoSpace (word ∷ ws) → words_of (join_with_byte 32 (word ∷ ws)) ≡ word ∷ ws
parts_of_words word [] none = slice_split_none (λ b. eqb b 32) word none.0
parts_of_words word (next ∷ ws) none =
    slice_split_at (λ b. eqb b 32) word 32 (join_with_byte 32 (next ∷ ws)) none.0 refl ∙ ap (λ (parts : List (List ℕ)). word ∷ parts) (parts_of_words next ws none.1)

pub plain : (word : List ℕ) → list_all (λ b. not (eqb b 32)) word ≡ true → All (λ b. eqb b 32 ≡ false) word
plain word h = λ k d lt. not-true _ (AllPass-from_list_all (λ b. not (eqb b 32)) word h k d lt)

range_has_none : (ids : Option (ℕ × ℕ)) → RangeFits ids → HaveNoSpace (range_words ids)
range_has_none None fits = tt
range_has_none (Some range) fits = (plain (codes "ids") refl, (no_space range.0 fits.0, (no_space range.1 fits.1, tt)))

pub words_have_none : (command : Command) → Fits command → HaveNoSpace (words command)
words_have_none (Insert id row) fits = (plain (codes "insert") refl, (no_space id fits.0, (no_space row fits.1, tt)))
words_have_none (Delete id) fits = (plain (codes "delete") refl, (no_space id fits, tt))
words_have_none (Put id row) fits = (plain (codes "put") refl, (no_space id fits.0, (no_space row fits.1, tt)))
words_have_none (Query row k wanted ids) fits =
    (plain (codes "query") refl, (no_space row fits.0, (no_space k fits.1, (no_space wanted fits.2, range_has_none ids fits.3))))

-- each command has a verb
pub parts_of_command : (command : Command) → HaveNoSpace (words command) → words_of (join_with_byte 32 (words command)) ≡ words command
parts_of_command (Insert id row) none = parts_of_words _ _ none
parts_of_command (Delete id) none = parts_of_words _ _ none
parts_of_command (Put id row) none = parts_of_words _ _ none
parts_of_command (Query row k wanted ids) none = parts_of_words _ _ none

-- a line that says a command is the spelling of it
pub line_spelled : (line : List ℕ) (command : Command) → command_of (words_of line) ≡ Some command → IsSpelling line command
line_spelled line command h =
    let both = command_spelled (words_of line) command h in
    record { fits = both.0; spelled = sym (join_with_byte-slice_split 32 line) ∙ ap (join_with_byte 32) both.1 }

-- and the spelling of a command says it
pub line_again : (line : List ℕ) (command : Command) → IsSpelling line command → command_of (words_of line) ≡ Some command
line_again line command spelling =
    let parts : words_of line ≡ words command = ap words_of spelling.spelled ∙ parts_of_command command (words_have_none command spelling.fits) in
    ap command_of parts ∙ command_again command spelling.fits
