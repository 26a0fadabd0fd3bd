-- Reading a script line by line.
use Rattle.std.proofs.Common.{◌≡◌, ℕ, zero, suc, ◌+◌, ◌-◌, ◌≤◌, ◌<◌, ◌⊎◌, inl, inr, Bool, true, false, cond, nat_lt, List, [], ◌∷◌, length, Option, Some, None, Result, Ok, Err, refl, sym, ap, ◌∙◌, subst, arith}
use Rattle.std.specs.Bool.{MatchBool}
use Rattle.std.specs.Result.{IfOk}
use Rattle.std.proofs.lemmas.Bool.{le-ltb, cond-true, cond-false, cases_Bool}
use Rattle.adc_ports.specs.declared.What.{What}
use Rattle.adc_ports.specs.declared.What.TheVariants.{Bytes, Lines}
use Rattle.play_script.specs.declared.script.TheConstants.{MAX_BYTES, MAX_LINES}
use Rattle.play_script.specs.declared.script.ScriptError.{ScriptError}
use Rattle.play_script.specs.declared.script.ScriptError.TheVariants as error
use Rattle.play_script.specs.Grammar.{Fault, BadLine, Limit, is_blank, words_of, or_bad_line, commands_from, lines_of, outcome_by}
use Rattle.play_script.specs.Gives.{Fails, Gives, with_front}
use Rattle.play_script.specs.Spelling.{Says, FirstSays, FirstBad}

-- a fault is the same whatever was read before it
pub fault_stays : {C : Type 0} (e : ScriptError) (front : List C) (outcome : Result (List C) Fault) → Fails e outcome → Fails e (with_front front outcome)
fault_stays error.Memory front outcome fails = tt
fault_stays (error.Malformed n) front outcome fails = rw fails refl
fault_stays (error.Limit what value) front outcome fails = rw fails refl

-- what a line spells, and the command that is read of it
abbrev pub Tells : {C : Type 0} → (List ℕ → C → Type 0) → List ℕ → Option C → Type 0
Tells {C} Spells line said = ((c : C) → said ≡ Some c → Spells line c) × ((c : C) → Spells line c → said ≡ Some c)

-- one line of a script and the test whether it is blank, with the command that it says, and what is said behind it
module _ {C : Type 0} (Spells : List ℕ → C → Type 0) (line : List ℕ) (n : ℕ) where
  abbrev IsGood : Bool → Type 0
  IsGood blank = MatchBool blank (Unit {0}) ((command : C) × Spells line command)

  abbrev outcome_of : Bool → Bool → Option C → Result (List C) Fault → Result (List C) Fault
  outcome_of past blank said rest = cond past (Err (Limit Lines n)) (cond blank rest (or_bad_line n said rest))

  says_step : (past blank : Bool) (said : Option C) (rest : Result (List C) Fault) (others : List C → Type 0) (all : List C)
      → Tells Spells line said → ((more : List C) → rest ≡ Ok more → others more) → outcome_of past blank said rest ≡ Ok all → MatchBool blank (others all) (FirstSays Spells line others all)
  says_step true blank said rest others all tells behind h = cc
  says_step false true said rest others all tells behind h = behind all h
  says_step false false None rest others all tells behind h = cc
  says_step false false (Some c) (Err e) others all tells behind h = cc
  says_step false false (Some c) (Ok more) others all tells behind h =
      let is : c ∷ more ≡ all = cc in
      subst (FirstSays Spells line others) is (tells.0 c refl, behind more refl)

  again_step : (blank : Bool) (said : Option C) (rest : Result (List C) Fault) (others : List C → Type 0) (all : List C)
      → Tells Spells line said → ((more : List C) → others more → rest ≡ Ok more) → MatchBool blank (others all) (FirstSays Spells line others all) → outcome_of false blank said rest ≡ Ok all
  again_step true said rest others all tells behind h = behind all h
  again_step false said rest others [] tells behind h = absurd h
  again_step false said rest others (c ∷ more) tells behind h = rw (tells.1 c h.0, behind more h.1) refl

  bad_step : (past blank : Bool) (said : Option C) (rest : Result (List C) Fault) (m : ℕ)
      → Tells Spells line said → outcome_of past blank said rest ≡ Err (BadLine m) → ((n ≡ m) × (IsGood blank → ⊥)) ⊎ (IsGood blank × (rest ≡ Err (BadLine m)))
  bad_step true blank said rest m tells h = cc
  bad_step false true said rest m tells h = inr (tt, h)
  bad_step false false None rest m tells h = inl (cc, λ good. cc (tells.1 good.0 good.1))
  bad_step false false (Some c) (Ok more) m tells h = cc
  bad_step false false (Some c) (Err e) m tells h = inr ((c, tells.0 c refl), h)

  first_bad : (blank : Bool) (said : Option C) (rest : Result (List C) Fault) → Tells Spells line said → (IsGood blank → ⊥) → outcome_of false blank said rest ≡ Err (BadLine n)
  first_bad true said rest tells bad = absurd (bad tt)
  first_bad false None rest tells bad = refl
  first_bad false (Some c) rest tells bad = absurd (bad (c, tells.0 c refl))

  later_bad : (blank : Bool) (said : Option C) (rest : Result (List C) Fault) (m : ℕ) → Tells Spells line said → IsGood blank → rest ≡ Err (BadLine m) → outcome_of false blank said rest ≡ Err (BadLine m)
  later_bad true said rest m tells good h = h
  later_bad false None rest m tells good h = cc (tells.1 good.0 good.1)
  later_bad false (Some c) rest m tells good h = rw h refl

-- a whole script, whose words are read so
module _ {C : Type 0} (Spells : List ℕ → C → Type 0) (said : List (List ℕ) → Option C) (tells_of : (line : List ℕ) → Tells Spells line (said (words_of line))) where
  -- the commands that are read are those that the lines say
  says : (n : ℕ) (lines : List (List ℕ)) (all : List C) → commands_from said n lines ≡ Ok all → Says Spells lines all
  unfolding commands_from
  says n [] all h = cc
  says n (line ∷ lines) all h = says_step Spells line n (nat_lt MAX_LINES n) (is_blank line) (said (words_of line)) (commands_from said (n + 1) lines) (Says Spells lines) all (tells_of line) (says (n + 1) lines) h

  within : (n : ℕ) (past : Result (List C) Fault) (rest : Result (List C) Fault) → n ≤ MAX_LINES → cond (nat_lt MAX_LINES n) past rest ≡ rest
  within n past rest le = cond-false (nat_lt MAX_LINES n) past rest (le-ltb MAX_LINES n le)

  -- and what the lines say is read, where there are not too many
  says_again : (n : ℕ) (lines : List (List ℕ)) (all : List C) → n + length lines ≤ 8388609 → Says Spells lines all → commands_from said n lines ≡ Ok all
  unfolding commands_from
  says_again n [] all few h = ap (λ (cs : List C). Ok cs) (sym h)
  says_again n (line ∷ lines) all few h =
      within n _ _ (omega arith) ∙ again_step Spells line n (is_blank line) (said (words_of line)) (commands_from said (n + 1) lines) (Says Spells lines) all (tells_of line) (λ more. says_again (n + 1) lines more (omega arith)) h

  -- the line that is refused is the first bad one
  refused : (n : ℕ) (lines : List (List ℕ)) (m : ℕ) → commands_from said n lines ≡ Err (BadLine m) → (i : ℕ) × (m ≡ n + i) × FirstBad Spells lines i
  unfolding commands_from
  refused n [] m h = cc
  refused n (line ∷ lines) m h = elim (bad_step Spells line n (nat_lt MAX_LINES n) (is_blank line) (said (words_of line)) (commands_from said (n + 1) lines) m (tells_of line) h) [
    | inl here ↦ (0, omega (arith, here.0), here.1)
    | inr later ↦ (let there = refused (n + 1) lines m later.1 in (suc there.0, omega (arith, there.1), (later.0, there.2)))
  ]

  -- and the first bad one is refused, unless a line too many comes before it
  refused_again : (n : ℕ) (lines : List (List ℕ)) (i : ℕ) → n + i ≤ MAX_LINES → FirstBad Spells lines i → commands_from said n lines ≡ Err (BadLine (n + i))
  unfolding commands_from
  refused_again n [] i few bad = absurd bad
  refused_again n (line ∷ lines) zero few bad =
      let here : n + 0 ≡ n = omega arith in
      rw here (within n _ _ (omega arith) ∙ first_bad Spells line n (is_blank line) (said (words_of line)) (commands_from said (n + 1) lines) (tells_of line) bad)
  refused_again n (line ∷ lines) (suc i) few bad =
      let there : n + 1 + i ≡ n + suc i = omega arith in
      let behind : commands_from said (n + 1) lines ≡ Err (BadLine (n + suc i)) = subst (λ (m : ℕ). commands_from said (n + 1) lines ≡ Err (BadLine m)) there (refused_again (n + 1) lines i (omega arith) bad.1) in
      within n _ _ (omega arith) ∙ later_bad Spells line n (is_blank line) (said (words_of line)) (commands_from said (n + 1) lines) (n + suc i) (tells_of line) bad.0 behind

  -- within both limits the outcome is that of the lines
  module _ (bytes : List ℕ) where
    outcome_is : length bytes ≤ MAX_BYTES → outcome_by said bytes ≡ commands_from said 1 (lines_of bytes)
    outcome_is small = cond-false (nat_lt MAX_BYTES (length bytes)) _ _ (le-ltb MAX_BYTES (length bytes) small)

    lines_read : (r : Result (List C) Fault) → outcome_by said bytes ≡ r → ((what : What) (value : ℕ) → r ≡ Err (Limit what value) → ⊥) → commands_from said 1 (lines_of bytes) ≡ r
    lines_read r h other = elim (cases_Bool (nat_lt MAX_BYTES (length bytes))) [
      | inl past ↦ absurd (other Bytes (length bytes) (sym h ∙ cond-true (nat_lt MAX_BYTES (length bytes)) _ _ past))
      | inr small ↦ sym (cond-false (nat_lt MAX_BYTES (length bytes)) _ _ small) ∙ h
    ]

    pub spelled : (r : Result (List C) ScriptError) → Gives (λ (all : List C). all) r (outcome_by said bytes) → IfOk r (λ all. Says Spells (lines_of bytes) all)
    spelled (Err e) gives = tt
    spelled (Ok all) gives = says 1 (lines_of bytes) all (lines_read (Ok all) gives (λ what value h. cc h))

    pub only : (r : Result (List C) ScriptError) → Gives (λ (all : List C). all) r (outcome_by said bytes)
        → (all : List C) → length bytes ≤ MAX_BYTES → length (lines_of bytes) ≤ MAX_LINES → Says Spells (lines_of bytes) all → Gives (λ (cs : List C). cs) r (Ok all)
    only r gives all small few said_so =
        let outcome : outcome_by said bytes ≡ Ok all = outcome_is small ∙ says_again 1 (lines_of bytes) all (omega arith) said_so in
        subst (λ (o : Result (List C) Fault). Gives (λ (cs : List C). cs) r o) outcome gives

    pub first_fault : (r : Result (List C) ScriptError) → Gives (λ (all : List C). all) r (outcome_by said bytes)
        → (line : ℕ) → r ≡ Err (error.Malformed line) → (1 ≤ line) × FirstBad Spells (lines_of bytes) (line - 1)
    first_fault r gives line is =
        let outcome : outcome_by said bytes ≡ Err (BadLine line) = subst (λ (o : Result (List C) ScriptError). Gives (λ (cs : List C). cs) o (outcome_by said bytes)) is gives in
        let there = refused 1 (lines_of bytes) line (lines_read (Err (BadLine line)) outcome (λ what value h. cc h)) in
        let place : there.0 ≡ line - 1 = omega (arith, there.1) in (omega (arith, there.1), subst (FirstBad Spells (lines_of bytes)) place there.2)

    pub fault_again : (r : Result (List C) ScriptError) → Gives (λ (all : List C). all) r (outcome_by said bytes)
        → (place : ℕ) → place < MAX_LINES → length bytes ≤ MAX_BYTES → FirstBad Spells (lines_of bytes) place → Gives (λ (cs : List C). cs) r (Err (BadLine (place + 1)))
    fault_again r gives place few small bad =
        let number : 1 + place ≡ place + 1 = omega arith in
        let outcome : outcome_by said bytes ≡ Err (BadLine (1 + place)) = outcome_is small ∙ refused_again 1 (lines_of bytes) place (omega arith) bad in
        subst (λ (m : ℕ). Gives (λ (cs : List C). cs) r (Err (BadLine m))) number (subst (λ (o : Result (List C) Fault). Gives (λ (cs : List C). cs) r o) outcome gives)
