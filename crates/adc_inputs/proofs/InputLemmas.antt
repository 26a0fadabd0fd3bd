-- What the calls on a shelf tell of an input.
use Rattle.std.proofs.Common.{◌≡◌, ℕ, ◌<◌, ◌≤◌, true, false, List, [], ◌++◌, inl, inr, length, take, drop, Ok, Err, refl, sym, ap, subst, ◌∙◌, arith}
use Rattle.std.specs.Prelude.{Option, Some, None, option_map, unwrap_or, nat_lt, if◌then◌else◌, Result}
use Rattle.std.proofs.lemmas.List.{take_all, take-append-le}
use Rattle.std.proofs.Math.Seq.{take-take}
use Rattle.std.proofs.lemmas.Bool.{lt-ltb, le-ltb, cases_Bool}
use Rattle.std.specs.Prelude.{IfOk, IfErr}
use Rattle.std.specs.Global.{Vec}
use Rattle.adc_ports.specs.declared.What.TheVariants.{Bytes}
use Rattle.adc_ports.specs.Files.{Files, bytes_of}
use Rattle.adc_ports.specs.States.{ShelfState, OnlyReads, SameReads}
use Rattle.play_script.specs.declared.Role.{Role}
use Rattle.adc_inputs.specs.declared.stop.InputError.{InputError}
use Rattle.adc_inputs.specs.declared.stop.InputError.TheVariants.{Missing, Malformed, Limit}
use Rattle.adc_inputs.specs.declared.stop.Stop.{Stop}
use Rattle.adc_inputs.specs.declared.stop.Stop.TheVariants.{Input}
use Rattle.adc_inputs.specs.Names.{Name}
use Rattle.adc_inputs.specs.Steps.{Stops, Reads, nothing_wrong}
use Rattle.adc_inputs.specs.Inputs.{bytes_or_missing, ◌>>=◌}

-- an input by the option that a shelf keeps
abbrev pub sized : Role → ℕ → Option (List ℕ) → Result (List ℕ) InputError
sized role most file = bytes_or_missing role file >>= λ bytes. if nat_lt most (length bytes) then Err (Limit role Bytes (length bytes)) else Ok bytes

refl_limit : (role : Role) (m n : ℕ) → m ≡ n → ◌≡◌ {A = Result (List ℕ) InputError} (Err (Limit role Bytes n)) (Err (Limit role Bytes m))
refl_limit role m n e = cc

refl_ok : (xs ys : List ℕ) → xs ≡ ys → ◌≡◌ {A = Result (List ℕ) InputError} (Ok xs) (Ok ys)
refl_ok xs ys e = cc

pub missing : (role : Role) (most : ℕ) (file : Option (List ℕ)) → None ≡ option_map length file → sized role most file ≡ Err (Missing role)
missing role most None h = refl
missing role most (Some bytes) h = cc

pub above : (role : Role) (most size : ℕ) (file : Option (List ℕ)) → Some size ≡ option_map length file → most < size → sized role most file ≡ Err (Limit role Bytes size)
above role most size None h lt = cc
above role most size (Some bytes) h lt =
    let e : size ≡ length bytes = cc in
    let big : nat_lt most (length bytes) ≡ true = lt-ltb most (length bytes) (omega arith) in
    simp big (refl_limit role size (length bytes) e)

-- an input that is not too long is all its bytes
pub within : (role : Role) (most size : ℕ) (file : Option (List ℕ)) → Some size ≡ option_map length file → size ≤ most → sized role most file ≡ Ok (unwrap_or file [])
within role most size None there le = cc
within role most size (Some file) there le =
    let e : size ≡ length file = cc in
    let small : nat_lt most (length file) ≡ false = le-ltb most (length file) (omega arith) in
    simp small

pub its_size : (size : ℕ) (file : Option (List ℕ)) → Some size ≡ option_map length file → size ≡ length (unwrap_or file [])
its_size size None there = cc
its_size size (Some file) there = cc

-- a fetch of all the bytes of a file comes short of none, and leaves them in a buffer of their size
pub all_fetched : (size n len : ℕ) (bytes into rest : List ℕ) → size ≡ length bytes → len ≡ size → length into ≡ size → n ≡ length (take size (drop 0 bytes)) → take n into ≡ take size (drop 0 bytes)
    → (n ≡ length (take len (into ++ rest))) × (take len (into ++ rest) ≡ bytes)
all_fetched size n len bytes into rest is room long count fetched =
    let whole : take size (drop 0 bytes) ≡ bytes = take_all size bytes (omega (arith, is)) in
    let all : n ≡ size = omega (arith, is, count, ap length whole) in
    let left : take len (into ++ rest) ≡ bytes = take-append-le len into rest (omega (arith, room, long)) ∙ ap (λ (k : ℕ). take k into) (room ∙ sym all) ∙ fetched ∙ whole in
    (omega (arith, all, is, ap length left), left)

-- all of the bytes of an input were read, or it ends before the size that the shelf gave
pub all_reads : (role : Role) (name : Name) (n : ℕ) (buffer : List ℕ) (result : Result (Vec ℕ) Stop) (a b : ShelfState) → OnlyReads a b → SameReads a b
    → IfOk result (λ all. (all.items ≡ buffer) × (n ≡ length buffer)) → IfErr result (λ stop. (stop ≡ Input (Malformed role n)) × (n < length buffer))
    → ((files : Files) → a.files ≡ Some files → (n ≡ length buffer) × (buffer ≡ bytes_of files name)) → Reads result (λ files bytes. bytes.items ≡ bytes_of files name) nothing_wrong a b
all_reads role name n buffer (Ok all) a b only same ok err told = record { only = only; counts = same; cause = tt; found = λ files is. ok.0 ∙ (told files is).1 }
all_reads role name n buffer (Err stop) a b only same ok err told = record {
  only = only;
  counts = tt;
  cause = subst (λ (s : Stop). Stops s a b) (sym err.0) tt;
  found = λ files is. absurd (omega (arith, err.1, (told files is).0));
}

err_err : {Y Z : Type 0} (a b : InputError) → ◌≡◌ {A = Result Z InputError} (Err a) (Err b) → ◌≡◌ {A = Result Y InputError} (Err a) (Err b)
err_err a b e =
    let same : a ≡ b = cc in
    ap Err same

ok_ok : (a b : List ℕ) → ◌≡◌ {A = Result (List ℕ) InputError} (Ok a) (Ok b) → a ≡ b
ok_ok a b e = cc

-- reading on from the bytes of an input, where what is too long is above the limit
module _ {Y : Type 0} (role : Role) (most : ℕ) (reading : List ℕ → Result Y InputError)
    (long : (bytes : List ℕ) → nat_lt most (length bytes) ≡ true → reading bytes ≡ Err (Limit role Bytes (length bytes))) where
  pub input_err : (file : Option (List ℕ)) (error : InputError) → sized role most file ≡ Err error → (bytes_or_missing role file >>= reading) ≡ Err error
  input_err None error e = cc
  input_err (Some bytes) error e = elim (cases_Bool (nat_lt most (length bytes))) [
    | inl big ↦ (let is : Err (Limit role Bytes (length bytes)) ≡ Err error = simp big at e in long bytes big ∙ err_err (Limit role Bytes (length bytes)) error is)
    | inr small ↦ (let is : Ok bytes ≡ Err error = simp small at e in cc)
  ]

  pub input_ok : (file : Option (List ℕ)) (bytes : List ℕ) → sized role most file ≡ Ok bytes → (bytes_or_missing role file >>= reading) ≡ reading bytes
  input_ok None bytes e = cc
  input_ok (Some all) bytes e = elim (cases_Bool (nat_lt most (length all))) [
    | inl big ↦ (let is : Err (Limit role Bytes (length all)) ≡ Ok bytes = simp big at e in cc)
    | inr small ↦ (let is : Ok all ≡ Ok bytes = simp small at e in ap reading (ok_ok all bytes is))
  ]
