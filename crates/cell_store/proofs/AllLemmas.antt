-- What follows from an answer.
pub use Rattle.std.proofs.lemmas.Result.{on_ok_weaker as ok_then}
use Rattle.cell_store.proofs.Words.{◌≡◌, true, false, Result, Ok, Err, OnOk, OnErr, is_err}

-- what holds anyway holds of either answer
pub on_err : {T E P : Type 0} (r : Result T E) → P → OnErr r P
on_err (Ok x) p = tt
on_err (Err e) p = p

-- and where the answer is known
pub err_gives : {T E P : Type 0} (r : Result T E) → is_err r ≡ true → OnErr r P → P
err_gives (Ok x) h p = absurd (let e : false ≡ true = h in cc)
err_gives (Err e) h p = p

pub ok_gives : {T E P : Type 0} (r : Result T E) → is_err r ≡ false → OnOk r P → P
ok_gives (Ok x) h p = p
ok_gives (Err e) h p = absurd (let e : true ≡ false = h in cc)
