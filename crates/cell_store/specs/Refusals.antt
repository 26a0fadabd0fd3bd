-- When a call refuses.
use Rattle.std.specs.Prelude.{◌≡◌, ℕ, ◌+◌, ◌*◌, length, nat_le, nat_lt, if◌then◌else◌, Option, Some, None, Result, Ok, Err, ⊤}
use Rattle.book_model.specs.Rows.{has_id}
use Rattle.cell_store.specs.State.{Store, live_rows, needed_count, live_is_needed}
use Rattle.cell_store.specs.declared.PutRefusal.{PutRefusal}
use Rattle.cell_store.specs.declared.PutRefusal.TheVariants as put
use Rattle.cell_store.specs.declared.InsertRefusal.{InsertRefusal}
use Rattle.cell_store.specs.declared.InsertRefusal.TheVariants.{Present, Full, Held, Memory}

-- a call that refuses for this cause, if there is one, and else only where memory ran out
abbrev pub RefusesAs : {E T : Type 0} → Option E → E → Result T E → Type 0
RefusesAs None memory (Ok x) = ⊤
RefusesAs None memory (Err e) = e ≡ memory
RefusesAs (Some cause) memory (Ok x) = ⊥
RefusesAs (Some cause) memory (Err e) = e ≡ cause

-- the first cause for which an insert is refused
abbrev pub insert_refusal : Store → ℕ → Option InsertRefusal
insert_refusal store id = if has_id (live_rows store) id then Some Present
    else (if nat_le store.most (length (live_rows store)) then Some Full
    else (if nat_le (2 * store.most) (length (live_rows store) + needed_count store) then Some Held else None))

-- the first cause for which a put is refused
abbrev pub put_refusal : Store → ℕ → Option PutRefusal
put_refusal store id =
    if has_id (live_rows store) id
    then (if nat_lt (2 * store.most) (length (live_rows store) + (needed_count store + (if live_is_needed store id then 1 else 0))) then Some put.Held else None)
    else (if nat_le store.most (length (live_rows store)) then Some put.Full
    else (if nat_lt (2 * store.most) (length (live_rows store) + 1 + needed_count store) then Some put.Held else None))

-- the cause for a put where an insert of an id that is not live has one
abbrev pub as_put_refusal : InsertRefusal → PutRefusal
as_put_refusal Present = put.Full
as_put_refusal Full = put.Full
as_put_refusal Held = put.Held
as_put_refusal Memory = put.Memory
