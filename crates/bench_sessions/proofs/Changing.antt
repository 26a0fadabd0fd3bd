-- What stays of an engine over its changes.
use Rattle.std.proofs.Common.{◌≡◌, ◌∙◌, ℕ, List, refl, sym, subst}
use Rattle.std.specs.List.{Contains}
use Rattle.book_model.specs.Rows.{Row}
use Rattle.cell_store.specs.State.{Changes}
use Rattle.query_engine.specs.State.{State}
use Rattle.bench_sessions.specs.Staying.{Stays}

pub stays_same : (old new : State) → new ≡ old → Stays old new
stays_same old new same = subst (λ (s : State). Stays old s) (sym same) (record { book = refl; pins = refl; rows = λ s h. refl })

pub stays_changed : (old new : State) (rows : List Row) → new.book ≡ old.book → Changes old.store new.store rows → Stays old new
stays_changed old new rows book changes = record { book = book; pins = changes.pins; rows = changes.pinned }

pub stays_on : (a b c : State) → Stays a b → Stays b c → Stays a c
stays_on a b c first then = record {
  book = then.book ∙ first.book;
  pins = then.pins ∙ first.pins;
  rows = λ s h. then.rows s (subst (λ (ps : List ℕ). Contains ps s) (sym first.pins) h) ∙ first.rows s h;
}
