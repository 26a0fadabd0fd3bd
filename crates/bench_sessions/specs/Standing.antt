-- Sessions that were opened at one stamp, and that can go on.
use Rattle.std.specs.Prelude.{◌≡◌, ℕ, List, length, replicate}
use Rattle.std.specs.List.{AllByRecursion}
use Rattle.query_engine.specs.State.{State}
use Rattle.query_sessions.specs.Standing.{CanGoOn}
use Rattle.bench_sessions.specs.declared.sessions.HeldSession.{HeldSession}

-- one of them
pub record IsOpen {S : Type 0} (widths : List ℕ) (engine : State) (stamp : ℕ) (held : HeldSession S) : Type 0 where
  pub stamp_is : held.session.stamp ≡ stamp
  pub can : CanGoOn widths engine held.session

-- all of them: the engine's pins are theirs
pub record AreOpen {S : Type 0} (widths : List ℕ) (engine : State) (stamp : ℕ) (held : List (HeldSession S)) : Type 0 where
  pub pins : engine.store.pins ≡ replicate (length held) stamp
  pub each : AllByRecursion (IsOpen widths engine stamp) held
