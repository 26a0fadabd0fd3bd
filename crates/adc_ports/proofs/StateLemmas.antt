-- One call after another on a shelf or a sink.
use Rattle.std.proofs.Common.{◌≡◌, ◌∙◌, ℕ, List, Option, None, Some, is_some, IfSome, arith, refl}
use Rattle.std.proofs.lemmas.Bool.{false≢true}
use Rattle.adc_ports.specs.Files.{Files, OthersStay}
use Rattle.adc_ports.specs.States.{ShelfState, SinkState, OnlyReads, OnlyWrites, OnlyPuts}

pub reads_none : (a : ShelfState) → OnlyReads a a
reads_none a = record { files = refl; writes = refl; reads = omega arith }

pub reads_on : (a b c : ShelfState) → OnlyReads a b → OnlyReads b c → OnlyReads a c
reads_on a b c p q = record { files = q.files ∙ p.files; writes = q.writes ∙ p.writes; reads = omega arith }

pub puts_none : (a : SinkState) → OnlyPuts a a
puts_none a = record { told = refl; faults = omega arith }

pub puts_on : (a b c : SinkState) → OnlyPuts a b → OnlyPuts b c → OnlyPuts a c
puts_on a b c p q = record { told = q.told ∙ p.told; faults = omega arith }

pub writes_none : (name : List ℕ) (a : ShelfState) → OnlyWrites name a a
writes_none name a = record { told = refl; others = same a.files; reads = refl; writes = omega arith }
  where
    same : (o : Option Files) → IfSome o (λ before. IfSome o (λ after. OthersStay before after name))
    same None = tt
    same (Some f) = λ other apart. refl

-- two writes of one file are one
pub writes_on : (name : List ℕ) (a b c : ShelfState) → OnlyWrites name a b → OnlyWrites name b c → OnlyWrites name a c
writes_on name a b c p q = record {
  told = q.told ∙ p.told;
  others = both a.files b.files c.files p.told p.others q.others;
  reads = q.reads ∙ p.reads;
  writes = omega arith;
}
  where
    both : (x y z : Option Files) → is_some y ≡ is_some x
        → IfSome x (λ before. IfSome y (λ after. OthersStay before after name))
        → IfSome y (λ before. IfSome z (λ after. OthersStay before after name))
        → IfSome x (λ before. IfSome z (λ after. OthersStay before after name))
    both None y z told first next = tt
    both (Some f) None z told first next = absurd (false≢true told)
    both (Some f) (Some g) None told first next = tt
    both (Some f) (Some g) (Some h) told first next = λ other apart. next other apart ∙ first other apart
