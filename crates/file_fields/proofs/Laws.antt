-- The laws of fields.
use Rattle.std.proofs.Common.{ℕ, refl}
use Rattle.std.specs.Int.{Width}
use Rattle.file_fields.specs.Fields.{repeated}
use Rattle.file_fields.specs.Laws.{AreFields, FieldsFollow, FieldsRepeat}
use Rattle.file_fields.proofs.Closure.{then_field, many_field}
use Rattle.file_fields.proofs.Numbers.{IsWide, number_field, numbers_field, within_field, limited_field}

pub numbers_are_fields : (w : Width) (limit : ℕ) → IsWide w limit → AreFields w limit
numbers_are_fields w limit wide = record {
  number = number_field w limit wide;
  numbers = numbers_field w limit wide;
  within = within_field w limit wide;
  limited = λ what low high below. limited_field w limit wide low high below what;
}

pub fields_follow : (A B : Type 0) → FieldsFollow A B
fields_follow A B r s P q t Q part same first behind = then_field part first behind (λ a b is holds. same a b is holds)

pub fields_repeat : (A : Type 0) → FieldsRepeat A
fields_repeat A r s P n field = many_field (repeated r) (λ bytes at. refl) (λ m bytes at. refl) field n
