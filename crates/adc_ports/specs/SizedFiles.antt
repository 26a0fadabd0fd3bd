-- Files in memory of which one has another length than its bytes.
use Rattle.std.specs.Prelude.{ℕ, List, refl}
use Rattle.std.specs.Coded.{Coded, code_by, coded×, coded_ℕ, coded_list}
use Rattle.adc_ports.specs.Kept.{NamedFiles, named_files_code}

-- the length that is answered for one name
pub record SizedFiles : Type 0 where
  pub files : NamedFiles
  pub name : List ℕ
  pub size : ℕ

-- they are stored as the pairs of their parts
abbrev pub sized_files_code : Coded SizedFiles
sized_files_code =
    code_by ((NamedFiles × List ℕ) × ℕ) (coded× (coded× named_files_code (coded_list coded_ℕ)) coded_ℕ)
    (λ s. ((s.files, s.name), s.size))
    (λ p. record { files = p.0.0; name = p.0.1; size = p.1 })
    (λ _. refl)
