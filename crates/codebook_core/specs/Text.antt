-- The spelling of a book from its parts.
use Rattle.std.specs.Prelude.{ℕ, List, [], ◌∷◌, ◌++◌}
use Rattle.std.specs.Int.{w8, w16}
use Rattle.codebook_core.specs.declared.parts.Parts.{Parts}
use Rattle.codebook_core.specs.Spelling.{spelled, magic_of, scale_text, component_width}

-- the sizes, the number of the shape and g
abbrev pub sizes_text : ℕ → Parts → List ℕ
sizes_text number parts = spelled w16 (parts.front.d ∷ parts.front.h ∷ parts.front.k0 ∷ parts.front.k1 ∷ []) ++ spelled w8 (number ∷ parts.g ∷ [])

-- all fields
unfoldable pub parts_text : ℕ → Parts → List ℕ
parts_text number parts = magic_of parts.front.version ++ sizes_text number parts ++ scale_text parts.front.version parts.scale ++ spelled w16 parts.lengths.items
    ++ spelled (component_width parts.front.version) parts.coarse0.items
    ++ spelled (component_width parts.front.version) parts.coarse1.items
    ++ spelled (component_width parts.front.version) parts.words.items
