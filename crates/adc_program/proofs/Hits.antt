-- The lines of hits, by their places.
use Rattle.std.proofs.Common.{◌≡◌, ℕ, ◌<◌, List, [], length, map, take, get_or, sym, ap, ◌∙◌, arith}
use Rattle.std.proofs.lemmas.List.{length-map, take-map, get_or-map}
use Rattle.best_k.specs.declared.Pair.{Pair as Hit}
use Rattle.best_k.specs.Least.{key_of}
use Rattle.play_script.specs.Texts.{hit}
use Rattle.play_script.specs.Play.{hits}

pub length-hits : (all : List Hit) → length (hits (map key_of all)) ≡ length all
length-hits all = length-map (map key_of all) _ ∙ length-map all key_of

pub take-hits : (all : List Hit) (i : ℕ) → hits (map key_of (take i all)) ≡ take i (hits (map key_of all))
take-hits all i = ap hits (sym (take-map key_of i all)) ∙ sym (take-map _ i (map key_of all))

pub get_or-hits : (all : List Hit) (i : ℕ) (d : Hit) → i < length all → get_or (hits (map key_of all)) i [] ≡ hit (get_or all i d).id (get_or all i d).distance
get_or-hits all i d lt =
    get_or-map _ (map key_of all) i (key_of d) [] (omega (arith, length-map all key_of))
    ∙ ap (λ (pair : ℕ × ℕ). hit pair.1 pair.0) (get_or-map key_of all i d (key_of d) lt)
