-- What a map of texts keeps, by name.
use Rattle.std.proofs.Common.{◌≡◌, ℕ, Bool, true, false, cond, List, [], ◌∷◌, ◌++◌, map, Option, Some, refl, sym, ◌∙◌, ap, option_map, unwrap_or, take, IsSome, None, append-nil, Vec, String, string_bytes}
use Rattle.std.specs.Global.{Global}
use Rattle.std.specs.Ordering.{nat_cmp, is_eq}
use Rattle.std.specs.declared.cmp.Ordering.TheVariants.{Less, Equal, Greater}
use Rattle.std.specs.Cmp.{eq_by_cmp_equiv}
use Rattle.std.specs.Cmp.Lexicographic.{slice_cmp, nat_list_cmp_total}
use Rattle.std.specs.BTreeMap.{BTreeMap, get_by_text, is_at, UpdatesBy}
use Rattle.std.specs.Map.{lookup}
use Rattle.std.specs.String.{string_cmp}
use Rattle.std.specs.Str.{bytes_eq}
use Rattle.std.proofs.lemmas.Map.Text.{btree_map_updates_text, is_eq-slice_cmp}
use Rattle.std.specs.FinMap.{find, get_tied, get-from_entries, get-insert, same_map, slice_cmp-IsAntisymmetric, nat_cmp-IsAntisymmetric}
use Rattle.std.proofs.lemmas.Bool.{false_from_ne_true}
use Rattle.std.proofs.lemmas.Slice.Eq.{bytes_eq-Decides}
use Rattle.adc_ports.specs.Files.{bytes_of, OthersStay}
use Rattle.adc_ports.specs.Kept.{NamedFiles, files_of, with_file, with_appended, kept_files}

abbrev Kept : Type 0
Kept = BTreeMap (String Global) (Vec ℕ Global)

same_files : (m n : NamedFiles) → ((q : List ℕ) → files_of m q ≡ files_of n q) → m ≡ n
same_files = same_map nat_list_cmp_total (slice_cmp-IsAntisymmetric nat_cmp-IsAntisymmetric)

mapped : {A B : Type 0} (f : A → B) (b : Bool) (x : A) (o : Option A) (p : Option B) → p ≡ option_map f o → cond b (Some (f x)) p ≡ option_map f (cond b (Some x) o)
mapped f true x o p e = refl
mapped f false x o p e = e

found : (q : List ℕ) (es : List (String Global × Vec ℕ Global))
    → find (slice_cmp nat_cmp) q (map (λ e. (string_bytes e.0, e.1.items)) es)
    ≡ option_map (λ b. b.items) (lookup (is_at (λ k. slice_cmp nat_cmp q (string_bytes k))) es)
found q [] = refl
found q (e ∷ es) = mapped (λ b. b.items) (is_eq (slice_cmp nat_cmp q (string_bytes e.0))) e.1 _ _ (found q es)

-- the value answers at each name what the map does
pub kept_file : (kept : Kept) (q : List ℕ) → files_of (kept_files kept) q ≡ option_map (λ b. b.items) (get_by_text kept q)
kept_file kept q = get-from_entries nat_list_cmp_total _ q ∙ found q kept.entries

same_test : (q name : List ℕ) → bytes_eq name q ≡ is_eq (slice_cmp nat_cmp q name)
same_test q name = sym (is_eq-slice_cmp name q) ∙ (eq_by_cmp_equiv nat_list_cmp_total).symm name q

-- a map with new bytes at one name is the value with that file put
pub kept_with : (old new : Kept) (name : List ℕ) (bytes : Vec ℕ Global)
    → UpdatesBy string_cmp (λ k. slice_cmp nat_cmp name (string_bytes k)) old new (Some bytes)
    → kept_files new ≡ with_file (kept_files old) name bytes.items
kept_with old new name bytes updates =
    same_files _ _ (λ q.
    kept_file new q
    ∙ ap (option_map (λ b. b.items)) (btree_map_updates_text name old new (Some bytes) updates q)
    ∙ sym (mapped (λ b. b.items) (bytes_eq name q) bytes (get_by_text old q) (files_of (kept_files old) q) (kept_file old q))
    ∙ ap (λ b. cond b (Some bytes.items) (files_of (kept_files old) q)) (same_test q name)
    ∙ sym (get-insert nat_list_cmp_total (kept_files old) name bytes.items q))

-- to put a file as it is changes nothing
pub with_same_file : (files : NamedFiles) (name bytes : List ℕ) → files_of files name ≡ Some bytes → with_file files name bytes ≡ files
with_same_file files name bytes is =
    same_files _ _ (λ q. get-insert nat_list_cmp_total files name bytes q
    ∙ elim (slice_cmp nat_cmp q name) as (λ r. slice_cmp nat_cmp q name ≡ r → cond (is_eq r) (Some bytes) (files_of files q) ≡ files_of files q) [
      | Less ↦ λ _. refl
      | Equal ↦ λ e. sym is ∙ get_tied nat_list_cmp_total files q name e
      | Greater ↦ λ _. refl
    ] refl)

-- what the map holds at a name, in the words of its value
pub kept_some : (kept : Kept) (name : List ℕ) (bytes : Vec ℕ Global) → Some bytes ≡ get_by_text kept name → files_of (kept_files kept) name ≡ Some bytes.items
kept_some kept name bytes is = kept_file kept name ∙ ap (option_map (λ b. b.items)) (sym is)

-- a file that was put is there, and every other is as it was
pub with_file_is : (files : NamedFiles) (name bytes : List ℕ) → files_of (with_file files name bytes) name ≡ Some bytes
with_file_is files name bytes = get-insert nat_list_cmp_total files name bytes name
    ∙ ap (λ b. cond b (Some bytes) (files_of files name)) (sym (same_test name name) ∙ (bytes_eq-Decides name name).1 refl)

pub with_file_others : (files : NamedFiles) (name bytes : List ℕ) → OthersStay (files_of files) (files_of (with_file files name bytes)) name
with_file_others files name bytes other apart = get-insert nat_list_cmp_total files name bytes other
    ∙ ap (λ b. cond b (Some bytes) (files_of files other)) (sym (same_test other name) ∙ false_from_ne_true _ (λ e. apart (sym ((bytes_eq-Decides name other).0 e))))

-- a file to which nothing was added
pub as_before : (files : NamedFiles) (name bytes : List ℕ) → IsSome (files_of files name)
    → (n : ℕ) × (files_of files name ≡ Some (bytes_of (files_of files) name ++ take n bytes))
as_before files name bytes there = (
  0,
  elim (files_of files name) as (λ o. IsSome o → o ≡ Some (unwrap_or o [] ++ [])) [
    | None ↦ λ h. cc
    | Some xs ↦ λ _. ap Some (sym (append-nil xs))
  ] there,
)

-- to put a file twice is to put it once
pub with_file_twice : (files : NamedFiles) (name first bytes : List ℕ) → with_file (with_file files name first) name bytes ≡ with_file files name bytes
with_file_twice files name first bytes =
    same_files _ _ (λ q. get-insert nat_list_cmp_total (with_file files name first) name bytes q
    ∙ elim (is_eq (slice_cmp nat_cmp q name)) as (λ b. is_eq (slice_cmp nat_cmp q name) ≡ b → cond b (Some bytes) (files_of (with_file files name first) q) ≡ cond b (Some bytes) (files_of files q)) [
      | true ↦ λ _. refl
      | false ↦ λ e. get-insert nat_list_cmp_total files name first q ∙ ap (λ b. cond b (Some first) (files_of files q)) e
    ] refl
    ∙ sym (get-insert nat_list_cmp_total files name bytes q))

-- adding to a file that was just begun is adding to one that is not there
pub begun_appended : (files : NamedFiles) (name bytes : List ℕ) → files_of files name ≡ None
    → with_appended (with_file files name []) name bytes ≡ with_appended files name bytes
begun_appended files name bytes none =
    with_file_twice files name [] _
    ∙ ap (λ xs. with_file files name (xs ++ bytes))
    (ap (λ o. unwrap_or o []) (with_file_is files name []) ∙ sym (ap (λ o. unwrap_or o []) none))
