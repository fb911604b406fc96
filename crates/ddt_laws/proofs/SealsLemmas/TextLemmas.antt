-- A table without floats has one text.
use Rattle.std.proofs.Common.{◌≡◌, ℕ, Bool, true, false, List, [], ◌∷◌, ◌++◌, refl, sym, ◌∙◌}
use Rattle.std.specs.Prelude.{◌&&◌, if◌then◌else◌}
use Rattle.std.specs.List.{list_all}
use Rattle.std.proofs.lemmas.Bool.{and_parts, and_from, false≢true}
use Rattle.std.proofs.lemmas.List.Folds.{list_all-append}
use Rattle.toml.specs.Data.{Data, string, integer, float, boolean, datetime, array, table, Items, no_items, item, Members, no_members, member}
use Rattle.toml.specs.Tables.{Definition, key_value, std_table, array_table, Expression}
use Rattle.toml.specs.Text.{breaks_lines, IsValueText, IsItemsText, IsMembersText, IsLineText, IsLinesText, IsDocumentText, are_tables, is_section, pairs, header_of, needs_header, sections, section, elements, expressions}

-- ---- what has no float in it

abbrev mutual
  pub is_exact : Data → Bool
  is_exact (float x) = false
  is_exact (array ds) = are_items_exact ds
  is_exact (table ms) = are_members_exact ms
  is_exact _ = true

  pub are_items_exact : Items → Bool
  are_items_exact no_items = true
  are_items_exact (item d ds) = is_exact d && are_items_exact ds

  pub are_members_exact : Members → Bool
  are_members_exact no_members = true
  are_members_exact (member k d ms) = is_exact d && are_members_exact ms

-- a key of several parts
abbrev Key : Type 0
Key = List (List ℕ) × List ℕ

abbrev is_definition_exact : Definition → Bool
is_definition_exact (key_value d) = is_exact d
is_definition_exact std_table = true
is_definition_exact array_table = true

abbrev is_line_exact : Expression → Bool
is_line_exact e = is_definition_exact e.1

abbrev are_lines_exact : List Expression → Bool
are_lines_exact es = list_all is_line_exact es

-- ---- its text is one

module _ (pretty : Bool) where
  mutual
    one_value : (d : Data) → is_exact d ≡ true → (a b : List ℕ) → IsValueText pretty d a → IsValueText pretty d b → a ≡ b
    one_value (string s) e a b h k = h ∙ sym k
    one_value (integer z) e a b h k = h.0 ∙ sym k.0
    one_value (float x) e a b h k = absurd (false≢true e)
    one_value (boolean v) e a b h k = h ∙ sym k
    one_value (datetime dt) e a b h k = h ∙ sym k
    one_value (array ds) e a b h k = let rest = one_items (breaks_lines pretty ds) true ds e h.0 k.0 h.2 k.2 in cc (h.1, k.1)
    one_value (table ms) e a b h k = let rest = one_members true ms e h.0 k.0 h.2 k.2 in cc (h.1, k.1)

    one_items : (lines is_first : Bool) (ds : Items) → are_items_exact ds ≡ true → (a b : List ℕ)
        → IsItemsText pretty lines is_first ds a → IsItemsText pretty lines is_first ds b → a ≡ b
    one_items lines is_first no_items e a b h k = h ∙ sym k
    one_items lines is_first (item d ds) e a b h k =
        let p = and_parts (is_exact d) (are_items_exact ds) e in
        let this = one_value d p.0 h.0 k.0 h.3 k.3 in
        let rest = one_items lines false ds p.1 h.1 k.1 h.4 k.4 in
        cc (h.2, k.2)

    one_members : (is_first : Bool) (ms : Members) → are_members_exact ms ≡ true → (a b : List ℕ)
        → IsMembersText pretty is_first ms a → IsMembersText pretty is_first ms b → a ≡ b
    one_members is_first no_members e a b h k = h ∙ sym k
    one_members is_first (member key d ms) e a b h k =
        let p = and_parts (is_exact d) (are_members_exact ms) e in
        let this = one_value d p.0 h.0 k.0 h.3 k.3 in
        let rest = one_members false ms p.1 h.1 k.1 h.4 k.4 in
        cc (h.2, k.2)

  one_line : (started : Bool) (key : Key) (d : Definition) → is_definition_exact d ≡ true → (a b : List ℕ)
      → IsLineText pretty started key d a → IsLineText pretty started key d b → a ≡ b
  one_line started key (key_value d) e a b h k = let this = one_value d e h.0 k.0 h.2 k.2 in cc (h.1, k.1)
  one_line started key std_table e a b h k = h ∙ sym k
  one_line started key array_table e a b h k = h ∙ sym k

  one_text_of : (started : Bool) (es : List Expression) → are_lines_exact es ≡ true → (a b : List ℕ)
      → IsLinesText pretty started es a → IsLinesText pretty started es b → a ≡ b
  one_text_of started [] e a b h k = h ∙ sym k
  one_text_of started (x ∷ es) e a b h k =
      let p = and_parts (is_line_exact x) (are_lines_exact es) e in
      let this = one_line started x.0 x.1 p.0 h.0 k.0 h.3 k.3 in
      let rest = one_text_of true es p.1 h.1 k.1 h.4 k.4 in
      cc (h.2, k.2)

-- ---- the lines of a table

all_if : (b : Bool) (xs ys : List Expression) → are_lines_exact xs ≡ true → are_lines_exact ys ≡ true
    → are_lines_exact (if b then xs else ys) ≡ true
all_if true xs ys h k = h
all_if false xs ys h k = k

all_both : (xs ys : List Expression) → are_lines_exact xs ≡ true → are_lines_exact ys ≡ true → are_lines_exact (xs ++ ys) ≡ true
all_both xs ys h k = list_all-append is_line_exact xs ys ∙ and_from (are_lines_exact xs) (are_lines_exact ys) h k

exact_pairs : (ms : Members) → are_members_exact ms ≡ true → are_lines_exact (pairs ms) ≡ true
exact_pairs no_members e = refl
exact_pairs (member k d ms) e =
    let p = and_parts (is_exact d) (are_members_exact ms) e in
    let rest = exact_pairs ms p.1 in
    all_if (is_section d) (pairs ms) ((([], k), key_value d) ∷ pairs ms) rest
    (and_from (is_exact d) (are_lines_exact (pairs ms)) p.0 rest)

exact_header : (key : Key) (ms : Members) → are_lines_exact (header_of key ms) ≡ true
exact_header key ms = all_if (needs_header ms) ((key, std_table) ∷ []) [] refl refl

mutual
  exact_sections : (path : List (List ℕ)) (ms : Members) → are_members_exact ms ≡ true
      → are_lines_exact (sections path ms) ≡ true
  exact_sections path no_members e = refl
  exact_sections path (member k d ms) e =
      let p = and_parts (is_exact d) (are_members_exact ms) e in
      all_both (section (path, k) d) (sections path ms) (exact_section (path, k) d p.0) (exact_sections path ms p.1)

  exact_section : (key : Key) (d : Data) → is_exact d ≡ true → are_lines_exact (section key d) ≡ true
  exact_section key (string s) e = refl
  exact_section key (integer z) e = refl
  exact_section key (float x) e = refl
  exact_section key (boolean b) e = refl
  exact_section key (datetime dt) e = refl
  exact_section key (array ds) e = all_if (are_tables ds) (elements key ds) [] (exact_elements key ds e) refl
  exact_section key (table ms) e =
      all_both (header_of key ms) (pairs ms ++ sections (key.0 ++ key.1 ∷ []) ms) (exact_header key ms)
      (all_both (pairs ms) (sections (key.0 ++ key.1 ∷ []) ms) (exact_pairs ms e) (exact_sections (key.0 ++ key.1 ∷ []) ms e))

  exact_elements : (key : Key) (ds : Items) → are_items_exact ds ≡ true → are_lines_exact (elements key ds) ≡ true
  exact_elements key no_items e = refl
  exact_elements key (item (string s) ds) e = exact_elements key ds e
  exact_elements key (item (integer z) ds) e = exact_elements key ds e
  exact_elements key (item (float x) ds) e = absurd (false≢true e)
  exact_elements key (item (boolean b) ds) e = exact_elements key ds e
  exact_elements key (item (datetime dt) ds) e = exact_elements key ds e
  exact_elements key (item (array es) ds) e =
      exact_elements key ds (and_parts (are_items_exact es) (are_items_exact ds) e).1
  exact_elements key (item (table ms) ds) e =
      let p = and_parts (are_members_exact ms) (are_items_exact ds) e in
      all_both ((key, array_table) ∷ (pairs ms ++ sections (key.0 ++ key.1 ∷ []) ms)) (elements key ds)
      (all_both (pairs ms) (sections (key.0 ++ key.1 ∷ []) ms) (exact_pairs ms p.0)
      (exact_sections (key.0 ++ key.1 ∷ []) ms p.0)) (exact_elements key ds p.1)

pub one_text : (pretty : Bool) (ms : Members) → are_members_exact ms ≡ true → (a b : List ℕ)
    → IsDocumentText pretty ms a → IsDocumentText pretty ms b → a ≡ b
one_text pretty ms e a b h k =
    one_text_of pretty false (expressions ms)
    (all_both (pairs ms) (sections [] ms) (exact_pairs ms e) (exact_sections [] ms e)) a b h k
