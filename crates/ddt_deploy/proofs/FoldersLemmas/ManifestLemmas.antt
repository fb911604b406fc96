-- Which line of a manifest is for which configuration.
use Rattle.std.proofs.Common.{◌≡◌, ◌≢◌, ◌⊎◌, ℕ, ◌<◌, ◌≤◌, Bool, true, false, cond, List, [], ◌∷◌, ◌++◌, map, length, take, drop, Option, None, Some, refl, sym, ap, subst, ◌∙◌, arith, inl, inr, IsTrue}
use denote.Ref.{Bor}
use Rattle.std.specs.Prelude.{codes, MatchOption, slice_range}
use Rattle.std.specs.Option.{SomeIff}
use Rattle.std.specs.Ordering.{nat_cmp}
use Rattle.std.specs.Cmp.Lexicographic.{slice_cmp, texts_ties}
use Rattle.std.specs.BTreeMap.{BTreeMap, get, is_at, IsOrdered, Updates}
use Rattle.std.proofs.lemmas.Bool.{true≢false}
use Rattle.std.proofs.lemmas.Cmp.{nat_list_cmp_total}
use Rattle.std.proofs.lemmas.Map.Entries.{btree_map_get_place, place_from_lookup}
use Rattle.std.proofs.lemmas.List.{length-append, length-drop, length-take-le, take-append-drop, append_cancel_left, append_cancel_right}
use Rattle.std.proofs.Math.Seq.{drop-append_seam, take-append_seam, take-length}
use Rattle.ddt_path.specs.Names.{is_name, is_same_name}
use Rattle.ddt_path.specs.laws.Cover.{same_path, path_itself}
use Rattle.ddt_path.specs.laws.Member.{IsIn, contained, in_contained, in_get, get_in}
use Rattle.ddt_deploy.specs.Folders.Manifest.{ListsConfig, NamesConfig, HasLine, lines_in, IsListedIn, IsListedAs, AreConfigsIn}

-- what stands from a place on
pub rest_of : (line : List ℕ) → slice_range line 64 (length line) ≡ drop 64 line
rest_of line = subst (λ (n : ℕ). take n (drop 64 line) ≡ drop 64 line) (length-drop 64 line) (take-length (drop 64 line))

-- ---- one line

behind_digits : (line name : List ℕ) → NamesConfig line name → drop 64 line ≡ codes "  " ++ (name ++ codes ".toml")
behind_digits line name h =
    let rest = codes "  " ++ (name ++ codes ".toml") in
    ap (drop 64) h.1.1 ∙ subst (λ (n : ℕ). drop n (h.0 ++ rest) ≡ rest) h.1.0 (drop-append_seam h.0 rest)

-- a line is for one configuration at most
pub one_name : (line n m : List ℕ) → NamesConfig line n → NamesConfig line m → n ≡ m
one_name line n m h k =
    append_cancel_right n m (codes ".toml") (append_cancel_left (codes "  ") (n ++ codes ".toml") (m ++ codes ".toml")
    (sym (behind_digits line n h) ∙ behind_digits line m k))

-- its digits are the first 64
pub its_digits : (line name digits : List ℕ) → ListsConfig line name digits → take 64 line ≡ digits
its_digits line name digits h =
    let rest = codes "  " ++ (name ++ codes ".toml") in
    ap (take 64) h.1 ∙ subst (λ (n : ℕ). take n (digits ++ rest) ≡ digits) h.0 (take-append_seam digits rest)

pub long_enough : (line name : List ℕ) → NamesConfig line name → 64 ≤ length line
long_enough line name h =
    omega (arith, h.1.0, ap length h.1.1, length-append h.0 (codes "  " ++ (name ++ codes ".toml")))

pub by_digits : (line name : List ℕ) → NamesConfig line name → ListsConfig line name (take 64 line)
by_digits line name h =
    subst (ListsConfig line name) (sym (its_digits line name h.0 h.1)) h.1

abbrev pub NamesNone : List ℕ → Type 0
NamesNone line = (name : List ℕ) → ¬ (NamesConfig line name)

pub too_short : (line : List ℕ) → length line < 64 → NamesNone line
too_short line short name h = omega (arith, short, long_enough line name h)

module _ (line behind : List ℕ) (is : behind ≡ drop 64 line) where
  pub no_blanks : ((rest : List ℕ) → behind ≢ codes "  " ++ rest) → NamesNone line
  no_blanks none name h = none (name ++ codes ".toml") (is ∙ behind_digits line name h)

  module _ (rest : List ℕ) (blanks : behind ≡ codes "  " ++ rest) where
    pub no_ending : ((front : List ℕ) → rest ≢ front ++ codes ".toml") → NamesNone line
    no_ending none name h =
        none name (append_cancel_left (codes "  ") rest (name ++ codes ".toml")
        (sym blanks ∙ is ∙ behind_digits line name h))

    module _ (name : List ℕ) (ending : rest ≡ name ++ codes ".toml") (long : 64 ≤ length line) where
      its_name : (n : List ℕ) → NamesConfig line n → n ≡ name
      its_name n h = append_cancel_right n name (codes ".toml")
          (sym (append_cancel_left (codes "  ") rest (n ++ codes ".toml") (sym blanks ∙ is ∙ behind_digits line n h))
          ∙ ending)

      named : IsTrue (is_name name) → NamesConfig line name
      named valid = (
        take 64 line,
        (
          length-take-le 64 line long,
          sym (take-append-drop 64 line) ∙ ap (λ (t : List ℕ). take 64 line ++ t)
              (sym is ∙ blanks ∙ ap (λ (t : List ℕ). codes "  " ++ t) ending),
          valid,
        ),
      )

      pub by_name : (found : Option (List ℕ)) → SomeIff found (IsTrue (is_name name)) name
          → MatchOption found (NamesNone line) (NamesConfig line)
      by_name None none = λ n h. none (subst (λ (m : List ℕ). IsTrue (is_name m)) (its_name n h) h.1.2)
      by_name (Some x) some = subst (NamesConfig line) (sym some.1) (named some.0)

-- ---- all lines

-- one of these lines is for the configuration
abbrev pub IsNamed : List (List ℕ) → List ℕ → Type 0
IsNamed lines name = (line : List ℕ) × IsIn line lines × NamesConfig line name

-- and has these digits
abbrev pub IsNamedAs : List (List ℕ) → List ℕ → List ℕ → Type 0
IsNamedAs lines name digits = (line : List ℕ) × IsIn line lines × ListsConfig line name digits

-- what is looked up is for one of these lines
abbrev pub IsOfLines : List (List ℕ) → List ℕ → Option (List ℕ) → Type 0
IsOfLines lines name found = MatchOption found (¬ (IsNamed lines name)) (IsNamedAs lines name)

in_more : {A : Type 0} (xs : List A) (y x : A) → IsIn x (xs ++ y ∷ []) → IsIn x xs ⊎ (x ≡ y)
in_more [] y x (inl e) = inr e
in_more [] y x (inr none) = absurd none
in_more (z ∷ xs) y x (inl e) = inl (inl e)
in_more (z ∷ xs) y x (inr later) = elim (in_more xs y x later) [ inl k ↦ inl (inr k) | inr e ↦ inr e ]

more_in : {A : Type 0} (xs : List A) (y x : A) → IsIn x xs ⊎ (x ≡ y) → IsIn x (xs ++ y ∷ [])
more_in [] y x (inl none) = absurd none
more_in [] y x (inr e) = inl e
more_in (z ∷ xs) y x (inl (inl e)) = inl e
more_in (z ∷ xs) y x (inl (inr k)) = inr (more_in xs y x (inl k))
more_in (z ∷ xs) y x (inr e) = inr (more_in xs y x (inr e))

module _ (lines : List (List ℕ)) (line name : List ℕ) where
  -- with one line more, which is for another configuration or for none
  same_found : (found : Option (List ℕ)) → ¬ (NamesConfig line name) → IsOfLines lines name found
      → IsOfLines (lines ++ line ∷ []) name found
  same_found None other none = λ f. elim (in_more lines line f.0 f.1) [
    | inl old ↦ none (f.0, old, f.2)
    | inr e ↦ other (subst (λ (l : List ℕ). NamesConfig l name) e f.2)
  ]
  same_found (Some digits) other f = (f.0, more_in lines line f.0 (inl f.1), f.2)

  more_found : (old new : List ℕ → Option (List ℕ)) → IsOfLines lines name (old name) → HasLine line old new
      → IsOfLines (lines ++ line ∷ []) name (new name)
  more_found old new before step = elim (step name) [
    | inl here ↦ subst (IsOfLines (lines ++ line ∷ []) name) (sym here.2)
        (line, more_in lines line line (inr refl), here.1)
    | inr other ↦ subst (IsOfLines (lines ++ line ∷ []) name) (sym other.1) (same_found (old name) other.0 before)
  ]

texts_more : (lines : List (Bor (List ℕ))) (line : Bor (List ℕ)) → map (λ (t : Bor (List ℕ)). t.now) (lines ++ line ∷ []) ≡ map (λ (t : Bor (List ℕ)). t.now) lines ++ line.now ∷ []
texts_more [] line = refl
texts_more (l ∷ lines) line = ap (λ (ls : List (List ℕ)). l.now ∷ ls) (texts_more lines line)

pub one_line_more : (old new : List ℕ → Option (List ℕ)) (lines : List (Bor (List ℕ))) (line : Bor (List ℕ))
    → ((name : List ℕ) → IsOfLines (map (λ (t : Bor (List ℕ)). t.now) lines) name (old name))
    → HasLine line.now old new
    → (name : List ℕ) → IsOfLines (map (λ (t : Bor (List ℕ)). t.now) (lines ++ line ∷ [])) name (new name)
one_line_more old new lines line before step name =
    subst (λ (ls : List (List ℕ)). IsOfLines ls name (new name)) (sym (texts_more lines line))
    (more_found (map (λ (t : Bor (List ℕ)). t.now) lines) line.now name old new (before name) step)

-- of all lines of a manifest
in_manifest : (manifest name : List ℕ) (found : Option (List ℕ)) → IsOfLines (lines_in manifest) name found
    → MatchOption found (¬ (IsListedIn manifest name)) (IsListedAs manifest name)
in_manifest manifest name None none = λ f. none (f.0, in_contained (lines_in manifest) f.0 f.1, f.2)
in_manifest manifest name (Some digits) f = (f.0, contained (lines_in manifest) f.0 f.1, f.2)

pub listed : (last : BTreeMap (List ℕ) (List ℕ)) (manifest : List ℕ) (lines : List (Bor (List ℕ)))
    → map (λ (t : Bor (List ℕ)). t.now) lines ≡ lines_in manifest
    → ((name : List ℕ) → IsOfLines (map (λ (t : Bor (List ℕ)). t.now) lines) name (get (slice_cmp nat_cmp) last name))
    → AreConfigsIn manifest last
listed last manifest lines all h name =
    let found = get (slice_cmp nat_cmp) last name in
    in_manifest manifest name found (subst (λ (ls : List (List ℕ)). IsOfLines ls name found) all (h name))

-- the name of a line is put in with the line's digits
pub line_put : (old new : BTreeMap (List ℕ) (List ℕ)) (line key digits : List ℕ) → NamesConfig line key
    → digits ≡ take 64 line → Updates (slice_cmp nat_cmp) old new key (Some digits)
    → HasLine line (get (slice_cmp nat_cmp) old) (get (slice_cmp nat_cmp) new)
line_put old new line key digits is first updates name = by_test (is_same_name key name) refl
  where
    at : get (slice_cmp nat_cmp) new name ≡ cond (is_same_name key name) (Some digits) (get (slice_cmp nat_cmp) old name)
    at = updates.0 name
        ∙ ap (λ (b : Bool). cond b (Some digits) (get (slice_cmp nat_cmp) old name)) (sym (texts_ties key name))

    by_test : (b : Bool) → is_same_name key name ≡ b
        → ((ds : List ℕ) × ListsConfig line name ds × (get (slice_cmp nat_cmp) new name ≡ Some ds))
        ⊎ ((¬ (NamesConfig line name)) × (get (slice_cmp nat_cmp) new name ≡ get (slice_cmp nat_cmp) old name))
    by_test true e = inl (
      digits,
      subst (ListsConfig line name) (sym first) (by_digits line name (subst (NamesConfig line) (same_path key name e) is)),
      at ∙ ap (λ (b : Bool). cond b (Some digits) (get (slice_cmp nat_cmp) old name)) e,
    )
    by_test false e = inr (
      λ h. true≢false (sym (path_itself key name (one_name line key name is h)) ∙ e),
      at ∙ ap (λ (b : Bool). cond b (Some digits) (get (slice_cmp nat_cmp) old name)) e,
    )

-- a line for no configuration adds none
pub line_passed : (old : List ℕ → Option (List ℕ)) (line : List ℕ) → NamesNone line → HasLine line old old
line_passed old line none name = inr (none name, refl)

-- ---- the entries of what is listed

pub entry_of : (last : BTreeMap (List ℕ) (List ℕ)) (name digits : List ℕ)
    → get (slice_cmp nat_cmp) last name ≡ Some digits → IsIn (name, digits) last.entries
entry_of last name digits e =
    let p = place_from_lookup (is_at (slice_cmp nat_cmp name)) last.entries digits e in
    subst (λ (n : List ℕ). IsIn (n, digits) last.entries) (sym (same_path name p.1 (texts_ties name p.1 ∙ p.3)))
    (in_get last.entries p.0 (p.1, digits) p.2)

pub found_at : (last : BTreeMap (List ℕ) (List ℕ)) → IsOrdered (slice_cmp nat_cmp) last → (entry : List ℕ × List ℕ)
    → IsIn entry last.entries → get (slice_cmp nat_cmp) last entry.0 ≡ Some entry.1
found_at last o entry k =
    let p = get_in last.entries entry k in
    btree_map_get_place nat_list_cmp_total last p.0 entry.0 entry.1 o p.2
