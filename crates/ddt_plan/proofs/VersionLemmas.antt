-- The configurations of groups, as a loop puts them by their names, and the changes that are read off them.
use Rattle.std.proofs.Common.{◌≡◌, ℕ, Bool, true, false, cond, List, [], ◌∷◌, ◌++◌, map, find, Option, Some, None, Less, refl, sym, ap, ap₂, subst, ◌∙◌, inl, inr}
use Rattle.std.specs.List.{filter_map, cons_option, AllByRecursion}
use Rattle.std.specs.List.Sorted.{IsStrictlySortedBy}
use Rattle.std.specs.Option.{option_map, option_or}
use Rattle.std.specs.Ordering.{nat_cmp}
use Rattle.std.specs.Cmp.Lexicographic.{slice_cmp, texts_ties, nat_list_cmp_total}
use Rattle.std.specs.BTreeMap.{BTreeMap, get, Updates, IsOrdered, is_at}
use Rattle.std.specs.Map.{keys_of}
use Rattle.std.proofs.lemmas.Bool.{cond-true, cond-false}
use Rattle.std.proofs.lemmas.Option.{same_Some, none-some}
use Rattle.std.proofs.lemmas.List.Folds.{find-append}
use Rattle.std.proofs.lemmas.Map.Entries.{place_from_lookup, btree_map_get_place}
use Rattle.ddt_path.specs.Names.{is_same_name}
use Rattle.ddt_path.specs.laws.Cover.{same_path}
use Rattle.ddt_path.specs.laws.Member.{IsIn, in_contained, contained, in_get, get_in}
use Rattle.ddt_register.specs.declared.group.Group.{Group}
use Rattle.ddt_register.specs.declared.register.Register.{Register}
use Rattle.ddt_config.specs.declared.config.ServerConfig.{ServerConfig}
use Rattle.ddt_config.specs.Table.{Outline, outline}
use Rattle.ddt_compile.specs.GroupConfig.{group_config}
use Rattle.ddt_plan.specs.declared.groups.GroupChange.{GroupChange}
use Rattle.ddt_plan.specs.declared.groups.GroupChangeKind.{GroupChangeKind}
use Rattle.ddt_plan.specs.declared.versions.Versions.{Versions}
use Rattle.ddt_plan.specs.declared.versions.Versions.TheVariants.{Before, After, Both}
use Rattle.ddt_plan.specs.declared.versions.Which.{Which}
use Rattle.ddt_plan.specs.declared.versions.Which.TheVariants.{Earlier, Later}
use Rattle.ddt_plan.specs.Groups.{change_of_config, change_of_group, AreGroupChanges}
use Rattle.ddt_plan.specs.Versions.{earlier, later, kind_of, joined, joined_if, HasPut, AreVersions}

-- ---- a configuration by its name

abbrev named : List ℕ → ServerConfig → Bool
named name c = is_same_name c.name name

abbrev pub found : List ServerConfig → List ℕ → Option ServerConfig
found cs name = find (named name) cs

config_case : (name : List ℕ) (r : Register) (c : ServerConfig) (g : Group) (cs : Option ServerConfig)
    (gs : Option Group) → outline c ≡ group_config r g → option_map outline cs ≡ option_map (group_config r) gs
    → (b : Bool) → option_map outline (cond b (Some c) cs) ≡ option_map (group_config r) (cond b (Some g) gs)
config_case name r c g cs gs one rest true = ap (λ (o : Outline). Some o) one
config_case name r c g cs gs one rest false = rest

-- what a name finds among the compiled configurations is the configuration of its group
pub found_config : (r : Register) (name : List ℕ) (cs : List ServerConfig) (gs : List Group)
    → map outline cs ≡ map (group_config r) gs
    → option_map outline (found cs name) ≡ option_map (group_config r)
    (find (λ (g : Group). is_same_name g.name name) gs)
found_config r name [] [] e = refl
found_config r name [] (g ∷ gs) e = absurd cc
found_config r name (c ∷ cs) [] e = absurd cc
found_config r name (c ∷ cs) (g ∷ gs) e =
    let one : outline c ≡ group_config r g = cc in
    let rest : map outline cs ≡ map (group_config r) gs = cc in
    let names : c.name ≡ g.name = ap (λ (o : Outline). o.name) one in
    config_case name r c g (found cs name) (find (λ (h : Group). is_same_name h.name name) gs) one
    (found_config r name cs gs rest) (is_same_name c.name name)
    ∙ ap (λ (n : List ℕ). option_map (group_config r)
    (cond (is_same_name n name) (Some g) (find (λ (h : Group). is_same_name h.name name) gs))) names

-- ---- a loop's step

joined_again : (which : Which) (known : Option Versions) (c d : ServerConfig)
    → joined which (Some (joined which known c)) d ≡ joined which known c
joined_again Earlier None c d = refl
joined_again Later None c d = refl
joined_again Later (Some (Before b)) c d = refl
joined_again Earlier (Some (Before b)) c d = refl
joined_again Earlier (Some (After b)) c d = refl
joined_again Later (Some (After b)) c d = refl
joined_again Earlier (Some (Both b e)) c d = refl
joined_again Later (Some (Both b e)) c d = refl

joined_next : (which : Which) (known : Option Versions) (config : Option ServerConfig) (d : ServerConfig)
    → Some (joined which (joined_if which known config) d) ≡ joined_if which known (option_or config (Some d))
joined_next which known None d = refl
joined_next which known (Some c) d = ap (λ (v : Versions). Some v) (joined_again which known c d)

module _ (which : Which) (first old mid new : BTreeMap (List ℕ) Versions) (ys : List ServerConfig) (c : ServerConfig)
    (before : (name : List ℕ)
    → get (slice_cmp nat_cmp) old name ≡ joined_if which (get (slice_cmp nat_cmp) first name) (found ys name))
    (known : Option Versions) (was : known ≡ get (slice_cmp nat_cmp) old c.name)
    (taken : Updates (slice_cmp nat_cmp) old mid c.name None)
    (put : Updates (slice_cmp nat_cmp) mid new c.name (Some (joined which known c))) where
  found_more : (name : List ℕ)
      → found (ys ++ c ∷ []) name ≡ option_or (found ys name) (cond (named name c) (Some c) None)
  found_more name = find-append (named name) ys (c ∷ [])

  updated : (w : Option Versions) (m n : BTreeMap (List ℕ) Versions) → Updates (slice_cmp nat_cmp) m n c.name w
      → (name : List ℕ) → get (slice_cmp nat_cmp) n name ≡ cond (named name c) w (get (slice_cmp nat_cmp) m name)
  updated w m n h name = h.0 name
      ∙ ap (λ (b : Bool). cond b w (get (slice_cmp nat_cmp) m name)) (sym (texts_ties c.name name))

  or_none : (o : Option ServerConfig) → option_or o None ≡ o
  or_none None = refl
  or_none (Some d) = refl

  pub put_one : (name : List ℕ)
      → get (slice_cmp nat_cmp) new name ≡ joined_if which (get (slice_cmp nat_cmp) first name)
      (found (ys ++ c ∷ []) name)
  put_one name = by_name (named name c) refl
    where
      by_name : (b : Bool) → named name c ≡ b
          → get (slice_cmp nat_cmp) new name ≡ joined_if which (get (slice_cmp nat_cmp) first name)
          (found (ys ++ c ∷ []) name)
      by_name true e =
          let here : known ≡ joined_if which (get (slice_cmp nat_cmp) first name) (found ys name) =
          was ∙ ap (get (slice_cmp nat_cmp) old) (same_path c.name name e) ∙ before name in
          updated (Some (joined which known c)) mid new put name
          ∙ cond-true (named name c) (Some (joined which known c)) (get (slice_cmp nat_cmp) mid name) e
          ∙ ap (λ (o : Option Versions). Some (joined which o c)) here
          ∙ joined_next which (get (slice_cmp nat_cmp) first name) (found ys name) c
          ∙ ap (λ (o : Option ServerConfig). joined_if which (get (slice_cmp nat_cmp) first name) o)
          (sym (found_more name ∙ ap (option_or (found ys name)) (cond-true (named name c) (Some c) None e)))
      by_name false e =
          updated (Some (joined which known c)) mid new put name
          ∙ cond-false (named name c) (Some (joined which known c)) (get (slice_cmp nat_cmp) mid name) e
          ∙ updated None old mid taken name
          ∙ cond-false (named name c) None (get (slice_cmp nat_cmp) old name) e
          ∙ before name
          ∙ ap (λ (o : Option ServerConfig). joined_if which (get (slice_cmp nat_cmp) first name) o)
          (sym (found_more name ∙ ap (option_or (found ys name)) (cond-false (named name c) (Some c) None e)
          ∙ or_none (found ys name)))

-- ---- both registers

both_earlier : (config other : Option ServerConfig)
    → earlier (joined_if Later (joined_if Earlier None config) other) ≡ option_map outline config
both_earlier None None = refl
both_earlier None (Some d) = refl
both_earlier (Some c) None = refl
both_earlier (Some c) (Some d) = refl

both_later : (config other : Option ServerConfig)
    → later (joined_if Later (joined_if Earlier None config) other) ≡ option_map outline other
both_later None None = refl
both_later None (Some d) = refl
both_later (Some c) None = refl
both_later (Some c) (Some d) = refl

pub are_versions : (r s : Register) (empty one two : BTreeMap (List ℕ) Versions)
    → ((name : List ℕ) → get (slice_cmp nat_cmp) empty name ≡ None) → HasPut Earlier r empty one
    → HasPut Later s one two → AreVersions r s two
are_versions r s empty one two none p q =
    let there : (name : List ℕ)
    → get (slice_cmp nat_cmp) two name ≡ joined_if Later (joined_if Earlier None (p name).0) (q name).0 =
    λ name. (q name).2
    ∙ ap (λ (o : Option Versions). joined_if Later o (q name).0)
    ((p name).2 ∙ ap (λ (o : Option Versions). joined_if Earlier o (p name).0) (none name)) in
    record {
      before = λ name. ap earlier (there name) ∙ both_earlier (p name).0 (q name).0 ∙ (p name).1;
      after = λ name. ap later (there name) ∙ both_later (p name).0 (q name).0 ∙ (q name).1;
    }

-- ---- the changes

abbrev pub told : List ℕ × Versions → Option GroupChange
told e = option_map (λ kind. record { name = e.0; kind = kind }) (kind_of e.1)

told_case : (name : List ℕ) (c : GroupChange) (kind : Option GroupChangeKind)
    → option_map (λ k. record { name = name; kind = k }) kind ≡ Some c → (name ≡ c.name) × (kind ≡ Some c.kind)
told_case name c None e = absurd (none-some c e)
told_case name c (Some k) e =
    let same : record { name = name; kind = k } ≡ c = same_Some (record { name = name; kind = k }) c e in
    (ap (λ (d : GroupChange). d.name) same, ap (λ (d : GroupChange). Some d.kind) same)

-- what is kept of a list by a function
module _ {A B : Type 0} (f : A → Option B) where
  kept_case : (x : A) (xs : List A) (y : B) (o : Option B) → f x ≡ o
      → (IsIn y (filter_map f xs) → (z : A) × IsIn z xs × (f z ≡ Some y)) → IsIn y (cons_option o (filter_map f xs))
      → (z : A) × IsIn z (x ∷ xs) × (f z ≡ Some y)
  kept_case x xs y None e ih k = let p = ih k in (p.0, inr p.1, p.2)
  kept_case x xs y (Some w) e ih (inl one) = (x, inl refl, e ∙ ap (λ (v : B). Some v) (sym one))
  kept_case x xs y (Some w) e ih (inr later) = let p = ih later in (p.0, inr p.1, p.2)

  pub from_kept : (xs : List A) (y : B) → IsIn y (filter_map f xs) → (x : A) × IsIn x xs × (f x ≡ Some y)
  from_kept [] y k = absurd k
  from_kept (x ∷ xs) y k = kept_case x xs y (f x) refl (from_kept xs y) k

  kept_later : (o : Option B) (ys : List B) (y : B) → IsIn y ys → IsIn y (cons_option o ys)
  kept_later None ys y k = k
  kept_later (Some w) ys y k = inr k

  pub is_kept : (xs : List A) (x : A) (y : B) → IsIn x xs → f x ≡ Some y → IsIn y (filter_map f xs)
  is_kept [] x y k e = absurd k
  is_kept (w ∷ xs) x y (inl one) e = subst (λ (o : Option B). IsIn y (cons_option o (filter_map f xs)))
      (sym (ap f (sym one) ∙ e)) (inl refl)
  is_kept (w ∷ xs) x y (inr later) e = kept_later (f w) (filter_map f xs) y (is_kept xs x y later e)

abbrev names : List GroupChange → List (List ℕ)
names changes = map (λ (c : GroupChange). c.name) changes

names_case : (P : List ℕ → Type 0) (e : List ℕ × Versions) (o : Option GroupChange) (cs : List GroupChange) → told e ≡ o
    → P e.0 → AllByRecursion P (names cs) → AllByRecursion P (names (cons_option o cs))
names_case P e None cs is p ps = ps
names_case P e (Some c) cs is p ps = (subst P (told_case e.0 c (kind_of e.1) is).0 p, ps)

names_told : (P : List ℕ → Type 0) (es : List (List ℕ × Versions)) → AllByRecursion P (keys_of es)
    → AllByRecursion P (names (filter_map told es))
names_told P [] h = tt
names_told P (e ∷ es) h = names_case P e (told e) (filter_map told es) refl h.0 (names_told P es h.1)

sorted_case : (e : List ℕ × Versions) (o : Option GroupChange) (cs : List GroupChange) → told e ≡ o
    → AllByRecursion (λ (n : List ℕ). slice_cmp nat_cmp e.0 n ≡ Less) (names cs)
    → IsStrictlySortedBy (slice_cmp nat_cmp) (names cs)
    → IsStrictlySortedBy (slice_cmp nat_cmp) (names (cons_option o cs))
unfolding IsStrictlySortedBy
sorted_case e None cs is below sorted = sorted
sorted_case e (Some c) cs is below sorted = (
  subst (λ (m : List ℕ). AllByRecursion (λ (n : List ℕ). slice_cmp nat_cmp m n ≡ Less) (names cs))
      (told_case e.0 c (kind_of e.1) is).0 below,
  sorted,
)

names_sorted : (es : List (List ℕ × Versions)) → IsStrictlySortedBy (slice_cmp nat_cmp) (keys_of es)
    → IsStrictlySortedBy (slice_cmp nat_cmp) (names (filter_map told es))
unfolding IsStrictlySortedBy
names_sorted [] h = tt
names_sorted (e ∷ es) h = sorted_case e (told e) (filter_map told es) refl
    (names_told (λ (n : List ℕ). slice_cmp nat_cmp e.0 n ≡ Less) es h.0) (names_sorted es h.1)

module _ (r s : Register) (m : BTreeMap (List ℕ) Versions) (ordered : IsOrdered (slice_cmp nat_cmp) m)
    (versions : AreVersions r s m) where
  change_at : (name : List ℕ) (known : Option Versions) → get (slice_cmp nat_cmp) m name ≡ known
      → change_of_config (earlier known) (later known) ≡ change_of_group r s name
  change_at name known e =
      ap₂ change_of_config (ap earlier (sym e) ∙ versions.before name) (ap later (sym e) ∙ versions.after name)

  entry_kept : (e : List ℕ × Versions) → IsIn e m.entries → get (slice_cmp nat_cmp) m e.0 ≡ Some e.1
  entry_kept e k = let p = get_in m.entries e k in btree_map_get_place nat_list_cmp_total m p.0 e.0 e.1 ordered p.2

  listed_changes : (c : GroupChange) → IsIn c (filter_map told m.entries) → change_of_group r s c.name ≡ Some c.kind
  listed_changes c k =
      let p = from_kept told m.entries c k in
      let q = told_case p.0.0 c (kind_of p.0.1) p.2 in
      ap (change_of_group r s) (sym q.0) ∙ sym (change_at p.0.0 (Some p.0.1) (entry_kept p.0 p.1)) ∙ q.1

  change_listed : (c : GroupChange) (known : Option Versions) → get (slice_cmp nat_cmp) m c.name ≡ known
      → change_of_config (earlier known) (later known) ≡ Some c.kind → IsIn c (filter_map told m.entries)
  change_listed c None e change = absurd (none-some c.kind change)
  change_listed c (Some v) e change =
      let p = place_from_lookup (is_at (slice_cmp nat_cmp c.name)) m.entries v e in
      let name : c.name ≡ p.1 = same_path c.name p.1 (texts_ties c.name p.1 ∙ p.3) in
      let is : told (p.1, v) ≡ Some c =
      ap₂ (λ (n : List ℕ) (kind : Option GroupChangeKind).
      option_map (λ k. let d : GroupChange = record { name = n; kind = k } in d) kind) (sym name) change in
      is_kept told m.entries (p.1, v) c (in_get m.entries p.0 (p.1, v) p.2) is

  pub changes_are : AreGroupChanges r s (filter_map told m.entries)
  changes_are = record {
    exact = λ c. (
      λ k. listed_changes c (in_contained (filter_map told m.entries) c k),
      λ e. contained (filter_map told m.entries) c
          (change_listed c (get (slice_cmp nat_cmp) m c.name) refl
          (change_at c.name (get (slice_cmp nat_cmp) m c.name) refl ∙ e)),
    );
    in_order = names_sorted m.entries ordered;
  }
