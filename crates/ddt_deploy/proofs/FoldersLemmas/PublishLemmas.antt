-- What a folder has once its plan was carried out.
use Rattle.std.proofs.Common.{◌≡◌, ◌≢◌, ◌⊎◌, ℕ, ◌<◌, Bool, true, false, cond, List, [], ◌∷◌, ◌++◌, map, Option, None, Some, refl, sym, ap, ap₂, subst, ◌∙◌, inl, inr}
use Rattle.std.specs.Prelude.{not, is_some, Contains, IsSomeAnd, IsTrue, MatchOption}
use Rattle.std.specs.Option.{option_map}
use Rattle.std.specs.Ordering.{nat_cmp}
use Rattle.std.specs.BTreeMap.{BTreeMap, get}
use Rattle.std.specs.List.{filter, flat_map, list_any}
use Rattle.std.specs.Cmp.Lexicographic.{nat_list_eq_equiv, slice_cmp}
use Rattle.std.proofs.lemmas.Bool.{and_parts, and_from, not-true, not_from_false, false_from_ne_true, true≢false}
use Rattle.std.proofs.lemmas.Option.{same_Some}
use Rattle.std.proofs.lemmas.Slice.Eq.{bytes_eq-Decides}
use Rattle.std.proofs.lemmas.List.Sorted.{IsPermutation-sym}
use Rattle.ddt_register.specs.declared.group.Group.{Group}
use Rattle.ddt_register.specs.declared.register.Register.{Register}
use Rattle.ddt_register.specs.laws.RowOrder.{Rising, groups_up}
use Rattle.ddt_path.specs.Names.{is_same_name}
use Rattle.ddt_path.specs.laws.Cover.{same_path}
use Rattle.ddt_path.specs.laws.Member.{IsIn, contained, in_contained, in_map, map_in, moved_in, none_of, fails_at, unfound}
use Rattle.ddt_check.specs.Rules.{IsAccepted}
use Rattle.ddt_check.specs.laws.Kept.{own_name}
use Rattle.ddt_config.specs.declared.config.ServerConfig.{ServerConfig}
use Rattle.ddt_config.specs.Shaped.{no_two}
use Rattle.ddt_config.specs.Table.{Outline, outline}
use Rattle.ddt_config.specs.laws.Neighbour.{no_two-IsPermutation, no_two-map}
use Rattle.ddt_compile.specs.GroupConfig.{group_config}
use Rattle.ddt_deploy.specs.declared.folders.file_name.FileName.{FileName}
use Rattle.ddt_deploy.specs.declared.folders.file_name.FileName.TheVariants.{Register as OfRegister, Config, Manifest}
use Rattle.ddt_deploy.specs.declared.folders.step.NamedFile.{NamedFile}
use Rattle.ddt_deploy.specs.declared.folders.step.ListedConfig.{ListedConfig}
use Rattle.ddt_deploy.specs.declared.folders.plan.Plan.{Plan}
use Rattle.ddt_deploy.specs.Folders.Names.{is_same_file}
use Rattle.ddt_deploy.specs.Folders.Contents.{Contents}
use Rattle.ddt_deploy.specs.Folders.Steps.{after}
use Rattle.ddt_deploy.specs.Folders.Manifest.{digits_of, manifest_text, kept_line, IsListedIn, IsListedAs}
use Rattle.ddt_deploy.specs.Folders.Wanted.{register_file, IsOrderedConfigText, IsConfigFile, AreConfigFiles, our_groups, our_group, AreGroupFiles, last_manifest, IsGone, is_as_listed, listed_of, gone_if, gone_for, altered_if, altered_for, AreGoneFiles, steps_for, removals, left_of, manifest_file}
use Rattle.ddt_deploy.specs.Folders.Plans.{IsPlan}
use Rattle.ddt_deploy.specs.Folders.Laws.{IsAltered, IsAsListed, IsRemovable, IsPublished, PlansPublish}
use Rattle.ddt_deploy.proofs.FoldersLemmas.ManifestLemmas.{entry_of, found_at}
use Rattle.ddt_deploy.proofs.FoldersLemmas.AfterLemmas.{Apart, at_end, at_both, after_at, its_own, others_leave, removes_each, removed_none, removed_one, removed_others}

-- ---- lists

in_front : {A : Type 0} (xs ys : List A) (x : A) → IsIn x xs → IsIn x (xs ++ ys)
in_front [] ys x k = absurd k
in_front (z ∷ xs) ys x (inl e) = inl e
in_front (z ∷ xs) ys x (inr k) = inr (in_front xs ys x k)

in_either : {A : Type 0} (xs ys : List A) (x : A) → IsIn x (xs ++ ys) → IsIn x xs ⊎ IsIn x ys
in_either [] ys x k = inr k
in_either (z ∷ xs) ys x (inl e) = inl (inl e)
in_either (z ∷ xs) ys x (inr k) = elim (in_either xs ys x k) [ inl j ↦ inl (inr j) | inr j ↦ inr j ]

in_behind : {A : Type 0} (xs ys : List A) (x : A) → IsIn x ys → IsIn x (xs ++ ys)
in_behind [] ys x k = k
in_behind (z ∷ xs) ys x k = inr (in_behind xs ys x k)

in_flat : {A B : Type 0} (f : A → List B) (xs : List A) (y : B) → IsIn y (flat_map f xs) → (x : A) × IsIn x xs × IsIn y (f x)
in_flat f [] y k = absurd k
in_flat f (x ∷ xs) y k = elim (in_either (f x) (flat_map f xs) y k) [
  | inl here ↦ (x, inl refl, here)
  | inr later ↦ let p = in_flat f xs y later in (p.0, inr p.1, p.2)
]

flat_in : {A B : Type 0} (f : A → List B) (xs : List A) (x : A) (y : B) → IsIn x xs → IsIn y (f x) → IsIn y (flat_map f xs)
flat_in f [] x y k j = absurd k
flat_in f (z ∷ xs) x y (inl e) j = in_front (f z) (flat_map f xs) y (subst (λ (w : _). IsIn y (f w)) e j)
flat_in f (z ∷ xs) x y (inr k) j = in_behind (f z) (flat_map f xs) y (flat_in f xs x y k j)

-- ---- the files of configurations

file_of : (cs : List ServerConfig) (files : List NamedFile) → AreConfigFiles cs files → (f : NamedFile) → IsIn f files
    → (c : ServerConfig) × IsIn c cs × IsConfigFile c f
file_of [] [] h f k = absurd k
file_of [] (g ∷ files) h f k = absurd h
file_of (c ∷ cs) [] h f k = absurd k
file_of (c ∷ cs) (g ∷ files) h f (inl e) = (c, inl refl, subst (IsConfigFile c) (sym e) h.0)
file_of (c ∷ cs) (g ∷ files) h f (inr k) = let p = file_of cs files h.1 f k in (p.0, inr p.1, p.2)

config_file_of : (cs : List ServerConfig) (files : List NamedFile) → AreConfigFiles cs files → (c : ServerConfig) → IsIn c cs
    → (f : NamedFile) × IsIn f files × IsConfigFile c f
config_file_of [] [] h c k = absurd k
config_file_of [] (g ∷ files) h c k = absurd h
config_file_of (d ∷ cs) [] h c k = absurd h
config_file_of (d ∷ cs) (g ∷ files) h c (inl e) =
    (g, inl refl, subst (λ (x : ServerConfig). IsConfigFile x g) (sym e) h.0)
config_file_of (d ∷ cs) (g ∷ files) h c (inr k) = let p = config_file_of cs files h.1 c k in (p.0, inr p.1, p.2)

files_apart : (cs : List ServerConfig) (files : List NamedFile) → AreConfigFiles cs files
    → no_two (λ (c d : ServerConfig). is_same_name c.name d.name) cs ≡ true → Apart files
files_apart [] [] h e = tt
files_apart [] (g ∷ files) h e = absurd h
files_apart (c ∷ cs) [] h e = tt
files_apart (c ∷ cs) (f ∷ files) h e =
    let same = λ (x y : ServerConfig). is_same_name x.name y.name in
    let p = and_parts (not (list_any (same c) cs)) (no_two same cs) e in (
      λ g k.
          let d = file_of cs files h.1 g k in
          ap₂ is_same_file h.0.0 d.2.0 ∙ fails_at (same c) cs d.0 (not-true (list_any (same c) cs) p.0) d.1,
      files_apart cs files h.1 p.1,
    )

-- ---- the groups

groups_apart : (gs : List Group) → Rising (λ (g : Group). g.row) gs
    → ((g h : Group) → IsIn g gs → IsIn h gs → g.row < h.row → is_same_name g.name h.name ≡ false)
    → no_two (λ (g h : Group). is_same_name g.name h.name) gs ≡ true
groups_apart [] up own = refl
groups_apart (g ∷ gs) up own =
    let same = λ (x y : Group). is_same_name x.name y.name in
    and_from (not (list_any (same g) gs)) (no_two same gs)
    (not_from_false (list_any (same g) gs) (none_of (same g) gs (λ h k. own g h (inl refl) (inr k) (up.0 h k))))
    (groups_apart gs up.1 (λ x y j k. own x y (inr j) (inr k)))

-- a filter keeps no two alike where there were none
filter_in : {A : Type 0} (keeps : A → Bool) (xs : List A) (x : A) → IsIn x (filter keeps xs) → IsIn x xs
filter_in keeps [] x k = absurd k
filter_in keeps (y ∷ xs) x k = go (keeps y) (λ j. filter_in keeps xs x j) k
  where
    go : (b : Bool) → (IsIn x (filter keeps xs) → IsIn x xs) → IsIn x (cond b (y ∷ filter keeps xs) (filter keeps xs))
        → IsIn x (y ∷ xs)
    go true rest (inl e) = inl e
    go true rest (inr j) = inr (rest j)
    go false rest j = inr (rest j)

filter_apart : {A : Type 0} (same : A → A → Bool) (keeps : A → Bool) (xs : List A) → no_two same xs ≡ true
    → no_two same (filter keeps xs) ≡ true
filter_apart same keeps [] e = refl
filter_apart same keeps (x ∷ xs) e =
    let p = and_parts (not (list_any (same x) xs)) (no_two same xs) e in
    let rest = filter_apart same keeps xs p.1 in
    let none = none_of (same x) (filter keeps xs)
    (λ y k. fails_at (same x) xs y (not-true (list_any (same x) xs) p.0) (filter_in keeps xs y k)) in
    go (keeps x) rest none
  where
    go : (b : Bool) → no_two same (filter keeps xs) ≡ true → list_any (same x) (filter keeps xs) ≡ false
        → no_two same (cond b (x ∷ filter keeps xs) (filter keeps xs)) ≡ true
    go true rest none = and_from (not (list_any (same x) (filter keeps xs))) (no_two same (filter keeps xs))
        (not_from_false (list_any (same x) (filter keeps xs)) none) rest
    go false rest none = rest

module _ (foreign : List ℕ → Bool) (r : Register) (accepted : IsAccepted r) (files : List NamedFile)
    (are : AreGroupFiles foreign r files) where
  outlines_apart : no_two (λ (o p : Outline). is_same_name o.name p.name) (map (group_config r) (our_groups foreign r))
      ≡ true
  outlines_apart = no_two-map (λ (o p : Outline). is_same_name o.name p.name) (group_config r) (our_groups foreign r)
      ∙ filter_apart (λ (g h : Group). is_same_name g.name h.name) (λ (g : Group). not (foreign g.name)) r.groups
      (groups_apart r.groups (groups_up r) (own_name r accepted))

  configs_apart : no_two (λ (c d : ServerConfig). is_same_name c.name d.name) are.configs ≡ true
  configs_apart =
      let same = λ (c d : ServerConfig). is_same_name c.name d.name in
      sym (no_two-IsPermutation same (λ c d. nat_list_eq_equiv.symm c.name d.name) are.compiled are.configs are.moved)
      ∙ sym (no_two-map (λ (o p : Outline). is_same_name o.name p.name) outline are.compiled)
      ∙ ap (no_two (λ (o p : Outline). is_same_name o.name p.name)) are.each ∙ outlines_apart

  group_files_apart : Apart files
  group_files_apart = files_apart are.configs files are.texts configs_apart

  -- each of these files is named for a group
  group_of : (f : NamedFile) → IsIn f files → (g : Group) × IsIn g (our_groups foreign r) × (f.name ≡ Config g.name)
  group_of f k =
      let c = file_of are.configs files are.texts f k in
      let in_compiled = moved_in are.configs are.compiled (IsPermutation-sym are.compiled are.configs are.moved) c.0 c.1 in
      let o = subst (IsIn (outline c.0)) are.each (map_in outline are.compiled c.0 in_compiled) in
      let g = in_map (group_config r) (our_groups foreign r) (outline c.0) o in
      (g.0, g.1, c.2.0 ∙ ap (λ (x : Outline). Config x.name) g.2)

  -- and each group has its file
  file_for : (g : Group) → IsIn g (our_groups foreign r)
      → (f : NamedFile) × IsIn f files × (f.name ≡ Config g.name) × IsOrderedConfigText (group_config r g) f.bytes
  file_for g k =
      let o = subst (IsIn (group_config r g)) (sym are.each) (map_in (group_config r) (our_groups foreign r) g k) in
      let c = in_map outline are.compiled (group_config r g) o in
      let f = config_file_of are.configs files are.texts c.0 (moved_in are.compiled are.configs are.moved c.0 c.1) in (
        f.0,
        f.1,
        f.2.0 ∙ ap (λ (x : Outline). Config x.name) (sym c.2),
        subst (λ (x : Outline). IsOrderedConfigText x f.0.bytes) (sym c.2) f.2.1,
      )

-- ---- what is gone

none_there : {A : Type 0} (o : Option A) → is_some o ≡ false → o ≡ None
none_there None e = refl
none_there (Some x) e = absurd (true≢false e)

-- a file of a group that is gone, as it was listed
pub record IsOfGone (foreign : List ℕ → Bool) (r : Register) (fs : FileName → Option (List ℕ))
    (last : BTreeMap (List ℕ) (List ℕ)) (f : NamedFile) : Type 0 where
  name : List ℕ
  is : f.name ≡ Config name
  listed : IsListedAs (last_manifest fs) name (digits_of f.bytes)
  found : get (slice_cmp nat_cmp) last name ≡ Some (digits_of f.bytes)
  missing : our_group foreign r name ≡ None
  there : fs f.name ≡ Some f.bytes

-- and what was listed of one that somebody altered
pub record IsOfAltered (foreign : List ℕ → Bool) (r : Register) (fs : FileName → Option (List ℕ))
    (last : BTreeMap (List ℕ) (List ℕ)) (c : ListedConfig) : Type 0 where
  listed : IsListedAs (last_manifest fs) c.name c.digits
  found : get (slice_cmp nat_cmp) last c.name ≡ Some c.digits
  missing : our_group foreign r c.name ≡ None
  bytes : List ℕ
  there : fs (Config c.name) ≡ Some bytes
  differ : digits_of bytes ≢ c.digits

gone_case : (b : Bool) (listed : ListedConfig) (found : Option (List ℕ)) (f : NamedFile) → IsIn f (gone_if b listed found)
    → (b ≡ false) × (f.name ≡ Config listed.name) × (found ≡ Some f.bytes) × (digits_of f.bytes ≡ listed.digits)
gone_case true listed found f k = absurd k
gone_case false listed None f k = absurd k
gone_case false listed (Some bytes) f k = go (is_as_listed listed bytes) refl k
  where
    file : NamedFile
    file = record { name = Config listed.name; bytes = bytes }

    go : (b : Bool) → is_as_listed listed bytes ≡ b → IsIn f (cond b (file ∷ []) [])
        → (false ≡ false) × (f.name ≡ Config listed.name) × (Some bytes ≡ Some f.bytes)
        × (digits_of f.bytes ≡ listed.digits)
    go true t (inl e) = (
      refl,
      ap (λ (g : NamedFile). g.name) e,
      ap (λ (g : NamedFile). Some g.bytes) (sym e),
      ap (λ (g : NamedFile). digits_of g.bytes) e ∙ (bytes_eq-Decides (digits_of bytes) listed.digits).0 t,
    )
    go true t (inr none) = absurd none
    go false t none = absurd none

altered_case : (b : Bool) (listed : ListedConfig) (found : Option (List ℕ)) (c : ListedConfig)
    → IsIn c (altered_if b listed found)
    → (b ≡ false) × (c ≡ listed) × ((bytes : List ℕ) × (found ≡ Some bytes) × (digits_of bytes ≢ listed.digits))
altered_case true listed found c k = absurd k
altered_case false listed None c k = absurd k
altered_case false listed (Some bytes) c k = go (is_as_listed listed bytes) refl k
  where
    go : (b : Bool) → is_as_listed listed bytes ≡ b → IsIn c (cond b [] (listed ∷ []))
        → (false ≡ false) × (c ≡ listed)
        × ((other : List ℕ) × (Some bytes ≡ Some other) × (digits_of other ≢ listed.digits))
    go true t none = absurd none
    go false t (inl e) = (
      refl,
      e,
      (
        bytes,
        refl,
        λ same. true≢false (sym ((bytes_eq-Decides (digits_of bytes) listed.digits).1 same) ∙ t),
      ),
    )
    go false t (inr none) = absurd none

gone_there : (b : Bool) (listed : ListedConfig) (bytes : List ℕ) (found : Option (List ℕ)) → b ≡ false
    → found ≡ Some bytes → digits_of bytes ≡ listed.digits
    → IsIn (record { name = Config listed.name; bytes = bytes }) (gone_if b listed found)
gone_there true listed bytes found e h same = absurd (true≢false e)
gone_there false listed bytes found e h same =
    let file : NamedFile = record { name = Config listed.name; bytes = bytes } in
    subst (λ (o : Option (List ℕ)). IsIn file (gone_if false listed o)) (sym h)
    (subst (λ (b : Bool). IsIn file (cond b (file ∷ []) []))
    (sym ((bytes_eq-Decides (digits_of bytes) listed.digits).1 same)) (inl refl))

module _ (foreign : List ℕ → Bool) (r : Register) (fs : FileName → Option (List ℕ)) (gone : List NamedFile)
    (altered : List ListedConfig) (are : AreGoneFiles foreign r fs gone altered) where
  abbrev IsFound : List ℕ → Option (List ℕ) → Type 0
  IsFound name found =
      MatchOption found (¬ (IsListedIn (last_manifest fs) name)) (IsListedAs (last_manifest fs) name)

  -- what is looked up is listed so
  listed_as : (name digits : List ℕ) → get (slice_cmp nat_cmp) are.last name ≡ Some digits
      → IsListedAs (last_manifest fs) name digits
  listed_as name digits e = subst (IsFound name) e (are.listed name)

  of_gone : (f : NamedFile) → IsIn f gone → IsOfGone foreign r fs are.last f
  of_gone f k =
      let p = in_flat (gone_for foreign r fs) are.last.entries f (subst (IsIn f) are.are k) in
      let name = p.0.0 in
      let q = gone_case (is_some (our_group foreign r name)) (listed_of p.0) (fs (Config name)) f p.2 in
      let found = found_at are.last are.in_order p.0 p.1 ∙ ap (λ (x : List ℕ). Some x) (sym q.3) in record {
        name = name;
        is = q.1;
        listed = listed_as name (digits_of f.bytes) found;
        found = found;
        missing = none_there (our_group foreign r name) q.0;
        there = ap fs q.1 ∙ q.2;
      }

  of_altered : (c : ListedConfig) → IsIn c altered → IsOfAltered foreign r fs are.last c
  of_altered c k =
      let p = in_flat (altered_for foreign r fs) are.last.entries c (subst (IsIn c) are.are_altered k) in
      let name = p.0.0 in
      let q = altered_case (is_some (our_group foreign r name)) (listed_of p.0) (fs (Config name)) c p.2 in
      let found = found_at are.last are.in_order p.0 p.1 in
      subst (IsOfAltered foreign r fs are.last) (sym q.1) (record {
        listed = listed_as name p.0.1 found;
        found = found;
        missing = none_there (our_group foreign r name) q.0;
        bytes = q.2.0;
        there = q.2.1;
        differ = q.2.2;
      })

  in_gone : (name bytes : List ℕ) → IsListedIn (last_manifest fs) name
      → ((digits : List ℕ) → IsListedAs (last_manifest fs) name digits → digits_of bytes ≡ digits)
      → our_group foreign r name ≡ None → fs (Config name) ≡ Some bytes
      → IsIn (record { name = Config name; bytes = bytes }) gone
  in_gone name bytes listed alike missing there = go (get (slice_cmp nat_cmp) are.last name) refl
    where
      go : (found : Option (List ℕ)) → get (slice_cmp nat_cmp) are.last name ≡ found
          → IsIn (record { name = Config name; bytes = bytes }) gone
      go None e = absurd (subst (IsFound name) e (are.listed name) listed)
      go (Some digits) e =
          subst (IsIn (record { name = Config name; bytes = bytes })) (sym are.are)
          (flat_in (gone_for foreign r fs) are.last.entries (name, digits) (record { name = Config name; bytes = bytes })
          (entry_of are.last name digits e)
          (gone_there (is_some (our_group foreign r name)) (listed_of (name, digits)) bytes (fs (Config name))
          (ap is_some missing) there (alike digits (listed_as name digits e))))

-- ---- the whole

module _ (foreign : List ℕ → Bool) (r : Register) (register : List ℕ) (removes : Bool) (s : Contents) (plan : Plan)
    (accepted : IsAccepted r) (p : IsPlan foreign r register removes s.files plan) where
  abbrev wanted : List NamedFile
  wanted = register_file register ∷ p.configs

  abbrev on_lines : List NamedFile
  on_lines = wanted ++ left_of removes p.gone

  -- the name after each part of the plan
  at_all : (n : FileName) → (after plan.steps s).files n
      ≡ at_end n (steps_for s.files (manifest_file on_lines p.altered ∷ []))
      (at_end n (removals removes p.gone) (at_end n (steps_for s.files wanted) (s.files n)))
  at_all n =
      let w = steps_for s.files wanted in
      let g = removals removes p.gone in
      let m = steps_for s.files (manifest_file on_lines p.altered ∷ []) in
      ap (λ (q : Plan). (after q.steps s).files n) p.is ∙ after_at n (w ++ g ++ m) s ∙ at_both n (w ++ g) m (s.files n)
      ∙ ap (at_end n m) (at_both n w g (s.files n))

  by_manifest : (n : FileName) (old : Option (List ℕ)) → is_same_file Manifest n ≡ false
      → at_end n (steps_for s.files (manifest_file on_lines p.altered ∷ [])) old ≡ old
  by_manifest n old e = others_leave s.files n (manifest_file on_lines p.altered ∷ []) old (λ f k. only f k)
    where
      only : (f : NamedFile) → IsIn f (manifest_file on_lines p.altered ∷ []) → is_same_file f.name n ≡ false
      only f (inl same) = ap (λ (g : NamedFile). is_same_file g.name n) same ∙ e
      only f (inr none) = absurd none

  by_removals : (b : Bool) (n : FileName) (old : Option (List ℕ))
      → ((f : NamedFile) → IsIn f p.gone → is_same_file f.name n ≡ false) → at_end n (removals b p.gone) old ≡ old
  by_removals true n old none = removed_others n p.gone old none
  by_removals false n old none = refl

  -- a name that only the wanted files touch
  kept : (n : FileName) → is_same_file Manifest n ≡ false
      → ((f : NamedFile) → IsIn f p.gone → is_same_file f.name n ≡ false)
      → (after plan.steps s).files n ≡ at_end n (steps_for s.files wanted) (s.files n)
  kept n e none = at_all n ∙ by_manifest n _ e ∙ by_removals removes n _ none

  wanted_apart : Apart wanted
  wanted_apart = (
    λ g k. ap (is_same_file OfRegister) (group_of foreign r accepted p.configs p.are_configs g k).2,
    group_files_apart foreign r accepted p.configs p.are_configs,
  )

  gone_file : (f : NamedFile) → IsIn f p.gone → IsOfGone foreign r s.files p.are_gone.last f
  gone_file = of_gone foreign r s.files p.gone p.altered p.are_gone

  -- a group of ours isn't gone
  not_gone : (g : Group) → IsIn g (our_groups foreign r) → (f : NamedFile) → IsIn f p.gone → is_same_file f.name (Config g.name) ≡ false
  not_gone g j f k =
      let q = gone_file f k in
      ap (λ (m : FileName). is_same_file m (Config g.name)) q.is ∙ nat_list_eq_equiv.symm q.name g.name
      ∙ unfound (λ (h : Group). is_same_name h.name q.name) (our_groups foreign r) g q.missing j

  -- and no file that is wanted is named for a group that isn't ours
  not_wanted : (name : List ℕ) → our_group foreign r name ≡ None → (f : NamedFile) → IsIn f wanted
      → is_same_file f.name (Config name) ≡ false
  not_wanted name missing f (inl e) = ap (λ (g : NamedFile). is_same_file g.name (Config name)) e
  not_wanted name missing f (inr k) =
      let g = group_of foreign r accepted p.configs p.are_configs f k in
      ap (λ (m : FileName). is_same_file m (Config name)) g.2
      ∙ unfound (λ (h : Group). is_same_name h.name name) (our_groups foreign r) g.0 missing g.1

  source : (after plan.steps s).files OfRegister ≡ Some register
  source = kept OfRegister refl (λ f k. ap (λ (m : FileName). is_same_file m OfRegister) (gone_file f k).is)
      ∙ its_own s.files OfRegister wanted wanted_apart (register_file register) (inl refl) refl

  of_group : (f : NamedFile) (g : Group) → IsIn f p.configs → IsIn g (our_groups foreign r) → f.name ≡ Config g.name
      → (after plan.steps s).files (Config g.name) ≡ Some f.bytes
  of_group f g k j e = kept (Config g.name) refl (not_gone g j)
      ∙ its_own s.files (Config g.name) wanted wanted_apart f (inr k) e

  configs_there : (g : Group) → Contains (our_groups foreign r) g
      → IsSomeAnd ((after plan.steps s).files (Config g.name)) (IsOrderedConfigText (group_config r g))
  configs_there g k =
      let j = in_contained (our_groups foreign r) g k in
      let f = file_for foreign r accepted p.configs p.are_configs g j in
      subst (λ (o : Option (List ℕ)). IsSomeAnd o (IsOrderedConfigText (group_config r g)))
      (sym (of_group f.0 g f.1 j f.2)) f.3

  -- the name of a group that isn't ours
  lacking : (name : List ℕ) → our_group foreign r name ≡ None
      → (after plan.steps s).files (Config name) ≡ at_end (Config name) (removals removes p.gone) (s.files (Config name))
  lacking name missing =
      at_all (Config name) ∙ by_manifest (Config name) _ refl
      ∙ ap (at_end (Config name) (removals removes p.gone))
      (others_leave s.files (Config name) wanted (s.files (Config name)) (not_wanted name missing))

  is_removed : (b : Bool) (name : List ℕ) → IsGone foreign r s.files name → IsAsListed s.files name → (found : Option (List ℕ))
      → s.files (Config name) ≡ found
      → at_end (Config name) (removals b p.gone) (s.files (Config name)) ≡ cond b None (s.files (Config name))
  is_removed false name h alike found e = refl
  is_removed true name h alike None e =
      ap (at_end (Config name) (removes_each p.gone)) e ∙ removed_none (Config name) p.gone
  is_removed true name h alike (Some bytes) e =
      removed_one (Config name) p.gone (s.files (Config name)) (record { name = Config name; bytes = bytes })
      (in_gone foreign r s.files p.gone p.altered p.are_gone name bytes h.0
      (λ digits l. same_Some (digits_of bytes) digits (sym (ap (option_map digits_of) e) ∙ alike digits l)) h.1 e) refl

  -- no removal is of another name
  apart_from : (f : NamedFile) (name : List ℕ) → (k : IsIn f p.gone) → (name ≢ (gone_file f k).name)
      → is_same_file f.name (Config name) ≡ false
  apart_from f name k other =
      let q = gone_file f k in
      ap (λ (m : FileName). is_same_file m (Config name)) q.is
      ∙ false_from_ne_true (is_same_name q.name name) (λ e. other (sym (same_path q.name name e)))

  -- nor of what may not be removed
  not_removable : (name : List ℕ) → ¬ (IsRemovable s.files name) → (f : NamedFile) → IsIn f p.gone
      → is_same_file f.name (Config name) ≡ false
  not_removable name none f k =
      let q = gone_file f k in
      apart_from f name k (λ e. none (
        f.bytes,
        ap (λ (n : List ℕ). s.files (Config n)) e ∙ ap s.files (sym q.is) ∙ q.there,
        subst (λ (n : List ℕ). IsListedAs (last_manifest s.files) n (digits_of f.bytes)) (sym e) q.listed,
      ))

  other_kept : (b : Bool) → removes ≡ b → (name : List ℕ) → ¬ (IsTrue removes × IsRemovable s.files name)
      → at_end (Config name) (removals b p.gone) (s.files (Config name)) ≡ s.files (Config name)
  other_kept true e name none =
      removed_others (Config name) p.gone (s.files (Config name)) (not_removable name (λ h. none (e, h)))
  other_kept false e name none = refl

  -- nor of what somebody altered
  altered_file : (c : ListedConfig) → IsIn c p.altered → IsOfAltered foreign r s.files p.are_gone.last c
  altered_file = of_altered foreign r s.files p.gone p.altered p.are_gone

  not_altered : (c : ListedConfig) → IsIn c p.altered → (f : NamedFile) → IsIn f p.gone
      → is_same_file f.name (Config c.name) ≡ false
  not_altered c j f k =
      let q = gone_file f k in
      let a = altered_file c j in
      apart_from f c.name k (λ e.
      let bytes = same_Some f.bytes a.bytes
      (sym q.there ∙ ap s.files q.is ∙ ap (λ (n : List ℕ). s.files (Config n)) (sym e) ∙ a.there) in
      let digits = same_Some (digits_of f.bytes) c.digits
      (sym q.found ∙ ap (get (slice_cmp nat_cmp) p.are_gone.last) (sym e) ∙ a.found) in
      a.differ (ap digits_of (sym bytes) ∙ digits))

  altered_there : (c : ListedConfig) → Contains p.altered c
      → IsAltered (last_manifest s.files) (after plan.steps s) c
  altered_there c k =
      let j = in_contained p.altered c k in
      let a = altered_file c j in record {
        listed = a.listed;
        bytes = a.bytes;
        there = lacking c.name a.missing
            ∙ by_removals removes (Config c.name) (s.files (Config c.name)) (not_altered c j) ∙ a.there;
        differ = a.differ;
      }

  -- the manifest
  wanted_unlike : (f : NamedFile) → IsIn f wanted → is_same_file f.name Manifest ≡ false
  wanted_unlike f (inl e) = ap (λ (g : NamedFile). is_same_file g.name Manifest) e
  wanted_unlike f (inr k) =
      ap (λ (m : FileName). is_same_file m Manifest) (group_of foreign r accepted p.configs p.are_configs f k).2

  manifest_stands : (after plan.steps s).files Manifest
      ≡ Some (manifest_text on_lines ++ flat_map kept_line p.altered)
  manifest_stands =
      at_all Manifest
      ∙ ap (at_end Manifest (steps_for s.files (manifest_file on_lines p.altered ∷ [])))
      (by_removals removes Manifest _ (λ f k. ap (λ (m : FileName). is_same_file m Manifest) (gone_file f k).is)
      ∙ others_leave s.files Manifest wanted (s.files Manifest) wanted_unlike)
      ∙ its_own s.files Manifest (manifest_file on_lines p.altered ∷ []) ((λ g k. absurd k), tt) (manifest_file on_lines p.altered)
      (inl refl) refl

  wanted_there : (f : NamedFile) → IsIn f wanted → (after plan.steps s).files f.name ≡ Some f.bytes
  wanted_there f (inl e) = ap (λ (g : NamedFile). (after plan.steps s).files g.name) e ∙ source
      ∙ ap (λ (g : NamedFile). Some g.bytes) (sym e)
  wanted_there f (inr k) =
      let g = group_of foreign r accepted p.configs p.are_configs f k in
      ap (after plan.steps s).files g.2 ∙ of_group f g.0 k g.1 g.2

  left_there : (b : Bool) → removes ≡ b → (f : NamedFile) → IsIn f (left_of b p.gone)
      → (after plan.steps s).files f.name ≡ Some f.bytes
  left_there true e f k = absurd k
  left_there false e f k =
      let q = gone_file f k in
      ap (after plan.steps s).files q.is ∙ lacking q.name q.missing
      ∙ ap (λ (b : Bool). at_end (Config q.name) (removals b p.gone) (s.files (Config q.name))) e
      ∙ ap s.files (sym q.is) ∙ q.there

  listed_there : (f : NamedFile) → IsIn f on_lines → (after plan.steps s).files f.name ≡ Some f.bytes
  listed_there f k = elim (in_either wanted (left_of removes p.gone) f k) [
    | inl j ↦ wanted_there f j
    | inr j ↦ left_there removes refl f j
  ]

  groups_listed : (g : Group) → Contains (our_groups foreign r) g
      → (bytes : List ℕ) × Contains on_lines (record { name = Config g.name; bytes = bytes })
  groups_listed g k =
      let f = file_for foreign r accepted p.configs p.are_configs g (in_contained (our_groups foreign r) g k) in (
        f.0.bytes,
        subst (Contains on_lines)
            (ap (λ (n : FileName). let file : NamedFile = record { name = n; bytes = f.0.bytes } in file) f.2)
            (contained on_lines f.0 (in_front wanted (left_of removes p.gone) f.0 (inr f.1))),
      )

  pub published : IsPublished foreign r register removes s (after plan.steps s)
  published = record {
    source = source;
    configs = configs_there;
    manifest = record {
      files = on_lines;
      altered = p.altered;
      stands = manifest_stands;
      there = λ f k. listed_there f (in_contained on_lines f k);
      kept = altered_there;
      groups = groups_listed;
    };
    gone = λ name h alike. lacking name h.1 ∙ is_removed removes name h alike (s.files (Config name)) refl;
    others = λ name missing none. lacking name missing ∙ other_kept removes refl name none;
  }

pub plans_publish : PlansPublish
plans_publish foreign r register removes s plan accepted p = published foreign r register removes s plan accepted p
