-- What steps leave at one name.
use Rattle.std.proofs.Common.{◌≡◌, ℕ, Bool, true, false, cond, List, [], ◌∷◌, ◌++◌, map, Option, None, Some, refl, sym, ap, subst, ◌∙◌, inl, inr}
use Rattle.std.specs.Str.{bytes_eq}
use Rattle.std.proofs.lemmas.Bool.{cond-true, cond-false, both_ways, false_from_ne_true}
use Rattle.std.proofs.lemmas.Slice.Eq.{bytes_eq-Decides}
use Rattle.ddt_path.specs.laws.Cover.{path_itself}
use Rattle.ddt_path.specs.laws.Member.{IsIn}
use Rattle.ddt_deploy.specs.declared.folders.file_name.FileName.{FileName}
use Rattle.ddt_deploy.specs.declared.folders.file_name.FileName.TheVariants.{Register, Config, Manifest}
use Rattle.ddt_deploy.specs.declared.folders.step.NamedFile.{NamedFile}
use Rattle.ddt_deploy.specs.declared.folders.step.Step.{Step}
use Rattle.ddt_deploy.specs.declared.folders.step.Step.TheVariants.{Add, Change, Remove}
use Rattle.ddt_deploy.specs.Folders.Names.{is_same_file}
use Rattle.ddt_deploy.specs.Folders.Contents.{Contents, put}
use Rattle.ddt_deploy.specs.Folders.Steps.{replaced, taken, after}
use Rattle.ddt_deploy.specs.Folders.Wanted.{step_for, steps_for}
use Rattle.ddt_deploy.proofs.FoldersLemmas.MemoryLemmas.{same_file}

pub same_itself : (a : FileName) → is_same_file a a ≡ true
same_itself Register = refl
same_itself (Config n) = path_itself n n refl
same_itself Manifest = refl

-- ---- any steps

abbrev pub at_step : FileName → Step → Option (List ℕ) → Option (List ℕ)
at_step n (Add file) old = cond (is_same_file file.name n) (Some file.bytes) old
at_step n (Change file) old = cond (is_same_file file.name n) (Some file.bytes) old
at_step n (Remove name) old = cond (is_same_file name n) None old

abbrev pub at_end : FileName → List Step → Option (List ℕ) → Option (List ℕ)
at_end n [] old = old
at_end n (x ∷ xs) old = at_end n xs (at_step n x old)

replaced_at : (n : FileName) (file : NamedFile) (s : Contents)
    → (replaced file s).files n ≡ cond (is_same_file file.name n) (Some file.bytes) (s.files n)
replaced_at n file s =
    let here : put file.name (Some file.bytes) s.beside file.name ≡ Some file.bytes =
    cond-true (is_same_file file.name file.name) (Some file.bytes) (s.beside file.name) (same_itself file.name) in
    ap (λ (b : Option (List ℕ)). cond (is_same_file file.name n) b (s.files n)) here

taken_at : (n : FileName) (x : Step) (s : Contents) → (taken x s).files n ≡ at_step n x (s.files n)
taken_at n (Add file) s = replaced_at n file s
taken_at n (Change file) s = replaced_at n file s
taken_at n (Remove name) s = refl

pub after_at : (n : FileName) (xs : List Step) (s : Contents) → (after xs s).files n ≡ at_end n xs (s.files n)
after_at n [] s = refl
after_at n (x ∷ xs) s = after_at n xs (taken x s) ∙ ap (at_end n xs) (taken_at n x s)

pub at_both : (n : FileName) (xs ys : List Step) (old : Option (List ℕ))
    → at_end n (xs ++ ys) old ≡ at_end n ys (at_end n xs old)
at_both n [] ys old = refl
at_both n (x ∷ xs) ys old = at_both n xs ys (at_step n x old)

-- ---- steps for files that are wanted

-- no two files have one name
abbrev pub Apart : List NamedFile → Type 0
Apart [] = Unit {0}
Apart (f ∷ files) = ((g : NamedFile) → IsIn g files → is_same_file f.name g.name ≡ false) × Apart files

module _ (fs : FileName → Option (List ℕ)) (n : FileName) where
  other_step : (file : NamedFile) (found old : Option (List ℕ)) → is_same_file file.name n ≡ false
      → at_end n (step_for file found) old ≡ old
  other_step file None old e = cond-false (is_same_file file.name n) (Some file.bytes) old e
  other_step file (Some bytes) old e = go (bytes_eq bytes file.bytes)
    where
      go : (b : Bool) → at_end n (cond b [] (Change file ∷ [])) old ≡ old
      go true = refl
      go false = cond-false (is_same_file file.name n) (Some file.bytes) old e

  own_step : (file : NamedFile) (found : Option (List ℕ)) → is_same_file file.name n ≡ true
      → at_end n (step_for file found) found ≡ Some file.bytes
  own_step file None e = cond-true (is_same_file file.name n) (Some file.bytes) None e
  own_step file (Some bytes) e = go (bytes_eq bytes file.bytes) refl
    where
      go : (b : Bool) → bytes_eq bytes file.bytes ≡ b
          → at_end n (cond b [] (Change file ∷ [])) (Some bytes) ≡ Some file.bytes
      go true t = ap (λ (x : List ℕ). Some x) ((bytes_eq-Decides bytes file.bytes).0 t)
      go false t = cond-true (is_same_file file.name n) (Some file.bytes) (Some bytes) e

  -- files of other names leave it
  pub others_leave : (wanted : List NamedFile) (old : Option (List ℕ))
      → ((f : NamedFile) → IsIn f wanted → is_same_file f.name n ≡ false) → at_end n (steps_for fs wanted) old ≡ old
  others_leave [] old none = refl
  others_leave (f ∷ wanted) old none =
      at_both n (step_for f (fs f.name)) (steps_for fs wanted) old
      ∙ ap (at_end n (steps_for fs wanted)) (other_step f (fs f.name) old (none f (inl refl)))
      ∙ others_leave wanted old (λ g k. none g (inr k))

  -- the file of the name is there
  pub its_own : (wanted : List NamedFile) → Apart wanted → (f : NamedFile) → IsIn f wanted → f.name ≡ n
      → at_end n (steps_for fs wanted) (fs n) ≡ Some f.bytes
  its_own [] up f k e = absurd k
  its_own (g ∷ wanted) up f (inl same) e =
      let name : g.name ≡ n = ap (λ (h : NamedFile). h.name) (sym same) ∙ e in
      let here = own_step g (fs g.name) (subst (λ (m : FileName). is_same_file g.name m ≡ true) name (same_itself g.name)) in
      at_both n (step_for g (fs g.name)) (steps_for fs wanted) (fs n)
      ∙ ap (at_end n (steps_for fs wanted))
      (subst (λ (m : FileName). at_end n (step_for g (fs g.name)) (fs m) ≡ Some g.bytes) name here)
      ∙ others_leave wanted (Some g.bytes) (λ h k. false_from_ne_true (is_same_file h.name n) (λ t.
      both_ways (is_same_file g.name h.name) (up.0 h k)
      (subst (λ (m : FileName). is_same_file g.name m ≡ true) (name ∙ sym (same_file h.name n t)) (same_itself g.name))))
      ∙ ap (λ (h : NamedFile). Some h.bytes) (sym same)
  its_own (g ∷ wanted) up f (inr later) e =
      at_both n (step_for g (fs g.name)) (steps_for fs wanted) (fs n)
      ∙ ap (at_end n (steps_for fs wanted))
      (other_step g (fs g.name) (fs n) (subst (λ (m : FileName). is_same_file g.name m ≡ false) e (up.0 f later)))
      ∙ its_own wanted up.1 f later e

-- ---- removals

abbrev pub removes_each : List NamedFile → List Step
removes_each gone = map (λ file. Remove file.name) gone

nothing : (b : Bool) → cond {A = Option (List ℕ)} b None None ≡ None
nothing true = refl
nothing false = refl

module _ (n : FileName) where
  pub removed_others : (gone : List NamedFile) (old : Option (List ℕ))
      → ((f : NamedFile) → IsIn f gone → is_same_file f.name n ≡ false) → at_end n (removes_each gone) old ≡ old
  removed_others [] old none = refl
  removed_others (f ∷ gone) old none =
      ap (at_end n (removes_each gone)) (cond-false (is_same_file f.name n) None old (none f (inl refl)))
      ∙ removed_others gone old (λ g k. none g (inr k))

  pub removed_none : (gone : List NamedFile) → at_end n (removes_each gone) None ≡ None
  removed_none [] = refl
  removed_none (f ∷ gone) = ap (at_end n (removes_each gone)) (nothing (is_same_file f.name n)) ∙ removed_none gone

  pub removed_one : (gone : List NamedFile) (old : Option (List ℕ)) (f : NamedFile) → IsIn f gone → f.name ≡ n
      → at_end n (removes_each gone) old ≡ None
  removed_one [] old f k e = absurd k
  removed_one (g ∷ gone) old f (inl same) e =
      let name : g.name ≡ n = ap (λ (h : NamedFile). h.name) (sym same) ∙ e in
      ap (at_end n (removes_each gone)) (cond-true (is_same_file g.name n) None old
      (subst (λ (m : FileName). is_same_file g.name m ≡ true) name (same_itself g.name)))
      ∙ removed_none gone
  removed_one (g ∷ gone) old f (inr later) e = removed_one gone (at_step n (Remove g.name) old) f later e
