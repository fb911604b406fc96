-- What a folder in memory holds after a change.
use Rattle.std.proofs.Common.{◌≡◌, ℕ, Bool, true, false, cond, List, Option, Some, refl, sym, ap, ◌∙◌}
use Rattle.std.specs.Prelude.{Result, Ok, Err, MatchResult}
use Rattle.std.specs.Result.{OnOk, OnErr}
use Rattle.std.specs.Ordering.{nat_cmp}
use Rattle.std.specs.Cmp.Lexicographic.{slice_cmp, texts_ties}
use Rattle.std.specs.BTreeMap.{BTreeMap, get, Updates}
use Rattle.ddt_path.specs.laws.Cover.{same_path}
use Rattle.ddt_deploy.specs.declared.folders.file_name.FileName.{FileName}
use Rattle.ddt_deploy.specs.declared.folders.file_name.FileName.TheVariants.{Register, Config, Manifest}
use Rattle.ddt_deploy.specs.declared.folders.folder_in_memory.Files.{Files}
use Rattle.ddt_deploy.specs.declared.folders.folder_in_memory.FolderInMemory.{FolderInMemory}
use Rattle.ddt_deploy.specs.Folders.Names.{is_same_file}
use Rattle.ddt_deploy.specs.Folders.Contents.{Contents, put, with_beside}
use Rattle.ddt_deploy.specs.Folders.Memory.{held, HoldsOf}

abbrev with_configs : Files → BTreeMap (List ℕ) (List ℕ) → Files
with_configs files configs = record { register = files.register; configs = configs; manifest = files.manifest }

-- a configuration is put or taken out
pub config_put : (files : Files) (configs : BTreeMap (List ℕ) (List ℕ)) (file : FileName) (name : List ℕ)
    (w : Option (List ℕ)) → file ≡ Config name → Updates (slice_cmp nat_cmp) files.configs configs name w
    → (other : FileName) → held (with_configs files configs) other ≡ put file w (held files) other
config_put files configs file name w is h other = go other ∙ ap (λ (f : FileName). put f w (held files) other) (sym is)
  where
    go : (o : FileName) → held (with_configs files configs) o ≡ put (Config name) w (held files) o
    go Register = refl
    go (Config n) = h.0 n ∙ ap (λ (b : Bool). cond b w (get (slice_cmp nat_cmp) files.configs n)) (sym (texts_ties name n))
    go Manifest = refl

pub same_file : (a b : FileName) → is_same_file a b ≡ true → a ≡ b
same_file Register Register e = refl
same_file (Config n) (Config m) e = ap (λ (k : List ℕ). Config k) (same_path n m e)
same_file Manifest Manifest e = refl
same_file Register (Config m) e = absurd cc
same_file Register Manifest e = absurd cc
same_file (Config n) Register e = absurd cc
same_file (Config n) Manifest e = absurd cc
same_file Manifest Register e = absurd cc
same_file Manifest (Config m) e = absurd cc

-- what is there already may be put there
pub put_again : {A : Type 0} (name : FileName) (held : FileName → A) (other : FileName)
    → put name (held name) held other ≡ held other
put_again name held other = go (is_same_file name other) refl
  where
    go : (b : Bool) → is_same_file name other ≡ b → cond b (held name) (held other) ≡ held other
    go true e = ap held (same_file name other e)
    go false e = refl

-- what is put among the same stays the same
pub put_alike : {A : Type 0} (name : FileName) (v w : A) (f g : FileName → A) → v ≡ w → ((o : FileName) → f o ≡ g o)
    → (other : FileName) → put name v f other ≡ put name w g other
put_alike name v w f g e h other = go (is_same_file name other)
  where
    go : (b : Bool) → cond b v (f other) ≡ cond b w (g other)
    go true = e
    go false = h other

-- a call began
pub began : (m n : FolderInMemory) (s : Contents) → HoldsOf m s → n.files ≡ m.files → n.beside ≡ m.beside
    → n.touches ≡ m.touches → HoldsOf n s
began m n s h files beside touches = record {
  files = λ o. h.files o ∙ ap (λ (f : Files). held f o) (sym files);
  beside = λ o. h.beside o ∙ ap (λ (f : Files). held f o) (sym beside);
  touched = h.touched ∙ sym touches;
}

module _ (m n : FolderInMemory) (s : Contents) (h : HoldsOf m s) (name : FileName) where
  module _ (files : n.files ≡ m.files) (touches : n.touches ≡ m.touches) where
    -- something was put beside a file
    pub beside_put : (w : Option (List ℕ)) → ((o : FileName) → held n.beside o ≡ put name w (held m.beside) o)
        → HoldsOf n (with_beside name w s)
    beside_put w beside = record {
      files = λ o. h.files o ∙ ap (λ (f : Files). held f o) (sym files);
      beside = λ o. put_alike name w w s.beside (held m.beside) refl h.beside o ∙ sym (beside o);
      touched = h.touched ∙ sym touches;
    }

    -- nothing changed beside a file
    pub beside_kept : ((o : FileName) → held n.beside o ≡ held m.beside o)
        → (left : Option (List ℕ)) × HoldsOf n (with_beside name left s)
    beside_kept beside = (
      s.beside name,
      record {
        files = λ o. h.files o ∙ ap (λ (f : Files). held f o) (sym files);
        beside = λ o. put_again name s.beside o ∙ h.beside o ∙ sym (beside o);
        touched = h.touched ∙ sym touches;
      },
    )

    -- a file was put beside another, or memory was refused
    module _ {E : Type 0} (bytes : List ℕ) where
      pub put_or_kept : (r : Result (Unit {0}) E)
          → OnOk r ((o : FileName) → held n.beside o ≡ put name (Some bytes) (held m.beside) o)
          → OnErr r ((o : FileName) → held n.beside o ≡ held m.beside o)
          → MatchResult r (λ _. HoldsOf n (with_beside name (Some bytes) s))
          (λ _. (left : Option (List ℕ)) × HoldsOf n (with_beside name left s))
      put_or_kept (Ok u) p k = beside_put (Some bytes) p
      put_or_kept (Err e) p k = beside_kept k

      pub left_there : (r : Result (Unit {0}) E)
          → OnOk r ((o : FileName) → held n.beside o ≡ put name (Some bytes) (held m.beside) o)
          → OnErr r ((o : FileName) → held n.beside o ≡ held m.beside o)
          → (left : Option (List ℕ)) × HoldsOf n (with_beside name left s)
      left_there (Ok u) p k = (Some bytes, beside_put (Some bytes) p)
      left_there (Err e) p k = beside_kept k
