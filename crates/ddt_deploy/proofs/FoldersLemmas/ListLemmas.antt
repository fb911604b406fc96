-- Lists that grow at their end.
use Rattle.std.proofs.Common.{◌≡◌, true, Bool, List, [], ◌∷◌, ◌++◌, map, refl, sym, ap, ◌∙◌}
use Rattle.std.specs.List.{flat_map, list_all}
use Rattle.std.proofs.lemmas.List.{append_assoc}
use Rattle.std.specs.Prelude.{◌&&◌}
use Rattle.std.proofs.lemmas.Bool.{and_parts}
use Rattle.ddt_config.specs.declared.config.ServerConfig.{ServerConfig}
use Rattle.ddt_deploy.specs.declared.folders.step.NamedFile.{NamedFile}
use Rattle.ddt_deploy.specs.Folders.Wanted.{AreConfigFiles, IsConfigFile}

pub end_nil : {A : Type 0} (xs : List A) → xs ++ [] ≡ xs
end_nil [] = refl
end_nil (x ∷ xs) = ap (λ (zs : List _). x ∷ zs) (end_nil xs)

module _ {A B : Type 0} (f : A → List B) where
  flat_last : (xs : List A) (x : A) → flat_map f (xs ++ x ∷ []) ≡ flat_map f xs ++ f x
  flat_last [] x = end_nil (f x)
  flat_last (y ∷ xs) x = ap (λ (zs : List B). f y ++ zs) (flat_last xs x) ∙ sym (append_assoc (f y) (flat_map f xs) (f x))

  -- what is made of one item more is appended
  pub flat_more : (old mid new : List B) (xs : List A) (x : A) → mid ≡ old ++ flat_map f xs → new ≡ mid ++ f x
      → new ≡ old ++ flat_map f (xs ++ x ∷ [])
  flat_more old mid new xs x before step =
      step ∙ ap (λ (zs : List B). zs ++ f x) before ∙ append_assoc old (flat_map f xs) (f x)
      ∙ ap (λ (zs : List B). old ++ zs) (sym (flat_last xs x))

pub map_last : {A B : Type 0} (f : A → B) (xs : List A) (x : A) → map f (xs ++ x ∷ []) ≡ map f xs ++ f x ∷ []
map_last f [] x = refl
map_last f (y ∷ xs) x = ap (λ (zs : List _). f y ∷ zs) (map_last f xs x)

-- all of a list pass, with one item more
pub all_last : {A : Type 0} (test : A → Bool) (xs : List A) (x : A) → list_all test (xs ++ x ∷ []) ≡ true
    → (list_all test xs ≡ true) × (test x ≡ true)
all_last test [] x e = (refl, (and_parts (test x) true e).0)
all_last test (y ∷ xs) x e =
    let p = and_parts (test y) (list_all test (xs ++ x ∷ [])) e in
    let q = all_last test xs x p.1 in (ap (λ (b : Bool). b && list_all test xs) p.0 ∙ q.0, q.1)

-- the file of one configuration more
pub files_last : (cs : List ServerConfig) (files : List NamedFile) (c : ServerConfig) (file : NamedFile)
    → AreConfigFiles cs files → IsConfigFile c file → AreConfigFiles (cs ++ c ∷ []) (files ++ file ∷ [])
files_last [] [] c file h k = (k, tt)
files_last [] (g ∷ files) c file h k = absurd h
files_last (d ∷ cs) [] c file h k = absurd h
files_last (d ∷ cs) (g ∷ files) c file h k = (h.0, files_last cs files c file h.1 k)
