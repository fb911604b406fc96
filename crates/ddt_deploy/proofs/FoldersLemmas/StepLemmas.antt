-- Steps, one after the other.
use Rattle.std.proofs.Common.{◌≡◌, ℕ, ◌+◌, ◌<◌, List, [], ◌∷◌, ◌++◌, length, take, drop, get_or, refl, sym, ap, subst, ◌∙◌}
use Rattle.std.proofs.lemmas.List.{drop_more, take_more, take-append-drop}
use Rattle.ddt_deploy.specs.declared.folders.file_name.FileName.{FileName}
use Rattle.ddt_deploy.specs.declared.folders.step.Step.{Step}
use Rattle.ddt_deploy.specs.Folders.Contents.{Contents, IsAsBefore}
use Rattle.ddt_deploy.specs.Folders.Steps.{name_of, taken, after, HasStopped}

after_last : (xs : List Step) (x : Step) (s : Contents) → after (xs ++ x ∷ []) s ≡ taken x (after xs s)
after_last [] x s = refl
after_last (y ∷ xs) x s = after_last xs x (taken y s)

module _ (steps : List Step) (i : ℕ) (step : Step) (lt : i < length steps) (is : step ≡ get_or steps i step) where
  -- one step more was taken
  pub after_more : (s : Contents) → after (take (i + 1) steps) s ≡ taken step (after (take i steps) s)
  after_more s = ap (λ (xs : List Step). after xs s)
      (take_more steps i step lt ∙ ap (λ (x : Step). take i steps ++ x ∷ []) (sym is)) ∙ after_last (take i steps) step s

  -- the step failed
  pub stopped_at : (s t : Contents) (name : FileName) → name ≡ name_of step
      → IsAsBefore (name_of step) (after (take i steps) s) t → HasStopped steps name s t
  stopped_at s t name at h = record {
    done = take i steps;
    step = step;
    left = drop (i + 1) steps;
    all = sym (take-append-drop i steps)
        ∙ ap (λ (xs : List Step). take i steps ++ xs)
        (drop_more steps i step lt ∙ ap (λ (x : Step). x ∷ drop (i + 1) steps) (sym is));
    at = sym at;
    files = subst (λ (n : FileName). IsAsBefore n (after (take i steps) s) t) (sym at) h;
  }
