-- A list can be read if and only if each of its items can.
use Rattle.std.proofs.Common.{◌≡◌, ◌∙◌, ◌&&◌, ap, List, [], ◌∷◌, map, Result, Ok, Err, refl}
use Rattle.std.specs.Prelude.{is_ok}
use Rattle.std.specs.List.{list_all}
use Rattle.std.proofs.lemmas.List.Folds.{list_all-map}
use Rattle.ddt_config.specs.declared.fault.ConfigFault.{ConfigFault}
use Rattle.ddt_path.specs.Steps.{◌>>=◌}
use Rattle.ddt_config.specs.Table.{each}

both_ok : {A : Type 0} (r : Result A ConfigFault) (s : Result (List A) ConfigFault)
    → is_ok (r >>= λ a. s >>= λ xs. Ok (a ∷ xs)) ≡ (is_ok r && is_ok s)
both_ok (Ok a) (Ok xs) = refl
both_ok (Ok a) (Err fault) = refl
both_ok (Err fault) s = refl

is_ok_each : {A B : Type 0} (examine : A → Result B ConfigFault) (xs : List A) → is_ok (each examine xs) ≡ list_all (λ x. is_ok (examine x)) xs
is_ok_each examine [] = refl
is_ok_each examine (x ∷ xs) =
    both_ok (examine x) (each examine xs) ∙ ap (λ b. is_ok (examine x) && b) (is_ok_each examine xs)

pub is_ok_viewed : {V A B : Type 0} (view : V → A) (examine : A → Result B ConfigFault) (vs : List V)
    → is_ok (each examine (map view vs)) ≡ list_all (λ v. is_ok (examine (view v))) vs
is_ok_viewed view examine vs = is_ok_each examine (map view vs) ∙ list_all-map (λ x. is_ok (examine x)) view vs
