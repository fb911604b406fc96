-- What stands at the end of a vector after appends, and how long a Map-Request gets.
use Rattle.std.proofs.Common.{◌≡◌, ℕ, ◌*◌, ◌≤◌, Bool, true, false, cond, eqb, List, [], ◌∷◌, ◌++◌, length, Result, Ok, Err, ap, ◌∙◌, arith, append_assoc, length-append}
use Rattle.std.specs.Prelude.{OnOk, is_ok}
use Rattle.std.specs.List.{flat_map}
use Rattle.std.proofs.lemmas.List.Concat.{flat_map-cons}
use Rattle.ddt_path.specs.declared.locator.Locator.{Locator}
use Rattle.ddt_path.specs.declared.locator.Locator.TheVariants.{V4, V6}
use Rattle.ddt_path.specs.declared.form.Form.{Form}
use Rattle.ddt_path.specs.declared.form.Form.TheVariants.{Range, Block}
use Rattle.ddt_path.specs.declared.xeid.Xeid.{Xeid}
use Rattle.ddt_path.specs.Path.{address_width, xeid_path}
use Rattle.ddt_path.specs.FormOf.{form_of}
use Rattle.ddt_wire.specs.Address.{family_and_address}
use Rattle.ddt_wire.specs.Eid.{written_form, written_eid, instance_lcaf}
use Rattle.ddt_ecm.specs.MapRequest.{map_request_head, written_map_request}

pub appended : {E : Type 0} (r : Result (Unit {0}) E) (old new x y : List ℕ) → new ≡ cond (is_ok r) (old ++ x) old → x ≡ y → OnOk r (new ≡ old ++ y)
appended (Ok _) old new x y p q = p ∙ ap (λ (t : List ℕ). old ++ t) q
appended (Err _) old new x y p q = tt

pub two_appends : {E : Type 0} (r : Result (Unit {0}) E) (old mid new x y : List ℕ) → mid ≡ old ++ x → OnOk r (new ≡ mid ++ y) → OnOk r (new ≡ old ++ (x ++ y))
two_appends (Ok _) old mid new x y p q = q ∙ ap (λ (t : List ℕ). t ++ y) p ∙ append_assoc old x y
two_appends (Err _) old mid new x y p q = tt

address_small : (a : Locator) → length (family_and_address a) ≤ 18
address_small (V4 x) = omega arith
address_small (V6 x) = omega arith

rlocs_small : (ls : List Locator) → length (flat_map family_and_address ls) ≤ 18 * length ls
rlocs_small [] = omega arith
rlocs_small (l ∷ ls) =
    let e = ap length (flat_map-cons family_and_address l ls) in
    let n = length-append (family_and_address l) (flat_map family_and_address ls) in
    let a = address_small l in
    let b = rlocs_small ls in
    omega arith

either_small : (b : Bool) (xs ys : List ℕ) → length xs ≤ 30 → length ys ≤ 30 → length (cond b xs ys) ≤ 30
either_small true xs ys p q = p
either_small false xs ys p q = q

form_small : (form : Form) → length (written_form form) ≤ 30
form_small (Range iid len) = omega arith
form_small (Block iid a len) =
    let s = address_small a in
    either_small (eqb iid 0) (family_and_address a) (instance_lcaf 0 0 0 iid (family_and_address a)) (omega arith) (omega arith)

pub request_small : (n : ℕ) (x : Xeid) (rlocs : List Locator) → length rlocs ≤ 32 → length (written_map_request n x rlocs) ≤ 1000
request_small n x rlocs few =
    let a = rlocs_small rlocs in
    let b = form_small (form_of (xeid_path x)) in
    let head = map_request_head n rlocs in
    let one = length-append head (flat_map family_and_address rlocs) in
    let two = length-append (head ++ flat_map family_and_address rlocs) (0 ∷ address_width x.address ∷ []) in
    let three = length-append (head ++ flat_map family_and_address rlocs ++ (0 ∷ address_width x.address ∷ [])) (written_eid (xeid_path x)) in
    omega arith
