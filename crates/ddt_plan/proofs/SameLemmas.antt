-- Two outcomes that pass for exactly the same are one.
use Rattle.std.proofs.Common.{◌≡◌, ℕ, true, List, [], ◌∷◌, refl, ap, subst, ◌∙◌}
use Rattle.std.specs.Prelude.{◌↔◌, IsTrue}
use Rattle.std.proofs.lemmas.Bool.{and_parts, and_from, false≢true}
use Rattle.ddt_path.specs.declared.locator.Locator.{Locator}
use Rattle.ddt_path.specs.declared.record.Role.{Role}
use Rattle.ddt_path.specs.declared.record.Role.TheVariants.{Node, Ms}
use Rattle.ddt_path.specs.declared.record.Outcome.{Outcome}
use Rattle.ddt_path.specs.declared.record.Outcome.TheVariants.{Registered, NotRegistered, Hole}
use Rattle.ddt_path.specs.Covers.{is_same_path}
use Rattle.ddt_path.specs.Locators.{is_same_locator}
use Rattle.ddt_path.specs.Records.{record_of}
use Rattle.ddt_path.specs.laws.Cover.{same_path, path_itself}
use Rattle.ddt_path.specs.laws.Locator.{same_locator, is_same_locator_self}
use Rattle.ddt_check.specs.Zones.{is_same_role}
use Rattle.ddt_plan.specs.declared.sides.Delegation.{Delegation}
use Rattle.ddt_plan.specs.declared.outcomes.Reading.{Reading}
use Rattle.ddt_plan.specs.declared.outcomes.Reading.TheVariants.{Exact, Service}
use Rattle.ddt_plan.specs.Changes.{are_same_servers, is_same_service, is_same_outcome}

pub same_servers : (s t : List Locator) → are_same_servers s t ≡ true → s ≡ t
same_servers [] [] e = refl
same_servers [] (l ∷ t) e = absurd (false≢true e)
same_servers (k ∷ s) [] e = absurd (false≢true e)
same_servers (k ∷ s) (l ∷ t) e =
    let p = and_parts (is_same_locator k l) (are_same_servers s t) e in
    ap (λ (m : Locator). m ∷ s) (same_locator k l p.0) ∙ ap (λ (u : List Locator). l ∷ u) (same_servers s t p.1)

pub servers_themselves : (s : List Locator) → are_same_servers s s ≡ true
servers_themselves [] = refl
servers_themselves (k ∷ s) = and_from (is_same_locator k k) (are_same_servers s s) (is_same_locator_self k) (servers_themselves s)

same_outcome : (o p : Outcome) → is_same_service o p ≡ true → (record_of o).prefix ≡ (record_of p).prefix → o ≡ p
same_outcome (Registered p s) (Registered q t) e f = ap (λ (l : List ℕ). Registered l s) f ∙ ap (Registered q) (same_servers s t e)
same_outcome (NotRegistered p s) (NotRegistered q t) e f = ap (λ (l : List ℕ). NotRegistered l s) f ∙ ap (NotRegistered q) (same_servers s t e)
same_outcome (Hole p) (Hole q) e f = ap (λ (l : List ℕ). Hole l) f
same_outcome (Registered p s) (NotRegistered q t) e f = absurd (false≢true e)
same_outcome (Registered p s) (Hole q) e f = absurd (false≢true e)
same_outcome (NotRegistered p s) (Registered q t) e f = absurd (false≢true e)
same_outcome (NotRegistered p s) (Hole q) e f = absurd (false≢true e)
same_outcome (Hole p) (Registered q t) e f = absurd (false≢true e)
same_outcome (Hole p) (NotRegistered q t) e f = absurd (false≢true e)

outcome_itself : (o : Outcome) → is_same_service o o ≡ true
outcome_itself (Registered p s) = servers_themselves s
outcome_itself (NotRegistered p s) = servers_themselves s
outcome_itself (Hole p) = refl

exactly : (o p : Outcome) → is_same_outcome Exact o p ≡ true → o ≡ p
exactly o p e =
    let s = and_parts (is_same_service o p) (is_same_path (record_of o).prefix (record_of p).prefix) e in
    same_outcome o p s.0 (same_path (record_of o).prefix (record_of p).prefix s.1)

itself : (o p : Outcome) → o ≡ p → is_same_outcome Exact o p ≡ true
itself o p e = subst (λ (w : Outcome). is_same_outcome Exact o w ≡ true) e
    (and_from (is_same_service o o) (is_same_path (record_of o).prefix (record_of o).prefix) (outcome_itself o) (path_itself (record_of o).prefix (record_of o).prefix refl))

pub exact_is_equal : (o p : Outcome) → IsTrue (is_same_outcome Exact o p) ↔ (o ≡ p)
exact_is_equal o p = (exactly o p, itself o p)

-- one value is one outcome by either reading
pub same_outcome_itself : (reading : Reading) (o p : Outcome) → o ≡ p → is_same_outcome reading o p ≡ true
same_outcome_itself Exact o p e = itself o p e
same_outcome_itself Service o p e = subst (λ (w : Outcome). is_same_service o w ≡ true) e (outcome_itself o)

-- ---- zones

same_role : (a b : Role) → is_same_role a b ≡ true → a ≡ b
same_role Node Node e = refl
same_role Ms Ms e = refl
same_role Node Ms e = absurd (false≢true e)
same_role Ms Node e = absurd (false≢true e)

role_itself : (a : Role) → is_same_role a a ≡ true
role_itself Node = refl
role_itself Ms = refl

-- two zones whose prefixes, kinds and servers pass for the same are one
pub same_delegation : (a b : Delegation) → is_same_path a.prefix b.prefix ≡ true → is_same_role a.role b.role ≡ true → are_same_servers a.servers b.servers ≡ true → a ≡ b
same_delegation a b e f g =
    let made : List ℕ → Role → List Locator → Delegation = λ p role servers. record { prefix = p; role = role; servers = servers } in
    ap (λ (p : List ℕ). made p a.role a.servers) (same_path a.prefix b.prefix e)
    ∙ ap (λ (role : Role). made b.prefix role a.servers) (same_role a.role b.role f)
    ∙ ap (made b.prefix b.role) (same_servers a.servers b.servers g)

pub delegation_itself : (a b : Delegation) → a ≡ b
    → (is_same_path a.prefix b.prefix ≡ true) × (is_same_role a.role b.role ≡ true) × (are_same_servers a.servers b.servers ≡ true)
delegation_itself a b e = (
  path_itself a.prefix b.prefix (ap (λ (z : Delegation). z.prefix) e),
  subst (λ (z : Delegation). is_same_role a.role z.role ≡ true) e (role_itself a.role),
  subst (λ (z : Delegation). are_same_servers a.servers z.servers ≡ true) e (servers_themselves a.servers),
)
