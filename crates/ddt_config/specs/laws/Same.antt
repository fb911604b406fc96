-- A text stands for one configuration at most; children and outlines by their parts.
use Rattle.std.proofs.Common.{◌≡◌, ◌≢◌, ◌⊎◌, ℕ, true, List, Some, Result, Ok, Err, refl, sym, ap, ◌∙◌, subst, inl, inr, rules}
use Rattle.std.proofs.Math.Bool.{Bool-set}
use Rattle.std.specs.Result.{IfOk, IfErr}
use Rattle.toml.specs.Data.{Members}
use Rattle.toml.specs.Parse.{parse_document}
use Rattle.ddt_config.specs.declared.fault.ConfigFault.{ConfigFault}
use Rattle.ddt_config.specs.declared.fault.ConfigFault.TheVariants.{Memory}
use Rattle.ddt_config.specs.declared.child.Child.{Child}
use Rattle.ddt_config.specs.declared.config.ServerConfig.{ServerConfig}
use Rattle.ddt_config.specs.Shaped.{is_shaped}
use Rattle.ddt_config.specs.Table.{Outline, outline, config_in, config_in_document, StandsFor}

abbrev made : (o : Outline) → is_shaped o.role o.locators o.authorities ≡ true → ServerConfig
made o s = record { name = o.name; role = o.role; locators = o.locators; authorities = o.authorities; shaped = s }

made-same : (o p : Outline) → o ≡ p → (s : is_shaped o.role o.locators o.authorities ≡ true) (t : is_shaped p.role p.locators p.authorities ≡ true) → made o s ≡ made p t
made-same o p e s t = subst (λ (q : Outline). (u : is_shaped q.role q.locators q.authorities ≡ true) → made o s ≡ made q u) e (λ u. ap (made o) (Bool-set (is_shaped o.role o.locators o.authorities) true s u)) t

same_config : (c d : ServerConfig) → outline c ≡ outline d → c ≡ d
same_config c d e = made-same (outline c) (outline d) e c.shaped d.shaped

among : (ms : Members) (r : Result ServerConfig ConfigFault) → IfOk r (λ c. config_in ms ≡ Ok (outline c)) → IfErr r (λ fault. fault ≢ Memory → config_in ms ≡ Err fault)
    → (c : ServerConfig) → config_in ms ≡ Ok (outline c) → (r ≡ Ok c) ⊎ (r ≡ Err Memory)
among ms (Ok d) found refused c stands = let same : outline d ≡ outline c = cc in inl (ap Ok (same_config d c same))
among ms (Err Memory) found refused c stands = inr refl
among ms (Err other) found refused c stands = let fault : config_in ms ≡ Err other = refused (search rules) in absurd cc

pub determined : (text : List ℕ) (ms : Members) → parse_document text ≡ Some ms → (r : Result ServerConfig ConfigFault)
    → IfOk r (λ c. config_in ms ≡ Ok (outline c)) → IfErr r (λ fault. fault ≢ Memory → config_in ms ≡ Err fault)
    → (c : ServerConfig) → StandsFor text c → (r ≡ Ok c) ⊎ (r ≡ Err Memory)
determined text ms e r found refused c stands = among ms r found refused c (sym (ap config_in_document e) ∙ stands)

-- children, and outlines, of the same parts are one
pub same_child : (a b : Child) → a.prefix ≡ b.prefix → a.role ≡ b.role → a.locators ≡ b.locators → a ≡ b
same_child a b p r l = λ i. record { prefix = p i; role = r i; locators = l i }

pub same_outline : (a b : Outline) → a.name ≡ b.name → a.role ≡ b.role → a.locators ≡ b.locators → a.authorities ≡ b.authorities → a ≡ b
same_outline a b n k l z = λ i. record { name = n i; role = k i; locators = l i; authorities = z i }
