-- What the clauses of the private readers cite.
use Rattle.std.specs.Prelude.{◌≡◌, ◌≢◌, ◌⊎◌, ℕ, Bool, List, Result, Ok, Err}
use Rattle.std.specs.List.{list_all}
use Rattle.ddt_path.specs.Covers.{overlaps, is_same_path}
use Rattle.ddt_config.specs.declared.neighbours.Clash.{Clash}
use Rattle.ddt_config.specs.declared.neighbours.Clash.TheVariants.{Same, Overlap}
use Rattle.ddt_config.specs.declared.fault.ConfigFault.{ConfigFault}
use Rattle.ddt_config.specs.declared.fault.ConfigFault.TheVariants.{Toml, Memory}
use Rattle.ddt_config.specs.declared.authority.Content.{Content}
use Rattle.ddt_config.specs.declared.authority.Content.TheVariants.{Children, Sites}
use Rattle.ddt_config.specs.declared.authority.Authority.{Authority}
use Rattle.ddt_config.specs.declared.authority.ContentDraft.{ContentDraft}
use Rattle.ddt_config.specs.declared.authority.ContentDraft.TheVariants as draft
use Rattle.ddt_config.specs.Shaped.{fits}

-- the value was read, or the fault that was wanted, or memory was refused
abbrev pub Reads : {A : Type 0} → Result A ConfigFault → Result A ConfigFault → Type 0
Reads wanted (Ok a) = wanted ≡ Ok a
Reads wanted (Err fault) = fault ≢ Memory → wanted ≡ Err fault

-- a refusal of memory is reported as Memory, and nothing else is
abbrev pub IsReportedAs : Type 0 → ConfigFault → Type 0
IsReportedAs memory fault = ((fault ≡ Memory) × memory) ⊎ ((fault ≡ Toml) × (memory → ⊥))

-- no list of locators has more than 8
abbrev pub content_fits : Content → Bool
content_fits (Children cs) = list_all (λ c. fits c.locators) cs
content_fits (Sites ss) = list_all (λ s. fits s.etrs) ss

-- No child of the authority has more than 8 locators, or no site of it more than 8 ETRs.
abbrev pub authority_fits : Authority → Bool
authority_fits a = content_fits a.content

-- whether two prefixes clash so
abbrev pub clashes : Clash → List ℕ → List ℕ → Bool
clashes Same = is_same_path
clashes Overlap = overlaps

-- what the draft of an authority holds: the same children, or the same sites
abbrev pub content_of : ContentDraft → Content
content_of (draft.Children cs) = Children cs
content_of (draft.Sites ss) = Sites ss
