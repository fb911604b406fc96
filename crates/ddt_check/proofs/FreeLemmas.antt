-- The numbers of each answer are such as a message holds.
use Rattle.std.proofs.Common.{◌≡◌, ℕ, ◌≤◌, true, List, [], length, refl, arith}
use Rattle.ddt_path.specs.declared.locator.Locator.{Locator}
use Rattle.ddt_path.specs.declared.record.ReferralRecord.{ReferralRecord}
use Rattle.ddt_path.specs.Records.{record_of}
use Rattle.ddt_path.specs.Path.{is_path}
use Rattle.ddt_path.specs.laws.PathTest.{prefix_that_covers}
use Rattle.ddt_path.specs.laws.Member.{holds_at, found_in}
use Rattle.ddt_register.specs.declared.group.Group.{Group}
use Rattle.ddt_register.specs.declared.register.Register.{Register}
use Rattle.ddt_register.specs.Ranges.{is_group_in_range, are_locators}
use Rattle.ddt_register.specs.laws.Range.{groups_in_range}
use Rattle.ddt_register.specs.laws.Range as range
use Rattle.ddt_path.specs.Names.{is_same_name}
use Rattle.ddt_check.specs.Zones.{group_named, locators_of}
use Rattle.ddt_check.specs.Assignment.{assignment}
use Rattle.ddt_check.specs.Says.{says}
use Rattle.ddt_check.specs.Rules.{IsAccepted}
use Rattle.ddt_check.specs.laws.Statements.{IsSendable}
use Rattle.ddt_check.specs.laws.Kept.{few_locators}
use Rattle.ddt_check.proofs.CaseLemmas.{option_cases, assigned_cases, said_cases}
use Rattle.ddt_check.proofs.SaysLemmas.{says_what_covers}

module _ (r : Register) (accepted : IsAccepted r) where
  locators_fit : (name : List ℕ) → are_locators (locators_of r name) ≡ true
  locators_fit name = option_cases (λ ls. are_locators ls ≡ true) (λ (g : Group). g.locators) [] (group_named r name)
      (λ _. refl) (λ g e. range.group_locators g (holds_at is_group_in_range r.groups g (groups_in_range r)
      (found_in (λ (h : Group). is_same_name h.name name) r.groups g e)))

  -- the numbers of a record, its prefix apart
  abbrev Fits : ReferralRecord → Type 0
  Fits v = (v.ttl ≤ 1440) × (length v.servers ≤ 8) × (are_locators v.servers ≡ true)

  outcome_fits : (x : List ℕ) → Fits (record_of (assignment r x))
  outcome_fits x = assigned_cases r x (λ o. Fits (record_of o)) (λ z role here kind. (omega arith, omega arith, refl))
      (λ z s here kind at silent. (omega arith, few_locators r accepted z.group, locators_fit z.group))
      (λ z s here kind at. (omega arith, few_locators r accepted z.group, locators_fit z.group)) accepted

  pub sendable : (l : Locator) (x : List ℕ) → is_path x ≡ true → IsSendable (says r l x)
  sendable l x e =
      let fits = said_cases r x Fits (outcome_fits x) l (omega arith, omega arith, refl)
      (λ w k c. (omega arith, few_locators r accepted w.group, locators_fit w.group)) in
      record {
        is_prefix = prefix_that_covers (says r l x).prefix x e (says_what_covers r accepted x l);
        ttl_fits = fits.0;
        few_servers = fits.1;
        servers_fit = fits.2;
      }
